use Rattle.std.proofs.Common.{◌≡◌, true, drop}
use Rattle.gv_print.specs.Texts as texts
use Rattle.gv_print.proofs.words.put_idents.Given as goal

abbrev pub invariant-loop-ident : goal.invariant-loop-ident
invariant-loop-ident l = texts.parted l.between (texts.ident_printed l.names) l.is_first (drop l.ident-index l.idents) l.out ≡ texts.parted l.between (texts.ident_printed l.names) true l.idents l.fn.out
