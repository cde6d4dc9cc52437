use Rattle.std.proofs.Common.{◌≡◌, true, codes, drop}
use Rattle.gv_print.specs.Texts as texts
use Rattle.gv_print.proofs.words.put_types.Given as goal

abbrev pub invariant-loop-class : goal.invariant-loop-class
invariant-loop-class l = texts.parted (codes " | ") (texts.type_printed l.names) l.is_first (drop l.class-index l.classes) l.out ≡ texts.parted (codes " | ") (texts.type_printed l.names) true l.classes l.fn.out
