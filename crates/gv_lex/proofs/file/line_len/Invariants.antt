use Rattle.std.proofs.Common.{◌≡◌, ◌+◌, drop}
use Rattle.std.specs.List.{prefix_len}
use Rattle.gv_spelling.specs.Table.{is_in}
use Rattle.gv_spelling.specs.declared.classes.Class.TheVariants.{NotLine}
use Rattle.gv_lex.proofs.file.line_len.Given as goal

abbrev pub invariant-loop-index : goal.invariant-loop-index
invariant-loop-index l = prefix_len (is_in NotLine) l.text ≡ l.index + prefix_len (is_in NotLine) (drop l.index l.text)
