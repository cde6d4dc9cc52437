use Rattle.std.proofs.Common.{◌≡◌, length}
use Rattle.std.specs.List.{list_all}
use Rattle.gv_spelling.specs.Table.{is_digit_or_bar}
use Rattle.gv_spelling.proofs.number.are_digits_or_bars.Given as goal

abbrev pub invariant-loop-text : goal.invariant-loop-text
invariant-loop-text l = list_all (is_digit_or_bar l.radix) l.text ≡ list_all (is_digit_or_bar l.radix) l.initial.text

abbrev pub decreases-loop-text : goal.decreases-loop-text
decreases-loop-text l = length l.text
