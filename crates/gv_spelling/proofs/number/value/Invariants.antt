use Rattle.std.proofs.Common.{◌≡◌, ◌^◌, ◌≤◌, drop}
use Rattle.gv_spelling.specs.Table.{value}
use Rattle.gv_spelling.proofs.number.value.Given as goal

abbrev pub invariant-digits : goal.invariant-digits
invariant-digits l = (l.value ≤ 2 ^ 63) × (value l.radix l.value (drop l.c-index l.digits) ≡ value l.radix 0 l.digits)
