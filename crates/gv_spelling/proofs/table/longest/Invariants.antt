use Rattle.std.proofs.Common.{◌≡◌, ℕ, ◌<◌, ◌≤◌, length, take, map, None}
use Rattle.gv_spelling.specs.Table.{lookup}
use Rattle.gv_spelling.proofs.table.longest.Given as goal

abbrev pub invariant-loop-len : goal.invariant-loop-len
invariant-loop-len g l = record {
  within : l.len ≤ length l.text;
  longest : (n : ℕ) → l.len < n → n ≤ length l.text → lookup (map (λ k. (k.0.now, k.1)) l.table) (take n l.text) ≡ None;
}

abbrev pub decreases-loop-len : goal.decreases-loop-len
decreases-loop-len g l = l.len
