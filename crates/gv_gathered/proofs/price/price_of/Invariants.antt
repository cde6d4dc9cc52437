use Rattle.std.proofs.Common.{◌≡◌, ℕ, ◌+◌, length, drop}
use Rattle.gv_gathered.specs.Making.{IsPrice, lists_price, groups_price}
use Rattle.gv_gathered.proofs.price.price_of.Given as goal

-- what is counted and what is left
abbrev pub invariant-loop-place : goal.invariant-loop-place
invariant-loop-place l = (counted : ℕ) × IsPrice l.price counted × (counted + (lists_price (drop l.place l.groups.entries) + length (drop l.place l.groups.entries)) ≡ groups_price l.groups.entries)
