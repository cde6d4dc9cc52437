use Rattle.std.proofs.Common.{◌≡◌, ◌++◌, length, map, reverse}
use Rattle.gv_tree.specs.declared.top.Member.TheVariants as member
use Rattle.gv_accessors.proofs.class.with_methods.Given as goal

abbrev pub invariant-loop-method : goal.invariant-loop-method
invariant-loop-method l = l.made ++ map (λ m. member.Method m) (reverse l.left) ≡ l.fn.members ++ map (λ m. member.Method m) l.fn.methods

abbrev pub decreases-loop-method : goal.decreases-loop-method
decreases-loop-method l = length l.left
