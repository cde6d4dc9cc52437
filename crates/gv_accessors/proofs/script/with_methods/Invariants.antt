use Rattle.std.proofs.Common.{◌≡◌, ◌++◌, length, map, reverse}
use Rattle.gv_tree.specs.declared.top.Top.TheVariants as top
use Rattle.gv_accessors.proofs.script.with_methods.Given as goal

abbrev pub invariant-loop-method : goal.invariant-loop-method
invariant-loop-method l = l.made ++ map (λ m. top.Method m) (reverse l.left) ≡ l.fn.tops ++ map (λ m. top.Method m) l.fn.methods

abbrev pub decreases-loop-method : goal.decreases-loop-method
decreases-loop-method l = length l.left
