use Rattle.std.proofs.Common.{◌≡◌, drop}
use Rattle.gv_circles.specs.Circles.{classes_refused, circles_refused}
use Rattle.gv_circles.proofs.circles.circles_refused.Given as goal

-- the classes that are left decide
abbrev pub invariant-loop-number : goal.invariant-loop-number
invariant-loop-number l = classes_refused l.classes l.file l.number (drop l.number l.classes) l.so_far ≡ circles_refused l.classes l.file l.fn.first
