use Rattle.std.proofs.Common.{◌≡◌, length}
use Rattle.std.specs.List.{list_any}
use Rattle.gv_classes.specs.Classes.{is_method_named}
use Rattle.gv_classes.proofs.declared.has_method.Given as goal

-- the members that are left decide
abbrev pub invariant-loop-members : goal.invariant-loop-members
invariant-loop-members l = list_any (is_method_named l.name) l.members ≡ list_any (is_method_named l.name) l.initial.members

abbrev pub decreases-loop-members : goal.decreases-loop-members
decreases-loop-members l = length l.members
