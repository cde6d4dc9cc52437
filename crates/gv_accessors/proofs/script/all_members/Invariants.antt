use Rattle.std.proofs.Common.{◌≡◌, drop}
use Rattle.gv_declare.specs.Members as spec
use Rattle.gv_accessors.proofs.script.all_members.Given as goal

abbrev pub invariant-loop-script : goal.invariant-loop-script
invariant-loop-script l =
    spec.each (λ s. spec.script_members l.known.declare l.known.words s.tops) (drop l.script-index l.scripts) l.members
    ≡ spec.all_members l.known.declare l.known.words l.scripts
