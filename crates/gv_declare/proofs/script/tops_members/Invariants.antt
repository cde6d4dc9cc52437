use Rattle.std.proofs.Common.{◌≡◌, drop}
use Rattle.gv_declare.specs.Members as spec
use Rattle.gv_declare.proofs.script.tops_members.Given as goal

abbrev pub invariant-loop-top : goal.invariant-loop-top
invariant-loop-top l = spec.script_members l.known l.words (drop l.top-index l.tops) l.out ≡ spec.script_members l.known l.words l.tops l.fn.out
