use Rattle.std.proofs.Common.{◌≡◌}
use Rattle.gv_declare.specs.Members as spec
use Rattle.gv_declare.proofs.methods.versions.Given as goal

abbrev pub invariant-loop-optional : goal.invariant-loop-optional
invariant-loop-optional l =
    let version = spec.version l.known l.head.kind l.head.ident l.head.modifiers l.params in
    spec.versions version l.optional l.out ≡ spec.versions version (spec.defaults l.params) l.fn.out

abbrev pub decreases-loop-optional : goal.decreases-loop-optional
decreases-loop-optional l = l.optional
