use Rattle.std.proofs.Common.{◌<◌, ◌∙◌, sym, ap, subst, List, length, add-one, arith}
use Rattle.std.specs.List.{All}
use Rattle.gv_circles.specs.Jumps.{doubled}
use Rattle.gv_circles.specs.declared.jumps.Jump.{Jump}
use Rattle.gv_circles.proofs.Doubling.{jumps-within, jumps-doubled, length-jumps}
use Rattle.gv_circles.proofs.jumps.longest.Goals as goal

pub doubled-requires : goal.doubled-requires
doubled-requires c =
    let built_in = c.steps.ensures.built_in in
    subst (λ (all : List Jump). All (λ j. j.far < length all) all) (sym (c.deref.ensures.value ∙ c.loop-doubling.invariant)) (jumps-within c.args.classes.now (omega arith) c.loop-doubling.doubling)

pub loop-doubling-preserved : goal.loop-doubling-preserved
loop-doubling-preserved c =
    let built_in = c.steps.ensures.built_in in
    rw add-one (c.in_ok-jumps-2.ensures ∙ ap doubled (c.deref.ensures.value ∙ c.loop-doubling.invariant) ∙ jumps-doubled c.args.classes.now (omega arith) c.loop-doubling.doubling)

pub returns-clause-all : goal.returns-clause-all
returns-clause-all c = ap length c.loop-doubling.invariant ∙ length-jumps c.args.classes.now c.loop-doubling.doubling
