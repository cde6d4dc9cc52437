use Rattle.std.proofs.Common.{subst}
use Rattle.std.proofs.lemmas.Result.{IfOk-weaker}
use Rattle.gv_run.specs.States.{IsPlaced}
use Rattle.gv_run.proofs.Picks.{no_place, a_place}
use Rattle.gv_run.proofs.state.Control.declare_shared.Goals as goal

pub returns-in-Some-2 : goal.returns-in-Some-2
returns-in-Some-2 c =
    let p = subst (λ o. IsPlaced c.in-Some.v c.args.self.now o c.place_for.new.self) c.in-Some-2.is (c.in_ok-place.ensures) in
    IfOk-weaker c.share.result _ _ (a_place c.args.code.now c.args.slot c.in-Some-2.place c.args.now c.args.self.now c.place_for.new.self c.in-Some.v _ (c.in-Some.ensures) p.0 p.1 p.2) c.share.ensures

pub returns-in-None : goal.returns-in-None
returns-in-None c =
    let p = subst (λ o. IsPlaced c.in-Some.v c.args.self.now o c.place_for.new.self) c.in-None.is (c.in_ok-place.ensures) in
    no_place c.args.code.now c.args.slot c.args.now c.args.self.now c.place_for.new.self c.in-Some.v _ (c.in-Some.ensures) p.0 p.1
