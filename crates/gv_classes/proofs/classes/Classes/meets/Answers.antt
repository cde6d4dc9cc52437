use Rattle.std.proofs.Common.{arith, sym, ◌∙◌}
use Rattle.std.specs.Prelude.{◌==◌}
use Rattle.std.proofs.lemmas.Bool.{ne_eqb}
use Rattle.std.proofs.lemmas.Bool.Decides.{Decides-eqb}
use Rattle.gv_classes.proofs.Chains.{any_up-here, any_up-top, any_up-next, any_up-end, comes_up-next}
use Rattle.gv_classes.proofs.classes.Classes.meets.Goals as goal

pub returns-then-class-other : goal.returns-then-class-other
returns-then-class-other c =
    sym (any_up-here c.args.self.now (λ k. k == c.args.other) _ c.loop-step.class ((Decides-eqb c.loop-step.class c.args.other).1 c.if-class-other.true)) ∙ c.loop-step.invariant.left

pub returns-then-class-eq-OBJECT : goal.returns-then-class-eq-OBJECT
returns-then-class-eq-OBJECT c =
    sym (any_up-top c.args.self.now (λ k. k == c.args.other) _ c.loop-step.class c.if-class-eq-OBJECT.true (ne_eqb c.loop-step.class c.args.other c.if-class-other.false)) ∙ c.loop-step.invariant.left

pub loop-step-preserved : goal.loop-step-preserved
loop-step-preserved c = record {
  within = c.up-class.ensures.within;
  comes = comes_up-next c.args.self.now c.loop-step.step c.loop-step.class c.up-class.result (omega arith) c.if-class-eq-OBJECT.false c.up-class.ensures.up ∙ c.loop-step.invariant.comes;
  left =
      any_up-next c.args.self.now (λ k. k == c.args.other) c.loop-step.step c.loop-step.class c.up-class.result (omega arith) c.if-class-eq-OBJECT.false c.up-class.ensures.up
      c.loop-step.invariant.comes (ne_eqb c.loop-step.class c.args.other c.if-class-other.false)
      ∙ c.loop-step.invariant.left;
}

pub returns : goal.returns
returns c = sym (any_up-end c.args.self.now (λ k. k == c.args.other) c.loop-step.step c.loop-step.class (omega arith)) ∙ c.loop-step.invariant.left
