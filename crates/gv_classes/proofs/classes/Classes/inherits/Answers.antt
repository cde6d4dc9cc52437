use Rattle.std.proofs.Common.{arith, sym, ◌∙◌}
use Rattle.std.specs.Prelude.{slice_get}
use Rattle.gv_classes.specs.Classes.{has_method}
use Rattle.gv_classes.proofs.Chains.{any_up-here, any_up-top, any_up-next, any_up-end, comes_up-next}
use Rattle.gv_classes.proofs.classes.Classes.inherits.Goals as goal

pub returns-then-has_method : goal.returns-then-has_method
returns-then-has_method c =
    sym (any_up-here c.args.self.now (λ k. has_method c.args.name (slice_get c.args.self.now k)) _ c.loop-step.class (sym c.has_method.ensures ∙ c.if-has_method.true)) ∙ c.loop-step.invariant.left

pub returns-then-class-eq-OBJECT : goal.returns-then-class-eq-OBJECT
returns-then-class-eq-OBJECT c =
    sym (any_up-top c.args.self.now (λ k. has_method c.args.name (slice_get c.args.self.now k)) _ c.loop-step.class c.if-class-eq-OBJECT.true (sym c.has_method.ensures ∙ c.if-has_method.false)) ∙ c.loop-step.invariant.left

pub loop-step-preserved : goal.loop-step-preserved
loop-step-preserved c = record {
  within = c.up-class.ensures.within;
  comes = comes_up-next c.args.self.now c.loop-step.step c.loop-step.class c.up-class.result (omega arith) c.if-class-eq-OBJECT.false c.up-class.ensures.up ∙ c.loop-step.invariant.comes;
  left =
      any_up-next c.args.self.now (λ k. has_method c.args.name (slice_get c.args.self.now k)) c.loop-step.step c.loop-step.class c.up-class.result (omega arith) c.if-class-eq-OBJECT.false c.up-class.ensures.up
      c.loop-step.invariant.comes (sym c.has_method.ensures ∙ c.if-has_method.false)
      ∙ c.loop-step.invariant.left;
}

pub returns : goal.returns
returns c =
    c.has_method-2.ensures
    ∙ sym (any_up-end c.args.self.now (λ k. has_method c.args.name (slice_get c.args.self.now k)) c.loop-step.step c.loop-step.class (omega arith))
    ∙ c.loop-step.invariant.left
