use Rattle.std.proofs.Common.{arith, sym, ◌∙◌}
use Rattle.gv_classes.proofs.Chains.{comes_up-here, comes_up-next, comes_up-end}
use Rattle.gv_classes.proofs.classes.Classes.comes_up.Goals as goal

pub returns-then-class-eq-OBJECT : goal.returns-then-class-eq-OBJECT
returns-then-class-eq-OBJECT c = sym (comes_up-here c.args.self.now _ c.loop-step.class c.if-class-eq-OBJECT.true) ∙ c.loop-step.invariant.left

pub loop-step-preserved : goal.loop-step-preserved
loop-step-preserved c = record {
  within = c.up-class.ensures.within;
  left = comes_up-next c.args.self.now c.loop-step.step c.loop-step.class c.up-class.result (omega arith) c.if-class-eq-OBJECT.false c.up-class.ensures.up ∙ c.loop-step.invariant.left;
}

pub returns : goal.returns
returns c = sym (comes_up-end c.args.self.now c.loop-step.step c.loop-step.class (omega arith)) ∙ c.loop-step.invariant.left
