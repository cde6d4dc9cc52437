use Rattle.std.proofs.Common.{◌||◌, arith, sym, ◌∙◌, ap}
use Rattle.std.specs.Prelude.{slice_get}
use Rattle.gv_classes.specs.declared.ids.TheConstants.{OBJECT}
use Rattle.gv_classes.specs.Classes.{has_method}
use Rattle.gv_classes.proofs.Chains.{any_up-stuck}
use Rattle.gv_classes.proofs.classes.Classes.declares.Goals as goal

pub returns-then-has_method : goal.returns-then-has_method
returns-then-has_method c =
    c.if-has_method.true
    ∙ sym (any_up-stuck c.args.self.now (λ k. has_method c.args.name (slice_get c.args.self.now k)) c.args.class (omega arith) (sym c.comes_up.ensures ∙ c.if-comes_up.false)
    ∙ ap (λ b. b || has_method c.args.name (slice_get c.args.self.now OBJECT)) (sym c.has_method.ensures ∙ c.if-has_method.true))

pub returns-else-has_method : goal.returns-else-has_method
returns-else-has_method c =
    c.has_method-else-has_method.ensures
    ∙ sym (any_up-stuck c.args.self.now (λ k. has_method c.args.name (slice_get c.args.self.now k)) c.args.class (omega arith) (sym c.comes_up.ensures ∙ c.if-comes_up.false)
    ∙ ap (λ b. b || has_method c.args.name (slice_get c.args.self.now OBJECT)) (sym c.has_method.ensures ∙ c.if-has_method.false))
