use Rattle.std.proofs.Common.{◌||◌, arith, sym, ◌∙◌, ap}
use Rattle.std.specs.Prelude.{◌==◌}
use Rattle.std.proofs.lemmas.Bool.{ne_eqb}
use Rattle.std.proofs.lemmas.Bool.Decides.{Decides-eqb}
use Rattle.gv_classes.specs.declared.ids.TheConstants.{OBJECT}
use Rattle.gv_classes.proofs.Chains.{any_up-stuck}
use Rattle.gv_classes.proofs.classes.Classes.is_kind.Goals as goal

pub returns-then-a-b : goal.returns-then-a-b
returns-then-a-b c =
    let same = (Decides-eqb c.args.a c.args.b).1 c.if-a-b.true in
    sym (any_up-stuck c.args.self.now (λ k. k == c.args.b) c.args.a (omega arith) (sym c.comes_up.ensures ∙ c.if-comes_up.false) ∙ ap (λ b. b || (OBJECT == c.args.b)) same ∙ sym same)

pub returns-else-a-b : goal.returns-else-a-b
returns-else-a-b c =
    let differ = ne_eqb c.args.a c.args.b c.if-a-b.false in
    sym (any_up-stuck c.args.self.now (λ k. k == c.args.b) c.args.a (omega arith) (sym c.comes_up.ensures ∙ c.if-comes_up.false) ∙ ap (λ b. b || (OBJECT == c.args.b)) differ)
