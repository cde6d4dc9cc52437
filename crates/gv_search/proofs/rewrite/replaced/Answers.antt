use Rattle.std.proofs.Common.{◌≡◌, List, ℕ, IfOk, string_bytes, sym, ◌∙◌, subst}
use Rattle.gv_search.proofs.Rewriting.{replaced_empty}
use Rattle.gv_search.proofs.rewrite.replaced.Goals as goal

pub returns-then-is_empty : goal.returns-then-is_empty
returns-then-is_empty c =
    let is = replaced_empty c.args.text.now c.args.part.now (sym c.is_empty.ensures ∙ c.if-is_empty.true) c.args.with.now in
    subst (λ (bs : List ℕ). IfOk c.spread.result (λ new. string_bytes new ≡ bs)) (sym is) c.spread.ensures
