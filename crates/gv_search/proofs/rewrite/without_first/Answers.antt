use Rattle.std.proofs.Common.{◌≡◌, List, ℕ, IfOk, string_bytes, sym, ◌∙◌, subst}
use Rattle.gv_search.proofs.Rewriting.{without_empty}
use Rattle.gv_search.proofs.rewrite.without_first.Goals as goal

pub returns-then-is_empty : goal.returns-then-is_empty
returns-then-is_empty c =
    let is = without_empty c.args.text.now c.args.part.now (sym c.is_empty.ensures ∙ c.if-is_empty.true) c.utf8.text in
    subst (λ (bs : List ℕ). IfOk c.from_str.result (λ new. string_bytes new ≡ bs)) (sym is) c.from_str.ensures.ok
