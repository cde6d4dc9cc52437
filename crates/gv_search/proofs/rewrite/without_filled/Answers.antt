use Rattle.std.proofs.Common.{◌≡◌, List, ℕ, IfOk, string_bytes, sym, subst}
use Rattle.gv_search.proofs.Rewriting.{without_found, without_none}
use Rattle.gv_search.proofs.rewrite.without_filled.Goals as goal

pub returns-in-Some : goal.returns-in-Some
returns-in-Some c =
    let cut = rw (c.in-Some.is, c.new.ensures, c.as_bytes.ensures.value) at c.cut_first-2.ensures in
    let is = without_found c.args.text.now c.args.part.now c.utf8.part c.requires c.in-Some.before.now c.in-Some.found.now c.behind.result.now c.behind.utf8 cut c.behind.ensures.rest in
    subst (λ (bs : List ℕ). IfOk c.joined.result (λ new. string_bytes new ≡ bs)) (sym is) c.joined.ensures

pub returns : goal.returns
returns c =
    let none = rw (c.in-None.is, c.new.ensures, c.as_bytes.ensures.value) at c.cut_first-2.ensures in
    let is = without_none c.args.text.now c.args.part.now c.utf8.part c.requires c.utf8.text none in
    subst (λ (bs : List ℕ). IfOk c.from_str.result (λ new. string_bytes new ≡ bs)) (sym is) c.from_str.ensures.ok
