use Rattle.std.proofs.Common.{◌≡◌, ℕ, List, [], ◌∷◌, ◌++◌, append_assoc}
use Rattle.std.proofs.lemmas.List.{map-append}
use Rattle.gv_tree.specs.declared.expr.Arg.{Arg}
use Rattle.gv_tree.specs.declared.expr.Arg.TheVariants as arg
use Rattle.gv_tree.specs.declared.expr.Expr.{Expr}
use Rattle.gv_grammar.specs.Exprs.{AreClosures, plain}
use Rattle.gv_grammar.proofs.Lengths.{of_closure, less}
use Rattle.gv_grammar.proofs.Single.{along}
use Rattle.gv_grammar.proofs.Skipped.{closures_more, closures_end}
use Rattle.gv_cursor.proofs.braces.closures.Goals as goal

pub loop-closure-smaller : goal.loop-closure-smaller
loop-closure-smaller c = less (of_closure c.args.all c.in-Some.ensures)

one_more : (all : ℕ) (args : List Arg) {found more : List Arg} {x f : Expr} (gs : List Expr) → found ≡ args ++ plain all gs → x ≡ f → more ≡ found ++ (arg.Plain x ∷ []) → more ≡ args ++ plain all (gs ++ (f ∷ []))
one_more all args gs p q r = rw (r, p, q, append_assoc, map-append)

pub loop-closure-preserved : goal.loop-closure-preserved
loop-closure-preserved c =
    let i = c.loop-closure.invariant in
    record {
      gs = i.gs ++ (c.in-Some.closure ∷ []);
      told = one_more c.args.all c.args.args i.gs i.told c.in_ok-new.ensures c.in_ok-push.ensures.ok;
      sound = closures_more c.args.all i.gs i.sound c.in-Some.ensures;
    }

pub returns : goal.returns
returns c =
    let i = c.loop-closure.invariant in
    let d = c.in_default.ensures in
    (i.gs, along (λ zs. AreClosures c.args.all i.gs c.args.tokens.now.rest.now zs) d.0 (closures_end c.args.all i.gs i.sound d.1), i.told)
