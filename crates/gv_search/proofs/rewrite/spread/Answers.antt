use Rattle.std.proofs.Common.{sym, ◌∙◌, ap, subst, ◌++◌, IsUtf8}
use Rattle.std.specs.Str.Iter.{chars_rest}
use Rattle.std.proofs.lemmas.Str.{IsUtf8-past_char}
use Rattle.gv_search.specs.Texts as spec
use Rattle.gv_search.proofs.Rewriting.{wrote_two, wrote_last, spread_one, spread_end}
use Rattle.gv_search.proofs.rewrite.spread.Goals as goal

pub loop-c-init : goal.loop-c-init
loop-c-init c =
    let is = ap chars_rest c.into_iter-c-iterator.ensures.into_iter_gives ∙ c.chars-c-items.ensures.rest in
    (subst IsUtf8 (sym is) c.utf8.text, ap (λ l. l ++ spec.spread (chars_rest c.into_iter-c-iterator.result) c.args.with.now) c.new-new.ensures.bytes ∙ ap (λ l. spec.spread l c.args.with.now) is)

pub loop-c-preserved : goal.loop-c-preserved
loop-c-preserved c =
    let step = rw c.in-Some.is at c.next.ensures.steps in
    let rest = chars_rest c.loop-c.c-iterator in
    let next = chars_rest c.next.new.self in (
      IsUtf8-past_char rest next c.in-Some.c c.loop-c.invariant.0 step.0,
      wrote_two _ _ _ c.args.with.now _ _ _ _ c.in_ok-push_str.ensures.bytes c.in_ok-push.ensures.bytes
          (spread_one rest next c.args.with.now c.in-Some.c c.loop-c.invariant.0 c.utf8.with step.0) c.loop-c.invariant.1,
    )

pub returns : goal.returns
returns c =
    let step = rw c.in-None.is at c.next.ensures.steps in
    wrote_last _ _ c.args.with.now _ _ c.in_ok-push_str-2.ensures.bytes (spread_end (chars_rest c.loop-c.c-iterator) c.args.with.now step.0.0 c.utf8.with) c.loop-c.invariant.1
