use Rattle.std.proofs.Common.{ap, arith, ◌++◌}
use Rattle.gv_search.specs.Texts as spec
use Rattle.gv_search.proofs.Found.{shorter}
use Rattle.gv_search.proofs.Rewriting.{wrote_two, wrote_last, replaced_one, replaced_none}
use Rattle.gv_search.proofs.rewrite.replaced_filled.Goals as goal

pub loop-before-init : goal.loop-before-init
loop-before-init c = (c.utf8.text, ap (λ l. l ++ spec.replaced c.args.text.now c.args.part.now c.args.with.now) c.new-new.ensures.bytes)

pub loop-before-smaller : goal.loop-before-smaller
loop-before-smaller c =
    let cut = rw (c.in-Some.is, c.new-finder.ensures, c.as_bytes.ensures.value) at c.cut_first.ensures in
    let filled = c.requires in
    shorter c.loop-before.rest.now c.args.part.now c.utf8.part c.requires c.in-Some.before.now c.in-Some.found.now c.behind-rest.result.now cut.0
    (λ _. omega (arith, c.behind-rest.ensures.shorter))

pub loop-before-preserved : goal.loop-before-preserved
loop-before-preserved c =
    let cut = rw (c.in-Some.is, c.new-finder.ensures, c.as_bytes.ensures.value) at c.cut_first.ensures in (
      c.behind-rest.utf8,
      wrote_two _ _ _ c.in-Some.before.now c.args.with.now _ _ _ c.in_ok-push_str.ensures.bytes c.in_ok-push_str-2.ensures.bytes
          (replaced_one c.loop-before.rest.now c.args.part.now c.utf8.part c.requires c.in-Some.before.now c.in-Some.found.now c.behind-rest.result.now c.args.with.now c.utf8.with cut c.behind-rest.ensures.rest)
          c.loop-before.invariant.1,
    )

pub returns : goal.returns
returns c =
    let none = rw (c.in_default.is, c.new-finder.ensures, c.as_bytes.ensures.value) at c.cut_first.ensures in
    wrote_last _ _ c.loop-before.rest.now _ _ c.in_ok-push_str-3.ensures.bytes
    (replaced_none c.loop-before.rest.now c.args.part.now c.utf8.part c.requires c.args.with.now c.loop-before.invariant.0 none) c.loop-before.invariant.1
