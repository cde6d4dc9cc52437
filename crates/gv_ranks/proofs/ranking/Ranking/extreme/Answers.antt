use Rattle.std.proofs.Common.{Some, sym, ap, ◌∙◌}
use Rattle.gv_ranks.specs.Sorted.{extreme}
use Rattle.gv_ranks.proofs.Extremes.{extreme_before, extreme_before-last, extreme_before-none}
use Rattle.gv_ranks.proofs.ranking.Ranking.extreme.Goals as goal

pub loop-first-init : goal.loop-first-init
loop-first-init c = extreme_before-none c.args.greatest c.self.inside.ranked.items ∙ ap (extreme c.args.greatest) c.self.view_is

pub loop-first-preserved : goal.loop-first-preserved
loop-first-preserved c =
    let greatest = c.args.greatest in
    let rest = c.pop.new.self.items in
    ap (λ it. extreme_before greatest rest (Some it)) c.of_two.ensures
    ∙ sym (extreme_before-last greatest rest c.in-Some.first c.loop-first.best)
    ∙ ap (λ rs. extreme_before greatest rs c.loop-first.best) (sym c.in-Some.ensures.items)
    ∙ c.loop-first.invariant
