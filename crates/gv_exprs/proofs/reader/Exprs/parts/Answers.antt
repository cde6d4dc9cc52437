use Rattle.gv_exprs.proofs.ResultsStrings.{no_piece_here, part_passed, all_parts, one_more_part}
use Rattle.gv_exprs.proofs.reader.Exprs.parts.Goals as goal

pub returns-in-Some : goal.returns-in-Some
returns-in-Some g c = all_parts c.args.self.now.all c.loop-parts.invariant c.in_ok-is_lazy.ensures c.kind.ensures c.in-Some.behind c.advance.ensures c.in_ok-value.ensures c.in_ok-push.ensures.ok c.in-Some.ensures

pub returns-in_default-middle_of : goal.returns-in_default-middle_of
returns-in_default-middle_of g c = no_piece_here c.args.self.now.all c.loop-parts.invariant c.in_ok-is_lazy.ensures c.kind.ensures c.in_default.ensures c.kind-in-loop-parts.ensures c.in_default-middle_of.ensures c.refuse.ensures.0

pub loop-parts-smaller : goal.loop-parts-smaller
loop-parts-smaller g c = part_passed c.args.self.now.all c.loop-parts.invariant c.in_ok-is_lazy.ensures c.advance-in-loop-parts.ensures

pub loop-parts-preserved : goal.loop-parts-preserved
loop-parts-preserved g c = one_more_part c.args.self.now.all c.loop-parts.invariant c.in_ok-is_lazy.ensures c.kind-in-loop-parts.ensures c.in-Some-middle_of.behind c.advance-in-loop-parts.ensures c.in_ok-value.ensures c.in_ok-push-2.ensures.ok c.in-Some-middle_of.ensures
