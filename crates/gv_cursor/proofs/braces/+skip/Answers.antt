use Rattle.gv_cursor.proofs.Skips.{ends, past_token, past_texts, past_pair, never_closes}
use Rattle.gv_cursor.proofs.braces.+skip.Goals as goal

pub returns-then-is_closing : goal.returns-then-is_closing
returns-then-is_closing t c = ends c.loop-kind.invariant c.kind-kind.ensures c.if-is_closing.ensures

pub loop-kind-smaller-then-is_head : goal.loop-kind-smaller-then-is_head
loop-kind-smaller-then-is_head t c = (past_texts c.loop-kind.invariant c.kind-kind.ensures c.if-is_closing.ensures c.advance.ensures c.if-is_head.ensures c.pass_texts.ensures).0

pub loop-kind-preserved-then-is_head : goal.loop-kind-preserved-then-is_head
loop-kind-preserved-then-is_head t c = (past_texts c.loop-kind.invariant c.kind-kind.ensures c.if-is_closing.ensures c.advance.ensures c.if-is_head.ensures c.pass_texts.ensures).1

pub returns-then-not-eat : goal.returns-then-not-eat
returns-then-not-eat t c = never_closes c.loop-kind.invariant c.kind-kind.ensures c.if-is_closing.ensures c.advance.ensures c.in-Some.ensures c.if-not-skip.ensures c.if-not-eat.ensures.1

pub loop-kind-smaller-else-not-eat : goal.loop-kind-smaller-else-not-eat
loop-kind-smaller-else-not-eat t c = (past_pair c.loop-kind.invariant c.kind-kind.ensures c.if-is_closing.ensures c.advance.ensures c.in-Some.ensures c.if-not-skip.ensures c.if-not-eat.ensures).0

pub loop-kind-preserved-else-not-eat : goal.loop-kind-preserved-else-not-eat
loop-kind-preserved-else-not-eat t c = (past_pair c.loop-kind.invariant c.kind-kind.ensures c.if-is_closing.ensures c.advance.ensures c.in-Some.ensures c.if-not-skip.ensures c.if-not-eat.ensures).1

pub loop-kind-preserved : goal.loop-kind-preserved
loop-kind-preserved t c = past_token c.loop-kind.invariant c.kind-kind.ensures c.if-is_closing.ensures c.advance.ensures c.in_default.ensures c.if-is_head.ensures
