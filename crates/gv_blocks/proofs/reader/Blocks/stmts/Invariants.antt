use Rattle.std.proofs.Common.{◌≤◌, length}
use Rattle.gv_blocks.proofs.Following.{Carries}
use Rattle.gv_blocks.proofs.reader.Blocks.stmts.Given as goal

abbrev pub invariant-loop : goal.invariant-loop
invariant-loop g l = record {
  carried : Carries l.self.values.tokens.now l.stmts l.fn.cursor.rest.now l.cursor.rest.now;
  shorter : length l.cursor.rest.now ≤ length l.initial.cursor.rest.now;
}

abbrev pub decreases-loop : goal.decreases-loop
decreases-loop g l = length l.cursor.rest.now

-- what completes from here completes from the start
abbrev pub invariant-loop-cursor : goal.invariant-loop-cursor
invariant-loop-cursor g l = Carries l.self.values.tokens.now l.stmts l.fn.cursor.rest.now l.cursor.rest.now

abbrev pub decreases-loop-cursor : goal.decreases-loop-cursor
decreases-loop-cursor g l = length l.cursor.rest.now
