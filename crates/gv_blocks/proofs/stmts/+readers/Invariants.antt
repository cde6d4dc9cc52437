use Rattle.std.proofs.Common.{◌-◌, length}
use Rattle.gv_blocks.proofs.stmts.+readers.Given as goal

abbrev pub decreases-top : goal.decreases-top
decreases-top l = length l.cursor.now.rest.now

abbrev pub decreases-body : goal.decreases-body
decreases-body l = length l.tokens.now - l.from
