use Rattle.std.proofs.Common.{◌+◌, ◌*◌, length}
use Rattle.gv_commands.proofs.commands.+full.Given as goal

abbrev pub decreases-read_full : goal.decreases-read_full
decreases-read_full l = 2 * length l.tokens.now.rest.now + 1

abbrev pub decreases-full_cond : goal.decreases-full_cond
decreases-full_cond l = 2 * length l.tokens.now.rest.now
