use Rattle.std.proofs.Common.{length}
use Rattle.gv_commands.proofs.commands.+links.Given as goal

abbrev pub decreases-links : goal.decreases-links
decreases-links l = length l.tokens.now.rest.now
