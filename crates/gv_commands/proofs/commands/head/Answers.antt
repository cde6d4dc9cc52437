use Rattle.std.proofs.Common.{refl}
use Rattle.gv_commands.proofs.Heading as heading
use Rattle.gv_commands.proofs.commands.head.Goals as goal

pub returns-else-is_head_of_command : goal.returns-else-is_head_of_command
returns-else-is_head_of_command c = (refl, heading.no_command c.args.all (c.in-Ok.ensures) (c.if-is_head_of_command.ensures))

pub returns-in-Err-Refused : goal.returns-in-Err-Refused
returns-in-Err-Refused c = (refl, heading.no_command_path c.args.all (rw c.in-Err-Refused.field-0-is at (c.in-Err-Refused.ensures)))
