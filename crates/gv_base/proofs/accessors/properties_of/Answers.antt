use Rattle.std.proofs.Common.{arith}
use Rattle.std.proofs.lemmas.Grind.{common_steps}
use Rattle.std.proofs.lemmas.Str.{lead_after_ascii}
use Rattle.gv_base.proofs.accessors.properties_of.Goals as goal

pub range_from-requires : goal.range_from-requires
range_from-requires c = grind (arith, common_steps, lead_after_ascii c.args.text.now 2 c.utf8.text)

pub range_from-requires-in-115 : goal.range_from-requires-in-115
range_from-requires-in-115 c = grind (arith, common_steps, lead_after_ascii c.args.text.now 2 c.utf8.text)
