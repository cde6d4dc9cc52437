use Rattle.std.proofs.Common.{arith}
use Rattle.std.proofs.lemmas.Grind.{common_steps}
use Rattle.std.proofs.lemmas.Str.{lead_after_ascii}
use Rattle.gv_accessors.proofs.names.spell_accessor.Goals as goal

pub range_from-rest-requires : goal.range_from-rest-requires
range_from-rest-requires c = grind (arith, common_steps, lead_after_ascii c.args.property.now 0 c.utf8.property)
