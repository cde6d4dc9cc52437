use Rattle.std.proofs.Common.{◌∙◌, ap}
use Rattle.std.specs.Str.{chars}
use Rattle.gv_chars.proofs.Texts.{rest_within, boundary_at_seam, chars_of_front}
use Rattle.gv_chars.proofs.places.front.Goals as goal

pub overflow_sub-text : goal.overflow_sub-text
overflow_sub-text c = rest_within c.args.text.now c.behind-rest.result.now c.args.count c.utf8.text c.behind-rest.utf8 c.behind-rest.ensures

pub split_at-requires : goal.split_at-requires
split_at-requires c = boundary_at_seam c.args.text.now c.behind-rest.result.now c.args.count c.utf8.text c.behind-rest.utf8 c.behind-rest.ensures

pub returns : goal.returns
returns c = ap chars c.split_at.ensures.front ∙ chars_of_front c.args.text.now c.behind-rest.result.now c.args.count c.utf8.text c.behind-rest.utf8 c.behind-rest.ensures
