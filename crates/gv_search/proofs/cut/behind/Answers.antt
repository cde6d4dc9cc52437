use Rattle.std.proofs.Common.{◌∙◌, ap}
use Rattle.std.specs.Str.{chars}
use Rattle.gv_search.proofs.Bytes.{behind_part}
use Rattle.gv_search.proofs.cut.behind.Goals as goal

pub split_at-requires : goal.split_at-requires
split_at-requires c = (behind_part c.args.text.now c.args.part.now c.utf8.text c.utf8.part c.requires).0

pub returns : goal.returns
returns c = record {
  rest = ap chars c.split_at.ensures.back ∙ (behind_part c.args.text.now c.args.part.now c.utf8.text c.utf8.part c.requires).1;
  shorter = c.split_at.ensures.back_len;
}
