use Rattle.std.proofs.Common.{string_bytes, map, ap, ◌∙◌}
use Rattle.gv_base.proofs.Tables.{insert_index-new, insert_key-new}
use Rattle.gv_base.proofs.accessors.push.Goals as goal

pub returns-clause-name : goal.returns-clause-name
returns-clause-name c = c.in-Ok.ensures.index ∙ rw c.in_ok-reserve.ensures.keys (insert_index-new c.args.texts.now.keys c.args.text c.requires)

pub returns-clause-texts : goal.returns-clause-texts
returns-clause-texts c = ap (λ ks. map string_bytes ks) c.in-Ok.ensures.keys ∙ rw c.in_ok-reserve.ensures.keys (insert_key-new c.args.texts.now.keys c.args.text c.requires)
