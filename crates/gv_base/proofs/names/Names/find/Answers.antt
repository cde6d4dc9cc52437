use Rattle.std.proofs.Common.{bytes_eq, string_bytes, sym, ◌∙◌}
use Rattle.gv_base.proofs.Tables.{position-map}
use Rattle.gv_base.proofs.names.Names.find.Goals as goal

pub returns : goal.returns
returns c = rw (← c.self.view_is) (c.get_index_of.ensures.index ∙ sym (position-map string_bytes (bytes_eq c.args.text.now) c.self.inside.texts.keys))
