use Rattle.std.proofs.Common.{bytes_eq, string_bytes, sym}
use Rattle.gv_base.specs.Names.{accessor_text}
use Rattle.gv_base.proofs.Tables.{position-map}
use Rattle.gv_base.proofs.accessors.find_accessor.Goals as goal

pub returns : goal.returns
returns c = rw (c.get_index_of.ensures.index, c.as_str.ensures.value, c.in_ok-accessor.ensures) (sym (position-map string_bytes (bytes_eq (accessor_text c.args.write c.args.property.now)) c.args.texts.now.keys))
