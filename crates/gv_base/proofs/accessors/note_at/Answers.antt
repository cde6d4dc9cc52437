use Rattle.std.proofs.Common.{string_bytes, bytes_eq, map, sym, ◌∙◌}
use Rattle.gv_base.specs.Accessors.{with_accessor}
use Rattle.gv_base.proofs.Tables.{position-map, list_any-map, IsDistinct-map, map-changed, map-changed-absent}
use Rattle.gv_base.proofs.accessors.note_at.Goals as goal

pub returns-in-Some-clause-noted : goal.returns-in-Some-clause-noted
returns-in-Some-clause-noted c = λ of e.
    let keys = c.args.texts.now.keys in
    rw (c.with.ensures, e) (map-changed c.args.property.now (with_accessor c.args.write c.args.name) of (map string_bytes keys) c.in-Some.place _
    (IsDistinct-map string_bytes bytes_eq keys c.len-len.ensures.unique) (position-map string_bytes (bytes_eq c.args.property.now) keys ∙ sym c.in-Some.ensures.index))

pub returns-in_default-clause-noted : goal.returns-in_default-clause-noted
returns-in_default-clause-noted c = λ of e. e ∙ map-changed-absent c.args.property.now (with_accessor c.args.write c.args.name) of (map string_bytes c.args.texts.now.keys)
    (list_any-map string_bytes (bytes_eq c.args.property.now) c.args.texts.now.keys ∙ sym c.in_default.ensures.found)
