use Rattle.std.proofs.Common.{arith}
use Rattle.gv_exprs.proofs.ResultsPaths.{passed, passed_less, reads_brackets}
use Rattle.gv_exprs.proofs.reader.Exprs.brackets.Goals as goal

pub list_or_map-requires-clause-shorter : goal.list_or_map-requires-clause-shorter
list_or_map-requires-clause-shorter g c = let a = passed_less c.args.tokens.now.rest.now c.advance.new.self.rest.now c.requires.next c.advance.ensures in omega arith

pub returns : goal.returns
returns g c = reads_brackets c.args.self.now.all _ _ _ _ c.list_or_map.result c.place-place.ensures (passed _ c.requires.next c.advance.ensures) c.list_or_map.ensures
