use Rattle.std.proofs.Common.{inr}
use Rattle.gv_lines.specs.Loads.{too_deep}
use Rattle.gv_stmts.proofs.Whole.{none_deep, some_left, no_script}
use Rattle.gv_stmts.proofs.parsing.parse_kept.Goals as goal

pub returns-in-Ok : goal.returns-in-Ok
returns-in-Ok c = inr (record {
  flat = none_deep (too_deep c.args.tokens.now) c.in_ok-place.ensures cc;
  nothing = no_script (c.in-Ok.ensures) (some_left c.is_empty.result c.tops.new.cursor.rest.now c.if-is_empty.false c.is_empty.ensures);
  told = c.refused.ensures;
})
