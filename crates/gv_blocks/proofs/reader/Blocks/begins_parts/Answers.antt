use Rattle.std.proofs.Common.{sym, ◌∙◌}
use Rattle.gv_blocks.proofs.ForHeads as heads
use Rattle.gv_blocks.proofs.reader.Blocks.begins_parts.Goals as goal

pub returns-then-not-eat : goal.returns-then-not-eat
returns-then-not-eat g c = heads.no_parts_paren c.args.self.now.values.tokens.now (c.if-not-eat_keyword.ensures) (c.if-not-eat.ensures.1)

pub returns-then-begins_typed : goal.returns-then-begins_typed
returns-then-begins_typed g c = heads.no_parts_typed c.args.self.now.values.tokens.now (c.if-not-eat_keyword.ensures) (c.if-not-eat.ensures) (sym c.begins_typed.ensures ∙ c.if-begins_typed.true)

pub returns-in-Ok : goal.returns-in-Ok
returns-in-Ok g c = heads.sees_parts c.args.self.now.values.tokens.now (c.if-not-eat_keyword.ensures) (c.if-not-eat.ensures) c.sees.result (sym c.begins_typed.ensures ∙ c.if-begins_typed.false) (c.in-Ok.ensures) (c.sees.ensures)

pub returns-in-Err-Refused : goal.returns-in-Err-Refused
returns-in-Err-Refused g c = heads.no_parts_expr c.args.self.now.values.tokens.now (c.if-not-eat_keyword.ensures) (c.if-not-eat.ensures) (rw (c.in-Err-Refused.field-0-is) at c.in-Err-Refused.ensures)
