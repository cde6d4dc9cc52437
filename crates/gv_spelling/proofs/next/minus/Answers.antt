use Rattle.std.proofs.Common.{◌∙◌, sym, arith}
use Rattle.gv_spelling.proofs.Longest.{minus_symbol, minus_number}
use Rattle.gv_spelling.proofs.next.minus.Goals as goal

pub returns-then-is_signed : goal.returns-then-is_signed
returns-then-is_signed c =
    let p = c.is_signed.ensures.parts c.if-is_signed.true in
    minus_number c.args.operand c.args.text.now _ _ p.0 p.1 (omega (arith, c.number.ensures.beyond)) c.number.ensures.longest

pub returns-else-is_signed : goal.returns-else-is_signed
returns-else-is_signed c = minus_symbol c.args.operand c.args.text.now _ _ (sym c.is_signed.ensures.value ∙ c.if-is_signed.false) c.symbol.ensures
