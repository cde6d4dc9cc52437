use Rattle.std.proofs.Common.{refl, ap, Some}
use Rattle.gv_base.specs.declared.refusal.Place.{Place}
use Rattle.gv_lex.specs.declared.open.Here.TheVariants.{Inside}
use Rattle.gv_lex.specs.Lexing.{State}
use Rattle.gv_lex.specs.Places.{next_column}
use Rattle.gv_lex.specs.Steps.{state_of}
use Rattle.gv_lex.proofs.Putting.{puts_sets}
use Rattle.gv_lex.proofs.lexer.Lexer.end_part.Goals as goal

pub returns : goal.returns
returns c =
    let part = c.args.part in
    let at : Place → State → State = λ p s. record s { here = Inside (record { quote = part.quote; start = part.start; behind = Some p }) } in
    λ names. puts_sets names c.args.self.now c.put_at.new.self _ _ (at (next_column c.args.self.now.place)) (c.in_ok-put_at.ensures names tt) refl refl (ap (λ p. at p (state_of c.put_at.new.self)) c.next_column-behind.ensures)
