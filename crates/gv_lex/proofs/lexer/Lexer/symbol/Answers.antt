use Rattle.std.proofs.Common.{◌≡◌, ◌∷◌, ◌∙◌, ap, reverse, refl}
use Rattle.std.proofs.lemmas.Result.{on_ok_weaker}
use Rattle.gv_lex.specs.declared.open.Open.TheVariants.{Brace}
use Rattle.gv_lex.specs.Steps.{state_of}
use Rattle.gv_lex.proofs.Putting.{follows_from, reverse-push, act_plain}
use Rattle.gv_lex.proofs.lexer.Lexer.symbol.Goals as goal

pub returns-in_ok-push-in-LeftBrace : goal.returns-in_ok-push-in-LeftBrace
returns-in_ok-push-in-LeftBrace c =
    let old = c.args.self.now in
    let around : reverse c.push.new.self.items ≡ Brace ∷ reverse old.around.items = ap (λ os. reverse os) c.in_ok-push-in-LeftBrace.ensures.items ∙ reverse-push old.around.items Brace in
    rw c.in-LeftBrace.is (on_ok_weaker c.put_symbol.result (λ put names. follows_from names old _ c.put_symbol.new.self _ refl refl (rw around at (put names))) c.put_symbol.ensures)

pub returns-in-RightBrace : goal.returns-in-RightBrace
returns-in-RightBrace c = rw c.in-RightBrace.is c.close.ensures

pub returns-in_default : goal.returns-in_default
returns-in_default c = rw (act_plain (state_of c.args.self.now) c.args.symbol c.in_default.not-LeftBrace c.in_default.not-RightBrace) c.put_symbol-in_default.ensures
