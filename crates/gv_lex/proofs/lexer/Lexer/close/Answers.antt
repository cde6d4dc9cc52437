use Rattle.std.proofs.Common.{◌≡◌, ◌∙◌, ◌∷◌, [], Some, ap, reverse, refl, sym, arith}
use Rattle.std.proofs.lemmas.Result.{on_ok_weaker}
use Rattle.gv_lex.specs.declared.open.Open.TheVariants.{Brace, Part}
use Rattle.gv_lex.proofs.Putting.{follows_from, popped, popped_none}
use Rattle.gv_lex.proofs.lexer.Lexer.close.Goals as goal

pub returns-in-Some-Part : goal.returns-in-Some-Part
returns-in-Some-Part c =
    let old = c.args.self.now in
    let is = c.in-Some-Part.is ∙ ap (λ o. Some o) c.in-Some-Part.field-0-is in
    let around : reverse old.around.items ≡ Part c.in-Some-Part.part ∷ reverse c.pop.new.self.items = popped old.around.items c.pop.new.self.items c.pop.result (Part c.in-Some-Part.part) c.pop.ensures.items is in
    rw around (on_ok_weaker c.end_part.result (λ put names. follows_from names old _ c.end_part.new.self _ refl refl (put names)) c.end_part.ensures)

pub returns-in-Some-Brace : goal.returns-in-Some-Brace
returns-in-Some-Brace c =
    let old = c.args.self.now in
    let is = c.in-Some-Brace.is ∙ ap (λ o. Some o) c.in-Some-Brace.field-0-is in
    let around : reverse old.around.items ≡ Brace ∷ reverse c.pop.new.self.items = popped old.around.items c.pop.new.self.items c.pop.result Brace c.pop.ensures.items is in
    rw around (on_ok_weaker c.put_symbol.result (λ put names. follows_from names old _ c.put_symbol.new.self _ refl refl (put names)) c.put_symbol.ensures)

pub returns-in-None : goal.returns-in-None
returns-in-None c =
    let old = c.args.self.now in
    let new = c.pop.new.self in
    let none : reverse old.around.items ≡ [] = popped_none old.around.items (omega (arith, old.around.ok.0, c.in-None.ensures.cases.0)) in
    let left : reverse new.items ≡ reverse old.around.items = popped_none new.items (omega (arith, new.ok.0, c.in-None.ensures.cases.1)) ∙ sym none in
    rw none (on_ok_weaker c.put_symbol-in-None.result (λ put names. follows_from names old _ c.put_symbol-in-None.new.self _ refl refl (rw left at (put names))) c.put_symbol-in-None.ensures)
