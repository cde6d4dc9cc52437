use Rattle.std.proofs.Common.{◌≡◌, [], ◌∷◌, ◌∙◌, ap, false, reverse, refl}
use Rattle.gv_base.specs.declared.refusal.Place.{Place}
use Rattle.gv_lex.specs.declared.open.Here.TheVariants.{Between}
use Rattle.gv_lex.specs.declared.open.Open.{Open}
use Rattle.gv_lex.specs.declared.open.Open.TheVariants.{Part}
use Rattle.gv_lex.specs.Lexing.{State}
use Rattle.gv_lex.proofs.Putting.{puts_sets, reverse-push}
use Rattle.gv_lex.proofs.lexer.Lexer.begin_part.Goals as goal

pub returns-clause-follows : goal.returns-clause-follows
returns-clause-follows c =
    let old = c.args.self.now in
    let mid = c.put_piece.new.self in
    let part : Place → Open = λ dollar. Part (record { quote = c.args.opened.quote; start = c.args.opened.start; dollar = dollar }) in
    let set : State → State = λ s. record s { around = part old.place ∷ s.around; here = Between; so_far = []; operand = false } in
    λ later keeps.
    let put = c.in_ok-put_piece.ensures.puts later keeps in
    let place : mid.place ≡ old.place = ap (λ (s : State). s.place) put.state in
    let around : reverse c.push.new.self.items ≡ part mid.place ∷ reverse mid.around.items = ap (λ os. reverse os) c.in_ok-push.ensures.items ∙ reverse-push mid.around.items (part mid.place) in
    puts_sets later old mid _ _ set put refl refl (rw (around, place, c.clear.ensures.bytes) refl)
