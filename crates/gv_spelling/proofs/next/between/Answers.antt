use Rattle.std.proofs.Common.{◌≡◌, ◌∙◌, sym, ap, ℕ, true, subst}
use Rattle.std.specs.Char.{is_ascii_digit}
use Rattle.gv_spelling.specs.Table.{front_of}
use Rattle.gv_spelling.proofs.Longest.{between_longest}
use Rattle.gv_spelling.proofs.next.between.Goals as goal

pub returns-in-Start : goal.returns-in-Start
returns-in-Start c = between_longest c.args.operand _ c.args.text.now _ _ (sym c.in-Start.is ∙ c.front_of.ensures.value ∙ ap front_of c.at.ensures) c.name.ensures

pub returns-in-Digit : goal.returns-in-Digit
returns-in-Digit c = between_longest c.args.operand _ c.args.text.now _ _ (sym c.in-Digit.is ∙ c.front_of.ensures.value ∙ ap front_of c.at.ensures) c.number.ensures.longest

pub returns-in-Blank : goal.returns-in-Blank
returns-in-Blank c = between_longest c.args.operand _ c.args.text.now _ _ (sym c.in-Blank.is ∙ c.front_of.ensures.value ∙ ap front_of c.at.ensures) c.blanks.ensures

pub returns-in-Slash : goal.returns-in-Slash
returns-in-Slash c = between_longest c.args.operand _ c.args.text.now _ _ (sym c.in-Slash.is ∙ c.front_of.ensures.value ∙ ap front_of c.at.ensures) c.slash.ensures

pub returns-in-Minus : goal.returns-in-Minus
returns-in-Minus c = between_longest c.args.operand _ c.args.text.now _ _ (sym c.in-Minus.is ∙ c.front_of.ensures.value ∙ ap front_of c.at.ensures) c.minus.ensures

pub returns-in-Other : goal.returns-in-Other
returns-in-Other c = between_longest c.args.operand _ c.args.text.now _ _ (sym c.in-Other.is ∙ c.front_of.ensures.value ∙ ap front_of c.at.ensures) c.symbol.ensures

pub number-requires-clause-digit : goal.number-requires-clause-digit
number-requires-clause-digit c = let P : ℕ → Type 0 = λ x. is_ascii_digit x ≡ true in subst P c.at.ensures (c.front_of.ensures.digit c.in-Digit.is)
