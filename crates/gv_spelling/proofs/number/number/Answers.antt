use Rattle.std.proofs.Common.{◌≡◌, ◌∙◌, refl, sym, ap, arith, ◌+◌, ◌-◌, drop, ℕ}
use Rattle.std.specs.List.{prefix_len}
use Rattle.std.proofs.lemmas.List.{length-take-le}
use Rattle.gv_spelling.specs.declared.classes.Class.TheVariants as class
use Rattle.gv_spelling.specs.Table.{is_in, is_fraction}
use Rattle.gv_spelling.proofs.Digits.{fraction_at, number_longest, fraction_longest, number_some, number_short}
use Rattle.gv_spelling.proofs.number.number.Goals as goal

pub is_fraction-requires-clause-some : goal.is_fraction-requires-clause-some
is_fraction-requires-clause-some c = omega (arith, number_some c.args.text.now c.args.from c.requires.within c.requires.digit)

pub judge-requires : goal.judge-requires
judge-requires c =
    let some = number_some c.args.text.now c.args.from c.requires.within c.requires.digit in
    let short = number_short c.args.text.now c.args.from in
    let n : ℕ = c.past-end.result - c.args.from in
    rw (length-take-le n (drop c.args.from c.args.text.now) (omega arith)) (omega arith)

pub returns-then-is_fraction-clause-longest : goal.returns-then-is_fraction-clause-longest
returns-then-is_fraction-clause-longest c =
    let some = number_some c.args.text.now c.args.from c.requires.within c.requires.digit in
    let n : ℕ = prefix_len (is_in class.Name) (drop c.args.from c.args.text.now) in
    rw (c.bad_number.ensures, c.past-end.ensures.value)
    (fraction_longest c.args.signed c.args.text.now c.args.from n refl (omega (arith, c.is_fraction.ensures.within c.if-is_fraction.true))
    (fraction_at c.args.from n c.args.text.now some ∙ ap (λ k. is_fraction k c.args.text.now) (sym c.past-end.ensures.value) ∙ sym c.is_fraction.ensures.value ∙ c.if-is_fraction.true))

pub returns-else-is_fraction-clause-longest : goal.returns-else-is_fraction-clause-longest
returns-else-is_fraction-clause-longest c =
    let some = number_some c.args.text.now c.args.from c.requires.within c.requires.digit in
    let n : ℕ = prefix_len (is_in class.Name) (drop c.args.from c.args.text.now) in
    let same : c.args.from + n - c.args.from ≡ n = omega arith in
    rw (c.judge.ensures, c.past-end.ensures.value, same)
    (number_longest c.args.signed c.args.text.now c.args.from n refl some (omega (arith, c.requires.within))
    (fraction_at c.args.from n c.args.text.now some ∙ ap (λ k. is_fraction k c.args.text.now) (sym c.past-end.ensures.value) ∙ sym c.is_fraction.ensures.value ∙ c.if-is_fraction.false))

pub returns-else-is_fraction-clause-beyond : goal.returns-else-is_fraction-clause-beyond
returns-else-is_fraction-clause-beyond c = omega (arith, number_some c.args.text.now c.args.from c.requires.within c.requires.digit)
