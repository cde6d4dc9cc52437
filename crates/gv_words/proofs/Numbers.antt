-- The number that `parse` reads in few digits.
use Rattle.std.proofs.Common.{◌≡◌, ℕ, ◌≤◌, ◌<◌, ◌^◌, List, length, true, rules, arith, lit<}
use Rattle.std.specs.Prelude.{Result, Ok, Err, OkIff}
use Rattle.std.specs.Char.{is_ascii_digit}
use Rattle.std.specs.List.{list_all}
use Rattle.std.specs.Result.{result_ok}
use Rattle.std.specs.Str.Parse.{digits_value, ParsesUnsigned}
use Rattle.std.proofs.lemmas.Bool.Decides.{nat_tests}
use Rattle.std.proofs.lemmas.Grind.{common_steps}
use Rattle.std.proofs.lemmas.Str.Parse.{IsNumeralModel, numerals_by_value, parse_digits, digits_value_short}
use Rattle.gv_words.specs.Words.{number_of}

digits : IsNumeralModel (λ ds. list_all is_ascii_digit ds ≡ true) (digits_value 10)
digits = numerals_by_value _ (search rules)

parsed : {E : Type 0} (text : List ℕ) (r : Result ℕ E) → OkIff r ((0 < length text) × (digits_value 10 text < 2 ^ 128)) (digits_value 10 text) → list_all is_ascii_digit text ≡ true → length text ≤ 20 → digits_value 10 text < 2 ^ 128 → result_ok r ≡ number_of text
parsed text (Ok n) h all short small = grind (arith, nat_tests, common_steps)
parsed text (Err e) h all short small = grind (arith, nat_tests, common_steps)

pub parsed_is : {E : Type 0} (text : List ℕ) (r : Result ℕ E) → ParsesUnsigned 128 10 text r → list_all is_ascii_digit text ≡ true → length text ≤ 20 → result_ok r ≡ number_of text
parsed_is text r h all short =
    let low = digits_value_short digits text 20 all short in
    let wide : 10 ^ 20 < 2 ^ 128 = lit< tt in
    parsed text r (parse_digits digits 128 text r h all) all short (omega arith)
