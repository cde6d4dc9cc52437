use Rattle.std.proofs.Common.{◌≡◌, ℕ, List, Bool, true, false, Ok, None, refl}
use Rattle.std.specs.Str.{chars, is_utf8}
use Rattle.gv_lex.specs.Lexing.{reading_of, lexed}
use Rattle.gv_lex.specs.Places.{first_of}
use Rattle.gv_lex.specs.Tokens.{Spelled}
use Rattle.gv_lex.proofs.Order.{first_of-none, judged-ok}
use Rattle.gv_lex.proofs.laws.not_both.Goals as goal

utf8-from-ok : (file : ℕ) (bytes : List ℕ) (tokens : List Spelled) → lexed file bytes ≡ Ok tokens → is_utf8 bytes ≡ true
utf8-from-ok file bytes tokens e = by (is_utf8 bytes) refl
  where
    by : (b : Bool) → is_utf8 bytes ≡ b → b ≡ true
    by true is = refl
    by false is = let f = rw is at e in absurd (cc f)

pub returns-clause-tokens : goal.returns-clause-tokens
returns-clause-tokens c = λ file bytes tokens is.
    let reading = reading_of file (chars bytes) in
    first_of-none reading.refusals (judged-ok (first_of None reading.refusals) reading.tokens tokens (rw (utf8-from-ok file bytes tokens is) at is))

pub returns-clause-no_refusal : goal.returns-clause-no_refusal
returns-clause-no_refusal c = λ file bytes utf8 none. rw (utf8, none) refl
