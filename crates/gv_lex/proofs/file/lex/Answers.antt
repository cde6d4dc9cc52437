use Rattle.std.proofs.Common.{◌≡◌, ℕ, List, Bool, true, false, ◌∙◌, ap, refl}
use Rattle.std.specs.Prelude.{IsUtf8}
use Rattle.std.specs.Str.{chars, is_utf8}
use Rattle.std.proofs.lemmas.Str.{is_utf8-from_IsUtf8, IsUtf8-from_is_utf8}
use Rattle.gv_lex.proofs.file.lex.Goals as goal

no_utf8 : (bytes : List ℕ) → (IsUtf8 bytes → ⊥) → is_utf8 bytes ≡ false
no_utf8 bytes h = by (is_utf8 bytes) refl
  where
    by : (b : Bool) → is_utf8 bytes ≡ b → b ≡ false
    by true e = absurd (h (IsUtf8-from_is_utf8 bytes e))
    by false e = refl

pub returns-in_ok-characters-in-Ok-clause-tokens : goal.returns-in_ok-characters-in-Ok-clause-tokens
returns-in_ok-characters-in-Ok-clause-tokens c =
    let text : c.as_slice.result.now ≡ chars c.args.bytes.now = c.as_slice.ensures.value ∙ c.in_ok-characters-in-Ok.ensures.value ∙ ap chars c.in-Ok.ensures.cases.0 in
    rw (is_utf8-from_IsUtf8 c.args.bytes.now c.in-Ok.ensures.cases.1, ← text) c.lex_characters.ensures.tokens

pub returns-in_ok-characters-in-Ok-clause-refused : goal.returns-in_ok-characters-in-Ok-clause-refused
returns-in_ok-characters-in-Ok-clause-refused c =
    let text : c.as_slice.result.now ≡ chars c.args.bytes.now = c.as_slice.ensures.value ∙ c.in_ok-characters-in-Ok.ensures.value ∙ ap chars c.in-Ok.ensures.cases.0 in
    rw (is_utf8-from_IsUtf8 c.args.bytes.now c.in-Ok.ensures.cases.1, ← text) c.lex_characters.ensures.refused

pub returns-in_ok-not_utf8-in-Err-clause-refused : goal.returns-in_ok-not_utf8-in-Err-clause-refused
returns-in_ok-not_utf8-in-Err-clause-refused c = rw (no_utf8 c.args.bytes.now c.in-Err.ensures.cases.0, c.in_ok-not_utf8-in-Err.ensures) refl
