-- What calls return, as what their callers return: the forms of specs/Reading, for the crates above.
use Rattle.std.proofs.Common.{◌≡◌, List, sym, subst, Result, Ok, Err, ◌∙◌}
use Rattle.std.specs.Result.{IsErrAnd}
use Rattle.gv_lex.specs.declared.token.Token.{Token}
use Rattle.gv_grammar.specs.Phrases.{Phrase, Nothing}
use Rattle.gv_cursor.specs.declared.error.ReadError.{ReadError}
use Rattle.gv_cursor.specs.declared.error.ReadError.TheVariants.{Refused, OutOfMemory}
use Rattle.gv_cursor.specs.Reading.{Fails, Reads, Exactly, Expects}

-- an error of a part is that of the whole
pub failed : {A B : Type 0} (S : Phrase A) (T : Phrase B) (ts us : List Token) (e : ReadError) → (Nothing S ts → Nothing T us) → Fails S e ts → Fails T e us
failed S T ts us OutOfMemory f d = tt
failed S T ts us Refused f d = f d

pub unexpected : {B : Type 0} (T : Phrase B) (E : List Token → List Token → Type 0) (ts rest us : List Token) (e : ReadError) → (((after : List Token) → E ts after → ⊥) → Nothing T us) → Expects E (Err e) ts rest → Fails T e us
unexpected T E ts rest us OutOfMemory f d = absurd d
unexpected T E ts rest us Refused f d = f d

-- the exit by `?` behind a phrase that is read
pub passed_on : {A B : Type 0} (S : Phrase A) (T : Phrase B) (ts us rest : List Token) (e : ReadError) (r : Result B ReadError) → IsErrAnd r (λ y. y ≡ e) → (Nothing S ts → Nothing T us) → Fails S e ts → Reads T r us rest
passed_on S T ts us rest e (Ok x) h f d = absurd h
passed_on S T ts us rest e (Err x) h f d = failed S T ts us x f (subst (λ y. Fails S y ts) (sym h) d)

pub passed_on_exactly : {A B : Type 0} (S : Phrase A) (T : Phrase B) (ts us rest : List Token) (e : ReadError) (r : Result B ReadError) → IsErrAnd r (λ y. y ≡ e) → (Nothing S ts → Nothing T us) → Fails S e ts → Exactly T r us rest
passed_on_exactly S T ts us rest e (Ok x) h f d = absurd h
passed_on_exactly S T ts us rest e (Err x) h f d = failed S T ts us x f (subst (λ y. Fails S y ts) (sym h) d)

-- the exit by `?` behind a token that is expected
pub unexpected_on : {B : Type 0} (T : Phrase B) (E : List Token → List Token → Type 0) (ts after us rest : List Token) (e : ReadError) (r : Result B ReadError) → IsErrAnd r (λ y. y ≡ e)
    → (((behind : List Token) → E ts behind → ⊥) → Nothing T us) → Expects E (Err e) ts after → Reads T r us rest
unexpected_on T E ts after us rest e (Ok x) h f d = absurd h
unexpected_on T E ts after us rest e (Err x) h f d = unexpected T E ts after us x f (subst (λ y. Expects E (Err y) ts after) (sym h) d)

pub unexpected_on_exactly : {B : Type 0} (T : Phrase B) (E : List Token → List Token → Type 0) (ts after us rest : List Token) (e : ReadError) (r : Result B ReadError) → IsErrAnd r (λ y. y ≡ e)
    → (((behind : List Token) → E ts behind → ⊥) → Nothing T us) → Expects E (Err e) ts after → Exactly T r us rest
unexpected_on_exactly T E ts after us rest e (Ok x) h f d = absurd h
unexpected_on_exactly T E ts after us rest e (Err x) h f d = unexpected T E ts after us x f (subst (λ y. Expects E (Err y) ts after) (sym h) d)

-- the exit by `?` where something else is refused
pub refused_on : {B : Type 0} (T : Phrase B) (us rest : List Token) (e : ReadError) (r : Result B ReadError) → IsErrAnd r (λ y. y ≡ e) → e ≡ Refused → Nothing T us → Exactly T r us rest
refused_on T us rest e (Ok x) h p f = absurd h
refused_on T us rest e (Err x) h p f = subst (λ y. Fails T y us) (sym (h ∙ p)) f
