-- What a function that reads a phrase ensures: ts are the tokens before the call, and rest those behind it.
use Rattle.std.specs.Prelude.{◌≡◌, ◌<◌, Bool, true, false, List, Result, Ok, Err}
use Rattle.gv_lex.specs.declared.token.Token.{Token}
use Rattle.gv_lex.specs.declared.token.TokenKind.{TokenKind}
use Rattle.gv_grammar.specs.Phrases.{Phrase, Longest, Nothing}
use Rattle.gv_grammar.specs.Tokens.{kind_of, reach}
use Rattle.gv_cursor.specs.declared.error.ReadError.{ReadError}
use Rattle.gv_cursor.specs.declared.error.ReadError.TheVariants.{Refused, OutOfMemory}

abbrev pub Fails : {A : Type 0} → Phrase A → ReadError → List Token → Type 0
Fails S OutOfMemory ts = Unit {0}
Fails S Refused ts = Nothing S ts

-- The longest phrase is read, and it is refused exactly where there is none.
abbrev pub Reads : {A : Type 0} → Phrase A → Result A ReadError → List Token → List Token → Type 0
Reads S (Ok x) ts rest = Longest S x ts rest
Reads S (Err e) ts rest = Fails S e ts

-- A phrase is read, and refused exactly where there is none.
abbrev pub Exactly : {A : Type 0} → Phrase A → Result A ReadError → List Token → List Token → Type 0
Exactly S (Ok x) ts rest = S x ts rest
Exactly S (Err e) ts rest = Fails S e ts

-- a phrase before a token that ends it
pub record Before {A : Type 0} (ends : TokenKind → Bool) (S : Phrase A) (x : A) (ts rest : List Token) : Type 0 where
  pub is : S x ts rest
  pub ended : ends (kind_of rest) ≡ true

-- a phrase before a token with which no expression goes on
pub record Stopped {A : Type 0} (S : Phrase A) (x : A) (ts rest : List Token) : Type 0 where
  pub is : S x ts rest
  pub stops : 12 < reach (kind_of rest)

-- this is passed, and refused where something else comes next
abbrev pub Expects : (List Token → List Token → Type 0) → Result (Unit {0}) ReadError → List Token → List Token → Type 0
Expects E (Ok x) ts rest = E ts rest
Expects E (Err OutOfMemory) ts rest = ⊥
Expects E (Err Refused) ts rest = (after : List Token) → E ts after → ⊥

-- x goes on and becomes y, or y is x, with which no phrase here goes on
abbrev pub Extended : {A : Type 0} → (A → Phrase A) → A → A → Bool → List Token → List Token → Type 0
Extended S x y true ts rest = S x y ts rest
Extended S x y false ts rest = (y ≡ x) × (rest ≡ ts) × Nothing (S x) ts

abbrev pub Extends : {A : Type 0} → (A → Phrase A) → A → Result (A × Bool) ReadError → List Token → List Token → Type 0
Extends S x (Ok p) ts rest = Extended S x p.0 p.1 ts rest
Extends S x (Err OutOfMemory) ts rest = Unit {0}
Extends S x (Err Refused) ts rest = ⊥
