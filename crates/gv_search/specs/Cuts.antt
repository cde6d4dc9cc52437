-- Where src/cut.rt cuts a text. The part isn't empty.
use Rattle.std.specs.Prelude.{◌≡◌, ℕ, true, false, List, [], ◌∷◌, ◌++◌, drop, ⊤}
use Rattle.std.specs.Str.{chars, IsUtf8}
use Rattle.gv_search.specs.Search.{starts}

-- the part stands nowhere in the text `before ++ rest` that a character of `before` begins; by characters
abbrev pub Lacks : List ℕ → List ℕ → List ℕ → Type 0
Lacks part [] rest = ⊤
Lacks part (c ∷ before) rest = (starts (c ∷ (before ++ rest)) part ≡ false) × Lacks part before rest

-- the part stands nowhere in the text
abbrev pub IsNowhere : List ℕ → List ℕ → Type 0
IsNowhere text part = Lacks (chars part) (chars text) []

-- the text is `before` and then `rest`, which begins with the part
pub record IsCut (text part before rest : List ℕ) : Type 0 where
  pub joined : text ≡ before ++ rest
  pub front : IsUtf8 before
  pub back : IsUtf8 rest
  pub here : starts (chars rest) (chars part) ≡ true

-- the part stands nowhere earlier, nowhere later
abbrev pub IsFirstCut : List ℕ → List ℕ → List ℕ → List ℕ → Type 0
IsFirstCut text part before rest = IsCut text part before rest × Lacks (chars part) (chars before) (chars rest)

abbrev pub IsLastCut : List ℕ → List ℕ → List ℕ → List ℕ → Type 0
IsLastCut text part before rest = IsCut text part before rest × Lacks (chars part) (drop 1 (chars rest)) []
