-- What `join` and `flatten` come to where nothing is asked, said without turns.
use Rattle.std.specs.Prelude.{◌≡◌, ℕ, List, [], ◌∷◌, ◌++◌, None, All}
use Rattle.gv_base.specs.declared.value.Value.{Value}
use Rattle.gv_classes.specs.declared.declared.Declared.{Declared}
use Rattle.gv_heap.specs.Heap.{HeapState}
use Rattle.gv_texts.specs.Texts as texts
use Rattle.gv_texts.specs.declared.walk.TextTurn.TheVariants as text
use Rattle.gv_joins.specs.Flat.{inner_sequence}

-- texts, each behind the separator
abbrev pub each_behind : List ℕ → List (List ℕ) → List ℕ
each_behind separator [] = []
each_behind separator (t ∷ ts) = separator ++ (t ++ each_behind separator ts)

-- texts with the separator between
abbrev pub separated : List ℕ → List (List ℕ) → List ℕ
separated separator [] = []
separated separator (t ∷ ts) = t ++ each_behind separator ts

-- these are the texts of the elements, and nothing is asked about them
abbrev pub Say : List (List ℕ) → List Declared → HeapState → List Value → List (List ℕ) → Type 0
Say names classes heap [] [] = Unit {0}
Say names classes heap (v ∷ vs) (t ∷ ts) = (texts.started names classes heap v ≡ text.Text t) × Say names classes heap vs ts
Say names classes heap vs ts = ⊥

-- none of the elements is a list or a range
abbrev pub NoneInner : HeapState → List Value → Type 0
NoneInner heap vs = All (λ v. inner_sequence heap v ≡ None) vs
