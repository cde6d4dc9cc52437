-- Where a text stands in a text. A text is the list of its characters, and a place is a number of characters.
use Rattle.std.specs.Prelude.{ℕ, zero, suc, ◌+◌, ◌-◌, ◌==◌, Bool, List, [], ◌∷◌, ◌++◌, length, take, drop, nat_eq, Option, None, Some, slice_get, is_some, if◌then◌else◌}
use Rattle.std.specs.List.{starts_with, ends_with}

-- a part stands at the start of a text, at its end
abbrev pub starts : List ℕ → List ℕ → Bool
starts text part = starts_with nat_eq text part

abbrev pub ends : List ℕ → List ℕ → Bool
ends text part = ends_with nat_eq text part

-- the place `at`, where the part stands there, and the later places
abbrev pub place_if : Bool → ℕ → List ℕ → List ℕ
place_if here at later = if here then at ∷ later else later

-- the places at which a part stands in a text that begins at the place `at`, in order; the end is a place too
abbrev pub places_from : ℕ → List ℕ → List ℕ → List ℕ
places_from at [] part = place_if (starts [] part) at []
places_from at (c ∷ cs) part = place_if (starts (c ∷ cs) part) at (places_from (at + 1) cs part)

abbrev pub places : List ℕ → List ℕ → List ℕ
places text part = places_from 0 text part

-- the first of the places, and the last
abbrev pub first_place : List ℕ → List ℕ → Option ℕ
first_place text part = slice_get (places text part) 0

abbrev pub last_place : List ℕ → List ℕ → Option ℕ
last_place text part = slice_get (places text part) (length (places text part) - 1)

-- how many places they are
abbrev pub count_places : List ℕ → List ℕ → ℕ
count_places text part = length (places text part)

abbrev pub contains : List ℕ → List ℕ → Bool
contains text part = is_some (first_place text part)

-- the text with another for each part that stands in it, from the left; the first `inside` characters belong to one that was
-- replaced already
abbrev pub replaced_from : ℕ → List ℕ → List ℕ → List ℕ → List ℕ
replaced_from inside [] part other = []
replaced_from zero (c ∷ cs) part other =
    if starts (c ∷ cs) part then other ++ replaced_from (length part - 1) cs part other
    else c ∷ replaced_from 0 cs part other
replaced_from (suc inside) (c ∷ cs) part other = replaced_from inside cs part other

-- the text with another before each character and at the end
abbrev pub spread : List ℕ → List ℕ → List ℕ
spread [] other = other
spread (c ∷ cs) other = other ++ c ∷ spread cs other

abbrev pub replaced : List ℕ → List ℕ → List ℕ → List ℕ
replaced text part other = if length part == 0 then spread text other else replaced_from 0 text part other

-- the text without so many characters from a place on
abbrev pub without : List ℕ → ℕ → Option ℕ → List ℕ
without text count None = text
without text count (Some at) = take at text ++ drop (at + count) text

-- the text without the part at its first place
abbrev pub without_first : List ℕ → List ℕ → List ℕ
without_first text part = without text (length part) (first_place text part)
