-- The same of texts by their bytes in UTF-8.
use Rattle.std.specs.Prelude.{ℕ, Bool, List, Option}
use Rattle.std.specs.Str.{chars, encode_utf8_all}
use Rattle.gv_search.specs.Search as search

abbrev pub contains : List ℕ → List ℕ → Bool
contains text part = search.contains (chars text) (chars part)

abbrev pub starts_with : List ℕ → List ℕ → Bool
starts_with text part = search.starts (chars text) (chars part)

abbrev pub ends_with : List ℕ → List ℕ → Bool
ends_with text part = search.ends (chars text) (chars part)

abbrev pub first_place : List ℕ → List ℕ → Option ℕ
first_place text part = search.first_place (chars text) (chars part)

abbrev pub last_place : List ℕ → List ℕ → Option ℕ
last_place text part = search.last_place (chars text) (chars part)

abbrev pub count_places : List ℕ → List ℕ → ℕ
count_places text part = search.count_places (chars text) (chars part)

abbrev pub replaced : List ℕ → List ℕ → List ℕ → List ℕ
replaced text part other = encode_utf8_all (search.replaced (chars text) (chars part) (chars other))

abbrev pub without_first : List ℕ → List ℕ → List ℕ
without_first text part = encode_utf8_all (search.without_first (chars text) (chars part))

abbrev pub spread : List ℕ → List ℕ → List ℕ
spread text other = encode_utf8_all (search.spread (chars text) (chars other))
