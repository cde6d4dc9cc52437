-- How hashes are joined, at 32 bits; what doesn't fit wraps.
use Rattle.std.specs.Prelude.{ℕ, ℤ, pos, ◌+ℤ◌, ◌*ℤ◌, List, [], ◌∷◌}
use Rattle.std.specs.Int.{w32, int_wrap, int_bit_xor}

-- 31 times the hash, and that of what comes next
abbrev pub joined : ℤ → ℤ → ℤ
joined hash next = int_wrap w32 (hash *ℤ pos 31 +ℤ next)

-- a map's entries are summed
abbrev pub summed : ℤ → ℤ → ℤ → ℤ
summed sum key value = int_wrap w32 (sum +ℤ int_bit_xor w32 key value)

-- the characters of a text join one by one
abbrev pub text_joined : ℤ → List ℕ → ℤ
text_joined hash [] = hash
text_joined hash (c ∷ cs) = text_joined (joined hash (pos c)) cs

abbrev pub text_hash : List ℕ → ℤ
text_hash cs = text_joined (pos 0) cs

-- ---- the hashes of a walk, the last one first

abbrev pub with_element : List ℤ → List ℤ
with_element [] = []
with_element (element ∷ []) = element ∷ []
with_element (element ∷ hash ∷ below) = joined hash element ∷ below

abbrev pub with_entry : List ℤ → List ℤ
with_entry [] = []
with_entry (value ∷ []) = value ∷ []
with_entry (value ∷ key ∷ []) = value ∷ key ∷ []
with_entry (value ∷ key ∷ sum ∷ below) = summed sum key value ∷ below

abbrev pub last_of : List ℤ → ℤ
last_of [] = pos 0
last_of (hash ∷ below) = hash
