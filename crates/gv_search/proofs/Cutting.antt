-- What the definitions of specs/Search.antt give for a text that is cut where a part stands.
use Rattle.std.proofs.Common.{◌≡◌, ℕ, zero, suc, ◌+◌, ◌-◌, ◌<◌, ◌≤◌, true, List, [], ◌∷◌, ◌++◌, length, drop, Some, slice_get, refl, sym, ap, ◌∙◌, arith, length-append, ⊎_elim}
use Rattle.std.proofs.lemmas.Bool.{cond-true, cond-false, cases_Bool, true≢false}
use Rattle.std.proofs.lemmas.List.{append-nil}
use Rattle.gv_search.specs.Search.{starts, places_from, places, replaced_from}
use Rattle.gv_search.specs.Cuts.{Lacks}

-- ---- places

-- a text that lacks the part has no place, and the places go on behind it
pub skipped_places : (before rest part : List ℕ) (at : ℕ) → Lacks part before rest → places_from at (before ++ rest) part ≡ places_from (at + length before) rest part
skipped_places [] rest part at h =
    let same : at ≡ at + 0 = omega arith in
    ap (λ n. places_from n rest part) same
skipped_places (c ∷ cs) rest part at h =
    let same : (at + 1) + length cs ≡ at + suc (length cs) = omega arith in
    cond-false _ _ _ h.0 ∙ skipped_places cs rest part (at + 1) h.1 ∙ ap (λ n. places_from n rest part) same

no_end : (part : List ℕ) (at : ℕ) → 0 < length part → places_from at [] part ≡ []
no_end [] at filled = absurd (omega arith)
no_end (p ∷ ps) at filled = refl

pub none_places : (text part : List ℕ) (at : ℕ) → 0 < length part → Lacks part text [] → places_from at text part ≡ []
none_places text part at filled h =
    ap (λ l. places_from at l part) (sym (append-nil text)) ∙ skipped_places text [] part at h ∙ no_end part (at + length text) filled

-- the part stands at the start
pub found_places : (rest part : List ℕ) (at : ℕ) → 0 < length part → starts rest part ≡ true → places_from at rest part ≡ at ∷ places_from (at + 1) (drop 1 rest) part
found_places [] [] at filled here = absurd (omega arith)
found_places [] (p ∷ ps) at filled here = absurd (true≢false (sym here))
found_places (c ∷ cs) part at filled here = cond-true _ _ _ here

-- how many places there are, wherever the text begins
pub length-places_from : (text part : List ℕ) (at from : ℕ) → length (places_from at text part) ≡ length (places_from from text part)
length-places_from [] part at from = ⊎_elim
    (λ yes. rw yes refl)
    (λ no. rw no refl)
    (cases_Bool (starts [] part))
length-places_from (c ∷ cs) part at from = ⊎_elim
    (λ yes. ap length (cond-true _ _ _ yes) ∙ ap suc (length-places_from cs part (at + 1) (from + 1)) ∙ sym (ap length (cond-true _ _ _ yes)))
    (λ no. ap length (cond-false _ _ _ no) ∙ length-places_from cs part (at + 1) (from + 1) ∙ sym (ap length (cond-false _ _ _ no)))
    (cases_Bool (starts (c ∷ cs) part))

-- the first place
pub first_at : (before rest part : List ℕ) → 0 < length part → starts rest part ≡ true → Lacks part before rest → slice_get (places (before ++ rest) part) 0 ≡ Some (length before)
first_at before rest part filled here lacks =
    let same : 0 + length before ≡ length before = omega arith in
    ap (λ l. slice_get l 0) (skipped_places before rest part 0 lacks ∙ found_places rest part (0 + length before) filled here) ∙ ap Some same

-- the last place
split_places : (before rest part : List ℕ) (at : ℕ) → (front : List ℕ) × (places_from at (before ++ rest) part ≡ front ++ places_from (at + length before) rest part)
split_places [] rest part at =
    let same : at ≡ at + 0 = omega arith in
    ([], ap (λ n. places_from n rest part) same)
split_places (c ∷ cs) rest part at =
    let same : (at + 1) + length cs ≡ at + suc (length cs) = omega arith in
    let more = split_places cs rest part (at + 1) in
    let moved = more.1 ∙ ap (λ n. more.0 ++ places_from n rest part) same in
    ⊎_elim
    (λ yes. (at ∷ more.0, cond-true _ _ _ yes ∙ ap (λ l. at ∷ l) moved))
    (λ no. (more.0, cond-false _ _ _ no ∙ moved))
    (cases_Bool (starts (c ∷ (cs ++ rest)) part))

get_behind : (xs : List ℕ) (x : ℕ) → slice_get (xs ++ x ∷ []) (length xs) ≡ Some x
get_behind [] x = refl
get_behind (y ∷ ys) x = get_behind ys x

get_end : (xs : List ℕ) (x : ℕ) → slice_get (xs ++ x ∷ []) (length (xs ++ x ∷ []) - 1) ≡ Some x
get_end xs x =
    let place : length (xs ++ x ∷ []) - 1 ≡ length xs = omega (arith, length-append xs (x ∷ [])) in
    ap (slice_get (xs ++ x ∷ [])) place ∙ get_behind xs x

pub last_at : (before rest part : List ℕ) → 0 < length part → starts rest part ≡ true → Lacks part (drop 1 rest) [] → slice_get (places (before ++ rest) part) (length (places (before ++ rest) part) - 1) ≡ Some (length before)
last_at before rest part filled here lacks =
    let same : 0 + length before ≡ length before = omega arith in
    let split = split_places before rest part 0 in
    let last = found_places rest part (0 + length before) filled here ∙ ap (λ l. (0 + length before) ∷ l) (none_places (drop 1 rest) part ((0 + length before) + 1) filled lacks) in
    ap (λ l. slice_get l (length l - 1)) (split.1 ∙ ap (λ l. split.0 ++ l) last) ∙ get_end split.0 (0 + length before) ∙ ap Some same

-- the places that are left to count
pub count_at : (before rest part : List ℕ) → 0 < length part → starts rest part ≡ true → Lacks part before rest → length (places (before ++ rest) part) ≡ suc (length (places (drop 1 rest) part))
count_at before rest part filled here lacks =
    ap length (skipped_places before rest part 0 lacks ∙ found_places rest part (0 + length before) filled here)
    ∙ ap suc (length-places_from (drop 1 rest) part ((0 + length before) + 1) 0)

pub length-places-le : (text part : List ℕ) (at : ℕ) → 0 < length part → length (places_from at text part) ≤ length text
length-places-le [] part at filled = omega (arith, ap length (no_end part at filled))
length-places-le (c ∷ cs) part at filled =
    let more = length-places-le cs part (at + 1) filled in
    ⊎_elim
    (λ yes. omega (arith, ap length (cond-true (starts (c ∷ cs) part) (at ∷ places_from (at + 1) cs part) (places_from (at + 1) cs part) yes)))
    (λ no. omega (arith, ap length (cond-false (starts (c ∷ cs) part) (at ∷ places_from (at + 1) cs part) (places_from (at + 1) cs part) no)))
    (cases_Bool (starts (c ∷ cs) part))

-- the empty part stands at each place
empty_places : (text : List ℕ) (at : ℕ) → (length (places_from at text []) ≡ suc (length text)) × (slice_get (places_from at text []) (length text) ≡ Some (at + length text))
empty_places [] at =
    let same : at ≡ at + 0 = omega arith in
    (refl, ap Some same)
empty_places (c ∷ cs) at =
    let same : (at + 1) + length cs ≡ at + suc (length cs) = omega arith in
    let more = empty_places cs (at + 1) in
    (ap suc more.0, more.1 ∙ ap Some same)

pub empty_first : (text : List ℕ) → slice_get (places text []) 0 ≡ Some 0
empty_first [] = refl
empty_first (c ∷ cs) = refl

pub empty_last : (text : List ℕ) → slice_get (places text []) (length (places text []) - 1) ≡ Some (length text)
empty_last text =
    let all = empty_places text 0 in
    let same : 0 + length text ≡ length text = omega arith in
    let place : length (places text []) - 1 ≡ length text = omega arith in
    ap (slice_get (places text [])) place ∙ all.1 ∙ ap Some same

pub empty_count : (text : List ℕ) → length (places text []) ≡ length text + 1
empty_count text =
    let all = empty_places text 0 in
    omega arith

-- ---- the text with another in place of the part

pub skipped_replaced : (before rest part other : List ℕ) → Lacks part before rest → replaced_from 0 (before ++ rest) part other ≡ before ++ replaced_from 0 rest part other
skipped_replaced [] rest part other h = refl
skipped_replaced (c ∷ cs) rest part other h = cond-false _ _ _ h.0 ∙ ap (λ l. c ∷ l) (skipped_replaced cs rest part other h.1)

replaced-nil : (inside : ℕ) (part other : List ℕ) → replaced_from inside [] part other ≡ []
replaced-nil zero part other = refl
replaced-nil (suc inside) part other = refl

pub none_replaced : (text part other : List ℕ) → Lacks part text [] → replaced_from 0 text part other ≡ text
none_replaced text part other h =
    ap (λ l. replaced_from 0 l part other) (sym (append-nil text)) ∙ skipped_replaced text [] part other h
    ∙ ap (λ l. text ++ l) (replaced-nil 0 part other) ∙ append-nil text

-- the rest of a part that was replaced
replaced_inside : (inside : ℕ) (text part other : List ℕ) → replaced_from inside text part other ≡ replaced_from 0 (drop inside text) part other
replaced_inside zero text part other = refl
replaced_inside (suc inside) [] part other = refl
replaced_inside (suc inside) (c ∷ cs) part other = replaced_inside inside cs part other

pub found_replaced : (rest part other : List ℕ) → 0 < length part → starts rest part ≡ true → replaced_from 0 rest part other ≡ other ++ replaced_from 0 (drop (length part) rest) part other
found_replaced rest [] other filled here = absurd (omega arith)
found_replaced [] (p ∷ ps) other filled here = absurd (true≢false (sym here))
found_replaced (c ∷ cs) (p ∷ ps) other filled here =
    let one_less : length (p ∷ ps) - 1 ≡ length ps = omega arith in
    cond-true _ _ _ here ∙ ap (λ n. other ++ replaced_from n cs (p ∷ ps) other) one_less
    ∙ ap (λ l. other ++ l) (replaced_inside (length ps) cs (p ∷ ps) other)

pub replace_at : (before rest part other : List ℕ) → 0 < length part → starts rest part ≡ true → Lacks part before rest → replaced_from 0 (before ++ rest) part other ≡ before ++ (other ++ replaced_from 0 (drop (length part) rest) part other)
replace_at before rest part other filled here lacks =
    skipped_replaced before rest part other lacks ∙ ap (λ l. before ++ l) (found_replaced rest part other filled here)
