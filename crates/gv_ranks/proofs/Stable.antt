-- A list in order, in which elements that tie stand as they did, is what `sorted` gives.
use Rattle.std.proofs.Common.{◌≡◌, ℕ, zero, suc, ◌<◌, ◌≤◌, Bool, true, false, not, ◌&&◌, cond, List, [], ◌∷◌, length, get_or, filter, refl, sym, ap, ◌∙◌, inl, inr, suc-le-suc, zero-le}
use Rattle.std.proofs.lemmas.Bool.{cond-true, cond-false, cases_Bool, and_parts, not-true}
use Rattle.std.proofs.lemmas.List.Sorted.{sorted_far}
use Rattle.std.specs.Cmp.{IsStrictWeakOrder}
use Rattle.std.specs.List.Sorted.{ties, IsSortedBy, IsStableBy}
use Rattle.gv_ranks.specs.Sorted.{put, sorted}

both_false : (a b : Bool) → a ≡ false → b ≡ false → (not a && not b) ≡ true
both_false a b h g = rw (h, g) refl

filter-kept : {X : Type 0} (p : X → Bool) (y : X) (ys : List X) → p y ≡ true → filter p (y ∷ ys) ≡ y ∷ filter p ys
filter-kept p y ys h = cond-true _ _ _ h

filter-dropped : {X : Type 0} (p : X → Bool) (y : X) (ys : List X) → p y ≡ false → filter p (y ∷ ys) ≡ filter p ys
filter-dropped p y ys h = cond-false _ _ _ h

module _ {X : Type 0} (lt : X → X → Bool) (o : IsStrictWeakOrder lt) where
  -- ---- what ties

  irreflexive : (x : X) → lt x x ≡ false
  irreflexive x = elim (cases_Bool (lt x x)) [ inl holds ↦ o.one_way x x holds | inr fails ↦ fails ]

  ties_from : (x y : X) → lt x y ≡ false → lt y x ≡ false → ties lt x y ≡ true
  ties_from x y h g = both_false (lt x y) (lt y x) h g

  ties_itself : (x : X) → ties lt x x ≡ true
  ties_itself x = ties_from x x (irreflexive x) (irreflexive x)

  not_before : (x y : X) → ties lt x y ≡ true → lt x y ≡ false
  not_before x y h = not-true (lt x y) (and_parts (not (lt x y)) (not (lt y x)) h).0

  not_behind : (x y : X) → ties lt x y ≡ true → lt y x ≡ false
  not_behind x y h = not-true (lt y x) (and_parts (not (lt x y)) (not (lt y x)) h).1

  -- ---- `put`

  put-past : (x y : X) (ys : List X) → lt y x ≡ true → put lt x (y ∷ ys) ≡ y ∷ put lt x ys
  put-past x y ys h = cond-true _ _ _ h

  put-here : (x y : X) (ys : List X) → lt y x ≡ false → put lt x (y ∷ ys) ≡ x ∷ y ∷ ys
  put-here x y ys h = cond-false _ _ _ h

  filter-put : (z x : X) (ys : List X) → filter (ties lt z) (put lt x ys) ≡ filter (ties lt z) (x ∷ ys)
  filter-put z x [] = refl
  filter-put z x (y ∷ ys) =
      let p = ties lt z in
      elim (cases_Bool (lt y x)) [
        | inr here ↦ ap (filter p) (put-here x y ys here)
        | inl past ↦
            ap (filter p) (put-past x y ys past)
            ∙ elim (cases_Bool (p y)) [
              | inr without ↦
                  filter-dropped p y (put lt x ys) without ∙ filter-put z x ys
                  ∙ ap (λ l. cond (p x) (x ∷ l) l) (sym (filter-dropped p y ys without))
              | inl with ↦
                  elim (cases_Bool (p x)) [
                    | inl both ↦ let clash = sym past ∙ o.chain y z x (not_behind z y with) (not_before z x both) in cc
                    | inr only ↦
                        filter-kept p y (put lt x ys) with ∙ ap (λ l. y ∷ l) (filter-put z x ys ∙ filter-dropped p x ys only)
                        ∙ sym (filter-dropped p x (y ∷ ys) only ∙ filter-kept p y ys with)
                  ]
            ]
      ]

  filter-sorted : (z : X) (xs : List X) → filter (ties lt z) (sorted lt xs) ≡ filter (ties lt z) xs
  filter-sorted z [] = refl
  filter-sorted z (x ∷ xs) = filter-put z x (sorted lt xs) ∙ ap (λ l. cond (ties lt z x) (x ∷ l) l) (filter-sorted z xs)

  -- ---- lists in order

  abbrev NoneBefore : X → List X → Type 0
  NoneBefore x [] = Unit {0}
  NoneBefore x (y ∷ ys) = (lt y x ≡ false) × NoneBefore x ys

  abbrev Rises : List X → Type 0
  Rises [] = Unit {0}
  Rises (y ∷ ys) = NoneBefore y ys × Rises ys

  NoneBefore-chain : (x y : X) (ys : List X) → lt y x ≡ false → NoneBefore y ys → NoneBefore x ys
  NoneBefore-chain x y [] h n = tt
  NoneBefore-chain x y (z ∷ ys) h n = (o.chain z y x n.0 h, NoneBefore-chain x y ys h n.1)

  NoneBefore-put : (z x : X) (ys : List X) → lt x z ≡ false → NoneBefore z ys → NoneBefore z (put lt x ys)
  NoneBefore-put z x [] h n = (h, tt)
  NoneBefore-put z x (y ∷ ys) h n =
      elim (cases_Bool (lt y x)) [
        | inl past ↦ rw (put-past x y ys past) (n.0, NoneBefore-put z x ys h n.1)
        | inr here ↦ rw (put-here x y ys here) (h, n)
      ]

  Rises-put : (x : X) (ys : List X) → Rises ys → Rises (put lt x ys)
  Rises-put x [] h = (tt, tt)
  Rises-put x (y ∷ ys) h =
      elim (cases_Bool (lt y x)) [
        | inl past ↦ rw (put-past x y ys past) (NoneBefore-put y x ys (o.one_way y x past) h.0, Rises-put x ys h.1)
        | inr here ↦ rw (put-here x y ys here) ((here, NoneBefore-chain x y ys here h.0), h)
      ]

  Rises-sorted : (xs : List X) → Rises (sorted lt xs)
  Rises-sorted [] = tt
  Rises-sorted (x ∷ xs) = Rises-put x (sorted lt xs) (Rises-sorted xs)

  NoneBefore-at : (x : X) (ys : List X) → ((j : ℕ) → j < length ys → lt (get_or ys j x) x ≡ false) → NoneBefore x ys
  NoneBefore-at x [] h = tt
  NoneBefore-at x (y ∷ ys) h = (h zero (suc-le-suc zero-le), NoneBefore-at x ys (λ j below. h (suc j) (suc-le-suc below)))

  Rises-far : (ys : List X) → ((i j : ℕ) (d : X) → i ≤ j → j < length ys → lt (get_or ys j d) (get_or ys i d) ≡ false) → Rises ys
  Rises-far [] h = tt
  Rises-far (y ∷ ys) h = (
    NoneBefore-at y ys (λ j below. h zero (suc j) y zero-le (suc-le-suc below)),
    Rises-far ys (λ i j d le below. h (suc i) (suc j) d (suc-le-suc le) (suc-le-suc below)),
  )

  -- x ties with one of these, and none of these is before z
  found : (z x : X) (ys : List X) (w : X) (ws : List X) → NoneBefore z ys → filter (ties lt x) ys ≡ w ∷ ws → lt x z ≡ false
  found z x [] w ws n e = cc
  found z x (y ∷ ys) w ws n e =
      elim (cases_Bool (ties lt x y)) [
        | inl with ↦ o.chain x y z (not_before x y with) n.0
        | inr without ↦ found z x ys w ws n.1 (sym (filter-dropped (ties lt x) y ys without) ∙ e)
      ]

  -- ---- two lists in order in which the same ties with each value

  same_lists : (ys zs : List X) → Rises ys → Rises zs → ((x : X) → filter (ties lt x) ys ≡ filter (ties lt x) zs) → ys ≡ zs
  same_lists [] [] left right same = refl
  same_lists [] (z ∷ zs) left right same =
      let clash = same z ∙ filter-kept (ties lt z) z zs (ties_itself z) in cc
  same_lists (y ∷ ys) [] left right same =
      let clash = sym (same y) ∙ filter-kept (ties lt y) y ys (ties_itself y) in cc
  same_lists (y ∷ ys) (z ∷ zs) left right same =
      let at_y = filter-kept (ties lt y) y ys (ties_itself y) in
      let at_z = filter-kept (ties lt z) z zs (ties_itself z) in
      let up : lt y z ≡ false = found z y (z ∷ zs) y (filter (ties lt y) ys) (irreflexive z, right.0) (sym (same y) ∙ at_y) in
      let down : lt z y ≡ false = found y z (y ∷ ys) z (filter (ties lt z) zs) (irreflexive y, left.0) (same z ∙ at_z) in
      let heads = sym at_y ∙ same y ∙ filter-kept (ties lt y) z zs (ties_from y z up down) in
      let head : y ≡ z = cc in
      let tails : (x : X) → filter (ties lt x) ys ≡ filter (ties lt x) zs =
      λ x. elim (cases_Bool (ties lt x y)) [
        | inl with ↦
            let both = sym (filter-kept (ties lt x) y ys with) ∙ same x ∙ filter-kept (ties lt x) z zs (ap (ties lt x) (sym head) ∙ with) in cc
        | inr without ↦
            sym (filter-dropped (ties lt x) y ys without) ∙ same x ∙ filter-dropped (ties lt x) z zs (ap (ties lt x) (sym head) ∙ without)
      ] in
      ap (λ w. w ∷ ys) head ∙ ap (λ l. z ∷ l) (same_lists ys zs left.1 right.1 tails)

  pub sorted-from_sort : (xs ys : List X) → IsSortedBy lt ys → IsStableBy lt xs ys → ys ≡ sorted lt xs
  sorted-from_sort xs ys up stable =
      same_lists ys (sorted lt xs) (Rises-far ys (sorted_far lt o ys up)) (Rises-sorted xs) (λ x. stable x ∙ sym (filter-sorted x xs))
