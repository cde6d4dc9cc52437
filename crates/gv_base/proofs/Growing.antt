-- What a table keeps for its texts, once a new text came.
use Rattle.std.proofs.Common.{◌≡◌, ◌<◌, get_or, ℕ, Bool, true, false, not, if◌then◌else◌, List, [], ◌∷◌, ◌++◌, map, Option, Some, length, bytes_eq, refl, ap, sym, ◌∙◌, arith}
use Rattle.std.specs.List.{list_any}
use Rattle.std.proofs.lemmas.Bool.Decides.{nat_tests}
use Rattle.std.proofs.lemmas.List.Folds.{position_or_len_push}
use Rattle.std.proofs.lemmas.List.Sums.{prefix_len-le-length}
use Rattle.std.proofs.lemmas.Slice.Eq.{bytes_eq-Decides}
use Rattle.std.proofs.lemmas.List.{length-append, map-append, get_or-map}
use Rattle.std.proofs.lemmas.Option.{unwrap_or-slice_get}
use Rattle.gv_base.proofs.Tables.{position_or_len-none}
use Rattle.gv_base.specs.Names.{name_of, text_of, accessor_text}
use Rattle.gv_base.specs.Accessors.{accessors_of, all_accessors, with_new, AreProperties}
use Rattle.gv_base.specs.declared.accessors.Accessors.{Accessors}
use Rattle.gv_base.specs.declared.accessors.Properties.{Properties}

-- a name in a table that has one text more
pub name_of-push : (names : List (List ℕ)) (text sought : List ℕ) → list_any (bytes_eq text) names ≡ false
    → name_of (names ++ text ∷ []) sought ≡ (if bytes_eq sought text then Some (length names) else name_of names sought)
name_of-push names text sought h = by (bytes_eq sought text) refl
  where
    by : (b : Bool) → bytes_eq sought text ≡ b → name_of (names ++ text ∷ []) sought ≡ (if b then Some (length names) else name_of names sought)
    by true e =
        let same : sought ≡ text = (bytes_eq-Decides sought text).0 e in
        let none = position_or_len-none (bytes_eq sought) names (rw same h) in
        let last = position_or_len_push (bytes_eq sought) names text in
        let more = length-append names (text ∷ []) in
        grind (arith, nat_tests)
    by false e =
        let last = position_or_len_push (bytes_eq sought) names text in
        let most = prefix_len-le-length (λ other. not (bytes_eq sought other)) names in
        let more = length-append names (text ∷ []) in
        grind (arith, nat_tests)

map-same : {A B : Type 0} (f g : A → B) → ((x : A) → f x ≡ g x) → (xs : List A) → map f xs ≡ map g xs
map-same f g h [] = refl
map-same f g h (x ∷ xs) = let first = h x in let rest = map-same f g h xs in cc

-- the accessors of each text, once a name came
pub map-with_new : (names : List (List ℕ)) (text : List ℕ) (found : Option Properties) → list_any (bytes_eq text) names ≡ false → AreProperties text found
    → map (with_new found (length names) (accessors_of names)) (names ++ text ∷ []) ≡ all_accessors (names ++ text ∷ [])
map-with_new names text found h are = map-same _ _ each (names ++ text ∷ [])
  where
    each : (other : List ℕ) → with_new found (length names) (accessors_of names) other ≡ accessors_of (names ++ text ∷ []) other
    each other =
        let getter = ap (λ b. if b then Some (length names) else name_of names (accessor_text false other)) (sym (are false other)) ∙ sym (name_of-push names text (accessor_text false other) h) in
        let setter = ap (λ b. if b then Some (length names) else name_of names (accessor_text true other)) (sym (are true other)) ∙ sym (name_of-push names text (accessor_text true other) h) in
        λ i. record { getter = getter i; setter = setter i }

-- what is kept is right again, once the new text has its own accessors and its name is noted
pub kept-after : (names texts : List (List ℕ)) (text : List ℕ) (found : Option Properties) (name : ℕ) (own : Accessors) (before grown after : List Accessors)
    → list_any (bytes_eq text) names ≡ false → AreProperties text found
    → before ≡ all_accessors names → grown ≡ before ++ own ∷ [] → own ≡ accessors_of names text → texts ≡ names ++ text ∷ [] → name ≡ length names
    → ((of : List ℕ → Accessors) → grown ≡ map of texts → after ≡ map (with_new found name of) texts)
    → after ≡ all_accessors texts
kept-after names texts text found name own before grown after new are kept push mine last at noted =
    noted (accessors_of names) (rw (last, map-append (accessors_of names) names (text ∷ []), push, kept, mine) refl) ∙ rw (last, at) (map-with_new names text found new are)

-- what is kept for a name
pub kept_at : (names : List (List ℕ)) (kept : List Accessors) (name : ℕ) (otherwise : Accessors) → kept ≡ all_accessors names → name < length names → get_or kept name otherwise ≡ accessors_of names (text_of names name)
kept_at names kept name otherwise same within = rw same (get_or-map (accessors_of names) names name [] otherwise within ∙ ap (accessors_of names) (sym (unwrap_or-slice_get names name [])))
