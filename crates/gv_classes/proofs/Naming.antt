-- The first class of each name, once a class came.
use Rattle.std.proofs.Common.{◌≡◌, ℕ, Bool, true, false, not, if◌then◌else◌, List, [], ◌∷◌, ◌++◌, Option, Some, length, position, refl, ap, sym, ◌∙◌, arith}
use Rattle.std.specs.Prelude.{◌==◌, unwrap_or}
use Rattle.std.proofs.lemmas.Bool.Decides.{Decides-eqb, nat_tests}
use Rattle.std.proofs.lemmas.List.Folds.{position_or_len_push}
use Rattle.std.proofs.lemmas.List.Sums.{prefix_len-le-length}
use Rattle.std.proofs.lemmas.List.{length-append}
use Rattle.gv_classes.specs.declared.declared.Declared.{Declared}
use Rattle.gv_classes.specs.Classes.{named}

-- the first place at which a test passes, in a list with one more at its end
pub position-push : {X : Type 0} (p : X → Bool) (xs : List X) (y : X)
    → position p (xs ++ y ∷ []) ≡ (if p y then Some (unwrap_or (position p xs) (length xs)) else position p xs)
position-push {X} p xs y = by (p y) refl
  where
    by : (b : Bool) → p y ≡ b → position p (xs ++ y ∷ []) ≡ (if b then Some (unwrap_or (position p xs) (length xs)) else position p xs)
    by true e =
        let last = position_or_len_push p xs y in
        let most = prefix_len-le-length (λ x. not (p x)) xs in
        let more = length-append xs (y ∷ []) in
        grind (arith, nat_tests)
    by false e =
        let last = position_or_len_push p xs y in
        let most = prefix_len-le-length (λ x. not (p x)) xs in
        let more = length-append xs (y ∷ []) in
        grind (arith, nat_tests)

-- what is kept by name is right again, once a new class is noted
pub named-push : (classes : List Declared) (class : Declared) (old new : ℕ → Option ℕ) (id name : ℕ) → id ≡ length classes
    → ((other : ℕ) → old other ≡ named classes other)
    → ((other : ℕ) → new other ≡ (if class.name == other then Some (unwrap_or (old class.name) id) else old other))
    → new name ≡ named (classes ++ class ∷ []) name
named-push classes class old new id name last before noted =
    noted name ∙ by (class.name == name) refl ∙ sym (position-push (λ c. c.name == name) classes class)
  where
    by : (b : Bool) → (class.name == name) ≡ b
        → (if b then Some (unwrap_or (old class.name) id) else old name)
        ≡ (if b then Some (unwrap_or (named classes name) (length classes)) else named classes name)
    by true e = ap (λ n. Some (unwrap_or (old class.name) n)) last ∙ ap (λ o. Some (unwrap_or o (length classes))) (before class.name ∙ ap (named classes) ((Decides-eqb class.name name).0 e))
    by false e = before name
