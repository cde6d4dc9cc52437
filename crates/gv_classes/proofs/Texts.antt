-- A name keeps its number while the table of names grows.
use Rattle.std.proofs.Common.{◌≡◌, ℕ, Bool, true, false, if◌then◌else◌, List, [], ◌∷◌, ◌++◌, Some, length, position, bytes_eq, map, refl, ap, sym, ◌∙◌, append_assoc}
use Rattle.std.specs.Borrow.{Bor}
use Rattle.std.specs.Prelude.{unwrap_or}
use Rattle.std.specs.List.{list_any}
use Rattle.gv_base.specs.Names.{name_of, with_name}
use Rattle.gv_classes.specs.BuiltIn.{texts_of, with_texts, built_in_class}
use Rattle.gv_classes.specs.declared.declared.Declared.{Declared}
use Rattle.gv_classes.proofs.Naming.{position-push}

position-kept : {X : Type 0} (p : X → Bool) (xs : List X) (y : X) (n : ℕ) → position p xs ≡ Some n → position p (xs ++ y ∷ []) ≡ Some n
position-kept p xs y n h = position-push p xs y ∙ ap (λ o. if p y then Some (unwrap_or o (length xs)) else o) h ∙ by (p y)
  where
    by : (b : Bool) → (if b then Some n else Some n) ≡ Some n
    by true = refl
    by false = refl

pub name_of-with_name : (names : List (List ℕ)) (text sought : List ℕ) (n : ℕ) → name_of names sought ≡ Some n → name_of (with_name names text) sought ≡ Some n
name_of-with_name names text sought n h = by (list_any (bytes_eq text) names)
  where
    by : (b : Bool) → name_of (if b then names else names ++ text ∷ []) sought ≡ Some n
    by true = h
    by false = position-kept (bytes_eq sought) names text n h

pub name_of-with_texts : (names : List (List ℕ)) (rows : List (List ℕ × List ℕ)) (sought : List ℕ) (n : ℕ) → name_of names sought ≡ Some n → name_of (with_texts names rows) sought ≡ Some n
name_of-with_texts names [] sought n h = h
name_of-with_texts names (row ∷ rows) sought n h =
    name_of-with_texts (with_name (with_name names row.0) row.1) rows sought n
    (name_of-with_name (with_name names row.0) row.1 sought n (name_of-with_name names row.0 sought n h))

-- a built-in class is the same in a table that grew
pub built_in_class-with_texts : (names : List (List ℕ)) (rows : List (List ℕ × List ℕ)) (row : List ℕ × List ℕ) (name above : ℕ)
    → name_of names row.0 ≡ Some name → name_of names row.1 ≡ Some above → built_in_class names row ≡ built_in_class (with_texts names rows) row
built_in_class-with_texts names rows row name above h k =
    let n = h ∙ sym (name_of-with_texts names rows row.0 name h) in
    let a = k ∙ sym (name_of-with_texts names rows row.1 above k) in
    λ i. record {
      name = unwrap_or (n i) 0;
      above = unwrap_or (a i) 0;
      intercepts = false;
      place = record { file = 0; line = 1; column = 1 };
      members = [];
    }

-- one row of a table on: the names, and the classes, that are left
module _ (before after : List (List ℕ)) (row : Bor (List ℕ) × Bor (List ℕ)) (left rest : List (Bor (List ℕ) × Bor (List ℕ))) (class : Declared)
    (first : left ≡ row ∷ rest) (put : after ≡ with_name (with_name before row.0.now) row.1.now) where
  pub with_texts-step : with_texts after (texts_of rest) ≡ with_texts before (texts_of left)
  with_texts-step = rw (first, put) refl

  pub classes-step : (table more : List Declared) (all : List (List ℕ × List ℕ))
      → name_of after row.0.now ≡ Some class.name → name_of after row.1.now ≡ Some class.above → class ≡ built_in_class after (row.0.now, row.1.now)
      → more ≡ table ++ class ∷ []
      → table ++ map (built_in_class (with_texts before (texts_of left))) (texts_of left) ≡ map (built_in_class (with_texts before (texts_of left))) all
      → more ++ map (built_in_class (with_texts after (texts_of rest))) (texts_of rest) ≡ map (built_in_class (with_texts after (texts_of rest))) all
  classes-step table more all name above is pushed before_is =
      let final = with_texts after (texts_of rest) in
      let grown = built_in_class-with_texts after (texts_of rest) (row.0.now, row.1.now) class.name class.above name above in
      ap (λ t. t ++ map (built_in_class final) (texts_of rest)) pushed
      ∙ append_assoc table (class ∷ []) (map (built_in_class final) (texts_of rest))
      ∙ ap (λ d. table ++ (d ∷ map (built_in_class final) (texts_of rest))) (is ∙ grown)
      ∙ ap (λ rows. table ++ map (built_in_class final) (texts_of rows)) (sym first)
      ∙ rw with_texts-step before_is
