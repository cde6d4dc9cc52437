-- Keys that differ.
use Rattle.std.proofs.Common.{◌≡◌, Bool, true, false, cond, List, [], ◌∷◌, ◌++◌, Some, is_some, refl, ap, sym, subst, ◌∙◌}
use Rattle.std.specs.List.{AllByRecursion, IsDistinct}
use Rattle.std.specs.Map.{keys_of, lookup}
use Rattle.std.proofs.lemmas.Map.Keys.{IsDistinct-head, IsDistinct-tail}
use Rattle.gv_heap.specs.Entries.{has_key}
use Rattle.gv_heap.specs.Keys.{same_key, same_key_Decides}
use Rattle.gv_heap.specs.declared.entries.Slot.{Slot}
use Rattle.gv_heap.specs.declared.key.MapKey.{MapKey}

flipped : (x y : MapKey) → same_key y x ≡ false → same_key x y ≡ false
flipped x y h = by (same_key x y) refl
  where
    by : (b : Bool) → same_key x y ≡ b → b ≡ false
    by true e =
        let same = (same_key_Decides x y).0 e in
        let again : same_key y x ≡ true = ap (λ z. same_key z x) (sym same) ∙ (same_key_Decides x x).1 refl in
        cc
    by false e = refl

among : (P : MapKey → Type 0) (front : List MapKey) (k : MapKey) (ks : List MapKey) → AllByRecursion P (front ++ k ∷ ks) → P k
among P [] k ks h = h.0
among P (x ∷ front) k ks h = among P front k ks h.1

-- a key that differs from those before it isn't there
pub apart_new : (es : List (MapKey × Slot)) (k : MapKey) (ks : List MapKey) → IsDistinct same_key (keys_of es ++ k ∷ ks) → has_key es k ≡ false
apart_new [] k ks h = refl
apart_new (e ∷ es) k ks h =
    let other = flipped k e.0 (among (λ y. same_key e.0 y ≡ false) (keys_of es) k ks (IsDistinct-head same_key e.0 (keys_of es ++ k ∷ ks) h)) in
    ap (λ b. is_some (cond b (Some e.1) (lookup (same_key k) es))) other ∙ apart_new es k ks (IsDistinct-tail same_key e.0 (keys_of es ++ k ∷ ks) h)

-- the keys with one more, and those that are left
pub keys_more : (es : List (MapKey × Slot)) (e : MapKey × Slot) (ks : List MapKey) → keys_of (es ++ e ∷ []) ++ ks ≡ keys_of es ++ e.0 ∷ ks
keys_more [] e ks = refl
keys_more (d ∷ es) e ks = ap (λ more. d.0 ∷ more) (keys_more es e ks)

pub apart_next : (es : List (MapKey × Slot)) (e : MapKey × Slot) (ks : List MapKey) → IsDistinct same_key (keys_of es ++ e.0 ∷ ks) → IsDistinct same_key (keys_of (es ++ e ∷ []) ++ ks)
apart_next es e ks h = subst (IsDistinct same_key) (sym (keys_more es e ks)) h
