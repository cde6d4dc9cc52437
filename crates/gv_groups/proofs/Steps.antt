-- A step of a loop over the entries of a map.
use Rattle.std.proofs.Common.{◌≡◌, ℕ, zero, suc, ◌+◌, List, [], ◌∷◌, drop, slice_get, Some, ap, sym, ◌∙◌, add-one}
use Rattle.gv_heap.specs.Entries.{with_entry}
use Rattle.gv_heap.specs.declared.entries.Slot.{Slot}
use Rattle.gv_heap.specs.declared.key.MapKey.{MapKey}
use Rattle.gv_groups.specs.Gathering.{with_entries}

drop_next : {X : Type 0} (xs : List X) (i : ℕ) (x : X) → slice_get xs i ≡ Some x → drop i xs ≡ x ∷ drop (suc i) xs
drop_next [] i x h = cc
drop_next (y ∷ ys) zero x h = cc
drop_next (y ∷ ys) (suc i) x h = drop_next ys i x h

pub gathered_more : (held : List (MapKey × Slot)) (place : ℕ) (e : MapKey × Slot) (key : MapKey) (old new : List (MapKey × Slot))
    → slice_get held place ≡ Some e → key ≡ e.0 → new ≡ with_entry old key e.1.shown e.1.value → with_entries new (drop (place + 1) held) ≡ with_entries old (drop place held)
gathered_more held place e key old new h k n =
    ap (λ es. with_entries es (drop (place + 1) held)) (n ∙ ap (λ q. with_entry old q e.1.shown e.1.value) k)
    ∙ ap (λ i. with_entries (with_entry old e.0 e.1.shown e.1.value) (drop i held)) (add-one place)
    ∙ ap (with_entries old) (sym (drop_next held place e h))

pub stacked_more : (rest : List (MapKey × Slot)) (key : MapKey) (e : MapKey × Slot) (old new whole : List (MapKey × Slot))
    → key ≡ e.0 → new ≡ (key, e.1) ∷ old → old ≡ rest → whole ≡ e ∷ rest → new ≡ whole
stacked_more rest key e old new whole k n o w = n ∙ ap (λ q. (q, e.1) ∷ old) k ∙ ap (λ es. e ∷ es) o ∙ sym w
