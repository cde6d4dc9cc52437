-- Elements that are put from the last one on: what stands behind a place, and what does behind the place before it.
use Rattle.std.proofs.Common.{◌≡◌, ℕ, zero, suc, ◌-◌, ◌<◌, List, [], ◌∷◌, drop, slice_get, unwrap_or, Some, None, refl, sym, ap, ◌∙◌, arith}
use Rattle.std.proofs.lemmas.Option.{none-some}
use Rattle.gv_base.specs.declared.value.Value.{Value}
use Rattle.gv_heap.specs.declared.entries.Slot.{Slot}
use Rattle.gv_heap.specs.declared.key.MapKey.{MapKey}
use Rattle.gv_texts.specs.Todo.{inner, entry, more_elements, more_entries}
use Rattle.gv_texts.specs.declared.todo.Mark.TheVariants.{Comma}
use Rattle.gv_texts.specs.declared.todo.Todo.{Todo}
use Rattle.gv_texts.specs.declared.todo.Todo.TheVariants.{Mark}

drop_got : {X : Type 0} (xs : List X) (i : ℕ) (x : X) → slice_get xs i ≡ Some x → drop i xs ≡ x ∷ drop (suc i) xs
drop_got [] i x h = absurd (none-some x h)
drop_got (y ∷ ys) zero x h = ap (λ o. unwrap_or o y ∷ ys) h
drop_got (y ∷ ys) (suc i) x h = drop_got ys i x h

pub drop_before : {X : Type 0} (xs : List X) (at : ℕ) (x : X) → 0 < at → slice_get xs (at - 1) ≡ Some x → drop (at - 1) xs ≡ x ∷ drop at xs
drop_before xs at x p h =
    let next : suc (at - 1) ≡ at = omega (arith, p) in
    drop_got xs (at - 1) x h ∙ ap (λ n. x ∷ drop n xs) next

pub element_put : (vs : List Value) (rest : List Todo) (at : ℕ) (v : Value) → 0 < at → slice_get vs (at - 1) ≡ Some v
    → Mark Comma ∷ inner v ∷ more_elements (drop at vs) rest ≡ more_elements (drop (at - 1) vs) rest
element_put vs rest at v p h = ap (λ l. more_elements l rest) (sym (drop_before vs at v p h))

pub entry_put : (es : List (MapKey × Slot)) (rest : List Todo) (at : ℕ) (e : MapKey × Slot) → 0 < at → slice_get es (at - 1) ≡ Some e
    → Mark Comma ∷ entry e.1 (more_entries (drop at es) rest) ≡ more_entries (drop (at - 1) es) rest
entry_put es rest at e p h = ap (λ l. more_entries l rest) (sym (drop_before es at e p h))
