-- A walk that asks nothing comes to the hash that the rules say.
use Rattle.std.proofs.Common.{◌≡◌, ℕ, ℤ, pos, List, [], ◌∷◌, Option, Some, None, option_and_then, unwrap_or, Result, Ok, Err, IfSome, IfOk, refl, ap, ◌∙◌}
use Rattle.std.proofs.lemmas.Option.{none-some}
use Rattle.gv_base.specs.declared.value.Value.{Value}
use Rattle.gv_base.specs.declared.value.Value.TheVariants.{Null, Bool as Truth, Int, Long, Class, Obj}
use Rattle.gv_classes.specs.declared.declared.Declared.{Declared}
use Rattle.gv_heap.specs.Heap.{HeapState, object_at}
use Rattle.gv_heap.specs.declared.entries.Slot.{Slot}
use Rattle.gv_heap.specs.declared.key.MapKey.{MapKey}
use Rattle.gv_heap.specs.declared.object.Object.{Object}
use Rattle.gv_heap.specs.declared.object.Object.TheVariants as object
use Rattle.gv_rows.specs.Values.{elements_of}
use Rattle.gv_hashes.specs.Hashes.{object_step, hash_step, until_asked, root_turn, started}
use Rattle.gv_hashes.specs.Laws.{object_alone, alone, elements_hash, entries_hash, object_hash, unasked_hash}
use Rattle.gv_hashes.specs.Opened.{elements, entries}
use Rattle.gv_hashes.specs.Rules.{joined, summed}
use Rattle.gv_hashes.specs.declared.step.Hashed.{Hashed}
use Rattle.gv_hashes.specs.declared.step.Hashed.TheVariants as hashed
use Rattle.gv_hashes.specs.declared.todo.Todo.{Todo}
use Rattle.gv_hashes.specs.declared.todo.Todo.TheVariants.{Inner, Element, Entry}
use Rattle.gv_hashes.specs.declared.walk.HashTurn.{HashTurn}
use Rattle.gv_hashes.specs.declared.walk.HashTurn.TheVariants.{Is}

object_alone_step : (o : Option Object) (hash : ℤ) → object_alone o ≡ Some hash → object_step o ≡ hashed.Is hash
object_alone_step (Some (object.Text t)) hash p = ap (λ h. hashed.Is (unwrap_or h (pos 0))) p
object_alone_step (Some (object.GString parts)) hash p = absurd (none-some hash p)
object_alone_step (Some (object.List elements)) hash p = absurd (none-some hash p)
object_alone_step (Some (object.Range range)) hash p = absurd (none-some hash p)
object_alone_step (Some (object.Map entries)) hash p = absurd (none-some hash p)
object_alone_step (Some (object.Instance instance)) hash p = absurd (none-some hash p)
object_alone_step (Some (object.Closure closure)) hash p = ap (λ h. hashed.Is (unwrap_or h (pos 0))) p
object_alone_step (Some (object.Entry key value)) hash p = ap (λ h. hashed.Is (unwrap_or h (pos 0))) p
object_alone_step (Some (object.Meta m)) hash p = ap (λ h. hashed.Is (unwrap_or h (pos 0))) p
object_alone_step None hash p = ap (λ h. hashed.Is (unwrap_or h (pos 0))) p

module _ (names : List (List ℕ)) (classes : List Declared) (heap : HeapState) where
  alone_step : (v : Value) (hash : ℤ) → alone names classes heap v ≡ Some hash → hash_step names classes heap v ≡ hashed.Is hash
  alone_step (Obj id) hash p = object_alone_step (object_at heap id) hash p
  alone_step (Class c) hash p = ap (λ h. hashed.Is (unwrap_or h (pos 0))) p
  alone_step Null hash p = ap (λ h. hashed.Is (unwrap_or h (pos 0))) p
  alone_step (Truth b) hash p = ap (λ h. hashed.Is (unwrap_or h (pos 0))) p
  alone_step (Int n) hash p = ap (λ h. hashed.Is (unwrap_or h (pos 0))) p
  alone_step (Long n) hash p = ap (λ h. hashed.Is (unwrap_or h (pos 0))) p

  -- a value in another one, whose hash is known
  inner_step : (v : Value) (rest : List Todo) (hashes : List ℤ) (inside : ℕ) (hash : ℤ) → alone names classes heap v ≡ Some hash
      → until_asked names classes heap (Inner v ∷ rest) hashes inside ≡ until_asked names classes heap rest (hash ∷ hashes) inside
  inner_step v rest hashes inside hash p = rw (alone_step v hash p) refl

  -- the value of an option that leads to another one
  both : (o : Option ℤ) (go : ℤ → Option ℤ) (total : ℤ) → option_and_then go o ≡ Some total → (hash : ℤ) × (o ≡ Some hash) × (go hash ≡ Some total)
  both None go total p = absurd (none-some total p)
  both (Some hash) go total p = (hash, refl, p)

  elements_walk : (vs : List Value) (rest : List Todo) (hashes : List ℤ) (inside : ℕ) (hash total : ℤ) → elements_hash names classes heap hash vs ≡ Some total
      → until_asked names classes heap (elements vs rest) (hash ∷ hashes) inside ≡ until_asked names classes heap rest (total ∷ hashes) inside
  elements_walk [] rest hashes inside hash total p = ap (λ h. until_asked names classes heap rest (unwrap_or h (pos 0) ∷ hashes) inside) p
  elements_walk (v ∷ vs) rest hashes inside hash total p =
      let found = both (alone names classes heap v) (λ element. elements_hash names classes heap (joined hash element) vs) total p in
      inner_step v (Element ∷ elements vs rest) (hash ∷ hashes) inside found.0 found.1
      ∙ elements_walk vs rest hashes inside (joined hash found.0) total found.2

  entries_walk : (es : List (MapKey × Slot)) (rest : List Todo) (hashes : List ℤ) (inside : ℕ) (sum total : ℤ) → entries_hash names classes heap sum es ≡ Some total
      → until_asked names classes heap (entries es rest) (sum ∷ hashes) inside ≡ until_asked names classes heap rest (total ∷ hashes) inside
  entries_walk [] rest hashes inside sum total p = ap (λ h. until_asked names classes heap rest (unwrap_or h (pos 0) ∷ hashes) inside) p
  entries_walk (e ∷ es) rest hashes inside sum total p =
      let key = both (alone names classes heap e.1.shown) (λ key. option_and_then (λ value. entries_hash names classes heap (summed sum key value) es) (alone names classes heap e.1.value)) total p in
      let value = both (alone names classes heap e.1.value) (λ value. entries_hash names classes heap (summed sum key.0 value) es) total key.2 in
      inner_step e.1.shown (Inner e.1.value ∷ Entry ∷ entries es rest) (sum ∷ hashes) inside key.0 key.1
      ∙ inner_step e.1.value (Entry ∷ entries es rest) (key.0 ∷ sum ∷ hashes) inside value.0 value.1
      ∙ entries_walk es rest hashes inside (summed sum key.0 value.0) total value.2

  known_turn : (v : Value) (how : Hashed) (hash : ℤ) → how ≡ hashed.Is hash → root_turn names classes heap v how ≡ Is hash
  known_turn v how hash is = ap (λ h. root_turn names classes heap v h) is

  -- what the object itself begins
  object_turn : (id : ℕ) (o : Option Object) (hash : ℤ) → object_at heap id ≡ o → object_hash names classes heap o ≡ Some hash
      → root_turn names classes heap (Obj id) (object_step o) ≡ Is hash
  object_turn id (Some (object.List vs)) hash is p = rw is (elements_walk vs [] [] 0 (pos 1) hash p)
  object_turn id (Some (object.Range range)) hash is p = rw is (elements_walk (elements_of range) [] [] 0 (pos 1) hash p)
  object_turn id (Some (object.Map es)) hash is p = rw is (entries_walk es [] [] 0 (pos 0) hash p)
  object_turn id (Some (object.Text t)) hash is p = known_turn (Obj id) (object_step (Some (object.Text t))) hash (object_alone_step (Some (object.Text t)) hash p)
  object_turn id (Some (object.GString parts)) hash is p = absurd (none-some hash p)
  object_turn id (Some (object.Instance instance)) hash is p = absurd (none-some hash p)
  object_turn id (Some (object.Closure closure)) hash is p = known_turn (Obj id) (object_step (Some (object.Closure closure))) hash (object_alone_step (Some (object.Closure closure)) hash p)
  object_turn id (Some (object.Entry key value)) hash is p = known_turn (Obj id) (object_step (Some (object.Entry key value))) hash (object_alone_step (Some (object.Entry key value)) hash p)
  object_turn id (Some (object.Meta m)) hash is p = known_turn (Obj id) (object_step (Some (object.Meta m))) hash (object_alone_step (Some (object.Meta m)) hash p)
  object_turn id None hash is p = known_turn (Obj id) (object_step None) hash (object_alone_step None hash p)

  value_turn : (v : Value) (hash : ℤ) → unasked_hash names classes heap v ≡ Some hash → started names classes heap v ≡ Is hash
  value_turn (Obj id) hash p = object_turn id (object_at heap id) hash refl p
  value_turn (Class c) hash p = known_turn (Class c) (hash_step names classes heap (Class c)) hash (alone_step (Class c) hash p)
  value_turn Null hash p = known_turn Null (hash_step names classes heap Null) hash (alone_step Null hash p)
  value_turn (Truth b) hash p = known_turn (Truth b) (hash_step names classes heap (Truth b)) hash (alone_step (Truth b) hash p)
  value_turn (Int n) hash p = known_turn (Int n) (hash_step names classes heap (Int n)) hash (alone_step (Int n) hash p)
  value_turn (Long n) hash p = known_turn (Long n) (hash_step names classes heap (Long n)) hash (alone_step (Long n) hash p)

  if_known : (known : Option ℤ) (turn : HashTurn) → ((hash : ℤ) → known ≡ Some hash → turn ≡ Is hash) → IfSome known (λ hash. turn ≡ Is hash)
  if_known None turn h = tt
  if_known (Some hash) turn h = h hash refl

  pub unasked_result : {E : Type 0} (v : Value) (result : Result HashTurn E) → IfOk result (λ turn. turn ≡ started names classes heap v)
      → IfOk result (λ turn. IfSome (unasked_hash names classes heap v) (λ hash. turn ≡ Is hash))
  unasked_result v (Ok turn) is = if_known (unasked_hash names classes heap v) turn (λ hash p. is ∙ value_turn v hash p)
  unasked_result v (Err error) is = tt
