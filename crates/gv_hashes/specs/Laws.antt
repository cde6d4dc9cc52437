-- The hash of a value about which nothing is asked, said without a walk.
use Rattle.std.specs.Prelude.{ℕ, ℤ, pos, List, [], ◌∷◌, Option, Some, None, option_and_then}
use Rattle.std.specs.Str.{chars}
use Rattle.gv_base.specs.Plain.{hash_of}
use Rattle.gv_base.specs.declared.value.Value.{Value}
use Rattle.gv_base.specs.declared.value.Value.TheVariants.{Class, Obj}
use Rattle.gv_classes.specs.declared.declared.Declared.{Declared}
use Rattle.gv_heap.specs.Heap.{HeapState, object_at}
use Rattle.gv_heap.specs.declared.entries.Slot.{Slot}
use Rattle.gv_heap.specs.declared.key.MapKey.{MapKey}
use Rattle.gv_heap.specs.declared.object.Object.{Object}
use Rattle.gv_heap.specs.declared.object.Object.TheVariants as object
use Rattle.gv_rows.specs.Values.{class_text, elements_of}
use Rattle.gv_hashes.specs.Rules.{joined, summed, text_hash}

-- a value by itself; what has others in it, or is asked, has none here
abbrev pub object_alone : Option Object → Option ℤ
object_alone (Some (object.Text t)) = Some (text_hash (chars t))
object_alone (Some (object.GString parts)) = None
object_alone (Some (object.List elements)) = None
object_alone (Some (object.Range range)) = None
object_alone (Some (object.Map entries)) = None
object_alone (Some (object.Instance instance)) = None
object_alone other = Some (pos 0)

module _ (names : List (List ℕ)) (classes : List Declared) (heap : HeapState) where
  abbrev pub alone : Value → Option ℤ
  alone (Obj id) = object_alone (object_at heap id)
  alone (Class c) = Some (text_hash (chars (class_text names classes c)))
  alone v = hash_of v

  -- 31 times the hash and that of the element, one by one
  abbrev pub elements_hash : ℤ → List Value → Option ℤ
  elements_hash hash [] = Some hash
  elements_hash hash (v ∷ vs) = option_and_then (λ element. elements_hash (joined hash element) vs) (alone v)

  -- the sum over the entries, each with its key as it was put
  abbrev pub entries_hash : ℤ → List (MapKey × Slot) → Option ℤ
  entries_hash sum [] = Some sum
  entries_hash sum (e ∷ es) = option_and_then (λ key. option_and_then (λ value. entries_hash (summed sum key value) es) (alone e.1.value)) (alone e.1.shown)

  abbrev pub object_hash : Option Object → Option ℤ
  object_hash (Some (object.List vs)) = elements_hash (pos 1) vs
  object_hash (Some (object.Range range)) = elements_hash (pos 1) (elements_of range)
  object_hash (Some (object.Map es)) = entries_hash (pos 0) es
  object_hash other = object_alone other

  abbrev pub unasked_hash : Value → Option ℤ
  unasked_hash (Obj id) = object_hash (object_at heap id)
  unasked_hash v = alone v
