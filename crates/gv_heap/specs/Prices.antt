-- What things cost, in cells. Each object is one, and what it holds comes on top.
use Rattle.std.specs.Prelude.{ℕ, ◌+◌, ◌/◌, Bool, true, false, not, List, length, count_by, if◌then◌else◌}
use Rattle.gv_base.specs.declared.value.Value.{Value}
use Rattle.gv_heap.specs.Entries.{has_key}
use Rattle.gv_heap.specs.declared.entries.Slot.{Slot}
use Rattle.gv_heap.specs.declared.key.MapKey.{MapKey}
use Rattle.gv_heap.specs.declared.closure.Origin.{Origin}
use Rattle.gv_heap.specs.declared.closure.Origin.TheVariants.{Written, Bound as BoundOrigin}
use Rattle.gv_heap.specs.declared.object.Part.{Part}
use Rattle.gv_heap.specs.declared.object.Part.TheVariants.{Piece, Value as ValuePart, Lazy}

-- a list with its elements, and an instance with its fields: one each
abbrev pub filled_price : List Value → ℕ
filled_price items = 1 + length items

-- a text: one for each eight bytes begun
abbrev pub text_price : List ℕ → ℕ
text_price bytes = 1 + (length bytes + 7) / 8

-- a GString: one for each part but the fixed texts
abbrev pub is_piece : Part → Bool
is_piece (Piece text) = true
is_piece (ValuePart value) = false
is_piece (Lazy closure) = false

abbrev pub gstring_price : List Part → ℕ
gstring_price parts = 1 + count_by (λ part. not (is_piece part)) parts

-- a closure, and each copy of it: one for each variable that it captures
abbrev pub closure_price : Origin → ℕ
closure_price (Written body parameters owner captured) = 1 + length captured
closure_price (BoundOrigin bound) = 1

-- an entry: only where its key is new
abbrev pub entry_price : List (MapKey × Slot) → MapKey → ℕ
entry_price entries key = if has_key entries key then 0 else 1

-- a place: only where a closure captures its variable
abbrev pub place_price : Bool → ℕ
place_price priced = if priced then 1 else 0
