-- A step of a call whose definition goes by cases.
use Rattle.std.proofs.Common.{◌≡◌, ◌≢◌, ℕ, List, length, refl}
use Rattle.gv_base.specs.Names.{text_of}
use Rattle.gv_base.specs.declared.value.Value.{Value}
use Rattle.gv_base.specs.declared.value.Value.TheVariants.{Null, Bool as Truth, Int, Long, Class, Obj}
use Rattle.gv_meaning.specs.declared.world.World.{World}
use Rattle.gv_meaning.specs.Calls.{Else, called, row_called, row_at, row_in, kinds_of}

-- a receiver that isn't null is asked for its row
pub called_row : (name : ℕ) (r : Value) (args : List Value) (w : World) → r ≢ Null → called name r args w ≡ Else (row_called (row_at (row_in (kinds_of w.heap r) (text_of w.names name) (length args))) name r args w)
called_row name Null args w h = absurd (h refl)
called_row name (Truth b) args w h = refl
called_row name (Int n) args w h = refl
called_row name (Long n) args w h = refl
called_row name (Class c) args w h = refl
called_row name (Obj id) args w h = refl
