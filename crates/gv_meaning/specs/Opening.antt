-- The world in which a script begins.
use Rattle.std.specs.Prelude.{ℕ, ◌+◌, ◌-◌, ◌^◌, List, [], ◌∷◌, length, min}
use Rattle.gv_base.specs.Names.{text_of}
use Rattle.gv_base.specs.declared.limits.Limits.{Limits}
use Rattle.gv_classes.specs.declared.declared.Declared.{Declared}
use Rattle.gv_heap.specs.Heap.{HeapState, with_new, pay}
use Rattle.gv_heap.specs.declared.object.Object.{Object}
use Rattle.gv_heap.specs.declared.object.Object.TheVariants as object
use Rattle.gv_meaning.specs.World.{World}

-- the heap with a string for each text, in order, which take no cells; and which is whose
abbrev pub with_literals : List (List ℕ) → List ℕ → HeapState → HeapState
with_literals names [] heap = heap
with_literals names (t ∷ ts) heap = with_literals names ts (with_new heap (object.Text (text_of names t)))

abbrev pub numbered : ℕ → List ℕ → List (ℕ × ℕ)
numbered id [] = []
numbered id (t ∷ ts) = (t, id) ∷ numbered (id + 1) ts

-- the script's object: an instance of the last class, without fields
abbrev pub script_object : List Declared → Object
script_object classes = object.Instance (record { class = length classes - 1; fields = []; number = 0 })

-- the script's object takes no cell of those that the limits give, as there is one more; but a count of cells ends at 2^64 - 1
abbrev pub cells_at_first : ℕ → ℕ
cells_at_first cells = min (cells + 1) (2 ^ 64 - 1)

abbrev pub script_heap : List Declared → Limits → HeapState
script_heap classes limits = pay (with_new (record { objects = []; places = []; cells = cells_at_first limits.cells }) (script_object classes)) 1

-- the script's object is the first one, and the strings follow
abbrev pub opened_world : List (List ℕ) → List Declared → List ℕ → Limits → World
opened_world names classes texts limits = record {
  names = names;
  classes = classes;
  heap = with_literals names texts (script_heap classes limits);
  literals = numbered 1 texts;
  script = 0;
  instances = 0;
  output = [];
  ticks = limits.ticks;
  depth = limits.depth;
}
