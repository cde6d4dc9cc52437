-- What is known of a value: its class, the key that it is in a map, the elements that it has in order.
use Rattle.std.specs.Prelude.{ℕ, zero, suc, ℤ, pos, negsuc, ◌+ℤ◌, ◌-ℤ◌, Bool, false, ◌&&◌, List, [], ◌∷◌, map, codes, length, Option, Some, None, slice_get, int_lt, min, if◌then◌else◌}
use Rattle.std.specs.Option.{option_map_or}
use Rattle.gv_base.specs.Names.{name_of, text_of}
use Rattle.gv_base.specs.declared.value.TheConstants.{NULL_KIND}
use Rattle.gv_base.specs.declared.meta.MetaObject.{MetaObject}
use Rattle.gv_base.specs.declared.meta.MetaObject.TheVariants as meta
use Rattle.gv_base.specs.declared.value.Value.{Value}
use Rattle.gv_base.specs.declared.value.Value.TheVariants.{Null, Bool as Truth, Int, Long, Class, Obj}
use Rattle.gv_classes.specs.Classes.{declares}
use Rattle.gv_classes.specs.declared.declared.Declared.{Declared}
use Rattle.gv_classes.specs.declared.ids.TheConstants as class
use Rattle.gv_heap.specs.Heap.{HeapState, object_at}
use Rattle.gv_heap.specs.Ranges.{range_size, RangeState}
use Rattle.gv_heap.specs.declared.key.MapKey.{MapKey}
use Rattle.gv_heap.specs.declared.key.MapKey.TheVariants as key
use Rattle.gv_heap.specs.declared.object.Object.{Object}
use Rattle.gv_heap.specs.declared.object.Object.TheVariants as object

-- ---- classes

abbrev pub meta_class : MetaObject → ℕ
meta_class (meta.Class of side) = class.META_CLASS
meta_class (meta.Member of side name) = class.META_MEMBER
meta_class (meta.Method name body) = class.META_METHOD

abbrev pub object_class : Option Object → ℕ
object_class (Some (object.Text text)) = class.STRING
object_class (Some (object.GString parts)) = class.GSTRING
object_class (Some (object.List elements)) = class.LIST
object_class (Some (object.Map entries)) = class.MAP
object_class (Some (object.Range range)) = class.RANGE
object_class (Some (object.Closure closure)) = class.CLOSURE
object_class (Some (object.Entry k v)) = class.ENTRY
object_class (Some (object.Instance instance)) = instance.class
object_class (Some (object.Meta m)) = meta_class m
object_class None = class.OBJECT

-- the class of a value; null has none
abbrev pub class_of : HeapState → Value → ℕ
class_of heap Null = NULL_KIND
class_of heap (Truth b) = class.BOOLEAN
class_of heap (Int n) = class.INTEGER
class_of heap (Long n) = class.LONG
class_of heap (Class c) = class.CLASS
class_of heap (Obj id) = object_class (object_at heap id)

-- the name of a class
abbrev pub class_text : List (List ℕ) → List Declared → ℕ → List ℕ
class_text names classes c = option_map_or (λ d. text_of names d.name) (slice_get classes c) []

-- ---- keys of maps

-- a class, or one above it, declares a method `equals`
abbrev pub declares_equals : List (List ℕ) → List Declared → ℕ → Bool
declares_equals names classes c = option_map_or (λ name. int_lt (pos c) (pos (length classes)) && declares classes c name) (name_of names (codes "equals")) false

-- the key that an object is: a text by its bytes, and an instance by itself where its classes declare no `equals`
abbrev pub object_key : List (List ℕ) → List Declared → ℕ → Option Object → Option MapKey
object_key names classes id (Some (object.Text text)) = Some (key.Text text)
object_key names classes id (Some (object.Instance instance)) = if declares_equals names classes instance.class then None else Some (key.Obj id)
object_key names classes id other = None

abbrev pub key_of : List (List ℕ) → List Declared → HeapState → Value → Option MapKey
key_of names classes heap Null = Some key.Null
key_of names classes heap (Truth b) = Some (key.Bool b)
key_of names classes heap (Int n) = Some (key.Int n)
key_of names classes heap (Long n) = Some (key.Long n)
key_of names classes heap (Class c) = Some (key.Class c)
key_of names classes heap (Obj id) = object_key names classes id (object_at heap id)

-- ---- elements in order

-- so many numbers from one on, up or down
abbrev pub numbers : ℕ → Bool → ℤ → List ℤ
numbers zero down n = []
numbers (suc k) down n = n ∷ numbers k down (if down then n -ℤ pos 1 else n +ℤ pos 1)

-- the numbers from a first to a last, which an open end leaves out
abbrev pub range_numbers : ℤ → ℤ → Bool → List ℤ
range_numbers first last open_end = numbers (range_size first last open_end) (int_lt last first) first

abbrev pub number : Bool → ℤ → Value
number long n = if long then Long n else Int n

abbrev pub range_elements : ℤ → ℤ → Bool → Bool → List Value
range_elements first last open_end long = map (number long) (range_numbers first last open_end)

abbrev pub elements_of : RangeState → List Value
elements_of range = range_elements range.first range.last range.open_end range.long

-- the elements of a list, or of a range
abbrev pub elements_in : Option Object → List Value
elements_in (Some (object.List elements)) = elements
elements_in (Some (object.Range range)) = elements_of range
elements_in other = []

abbrev pub sequence_at : HeapState → ℕ → List Value
sequence_at heap id = elements_in (object_at heap id)

-- ---- places

-- the number that a value is
abbrev pub number_in : Value → Option ℤ
number_in (Int n) = Some n
number_in (Long n) = Some n
number_in value = None

-- a size or a place as an Integer, which ends at 2147483647
abbrev pub integer_of : ℕ → Value
integer_of n = Int (pos (min n 2147483647))

-- a place among so many elements counts from the end where it is negative
abbrev pub from_end : ℕ → ℤ → ℤ
from_end size n = if int_lt n (pos 0) then n +ℤ pos size else n

-- a place that isn't before the start
abbrev pub natural : ℤ → Option ℕ
natural (pos n) = Some n
natural (negsuc n) = None

-- the places that a range walks over so many elements
abbrev pub walked : ℕ → ℤ → ℤ → Bool → List ℤ
walked size first last open_end = range_numbers (from_end size first) (from_end size last) open_end
