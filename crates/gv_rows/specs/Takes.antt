-- Which arguments a built-in method takes.
use Rattle.std.specs.Prelude.{◌≡◌, ℕ, Bool, true, false, ◌&&◌, ◌||◌, List, [], ◌∷◌, Option, Some, slice_get, unwrap_or, length}
use Rattle.gv_base.specs.declared.value.Value.{Value}
use Rattle.gv_base.specs.declared.value.Value.TheVariants.{Null, Int, Long, Obj}
use Rattle.gv_heap.specs.Heap.{HeapState, object_at}
use Rattle.gv_heap.specs.declared.object.Object.{Object}
use Rattle.gv_heap.specs.declared.object.Object.TheVariants as object
use Rattle.gv_natives.specs.BuiltIn.{built_in}
use Rattle.gv_natives.specs.Table.{Method}
use Rattle.gv_natives.specs.declared.kinds.Kind.{Kind}
use Rattle.gv_natives.specs.declared.kinds.Kind.TheVariants.{Object as AnyKind}
use Rattle.gv_natives.specs.declared.kinds.Takes.{Takes}
use Rattle.gv_natives.specs.declared.kinds.Takes.TheVariants.{Nothing, Any, Text, Integer, Number, NumberOrText, IntegerOrList, List as ListOrRange, Map, Closure}

-- what an object is
abbrev pub is_text : Option Object → Bool
is_text (Some (object.Text text)) = true
is_text other = false

abbrev pub is_range : Option Object → Bool
is_range (Some (object.Range range)) = true
is_range other = false

abbrev pub is_sequence : Option Object → Bool
is_sequence (Some (object.List elements)) = true
is_sequence (Some (object.Range range)) = true
is_sequence other = false

abbrev pub is_map : Option Object → Bool
is_map (Some (object.Map entries)) = true
is_map other = false

abbrev pub is_closure : Option Object → Bool
is_closure (Some (object.Closure closure)) = true
is_closure other = false

-- a parameter takes a value that isn't null; the text of a GString is taken by a walk, and not here
abbrev pub takes_object : Takes → Option Object → Bool
takes_object Text o = is_text o
takes_object NumberOrText o = is_text o
takes_object IntegerOrList o = is_sequence o
takes_object ListOrRange o = is_sequence o
takes_object Map o = is_map o
takes_object Closure o = is_closure o
takes_object Any (Some o) = true
takes_object takes o = false

abbrev pub takes_integer : Takes → Bool
takes_integer Any = true
takes_integer Integer = true
takes_integer Number = true
takes_integer NumberOrText = true
takes_integer IntegerOrList = true
takes_integer takes = false

abbrev pub takes_long : Takes → Bool
takes_long Any = true
takes_long Number = true
takes_long NumberOrText = true
takes_long takes = false

abbrev pub takes_any : Takes → Bool
takes_any Any = true
takes_any takes = false

-- null passes for each kind
abbrev pub takes_value : HeapState → Takes → Value → Bool
takes_value heap takes Null = true
takes_value heap takes (Int n) = takes_integer takes
takes_value heap takes (Long n) = takes_long takes
takes_value heap takes (Obj id) = takes_object takes (object_at heap id)
takes_value heap takes value = takes_any takes

-- the arguments are as many as the row takes, and each is of its kind
abbrev pub takes_all : HeapState → Method → List Value → Bool
takes_all heap row [] = true
takes_all heap row (a ∷ []) = takes_value heap row.first a
takes_all heap row (a ∷ b ∷ []) = takes_value heap row.first a && takes_value heap row.second b
takes_all heap row more = false

-- null is given where a kind is written
abbrev pub lacks : Takes → Value → Bool
lacks Any v = false
lacks takes Null = true
lacks takes v = false

abbrev pub lacks_one : Method → List Value → Bool
lacks_one row [] = false
lacks_one row (a ∷ []) = lacks row.first a
lacks_one row (a ∷ b ∷ more) = lacks row.first a || lacks row.second b

-- the row of a number
abbrev pub row_at : ℕ → Method
row_at native = unwrap_or (slice_get built_in native) (record { name = []; kind = AnyKind; arity = 0; first = Nothing; second = Nothing; walks = false })

-- a call of a row of this kind that calls no script code, with arguments that fit it
pub record IsCall (kind : Kind) (native : ℕ) (heap : HeapState) (row : Method) (args : List Value) : Type 0 where
  pub row_is : slice_get built_in native ≡ Some row
  pub kind_is : row.kind ≡ kind
  pub plain : row.walks ≡ false
  pub arity_is : row.arity ≡ length args
  pub fits : takes_all heap row args ≡ true
