-- What a call runs: the look-up of its method in the world as it is, and the built-in methods.
use Rattle.std.specs.Prelude.{ℕ, ℤ, pos, negsuc, int_lt, true, false, List, [], ◌∷◌, ◌++◌, length, Option, Some, None, codes, bytes_eq, slice_get, if◌then◌else◌}
use Rattle.std.specs.Fmt.{signed_decimal}
use Rattle.std.specs.Option.{option_or}
use Rattle.std.specs.Ordering.{int_eq}
use Rattle.gv_base.specs.Arith.{arith_of}
use Rattle.gv_base.specs.Names.{text_of}
use Rattle.gv_base.specs.declared.exception.ExceptionKind.{ExceptionKind}
use Rattle.gv_base.specs.declared.exception.ExceptionKind.TheVariants.{ArithmeticException, NullPointerException, MissingMethodException}
use Rattle.gv_base.specs.declared.outcome.Arith.{Arith}
use Rattle.gv_base.specs.declared.outcome.Arith.TheVariants.{Value as Gives, NotNumbers, ByZero}
use Rattle.gv_base.specs.declared.outcome.ArithOp.TheVariants as op
use Rattle.gv_base.specs.declared.value.Value.{Value}
use Rattle.gv_base.specs.declared.value.Value.TheVariants.{Null, Bool as Truth, Int, Long, Class, Obj}
use Rattle.gv_classes.specs.BuiltIn.{exception_class}
use Rattle.gv_heap.specs.Heap.{HeapState, object_at}
use Rattle.gv_heap.specs.Prices.{text_price}
use Rattle.gv_heap.specs.declared.object.Object.{Object}
use Rattle.gv_heap.specs.declared.object.Object.TheVariants as object
use Rattle.gv_natives.specs.BuiltIn.{built_in}
use Rattle.gv_natives.specs.Table.{Method, found}
use Rattle.gv_natives.specs.declared.kinds.Kind.{Kind}
use Rattle.gv_natives.specs.declared.kinds.Kind.TheVariants as kind
use Rattle.gv_rows.specs.Takes.{takes_all}
use Rattle.gv_rows.specs.Values.{class_of, class_text}
use Rattle.gv_meaning.specs.World.{World, Why, Answer, Got, Threw, Stopped, paying, making}

-- ---- what a call runs

-- a body, with the places of its captured variables and its arguments; or nothing more
pub data Chosen : Type 0 where
  Enter : (body : ℕ) (captured : List ℕ) (arguments : List Value) (w : World) → Chosen
  Else : (o : Answer) → Chosen

abbrev pub stop_call : Why → World → Chosen
stop_call y w = Else (Stopped y w)

-- ---- exceptions

-- an exception that a rule throws: its message, if it has one, is made, and then an instance with message and cause
abbrev pub thrown_with : ExceptionKind → Value → World → Answer
thrown_with kind message w =
    making (object.Instance (record { class = exception_class kind; fields = message ∷ Null ∷ []; number = 0 })) 3 w (λ e w. Threw e w)

abbrev pub raised : ExceptionKind → Option (List ℕ) → World → Answer
raised kind None w = thrown_with kind Null w
raised kind (Some text) w = making (object.Text text) (text_price text) w (λ message w. thrown_with kind message w)

-- the names of classes, with commas; null has its own
abbrev pub kind_text : World → Value → List ℕ
kind_text w Null = codes "null"
kind_text w v = class_text w.names w.classes (class_of w.heap v)

abbrev pub kinds_text : World → List Value → List ℕ
kinds_text w [] = []
kinds_text w (v ∷ []) = kind_text w v
kinds_text w (v ∷ vs) = kind_text w v ++ codes ", " ++ kinds_text w vs

abbrev pub no_signature : World → ℕ → Value → List Value → List ℕ
no_signature w name r args =
    codes "No signature of method: " ++ kind_text w r ++ codes "." ++ text_of w.names name ++ codes "() is applicable for argument types: (" ++ kinds_text w args ++ codes ")"

abbrev pub on_null : World → ℕ → List ℕ
on_null w name = codes "Cannot invoke method " ++ text_of w.names name ++ codes "() on null object"

-- ---- built-in methods

-- the kinds of receiver that a value is, the nearest first
abbrev pub object_kind : Option Object → List Kind
object_kind (Some (object.Text text)) = kind.String ∷ []
object_kind (Some (object.List elements)) = kind.List ∷ []
object_kind (Some (object.Map entries)) = kind.Map ∷ []
object_kind other = []

abbrev pub kinds_of : HeapState → Value → List Kind
kinds_of heap (Int n) = kind.Number ∷ kind.Object ∷ []
kinds_of heap (Long n) = kind.Number ∷ kind.Object ∷ []
kinds_of heap (Truth b) = kind.Boolean ∷ kind.Object ∷ []
kinds_of heap (Obj id) = object_kind (object_at heap id) ++ kind.Object ∷ []
kinds_of heap v = kind.Object ∷ []

-- the row of a name for so many arguments: that of the nearest kind
abbrev pub row_in : List Kind → List ℕ → ℕ → Option ℕ
row_in [] name arity = None
row_in (k ∷ ks) name arity = option_or (found built_in name k arity) (row_in ks name arity)

-- the text of a value that needs no walk
abbrev pub object_text : Option Object → List ℕ
object_text (Some (object.Text text)) = text
object_text other = []

abbrev pub plain_text : HeapState → Value → List ℕ
plain_text heap Null = codes "null"
plain_text heap (Truth true) = codes "true"
plain_text heap (Truth false) = codes "false"
plain_text heap (Int n) = signed_decimal n
plain_text heap (Long n) = signed_decimal n
plain_text heap (Class c) = []
plain_text heap (Obj id) = object_text (object_at heap id)

-- println(x): the text and a line end
abbrev pub printed : Value → World → Answer
printed v w = Got Null (record w { output = w.output ++ (plain_text w.heap v ++ 10 ∷ []) })

-- plus, minus and multiply of numbers
abbrev pub arith_answer : Arith → World → Answer
arith_answer (Gives v) w = Got v w
arith_answer ByZero w = raised ArithmeticException (Some (codes "/ by zero")) w
arith_answer NotNumbers w = Got Null w

-- compareTo of numbers: -1, 0 or 1
abbrev pub compared : ℤ → ℤ → Value
compared a b = Int (if int_lt a b then negsuc 0 else if int_eq a b then pos 0 else pos 1)

abbrev pub number_compared : Value → Value → Value
number_compared (Int a) (Int b) = compared a b
number_compared (Int a) (Long b) = compared a b
number_compared (Long a) (Int b) = compared a b
number_compared (Long a) (Long b) = compared a b
number_compared a b = Null

-- what the row of a name does. Those that aren't built answer null: no code that is compiled calls them.
abbrev pub row_answer : List ℕ → Value → List Value → World → Answer
row_answer name r (a ∷ []) w =
    if bytes_eq name (codes "plus") then arith_answer (arith_of op.Plus r a) w
    else if bytes_eq name (codes "minus") then arith_answer (arith_of op.Minus r a) w
    else if bytes_eq name (codes "multiply") then arith_answer (arith_of op.Multiply r a) w
    else if bytes_eq name (codes "compareTo") then Got (number_compared r a) w
    else if bytes_eq name (codes "println") then printed a w
    else Got Null w
row_answer name r args w = Got Null w

-- ---- the call

abbrev pub row_called : Option Method → ℕ → Value → List Value → World → Answer
row_called None name r args w = raised MissingMethodException (Some (no_signature w name r args)) w
row_called (Some row) name r args w = if takes_all w.heap row args then row_answer row.name r args w else raised MissingMethodException (Some (no_signature w name r args)) w

abbrev pub row_at : Option ℕ → Option Method
row_at None = None
row_at (Some native) = slice_get built_in native

abbrev pub called : ℕ → Value → List Value → World → Chosen
called name Null args w = Else (raised NullPointerException (Some (on_null w name)) w)
called name r args w = Else (row_called (row_at (row_in (kinds_of w.heap r) (text_of w.names name) (length args))) name r args w)

-- a call of a method by its name: a tick, and then the look-up in the world as it is
abbrev pub call_of : ℕ → List Value → World → Chosen
call_of name [] w = Else (Got Null w)
call_of name (r ∷ args) w = paying stop_call w (λ w. called name r args w)
