-- The source meaning: what a core tree does, written without the machine.
use Rattle.std.specs.Prelude.{ℕ, zero, suc, Bool, true, false, not, List, [], ◌∷◌, ◌++◌, take, length, Option, Some, None, slice_get, nat_le}
use Rattle.gv_base.specs.declared.value.Value.{Value}
use Rattle.gv_base.specs.declared.value.Value.TheVariants.{Null, Bool as Truth, Obj}
use Rattle.gv_core.specs.declared.expr.Expr.{Expr, Const, Local, Assign', Call', Ordered', Equal', Not', Row_of-Expr, end_of-Expr, more_of-Expr}
use Rattle.gv_core.specs.declared.stmt.Stmt.{Stmt, Declare, Do, Block', If', While', Break, Continue, Return, Row_of-Stmt, end_of-Stmt, more_of-Stmt}
use Rattle.gv_core.specs.declared.stmt.Source.{Source}
pub use Rattle.gv_core.specs.declared.stmt.Exit.{Exit}
pub use Rattle.gv_core.specs.declared.stmt.Exit.TheVariants.{Breaks, Continues, Returns}
use Rattle.gv_heap.specs.Heap.{pay, with_new_place}
use Rattle.gv_meaning.specs.World.{World, Why, Ticks, Cells, Depth, Cell, Own, Shared, Answer, Got, Threw, Stopped, paying, const_value, is_true, are_equal, ordered, read, stored}
use Rattle.gv_meaning.specs.Calls.{Chosen, Enter, Else, call_of}

-- the variables of a body whose scope is open, the oldest first
abbrev pub Scope : Type 0
Scope = List Cell

abbrev pub cell_of : Scope → ℕ → Cell
cell_of [] k = Own Null
cell_of (c ∷ cs) zero = c
cell_of (c ∷ cs) (suc k) = cell_of cs k

abbrev pub with_cell : ℕ → Value → Scope → Scope
with_cell k v [] = []
with_cell zero v (c ∷ cs) = Own v ∷ cs
with_cell (suc k) v (c ∷ cs) = c ∷ with_cell k v cs

-- does what a call chose
abbrev pub Runner : Type 0
Runner = Chosen → Answer

-- runs a body, with the places of its captured variables and its arguments
abbrev pub Callee : Type 0
Callee = ℕ → List ℕ → List Value → World → Answer

-- ---- expressions

-- how an expression ends, with the variables of its body
pub data Result : Type 0 where
  Given : (v : Value) (scope : Scope) (w : World) → Result
  Thrown : (v : Value) (scope : Scope) (w : World) → Result
  Halt : (y : Why) (w : World) → Result

pub data Results : Type 0 where
  All_given : (vs : List Value) (scope : Scope) (w : World) → Results
  One_thrown : (v : Value) (scope : Scope) (w : World) → Results
  One_halt : (y : Why) (w : World) → Results

-- a step that sees no variables
abbrev pub within : Scope → Answer → Result
within scope (Got v w) = Given v scope w
within scope (Threw v w) = Thrown v scope w
within scope (Stopped y w) = Halt y w

unfoldable pub and_then : Result → (Value → Scope → World → Result) → Result
and_then (Given v scope w) go = go v scope w
and_then (Thrown v scope w) go = Thrown v scope w
and_then (Halt y w) go = Halt y w

unfoldable pub first_given : Result → (Value → Scope → World → Results) → Results
first_given (Given v scope w) go = go v scope w
first_given (Thrown v scope w) go = One_thrown v scope w
first_given (Halt y w) go = One_halt y w

unfoldable pub with_first : Value → Results → Results
with_first v (All_given vs scope w) = All_given (v ∷ vs) scope w
with_first v (One_thrown x scope w) = One_thrown x scope w
with_first v (One_halt y w) = One_halt y w

unfoldable pub all_then : Results → (List Value → Scope → World → Result) → Result
all_then (All_given vs scope w) go = go vs scope w
all_then (One_thrown v scope w) go = Thrown v scope w
all_then (One_halt y w) go = Halt y w

-- the first at true, and else the second
unfoldable pub pick : {A : Type 0} → Bool → A → A → A
pick true a b = a
pick false a b = b

-- a variable is set where it is kept
abbrev pub assigned : Cell → ℕ → Value → Scope → World → Result
assigned (Own u) k v scope w = Given v (with_cell k v scope) w
assigned (Shared p) k v scope w = Given v scope (stored p v w)

abbrev mutual
  pub value_of : Runner → Expr → Scope → World → Result
  value_of run (Const c) scope w = Given (const_value c w) scope w
  value_of run (Local k) scope w = Given (read (cell_of scope k) w) scope w
  value_of run (Assign' k p (more_of-Expr e end_of-Expr)) scope w = and_then (value_of run e scope w) (λ v scope w. assigned (cell_of scope k) k v scope w)
  value_of run (Call' name shape args) scope w = all_then (values_of run args scope w) (λ vs scope w. within scope (run (call_of name vs w)))
  value_of run (Ordered' o p (more_of-Expr e end_of-Expr)) scope w = and_then (value_of run e scope w) (λ v scope w. Given (ordered o v) scope w)
  value_of run (Equal' p (more_of-Expr a end_of-Expr) q (more_of-Expr b end_of-Expr)) scope w =
      and_then (value_of run a scope w) (λ x scope w. and_then (value_of run b scope w) (λ y scope w. Given (Truth (are_equal x y)) scope w))
  value_of run (Not' p (more_of-Expr e end_of-Expr)) scope w = and_then (value_of run e scope w) (λ v scope w. Given (Truth (not (is_true v))) scope w)

  pub values_of : {m : _} → Runner → Row_of-Expr m → Scope → World → Results
  values_of run end_of-Expr scope w = All_given [] scope w
  values_of run (more_of-Expr e rest) scope w = first_given (value_of run e scope w) (λ v scope w. with_first v (values_of run rest scope w))

-- ---- statements

-- how a statement ends, with the variables of its body
pub data Outcome : Type 0 where
  Normal : (scope : Scope) (w : World) → Outcome
  Left : (e : Exit) (v : Value) (scope : Scope) (w : World) → Outcome
  Raised : (v : Value) (scope : Scope) (w : World) → Outcome
  Halted : (y : Why) (w : World) → Outcome

unfoldable pub with_value : Result → (Value → Scope → World → Outcome) → Outcome
with_value (Given v scope w) go = go v scope w
with_value (Thrown v scope w) go = Raised v scope w
with_value (Halt y w) go = Halted y w

unfoldable pub then_do : Outcome → (Scope → World → Outcome) → Outcome
then_do (Normal scope w) go = go scope w
then_do (Left e v scope w) go = Left e v scope w
then_do (Raised v scope w) go = Raised v scope w
then_do (Halted y w) go = Halted y w

-- gives up all variables but the first n
unfoldable pub kept : ℕ → Outcome → Outcome
kept n (Normal scope w) = Normal (take n scope) w
kept n (Left e v scope w) = Left e v (take n scope) w
kept n (Raised v scope w) = Raised v (take n scope) w
kept n (Halted y w) = Halted y w

-- a statement with a scope of its own
abbrev pub enclosed : Scope → Outcome → Outcome
enclosed scope o = kept (length scope) o

unfoldable pub looped : Outcome → (Scope → World → Outcome) → Outcome
looped (Normal scope w) next = next scope w
looped (Left Breaks v scope w) next = Normal scope w
looped (Left Continues v scope w) next = next scope w
looped (Left Returns v scope w) next = Left Returns v scope w
looped (Raised v scope w) next = Raised v scope w
looped (Halted y w) next = Halted y w

abbrev pub turn : Result → (Scope → World → Outcome) → (Scope → World → Outcome) → Outcome
turn o body next = with_value o (λ v scope w. pick (is_true v) (looped (enclosed scope (body scope w)) next) (Normal scope w))

-- a loop, each turn of which takes a tick before its test. No more turns can come than the ticks and one.
abbrev pub turns : ℕ → (Scope → World → Result) → (Scope → World → Outcome) → Scope → World → Outcome
turns zero test body scope w = Halted Ticks w
turns (suc n) test body scope w = paying Halted w (λ w. turn (test scope w) body (turns n test body))

-- a new variable. One that closures share has a place, which costs a cell.
abbrev pub declared : Bool → Value → Scope → World → Outcome
declared false v scope w = Normal (scope ++ Own v ∷ []) w
declared true v scope w =
    pick (nat_le 1 w.heap.cells)
    (Normal (scope ++ Shared (length w.heap.places) ∷ []) (record w { heap = pay (with_new_place w.heap v) 1 }))
    (Halted Cells w)

abbrev mutual
  pub outcome_of : Runner → Stmt → Scope → World → Outcome
  outcome_of run (Declare shared e) scope w = with_value (value_of run e scope w) (λ v scope w. declared shared v scope w)
  outcome_of run (Do e) scope w = with_value (value_of run e scope w) (λ v scope w. Normal scope w)
  outcome_of run (Block' shape all) scope w = outcomes_of run all scope w
  outcome_of run (If' t p (more_of-Stmt a end_of-Stmt) q (more_of-Stmt b end_of-Stmt)) scope w =
      with_value (value_of run t scope w) (λ v scope w. pick (is_true v) (enclosed scope (outcome_of run a scope w)) (enclosed scope (outcome_of run b scope w)))
  outcome_of run (While' t p (more_of-Stmt s end_of-Stmt)) scope w =
      turns (suc w.ticks) (λ scope w. value_of run t scope w) (λ scope w. outcome_of run s scope w) scope w
  outcome_of run Break scope w = Left Breaks Null scope w
  outcome_of run Continue scope w = Left Continues Null scope w
  outcome_of run (Return e) scope w = with_value (value_of run e scope w) (λ v scope w. Left Returns v scope w)

  pub outcomes_of : {m : _} → Runner → Row_of-Stmt m → Scope → World → Outcome
  outcomes_of run end_of-Stmt scope w = Normal scope w
  outcomes_of run (more_of-Stmt s rest) scope w = enclosed scope (then_do (outcome_of run s scope w) (λ scope w. outcomes_of run rest scope w))

-- ---- bodies

-- the answer of a body: null where none is given
abbrev pub settled : Outcome → Answer
settled (Normal scope w) = Got Null w
settled (Left e v scope w) = Got v w
settled (Raised v scope w) = Threw v w
settled (Halted y w) = Stopped y w

-- exactly n places, and exactly n values
abbrev pub fitted : ℕ → List ℕ → Scope
fitted zero ps = []
fitted (suc n) [] = Shared 0 ∷ fitted n []
fitted (suc n) (p ∷ ps) = Shared p ∷ fitted n ps

abbrev pub filled : ℕ → List Value → Scope
filled zero vs = []
filled (suc n) [] = Own Null ∷ filled n []
filled (suc n) (v ∷ vs) = Own v ∷ filled n vs

abbrev pub opening_scope : ℕ → ℕ → List ℕ → List Value → Scope
opening_scope captured parameters ps args = fitted captured ps ++ filled parameters args

-- what a body of the unit does. One that isn't there ends the run.
abbrev pub source_answer : Runner → Option Source → List ℕ → List Value → World → Answer
source_answer run None ps args w = Stopped Ticks w
source_answer run (Some b) ps args w = settled (outcome_of run b.tree (opening_scope b.captured b.parameters ps args) w)

abbrev pub body_of_level : List Source → Runner → Callee
body_of_level unit run k ps args w = source_answer run (slice_get unit k) ps args w

abbrev pub perform : Callee → Runner
perform enter (Enter k ps args w) = enter k ps args w
perform enter (Else o) = o

-- does what was chosen, at a depth left
abbrev pub level : List Source → ℕ → Runner
level unit zero c = perform (λ k ps args w. Stopped Depth w) c
level unit (suc d) c = perform (body_of_level unit (level unit d)) c

-- the run of a script: its own statements take no depth
abbrev pub meaning : List Source → World → Answer
meaning unit w = body_of_level unit (level unit w.depth) 0 [] (Obj w.script ∷ []) w
