-- Scripts and what they mean, written out by hand.
use Rattle.std.specs.Prelude.{ℕ, Bool, true, false, pos, List, [], ◌∷◌, codes}
use Rattle.gv_core.specs.declared.expr.Const.TheVariants as const
use Rattle.gv_core.specs.declared.expr.Expr.{Expr, Const, Local, Assign', Call', end_of-Expr, more_of-Expr}
use Rattle.gv_core.specs.declared.stmt.Stmt.{Stmt, Declare, Do, Block', While', Break, Continue, Return, end_of-Stmt, more_of-Stmt}
use Rattle.gv_core.specs.declared.stmt.Source.{Source}
use Rattle.gv_meaning.specs.World.{World}

-- a world with no classes and no objects, and the names `plus` and `println`
abbrev pub world : ℕ → ℕ → World
world ticks cells = record {
  names = codes "plus" ∷ codes "println" ∷ [];
  classes = [];
  heap = record { objects = []; places = []; cells = cells };
  literals = [];
  script = 0;
  instances = 0;
  output = [];
  ticks = ticks;
  depth = 1;
}

-- a script that has no methods and captures nothing; its first variable is `this`
abbrev pub script : Stmt → List Source
script tree = record { captured = 0; parameters = 1; tree = tree } ∷ []

abbrev pub three : Stmt → Stmt → Stmt → Stmt
three a b c = Block' (tt ∷ tt ∷ tt ∷ []) (more_of-Stmt a (more_of-Stmt b (more_of-Stmt c end_of-Stmt)))

abbrev pub assign : ℕ → Expr → Stmt
assign slot e = Do (Assign' slot tt (more_of-Expr e end_of-Expr))

abbrev pub call : ℕ → Expr → Expr → Expr
call name receiver argument = Call' name (tt ∷ tt ∷ []) (more_of-Expr receiver (more_of-Expr argument end_of-Expr))

abbrev pub repeat : Expr → Stmt → Stmt
repeat test body = While' test tt (more_of-Stmt body end_of-Stmt)

abbrev pub int : ℕ → Expr
int n = Const (const.Int (pos n))

abbrev pub truth : Bool → Expr
truth b = Const (const.Bool b)

-- def a = 1; while (a) { a = false; continue; a = 2 }; return a
abbrev pub looping : List Source
looping = script (three (Declare false (int 1)) (repeat (Local 1) (three (assign 1 (truth false)) Continue (assign 1 (int 2)))) (Return (Local 1)))

-- def a = 1; while (true) { a = 2; break; a = 3 }; return a
abbrev pub breaking : List Source
breaking = script (three (Declare false (int 1)) (repeat (truth true) (three (assign 1 (int 2)) Break (assign 1 (int 3)))) (Return (Local 1)))

-- def a = 1, which closures share; a = 2; return a
abbrev pub sharing : List Source
sharing = script (three (Declare true (int 1)) (assign 1 (int 2)) (Return (Local 1)))

-- println(true); return null + 1
abbrev pub calling : List Source
calling = script (three (Do (call 1 (Local 0) (truth true))) (Do (int 0)) (Return (call 0 (Const const.Null) (int 1))))
