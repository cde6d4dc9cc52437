-- What calls return in the functions of operators, as what their callers return.
use Rattle.std.proofs.Common.{◌≡◌, ◌≢◌, ◌<◌, ℕ, suc, List, length, drop, Bool, true, false, ◌&&◌, ◌||◌, Result, Ok, Err, Option, Some, None}
use Rattle.gv_base.specs.declared.refusal.Place.{Place}
use Rattle.gv_spelling.specs.declared.kinds.Symbol.{Symbol}
use Rattle.gv_lex.specs.declared.token.Token.{Token}
use Rattle.gv_lex.specs.declared.token.TokenKind.{TokenKind}
use Rattle.gv_lex.specs.declared.token.TokenKind.TheVariants as kind
use Rattle.gv_tree.specs.declared.expr.Expr.{Expr}
use Rattle.gv_tree.specs.declared.expr.Expr.TheVariants as expr
use Rattle.gv_tree.specs.declared.ops.BinaryOp.{BinaryOp}
use Rattle.gv_tree.specs.declared.ops.TypeOp.{TypeOp}
use Rattle.gv_tree.specs.declared.ops.TypeTree.{TypeTree}
use Rattle.gv_grammar.specs.Phrases.{Longest}
use Rattle.gv_grammar.specs.Tokens.{Eats, eats, kind_of, place_of, type_of, binary_of, level_of, loosest, typing_level, joins_once, typing_of, prefix_of}
use Rattle.gv_grammar.specs.Exprs.{IsExpr, GoesExpr, expr_ends, IsCond, GoesCond, cond_ends, IsBin, GoesBin, bin_ends, IsUnary, IsPath}
use Rattle.gv_grammar.proofs.Lengths.{less, of_as}
use Rattle.gv_grammar.proofs.Longest.{as_here}
use Rattle.gv_grammar.proofs.LongerOperators as longer
use Rattle.gv_cursor.specs.declared.error.ReadError.{ReadError}
use Rattle.gv_cursor.specs.declared.error.ReadError.TheVariants.{Refused, OutOfMemory}
use Rattle.gv_cursor.specs.Reading.{Reads}

-- behind a token that means something
pub past : {A : Type 0} {x : A} (of : TokenKind → Option A) (ts : List Token) → of kind.End ≡ None → of (kind_of ts) ≡ Some x → length (drop 1 ts) < length ts
past of ts e h = less (of_as (as_here {of = of} ts e h))

-- what the next token means as a type, where it was read from here
pub type_here : {r x : Option TypeTree} {place : Place} {k : TokenKind} {us ts : List Token} → us ≡ ts → place ≡ place_of us → k ≡ kind_of us → r ≡ type_of place k → r ≡ x → type_of (place_of ts) (kind_of ts) ≡ x
type_here e p k t h = cc

pub other_next : {s : Symbol} {ts us : List Token} → kind_of ts ≢ kind.Symbol s → Eats s ts us → ⊥
other_next h (eats p) = h p

module _ (all : ℕ) where
  pub reads_expr : {x : Expr} (ts us rest : List Token) (r : Result Expr ReadError) → Longest (IsCond all) x ts us → Reads (GoesExpr all x) r us rest → Reads (IsExpr all) r ts rest
  reads_expr ts us rest (Ok y) l d = longer.long_expr all l d
  reads_expr ts us rest (Err OutOfMemory) l d = tt
  reads_expr {x = x} ts us rest (Err Refused) l d = absurd (d x us expr_ends)

  pub reads_cond : {x : Expr} (ts us rest : List Token) (r : Result Expr ReadError) → Longest (IsBin all loosest) x ts us → Reads (GoesCond all x) r us rest → Reads (IsCond all) r ts rest
  reads_cond ts us rest (Ok y) l d = longer.long_cond all l d
  reads_cond ts us rest (Err OutOfMemory) l d = tt
  reads_cond {x = x} ts us rest (Err Refused) l d = absurd (d x us cond_ends)

  pub reads_bin : {n : ℕ} {x : Expr} (ts us rest : List Token) (r : Result Expr ReadError) → Longest (IsBin all n) x ts us → Reads (GoesBin all n false x) r us rest → Reads (IsBin all (suc n)) r ts rest
  reads_bin ts us rest (Ok y) l d = longer.long_bin all l d
  reads_bin ts us rest (Err OutOfMemory) l d = tt
  reads_bin {x = x} ts us rest (Err Refused) l d = absurd (d x us bin_ends)

  pub reads_tightest : (ts rest : List Token) (r : Result Expr ReadError) → Reads (IsUnary all) r ts rest → Reads (IsBin all 0) r ts rest
  reads_tightest ts rest (Ok y) d = longer.long_tightest all d
  reads_tightest ts rest (Err OutOfMemory) d = tt
  reads_tightest ts rest (Err Refused) d = longer.no_tightest all d

  pub reads_unary : (ts rest : List Token) (r : Result Expr ReadError) → prefix_of (kind_of ts) ≡ None → Reads (IsPath all) r ts rest → Reads (IsUnary all) r ts rest
  reads_unary ts rest (Ok y) p d = longer.long_unary all p d
  reads_unary ts rest (Err OutOfMemory) p d = tt
  reads_unary ts rest (Err Refused) p d = longer.no_unary all p d

  pub reads_operated : {n : ℕ} (joined : Bool) {op : BinaryOp} (x : Expr) {y : Expr} (ts us rest : List Token) (r : Result Expr ReadError) → binary_of (kind_of ts) ≡ Some op → level_of op ≡ suc n → joined && joins_once op ≡ false
      → Longest (IsBin all n) y (drop 1 ts) us → Reads (GoesBin all n (joined || joins_once op) (expr.Binary (place_of ts) op x y)) r us rest → Reads (GoesBin all n joined x) r ts rest
  reads_operated j x ts us rest (Ok z) p q s l d = longer.bin_tail_operates all p q s l d
  reads_operated j x ts us rest (Err OutOfMemory) p q s l d = tt
  reads_operated j {op = op} x {y = y} ts us rest (Err Refused) p q s l d = absurd (d (expr.Binary (place_of ts) op x y) us bin_ends)

  pub reads_typed : {n : ℕ} (joined : Bool) {op : TypeOp} {type : TypeTree} (x : Expr) (ts rest : List Token) (r : Result Expr ReadError) → typing_of (kind_of ts) ≡ Some op → typing_level ≡ suc n → joined ≡ false
      → type_of (place_of (drop 1 ts)) (kind_of (drop 1 ts)) ≡ Some type → Reads (GoesBin all n true (expr.Typed (place_of ts) op x type)) r (drop 1 (drop 1 ts)) rest → Reads (GoesBin all n joined x) r ts rest
  reads_typed j x ts rest (Ok z) p q h s d = longer.bin_tail_types_unjoined all p q h s d
  reads_typed j x ts rest (Err OutOfMemory) p q h s d = tt
  reads_typed j {op = op} {type = type} x ts rest (Err Refused) p q h s d = absurd (d (expr.Typed (place_of ts) op x type) (drop 1 (drop 1 ts)) bin_ends)
