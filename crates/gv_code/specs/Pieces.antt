-- Pieces of code, put together.
use Rattle.std.specs.Prelude.{ℕ, zero, suc, ◌+◌, ◌≤◌, List, [], ◌∷◌, ◌++◌, map, length, Option, Some, None}
use Rattle.gv_core.specs.declared.stmt.Exit.{Exit}
use Rattle.gv_core.specs.declared.stmt.Exit.TheVariants.{Breaks, Continues, Returns}
use Rattle.gv_code.specs.declared.code.OperandKind.{OperandKind}
use Rattle.gv_code.specs.declared.code.Op.{Op}
use Rattle.gv_code.specs.declared.code.Op.TheVariants.{Finish, Leave}
use Rattle.gv_code.specs.declared.code.Instruction.{Instruction}
use Rattle.gv_code.specs.declared.code.Handler.{Handler}
use Rattle.gv_code.specs.declared.code.Body.{Body}
use Rattle.gv_code.specs.declared.piece.Item.{Item}
use Rattle.gv_code.specs.declared.piece.Item.TheVariants.{Plain, Out}
use Rattle.gv_code.specs.declared.piece.Ways.{Ways}
use Rattle.gv_code.specs.declared.piece.Ways.TheVariants.{Loop}

-- the kinds of the operands on the stack, the top first
abbrev pub Shape : Type 0
Shape = List OperandKind

-- a stretch of code with its own handlers, whose places count from its start, the innermost first
pub record Piece : Type 0 where
  pub items : List Item
  pub handlers : List Handler

abbrev pub plain : Shape → Op → Item
plain shape op = Plain (record { shape = shape; op = op })

-- no handlers
abbrev pub bare : List Item → Piece
bare items = record { items = items; handlers = [] }

abbrev pub shifted : ℕ → Handler → Handler
shifted n h = record { from = h.from + n; to = h.to + n; class = h.class; target = h.target + n; kept = h.kept }

abbrev pub joined : Piece → Piece → Piece
joined a b = record { items = a.items ++ b.items; handlers = a.handlers ++ map (shifted (length a.items)) b.handlers }

-- a handler for all of so many instructions, which leads this far behind them; there is none for none
abbrev pub guard_of : ℕ → ℕ → ℕ → ℕ → List Handler
guard_of class far kept zero = []
guard_of class far kept (suc n) = record { from = 0; to = suc n; class = class; target = suc n + far; kept = kept } ∷ []

abbrev pub guarded : ℕ → ℕ → ℕ → Piece → Piece
guarded class far kept p = record { items = p.items; handlers = p.handlers ++ guard_of class far kept (length p.items) }

-- behind the body of a loop: a jump back, where `continue` comes out, a jump back, and where `break` comes out
abbrev pub loop_ways : ℕ → Exit → Option (ℕ → Op)
loop_ways kept Breaks = Some (λ n. Leave (n + 3) kept)
loop_ways kept Continues = Some (λ n. Leave (n + 1) kept)
loop_ways kept Returns = None

abbrev pub ways_of : Ways → Exit → Option (ℕ → Op)
ways_of (Loop kept) = loop_ways kept

-- decides the ways out: each gives an instruction by the count of those that follow
abbrev pub decided : Option (ℕ → Op) → ℕ → Shape → Exit → Item
decided None n shape e = Out shape e
decided (Some f) n shape e = plain shape (f n)

abbrev pub decide : (Exit → Option (ℕ → Op)) → ℕ → Item → Item
decide ways n (Plain i) = Plain i
decide ways n (Out shape e) = decided (ways e) n shape e

abbrev pub directed_items : (Exit → Option (ℕ → Op)) → List Item → List Item
directed_items ways [] = []
directed_items ways (o ∷ os) = decide ways (length os) o ∷ directed_items ways os

abbrev pub directed : (Exit → Option (ℕ → Op)) → Piece → Piece
directed ways p = record { items = directed_items ways p.items; handlers = p.handlers }

-- a way out that no form has decided leaves the body
abbrev pub instruction_of : Item → Instruction
instruction_of (Plain i) = i
instruction_of (Out shape e) = record { shape = shape; op = Finish }

abbrev pub written : ℕ → ℕ → Piece → Body
written captured parameters p = record { parameters = parameters; captured = captured; handlers = p.handlers; steps = map instruction_of p.items }

-- no handler's place is more than two behind the end of so many instructions
abbrev pub Bounded : ℕ → List Handler → Type 0
Bounded n [] = Unit {0}
Bounded n (h ∷ hs) = (h.from ≤ n) × (h.to ≤ n) × (h.target ≤ n + 2) × Bounded n hs
