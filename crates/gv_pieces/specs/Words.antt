-- The pieces of what has no parts: each definition gives the pieces so far with those behind them that the one of the same name in
-- gv_print's `Texts` puts as text.
use Rattle.std.specs.Prelude.{ℕ, ◌==◌, Bool, true, false, List, [], ◌∷◌, ◌++◌, length, Option, Some, None, if◌then◌else◌}
use Rattle.gv_tree.specs.declared.expr.Atom.{Atom}
use Rattle.gv_tree.specs.declared.expr.Atom.TheVariants as atom
use Rattle.gv_tree.specs.declared.ops.AssignOp.{AssignOp}
use Rattle.gv_tree.specs.declared.ops.AssignOp.TheVariants as assign
use Rattle.gv_tree.specs.declared.ops.BinaryOp.{BinaryOp}
use Rattle.gv_tree.specs.declared.ops.BinaryOp.TheVariants as binary
use Rattle.gv_tree.specs.declared.ops.Ident.{Ident}
use Rattle.gv_tree.specs.declared.ops.Leave.{Leave}
use Rattle.gv_tree.specs.declared.ops.Leave.TheVariants as leave
use Rattle.gv_tree.specs.declared.ops.MemberOp.{MemberOp}
use Rattle.gv_tree.specs.declared.ops.MemberOp.TheVariants as member_op
use Rattle.gv_tree.specs.declared.ops.Modifiers.{Modifiers}
use Rattle.gv_tree.specs.declared.ops.TypeOp.{TypeOp}
use Rattle.gv_tree.specs.declared.ops.TypeOp.TheVariants as type_op
use Rattle.gv_tree.specs.declared.ops.TypeTree.{TypeTree}
use Rattle.gv_tree.specs.declared.ops.TypeTree.TheVariants as type_tree
use Rattle.gv_tree.specs.declared.ops.UnaryOp.{UnaryOp}
use Rattle.gv_tree.specs.declared.ops.UnaryOp.TheVariants as unary
use Rattle.gv_tree.specs.declared.ops.VarType.{VarType}
use Rattle.gv_tree.specs.declared.ops.VarType.TheVariants as written
use Rattle.gv_tree.specs.declared.top.Answer.{Answer}
use Rattle.gv_tree.specs.declared.top.Answer.TheVariants as answer
use Rattle.gv_spelling.specs.declared.kinds.Keyword.TheVariants as keyword
use Rattle.gv_spelling.specs.declared.kinds.Symbol.TheVariants as symbol
use Rattle.gv_print.specs.declared.strings.Quotes.{Quotes}
use Rattle.gv_print.specs.declared.strings.Quotes.TheVariants as quotes
use Rattle.gv_print.specs.Texts.{is_sign}
use Rattle.gv_pieces.specs.Pieces.{Piece, Blank, Line, Symbol, Keyword, Name, Int, Long, Open, Chars, Close}

-- the pieces so far, and these with those that come next
abbrev pub Pieced : Type 0
Pieced = List Piece → List Piece

-- each of some, in order
abbrev pub each_pieced : {X : Type 0} → (X → Pieced) → List X → Pieced
each_pieced f [] so_far = so_far
each_pieced f (x ∷ xs) so_far = each_pieced f xs (f x so_far)

abbrev pub if_there_pieced : {X : Type 0} → (X → Pieced) → Option X → Pieced
if_there_pieced f None so_far = so_far
if_there_pieced f (Some x) so_far = f x so_far

-- some pieces where something holds
abbrev pub put_if_pieced : Bool → List Piece → Pieced
put_if_pieced holds pieces so_far = if holds then so_far ++ pieces else so_far

abbrev pub put_unless_pieced : Bool → List Piece → Pieced
put_unless_pieced holds pieces so_far = if holds then so_far else so_far ++ pieces

-- each of some with pieces between them; whether the first is still to come
abbrev pub parted_pieced : {X : Type 0} → List Piece → (X → Pieced) → Bool → List X → Pieced
parted_pieced between f is_first [] so_far = so_far
parted_pieced between f is_first (x ∷ xs) so_far = parted_pieced between f false xs (f x (put_unless_pieced is_first between so_far))

abbrev pub listed_pieced : {X : Type 0} → (X → Pieced) → Bool → List X → Pieced
listed_pieced f is_first xs so_far = parted_pieced (Symbol symbol.Comma ∷ Blank ∷ []) f is_first xs so_far

abbrev pub new_line_pieced : ℕ → Pieced
new_line_pieced indent so_far = so_far ++ Line indent ∷ []

-- ---- strings

-- the characters of a name's text, in a string in such quotes
abbrev pub chars_pieced : Quotes → ℕ → Pieced
chars_pieced q name so_far = so_far ++ Chars q name ∷ []

-- a string without parts
abbrev pub string_pieced : ℕ → Pieced
string_pieced name so_far = chars_pieced quotes.Single name (so_far ++ Open quotes.Single ∷ []) ++ Close quotes.Single ∷ []

-- ---- operators

abbrev pub unary_pieces : UnaryOp → List Piece
unary_pieces unary.Not = Symbol symbol.Not ∷ []
unary_pieces unary.Minus = Symbol symbol.Minus ∷ []
unary_pieces unary.Plus = Symbol symbol.Plus ∷ []
unary_pieces unary.Increment = Symbol symbol.Increment ∷ []
unary_pieces unary.Decrement = Symbol symbol.Decrement ∷ []
unary_pieces unary.IncrementAfter = Symbol symbol.Increment ∷ []
unary_pieces unary.DecrementAfter = Symbol symbol.Decrement ∷ []

abbrev pub binary_pieces : BinaryOp → List Piece
binary_pieces binary.Multiply = Blank ∷ Symbol symbol.Star ∷ Blank ∷ []
binary_pieces binary.Mod = Blank ∷ Symbol symbol.Percent ∷ Blank ∷ []
binary_pieces binary.Plus = Blank ∷ Symbol symbol.Plus ∷ Blank ∷ []
binary_pieces binary.Minus = Blank ∷ Symbol symbol.Minus ∷ Blank ∷ []
binary_pieces binary.LeftShift = Blank ∷ Symbol symbol.ShiftLeft ∷ Blank ∷ []
binary_pieces binary.RightShift = Blank ∷ Symbol symbol.ShiftRight ∷ Blank ∷ []
binary_pieces binary.RightShiftUnsigned = Blank ∷ Symbol symbol.ShiftRightUnsigned ∷ Blank ∷ []
binary_pieces binary.Range = Blank ∷ Symbol symbol.Range ∷ Blank ∷ []
binary_pieces binary.HalfOpenRange = Blank ∷ Symbol symbol.HalfOpenRange ∷ Blank ∷ []
binary_pieces binary.Less = Blank ∷ Symbol symbol.Less ∷ Blank ∷ []
binary_pieces binary.LessEqual = Blank ∷ Symbol symbol.LessEqual ∷ Blank ∷ []
binary_pieces binary.Greater = Blank ∷ Symbol symbol.Greater ∷ Blank ∷ []
binary_pieces binary.GreaterEqual = Blank ∷ Symbol symbol.GreaterEqual ∷ Blank ∷ []
binary_pieces binary.In = Blank ∷ Keyword keyword.In ∷ Blank ∷ []
binary_pieces binary.Equal = Blank ∷ Symbol symbol.Equal ∷ Blank ∷ []
binary_pieces binary.NotEqual = Blank ∷ Symbol symbol.NotEqual ∷ Blank ∷ []
binary_pieces binary.Compare = Blank ∷ Symbol symbol.Spaceship ∷ Blank ∷ []
binary_pieces binary.BitAnd = Blank ∷ Symbol symbol.Ampersand ∷ Blank ∷ []
binary_pieces binary.BitXor = Blank ∷ Symbol symbol.Caret ∷ Blank ∷ []
binary_pieces binary.BitOr = Blank ∷ Symbol symbol.Bar ∷ Blank ∷ []
binary_pieces binary.And = Blank ∷ Symbol symbol.And ∷ Blank ∷ []
binary_pieces binary.Or = Blank ∷ Symbol symbol.Or ∷ Blank ∷ []

abbrev pub type_op_pieces : TypeOp → List Piece
type_op_pieces type_op.InstanceOf = Blank ∷ Keyword keyword.InstanceOf ∷ Blank ∷ []
type_op_pieces type_op.As = Blank ∷ Keyword keyword.As ∷ Blank ∷ []

abbrev pub assign_pieces : AssignOp → List Piece
assign_pieces assign.Plain = Blank ∷ Symbol symbol.Assign ∷ Blank ∷ []
assign_pieces assign.Plus = Blank ∷ Symbol symbol.PlusAssign ∷ Blank ∷ []
assign_pieces assign.Minus = Blank ∷ Symbol symbol.MinusAssign ∷ Blank ∷ []
assign_pieces assign.Multiply = Blank ∷ Symbol symbol.StarAssign ∷ Blank ∷ []
assign_pieces assign.Mod = Blank ∷ Symbol symbol.PercentAssign ∷ Blank ∷ []
assign_pieces assign.LeftShift = Blank ∷ Symbol symbol.ShiftLeftAssign ∷ Blank ∷ []
assign_pieces assign.RightShift = Blank ∷ Symbol symbol.ShiftRightAssign ∷ Blank ∷ []
assign_pieces assign.RightShiftUnsigned = Blank ∷ Symbol symbol.ShiftRightUnsignedAssign ∷ Blank ∷ []
assign_pieces assign.BitAnd = Blank ∷ Symbol symbol.AmpersandAssign ∷ Blank ∷ []
assign_pieces assign.BitOr = Blank ∷ Symbol symbol.BarAssign ∷ Blank ∷ []
assign_pieces assign.BitXor = Blank ∷ Symbol symbol.CaretAssign ∷ Blank ∷ []

abbrev pub member_pieces : MemberOp → List Piece
member_pieces member_op.Dot = Symbol symbol.Dot ∷ []
member_pieces member_op.Safe = Symbol symbol.SafeDot ∷ []
member_pieces member_op.Spread = Symbol symbol.SpreadDot ∷ []
member_pieces member_op.Pointer = Symbol symbol.MethodPointer ∷ []

abbrev pub leave_pieces : Leave → List Piece
leave_pieces leave.Break = Keyword keyword.Break ∷ []
leave_pieces leave.Continue = Keyword keyword.Continue ∷ []

-- the blank between a sign and its operand, where that begins with a digit or a sign
abbrev pub gap_pieces : UnaryOp → Bool → List Piece
gap_pieces op begins_signed = if is_sign op then if begins_signed then Blank ∷ [] else [] else []

-- ---- words

abbrev pub ident_pieced : Ident → Pieced
ident_pieced i so_far = so_far ++ Name i.name ∷ []

abbrev pub atom_pieced : Atom → Pieced
atom_pieced atom.Null so_far = so_far ++ Keyword keyword.Null ∷ []
atom_pieced (atom.Bool true) so_far = so_far ++ Keyword keyword.True ∷ []
atom_pieced (atom.Bool false) so_far = so_far ++ Keyword keyword.False ∷ []
atom_pieced (atom.Int n) so_far = so_far ++ Int n ∷ []
atom_pieced (atom.Long n) so_far = so_far ++ Long n ∷ []
atom_pieced (atom.Text text) so_far = string_pieced text so_far
atom_pieced (atom.Name name) so_far = so_far ++ Name name ∷ []
atom_pieced atom.This so_far = so_far ++ Keyword keyword.This ∷ []
atom_pieced atom.Super so_far = so_far ++ Keyword keyword.Super ∷ []

abbrev pub type_pieced : TypeTree → Pieced
type_pieced (type_tree.Int p) so_far = so_far ++ Keyword keyword.Int ∷ []
type_pieced (type_tree.Long p) so_far = so_far ++ Keyword keyword.Long ∷ []
type_pieced (type_tree.Boolean p) so_far = so_far ++ Keyword keyword.Boolean ∷ []
type_pieced (type_tree.Class name) so_far = ident_pieced name so_far

abbrev pub written_pieced : VarType → Pieced
written_pieced written.Def so_far = so_far ++ Keyword keyword.Def ∷ []
written_pieced (written.Typed t) so_far = type_pieced t so_far

abbrev pub answer_pieced : Answer → Pieced
answer_pieced answer.Void so_far = so_far ++ Keyword keyword.Void ∷ []
answer_pieced (answer.Value w) so_far = written_pieced w so_far

-- the type of a parameter, with `...` where it takes the rest, and of the variable of a loop
abbrev pub param_type_pieced : Bool → VarType → Pieced
param_type_pieced is_rest w so_far = put_if_pieced is_rest (Symbol symbol.Ellipsis ∷ []) (written_pieced w so_far) ++ Blank ∷ []

abbrev pub loop_type_pieced : VarType → Pieced
loop_type_pieced w so_far = written_pieced w so_far ++ Blank ∷ []

-- the types of a catch
abbrev pub types_pieced : List TypeTree → Pieced
types_pieced ts so_far = if length ts == 0 then so_far else parted_pieced (Blank ∷ Symbol symbol.Bar ∷ Blank ∷ []) type_pieced true ts so_far ++ Blank ∷ []

abbrev pub modifiers_pieced : Modifiers → Pieced
modifiers_pieced m so_far = put_if_pieced m.is_final (Keyword keyword.Final ∷ Blank ∷ []) (put_if_pieced m.is_static (Keyword keyword.Static ∷ Blank ∷ []) (put_if_pieced m.is_protected (Keyword keyword.Protected ∷ Blank ∷ []) (put_if_pieced m.is_private (Keyword keyword.Private ∷ Blank ∷ []) (put_if_pieced m.is_public (Keyword keyword.Public ∷ Blank ∷ []) so_far))))
