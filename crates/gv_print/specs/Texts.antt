-- The texts of what has no parts. Each definition gives the text so far with what it prints behind it.
use Rattle.std.specs.Prelude.{ℕ, ◌==◌, ◌||◌, ◌+◌, ◌/◌, ◌%◌, nat_lt, Bool, true, false, List, [], ◌∷◌, ◌++◌, zero, suc, codes, encode_utf8, length, slice_index, Option, Some, None, if◌then◌else◌}
use Rattle.std.specs.Fmt.{signed_decimal}
use Rattle.std.specs.Str.{chars}
use Rattle.gv_base.specs.Names.{text_of}
use Rattle.gv_tree.specs.declared.expr.Atom.{Atom}
use Rattle.gv_tree.specs.declared.expr.Atom.TheVariants as atom
use Rattle.gv_tree.specs.declared.ops.AssignOp.{AssignOp}
use Rattle.gv_tree.specs.declared.ops.AssignOp.TheVariants as assign
use Rattle.gv_tree.specs.declared.ops.BinaryOp.{BinaryOp}
use Rattle.gv_tree.specs.declared.ops.BinaryOp.TheVariants as binary
use Rattle.gv_tree.specs.declared.ops.Ident.{Ident}
use Rattle.gv_tree.specs.declared.ops.Leave.{Leave}
use Rattle.gv_tree.specs.declared.ops.Leave.TheVariants as leave
use Rattle.gv_tree.specs.declared.ops.MemberOp.{MemberOp}
use Rattle.gv_tree.specs.declared.ops.MemberOp.TheVariants as member_op
use Rattle.gv_tree.specs.declared.ops.Modifiers.{Modifiers}
use Rattle.gv_tree.specs.declared.ops.TypeOp.{TypeOp}
use Rattle.gv_tree.specs.declared.ops.TypeOp.TheVariants as type_op
use Rattle.gv_tree.specs.declared.ops.TypeTree.{TypeTree}
use Rattle.gv_tree.specs.declared.ops.TypeTree.TheVariants as type_tree
use Rattle.gv_tree.specs.declared.ops.UnaryOp.{UnaryOp}
use Rattle.gv_tree.specs.declared.ops.UnaryOp.TheVariants as unary
use Rattle.gv_tree.specs.declared.ops.VarType.{VarType}
use Rattle.gv_tree.specs.declared.ops.VarType.TheVariants as written
use Rattle.gv_tree.specs.declared.top.Answer.{Answer}
use Rattle.gv_tree.specs.declared.top.Answer.TheVariants as answer
use Rattle.gv_print.specs.declared.strings.Quotes.{Quotes}
use Rattle.gv_print.specs.declared.strings.Quotes.TheVariants as quotes

-- the text so far, and the text with what is printed next
abbrev pub Printed : Type 0
Printed = List ℕ → List ℕ

-- each of some, in order
abbrev pub each : {X : Type 0} → (X → Printed) → List X → Printed
each f [] so_far = so_far
each f (x ∷ xs) so_far = each f xs (f x so_far)

abbrev pub if_there : {X : Type 0} → (X → Printed) → Option X → Printed
if_there f None so_far = so_far
if_there f (Some x) so_far = f x so_far

-- a text where something holds
abbrev pub put_if : Bool → List ℕ → Printed
put_if holds text so_far = if holds then so_far ++ text else so_far

abbrev pub put_unless : Bool → List ℕ → Printed
put_unless holds text so_far = if holds then so_far else so_far ++ text

-- each of some with a text between them; whether the first is still to come
abbrev pub parted : {X : Type 0} → List ℕ → (X → Printed) → Bool → List X → Printed
parted between f is_first [] so_far = so_far
parted between f is_first (x ∷ xs) so_far = parted between f false xs (f x (put_unless is_first between so_far))

abbrev pub listed : {X : Type 0} → (X → Printed) → Bool → List X → Printed
listed f is_first xs so_far = parted (codes ", ") f is_first xs so_far

-- ---- lines

-- two blanks for each level
abbrev pub margin : ℕ → Printed
margin zero so_far = so_far
margin (suc levels) so_far = margin levels (so_far ++ codes "  ")

abbrev pub new_line : ℕ → Printed
new_line indent so_far = margin indent (so_far ++ codes "\n")

-- one level further in; no tree of the grammar leads to the last one
abbrev pub deeper : ℕ → ℕ
deeper indent = if nat_lt indent 4000 then indent + 1 else indent

-- ---- strings

-- the backslash, the quote, and in a string with parts the `$`
abbrev pub is_marked : Quotes → ℕ → Bool
is_marked quotes.Single c = c == 92 || c == 39
is_marked quotes.Double c = c == 92 || c == 34 || c == 36

abbrev pub hex_digit : ℕ → ℕ
hex_digit n = slice_index (codes "0123456789ABCDEF") (n % 16)

-- `\u` and the four hexadecimal digits of a character below U+10000
abbrev pub unicode_escaped : ℕ → Printed
unicode_escaped c so_far = so_far ++ codes "\\u" ++ encode_utf8 (hex_digit (c / 4096)) ++ encode_utf8 (hex_digit (c / 256)) ++ encode_utf8 (hex_digit (c / 16)) ++ encode_utf8 (hex_digit c)

abbrev pub control_escaped : ℕ → Printed
control_escaped c so_far =
    if c == 8 then so_far ++ codes "\\b"
    else if c == 9 then so_far ++ codes "\\t"
    else if c == 10 then so_far ++ codes "\\n"
    else if c == 12 then so_far ++ codes "\\f"
    else if c == 13 then so_far ++ codes "\\r"
    else unicode_escaped c so_far

-- a character of a string in such quotes
abbrev pub char_printed : Quotes → ℕ → Printed
char_printed q c so_far =
    if is_marked q c then so_far ++ codes "\\" ++ encode_utf8 c
    else if nat_lt c 32 then control_escaped c so_far
    else so_far ++ encode_utf8 c

abbrev pub chars_printed : Quotes → List ℕ → Printed
chars_printed q text so_far = each (char_printed q) (chars text) so_far

-- a string without parts
abbrev pub string_printed : List ℕ → Printed
string_printed text so_far = chars_printed quotes.Single text (so_far ++ codes "'") ++ codes "'"

-- ---- operators

abbrev pub unary_text : UnaryOp → List ℕ
unary_text unary.Not = codes "!"
unary_text unary.Minus = codes "-"
unary_text unary.Plus = codes "+"
unary_text unary.Increment = codes "++"
unary_text unary.Decrement = codes "--"
unary_text unary.IncrementAfter = codes "++"
unary_text unary.DecrementAfter = codes "--"

abbrev pub binary_text : BinaryOp → List ℕ
binary_text binary.Multiply = codes " * "
binary_text binary.Mod = codes " % "
binary_text binary.Plus = codes " + "
binary_text binary.Minus = codes " - "
binary_text binary.LeftShift = codes " << "
binary_text binary.RightShift = codes " >> "
binary_text binary.RightShiftUnsigned = codes " >>> "
binary_text binary.Range = codes " .. "
binary_text binary.HalfOpenRange = codes " ..< "
binary_text binary.Less = codes " < "
binary_text binary.LessEqual = codes " <= "
binary_text binary.Greater = codes " > "
binary_text binary.GreaterEqual = codes " >= "
binary_text binary.In = codes " in "
binary_text binary.Equal = codes " == "
binary_text binary.NotEqual = codes " != "
binary_text binary.Compare = codes " <=> "
binary_text binary.BitAnd = codes " & "
binary_text binary.BitXor = codes " ^ "
binary_text binary.BitOr = codes " | "
binary_text binary.And = codes " && "
binary_text binary.Or = codes " || "

abbrev pub type_op_text : TypeOp → List ℕ
type_op_text type_op.InstanceOf = codes " instanceof "
type_op_text type_op.As = codes " as "

abbrev pub assign_text : AssignOp → List ℕ
assign_text assign.Plain = codes " = "
assign_text assign.Plus = codes " += "
assign_text assign.Minus = codes " -= "
assign_text assign.Multiply = codes " *= "
assign_text assign.Mod = codes " %= "
assign_text assign.LeftShift = codes " <<= "
assign_text assign.RightShift = codes " >>= "
assign_text assign.RightShiftUnsigned = codes " >>>= "
assign_text assign.BitAnd = codes " &= "
assign_text assign.BitOr = codes " |= "
assign_text assign.BitXor = codes " ^= "

abbrev pub member_text : MemberOp → List ℕ
member_text member_op.Dot = codes "."
member_text member_op.Safe = codes "?."
member_text member_op.Spread = codes "*."
member_text member_op.Pointer = codes ".&"

abbrev pub leave_text : Leave → List ℕ
leave_text leave.Break = codes "break"
leave_text leave.Continue = codes "continue"

-- whether an operator stands behind its operand; whether it is one of the two signs
abbrev pub is_behind : UnaryOp → Bool
is_behind unary.IncrementAfter = true
is_behind unary.DecrementAfter = true
is_behind op = false

-- a prefix operator that begins with a sign
abbrev pub begins_with_sign : UnaryOp → Bool
begins_with_sign unary.Not = false
begins_with_sign op = true

abbrev pub is_sign : UnaryOp → Bool
is_sign unary.Minus = true
is_sign unary.Plus = true
is_sign op = false

-- the blank between a sign and its operand, where that begins with a digit or a sign
abbrev pub gap : UnaryOp → Bool → List ℕ
gap op begins_signed = if is_sign op then if begins_signed then codes " " else [] else []

-- ---- words

module _ (names : List (List ℕ)) where
  abbrev pub ident_printed : Ident → Printed
  ident_printed i so_far = so_far ++ text_of names i.name

  abbrev pub atom_printed : Atom → Printed
  atom_printed atom.Null so_far = so_far ++ codes "null"
  atom_printed (atom.Bool true) so_far = so_far ++ codes "true"
  atom_printed (atom.Bool false) so_far = so_far ++ codes "false"
  atom_printed (atom.Int n) so_far = so_far ++ signed_decimal n
  atom_printed (atom.Long n) so_far = so_far ++ signed_decimal n ++ codes "L"
  atom_printed (atom.Text text) so_far = string_printed (text_of names text) so_far
  atom_printed (atom.Name name) so_far = so_far ++ text_of names name
  atom_printed atom.This so_far = so_far ++ codes "this"
  atom_printed atom.Super so_far = so_far ++ codes "super"

  abbrev pub type_printed : TypeTree → Printed
  type_printed (type_tree.Int p) so_far = so_far ++ codes "int"
  type_printed (type_tree.Long p) so_far = so_far ++ codes "long"
  type_printed (type_tree.Boolean p) so_far = so_far ++ codes "boolean"
  type_printed (type_tree.Class name) so_far = ident_printed name so_far

  abbrev pub written_printed : VarType → Printed
  written_printed written.Def so_far = so_far ++ codes "def"
  written_printed (written.Typed t) so_far = type_printed t so_far

  abbrev pub answer_printed : Answer → Printed
  answer_printed answer.Void so_far = so_far ++ codes "void"
  answer_printed (answer.Value w) so_far = written_printed w so_far

  -- the type of a parameter, with `...` where it takes the rest, and of the variable of a loop
  abbrev pub param_type_printed : Bool → VarType → Printed
  param_type_printed is_rest w so_far = put_if is_rest (codes "...") (written_printed w so_far) ++ codes " "

  abbrev pub loop_type_printed : VarType → Printed
  loop_type_printed w so_far = written_printed w so_far ++ codes " "

  -- the types of a catch
  abbrev pub types_printed : List TypeTree → Printed
  types_printed ts so_far = if length ts == 0 then so_far else parted (codes " | ") type_printed true ts so_far ++ codes " "

abbrev pub modifiers_printed : Modifiers → Printed
modifiers_printed m so_far = put_if m.is_final (codes "final ") (put_if m.is_static (codes "static ") (put_if m.is_protected (codes "protected ") (put_if m.is_private (codes "private ") (put_if m.is_public (codes "public ") so_far))))
