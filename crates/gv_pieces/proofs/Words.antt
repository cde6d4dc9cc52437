-- What has no parts.
use Rattle.std.proofs.Common.{◌≡◌, ℕ, ◌==◌, Bool, true, false, List, [], ◌∷◌, ◌++◌, codes, length, if◌then◌else◌, refl}
use Rattle.gv_tree.specs.declared.expr.Atom.{Atom}
use Rattle.gv_tree.specs.declared.expr.Atom.TheVariants as atom
use Rattle.gv_tree.specs.declared.ops.AssignOp.{AssignOp}
use Rattle.gv_tree.specs.declared.ops.AssignOp.TheVariants as assign
use Rattle.gv_tree.specs.declared.ops.BinaryOp.{BinaryOp}
use Rattle.gv_tree.specs.declared.ops.BinaryOp.TheVariants as binary
use Rattle.gv_tree.specs.declared.ops.Ident.{Ident}
use Rattle.gv_tree.specs.declared.ops.Leave.{Leave}
use Rattle.gv_tree.specs.declared.ops.Leave.TheVariants as leave
use Rattle.gv_tree.specs.declared.ops.MemberOp.{MemberOp}
use Rattle.gv_tree.specs.declared.ops.MemberOp.TheVariants as member_op
use Rattle.gv_tree.specs.declared.ops.Modifiers.{Modifiers}
use Rattle.gv_tree.specs.declared.ops.TypeOp.{TypeOp}
use Rattle.gv_tree.specs.declared.ops.TypeOp.TheVariants as type_op
use Rattle.gv_tree.specs.declared.ops.TypeTree.{TypeTree}
use Rattle.gv_tree.specs.declared.ops.TypeTree.TheVariants as type_tree
use Rattle.gv_tree.specs.declared.ops.UnaryOp.{UnaryOp}
use Rattle.gv_tree.specs.declared.ops.UnaryOp.TheVariants as unary
use Rattle.gv_tree.specs.declared.ops.VarType.{VarType}
use Rattle.gv_tree.specs.declared.ops.VarType.TheVariants as written
use Rattle.gv_tree.specs.declared.top.Answer.{Answer}
use Rattle.gv_tree.specs.declared.top.Answer.TheVariants as answer
use Rattle.gv_spelling.specs.declared.kinds.Keyword.TheVariants as keyword
use Rattle.gv_spelling.specs.declared.kinds.Symbol.TheVariants as symbol
use Rattle.gv_print.specs.declared.strings.Quotes.{Quotes}
use Rattle.gv_print.specs.declared.strings.Quotes.TheVariants as quotes
use Rattle.gv_pieces.specs.Pieces.{Piece, Blank, Line, Symbol, Keyword, Name, Int, Long, Open, Chars, PartOpen, PartClose, Close, texts_of}
use Rattle.std.specs.Fmt.{signed_decimal}
use Rattle.gv_print.specs.Texts as texts
use Rattle.gv_pieces.specs.Words as words
use Rattle.gv_pieces.proofs.Agree.{Same, Agrees, put, put_as, put_one, put_parts, if_agrees, put_if_agrees, each_agrees, if_there_agrees, parted_agrees, listed_agrees, new_line_agrees, chars_agrees, string_agrees}

module _ (names : List (List ℕ)) where
  -- the text of an operator is that of its pieces
  pub unary_same : (op : UnaryOp) → texts.unary_text op ≡ texts_of names (words.unary_pieces op)
  unary_same unary.Not = refl
  unary_same unary.Minus = refl
  unary_same unary.Plus = refl
  unary_same unary.Increment = refl
  unary_same unary.Decrement = refl
  unary_same unary.IncrementAfter = refl
  unary_same unary.DecrementAfter = refl

  pub binary_same : (op : BinaryOp) → texts.binary_text op ≡ texts_of names (words.binary_pieces op)
  binary_same binary.Multiply = refl
  binary_same binary.Mod = refl
  binary_same binary.Plus = refl
  binary_same binary.Minus = refl
  binary_same binary.LeftShift = refl
  binary_same binary.RightShift = refl
  binary_same binary.RightShiftUnsigned = refl
  binary_same binary.Range = refl
  binary_same binary.HalfOpenRange = refl
  binary_same binary.Less = refl
  binary_same binary.LessEqual = refl
  binary_same binary.Greater = refl
  binary_same binary.GreaterEqual = refl
  binary_same binary.In = refl
  binary_same binary.Equal = refl
  binary_same binary.NotEqual = refl
  binary_same binary.Compare = refl
  binary_same binary.BitAnd = refl
  binary_same binary.BitXor = refl
  binary_same binary.BitOr = refl
  binary_same binary.And = refl
  binary_same binary.Or = refl

  pub type_op_same : (op : TypeOp) → texts.type_op_text op ≡ texts_of names (words.type_op_pieces op)
  type_op_same type_op.InstanceOf = refl
  type_op_same type_op.As = refl

  pub assign_same : (op : AssignOp) → texts.assign_text op ≡ texts_of names (words.assign_pieces op)
  assign_same assign.Plain = refl
  assign_same assign.Plus = refl
  assign_same assign.Minus = refl
  assign_same assign.Multiply = refl
  assign_same assign.Mod = refl
  assign_same assign.LeftShift = refl
  assign_same assign.RightShift = refl
  assign_same assign.RightShiftUnsigned = refl
  assign_same assign.BitAnd = refl
  assign_same assign.BitOr = refl
  assign_same assign.BitXor = refl

  pub member_same : (op : MemberOp) → texts.member_text op ≡ texts_of names (words.member_pieces op)
  member_same member_op.Dot = refl
  member_same member_op.Safe = refl
  member_same member_op.Spread = refl
  member_same member_op.Pointer = refl

  pub leave_same : (op : Leave) → texts.leave_text op ≡ texts_of names (words.leave_pieces op)
  leave_same leave.Break = refl
  leave_same leave.Continue = refl

  pub gap_same : (op : UnaryOp) (b : Bool) → texts.gap op b ≡ texts_of names (words.gap_pieces op b)
  gap_same op true = by_sign (texts.is_sign op)
    where
      by_sign : (s : Bool) → (if s then codes " " else []) ≡ texts_of names (if s then Blank ∷ [] else [])
      by_sign true = refl
      by_sign false = refl
  gap_same op false = by_sign (texts.is_sign op)
    where
      by_sign : (s : Bool) → (if s then [] else []) ≡ texts_of names (if s then [] else [])
      by_sign true = refl
      by_sign false = refl

  pub ident_agrees : (x0 : Ident) → Agrees names (texts.ident_printed names x0) (words.ident_pieced x0)
  ident_agrees i t0 ps0 same = put_one names (Name i.name) same

  pub atom_agrees : (x0 : Atom) → Agrees names (texts.atom_printed names x0) (words.atom_pieced x0)
  atom_agrees atom.Null t0 ps0 same = put_one names (Keyword keyword.Null) same
  atom_agrees (atom.Bool true) t0 ps0 same = put_one names (Keyword keyword.True) same
  atom_agrees (atom.Bool false) t0 ps0 same = put_one names (Keyword keyword.False) same
  atom_agrees (atom.Int n) t0 ps0 same = put_one names (Int n) same
  atom_agrees (atom.Long n) t0 ps0 same = put_parts names (Long n) (signed_decimal n) (codes "L") refl same
  atom_agrees (atom.Text text) t0 ps0 same = string_agrees names text _ _ same
  atom_agrees (atom.Name name) t0 ps0 same = put_one names (Name name) same
  atom_agrees atom.This t0 ps0 same = put_one names (Keyword keyword.This) same
  atom_agrees atom.Super t0 ps0 same = put_one names (Keyword keyword.Super) same

  pub type_agrees : (x0 : TypeTree) → Agrees names (texts.type_printed names x0) (words.type_pieced x0)
  type_agrees (type_tree.Int p) t0 ps0 same = put_one names (Keyword keyword.Int) same
  type_agrees (type_tree.Long p) t0 ps0 same = put_one names (Keyword keyword.Long) same
  type_agrees (type_tree.Boolean p) t0 ps0 same = put_one names (Keyword keyword.Boolean) same
  type_agrees (type_tree.Class name) t0 ps0 same = ident_agrees name _ _ same

  pub written_agrees : (x0 : VarType) → Agrees names (texts.written_printed names x0) (words.written_pieced x0)
  written_agrees written.Def t0 ps0 same = put_one names (Keyword keyword.Def) same
  written_agrees (written.Typed t) t0 ps0 same = type_agrees t _ _ same

  pub answer_agrees : (x0 : Answer) → Agrees names (texts.answer_printed names x0) (words.answer_pieced x0)
  answer_agrees answer.Void t0 ps0 same = put_one names (Keyword keyword.Void) same
  answer_agrees (answer.Value w) t0 ps0 same = written_agrees w _ _ same

  pub param_type_agrees : (x0 : Bool) (x1 : VarType) → Agrees names (texts.param_type_printed names x0 x1) (words.param_type_pieced x0 x1)
  param_type_agrees is_rest w t0 ps0 same = put_one names (Blank) (put_if_agrees names is_rest (Symbol symbol.Ellipsis ∷ []) _ _ (written_agrees w _ _ same))

  pub loop_type_agrees : (x0 : VarType) → Agrees names (texts.loop_type_printed names x0) (words.loop_type_pieced x0)
  loop_type_agrees w t0 ps0 same = put_one names (Blank) (written_agrees w _ _ same)

  pub types_agrees : (x0 : List TypeTree) → Agrees names (texts.types_printed names x0) (words.types_pieced x0)
  types_agrees ts t0 ps0 same = if_agrees names (length ts == 0) (same) (put_one names (Blank) (parted_agrees names (Blank ∷ Symbol symbol.Bar ∷ Blank ∷ []) _ _ type_agrees true ts _ _ same))

  pub modifiers_agrees : (x0 : Modifiers) → Agrees names (texts.modifiers_printed x0) (words.modifiers_pieced x0)
  modifiers_agrees m t0 ps0 same = put_if_agrees names m.is_final (Keyword keyword.Final ∷ Blank ∷ []) _ _ (put_if_agrees names m.is_static (Keyword keyword.Static ∷ Blank ∷ []) _ _ (put_if_agrees names m.is_protected (Keyword keyword.Protected ∷ Blank ∷ []) _ _ (put_if_agrees names m.is_private (Keyword keyword.Private ∷ Blank ∷ []) _ _ (put_if_agrees names m.is_public (Keyword keyword.Public ∷ Blank ∷ []) _ _ same))))
