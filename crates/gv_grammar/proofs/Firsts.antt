-- With which tokens a phrase begins.
use Rattle.std.proofs.Common.{◌≡◌, ℕ, ◌<◌, true, List, ◌∷◌, refl, ap, arith, Some}
use Rattle.gv_spelling.specs.declared.kinds.Keyword.{Keyword}
use Rattle.gv_spelling.specs.declared.kinds.Keyword.TheVariants as keyword
use Rattle.gv_spelling.specs.declared.kinds.Symbol.{Symbol}
use Rattle.gv_spelling.specs.declared.kinds.Symbol.TheVariants as symbol
use Rattle.gv_lex.specs.declared.token.Part.{Part as Form}
use Rattle.gv_lex.specs.declared.token.Piece.TheVariants as piece
use Rattle.gv_lex.specs.declared.token.Token.{Token}
use Rattle.gv_lex.specs.declared.token.TokenKind.{TokenKind}
use Rattle.gv_lex.specs.declared.token.TokenKind.TheVariants as kind
use Rattle.gv_lex.specs.declared.token.Word.TheVariants as word
use Rattle.gv_tree.specs.declared.expr.Arg.{Arg}
use Rattle.gv_tree.specs.declared.expr.Atom.{Atom}
use Rattle.gv_tree.specs.declared.expr.Entry.{Entry}
use Rattle.gv_tree.specs.declared.expr.Expr.{Expr}
use Rattle.gv_tree.specs.declared.expr.GString.{GString}
use Rattle.gv_tree.specs.declared.expr.Item.{Item}
use Rattle.gv_tree.specs.declared.expr.Key.{Key}
use Rattle.gv_tree.specs.declared.expr.Label.{Label}
use Rattle.gv_tree.specs.declared.ops.MemberOp.{MemberOp}
use Rattle.gv_tree.specs.declared.ops.UnaryOp.{UnaryOp}
use Rattle.gv_grammar.specs.Tokens.{EatsKeyword, eats_keyword, kind_of, atom_of, member_name_of, key_name_of, text_of, prefix_of, postfix_of, member_of, reach, begins_expr}
use Rattle.gv_grammar.proofs.Single.{kind_eaten, piece_eaten, meant}
use Rattle.gv_grammar.specs.Exprs.{IsClosure, unread, IsExpr, an_expr, a_cond, IsBin, tightest, a_bin, IsUnary, prefix, no_prefix, a_path, IsSuffix, a_member, a_field, postfix, index, call, closures, IsMemberName, member_word, member_text, member_gstring, IsKey, key_word, key_text, key_gstring, key_int, key_long, IsGString, gstring, AreArgs, last_arg, more_args, IsArg, plain_arg, keyed_arg, spread_arg, spread_map_arg, AreItems, last_item, item_comma, more_items, IsItem, plain_item, spread_item, AreEntries, last_entry, entry_comma, more_entries, IsEntry, keyed_entry, computed_entry, spread_entry, IsPrimary, an_atom, a_gstring, parens, a_list, empty_map, a_map, a_closure, a_new}

-- ---- primaries and prefixes

abbrev symbol_class : Symbol → ℕ
symbol_class symbol.LeftParen = 2
symbol_class symbol.LeftBracket = 3
symbol_class symbol.LeftBrace = 4
symbol_class symbol.Not = 6
symbol_class symbol.Minus = 6
symbol_class symbol.Plus = 6
symbol_class symbol.Increment = 6
symbol_class symbol.Decrement = 6
symbol_class s = 7

abbrev pub keyword_class : Keyword → ℕ
keyword_class keyword.Null = 0
keyword_class keyword.True = 0
keyword_class keyword.False = 0
keyword_class keyword.This = 0
keyword_class keyword.Super = 0
keyword_class keyword.New = 5
keyword_class k = 7

-- 0: an atom, 1: a string with parts, 2: `(`, 3: `[`, 4: `{`, 5: `new`, 6: a prefix, 7: none of these
abbrev pub class : TokenKind → ℕ
class (kind.Word word.Name n) = 0
class (kind.Word word.TypeName n) = 0
class (kind.Word (word.Keyword k) n) = keyword_class k
class (kind.Int z) = 0
class (kind.Long z) = 0
class (kind.Text piece.Whole n) = 0
class (kind.Text (piece.Head f) n) = 1
class (kind.Symbol s) = symbol_class s
class other = 7

keyword_atom : (k : Keyword) (n : ℕ) {x : Atom} → atom_of (kind.Word (word.Keyword k) n) ≡ Some x → class (kind.Word (word.Keyword k) n) ≡ 0
keyword_atom keyword.Null n p = refl
keyword_atom keyword.True n p = refl
keyword_atom keyword.False n p = refl
keyword_atom keyword.This n p = refl
keyword_atom keyword.Super n p = refl
keyword_atom k n p = cc

pub class_atom : (c : TokenKind) {x : Atom} → atom_of c ≡ Some x → class c ≡ 0
class_atom (kind.Word word.Name n) p = refl
class_atom (kind.Word word.TypeName n) p = refl
class_atom (kind.Word (word.Keyword k) n) p = keyword_atom k n p
class_atom (kind.Int z) p = refl
class_atom (kind.Long z) p = refl
class_atom (kind.Text piece.Whole n) p = refl
class_atom other p = cc

symbol_prefix : (s : Symbol) {x : UnaryOp} → prefix_of (kind.Symbol s) ≡ Some x → symbol_class s ≡ 6
symbol_prefix symbol.Not p = refl
symbol_prefix symbol.Minus p = refl
symbol_prefix symbol.Plus p = refl
symbol_prefix symbol.Increment p = refl
symbol_prefix symbol.Decrement p = refl
symbol_prefix s p = cc

pub class_prefix : (c : TokenKind) {x : UnaryOp} → prefix_of c ≡ Some x → class c ≡ 6
class_prefix (kind.Symbol s) p = symbol_prefix s p
class_prefix other p = cc

symbol_begins : (s : Symbol) → symbol_class s < 7 → begins_expr (kind.Symbol s) ≡ true
symbol_begins symbol.LeftParen p = refl
symbol_begins symbol.LeftBracket p = refl
symbol_begins symbol.LeftBrace p = refl
symbol_begins symbol.Not p = refl
symbol_begins symbol.Minus p = refl
symbol_begins symbol.Plus p = refl
symbol_begins symbol.Increment p = refl
symbol_begins symbol.Decrement p = refl
symbol_begins s p = absurd (omega arith)

keyword_begins : (k : Keyword) (n : ℕ) → keyword_class k < 7 → begins_expr (kind.Word (word.Keyword k) n) ≡ true
keyword_begins keyword.Null n p = refl
keyword_begins keyword.True n p = refl
keyword_begins keyword.False n p = refl
keyword_begins keyword.This n p = refl
keyword_begins keyword.Super n p = refl
keyword_begins keyword.New n p = refl
keyword_begins k n p = absurd (omega arith)

pub begins_class : (c : TokenKind) → class c < 7 → begins_expr c ≡ true
begins_class (kind.Word word.Name n) p = refl
begins_class (kind.Word word.TypeName n) p = refl
begins_class (kind.Word (word.Keyword k) n) p = keyword_begins k n p
begins_class (kind.Int z) p = refl
begins_class (kind.Long z) p = refl
begins_class (kind.Text piece.Whole n) p = refl
begins_class (kind.Text (piece.Head f) n) p = refl
begins_class (kind.Symbol s) p = symbol_begins s p
begins_class other p = absurd (omega arith)

-- ---- keys and names of members

-- 0: a word, 1: a string, 2: a string with parts, 3: an Integer, 4: a Long, 5: none of these
abbrev pub key_class : TokenKind → ℕ
key_class (kind.Word w n) = 0
key_class (kind.Text piece.Whole n) = 1
key_class (kind.Text (piece.Head f) n) = 2
key_class (kind.Int z) = 3
key_class (kind.Long z) = 4
key_class other = 5

class_member_name : (c : TokenKind) {n : ℕ} → member_name_of c ≡ Some n → key_class c ≡ 0
class_member_name (kind.Word w n) p = refl
class_member_name other p = cc

class_key_name : (c : TokenKind) {n : ℕ} → key_name_of c ≡ Some n → key_class c ≡ 0
class_key_name (kind.Word w n) p = refl
class_key_name other p = cc

class_text : (c : TokenKind) {n : ℕ} → text_of c ≡ Some n → key_class c ≡ 1
class_text (kind.Text piece.Whole n) p = refl
class_text other p = cc

-- ---- spread elements, and tokens that begin nothing

-- 1: `*`, 2: `*:`, 3: a closing bracket, a `:` or a `->`, 0: none of these
abbrev mark_class : Symbol → ℕ
mark_class symbol.Star = 1
mark_class symbol.SpreadColon = 2
mark_class symbol.RightParen = 3
mark_class symbol.RightBracket = 3
mark_class symbol.Colon = 3
mark_class symbol.Arrow = 3
mark_class s = 0

abbrev pub spread_class : TokenKind → ℕ
spread_class (kind.Symbol s) = mark_class s
spread_class other = 0

symbol_unspread : (s : Symbol) → symbol_class s < 7 → mark_class s ≡ 0
symbol_unspread symbol.Star p = absurd (omega arith)
symbol_unspread symbol.SpreadColon p = absurd (omega arith)
symbol_unspread symbol.RightParen p = absurd (omega arith)
symbol_unspread symbol.RightBracket p = absurd (omega arith)
symbol_unspread symbol.Colon p = absurd (omega arith)
symbol_unspread symbol.Arrow p = absurd (omega arith)
symbol_unspread s p = refl

unspread : (c : TokenKind) → class c < 7 → spread_class c ≡ 0
unspread (kind.Symbol s) p = symbol_unspread s p
unspread other p = refl

key_unspread : (c : TokenKind) → key_class c < 5 → spread_class c ≡ 0
key_unspread (kind.Symbol s) p = absurd (omega arith)
key_unspread other p = refl

-- ---- suffixes

abbrev symbol_suffix_class : Symbol → ℕ
symbol_suffix_class symbol.Dot = 0
symbol_suffix_class symbol.SafeDot = 0
symbol_suffix_class symbol.SpreadDot = 0
symbol_suffix_class symbol.MethodPointer = 0
symbol_suffix_class symbol.FieldDot = 1
symbol_suffix_class symbol.Increment = 2
symbol_suffix_class symbol.Decrement = 2
symbol_suffix_class symbol.LeftBracket = 3
symbol_suffix_class symbol.LeftParen = 4
symbol_suffix_class symbol.LeftBrace = 5
symbol_suffix_class s = 6

-- 0: a member, 1: a field, 2: `++` or `--`, 3: an index, 4: a call, 5: closures, 6: none of these
abbrev pub suffix_class : TokenKind → ℕ
suffix_class (kind.Symbol s) = symbol_suffix_class s
suffix_class other = 6

pub class_member : (c : TokenKind) {op : MemberOp} → member_of c ≡ Some op → suffix_class c ≡ 0
class_member (kind.Symbol symbol.Dot) p = refl
class_member (kind.Symbol symbol.SafeDot) p = refl
class_member (kind.Symbol symbol.SpreadDot) p = refl
class_member (kind.Symbol symbol.MethodPointer) p = refl
class_member other p = cc

class_postfix : (c : TokenKind) {op : UnaryOp} → postfix_of c ≡ Some op → suffix_class c ≡ 2
class_postfix (kind.Symbol symbol.Increment) p = refl
class_postfix (kind.Symbol symbol.Decrement) p = refl
class_postfix other p = cc

symbol_reaches : (s : Symbol) → symbol_suffix_class s < 6 → reach (kind.Symbol s) ≡ 0
symbol_reaches symbol.Dot p = refl
symbol_reaches symbol.SafeDot p = refl
symbol_reaches symbol.SpreadDot p = refl
symbol_reaches symbol.MethodPointer p = refl
symbol_reaches symbol.FieldDot p = refl
symbol_reaches symbol.Increment p = refl
symbol_reaches symbol.Decrement p = refl
symbol_reaches symbol.LeftBracket p = refl
symbol_reaches symbol.LeftParen p = refl
symbol_reaches symbol.LeftBrace p = refl
symbol_reaches s p = absurd (omega arith)

reaches : (c : TokenKind) → suffix_class c < 6 → reach c ≡ 0
reaches (kind.Symbol s) p = symbol_reaches s p
reaches other p = absurd (omega arith)

-- ---- the phrases

module _ (all : ℕ) where
  pub closure_first : {x : Expr} {ts rest : List Token} → IsClosure all x ts rest → kind_of ts ≡ kind.Symbol symbol.LeftBrace
  closure_first (unread o m c) = kind_eaten o

  pub gstring_first : {g : GString} {ts rest : List Token} → IsGString all g ts rest → (f : Form) × (n : ℕ) × (kind_of ts ≡ kind.Text (piece.Head f) n)
  gstring_first (gstring {n = n} {f = f} p d) = (f, n, piece_eaten p)

  pub gstring_class : {g : GString} {ts rest : List Token} → IsGString all g ts rest → class (kind_of ts) ≡ 1
  gstring_class d = let a = gstring_first d in ap class (a.2)

  pub gstring_key : {g : GString} {ts rest : List Token} → IsGString all g ts rest → key_class (kind_of ts) ≡ 2
  gstring_key d = let a = gstring_first d in ap key_class (a.2)

  pub keyword_first : {k : Keyword} {ts rest : List Token} → EatsKeyword k ts rest → class (kind_of ts) ≡ keyword_class k
  keyword_first (eats_keyword p) = ap class p

  abbrev pub number : {x : Expr} {ts rest : List Token} → IsPrimary all x ts rest → ℕ
  number (an_atom p) = 0
  number (a_gstring d) = 1
  number (parens p d q) = 2
  number (a_list p d) = 3
  number (empty_map p c q) = 3
  number (a_map p d) = 3
  number (a_closure d) = 4
  number (a_new p n o d) = 5

  pub primary_first : {x : Expr} {ts rest : List Token} (d : IsPrimary all x ts rest) → class (kind_of ts) ≡ number d
  primary_first (an_atom p) = class_atom _ p
  primary_first (a_gstring d) = gstring_class d
  primary_first (parens p d q) = ap class (kind_eaten p)
  primary_first (a_list p d) = ap class (kind_eaten p)
  primary_first (empty_map p c q) = ap class (kind_eaten p)
  primary_first (a_map p d) = ap class (kind_eaten p)
  primary_first (a_closure d) = ap class (closure_first d)
  primary_first (a_new p n o d) = keyword_first p

  pub number_below : {x : Expr} {ts rest : List Token} (d : IsPrimary all x ts rest) → number d < 6
  number_below (an_atom p) = omega arith
  number_below (a_gstring d) = omega arith
  number_below (parens p d q) = omega arith
  number_below (a_list p d) = omega arith
  number_below (empty_map p c q) = omega arith
  number_below (a_map p d) = omega arith
  number_below (a_closure d) = omega arith
  number_below (a_new p n o d) = omega arith

  pub unary_first : {x : Expr} {ts rest : List Token} → IsUnary all x ts rest → class (kind_of ts) < 7
  unary_first (prefix p d) = let a = class_prefix _ p in omega arith
  unary_first (no_prefix (a_path d g)) = let a = primary_first d in let b = number_below d in omega arith

  bin_first : {n : ℕ} {x : Expr} {ts rest : List Token} → IsBin all n x ts rest → class (kind_of ts) < 7
  bin_first (tightest d) = unary_first d
  bin_first (a_bin d g) = bin_first d

  pub expr_first : {x : Expr} {ts rest : List Token} → IsExpr all x ts rest → class (kind_of ts) < 7
  expr_first (an_expr (a_cond d f) g) = bin_first d

  pub expr_begins : {x : Expr} {t : Token} {ts rest : List Token} → IsExpr all x (t ∷ ts) rest → begins_expr t.kind ≡ true
  expr_begins {t = t} d = begins_class t.kind (expr_first d)

  abbrev pub key_number : {k : Key} {ts rest : List Token} → IsKey all k ts rest → ℕ
  key_number (key_word p) = 0
  key_number (key_text p) = 1
  key_number (key_gstring d) = 2
  key_number (key_int p) = 3
  key_number (key_long p) = 4

  pub key_first : {k : Key} {ts rest : List Token} (d : IsKey all k ts rest) → key_class (kind_of ts) ≡ key_number d
  key_first (key_word p) = class_key_name _ (meant p)
  key_first (key_text p) = class_text _ (meant p)
  key_first (key_gstring d) = gstring_key d
  key_first (key_int p) = ap key_class p
  key_first (key_long p) = ap key_class p

  pub key_below : {k : Key} {ts rest : List Token} (d : IsKey all k ts rest) → key_class (kind_of ts) < 5
  key_below (key_word p) = let a = class_key_name _ (meant p) in omega arith
  key_below (key_text p) = let a = class_text _ (meant p) in omega arith
  key_below (key_gstring d) = let a = gstring_key d in omega arith
  key_below (key_int p) = let a = ap key_class p in omega arith
  key_below (key_long p) = let a = ap key_class p in omega arith

  abbrev pub member_number : {l : Label} {ts rest : List Token} → IsMemberName all l ts rest → ℕ
  member_number (member_word p) = 0
  member_number (member_text p) = 1
  member_number (member_gstring d) = 2

  pub member_first : {l : Label} {ts rest : List Token} (d : IsMemberName all l ts rest) → key_class (kind_of ts) ≡ member_number d
  member_first (member_word p) = class_member_name _ (meant p)
  member_first (member_text p) = class_text _ (meant p)
  member_first (member_gstring d) = gstring_key d

  abbrev pub suffix_number : {x y : Expr} {ts rest : List Token} → IsSuffix all x y ts rest → ℕ
  suffix_number (a_member p d) = 0
  suffix_number (a_field p q) = 1
  suffix_number (postfix p) = 2
  suffix_number (index p d) = 3
  suffix_number (call p d f) = 4
  suffix_number (closures p c d) = 5

  pub suffix_first : {x y : Expr} {ts rest : List Token} (s : IsSuffix all x y ts rest) → suffix_class (kind_of ts) ≡ suffix_number s
  suffix_first (a_member p d) = class_member _ p
  suffix_first (a_field p q) = ap suffix_class (kind_eaten p)
  suffix_first (postfix p) = class_postfix _ p
  suffix_first (index p d) = ap suffix_class (kind_eaten p)
  suffix_first (call p d f) = ap suffix_class (kind_eaten p)
  suffix_first (closures p c d) = ap suffix_class (closure_first c)

  suffix_below : {x y : Expr} {ts rest : List Token} (s : IsSuffix all x y ts rest) → suffix_number s < 6
  suffix_below (a_member p d) = omega arith
  suffix_below (a_field p q) = omega arith
  suffix_below (postfix p) = omega arith
  suffix_below (index p d) = omega arith
  suffix_below (call p d f) = omega arith
  suffix_below (closures p c d) = omega arith

  pub suffix_reach : {x y : Expr} {ts rest : List Token} → IsSuffix all x y ts rest → reach (kind_of ts) ≡ 0
  suffix_reach s = let a = suffix_first s in let b = suffix_below s in reaches _ (omega arith)

  pub expr_spread : {x : Expr} {ts rest : List Token} → IsExpr all x ts rest → spread_class (kind_of ts) ≡ 0
  expr_spread d = unspread _ (expr_first d)

  pub key_spread : {k : Key} {ts rest : List Token} → IsKey all k ts rest → spread_class (kind_of ts) ≡ 0
  key_spread d = key_unspread _ (key_below d)

  abbrev pub arg_number : {a : Arg} {ts rest : List Token} → IsArg all a ts rest → ℕ
  arg_number (plain_arg d) = 0
  arg_number (keyed_arg k c d) = 0
  arg_number (spread_arg p d) = 1
  arg_number (spread_map_arg p d) = 2

  pub arg_first : {a : Arg} {ts rest : List Token} (d : IsArg all a ts rest) → spread_class (kind_of ts) ≡ arg_number d
  arg_first (plain_arg d) = expr_spread d
  arg_first (keyed_arg k c d) = key_spread k
  arg_first (spread_arg p d) = ap spread_class (kind_eaten p)
  arg_first (spread_map_arg p d) = ap spread_class (kind_eaten p)

  pub arg_below : {a : Arg} {ts rest : List Token} → IsArg all a ts rest → spread_class (kind_of ts) < 3
  arg_below (plain_arg d) = let a = expr_spread d in omega arith
  arg_below (keyed_arg k c d) = let a = key_spread k in omega arith
  arg_below (spread_arg p d) = let a = ap spread_class (kind_eaten p) in omega arith
  arg_below (spread_map_arg p d) = let a = ap spread_class (kind_eaten p) in omega arith

  pub args_below : {args : List Arg} {ts rest : List Token} → AreArgs all args ts rest → spread_class (kind_of ts) < 3
  args_below (last_arg d c) = arg_below d
  args_below (more_args d c g) = arg_below d

  abbrev pub item_number : {i : Item} {ts rest : List Token} → IsItem all i ts rest → ℕ
  item_number (plain_item d) = 0
  item_number (spread_item p d) = 1

  pub item_first : {i : Item} {ts rest : List Token} (d : IsItem all i ts rest) → spread_class (kind_of ts) ≡ item_number d
  item_first (plain_item d) = expr_spread d
  item_first (spread_item p d) = ap spread_class (kind_eaten p)

  pub item_below : {i : Item} {ts rest : List Token} → IsItem all i ts rest → spread_class (kind_of ts) < 3
  item_below (plain_item d) = let a = expr_spread d in omega arith
  item_below (spread_item p d) = let a = ap spread_class (kind_eaten p) in omega arith

  pub items_below : {items : List Item} {ts rest : List Token} → AreItems all items ts rest → spread_class (kind_of ts) < 3
  items_below (last_item d c) = item_below d
  items_below (item_comma d m c) = item_below d
  items_below (more_items d c g) = item_below d

  abbrev pub entry_number : {n : Entry} {ts rest : List Token} → IsEntry all n ts rest → ℕ
  entry_number (keyed_entry k c d) = 0
  entry_number (computed_entry p d q c f) = 0
  entry_number (spread_entry p d) = 2

  pub entry_first : {n : Entry} {ts rest : List Token} (d : IsEntry all n ts rest) → spread_class (kind_of ts) ≡ entry_number d
  entry_first (keyed_entry k c d) = key_spread k
  entry_first (computed_entry p d q c f) = ap spread_class (kind_eaten p)
  entry_first (spread_entry p d) = ap spread_class (kind_eaten p)

  pub entry_below : {n : Entry} {ts rest : List Token} → IsEntry all n ts rest → spread_class (kind_of ts) < 3
  entry_below (keyed_entry k c d) = let a = key_spread k in omega arith
  entry_below (computed_entry p d q c f) = let a = ap spread_class (kind_eaten p) in omega arith
  entry_below (spread_entry p d) = let a = ap spread_class (kind_eaten p) in omega arith

  pub entries_below : {ns : List Entry} {ts rest : List Token} → AreEntries all ns ts rest → spread_class (kind_of ts) < 3
  entries_below (last_entry d c) = entry_below d
  entries_below (entry_comma d m c) = entry_below d
  entries_below (more_entries d c g) = entry_below d
