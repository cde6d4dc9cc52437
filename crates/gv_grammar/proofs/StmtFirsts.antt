-- With which tokens a statement begins.
use Rattle.std.proofs.Common.{◌≡◌, ◌≢◌, ℕ, ◌<◌, Bool, true, false, ◌&&◌, List, [], ◌∷◌, refl, ap, arith, Some, ◌∙◌, if◌then◌else◌}
use Rattle.gv_base.specs.declared.refusal.Place.{Place}
use Rattle.gv_spelling.specs.declared.kinds.Keyword.{Keyword}
use Rattle.gv_spelling.specs.declared.kinds.Keyword.TheVariants as keyword
use Rattle.gv_spelling.specs.declared.kinds.Symbol.{Symbol}
use Rattle.gv_spelling.specs.declared.kinds.Symbol.TheVariants as symbol
use Rattle.gv_lex.specs.declared.token.Piece.TheVariants as piece
use Rattle.gv_lex.specs.declared.token.Token.{Token}
use Rattle.gv_lex.specs.declared.token.TokenKind.{TokenKind}
use Rattle.gv_lex.specs.declared.token.TokenKind.TheVariants as kind
use Rattle.gv_lex.specs.declared.token.Word.TheVariants as word
use Rattle.gv_tree.specs.declared.expr.Expr.{Expr}
use Rattle.gv_tree.specs.declared.expr.Param.{Param}
use Rattle.gv_tree.specs.declared.ops.TypeTree.{TypeTree}
use Rattle.gv_tree.specs.declared.stmt.Decl.{Decl}
use Rattle.gv_tree.specs.declared.stmt.Stmt.{Stmt}
use Rattle.gv_tree.specs.declared.stmt.Var.{Var}
use Rattle.gv_grammar.specs.Tokens.{Eats, eats, EatsKeyword, eats_keyword, EatsLine, eats_line, kind_of, name_of, type_of, key_name_of}
use Rattle.gv_grammar.specs.Exprs.{an_expr, expr_ends}
use Rattle.gv_grammar.specs.Commands.{IsFull, full_cond, full_assign, full_command}
use Rattle.gv_grammar.specs.Stmts.{Separates, by_line, by_semicolon, keyword_ends_stmts, ends_stmts, is_name_token, is_type_name, begins_typed, IsParam, param, is_final, not_final, untyped, with_def, with_type, with_rest, IsValue, value, IsFullValue, full_value, IsDecl, decl, var_def, var_typed, AreVars, last_var, more_vars, IsVar, var_alone, var_initial, IsStmt, a_decl, multiple, a_value, if_alone, if_else, a_while, for_in, for_parts, a_switch, try_catch, try_finally, a_throw, return_value, return_alone, a_break, a_continue, assert_alone, assert_message}
use Rattle.gv_grammar.proofs.Single.{meant}
use Rattle.gv_grammar.proofs.Firsts.{class, keyword_class, expr_first}
use Rattle.gv_grammar.proofs.Commands.{called, path_cond}

-- ---- tokens

pub line_eaten : {ts rest : List Token} → EatsLine ts rest → kind_of ts ≡ kind.LineEnd
line_eaten (eats_line p) = p

pub keyword_eaten : {k : Keyword} {ts rest : List Token} → EatsKeyword k ts rest → (n : ℕ) × (kind_of ts ≡ kind.Word (word.Keyword k) n)
keyword_eaten (eats_keyword {n = n} p) = (n, p)

pub named_token : (c : TokenKind) {n : ℕ} → name_of c ≡ Some n → is_name_token c ≡ true
named_token (kind.Word word.Name n) p = refl
named_token (kind.Word word.TypeName n) p = refl
named_token other p = cc

pub named_key : (c : TokenKind) {n : ℕ} → name_of c ≡ Some n → key_name_of c ≡ Some n
named_key (kind.Word word.Name n) p = p
named_key (kind.Word word.TypeName n) p = p
named_key other p = cc

pub named_class : (c : TokenKind) → is_name_token c ≡ true → class c ≡ 0
named_class (kind.Word word.Name n) p = refl
named_class (kind.Word word.TypeName n) p = refl
named_class other p = cc

-- ---- classes

abbrev keyword_stmt_class : Keyword → ℕ
keyword_stmt_class keyword.Null = 1
keyword_stmt_class keyword.True = 1
keyword_stmt_class keyword.False = 1
keyword_stmt_class keyword.This = 1
keyword_stmt_class keyword.Super = 1
keyword_stmt_class keyword.New = 1
keyword_stmt_class keyword.Def = 2
keyword_stmt_class keyword.Final = 2
keyword_stmt_class keyword.Int = 2
keyword_stmt_class keyword.Long = 2
keyword_stmt_class keyword.Boolean = 2
keyword_stmt_class keyword.If = 3
keyword_stmt_class keyword.While = 4
keyword_stmt_class keyword.For = 5
keyword_stmt_class keyword.Switch = 6
keyword_stmt_class keyword.Try = 7
keyword_stmt_class keyword.Throw = 8
keyword_stmt_class keyword.Return = 9
keyword_stmt_class keyword.Break = 10
keyword_stmt_class keyword.Continue = 11
keyword_stmt_class keyword.Assert = 12
keyword_stmt_class k = 0

abbrev symbol_stmt_class : Symbol → ℕ
symbol_stmt_class symbol.LeftParen = 1
symbol_stmt_class symbol.LeftBracket = 1
symbol_stmt_class symbol.Not = 1
symbol_stmt_class symbol.Minus = 1
symbol_stmt_class symbol.Plus = 1
symbol_stmt_class symbol.Increment = 1
symbol_stmt_class symbol.Decrement = 1
symbol_stmt_class s = 0

abbrev kind_stmt_class : TokenKind → ℕ
kind_stmt_class (kind.Word word.Name n) = 1
kind_stmt_class (kind.Word word.TypeName n) = 1
kind_stmt_class (kind.Word (word.Keyword k) n) = keyword_stmt_class k
kind_stmt_class (kind.Int z) = 1
kind_stmt_class (kind.Long z) = 1
kind_stmt_class (kind.Text piece.Whole n) = 1
kind_stmt_class (kind.Text (piece.Head f) n) = 1
kind_stmt_class (kind.Symbol s) = symbol_stmt_class s
kind_stmt_class other = 0

abbrev class_before : TokenKind → List Token → ℕ
class_before c ts = if is_type_name c && is_name_token (kind_of ts) then 2 else kind_stmt_class c

-- 0: none, 1: an expression, 2: a declaration, 3 and more: a keyword's own statement
abbrev pub stmt_class : List Token → ℕ
stmt_class [] = 0
stmt_class (t ∷ ts) = class_before t.kind ts

pub symbol_at : {s : Symbol} {ts rest : List Token} → Eats s ts rest → stmt_class ts ≡ symbol_stmt_class s
symbol_at (eats {rest = rest} p) = ap (λ c. class_before c rest) p

pub keyword_at : {k : Keyword} {ts rest : List Token} → EatsKeyword k ts rest → stmt_class ts ≡ keyword_stmt_class k
keyword_at (eats_keyword {rest = rest} p) = ap (λ c. class_before c rest) p

pub line_at : {ts rest : List Token} → EatsLine ts rest → stmt_class ts ≡ 0
line_at (eats_line {rest = rest} p) = ap (λ c. class_before c rest) p

pub symbol_value : (s : Symbol) → class (kind.Symbol s) < 7 → kind.Symbol s ≢ kind.Symbol symbol.LeftBrace → symbol_stmt_class s ≡ 1
symbol_value symbol.LeftParen p q = refl
symbol_value symbol.LeftBracket p q = refl
symbol_value symbol.LeftBrace p q = absurd (q refl)
symbol_value symbol.Not p q = refl
symbol_value symbol.Minus p q = refl
symbol_value symbol.Plus p q = refl
symbol_value symbol.Increment p q = refl
symbol_value symbol.Decrement p q = refl
symbol_value s p q = absurd (omega arith)

pub keyword_value : (k : Keyword) → keyword_class k < 7 → keyword_stmt_class k ≡ 1
keyword_value keyword.Null p = refl
keyword_value keyword.True p = refl
keyword_value keyword.False p = refl
keyword_value keyword.This p = refl
keyword_value keyword.Super p = refl
keyword_value keyword.New p = refl
keyword_value k p = absurd (omega arith)

pub kind_value : (c : TokenKind) → class c < 7 → c ≢ kind.Symbol symbol.LeftBrace → kind_stmt_class c ≡ 1
kind_value (kind.Word word.Name n) p q = refl
kind_value (kind.Word word.TypeName n) p q = refl
kind_value (kind.Word (word.Keyword k) n) p q = keyword_value k p
kind_value (kind.Int z) p q = refl
kind_value (kind.Long z) p q = refl
kind_value (kind.Text piece.Whole n) p q = refl
kind_value (kind.Text (piece.Head f) n) p q = refl
kind_value (kind.Symbol s) p q = symbol_value s p q
kind_value other p q = absurd (omega arith)

pub symbol_open : (s : Symbol) → symbol_stmt_class s < 2
symbol_open symbol.LeftParen = omega arith
symbol_open s = omega arith

pub kind_open : (c : TokenKind) → class c < 7 → kind_stmt_class c < 2
kind_open (kind.Word (word.Keyword k) n) p = let a = keyword_value k p in omega arith
kind_open (kind.Symbol s) p = symbol_open s
kind_open (kind.Text piece.Whole n) p = omega arith
kind_open (kind.Text q n) p = omega arith
kind_open (kind.Word word.Name n) p = omega arith
kind_open other p = omega arith

pub value_at : (ts : List Token) → class (kind_of ts) < 7 → kind_of ts ≢ kind.Symbol symbol.LeftBrace → begins_typed ts ≡ false → stmt_class ts ≡ 1
value_at [] p q r = absurd (omega arith)
value_at (t ∷ ts) p q r = ap (λ b. if b then 2 else kind_stmt_class t.kind) r ∙ kind_value t.kind p q

-- an expression that no declaration begins
pub open_at : (ts : List Token) → class (kind_of ts) < 7 → begins_typed ts ≡ false → stmt_class ts < 2
open_at [] p r = omega arith
open_at (t ∷ ts) p r = let a : stmt_class (t ∷ ts) ≡ kind_stmt_class t.kind = ap (λ b. if b then 2 else kind_stmt_class t.kind) r in let b = kind_open t.kind p in omega arith

pub typed_before : (place : Place) (c : TokenKind) (ts : List Token) {type : TypeTree} → type_of place c ≡ Some type → is_name_token (kind_of ts) ≡ true → class_before c ts ≡ 2
typed_before place (kind.Word (word.Keyword keyword.Int) n) ts p q = refl
typed_before place (kind.Word (word.Keyword keyword.Long) n) ts p q = refl
typed_before place (kind.Word (word.Keyword keyword.Boolean) n) ts p q = refl
typed_before place (kind.Word word.TypeName n) ts p q = ap (λ b. if b then 2 else 1) q
typed_before place other ts p q = cc

-- a type's name before a name
pub typed_at : (t : Token) (ts : List Token) {type : TypeTree} → type_of t.place t.kind ≡ Some type → is_name_token (kind_of ts) ≡ true → stmt_class (t ∷ ts) ≡ 2
typed_at t ts p q = typed_before t.place t.kind ts p q

pub keyword_ended : (k : Keyword) → keyword_ends_stmts k ≡ true → keyword_stmt_class k ≡ 0
keyword_ended keyword.Case p = refl
keyword_ended keyword.Default p = refl
keyword_ended k p = cc

pub kind_ended : (c : TokenKind) (ts : List Token) → ends_stmts c ≡ true → class_before c ts ≡ 0
kind_ended (kind.Symbol symbol.RightBrace) ts p = refl
kind_ended (kind.Word (word.Keyword k) n) ts p = keyword_ended k p
kind_ended kind.End ts p = refl
kind_ended other ts p = cc

pub ended_at : (ts : List Token) → ends_stmts (kind_of ts) ≡ true → stmt_class ts ≡ 0
ended_at [] p = refl
ended_at (t ∷ ts) p = kind_ended t.kind ts p

pub separated_at : {ts rest : List Token} → Separates ts rest → stmt_class ts ≡ 0
separated_at (by_line p) = line_at p
separated_at (by_semicolon p) = symbol_at p

pub brace_at : {ts rest : List Token} → Eats symbol.LeftBrace ts rest → stmt_class ts ≡ 0
brace_at p = symbol_at p

pub semicolon_at : {ts rest : List Token} → Eats symbol.Semicolon ts rest → stmt_class ts ≡ 0
semicolon_at p = symbol_at p

pub semicolon_class : (ts : List Token) → kind_of ts ≡ kind.Symbol symbol.Semicolon → stmt_class ts ≡ 0
semicolon_class [] p = refl
semicolon_class (t ∷ ts) p = ap (λ c. class_before c ts) p

-- ---- phrases

module _ (all : ℕ) where
  pub full_first : {x : Expr} {ts rest : List Token} → IsFull all x ts rest → class (kind_of ts) < 7
  full_first (full_cond d n) = expr_first all (an_expr d expr_ends)
  full_first (full_assign d p q f) = expr_first all (an_expr d expr_ends)
  full_first (full_command c) = let h = called all c in expr_first all (an_expr (path_cond all h.is_path) expr_ends)

module _ (tokens : List Token) where
  pub value_first : {x : Expr} {ts rest : List Token} → IsValue tokens x ts rest → class (kind_of ts) < 7
  value_first (value d r) = expr_first _ d

  pub full_value_first : {x : Expr} {ts rest : List Token} → IsFullValue tokens x ts rest → class (kind_of ts) < 7
  full_value_first (full_value d r) = full_first _ d

  pub var_named : {v : Var} {ts rest : List Token} → IsVar tokens v ts rest → is_name_token (kind_of ts) ≡ true
  var_named (var_alone p f) = named_token _ (meant p)
  var_named (var_initial p q d) = named_token _ (meant p)

  pub vars_named : {vs : List Var} {ts rest : List Token} → AreVars tokens vs ts rest → is_name_token (kind_of ts) ≡ true
  vars_named (last_var d f) = var_named d
  vars_named (more_vars d c g) = var_named d

  pub decl_first : {d : Decl} {ts rest : List Token} → IsDecl tokens d ts rest → stmt_class ts ≡ 2
  decl_first (decl (is_final p) v d) = keyword_at p
  decl_first (decl (not_final f) (var_def p) d) = keyword_at p
  decl_first (decl (not_final f) (var_typed {t = t} {rest = us} p) d) = typed_at t us p (vars_named d)

  abbrev pub stmt_number : {x : Stmt} {ts rest : List Token} → IsStmt tokens x ts rest → ℕ
  stmt_number (a_decl d) = 2
  stmt_number (multiple p q d r f) = 2
  stmt_number (a_value p q d) = 1
  stmt_number (if_alone p t b f) = 3
  stmt_number (if_else p t b q d) = 3
  stmt_number (a_while p t b) = 4
  stmt_number (for_in p q t n i d r l b) = 5
  stmt_number (for_parts p q i r c s d u b) = 5
  stmt_number (a_switch p t q c) = 6
  stmt_number (try_catch p b c f) = 7
  stmt_number (try_finally p b q f) = 7
  stmt_number (a_throw p d) = 8
  stmt_number (return_value p d) = 9
  stmt_number (return_alone p f) = 9
  stmt_number (a_break p) = 10
  stmt_number (a_continue p) = 11
  stmt_number (assert_alone p d f) = 12
  stmt_number (assert_message p d c e) = 12

  pub stmt_first : {x : Stmt} {ts rest : List Token} (d : IsStmt tokens x ts rest) → stmt_class ts ≡ stmt_number d
  stmt_first (a_decl d) = decl_first d
  stmt_first (multiple p q d r f) = keyword_at p
  stmt_first (a_value p q d) = value_at _ (full_value_first d) p q
  stmt_first (if_alone p t b f) = keyword_at p
  stmt_first (if_else p t b q d) = keyword_at p
  stmt_first (a_while p t b) = keyword_at p
  stmt_first (for_in p q t n i d r l b) = keyword_at p
  stmt_first (for_parts p q i r c s d u b) = keyword_at p
  stmt_first (a_switch p t q c) = keyword_at p
  stmt_first (try_catch p b c f) = keyword_at p
  stmt_first (try_finally p b q f) = keyword_at p
  stmt_first (a_throw p d) = keyword_at p
  stmt_first (return_value p d) = keyword_at p
  stmt_first (return_alone p f) = keyword_at p
  stmt_first (a_break p) = keyword_at p
  stmt_first (a_continue p) = keyword_at p
  stmt_first (assert_alone p d f) = keyword_at p
  stmt_first (assert_message p d c e) = keyword_at p

  pub numbered : {x : Stmt} {ts rest : List Token} (d : IsStmt tokens x ts rest) → 0 < stmt_number d
  numbered (a_decl d) = omega arith
  numbered d = omega arith

  -- no statement begins with a token of no class
  pub no_stmt : {x : Stmt} {ts rest : List Token} → IsStmt tokens x ts rest → stmt_class ts ≡ 0 → ⊥
  no_stmt d p = let a = stmt_first d in let b = numbered d in omega arith

  -- ---- parameters

  abbrev pub is_word : TokenKind → Bool
  is_word (kind.Word w n) = true
  is_word other = false

  pub name_word : (c : TokenKind) → is_name_token c ≡ true → is_word c ≡ true
  name_word (kind.Word w n) p = refl
  name_word other p = cc

  pub type_word : (place : Place) (c : TokenKind) {type : TypeTree} → type_of place c ≡ Some type → is_word c ≡ true
  type_word place (kind.Word w n) p = refl
  type_word place other p = cc

  pub keyword_word : {k : Keyword} {ts rest : List Token} → EatsKeyword k ts rest → is_word (kind_of ts) ≡ true
  keyword_word (eats_keyword p) = ap is_word p

  pub param_first : {r : Bool} {p : Param} {ts rest : List Token} → IsParam tokens r p ts rest → is_word (kind_of ts) ≡ true
  param_first (param (is_final p) t n i) = keyword_word p
  param_first (param (not_final f) (untyped p q) n i) = name_word _ p
  param_first (param (not_final f) (with_def p) n i) = keyword_word p
  param_first (param (not_final f) (with_type {t = t} p q) n i) = type_word t.place t.kind p
  param_first (param (not_final f) (with_rest {t = t} p q) n i) = type_word t.place t.kind p
