-- Statements. `IsX x ts rest` as in Exprs. Closures are read here: the tokens between the braces of an unread one are its statements.
use Rattle.std.specs.Prelude.{◌≡◌, ◌≢◌, ℕ, zero, suc, Bool, true, false, ◌&&◌, ◌||◌, List, [], ◌∷◌, length, drop, Option, Some, None, if◌then◌else◌}
use Rattle.gv_spelling.specs.declared.kinds.Keyword.{Keyword}
use Rattle.gv_spelling.specs.declared.kinds.Keyword.TheVariants as keyword
use Rattle.gv_spelling.specs.declared.kinds.Symbol.{Symbol}
use Rattle.gv_spelling.specs.declared.kinds.Symbol.TheVariants as symbol
use Rattle.gv_lex.specs.declared.token.Piece.TheVariants as piece
use Rattle.gv_lex.specs.declared.token.Token.{Token}
use Rattle.gv_lex.specs.declared.token.TokenKind.{TokenKind}
use Rattle.gv_lex.specs.declared.token.TokenKind.TheVariants as kind
use Rattle.gv_lex.specs.declared.token.Word.TheVariants as word
use Rattle.gv_tree.specs.declared.expr.Closure.{Closure}
use Rattle.gv_tree.specs.declared.expr.Closure.TheVariants as closure
use Rattle.gv_tree.specs.declared.expr.Expr.{Expr}
use Rattle.gv_tree.specs.declared.expr.Param.{Param, roll-Param}
use Rattle.gv_tree.specs.declared.ops.Ident.{Ident}
use Rattle.gv_tree.specs.declared.ops.Leave.TheVariants as leave
use Rattle.gv_tree.specs.declared.ops.TypeTree.{TypeTree}
use Rattle.gv_tree.specs.declared.ops.VarType.{VarType}
use Rattle.gv_tree.specs.declared.ops.VarType.TheVariants as var
use Rattle.gv_tree.specs.declared.stmt.Case.{Case, roll-Case}
use Rattle.gv_tree.specs.declared.stmt.Catch.{Catch, roll-Catch}
use Rattle.gv_tree.specs.declared.stmt.Decl.{Decl, roll-Decl}
use Rattle.gv_tree.specs.declared.stmt.Stmt.{Stmt}
use Rattle.gv_tree.specs.declared.stmt.Stmt.TheVariants as stmt
use Rattle.gv_tree.specs.declared.stmt.Var.{Var, roll-Var}
use Rattle.gv_grammar.specs.Tokens.{Eats, EatsKeyword, EatsLine, EatsAs, kind_of, place_of, name_of, type_of, ident, begins_expr}
use Rattle.gv_grammar.specs.Exprs.{IsExpr}
use Rattle.gv_grammar.specs.Commands.{IsFull}
use Rattle.gv_grammar.specs.Closures.{unread_in, filled}

-- ---- tokens

abbrev pub is_keyword : Keyword → TokenKind → Type 0
is_keyword k (kind.Word (word.Keyword j) n) = j ≡ k
is_keyword k other = ⊥

-- sep = NL | ';'
pub data Separates : List Token → List Token → Type 0 where
  by_line : {ts rest : List Token} → EatsLine ts rest → Separates ts rest
  by_semicolon : {ts rest : List Token} → Eats symbol.Semicolon ts rest → Separates ts rest

-- [NL], which is all line ends that stand together
pub data MayLine : List Token → List Token → Type 0 where
  a_line : {ts us rest : List Token} → EatsLine ts us → MayLine us rest → MayLine ts rest
  no_line : {rest : List Token} → kind_of rest ≢ kind.LineEnd → MayLine rest rest

-- statements end before `}`, `case`, `default` and the end of a list
abbrev pub keyword_ends_stmts : Keyword → Bool
keyword_ends_stmts keyword.Case = true
keyword_ends_stmts keyword.Default = true
keyword_ends_stmts k = false

abbrev pub ends_stmts : TokenKind → Bool
ends_stmts (kind.Symbol symbol.RightBrace) = true
ends_stmts (kind.Word (word.Keyword k) n) = keyword_ends_stmts k
ends_stmts kind.End = true
ends_stmts other = false

abbrev pub is_name_token : TokenKind → Bool
is_name_token (kind.Word word.Name n) = true
is_name_token (kind.Word word.TypeName n) = true
is_name_token other = false

abbrev pub is_type_name : TokenKind → Bool
is_type_name (kind.Word word.TypeName n) = true
is_type_name other = false

abbrev pub is_bar : TokenKind → Bool
is_bar (kind.Symbol symbol.Bar) = true
is_bar other = false

-- a type's name and then a name begin a declaration
abbrev pub begins_typed : List Token → Bool
begins_typed [] = false
begins_typed (t ∷ ts) = is_type_name t.kind && is_name_token (kind_of ts)

-- a type's name and then a name or `|`
abbrev pub begins_types : List Token → Bool
begins_types [] = false
begins_types (t ∷ ts) = is_type_name t.kind && (is_name_token (kind_of ts) || is_bar (kind_of ts))

-- a token behind which one bracket or string more, or less, is open
abbrev pub deeper : TokenKind → Bool
deeper (kind.Symbol symbol.LeftParen) = true
deeper (kind.Symbol symbol.LeftBracket) = true
deeper (kind.Symbol symbol.LeftBrace) = true
deeper (kind.Text (piece.Head p) n) = true
deeper other = false

abbrev pub shallower : TokenKind → Bool
shallower (kind.Symbol symbol.RightParen) = true
shallower (kind.Symbol symbol.RightBracket) = true
shallower (kind.Symbol symbol.RightBrace) = true
shallower (kind.Text piece.Tail n) = true
shallower other = false

abbrev pub is_arrow : TokenKind → Bool
is_arrow (kind.Symbol symbol.Arrow) = true
is_arrow other = false

abbrev pub parts_stmts : TokenKind → Bool
parts_stmts (kind.Symbol symbol.Semicolon) = true
parts_stmts kind.LineEnd = true
parts_stmts other = false

-- A `->` stands before the first `;`, line end or closing bracket of this level, where so many levels in it are open.
abbrev pub has_arrow : ℕ → List Token → Bool
has_arrow depth [] = false
has_arrow zero (t ∷ ts) =
    if is_arrow t.kind then true
    else if parts_stmts t.kind || shallower t.kind then false
    else if deeper t.kind then has_arrow 1 ts
    else has_arrow 0 ts
has_arrow (suc depth) (t ∷ ts) =
    if deeper t.kind then has_arrow (suc (suc depth)) ts
    else if shallower t.kind then has_arrow depth ts
    else has_arrow (suc depth) ts

-- ---- statements of a list of tokens
module _ (tokens : List Token) where
  abbrev all : ℕ
  all = length tokens

  mutual
    -- y is x with each unread closure read, whose tokens stand in the list
    pub data Reads : Expr → Expr → Type 0 where
      reads : {x : Expr} (read : ℕ → ℕ → Closure) → ((from to : ℕ) → unread_in x from to → IsBodyOf (read from to) (drop from tokens) (drop to tokens)) → Reads x (filled read x)

    -- closure = '{' [ [ params ] '->' ] seps [ stmt { sep seps stmt } seps ] '}', without its braces
    pub data IsBodyOf : Closure → List Token → List Token → Type 0 where
      no_params : {b : List Stmt} {ts rest : List Token} → has_arrow 0 ts ≡ false → AreStmts b ts rest → IsBodyOf (closure.Read None b) ts rest
      with_params : {ps : List Param} {b : List Stmt} {ts us rest : List Token} → has_arrow 0 ts ≡ true → AreParams symbol.Arrow ps ts us → AreStmts b us rest
          → IsBodyOf (closure.Read (Some ps) b) ts rest

    -- [ params ], and the symbol behind them
    pub data AreParams : Symbol → List Param → List Token → List Token → Type 0 where
      no_param : {close : Symbol} {ts rest : List Token} → Eats close ts rest → AreParams close [] ts rest
      some_params : {close : Symbol} {ps : List Param} {ts rest : List Token} → AreSomeParams close ps ts rest → AreParams close ps ts rest

    -- params = param { ',' param }: only the last one is a rest parameter
    pub data AreSomeParams : Symbol → List Param → List Token → List Token → Type 0 where
      last_param : {close : Symbol} {rested : Bool} {p : Param} {ts us rest : List Token} → IsParam rested p ts us → Eats close us rest → AreSomeParams close (p ∷ []) ts rest
      more_params : {close : Symbol} {p : Param} {ps : List Param} {ts us vs rest : List Token} → IsParam false p ts us → Eats symbol.Comma us vs → AreSomeParams close ps vs rest
          → AreSomeParams close (p ∷ ps) ts rest

    -- param = [ 'final' ] [ 'def' | type [ '...' ] ] NAME [ '=' expr ]
    pub data IsParam : Bool → Param → List Token → List Token → Type 0 where
      param : {final rested : Bool} {written : Option VarType} {n : ℕ} {initial : Option Expr} {ts us vs ws rest : List Token} → MayFinal final ts us → MayTyped rested written us vs
          → EatsAs name_of n vs ws → MayInitial initial ws rest
          → IsParam rested (roll-Param (record { ident = ident (place_of vs) n; is_final = final; written = written; is_rest = rested; initial = initial })) ts rest

    -- [ '=' expr ]
    pub data MayInitial : Option Expr → List Token → List Token → Type 0 where
      an_initial : {x y : Expr} {ts us rest : List Token} → Eats symbol.Assign ts us → IsExpr all x us rest → Reads x y → MayInitial (Some y) ts rest
      no_initial : {rest : List Token} → kind_of rest ≢ kind.Symbol symbol.Assign → MayInitial None rest rest

    pub data MayFinal : Bool → List Token → List Token → Type 0 where
      is_final : {ts rest : List Token} → EatsKeyword keyword.Final ts rest → MayFinal true ts rest
      not_final : {rest : List Token} → (is_keyword keyword.Final (kind_of rest) → ⊥) → MayFinal false rest rest

    -- [ 'def' | type [ '...' ] ] before a name
    pub data MayTyped : Bool → Option VarType → List Token → List Token → Type 0 where
      untyped : {rest : List Token} → is_name_token (kind_of rest) ≡ true → begins_typed rest ≡ false → MayTyped false None rest rest
      with_def : {ts rest : List Token} → EatsKeyword keyword.Def ts rest → MayTyped false (Some var.Def) ts rest
      with_type : {type : TypeTree} {t : Token} {rest : List Token} → type_of t.place t.kind ≡ Some type → is_name_token (kind_of rest) ≡ true → MayTyped false (Some (var.Typed type)) (t ∷ rest) rest
      with_rest : {type : TypeTree} {t : Token} {us rest : List Token} → type_of t.place t.kind ≡ Some type → Eats symbol.Ellipsis us rest → MayTyped true (Some (var.Typed type)) (t ∷ us) rest

    -- an expression, a full expression, with its closures read
    pub data IsValue : Expr → List Token → List Token → Type 0 where
      value : {x y : Expr} {ts rest : List Token} → IsExpr all x ts rest → Reads x y → IsValue y ts rest

    pub data IsFullValue : Expr → List Token → List Token → Type 0 where
      full_value : {x y : Expr} {ts rest : List Token} → IsFull all x ts rest → Reads x y → IsFullValue y ts rest

    -- decl = [ 'final' ] ( 'def' | type ) var { ',' var }
    pub data IsDecl : Decl → List Token → List Token → Type 0 where
      decl : {final : Bool} {written : VarType} {vs : List Var} {ts us ws rest : List Token} → MayFinal final ts us → IsVarType written us ws → AreVars vs ws rest
          → IsDecl (roll-Decl (record { place = place_of ts; is_final = final; written = written; vars = vs })) ts rest

    pub data IsVarType : VarType → List Token → List Token → Type 0 where
      var_def : {ts rest : List Token} → EatsKeyword keyword.Def ts rest → IsVarType var.Def ts rest
      var_typed : {type : TypeTree} {t : Token} {rest : List Token} → type_of t.place t.kind ≡ Some type → IsVarType (var.Typed type) (t ∷ rest) rest

    -- var { ',' var }
    pub data AreVars : List Var → List Token → List Token → Type 0 where
      last_var : {v : Var} {ts rest : List Token} → IsVar v ts rest → kind_of rest ≢ kind.Symbol symbol.Comma → AreVars (v ∷ []) ts rest
      more_vars : {v : Var} {vs : List Var} {ts us ws rest : List Token} → IsVar v ts us → Eats symbol.Comma us ws → AreVars vs ws rest → AreVars (v ∷ vs) ts rest

    -- var = NAME [ '=' full ]
    pub data IsVar : Var → List Token → List Token → Type 0 where
      var_alone : {n : ℕ} {ts rest : List Token} → EatsAs name_of n ts rest → kind_of rest ≢ kind.Symbol symbol.Assign → IsVar (roll-Var (record { ident = ident (place_of ts) n; initial = None })) ts rest
      var_initial : {n : ℕ} {x : Expr} {ts us vs rest : List Token} → EatsAs name_of n ts us → Eats symbol.Assign us vs → IsFullValue x vs rest
          → IsVar (roll-Var (record { ident = ident (place_of ts) n; initial = Some x })) ts rest

    -- '(' expr ')' [NL]
    pub data IsTest : Expr → List Token → List Token → Type 0 where
      test : {x : Expr} {ts us vs ws rest : List Token} → Eats symbol.LeftParen ts us → IsValue x us vs → Eats symbol.RightParen vs ws → MayLine ws rest → IsTest x ts rest

    -- NAME { ',' NAME } ')'
    pub data AreNames : List Ident → List Token → List Token → Type 0 where
      last_of_names : {n : ℕ} {ts us rest : List Token} → EatsAs name_of n ts us → Eats symbol.RightParen us rest → AreNames (ident (place_of ts) n ∷ []) ts rest
      more_names : {n : ℕ} {ns : List Ident} {ts us vs rest : List Token} → EatsAs name_of n ts us → Eats symbol.Comma us vs → AreNames ns vs rest → AreNames (ident (place_of ts) n ∷ ns) ts rest

    pub data IsStmt : Stmt → List Token → List Token → Type 0 where
      a_decl : {d : Decl} {ts rest : List Token} → IsDecl d ts rest → IsStmt (stmt.Decl d) ts rest
      multiple : {ns : List Ident} {x : Expr} {ts us vs ws xs rest : List Token} → EatsKeyword keyword.Def ts us → Eats symbol.LeftParen us vs → AreNames ns vs ws → Eats symbol.Assign ws xs
          → IsFullValue x xs rest → IsStmt (stmt.Multiple (place_of ts) ns x) ts rest
      -- no statement begins with a brace, and a type's name and a name begin a declaration
      a_value : {x : Expr} {ts rest : List Token} → kind_of ts ≢ kind.Symbol symbol.LeftBrace → begins_typed ts ≡ false → IsFullValue x ts rest → IsStmt (stmt.Expr x) ts rest
      -- an else belongs to the nearest if before it that has none
      if_alone : {x : Expr} {b : Stmt} {ts us vs rest : List Token} → EatsKeyword keyword.If ts us → IsTest x us vs → IsBody b vs rest → (is_keyword keyword.Else (kind_of rest) → ⊥)
          → IsStmt (stmt.If (place_of ts) x b None) ts rest
      if_else : {x : Expr} {b d : Stmt} {ts us vs ws xs rest : List Token} → EatsKeyword keyword.If ts us → IsTest x us vs → IsBody b vs ws → EatsKeyword keyword.Else ws xs → IsBody d xs rest
          → IsStmt (stmt.If (place_of ts) x b (Some d)) ts rest
      a_while : {x : Expr} {b : Stmt} {ts us vs rest : List Token} → EatsKeyword keyword.While ts us → IsTest x us vs → IsBody b vs rest → IsStmt (stmt.While (place_of ts) x b) ts rest
      for_in : {w : Option VarType} {n : ℕ} {x : Expr} {b : Stmt} {ts us vs ws xs ys zs qs bs rest : List Token} → EatsKeyword keyword.For ts us → Eats symbol.LeftParen us vs → MayTyped false w vs ws
          → EatsAs name_of n ws xs → IsForIn xs ys → IsValue x ys zs → Eats symbol.RightParen zs qs → MayLine qs bs → IsBody b bs rest
          → IsStmt (stmt.ForIn (place_of ts) w (ident (place_of ws) n) x b) ts rest
      for_parts : {i : Option Stmt} {c s : Option Expr} {b : Stmt} {ts us vs ws xs ys zs qs bs rest : List Token} → EatsKeyword keyword.For ts us → Eats symbol.LeftParen us vs → MayBegin i vs ws
          → Eats symbol.Semicolon ws xs → MayValue c xs ys → Eats symbol.Semicolon ys zs → MayValue s zs qs → Eats symbol.RightParen qs bs → IsLineAndBody b bs rest
          → IsStmt (stmt.For (place_of ts) i c s b) ts rest
      a_switch : {x : Expr} {cs : List Case} {ts us vs ws rest : List Token} → EatsKeyword keyword.Switch ts us → IsTest x us vs → Eats symbol.LeftBrace vs ws → AreCases cs ws rest
          → IsStmt (stmt.Switch (place_of ts) x cs) ts rest
      -- a try has a catch or a finally
      try_catch : {b : List Stmt} {c : Catch} {cs : List Catch} {f : Option (List Stmt)} {ts us vs ws rest : List Token} → EatsKeyword keyword.Try ts us → IsBlock b us vs → AreCatches (c ∷ cs) vs ws → MayFinally f ws rest
          → IsStmt (stmt.Try (place_of ts) b (c ∷ cs) f) ts rest
      try_finally : {b f : List Stmt} {ts us vs ws rest : List Token} → EatsKeyword keyword.Try ts us → IsBlock b us vs → EatsKeyword keyword.Finally vs ws → IsBlock f ws rest
          → IsStmt (stmt.Try (place_of ts) b [] (Some f)) ts rest
      a_throw : {x : Expr} {ts us rest : List Token} → EatsKeyword keyword.Throw ts us → IsValue x us rest → IsStmt (stmt.Throw (place_of ts) x) ts rest
      return_value : {x : Expr} {ts us rest : List Token} → EatsKeyword keyword.Return ts us → IsFullValue x us rest → IsStmt (stmt.Return (place_of ts) (Some x)) ts rest
      return_alone : {ts rest : List Token} → EatsKeyword keyword.Return ts rest → begins_expr (kind_of rest) ≡ false → IsStmt (stmt.Return (place_of ts) None) ts rest
      a_break : {ts rest : List Token} → EatsKeyword keyword.Break ts rest → IsStmt (stmt.Leave (place_of ts) leave.Break) ts rest
      a_continue : {ts rest : List Token} → EatsKeyword keyword.Continue ts rest → IsStmt (stmt.Leave (place_of ts) leave.Continue) ts rest
      assert_alone : {x : Expr} {ts us rest : List Token} → EatsKeyword keyword.Assert ts us → IsValue x us rest → kind_of rest ≢ kind.Symbol symbol.Colon → IsStmt (stmt.Assert (place_of ts) x None) ts rest
      assert_message : {x y : Expr} {ts us vs ws rest : List Token} → EatsKeyword keyword.Assert ts us → IsValue x us vs → Eats symbol.Colon vs ws → IsValue y ws rest
          → IsStmt (stmt.Assert (place_of ts) x (Some y)) ts rest

    -- 'in' | ':'
    pub data IsForIn : List Token → List Token → Type 0 where
      by_in : {ts rest : List Token} → EatsKeyword keyword.In ts rest → IsForIn ts rest
      by_colon : {ts rest : List Token} → Eats symbol.Colon ts rest → IsForIn ts rest

    -- [ decl | expr ] before a semicolon
    pub data MayBegin : Option Stmt → List Token → List Token → Type 0 where
      begin_decl : {d : Decl} {ts rest : List Token} → IsDecl d ts rest → MayBegin (Some (stmt.Decl d)) ts rest
      begin_value : {x : Expr} {ts rest : List Token} → begins_typed ts ≡ false → IsValue x ts rest → MayBegin (Some (stmt.Expr x)) ts rest
      begin_nothing : {rest : List Token} → kind_of rest ≡ kind.Symbol symbol.Semicolon → MayBegin None rest rest

    -- [ expr ]
    pub data MayValue : Option Expr → List Token → List Token → Type 0 where
      some_value : {x : Expr} {ts rest : List Token} → IsValue x ts rest → MayValue (Some x) ts rest
      no_value : {rest : List Token} → begins_expr (kind_of rest) ≡ false → MayValue None rest rest

    -- [NL] body
    pub data IsLineAndBody : Stmt → List Token → List Token → Type 0 where
      line_and_body : {b : Stmt} {ts us rest : List Token} → MayLine ts us → IsBody b us rest → IsLineAndBody b ts rest

    -- body = block | stmt
    pub data IsBody : Stmt → List Token → List Token → Type 0 where
      body_block : {b : List Stmt} {ts rest : List Token} → IsBlock b ts rest → IsBody (stmt.Block (place_of ts) b) ts rest
      body_stmt : {b : Stmt} {ts rest : List Token} → IsStmt b ts rest → IsBody b ts rest

    -- block = '{' seps [ stmt { sep seps stmt } seps ] '}'
    pub data IsBlock : List Stmt → List Token → List Token → Type 0 where
      block : {b : List Stmt} {ts us vs rest : List Token} → Eats symbol.LeftBrace ts us → AreStmts b us vs → Eats symbol.RightBrace vs rest → IsBlock b ts rest

    -- seps [ stmt { sep seps stmt } seps ], before a token that ends statements
    pub data AreStmts : List Stmt → List Token → List Token → Type 0 where
      no_more : {rest : List Token} → ends_stmts (kind_of rest) ≡ true → AreStmts [] rest rest
      parted : {b : List Stmt} {ts us rest : List Token} → Separates ts us → AreStmts b us rest → AreStmts b ts rest
      a_stmt : {x : Stmt} {b : List Stmt} {ts us rest : List Token} → IsStmt x ts us → AreAfter b us rest → AreStmts (x ∷ b) ts rest

    pub data AreAfter : List Stmt → List Token → List Token → Type 0 where
      ended : {rest : List Token} → ends_stmts (kind_of rest) ≡ true → AreAfter [] rest rest
      goes_on : {b : List Stmt} {ts us rest : List Token} → Separates ts us → AreStmts b us rest → AreAfter b ts rest

    -- seps { case } '}'
    pub data AreCases : List Case → List Token → List Token → Type 0 where
      case_parted : {cs : List Case} {ts us rest : List Token} → Separates ts us → AreCases cs us rest → AreCases cs ts rest
      cases : {cs : List Case} {ts rest : List Token} → AreSomeCases cs ts rest → AreCases cs ts rest

    -- case = ( 'case' expr | 'default' ) ':' seps [ stmt { sep seps stmt } seps ]
    pub data AreSomeCases : List Case → List Token → List Token → Type 0 where
      no_case : {ts rest : List Token} → Eats symbol.RightBrace ts rest → AreSomeCases [] ts rest
      a_case : {x : Expr} {b : List Stmt} {cs : List Case} {ts us vs ws xs rest : List Token} → EatsKeyword keyword.Case ts us → IsValue x us vs → Eats symbol.Colon vs ws → AreStmts b ws xs
          → AreSomeCases cs xs rest → AreSomeCases (roll-Case (record { place = place_of ts; value = Some x; body = b }) ∷ cs) ts rest
      a_default : {b : List Stmt} {cs : List Case} {ts us vs ws rest : List Token} → EatsKeyword keyword.Default ts us → Eats symbol.Colon us vs → AreStmts b vs ws
          → AreSomeCases cs ws rest → AreSomeCases (roll-Case (record { place = place_of ts; value = None; body = b }) ∷ cs) ts rest

    -- { 'catch' '(' [ type { '|' type } ] NAME ')' block }
    pub data AreCatches : List Catch → List Token → List Token → Type 0 where
      no_catch : {rest : List Token} → (is_keyword keyword.Catch (kind_of rest) → ⊥) → AreCatches [] rest rest
      a_catch : {types : List TypeTree} {n : ℕ} {b : List Stmt} {cs : List Catch} {ts us vs ws xs ys zs rest : List Token} → EatsKeyword keyword.Catch ts us → Eats symbol.LeftParen us vs
          → MayTypes types vs ws → EatsAs name_of n ws xs → Eats symbol.RightParen xs ys → IsBlock b ys zs → AreCatches cs zs rest
          → AreCatches (roll-Catch (record { place = place_of ts; types = types; ident = ident (place_of ws) n; body = b }) ∷ cs) ts rest

    -- [ type { '|' type } ] before a name
    pub data MayTypes : List TypeTree → List Token → List Token → Type 0 where
      no_types : {rest : List Token} → is_name_token (kind_of rest) ≡ true → begins_types rest ≡ false → MayTypes [] rest rest
      some_types : {types : List TypeTree} {ts rest : List Token} → AreTypes types ts rest → MayTypes types ts rest

    pub data AreTypes : List TypeTree → List Token → List Token → Type 0 where
      last_type : {type : TypeTree} {t : Token} {rest : List Token} → type_of t.place t.kind ≡ Some type → is_name_token (kind_of rest) ≡ true → AreTypes (type ∷ []) (t ∷ rest) rest
      more_types : {type : TypeTree} {types : List TypeTree} {t : Token} {us vs rest : List Token} → type_of t.place t.kind ≡ Some type → Eats symbol.Bar us vs → AreTypes types vs rest
          → AreTypes (type ∷ types) (t ∷ us) rest

    -- [ 'finally' block ]
    pub data MayFinally : Option (List Stmt) → List Token → List Token → Type 0 where
      a_finally : {b : List Stmt} {ts us rest : List Token} → EatsKeyword keyword.Finally ts us → IsBlock b us rest → MayFinally (Some b) ts rest
      no_finally : {rest : List Token} → (is_keyword keyword.Finally (kind_of rest) → ⊥) → MayFinally None rest rest
