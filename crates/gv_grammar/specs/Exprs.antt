-- Expressions. `IsX x ts rest`: the tokens ts begin with a spelling of x as an X, and rest follows it. `GoesX x y ts rest`: x, which
-- stands before ts, goes on with a spelling at their front and becomes y. Closures stay unread here.
use Rattle.std.specs.Prelude.{◌≡◌, ℕ, zero, suc, ◌-◌, ℤ, Bool, true, false, ◌&&◌, ◌||◌, List, [], ◌∷◌, ◌++◌, length, map, Some, None}
use Rattle.gv_spelling.specs.declared.kinds.Keyword.TheVariants as keyword
use Rattle.gv_spelling.specs.declared.kinds.Symbol.{Symbol}
use Rattle.gv_spelling.specs.declared.kinds.Symbol.TheVariants as symbol
use Rattle.gv_lex.specs.declared.token.Part.{Part as Form}
use Rattle.gv_lex.specs.declared.token.Part.TheVariants as form
use Rattle.gv_lex.specs.declared.token.Piece.TheVariants as piece
use Rattle.gv_lex.specs.declared.token.Token.{Token}
use Rattle.gv_lex.specs.declared.token.TokenKind.{TokenKind}
use Rattle.gv_lex.specs.declared.token.TokenKind.TheVariants as kind
use Rattle.gv_tree.specs.declared.expr.Arg.{Arg}
use Rattle.gv_tree.specs.declared.expr.Arg.TheVariants as arg
use Rattle.gv_tree.specs.declared.expr.Atom.{Atom}
use Rattle.gv_tree.specs.declared.expr.Atom.TheVariants as atom
use Rattle.gv_tree.specs.declared.expr.Closure.TheVariants as closure
use Rattle.gv_tree.specs.declared.expr.Entry.{Entry}
use Rattle.gv_tree.specs.declared.expr.Entry.TheVariants as entry
use Rattle.gv_tree.specs.declared.expr.Expr.{Expr, out-Expr}
use Rattle.gv_tree.specs.declared.expr.Arg.TheOpen.{Expr-F}
use Rattle.gv_tree.specs.declared.expr.Expr.TheVariants as expr
use Rattle.gv_tree.specs.declared.expr.GString.{GString, roll-GString}
use Rattle.gv_tree.specs.declared.expr.Item.{Item}
use Rattle.gv_tree.specs.declared.expr.Item.TheVariants as item
use Rattle.gv_tree.specs.declared.expr.Key.{Key}
use Rattle.gv_tree.specs.declared.expr.Key.TheVariants as key
use Rattle.gv_tree.specs.declared.expr.Label.{Label}
use Rattle.gv_tree.specs.declared.expr.Label.TheVariants as label
use Rattle.gv_tree.specs.declared.expr.Param.{Param}
use Rattle.gv_tree.specs.declared.expr.Part.{Part, roll-Part}
use Rattle.gv_tree.specs.declared.expr.Closure.{Closure}
use Rattle.gv_tree.specs.declared.stmt.Case.{Case}
use Rattle.gv_tree.specs.declared.stmt.Catch.{Catch}
use Rattle.gv_tree.specs.declared.stmt.Decl.{Decl}
use Rattle.gv_tree.specs.declared.stmt.Stmt.{Stmt}
use Rattle.gv_tree.specs.declared.stmt.Var.{Var}
use Rattle.gv_tree.specs.declared.ops.AssignOp.{AssignOp}
use Rattle.gv_tree.specs.declared.ops.BinaryOp.{BinaryOp}
use Rattle.gv_tree.specs.declared.ops.MemberOp.{MemberOp}
use Rattle.gv_tree.specs.declared.ops.MemberOp.TheVariants as member
use Rattle.gv_tree.specs.declared.ops.TypeTree.{TypeTree}
use Rattle.gv_tree.specs.declared.ops.TypeOp.{TypeOp}
use Rattle.gv_tree.specs.declared.ops.UnaryOp.{UnaryOp}
use Rattle.gv_grammar.specs.Tokens.{Eats, EatsKeyword, EatsPiece, EatsEnd, EatsAs, kind_of, place_of, name_of, type_name_of, member_name_of, key_name_of, text_of, ident, atom_of, type_of, binary_of, level_of, loosest, typing_level, joins_once, typing_of, prefix_of, postfix_of, assign_of, member_of, closing, is_closing, is_head}

-- ---- what a tree is

abbrev pub is_name : Atom → Bool
is_name (atom.Name n) = true
is_name other = false

abbrev pub is_dot : MemberOp → Bool
is_dot member.Dot = true
is_dot op = false

abbrev pub Layer : Type 0
Layer = Expr-F Arg Closure Entry Expr Item Key Label Stmt GString Param Part Case Catch Decl Var

abbrev target_layer : Layer → Bool
target_layer (Expr-F.Atom p a) = is_name a
target_layer (Expr-F.Member p op x l) = is_dot op
target_layer (Expr-F.Field p x i) = true
target_layer (Expr-F.Index p x es) = true
target_layer other = false

-- what may stand on the left of an assignment: a name, a member behind `.`, a field behind `.@`, an index
unfoldable pub is_target : Expr → Bool
is_target x = target_layer (out-Expr x)

abbrev closures_layer : Layer → Bool
closures_layer (Expr-F.Atom p a) = is_name a
closures_layer (Expr-F.Member p op x l) = true
closures_layer (Expr-F.Call p x args) = true
closures_layer other = false

-- what a closure may follow: a name, a member or a call
unfoldable pub takes_closures : Expr → Bool
takes_closures x = closures_layer (out-Expr x)

-- ---- closures

-- how many strings are open behind a token, where so many and one more are before it
abbrev pub open_behind : ℕ → TokenKind → ℕ
open_behind n (kind.Text (piece.Head p) m) = suc (suc n)
open_behind n (kind.Text piece.Tail m) = n
open_behind n other = suc n

-- the tokens behind so many open strings
abbrev pub behind_texts : ℕ → List Token → List Token
behind_texts zero ts = ts
behind_texts (suc n) [] = []
behind_texts (suc n) (t ∷ ts) = behind_texts (open_behind n t.kind) ts

-- tokens whose brackets match, up to the first bracket that closes more; a string is one of them
pub data Matched : List Token → List Token → Type 0 where
  none : {rest : List Token} → is_closing (kind_of rest) ≡ true → Matched rest rest
  token : {t : Token} {ts rest : List Token} → closing t.kind ≡ None → is_closing t.kind ≡ false → is_head t.kind ≡ false → Matched ts rest → Matched (t ∷ ts) rest
  text : {t : Token} {ts rest : List Token} → is_head t.kind ≡ true → Matched (behind_texts 1 ts) rest → Matched (t ∷ ts) rest
  pair : {t : Token} {ts us vs rest : List Token} {c : Symbol} → closing t.kind ≡ Some c → Matched ts us → Eats c us vs → Matched vs rest → Matched (t ∷ ts) rest

-- ---- a list of so many tokens
module _ (all : ℕ) where
  pub data IsClosure : Expr → List Token → List Token → Type 0 where
    unread : {ts us vs rest : List Token} → Eats symbol.LeftBrace ts us → Matched us vs → Eats symbol.RightBrace vs rest
        → IsClosure (expr.Closure (place_of ts) (closure.Unread (all - length us) (all - length vs))) ts rest

  -- all closures that directly follow
  pub data AreClosures : List Expr → List Token → List Token → Type 0 where
    no_closure : {rest : List Token} → ((f : Expr) (after : List Token) → IsClosure f rest after → ⊥) → AreClosures [] rest rest
    one_closure : {f : Expr} {fs : List Expr} {ts us rest : List Token} → IsClosure f ts us → AreClosures fs us rest → AreClosures (f ∷ fs) ts rest

  -- closures as arguments
  abbrev pub plain : List Expr → List Arg
  plain fs = map arg.Plain fs

  mutual
    -- expr = cond [ asg expr ]
    pub data IsExpr : Expr → List Token → List Token → Type 0 where
      an_expr : {x y : Expr} {ts us rest : List Token} → IsCond x ts us → GoesExpr x y us rest → IsExpr y ts rest

    pub data GoesExpr : Expr → Expr → List Token → List Token → Type 0 where
      expr_ends : {x : Expr} {rest : List Token} → GoesExpr x x rest rest
      assigns : {x y : Expr} {t : Token} {op : AssignOp} {ts rest : List Token} → assign_of t.kind ≡ Some op → is_target x ≡ true → IsExpr y ts rest
          → GoesExpr x (expr.Assign t.place op x y) (t ∷ ts) rest

    -- cond = bin [ '?' expr ':' expr | '?:' cond ]
    pub data IsCond : Expr → List Token → List Token → Type 0 where
      a_cond : {x y : Expr} {ts us rest : List Token} → IsBin loosest x ts us → GoesCond x y us rest → IsCond y ts rest

    pub data GoesCond : Expr → Expr → List Token → List Token → Type 0 where
      cond_ends : {x : Expr} {rest : List Token} → GoesCond x x rest rest
      chooses : {x : Expr} {p : Expr × Expr} {ts us rest : List Token} → Eats symbol.Question ts us → AreChoices p us rest
          → GoesCond x (expr.Choice (place_of ts) x (Some p.0) p.1) ts rest
      defaults : {x y : Expr} {ts us rest : List Token} → Eats symbol.Elvis ts us → IsCond y us rest → GoesCond x (expr.Choice (place_of ts) x None y) ts rest

    -- expr ':' expr
    pub data AreChoices : Expr × Expr → List Token → List Token → Type 0 where
      choices : {x y : Expr} {ts us vs rest : List Token} → IsExpr x ts us → Eats symbol.Colon us vs → IsExpr y vs rest → AreChoices (x, y) ts rest

    -- an expression with operators of the first n levels
    pub data IsBin : ℕ → Expr → List Token → List Token → Type 0 where
      tightest : {x : Expr} {ts rest : List Token} → IsUnary x ts rest → IsBin 0 x ts rest
      a_bin : {n : ℕ} {x y : Expr} {ts us rest : List Token} → IsBin n x ts us → GoesBin n false x y us rest → IsBin (suc n) y ts rest

    -- x goes on with operators of level n + 1. The flag says whether one was there that joins at most once.
    pub data GoesBin : ℕ → Bool → Expr → Expr → List Token → List Token → Type 0 where
      bin_ends : {n : ℕ} {joined : Bool} {x : Expr} {rest : List Token} → GoesBin n joined x x rest rest
      operator : {n : ℕ} {joined : Bool} {op : BinaryOp} {x y z : Expr} {t : Token} {ts us rest : List Token}
          → binary_of t.kind ≡ Some op → level_of op ≡ suc n → joined && joins_once op ≡ false
          → IsBin n y ts us → GoesBin n (joined || joins_once op) (expr.Binary t.place op x y) z us rest
          → GoesBin n joined x z (t ∷ ts) rest
      typing : {n : ℕ} {op : TypeOp} {x z : Expr} {type : TypeTree} {t u : Token} {us rest : List Token}
          → typing_of t.kind ≡ Some op → typing_level ≡ suc n → type_of u.place u.kind ≡ Some type
          → GoesBin n true (expr.Typed t.place op x type) z us rest
          → GoesBin n false x z (t ∷ u ∷ us) rest

    -- un = ( '!' | '-' | '+' | '++' | '--' ) un | path
    pub data IsUnary : Expr → List Token → List Token → Type 0 where
      prefix : {x : Expr} {op : UnaryOp} {t : Token} {ts rest : List Token} → prefix_of t.kind ≡ Some op → IsUnary x ts rest
          → IsUnary (expr.Unary t.place op x) (t ∷ ts) rest
      no_prefix : {x : Expr} {ts rest : List Token} → IsPath x ts rest → IsUnary x ts rest

    -- path = prim { suffix }
    pub data IsPath : Expr → List Token → List Token → Type 0 where
      a_path : {x y : Expr} {ts us rest : List Token} → IsPrimary x ts us → GoesPath x y us rest → IsPath y ts rest

    pub data GoesPath : Expr → Expr → List Token → List Token → Type 0 where
      path_ends : {x : Expr} {rest : List Token} → GoesPath x x rest rest
      suffix : {x y z : Expr} {ts us rest : List Token} → IsSuffix x y ts us → GoesPath y z us rest → GoesPath x z ts rest

    pub data IsSuffix : Expr → Expr → List Token → List Token → Type 0 where
      a_member : {x : Expr} {op : MemberOp} {l : Label} {t : Token} {ts rest : List Token} → member_of t.kind ≡ Some op → IsMemberName l ts rest
          → IsSuffix x (expr.Member t.place op x l) (t ∷ ts) rest
      a_field : {x : Expr} {n : ℕ} {ts us rest : List Token} → Eats symbol.FieldDot ts us → EatsAs name_of n us rest
          → IsSuffix x (expr.Field (place_of ts) x (ident (place_of us) n)) ts rest
      postfix : {x : Expr} {op : UnaryOp} {t : Token} {rest : List Token} → postfix_of t.kind ≡ Some op → IsSuffix x (expr.Unary t.place op x) (t ∷ rest) rest
      index : {x : Expr} {es : List Expr} {ts us rest : List Token} → Eats symbol.LeftBracket ts us → AreIndexes es us rest
          → IsSuffix x (expr.Index (place_of ts) x es) ts rest
      call : {x : Expr} {args : List Arg} {fs : List Expr} {ts us vs rest : List Token} → Eats symbol.LeftParen ts us → AreArguments args us vs → AreClosures fs vs rest
          → IsSuffix x (expr.Call (place_of ts) x (args ++ plain fs)) ts rest
      closures : {x f : Expr} {fs : List Expr} {ts us rest : List Token} → takes_closures x ≡ true → IsClosure f ts us → AreClosures fs us rest
          → IsSuffix x (expr.Call (place_of ts) x (plain (f ∷ fs))) ts rest

    -- member1 = NAME | keyword | refused word | STRING | GSTRING
    pub data IsMemberName : Label → List Token → List Token → Type 0 where
      member_word : {n : ℕ} {ts rest : List Token} → EatsAs member_name_of n ts rest → IsMemberName (label.Name (ident (place_of ts) n)) ts rest
      member_text : {n : ℕ} {ts rest : List Token} → EatsAs text_of n ts rest → IsMemberName (label.Text (ident (place_of ts) n)) ts rest
      member_gstring : {g : GString} {ts rest : List Token} → IsGString g ts rest → IsMemberName (label.GString (place_of ts) g) ts rest

    -- label = NAME | keyword | INT | STRING | GSTRING
    pub data IsKey : Key → List Token → List Token → Type 0 where
      key_word : {n : ℕ} {ts rest : List Token} → EatsAs key_name_of n ts rest → IsKey (key.Label (label.Name (ident (place_of ts) n))) ts rest
      key_text : {n : ℕ} {ts rest : List Token} → EatsAs text_of n ts rest → IsKey (key.Label (label.Text (ident (place_of ts) n))) ts rest
      key_gstring : {g : GString} {ts rest : List Token} → IsGString g ts rest → IsKey (key.Label (label.GString (place_of ts) g)) ts rest
      key_int : {z : ℤ} {t : Token} {rest : List Token} → t.kind ≡ kind.Int z → IsKey (key.Int t.place z) (t ∷ rest) rest
      key_long : {z : ℤ} {t : Token} {rest : List Token} → t.kind ≡ kind.Long z → IsKey (key.Long t.place z) (t ∷ rest) rest

    -- HEAD part { MIDDLE part } TAIL
    pub data IsGString : GString → List Token → List Token → Type 0 where
      gstring : {n : ℕ} {f : Form} {ps : List Part} {ts us rest : List Token} → EatsPiece (piece.Head f) n ts us → AreParts f ps us rest
          → IsGString (roll-GString (record { head = n; parts = ps })) ts rest

    -- a part of a form, and all behind it
    pub data AreParts : Form → List Part → List Token → List Token → Type 0 where
      last_part : {f : Form} {v : Bool × Expr} {n : ℕ} {ts us rest : List Token} → IsPart f v ts us → EatsPiece piece.Tail n us rest
          → AreParts f (roll-Part (record { is_lazy = v.0; value = v.1; behind = n }) ∷ []) ts rest
      more_parts : {f g : Form} {v : Bool × Expr} {n : ℕ} {ps : List Part} {ts us vs rest : List Token} → IsPart f v ts us → EatsPiece (piece.Middle g) n us vs
          → AreParts g ps vs rest → AreParts f (roll-Part (record { is_lazy = v.0; value = v.1; behind = n }) ∷ ps) ts rest

    -- whether a part is lazy, and its value
    pub data IsPart : Form → Bool × Expr → List Token → List Token → Type 0 where
      eager : {x : Expr} {ts us rest : List Token} → IsExpr x ts us → EatsEnd us rest → IsPart form.Braces (false, x) ts rest
      lazy : {x : Expr} {ts us vs rest : List Token} → Eats symbol.Arrow ts us → IsExpr x us vs → EatsEnd vs rest → IsPart form.Braces (true, x) ts rest
      names : {y : Expr} {n : ℕ} {ts us vs rest : List Token} → EatsAs name_of n ts us → GoesNames (expr.Atom (place_of ts) (atom.Name n)) y us vs → EatsEnd vs rest
          → IsPart form.Path (false, y) ts rest

    -- { '.' NAME }
    pub data GoesNames : Expr → Expr → List Token → List Token → Type 0 where
      names_end : {x : Expr} {rest : List Token} → GoesNames x x rest rest
      one_name : {x y : Expr} {n : ℕ} {ts us vs rest : List Token} → Eats symbol.Dot ts us → EatsAs name_of n us vs
          → GoesNames (expr.Member (place_of ts) member.Dot x (label.Name (ident (place_of us) n))) y vs rest → GoesNames x y ts rest

    -- expr { ',' expr } ']'
    pub data AreIndexes : List Expr → List Token → List Token → Type 0 where
      last_index : {x : Expr} {ts us rest : List Token} → IsExpr x ts us → Eats symbol.RightBracket us rest → AreIndexes (x ∷ []) ts rest
      more_indexes : {x : Expr} {xs : List Expr} {ts us vs rest : List Token} → IsExpr x ts us → Eats symbol.Comma us vs → AreIndexes xs vs rest → AreIndexes (x ∷ xs) ts rest

    -- [ arg { ',' arg } ] ')'
    pub data AreArguments : List Arg → List Token → List Token → Type 0 where
      no_argument : {ts rest : List Token} → Eats symbol.RightParen ts rest → AreArguments [] ts rest
      arguments : {args : List Arg} {ts rest : List Token} → AreArgs args ts rest → AreArguments args ts rest

    pub data AreArgs : List Arg → List Token → List Token → Type 0 where
      last_arg : {a : Arg} {ts us rest : List Token} → IsArg a ts us → Eats symbol.RightParen us rest → AreArgs (a ∷ []) ts rest
      more_args : {a : Arg} {args : List Arg} {ts us vs rest : List Token} → IsArg a ts us → Eats symbol.Comma us vs → AreArgs args vs rest → AreArgs (a ∷ args) ts rest

    -- arg = [ label ':' ] expr | '*' un | '*:' un
    pub data IsArg : Arg → List Token → List Token → Type 0 where
      plain_arg : {x : Expr} {ts rest : List Token} → IsExpr x ts rest → IsArg (arg.Plain x) ts rest
      keyed_arg : {k : Key} {x : Expr} {ts us vs rest : List Token} → IsKey k ts us → Eats symbol.Colon us vs → IsExpr x vs rest → IsArg (arg.Keyed k x) ts rest
      spread_arg : {x : Expr} {ts us rest : List Token} → Eats symbol.Star ts us → IsUnary x us rest → IsArg (arg.Spread (place_of ts) x) ts rest
      spread_map_arg : {x : Expr} {ts us rest : List Token} → Eats symbol.SpreadColon ts us → IsUnary x us rest → IsArg (arg.SpreadMap (place_of ts) x) ts rest

    -- [ item { ',' item } [ ',' ] ] ']'
    pub data AreElements : List Item → List Token → List Token → Type 0 where
      no_element : {ts rest : List Token} → Eats symbol.RightBracket ts rest → AreElements [] ts rest
      elements : {items : List Item} {ts rest : List Token} → AreItems items ts rest → AreElements items ts rest

    pub data AreItems : List Item → List Token → List Token → Type 0 where
      last_item : {i : Item} {ts us rest : List Token} → IsItem i ts us → Eats symbol.RightBracket us rest → AreItems (i ∷ []) ts rest
      item_comma : {i : Item} {ts us vs rest : List Token} → IsItem i ts us → Eats symbol.Comma us vs → Eats symbol.RightBracket vs rest → AreItems (i ∷ []) ts rest
      more_items : {i : Item} {items : List Item} {ts us vs rest : List Token} → IsItem i ts us → Eats symbol.Comma us vs → AreItems items vs rest → AreItems (i ∷ items) ts rest

    -- item = expr | '*' un
    pub data IsItem : Item → List Token → List Token → Type 0 where
      plain_item : {x : Expr} {ts rest : List Token} → IsExpr x ts rest → IsItem (item.Plain x) ts rest
      spread_item : {x : Expr} {ts us rest : List Token} → Eats symbol.Star ts us → IsUnary x us rest → IsItem (item.Spread (place_of ts) x) ts rest

    -- entry { ',' entry } [ ',' ] ']'
    pub data AreEntries : List Entry → List Token → List Token → Type 0 where
      last_entry : {n : Entry} {ts us rest : List Token} → IsEntry n ts us → Eats symbol.RightBracket us rest → AreEntries (n ∷ []) ts rest
      entry_comma : {n : Entry} {ts us vs rest : List Token} → IsEntry n ts us → Eats symbol.Comma us vs → Eats symbol.RightBracket vs rest → AreEntries (n ∷ []) ts rest
      more_entries : {n : Entry} {ns : List Entry} {ts us vs rest : List Token} → IsEntry n ts us → Eats symbol.Comma us vs → AreEntries ns vs rest → AreEntries (n ∷ ns) ts rest

    -- entry = ( label | '(' expr ')' ) ':' expr | '*:' un
    pub data IsEntry : Entry → List Token → List Token → Type 0 where
      keyed_entry : {k : Key} {x : Expr} {ts us vs rest : List Token} → IsKey k ts us → Eats symbol.Colon us vs → IsExpr x vs rest → IsEntry (entry.Keyed k x) ts rest
      computed_entry : {x y : Expr} {ts us vs ws xs rest : List Token} → Eats symbol.LeftParen ts us → IsExpr x us vs → Eats symbol.RightParen vs ws → Eats symbol.Colon ws xs → IsExpr y xs rest
          → IsEntry (entry.Computed (place_of ts) x y) ts rest
      spread_entry : {x : Expr} {ts us rest : List Token} → Eats symbol.SpreadColon ts us → IsUnary x us rest → IsEntry (entry.Spread (place_of ts) x) ts rest

    pub data IsPrimary : Expr → List Token → List Token → Type 0 where
      an_atom : {a : Atom} {t : Token} {rest : List Token} → atom_of t.kind ≡ Some a → IsPrimary (expr.Atom t.place a) (t ∷ rest) rest
      a_gstring : {g : GString} {ts rest : List Token} → IsGString g ts rest → IsPrimary (expr.GString (place_of ts) g) ts rest
      parens : {x : Expr} {ts us vs rest : List Token} → Eats symbol.LeftParen ts us → IsExpr x us vs → Eats symbol.RightParen vs rest → IsPrimary (expr.Paren (place_of ts) x) ts rest
      a_list : {items : List Item} {ts us rest : List Token} → Eats symbol.LeftBracket ts us → AreElements items us rest → IsPrimary (expr.List (place_of ts) items) ts rest
      empty_map : {ts us vs rest : List Token} → Eats symbol.LeftBracket ts us → Eats symbol.Colon us vs → Eats symbol.RightBracket vs rest → IsPrimary (expr.Map (place_of ts) []) ts rest
      a_map : {ns : List Entry} {ts us rest : List Token} → Eats symbol.LeftBracket ts us → AreEntries ns us rest → IsPrimary (expr.Map (place_of ts) ns) ts rest
      a_closure : {x : Expr} {ts rest : List Token} → IsClosure x ts rest → IsPrimary x ts rest
      a_new : {n : ℕ} {args : List Arg} {ts us vs ws rest : List Token} → EatsKeyword keyword.New ts us → EatsAs type_name_of n us vs → Eats symbol.LeftParen vs ws → AreArguments args ws rest
          → IsPrimary (expr.New (place_of ts) (ident (place_of us) n) args) ts rest
