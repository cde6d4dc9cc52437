-- Classes and scripts. `IsX x ts rest` as in Exprs.
use Rattle.std.specs.Prelude.{◌≡◌, ◌≢◌, ℕ, Bool, true, false, List, [], ◌∷◌, Option, Some, None}
use Rattle.gv_spelling.specs.declared.kinds.Keyword.{Keyword}
use Rattle.gv_spelling.specs.declared.kinds.Keyword.TheVariants as keyword
use Rattle.gv_spelling.specs.declared.kinds.Symbol.TheVariants as symbol
use Rattle.gv_lex.specs.declared.token.Token.{Token}
use Rattle.gv_lex.specs.declared.token.TokenKind.{TokenKind}
use Rattle.gv_lex.specs.declared.token.TokenKind.TheVariants as kind
use Rattle.gv_lex.specs.declared.token.Word.TheVariants as word
use Rattle.gv_tree.specs.declared.expr.Expr.{Expr}
use Rattle.gv_tree.specs.declared.expr.Param.{Param}
use Rattle.gv_tree.specs.declared.ops.Ident.{Ident}
use Rattle.gv_tree.specs.declared.ops.Modifiers.{Modifiers}
use Rattle.gv_tree.specs.declared.ops.VarType.{VarType}
use Rattle.gv_tree.specs.declared.stmt.Decl.{Decl}
use Rattle.gv_tree.specs.declared.stmt.Stmt.{Stmt}
use Rattle.gv_tree.specs.declared.stmt.Var.{Var}
use Rattle.gv_tree.specs.declared.top.Annotation.{Annotation}
use Rattle.gv_tree.specs.declared.top.Answer.{Answer}
use Rattle.gv_tree.specs.declared.top.Answer.TheVariants as answer
use Rattle.gv_tree.specs.declared.top.ClassTree.{ClassTree}
use Rattle.gv_tree.specs.declared.top.Import.{Import}
use Rattle.gv_tree.specs.declared.top.Member.{Member}
use Rattle.gv_tree.specs.declared.top.Member.TheVariants as member
use Rattle.gv_tree.specs.declared.top.Method.{Method}
use Rattle.gv_tree.specs.declared.top.Script.{Script}
use Rattle.gv_tree.specs.declared.top.Setting.{Setting}
use Rattle.gv_tree.specs.declared.top.Top.{Top}
use Rattle.gv_tree.specs.declared.top.Top.TheVariants as top
use Rattle.gv_grammar.specs.Tokens.{Eats, EatsKeyword, EatsEnd, EatsAs, kind_of, place_of, name_of, type_name_of, ident}
use Rattle.gv_grammar.specs.Stmts.{Separates, MayLine, AreParams, IsVarType, AreVars, IsValue, IsDecl, IsStmt, IsBlock}

-- ---- words before a declaration

abbrev pub no_modifiers : Modifiers
no_modifiers = record { is_public = false; is_private = false; is_protected = false; is_static = false; is_final = false }

abbrev pub with_modifier : Keyword → Modifiers → Option Modifiers
with_modifier keyword.Public m = Some (record m { is_public = true })
with_modifier keyword.Private m = Some (record m { is_private = true })
with_modifier keyword.Protected m = Some (record m { is_protected = true })
with_modifier keyword.Static m = Some (record m { is_static = true })
with_modifier keyword.Final m = Some (record m { is_final = true })
with_modifier k m = None

abbrev pub modified : TokenKind → Modifiers → Option Modifiers
modified (kind.Word (word.Keyword k) n) m = with_modifier k m
modified other m = None

-- mods = { 'public' | 'private' | 'protected' | 'static' | 'final' }
pub data AreModifiers : Modifiers → List Token → List Token → Type 0 where
  no_modifier : {rest : List Token} → modified (kind_of rest) no_modifiers ≡ None → AreModifiers no_modifiers rest rest
  a_modifier : {m n : Modifiers} {t : Token} {ts rest : List Token} → AreModifiers m ts rest → modified t.kind m ≡ Some n → AreModifiers n (t ∷ ts) rest

-- NAME { '.' NAME }
pub data IsDotted : List Ident → List Token → List Token → Type 0 where
  last_dotted : {n : ℕ} {ts rest : List Token} → EatsAs name_of n ts rest → kind_of rest ≢ kind.Symbol symbol.Dot → IsDotted (ident (place_of ts) n ∷ []) ts rest
  more_dotted : {n : ℕ} {ns : List Ident} {ts us vs rest : List Token} → EatsAs name_of n ts us → Eats symbol.Dot us vs → IsDotted ns vs rest → IsDotted (ident (place_of ts) n ∷ ns) ts rest

-- [ '.*' ]
pub data MayAll : Bool → List Token → List Token → Type 0 where
  is_all : {ts rest : List Token} → Eats symbol.DotStar ts rest → MayAll true ts rest
  not_all : {rest : List Token} → kind_of rest ≢ kind.Symbol symbol.DotStar → MayAll false rest rest

-- 'import' NAME { '.' NAME } [ '.*' ]
pub data IsImport : Import → List Token → List Token → Type 0 where
  an_import : {path : List Ident} {all : Bool} {ts us vs rest : List Token} → EatsKeyword keyword.Import ts us → IsDotted path us vs → MayAll all vs rest
      → IsImport (record { place = place_of ts; path = path; is_all = all }) ts rest

-- the keyword and a name of a class, where the keyword is there
pub data MayName : Keyword → Option Ident → List Token → List Token → Type 0 where
  a_name : {k : Keyword} {n : ℕ} {ts us rest : List Token} → EatsKeyword k ts us → EatsAs type_name_of n us rest → MayName k (Some (ident (place_of us) n)) ts rest
  no_name : {k : Keyword} {rest : List Token} → ((n : ℕ) → kind_of rest ≢ kind.Word (word.Keyword k) n) → MayName k None rest rest

-- ---- a list of tokens
module _ (tokens : List Token) where
  -- NAME '=' expr { ',' NAME '=' expr } ')'
  pub data AreSettings : List Setting → List Token → List Token → Type 0 where
    last_setting : {n : ℕ} {x : Expr} {ts us vs ws rest : List Token} → EatsAs name_of n ts us → Eats symbol.Assign us vs → IsValue tokens x vs ws → Eats symbol.RightParen ws rest
        → AreSettings (record { ident = ident (place_of ts) n; value = x } ∷ []) ts rest
    more_settings : {n : ℕ} {x : Expr} {ss : List Setting} {ts us vs ws xs rest : List Token} → EatsAs name_of n ts us → Eats symbol.Assign us vs → IsValue tokens x vs ws → Eats symbol.Comma ws xs
        → AreSettings ss xs rest → AreSettings (record { ident = ident (place_of ts) n; value = x } ∷ ss) ts rest

  -- [ '(' [ .. ] ')' ]
  pub data MaySettings : List Setting → List Token → List Token → Type 0 where
    no_parens : {rest : List Token} → kind_of rest ≢ kind.Symbol symbol.LeftParen → MaySettings [] rest rest
    empty_parens : {ts us rest : List Token} → Eats symbol.LeftParen ts us → Eats symbol.RightParen us rest → MaySettings [] ts rest
    settings : {ss : List Setting} {ts us rest : List Token} → Eats symbol.LeftParen ts us → AreSettings ss us rest → MaySettings ss ts rest

  -- annots = { annot [NL] }, annot = '@' NAME { '.' NAME } ..
  pub data AreAnnotations : List Annotation → List Token → List Token → Type 0 where
    no_annotation : {rest : List Token} → kind_of rest ≢ kind.Symbol symbol.At → AreAnnotations [] rest rest
    an_annotation : {path : List Ident} {ss : List Setting} {notes : List Annotation} {ts us vs ws xs rest : List Token} → Eats symbol.At ts us → IsDotted path us vs → MaySettings ss vs ws → MayLine ws xs
        → AreAnnotations notes xs rest → AreAnnotations (record { place = place_of ts; path = path; settings = ss } ∷ notes) ts rest

  -- 'def' | 'void' | type
  pub data IsAnswer : Answer → List Token → List Token → Type 0 where
    a_void : {ts rest : List Token} → EatsKeyword keyword.Void ts rest → IsAnswer answer.Void ts rest
    an_answer : {v : VarType} {ts rest : List Token} → IsVarType tokens v ts rest → IsAnswer (answer.Value v) ts rest

  -- '(' [ params ] ')' [NL] block
  pub data IsRoutine : List Param → List Stmt → List Token → List Token → Type 0 where
    routine : {ps : List Param} {b : List Stmt} {ts us vs ws rest : List Token} → Eats symbol.LeftParen ts us → AreParams tokens symbol.RightParen ps us vs → MayLine vs ws → IsBlock tokens b ws rest
        → IsRoutine ps b ts rest

  -- annots mods ( 'def' | 'void' | type ) NAME ..
  pub data IsMethod : Method → List Token → List Token → Type 0 where
    method : {notes : List Annotation} {m : Modifiers} {a : Answer} {n : ℕ} {ps : List Param} {b : List Stmt} {ts us vs ws xs rest : List Token} → AreAnnotations notes ts us → AreModifiers m us vs → IsAnswer a vs ws
        → EatsAs name_of n ws xs → IsRoutine ps b xs rest
        → IsMethod (record { annotations = notes; modifiers = m; answer = a; ident = ident (place_of ws) n; params = ps; body = b }) ts rest

  -- a member of the class of this name: annots mods ( method0 | ctor | field )
  pub data IsMember : ℕ → Member → List Token → List Token → Type 0 where
    a_method : {class : ℕ} {m : Method} {ts rest : List Token} → IsMethod m ts rest → IsMember class (member.Method m) ts rest
    a_constructor : {class : ℕ} {notes : List Annotation} {m : Modifiers} {ps : List Param} {b : List Stmt} {ts us vs ws rest : List Token} → AreAnnotations notes ts us → AreModifiers m us vs
        → EatsAs type_name_of class vs ws → IsRoutine ps b ws rest
        → IsMember class (member.Constructor (record { annotations = notes; modifiers = m; ident = ident (place_of vs) class; params = ps; body = b })) ts rest
    a_field : {class : ℕ} {notes : List Annotation} {m : Modifiers} {v : VarType} {vars : List Var} {ts us vs ws rest : List Token} → AreAnnotations notes ts us → AreModifiers m us vs → IsVarType tokens v vs ws
        → AreVars tokens vars ws rest
        → IsMember class (member.Field (record { annotations = notes; modifiers = m; written = v; vars = vars })) ts rest

  mutual
    -- seps [ member { sep seps member } seps ] '}'
    pub data AreMembers : ℕ → List Member → List Token → List Token → Type 0 where
      no_member : {class : ℕ} {ts rest : List Token} → Eats symbol.RightBrace ts rest → AreMembers class [] ts rest
      member_parted : {class : ℕ} {ms : List Member} {ts us rest : List Token} → Separates ts us → AreMembers class ms us rest → AreMembers class ms ts rest
      one_member : {class : ℕ} {m : Member} {ms : List Member} {ts us rest : List Token} → IsMember class m ts us → AreBehindMember class ms us rest → AreMembers class (m ∷ ms) ts rest

    pub data AreBehindMember : ℕ → List Member → List Token → List Token → Type 0 where
      members_end : {class : ℕ} {ts rest : List Token} → Eats symbol.RightBrace ts rest → AreBehindMember class [] ts rest
      members_go_on : {class : ℕ} {ms : List Member} {ts us rest : List Token} → Separates ts us → AreMembers class ms us rest → AreBehindMember class ms ts rest

  -- annots mods 'class' TNAME [ 'extends' TNAME ] [ 'implements' TNAME ] [NL] '{' members '}'
  pub data IsClass : ClassTree → List Token → List Token → Type 0 where
    a_class : {notes : List Annotation} {m : Modifiers} {n : ℕ} {super interface : Option Ident} {ms : List Member} {ts us vs ws xs ys zs qs rs rest : List Token} → AreAnnotations notes ts us → AreModifiers m us vs
        → EatsKeyword keyword.Class vs ws → EatsAs type_name_of n ws xs → MayName keyword.Extends super xs ys → MayName keyword.Implements interface ys zs → MayLine zs qs → Eats symbol.LeftBrace qs rs
        → AreMembers n ms rs rest
        → IsClass (record { annotations = notes; modifiers = m; ident = ident (place_of ws) n; superclass = super; interface = interface; members = ms }) ts rest

  -- top = import | annots class | annots method | annot [NL] annots decl | stmt
  pub data IsTop : Top → List Token → List Token → Type 0 where
    top_import : {i : Import} {ts rest : List Token} → IsImport i ts rest → IsTop (top.Import i) ts rest
    top_class : {c : ClassTree} {ts rest : List Token} → IsClass c ts rest → IsTop (top.Class c) ts rest
    top_method : {m : Method} {ts rest : List Token} → IsMethod m ts rest → IsTop (top.Method m) ts rest
    top_decl : {note : Annotation} {notes : List Annotation} {d : Decl} {ts us rest : List Token} → AreAnnotations (note ∷ notes) ts us → IsDecl tokens d us rest → IsTop (top.Decl (note ∷ notes) d) ts rest
    top_stmt : {x : Stmt} {ts rest : List Token} → IsStmt tokens x ts rest → IsTop (top.Stmt x) ts rest

  mutual
    -- seps [ top { sep seps top } seps ], and the end of the list
    pub data AreTops : List Top → List Token → List Token → Type 0 where
      no_top : {ts rest : List Token} → EatsEnd ts rest → AreTops [] ts rest
      top_parted : {xs : List Top} {ts us rest : List Token} → Separates ts us → AreTops xs us rest → AreTops xs ts rest
      one_top : {x : Top} {xs : List Top} {ts us rest : List Token} → IsTop x ts us → AreBehindTop xs us rest → AreTops (x ∷ xs) ts rest

    pub data AreBehindTop : List Top → List Token → List Token → Type 0 where
      tops_end : {ts rest : List Token} → EatsEnd ts rest → AreBehindTop [] ts rest
      tops_go_on : {xs : List Top} {ts us rest : List Token} → Separates ts us → AreTops xs us rest → AreBehindTop xs ts rest

-- the script of a whole list of tokens, whose line ends all count
abbrev pub IsScript : Script → List Token → Type 0
IsScript s tokens = AreTops tokens s.tops tokens []
