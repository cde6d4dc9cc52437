-- How methods and constructors begin, and how methods and classes go on behind their modifiers.
use Rattle.std.specs.Prelude.{ℕ, List, Option}
use Rattle.gv_spelling.specs.declared.kinds.Keyword.TheVariants as keyword
use Rattle.gv_spelling.specs.declared.kinds.Symbol.TheVariants as symbol
use Rattle.gv_lex.specs.declared.token.Token.{Token}
use Rattle.gv_tree.specs.declared.expr.Param.{Param}
use Rattle.gv_tree.specs.declared.ops.Ident.{Ident}
use Rattle.gv_tree.specs.declared.ops.Modifiers.{Modifiers}
use Rattle.gv_tree.specs.declared.stmt.Stmt.{Stmt}
use Rattle.gv_tree.specs.declared.top.Annotation.{Annotation}
use Rattle.gv_tree.specs.declared.top.Answer.{Answer}
use Rattle.gv_tree.specs.declared.top.ClassTree.{ClassTree}
use Rattle.gv_tree.specs.declared.top.Member.{Member}
use Rattle.gv_tree.specs.declared.top.Method.{Method}
use Rattle.gv_grammar.specs.Tokens.{Eats, EatsKeyword, EatsAs, place_of, name_of, type_name_of, ident}
use Rattle.gv_grammar.specs.Stmts.{MayLine}
use Rattle.gv_grammar.specs.Scripts.{IsAnswer, IsRoutine, MayName, AreMembers}

pub data IsTypeName : Ident → List Token → List Token → Type 0 where
  a_type_name : {n : ℕ} {ts rest : List Token} → EatsAs type_name_of n ts rest → IsTypeName (ident (place_of ts) n) ts rest

pub data BeginsAnswer : List Token → Type 0 where
  begins_answer : {tokens : List Token} {a : Answer} {ts us : List Token} → IsAnswer tokens a ts us → BeginsAnswer ts

pub data BeginsMethod : List Token → Type 0 where
  begins_method : {tokens : List Token} {a : Answer} {n : ℕ} {ts us vs rest : List Token} → IsAnswer tokens a ts us → EatsAs name_of n us vs → Eats symbol.LeftParen vs rest → BeginsMethod ts

pub data BeginsConstructor (class : ℕ) : List Token → Type 0 where
  begins_constructor : {ts us rest : List Token} → EatsAs type_name_of class ts us → Eats symbol.LeftParen us rest → BeginsConstructor class ts

module _ (tokens : List Token) (notes : List Annotation) (m : Modifiers) where
  pub data GoesMethod : Method → List Token → List Token → Type 0 where
    goes_method : {a : Answer} {n : ℕ} {ps : List Param} {b : List Stmt} {ts us vs rest : List Token} → IsAnswer tokens a ts us → EatsAs name_of n us vs → IsRoutine tokens ps b vs rest
        → GoesMethod (record { annotations = notes; modifiers = m; answer = a; ident = ident (place_of us) n; params = ps; body = b }) ts rest

  pub data GoesClass : ClassTree → List Token → List Token → Type 0 where
    goes_class : {n : ℕ} {super interface : Option Ident} {ms : List Member} {ts us vs ws xs ys zs rest : List Token} → EatsKeyword keyword.Class ts us → EatsAs type_name_of n us vs
        → MayName keyword.Extends super vs ws → MayName keyword.Implements interface ws xs → MayLine xs ys → Eats symbol.LeftBrace ys zs → AreMembers tokens n ms zs rest
        → GoesClass (record { annotations = notes; modifiers = m; ident = ident (place_of us) n; superclass = super; interface = interface; members = ms }) ts rest
