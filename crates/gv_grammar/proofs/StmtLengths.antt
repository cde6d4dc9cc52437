-- Each phrase of statements takes tokens, from the front.
use Rattle.std.proofs.Common.{Bool, List, length, ap, arith, Option}
use Rattle.std.proofs.lemmas.List.{length-drop}
use Rattle.gv_spelling.specs.declared.kinds.Symbol.{Symbol}
use Rattle.gv_lex.specs.declared.token.Token.{Token}
use Rattle.gv_tree.specs.declared.expr.Closure.{Closure}
use Rattle.gv_tree.specs.declared.expr.Expr.{Expr}
use Rattle.gv_tree.specs.declared.expr.Param.{Param}
use Rattle.gv_tree.specs.declared.ops.Ident.{Ident}
use Rattle.gv_tree.specs.declared.ops.TypeTree.{TypeTree}
use Rattle.gv_tree.specs.declared.ops.VarType.{VarType}
use Rattle.gv_tree.specs.declared.stmt.Case.{Case}
use Rattle.gv_tree.specs.declared.stmt.Catch.{Catch}
use Rattle.gv_tree.specs.declared.stmt.Decl.{Decl}
use Rattle.gv_tree.specs.declared.stmt.Stmt.{Stmt}
use Rattle.gv_tree.specs.declared.stmt.Var.{Var}
use Rattle.gv_grammar.specs.Tokens.{EatsLine, eats_line}
use Rattle.gv_grammar.specs.Phrases.{Takes}
use Rattle.gv_grammar.specs.Stmts.{Separates, by_line, by_semicolon, MayLine, a_line, no_line, IsBodyOf, no_params, with_params, AreParams, no_param, some_params, AreSomeParams, last_param, more_params, IsParam, param, MayInitial, an_initial, no_initial, MayFinal, is_final, not_final, MayTyped, untyped, with_def, with_type, with_rest, IsValue, value, IsFullValue, full_value, IsDecl, decl, IsVarType, var_def, var_typed, AreVars, last_var, more_vars, IsVar, var_alone, var_initial, IsTest, test, AreNames, last_of_names, more_names, IsStmt, a_decl, multiple, a_value, if_alone, if_else, a_while, for_in, for_parts, a_switch, try_catch, try_finally, a_throw, return_value, return_alone, a_break, a_continue, assert_alone, assert_message, IsForIn, by_in, by_colon, MayBegin, begin_decl, begin_value, begin_nothing, MayValue, some_value, no_value, IsLineAndBody, line_and_body, IsBody, body_block, body_stmt, IsBlock, block, AreStmts, no_more, parted, a_stmt, AreAfter, ended, goes_on, AreCases, case_parted, cases, AreSomeCases, no_case, a_case, a_default, AreCatches, no_catch, a_catch, MayTypes, no_types, some_types, AreTypes, last_type, more_types, MayFinally, a_finally, no_finally}
use Rattle.gv_grammar.proofs.Lengths.{takes_none, takes_one, then, weaken, less, no_more as takes_no_more, of_eats, of_keyword, of_as, of_expr}
use Rattle.gv_grammar.proofs.Commands.{of_full}

of_line : {ts rest : List Token} → EatsLine ts rest → Takes 1 ts rest
of_line (eats_line p) = takes_one

pub of_separates : {ts rest : List Token} → Separates ts rest → Takes 1 ts rest
of_separates (by_line p) = of_line p
of_separates (by_semicolon p) = of_eats p

pub of_may_line : {ts rest : List Token} → MayLine ts rest → Takes 0 ts rest
of_may_line (a_line p d) = weaken (then (of_line p) (of_may_line d))
of_may_line (no_line p) = takes_none

-- behind what may take nothing
pub behind : {ts us rest : List Token} → Takes 0 ts us → Takes 1 us rest → Takes 1 ts rest
behind {ts = ts} p q =
    let a = then p q in
    let b = less q in
    let c = takes_no_more p in
    let d = ap length (a.behind) in
    let e = length-drop a.count ts in
    record { count = a.count; enough = omega arith; within = a.within; behind = a.behind }

module _ (tokens : List Token) where
  pub of_final : {f : Bool} {ts rest : List Token} → MayFinal tokens f ts rest → Takes 0 ts rest
  of_final (is_final p) = weaken (of_keyword p)
  of_final (not_final f) = takes_none

  pub of_typed : {r : Bool} {w : Option VarType} {ts rest : List Token} → MayTyped tokens r w ts rest → Takes 0 ts rest
  of_typed (untyped p q) = takes_none
  of_typed (with_def p) = weaken (of_keyword p)
  of_typed (with_type p q) = weaken takes_one
  of_typed (with_rest p q) = weaken (then takes_one (of_eats q))

  pub of_var_type : {w : VarType} {ts rest : List Token} → IsVarType tokens w ts rest → Takes 1 ts rest
  of_var_type (var_def p) = of_keyword p
  of_var_type (var_typed p) = takes_one

  pub of_name_list : {ns : List Ident} {ts rest : List Token} → AreNames tokens ns ts rest → Takes 1 ts rest
  of_name_list (last_of_names p c) = then (of_as p) (of_eats c)
  of_name_list (more_names p c d) = then (of_as p) (then (of_eats c) (of_name_list d))

  pub of_for_in : {ts rest : List Token} → IsForIn tokens ts rest → Takes 1 ts rest
  of_for_in (by_in p) = of_keyword p
  of_for_in (by_colon p) = of_eats p

  pub of_types : {types : List TypeTree} {ts rest : List Token} → AreTypes tokens types ts rest → Takes 1 ts rest
  of_types (last_type p q) = takes_one
  of_types (more_types p c d) = then takes_one (then (of_eats c) (of_types d))

  pub of_may_types : {types : List TypeTree} {ts rest : List Token} → MayTypes tokens types ts rest → Takes 0 ts rest
  of_may_types (no_types p q) = takes_none
  of_may_types (some_types d) = weaken (of_types d)

  pub of_value : {x : Expr} {ts rest : List Token} → IsValue tokens x ts rest → Takes 1 ts rest
  of_value (value d r) = of_expr (length tokens) d

  pub of_full_value : {x : Expr} {ts rest : List Token} → IsFullValue tokens x ts rest → Takes 1 ts rest
  of_full_value (full_value d r) = of_full (length tokens) d

  pub of_may_value : {x : Option Expr} {ts rest : List Token} → MayValue tokens x ts rest → Takes 0 ts rest
  of_may_value (some_value d) = weaken (of_value d)
  of_may_value (no_value p) = takes_none

  pub of_initial : {x : Option Expr} {ts rest : List Token} → MayInitial tokens x ts rest → Takes 0 ts rest
  of_initial (an_initial p d r) = weaken (then (of_eats p) (of_expr (length tokens) d))
  of_initial (no_initial f) = takes_none

  -- ---- parameters and variables

  pub of_param : {r : Bool} {p : Param} {ts rest : List Token} → IsParam tokens r p ts rest → Takes 1 ts rest
  of_param (param f t n i) = behind (of_final f) (behind (of_typed t) (then (of_as n) (of_initial i)))

  pub of_some_params : {c : Symbol} {ps : List Param} {ts rest : List Token} → AreSomeParams tokens c ps ts rest → Takes 1 ts rest
  of_some_params (last_param d c) = then (of_param d) (of_eats c)
  of_some_params (more_params d c g) = then (of_param d) (then (of_eats c) (of_some_params g))

  pub of_params : {c : Symbol} {ps : List Param} {ts rest : List Token} → AreParams tokens c ps ts rest → Takes 1 ts rest
  of_params (no_param c) = of_eats c
  of_params (some_params d) = of_some_params d

  pub of_var : {v : Var} {ts rest : List Token} → IsVar tokens v ts rest → Takes 1 ts rest
  of_var (var_alone p f) = of_as p
  of_var (var_initial p c d) = then (of_as p) (then (of_eats c) (of_full_value d))

  pub of_vars : {vs : List Var} {ts rest : List Token} → AreVars tokens vs ts rest → Takes 1 ts rest
  of_vars (last_var d f) = of_var d
  of_vars (more_vars d c g) = then (of_var d) (then (of_eats c) (of_vars g))

  pub of_decl : {d : Decl} {ts rest : List Token} → IsDecl tokens d ts rest → Takes 1 ts rest
  of_decl (decl f w d) = behind (of_final f) (then (of_var_type w) (of_vars d))

  pub of_begin : {x : Option Stmt} {ts rest : List Token} → MayBegin tokens x ts rest → Takes 0 ts rest
  of_begin (begin_decl d) = weaken (of_decl d)
  of_begin (begin_value f d) = weaken (of_value d)
  of_begin (begin_nothing p) = takes_none

  pub of_test : {x : Expr} {ts rest : List Token} → IsTest tokens x ts rest → Takes 1 ts rest
  of_test (test p d q l) = then (of_eats p) (then (of_value d) (then (of_eats q) (of_may_line l)))

  -- ---- statements

  mutual
    pub of_stmt : {x : Stmt} {ts rest : List Token} → IsStmt tokens x ts rest → Takes 1 ts rest
    of_stmt (a_decl d) = of_decl d
    of_stmt (multiple p q d c e) = then (of_keyword p) (then (of_eats q) (then (of_name_list d) (then (of_eats c) (of_full_value e))))
    of_stmt (a_value p q d) = of_full_value d
    of_stmt (if_alone p t b f) = then (of_keyword p) (then (of_test t) (of_body b))
    of_stmt (if_else p t b q d) = then (of_keyword p) (then (of_test t) (then (of_body b) (then (of_keyword q) (of_body d))))
    of_stmt (a_while p t b) = then (of_keyword p) (then (of_test t) (of_body b))
    of_stmt (for_in p q t n i d r l b) =
        then (of_keyword p) (then (of_eats q) (then (of_typed t) (then (of_as n) (then (of_for_in i) (then (of_value d) (then (of_eats r) (then (of_may_line l) (of_body b))))))))
    of_stmt (for_parts p q i r c k s x b) =
        then (of_keyword p) (then (of_eats q) (then (of_begin i) (then (of_eats r) (then (of_may_value c) (then (of_eats k) (then (of_may_value s) (then (of_eats x) (of_line_and_body b))))))))
    of_stmt (a_switch p t o d) = then (of_keyword p) (then (of_test t) (then (of_eats o) (of_cases d)))
    of_stmt (try_catch p b c f) = then (of_keyword p) (then (of_block b) (then (of_catches c) (of_finally f)))
    of_stmt (try_finally p b q f) = then (of_keyword p) (then (of_block b) (then (of_keyword q) (of_block f)))
    of_stmt (a_throw p d) = then (of_keyword p) (of_value d)
    of_stmt (return_value p d) = then (of_keyword p) (of_full_value d)
    of_stmt (return_alone p f) = of_keyword p
    of_stmt (a_break p) = of_keyword p
    of_stmt (a_continue p) = of_keyword p
    of_stmt (assert_alone p d f) = then (of_keyword p) (of_value d)
    of_stmt (assert_message p d c e) = then (of_keyword p) (then (of_value d) (then (of_eats c) (of_value e)))

    pub of_line_and_body : {x : Stmt} {ts rest : List Token} → IsLineAndBody tokens x ts rest → Takes 1 ts rest
    of_line_and_body (line_and_body l b) = behind (of_may_line l) (of_body b)

    pub of_body : {x : Stmt} {ts rest : List Token} → IsBody tokens x ts rest → Takes 1 ts rest
    of_body (body_block d) = of_block d
    of_body (body_stmt d) = of_stmt d

    pub of_block : {b : List Stmt} {ts rest : List Token} → IsBlock tokens b ts rest → Takes 1 ts rest
    of_block (block p d q) = then (of_eats p) (then (of_stmts d) (of_eats q))

    pub of_stmts : {b : List Stmt} {ts rest : List Token} → AreStmts tokens b ts rest → Takes 0 ts rest
    of_stmts (no_more p) = takes_none
    of_stmts (parted p d) = weaken (then (of_separates p) (of_stmts d))
    of_stmts (a_stmt d g) = weaken (then (of_stmt d) (of_after g))

    pub of_after : {b : List Stmt} {ts rest : List Token} → AreAfter tokens b ts rest → Takes 0 ts rest
    of_after (ended p) = takes_none
    of_after (goes_on p d) = weaken (then (of_separates p) (of_stmts d))

    pub of_cases : {cs : List Case} {ts rest : List Token} → AreCases tokens cs ts rest → Takes 1 ts rest
    of_cases (case_parted p d) = then (of_separates p) (of_cases d)
    of_cases (cases d) = of_some_cases d

    pub of_some_cases : {cs : List Case} {ts rest : List Token} → AreSomeCases tokens cs ts rest → Takes 1 ts rest
    of_some_cases (no_case p) = of_eats p
    of_some_cases (a_case p d c b g) = then (of_keyword p) (then (of_value d) (then (of_eats c) (then (of_stmts b) (of_some_cases g))))
    of_some_cases (a_default p c b g) = then (of_keyword p) (then (of_eats c) (then (of_stmts b) (of_some_cases g)))

    pub of_catches : {cs : List Catch} {ts rest : List Token} → AreCatches tokens cs ts rest → Takes 0 ts rest
    of_catches (no_catch f) = takes_none
    of_catches (a_catch p o t n c b g) =
        weaken (then (of_keyword p) (then (of_eats o) (then (of_may_types t) (then (of_as n) (then (of_eats c) (then (of_block b) (of_catches g)))))))

    pub of_finally : {x : Option (List Stmt)} {ts rest : List Token} → MayFinally tokens x ts rest → Takes 0 ts rest
    of_finally (a_finally p d) = weaken (then (of_keyword p) (of_block d))
    of_finally (no_finally f) = takes_none

  pub of_body_of : {x : Closure} {ts rest : List Token} → IsBodyOf tokens x ts rest → Takes 0 ts rest
  of_body_of (no_params f d) = of_stmts d
  of_body_of (with_params f p d) = weaken (then (of_params p) (of_stmts d))
