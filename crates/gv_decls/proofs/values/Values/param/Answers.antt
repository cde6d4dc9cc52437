use Rattle.std.proofs.Common.{arith}
use Rattle.gv_grammar.specs.Stmts.{MayInitial}
use Rattle.gv_grammar.proofs.Lengths.{less, no_more}
use Rattle.gv_cursor.specs.Reading.{Stopped}
use Rattle.gv_cursor.proofs.Results.{passed_on_exactly}
use Rattle.gv_decls.specs.Phrases.{IsName, IsTyped, IsParamAlone}
use Rattle.gv_decls.proofs.Declarations.{final_read, of_name}
use Rattle.gv_grammar.proofs.StmtLengths.{of_final, of_typed}
use Rattle.gv_decls.proofs.ParamPhrases.{param_here, no_param_typed, no_param_name, no_param_initial, no_param_rest}
use Rattle.gv_decls.proofs.values.Values.param.Goals as goal

pub returns-in_err-is_rest : goal.returns-in_err-is_rest
returns-in_err-is_rest g c =
    let f = final_read c.args.self.now.tokens.now c.eat_keyword-is_final.result (c.eat_keyword-is_final.ensures) in
    passed_on_exactly (IsTyped c.args.self.now.tokens.now) (IsParamAlone c.args.self.now.tokens.now) _ _ _ _ c.from_residual.result (c.from_residual.ensures.1) (λ h. no_param_typed c.args.self.now.tokens.now f h) (c.in_err-is_rest.ensures c.args.self.now.tokens.now)

pub returns-in_err-ident : goal.returns-in_err-ident
returns-in_err-ident g c =
    let f = final_read c.args.self.now.tokens.now c.eat_keyword-is_final.result (c.eat_keyword-is_final.ensures) in
    passed_on_exactly IsName (IsParamAlone c.args.self.now.tokens.now) _ _ _ _ c.from_residual-in_err-ident.result (c.from_residual-in_err-ident.ensures.1)
    (λ h. no_param_name c.args.self.now.tokens.now f (c.in_ok-is_rest.ensures c.args.self.now.tokens.now) h) (c.in_err-ident.ensures)

pub may_initial-requires-clause-within : goal.may_initial-requires-clause-within
may_initial-requires-clause-within g c =
    let t = c.in_ok-is_rest.ensures c.args.self.now.tokens.now in
    let a = no_more (of_final c.args.self.now.tokens.now (final_read c.args.self.now.tokens.now c.eat_keyword-is_final.result (c.eat_keyword-is_final.ensures))) in
    let b = no_more (of_typed c.args.self.now.tokens.now (t.is)) in let d = less (of_name (c.in_ok-ident.ensures)) in let e = c.requires.within in omega arith

pub returns-in_err-initial : goal.returns-in_err-initial
returns-in_err-initial g c =
    let f = final_read c.args.self.now.tokens.now c.eat_keyword-is_final.result (c.eat_keyword-is_final.ensures) in
    passed_on_exactly (Stopped (MayInitial c.args.self.now.tokens.now)) (IsParamAlone c.args.self.now.tokens.now) _ _ _ _ c.from_residual-in_err-initial.result (c.from_residual-in_err-initial.ensures.1)
    (λ h. no_param_initial c.args.self.now.tokens.now f (c.in_ok-is_rest.ensures c.args.self.now.tokens.now) (c.in_ok-ident.ensures) h) (c.in_err-initial.ensures)

pub returns-then-sees : goal.returns-then-sees
returns-then-sees g c =
    let f = final_read c.args.self.now.tokens.now c.eat_keyword-is_final.result (c.eat_keyword-is_final.ensures) in
    rw (c.refuse.ensures.0) (no_param_rest c.args.self.now.tokens.now f (c.in_ok-is_rest.ensures c.args.self.now.tokens.now) (c.in_ok-ident.ensures) (c.in_ok-initial.ensures) (c.if-sees.ensures))

pub returns : goal.returns
returns g c =
    let f = final_read c.args.self.now.tokens.now c.eat_keyword-is_final.result (c.eat_keyword-is_final.ensures) in
    param_here c.args.self.now.tokens.now f (c.in_ok-is_rest.ensures c.args.self.now.tokens.now) (c.in_ok-ident.ensures) (c.in_ok-initial.ensures) (c.if-sees.ensures)
