use Rattle.std.proofs.Common.{arith}
use Rattle.gv_grammar.specs.Stmts.{IsDecl, IsVarType, AreVars}
use Rattle.gv_grammar.proofs.Lengths.{less, no_more}
use Rattle.gv_cursor.specs.Reading.{Stopped}
use Rattle.gv_decls.proofs.Declarations.{final_read, decl_here, no_decl_type, no_decl_vars}
use Rattle.gv_grammar.proofs.StmtLengths.{of_final, of_var_type}
use Rattle.gv_cursor.proofs.Results.{passed_on_exactly}
use Rattle.gv_decls.proofs.values.Values.decl.Goals as goal

pub returns-in_err-written : goal.returns-in_err-written
returns-in_err-written g c =
    let f = final_read c.args.self.now.tokens.now c.eat_keyword-is_final.result (c.eat_keyword-is_final.ensures) in
    passed_on_exactly (IsVarType c.args.self.now.tokens.now) (Stopped (IsDecl c.args.self.now.tokens.now)) _ _ _ _ c.from_residual.result (c.from_residual.ensures.1) (λ h. no_decl_type c.args.self.now.tokens.now f h) (c.in_err-written.ensures c.args.self.now.tokens.now)

pub vars-requires-clause-within : goal.vars-requires-clause-within
vars-requires-clause-within g c =
    let a = no_more (of_final c.args.self.now.tokens.now (final_read c.args.self.now.tokens.now c.eat_keyword-is_final.result (c.eat_keyword-is_final.ensures))) in
    let b = less (of_var_type c.args.self.now.tokens.now (c.in_ok-written.ensures c.args.self.now.tokens.now)) in let d = c.requires.within in omega arith

pub returns-in_err-vars : goal.returns-in_err-vars
returns-in_err-vars g c =
    let f = final_read c.args.self.now.tokens.now c.eat_keyword-is_final.result (c.eat_keyword-is_final.ensures) in
    passed_on_exactly (Stopped (AreVars c.args.self.now.tokens.now)) (Stopped (IsDecl c.args.self.now.tokens.now)) _ _ _ _ c.from_residual-in_err-vars.result (c.from_residual-in_err-vars.ensures.1) (λ h. no_decl_vars c.args.self.now.tokens.now f (c.in_ok-written.ensures c.args.self.now.tokens.now) h) (c.in_err-vars.ensures)

pub returns : goal.returns
returns g c =
    let f = final_read c.args.self.now.tokens.now c.eat_keyword-is_final.result (c.eat_keyword-is_final.ensures) in
    record { is = rw (c.place-place.ensures) (decl_here c.args.self.now.tokens.now f (c.in_ok-written.ensures c.args.self.now.tokens.now) (c.in_ok-vars.ensures.is)); stops = c.in_ok-vars.ensures.stops }
