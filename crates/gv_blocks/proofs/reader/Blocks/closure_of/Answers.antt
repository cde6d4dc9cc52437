use Rattle.std.proofs.Common.{◌≡◌, true, false, arith}
use Rattle.gv_spelling.specs.declared.kinds.Symbol.TheVariants as symbol
use Rattle.gv_grammar.specs.Stmts.{has_arrow, AreParams, AreStmts, IsBodyOf, no_params, with_params}
use Rattle.gv_grammar.proofs.Lengths.{less}
use Rattle.gv_cursor.proofs.Results.{passed_on_exactly}
use Rattle.gv_grammar.proofs.StmtLengths.{of_params}
use Rattle.gv_blocks.proofs.Following.{no_body_plain, no_body_params, no_body_stmts}
use Rattle.gv_blocks.proofs.reader.Blocks.closure_of.Goals as goal

pub returns-then-not-has_arrow : goal.returns-then-not-has_arrow
returns-then-not-has_arrow g c = let p : has_arrow 0 c.args.cursor.now.rest.now ≡ false = cc in no_params p (c.in_ok-stmts.ensures)

pub stmts-requires-2-clause-within : goal.stmts-requires-2-clause-within
stmts-requires-2-clause-within g c = let a = less (of_params c.args.self.now.values.tokens.now (c.in_ok-params.ensures)) in let b = c.requires.within in omega arith

pub returns-in_err-stmts-2 : goal.returns-in_err-stmts-2
returns-in_err-stmts-2 g c =
    let p : has_arrow 0 c.args.cursor.now.rest.now ≡ true = cc in
    passed_on_exactly (AreStmts c.args.self.now.values.tokens.now) (IsBodyOf c.args.self.now.values.tokens.now) _ _ _ _ c.from_residual-in_err-stmts-2.result (c.from_residual-in_err-stmts-2.ensures.1)
    (λ f. no_body_stmts c.args.self.now.values.tokens.now p (c.in_ok-params.ensures) f) (c.in_err-stmts-2.ensures)

pub returns : goal.returns
returns g c = let p : has_arrow 0 c.args.cursor.now.rest.now ≡ true = cc in with_params p (c.in_ok-params.ensures) (c.in_ok-stmts-2.ensures)

pub returns-in_err-stmts : goal.returns-in_err-stmts
returns-in_err-stmts g c =
    let p : has_arrow 0 c.args.cursor.now.rest.now ≡ false = cc in
    passed_on_exactly (AreStmts c.args.self.now.values.tokens.now) (IsBodyOf c.args.self.now.values.tokens.now) _ _ _ _ c.from_residual.result (c.from_residual.ensures.1)
    (λ f. no_body_plain c.args.self.now.values.tokens.now p f) (c.in_err-stmts.ensures)

pub returns-in_err-params : goal.returns-in_err-params
returns-in_err-params g c =
    let p : has_arrow 0 c.args.cursor.now.rest.now ≡ true = cc in
    passed_on_exactly (AreParams c.args.self.now.values.tokens.now symbol.Arrow) (IsBodyOf c.args.self.now.values.tokens.now) _ _ _ _ c.from_residual-in_err-params.result (c.from_residual-in_err-params.ensures.1)
    (λ f. no_body_params c.args.self.now.values.tokens.now p f) (c.in_err-params.ensures)
