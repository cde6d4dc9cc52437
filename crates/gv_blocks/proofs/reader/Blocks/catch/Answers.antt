use Rattle.gv_spelling.specs.declared.kinds.Keyword.TheVariants as keyword
use Rattle.gv_spelling.specs.declared.kinds.Symbol.TheVariants as symbol
use Rattle.std.proofs.Common.{arith}
use Rattle.gv_grammar.specs.Tokens.{Eats, EatsKeyword}
use Rattle.gv_grammar.specs.Stmts.{IsBlock, MayTypes}
use Rattle.gv_grammar.proofs.Lengths.{less, of_keyword, of_eats, no_more}
use Rattle.gv_cursor.proofs.Results.{passed_on_exactly, unexpected_on_exactly}
use Rattle.gv_decls.specs.Phrases.{IsName}
use Rattle.gv_blocks.specs.Phrases.{IsCatch}
use Rattle.gv_grammar.proofs.StmtLengths.{of_may_types}
use Rattle.gv_blocks.proofs.TryStmts.{of_name, catch_here, no_catch_word, no_catch_open, no_catch_types, no_catch_name, no_catch_close, no_catch_block}
use Rattle.gv_blocks.proofs.reader.Blocks.catch.Goals as goal

pub returns-in_err-expect_keyword : goal.returns-in_err-expect_keyword
returns-in_err-expect_keyword g c = unexpected_on_exactly (IsCatch c.args.self.now.values.tokens.now) (EatsKeyword keyword.Catch) _ _ _ _ _ c.from_residual.result (c.from_residual.ensures.1)
    (λ f. no_catch_word c.args.self.now.values.tokens.now f) (c.in_err-expect_keyword.ensures)

pub returns-in_err-expect : goal.returns-in_err-expect
returns-in_err-expect g c = unexpected_on_exactly (IsCatch c.args.self.now.values.tokens.now) (Eats symbol.LeftParen) _ _ _ _ _ c.from_residual-in_err-expect.result (c.from_residual-in_err-expect.ensures.1)
    (λ f. no_catch_open c.args.self.now.values.tokens.now (c.in_ok-expect_keyword.ensures) f) (c.in_err-expect.ensures)

pub returns-in_err-types : goal.returns-in_err-types
returns-in_err-types g c = passed_on_exactly (MayTypes c.args.self.now.values.tokens.now) (IsCatch c.args.self.now.values.tokens.now) _ _ _ _ c.from_residual-in_err-types.result (c.from_residual-in_err-types.ensures.1)
    (λ f. no_catch_types c.args.self.now.values.tokens.now (c.in_ok-expect_keyword.ensures) (c.in_ok-expect.ensures) f) (c.in_err-types.ensures c.args.self.now.values.tokens.now)

pub returns-in_err-ident : goal.returns-in_err-ident
returns-in_err-ident g c = passed_on_exactly (IsName) (IsCatch c.args.self.now.values.tokens.now) _ _ _ _ c.from_residual-in_err-ident.result (c.from_residual-in_err-ident.ensures.1)
    (λ f. no_catch_name c.args.self.now.values.tokens.now (c.in_ok-expect_keyword.ensures) (c.in_ok-expect.ensures) (c.in_ok-types.ensures c.args.self.now.values.tokens.now) f) (c.in_err-ident.ensures)

pub returns-in_err-expect-2 : goal.returns-in_err-expect-2
returns-in_err-expect-2 g c = unexpected_on_exactly (IsCatch c.args.self.now.values.tokens.now) (Eats symbol.RightParen) _ _ _ _ _ c.from_residual-in_err-expect-2.result (c.from_residual-in_err-expect-2.ensures.1)
    (λ f. no_catch_close c.args.self.now.values.tokens.now (c.in_ok-expect_keyword.ensures) (c.in_ok-expect.ensures) (c.in_ok-types.ensures c.args.self.now.values.tokens.now) (c.in_ok-ident.ensures) f) (c.in_err-expect-2.ensures)

pub block-requires-clause-within : goal.block-requires-clause-within
block-requires-clause-within g c =
    let a = less (of_keyword (c.in_ok-expect_keyword.ensures)) in let b = less (of_eats (c.in_ok-expect.ensures)) in let d = c.requires.shorter in
    let e = no_more (of_may_types c.args.self.now.values.tokens.now (c.in_ok-types.ensures c.args.self.now.values.tokens.now)) in let h = less (of_name (c.in_ok-ident.ensures)) in let i = less (of_eats (c.in_ok-expect-2.ensures)) in omega arith

pub returns-in_err-body : goal.returns-in_err-body
returns-in_err-body g c = passed_on_exactly (IsBlock c.args.self.now.values.tokens.now) (IsCatch c.args.self.now.values.tokens.now) _ _ _ _ c.from_residual-in_err-body.result (c.from_residual-in_err-body.ensures.1)
    (λ f. no_catch_block c.args.self.now.values.tokens.now (c.in_ok-expect_keyword.ensures) (c.in_ok-expect.ensures) (c.in_ok-types.ensures c.args.self.now.values.tokens.now) (c.in_ok-ident.ensures) (c.in_ok-expect-2.ensures) f) (c.in_err-body.ensures)

pub returns : goal.returns
returns g c = rw c.place-place.ensures (catch_here c.args.self.now.values.tokens.now (c.in_ok-expect_keyword.ensures) (c.in_ok-expect.ensures) (c.in_ok-types.ensures c.args.self.now.values.tokens.now) (c.in_ok-ident.ensures) (c.in_ok-expect-2.ensures) (c.in_ok-body.ensures))
