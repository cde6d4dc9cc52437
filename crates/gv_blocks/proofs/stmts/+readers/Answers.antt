use Rattle.std.proofs.Common.{◌≡◌, ◌-◌, List, length, drop, subst, arith}
use Rattle.gv_lex.specs.declared.token.Token.{Token}
use Rattle.gv_grammar.specs.Stmts.{IsBodyOf}
use Rattle.gv_blocks.proofs.Following.{whole_body, no_body_ends}
use Rattle.gv_blocks.proofs.Nested.{as_stmts, as_stmt}
use Rattle.gv_blocks.proofs.stmts.+readers.Goals as goal

pub body-returns-then-is_whole : goal.body-returns-then-is_whole
body-returns-then-is_whole t c =
    let d : IsBodyOf c.args.tokens.now c.in-Ok.closure (drop c.args.from c.args.tokens.now) c.closure_of-read.new.cursor.rest.now = subst (λ (zs : List Token). IsBodyOf c.args.tokens.now c.in-Ok.closure zs c.closure_of-read.new.cursor.rest.now) (c.split_at.ensures.back) (c.in-Ok.ensures) in
    let e : length c.closure_of-read.new.cursor.rest.now ≡ length c.args.tokens.now - c.args.to = omega arith in
    whole_body c.args.tokens.now c.args.from c.args.to d (c.requires.inside) e (c.requires.ordered)

pub body-returns-in-Ok : goal.body-returns-in-Ok
body-returns-in-Ok t c =
    let d : IsBodyOf c.args.tokens.now c.in-Ok.closure (drop c.args.from c.args.tokens.now) c.closure_of-read.new.cursor.rest.now = subst (λ (zs : List Token). IsBodyOf c.args.tokens.now c.in-Ok.closure zs c.closure_of-read.new.cursor.rest.now) (c.split_at.ensures.back) (c.in-Ok.ensures) in
    no_body_ends c.args.tokens.now c.args.from c.args.to d (λ e. absurd (omega arith))

pub top-returns-in_ok-stmts-in-Stmts : goal.top-returns-in_ok-stmts-in-Stmts
top-returns-in_ok-stmts-in-Stmts t c = as_stmts c.args.tokens.now (c.in-Stmts.is) (c.in_ok-stmts-in-Stmts.ensures)

pub top-returns-in_ok-stmt-in-Stmt : goal.top-returns-in_ok-stmt-in-Stmt
top-returns-in_ok-stmt-in-Stmt t c = as_stmt c.args.tokens.now (c.in-Stmt.is) (c.in_ok-stmt-in-Stmt.ensures)
