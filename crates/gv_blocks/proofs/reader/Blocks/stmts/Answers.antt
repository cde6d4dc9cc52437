use Rattle.std.proofs.Common.{◌≡◌, length, true, false, List, ap, subst, arith}
use Rattle.gv_lex.specs.declared.token.Token.{Token}
use Rattle.gv_grammar.specs.Tokens.{kind_of}
use Rattle.gv_grammar.specs.Stmts.{IsStmt, AreStmts, Separates, ends_stmts}
use Rattle.gv_grammar.proofs.Lengths.{less}
use Rattle.gv_cursor.specs.Reading.{Stopped}
use Rattle.gv_cursor.proofs.Results.{passed_on_exactly}
use Rattle.gv_grammar.proofs.StmtLengths.{of_separates, of_stmt}
use Rattle.gv_blocks.proofs.Following.{carried_along, carries_none, carries_separator, carries_end, carries_last, carries_stmt, none_here, none_behind}
use Rattle.gv_blocks.proofs.reader.Blocks.stmts.Goals as goal

pub loop-cursor-init : goal.loop-cursor-init
loop-cursor-init g c = rw (c.new-stmts.ensures) (carries_none c.args.self.now.values.tokens.now)

pub loop-init : goal.loop-init
loop-init g c = record { carried = c.loop-cursor.invariant; shorter = omega arith }

pub loop-smaller : goal.loop-smaller
loop-smaller g c = let a = less (of_separates (c.loop-test.ensures)) in omega arith

pub loop-preserved : goal.loop-preserved
loop-preserved g c = let a = less (of_separates (c.loop-test.ensures)) in let b = c.loop.invariant.shorter in
    record { carried = carries_separator c.args.self.now.values.tokens.now (c.loop.invariant.carried) (c.loop-test.ensures); shorter = omega arith }

pub returns-then-ends_stmts : goal.returns-then-ends_stmts
returns-then-ends_stmts g c =
    let p : ends_stmts (kind_of c.separates.new.cursor.rest.now) ≡ true = cc in
    carries_end c.args.self.now.values.tokens.now (carried_along c.args.self.now.values.tokens.now (c.loop-test.ensures.0) (c.loop.invariant.carried)) p

pub stmt-requires-clause-within : goal.stmt-requires-clause-within
stmt-requires-clause-within g c = let a = ap length (c.loop-test.ensures.0) in let b = c.loop.invariant.carried.shorter in let d = c.requires.within in omega arith

pub returns-in_err-stmt : goal.returns-in_err-stmt
returns-in_err-stmt g c =
    let p : ends_stmts (kind_of c.separates.new.cursor.rest.now) ≡ false = cc in
    let e = c.loop-test.ensures.0 in
    passed_on_exactly (Stopped (IsStmt c.args.self.now.values.tokens.now)) (AreStmts c.args.self.now.values.tokens.now) _ _ _ _ c.from_residual.result (c.from_residual.ensures.1)
    (λ f. none_here c.args.self.now.values.tokens.now (carried_along c.args.self.now.values.tokens.now e (c.loop.invariant.carried)) p
    (λ after s. c.loop-test.ensures.1 after (subst (λ (zs : List Token). Separates zs after) e s)) f) (c.in_err-stmt.ensures)

pub returns-then-ends_stmts-2 : goal.returns-then-ends_stmts-2
returns-then-ends_stmts-2 g c =
    let p : ends_stmts (kind_of c.stmt.new.cursor.rest.now) ≡ true = cc in
    rw (c.in_ok-push.ensures.ok) (carries_last c.args.self.now.values.tokens.now (carried_along c.args.self.now.values.tokens.now (c.loop-test.ensures.0) (c.loop.invariant.carried)) (c.in_ok-stmt.ensures.is) p)

pub returns-then-not-separates : goal.returns-then-not-separates
returns-then-not-separates g c =
    let p : ends_stmts (kind_of c.stmt.new.cursor.rest.now) ≡ false = cc in
    rw (c.refuse.ensures.0) (none_behind c.args.self.now.values.tokens.now (carried_along c.args.self.now.values.tokens.now (c.loop-test.ensures.0) (c.loop.invariant.carried)) (c.in_ok-stmt.ensures) p
    (c.if-not-separates.ensures.1))

pub loop-cursor-smaller : goal.loop-cursor-smaller
loop-cursor-smaller g c =
    let a = less (of_separates (c.if-not-separates.ensures)) in let b = less (of_stmt c.args.self.now.values.tokens.now (c.in_ok-stmt.ensures.is)) in
    let d = ap length (c.loop-test.ensures.0) in let e = c.loop.invariant.shorter in omega arith

pub loop-cursor-preserved : goal.loop-cursor-preserved
loop-cursor-preserved g c =
    let p : ends_stmts (kind_of c.stmt.new.cursor.rest.now) ≡ false = cc in
    rw (c.in_ok-push.ensures.ok) (carries_stmt c.args.self.now.values.tokens.now (carried_along c.args.self.now.values.tokens.now (c.loop-test.ensures.0) (c.loop.invariant.carried)) (c.in_ok-stmt.ensures) p
    (c.if-not-separates.ensures))
