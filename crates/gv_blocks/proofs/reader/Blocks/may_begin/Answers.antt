use Rattle.std.proofs.Common.{◌≡◌, true, false}
use Rattle.gv_grammar.specs.Stmts.{IsValue, IsDecl, MayBegin}
use Rattle.gv_cursor.specs.Reading.{Stopped}
use Rattle.gv_cursor.proofs.Results.{passed_on_exactly}
use Rattle.gv_blocks.specs.Phrases.{begins_decl}
use Rattle.gv_blocks.proofs.ForStmts.{begin_none, begin_declared, begin_valued, no_decl_begins, no_value_begins}
use Rattle.gv_blocks.proofs.reader.Blocks.may_begin.Goals as goal

pub returns-then-sees : goal.returns-then-sees
returns-then-sees g c = begin_none c.args.self.now.values.tokens.now (c.if-sees.ensures)

pub returns-in_err-decl : goal.returns-in_err-decl
returns-in_err-decl g c = let p : begins_decl c.args.cursor.now.rest.now ≡ true = cc in passed_on_exactly (Stopped (IsDecl c.args.self.now.values.tokens.now)) (Stopped (MayBegin c.args.self.now.values.tokens.now)) _ _ _ _ c.from_residual.result (c.from_residual.ensures.1)
    (λ f. no_decl_begins c.args.self.now.values.tokens.now (c.if-sees.ensures) p f) (c.in_err-decl.ensures)

pub returns-then-begins_decl : goal.returns-then-begins_decl
returns-then-begins_decl g c = rw (c.in_ok-new.ensures) (begin_declared c.args.self.now.values.tokens.now (c.in_ok-decl.ensures))

pub returns-in_err-value : goal.returns-in_err-value
returns-in_err-value g c = let p : begins_decl c.args.cursor.now.rest.now ≡ false = cc in passed_on_exactly (Stopped (IsValue c.args.self.now.values.tokens.now)) (Stopped (MayBegin c.args.self.now.values.tokens.now)) _ _ _ _ c.from_residual-in_err-value.result (c.from_residual-in_err-value.ensures.1)
    (λ f. no_value_begins c.args.self.now.values.tokens.now (c.if-sees.ensures) p f) (c.in_err-value.ensures)

pub returns : goal.returns
returns g c = let p : begins_decl c.args.cursor.now.rest.now ≡ false = cc in rw (c.in_ok-new-2.ensures, c.in_ok-value-2.ensures) (begin_valued c.args.self.now.values.tokens.now p (c.in_ok-value.ensures))
