use Rattle.std.proofs.Common.{◌≡◌, drop, Some, None}
use Rattle.gv_grammar.specs.Phrases.{Longest}
use Rattle.gv_grammar.specs.Tokens.{kind_of, prefix_of}
use Rattle.gv_grammar.specs.Exprs.{IsUnary}
use Rattle.gv_grammar.proofs.LongerOperators as longer
use Rattle.gv_cursor.proofs.Results as results
use Rattle.gv_exprs.proofs.ResultsOperators.{reads_unary}
use Rattle.gv_exprs.proofs.reader.Exprs.unary.Goals as goal

pub returns-in_default : goal.returns-in_default
returns-in_default g c = let p : prefix_of (kind_of c.args.tokens.now.rest.now) ≡ None = cc in reads_unary c.args.self.now.all _ _ c.path.result p c.path.ensures

pub returns-in_err-operand : goal.returns-in_err-operand
returns-in_err-operand g c =
    let p : prefix_of (kind_of c.args.tokens.now.rest.now) ≡ Some c.in-Some.op = cc in
    results.passed_on (IsUnary c.args.self.now.all) (IsUnary c.args.self.now.all) _ _ _ _ c.from_residual.result (c.from_residual.ensures.1)
    (λ f. longer.prefix_refused c.args.self.now.all p (rw (← c.advance.ensures) f)) (c.in_err-operand.ensures)

pub returns : goal.returns
returns g c =
    let p : prefix_of (kind_of c.args.tokens.now.rest.now) ≡ Some c.in-Some.op = cc in
    let l : Longest (IsUnary c.args.self.now.all) c.in_ok-operand.operand (drop 1 c.args.tokens.now.rest.now) c.inner_unary.new.tokens.rest.now = rw (← c.advance.ensures) (c.in_ok-operand.ensures) in
    rw (c.place-place.ensures, c.in_ok-new.ensures) (longer.long_prefix c.args.self.now.all p l)
