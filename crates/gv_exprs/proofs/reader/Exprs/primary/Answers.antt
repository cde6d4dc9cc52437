use Rattle.std.proofs.Common.{◌≡◌, Some, None}
use Rattle.gv_grammar.specs.Tokens.{kind_of, atom_of}
use Rattle.gv_grammar.specs.Exprs.{IsPrimary, a_gstring, a_closure, IsGString}
use Rattle.gv_grammar.proofs.Longest.{symbol_eaten}
use Rattle.gv_grammar.proofs.LongerPaths as longer
use Rattle.gv_cursor.proofs.Results.{passed_on}
use Rattle.gv_exprs.proofs.ResultsPaths.{refused_here, unread_primary}
use Rattle.gv_exprs.proofs.reader.Exprs.primary.Goals as goal

pub returns-in-Some : goal.returns-in-Some
returns-in-Some g c = let p : atom_of (kind_of c.args.tokens.now.rest.now) ≡ Some c.in-Some.atom = cc in rw (c.place-place.ensures, c.advance.ensures) (longer.atom_here c.args.self.now.all _ p)

pub returns-in-Some-closure : goal.returns-in-Some-closure
returns-in-Some-closure g c = longer.long_primary c.args.self.now.all (a_closure (c.in-Some-closure.ensures))

pub returns-in-None : goal.returns-in-None
returns-in-None g c = refused_here (IsPrimary c.args.self.now.all) _ (c.refuse.ensures.0) (longer.no_closure_primary c.args.self.now.all (symbol_eaten _ (c.if-sees-3.ensures)) (c.in-None.ensures.1))

pub returns-in_err-gstring : goal.returns-in_err-gstring
returns-in_err-gstring g c =
    let p : atom_of (kind_of c.args.tokens.now.rest.now) ≡ None = cc in
    passed_on (IsGString c.args.self.now.all) (IsPrimary c.args.self.now.all) _ _ _ _ c.from_residual.result (c.from_residual.ensures.1)
    (λ f. unread_primary c.args.self.now.all p (c.if-sees.ensures) (c.if-sees-2.ensures) (c.if-sees-3.ensures) (c.if-sees_keyword.ensures) f) (c.in_err-gstring.ensures)

pub returns : goal.returns
returns g c = rw (c.place-place.ensures) (longer.long_primary c.args.self.now.all (a_gstring (c.in_ok-gstring.ensures.is)))
