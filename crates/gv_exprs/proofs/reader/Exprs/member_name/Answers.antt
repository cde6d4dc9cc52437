use Rattle.std.proofs.Common.{◌≡◌, Some, None}
use Rattle.gv_grammar.specs.Tokens.{kind_of, member_name_of, text_of}
use Rattle.gv_grammar.specs.Exprs.{IsMemberName, member_gstring, IsGString}
use Rattle.gv_grammar.proofs.LongerPaths as longer
use Rattle.gv_cursor.proofs.Results.{passed_on}
use Rattle.gv_exprs.proofs.reader.Exprs.member_name.Goals as goal

pub returns-in-Some : goal.returns-in-Some
returns-in-Some g c = let p : member_name_of (kind_of c.args.tokens.now.rest.now) ≡ Some c.in-Some.name = cc in rw (c.place-place.ensures, c.advance.ensures) (longer.member_word_here c.args.self.now.all _ p)

pub returns-in-Some-text_of : goal.returns-in-Some-text_of
returns-in-Some-text_of g c = let p : text_of (kind_of c.args.tokens.now.rest.now) ≡ Some c.in-Some-text_of.name = cc in rw (c.place-place.ensures, c.advance-in-Some-text_of.ensures) (longer.member_text_here c.args.self.now.all _ p)

pub returns-in_err-gstring : goal.returns-in_err-gstring
returns-in_err-gstring g c =
    let p : member_name_of (kind_of c.args.tokens.now.rest.now) ≡ None = cc in
    let q : text_of (kind_of c.args.tokens.now.rest.now) ≡ None = cc in
    passed_on (IsGString c.args.self.now.all) (IsMemberName c.args.self.now.all) _ _ _ _ c.from_residual.result (c.from_residual.ensures.1) (λ f. longer.no_member_name c.args.self.now.all p q f) (c.in_err-gstring.ensures)

pub returns : goal.returns
returns g c = rw (c.place-place.ensures) (longer.long_member_name c.args.self.now.all (member_gstring (c.in_ok-gstring.ensures.is)))
