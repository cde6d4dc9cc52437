use Rattle.std.proofs.Common.{◌≡◌, refl, Some, None}
use Rattle.gv_grammar.specs.Tokens.{kind_of, name_of}
use Rattle.gv_grammar.proofs.LongerPaths as longer
use Rattle.gv_exprs.proofs.ResultsPaths.{passed}
use Rattle.gv_exprs.proofs.reader.Exprs.field.Goals as goal

pub returns-in_default : goal.returns-in_default
returns-in_default g c =
    let p : name_of (kind_of c.advance.new.self.rest.now) ≡ None = cc in
    (refl, refl, longer.no_field c.args.self.now.all (passed _ c.requires.next c.advance.ensures) p)

pub returns : goal.returns
returns g c =
    let p : name_of (kind_of c.advance.new.self.rest.now) ≡ Some c.in-Some.name = cc in
    rw (c.place-place.ensures, c.in_ok-new.ensures, c.place.ensures, c.advance-2.ensures) (longer.field_here c.args.self.now.all (passed _ c.requires.next c.advance.ensures) p)
