use Rattle.std.proofs.Common.{◌≡◌, Some}
use Rattle.gv_grammar.specs.Tokens.{kind_of, name_of}
use Rattle.gv_decls.proofs.Declarations.{name_here}
use Rattle.gv_decls.proofs.decls.ident.Goals as goal

pub returns : goal.returns
returns c = let p : name_of (kind_of c.args.cursor.now.rest.now) ≡ Some c.in-Some.name = cc in rw (c.place-place.ensures, c.advance.ensures) (name_here _ p)
