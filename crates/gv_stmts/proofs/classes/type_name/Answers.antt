use Rattle.std.proofs.Common.{◌≡◌, Some}
use Rattle.gv_grammar.specs.Tokens.{kind_of, type_name_of}
use Rattle.gv_stmts.proofs.Leads.{type_name_here}
use Rattle.gv_stmts.proofs.classes.type_name.Goals as goal

pub returns : goal.returns
returns c = let p : type_name_of (kind_of c.args.cursor.now.rest.now) ≡ Some c.in-Some.name = cc in rw (c.place-place.ensures, c.advance.ensures) (type_name_here _ p)
