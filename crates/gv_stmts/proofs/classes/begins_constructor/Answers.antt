use Rattle.std.proofs.Common.{◌≡◌, Some}
use Rattle.gv_grammar.specs.Tokens.{kind_of, type_name_of}
use Rattle.gv_stmts.proofs.Leads.{constructor_begins}
use Rattle.gv_stmts.proofs.classes.begins_constructor.Goals as goal

pub returns : goal.returns
returns c =
    let p : type_name_of (kind_of c.args.cursor.now.rest.now) ≡ Some c.in-Some.name = cc in
    let e : c.in-Some.name ≡ c.args.class = cc in
    constructor_begins {class = c.args.class} c.is_left_paren.result c.args.cursor.now.rest.now p e c.kind_behind.ensures c.is_left_paren.ensures
