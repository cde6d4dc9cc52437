use Rattle.std.proofs.Common.{◌≡◌, Some, None}
use Rattle.gv_grammar.specs.Tokens.{kind_of, place_of, type_of}
use Rattle.gv_grammar.specs.Stmts.{var_def}
use Rattle.gv_decls.proofs.Declarations.{type_here, no_type}
use Rattle.gv_decls.proofs.decls.var_type.Goals as goal

pub returns-then-eat_keyword : goal.returns-then-eat_keyword
returns-then-eat_keyword c = λ tokens. var_def (c.if-eat_keyword.ensures)

pub returns-in_default : goal.returns-in_default
returns-in_default c = λ tokens.
    let e = c.if-eat_keyword.ensures.0 in
    let p : type_of (place_of c.args.cursor.now.rest.now) (kind_of c.args.cursor.now.rest.now) ≡ None = cc in
    rw (c.refuse.ensures.0) (no_type tokens (c.if-eat_keyword.ensures.1) p)

pub returns : goal.returns
returns c = λ tokens.
    let e = c.if-eat_keyword.ensures.0 in
    let p : type_of (place_of c.args.cursor.now.rest.now) (kind_of c.args.cursor.now.rest.now) ≡ Some c.in-Some.written = cc in
    rw (c.advance.ensures, c.if-eat_keyword.ensures.0) (type_here tokens _ p)
