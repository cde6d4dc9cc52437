use Rattle.std.proofs.Common.{◌≡◌, sym}
use Rattle.gv_grammar.specs.Tokens.{kind_of, place_of, type_of}
use Rattle.gv_stmts.proofs.Leads.{void_begins, def_begins, type_told}
use Rattle.gv_stmts.proofs.classes.begins_answer.Goals as goal

pub returns-then-sees_keyword : goal.returns-then-sees_keyword
returns-then-sees_keyword c = void_begins _ (c.if-sees_keyword.ensures.1)

pub returns-then-sees_keyword-2 : goal.returns-then-sees_keyword-2
returns-then-sees_keyword-2 c = def_begins _ (c.if-sees_keyword-2.ensures.1)

pub returns : goal.returns
returns c =
    let e : c.type_of.result ≡ type_of (place_of c.args.cursor.now.rest.now) (kind_of c.args.cursor.now.rest.now) = cc in
    type_told c.is_some.result c.args.cursor.now.rest.now c.type_of.result (sym c.is_some.ensures) e (c.if-sees_keyword.ensures) (c.if-sees_keyword-2.ensures)
