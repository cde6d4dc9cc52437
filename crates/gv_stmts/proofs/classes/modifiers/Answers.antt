use Rattle.std.proofs.Common.{◌≡◌, Some, None}
use Rattle.gv_grammar.specs.Tokens.{kind_of}
use Rattle.gv_grammar.specs.Scripts.{modified}
use Rattle.gv_stmts.proofs.Leads.{modifiers_go_on, modifiers_end, shorter}
use Rattle.gv_stmts.proofs.classes.modifiers.Goals as goal

pub loop-more-init : goal.loop-more-init
loop-more-init c = λ m after d. rw c.no_modifiers-found.ensures d

pub loop-more-smaller : goal.loop-more-smaller
loop-more-smaller c =
    let p : modified (kind_of c.loop-more.cursor.rest.now) c.loop-more.found ≡ Some c.in-Some.more = cc in
    rw c.advance.ensures (shorter c.loop-more.found c.in-Some.more c.loop-more.cursor.rest.now p)

pub loop-more-preserved : goal.loop-more-preserved
loop-more-preserved c =
    let p : modified (kind_of c.loop-more.cursor.rest.now) c.loop-more.found ≡ Some c.in-Some.more = cc in
    rw c.advance.ensures (modifiers_go_on c.loop-more.found c.in-Some.more c.args.cursor.now.rest.now c.loop-more.cursor.rest.now p c.loop-more.invariant)

pub returns : goal.returns
returns c =
    let p : modified (kind_of c.loop-more.cursor.rest.now) c.loop-more.found ≡ None = cc in
    modifiers_end c.loop-more.found c.args.cursor.now.rest.now c.loop-more.cursor.rest.now p c.loop-more.invariant
