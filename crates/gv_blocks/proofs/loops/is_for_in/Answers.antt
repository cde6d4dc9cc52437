use Rattle.std.proofs.Common.{◌≡◌, [], refl, sym, ap, ◌∙◌, None}
use Rattle.std.specs.Option.{is_some}
use Rattle.gv_grammar.specs.Tokens.{EatsAs, kind_of, name_of}
use Rattle.gv_grammar.specs.Stmts.{by_in}
use Rattle.gv_grammar.proofs.Longest.{as_here}
use Rattle.gv_blocks.proofs.ForHeads as heads
use Rattle.gv_blocks.proofs.loops.is_for_in.Goals as goal

pub returns-then-not-eat : goal.returns-then-not-eat
returns-then-not-eat c = heads.no_paren [] (c.if-not-eat_keyword.ensures) (c.if-not-eat.ensures.1)

pub returns-then-is_rest : goal.returns-then-is_rest
returns-then-is_rest c = heads.rested [] (c.if-not-eat_keyword.ensures) (c.if-not-eat.ensures) ((c.in-Ok.ensures []).is) c.if-is_rest.true

pub returns-in-Err-Refused : goal.returns-in-Err-Refused
returns-in-Err-Refused c = heads.no_type [] (c.if-not-eat_keyword.ensures) (c.if-not-eat.ensures) (rw (c.in-Err-Refused.field-0-is) at (c.in-Err-Refused.ensures []))

pub returns-then-is_none : goal.returns-then-is_none
returns-then-is_none c =
    let e : name_of (kind_of c.may_typed.new.cursor.rest.now) ≡ None = heads.none_name _ (ap is_some (sym (c.name_of.ensures ∙ ap name_of c.kind.ensures)) ∙ c.if-is_none.ensures) in
    heads.no_name [] (c.if-not-eat_keyword.ensures) (c.if-not-eat.ensures) ((c.in-Ok.ensures []).is) e

pub returns-then-eat_keyword : goal.returns-then-eat_keyword
returns-then-eat_keyword c =
    let e = heads.some_name (name_of (kind_of c.may_typed.new.cursor.rest.now)) (ap is_some (sym (c.name_of.ensures ∙ ap name_of c.kind.ensures)) ∙ c.if-is_none.ensures) in
    let m : EatsAs name_of (e.0) c.may_typed.new.cursor.rest.now c.advance.new.self.rest.now = rw (c.advance.ensures) (as_here _ refl (e.1)) in
    heads.head_here [] (c.if-not-eat_keyword.ensures) (c.if-not-eat.ensures) ((c.in-Ok.ensures []).is) c.if-is_rest.false m (by_in (c.if-eat_keyword.ensures))

pub returns : goal.returns
returns c =
    let e = heads.some_name (name_of (kind_of c.may_typed.new.cursor.rest.now)) (ap is_some (sym (c.name_of.ensures ∙ ap name_of c.kind.ensures)) ∙ c.if-is_none.ensures) in
    let m : EatsAs name_of (e.0) c.may_typed.new.cursor.rest.now c.advance.new.self.rest.now = rw (c.advance.ensures) (as_here _ refl (e.1)) in
    heads.follows_colon [] (c.if-not-eat_keyword.ensures) (c.if-not-eat.ensures) ((c.in-Ok.ensures []).is) c.eat-2.result _ c.if-is_rest.false m (c.if-eat_keyword.ensures.0) (c.if-eat_keyword.ensures.1) (c.eat-2.ensures)
