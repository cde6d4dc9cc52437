use Rattle.gv_grammar.specs.Stmts.{IsVarType, AreVars}
use Rattle.gv_grammar.specs.Scripts.{IsMember, a_method}
use Rattle.gv_cursor.specs.Reading.{Stopped}
use Rattle.gv_cursor.proofs.Results.{passed_on_exactly, refused_on}
use Rattle.gv_stmts.specs.Members.{IsTypeName, GoesMethod}
use Rattle.gv_stmts.proofs.Routines.{Routine}
use Rattle.gv_stmts.proofs.MemberPhrases.{Led, no_constructor_name, no_constructor_routine, constructor_goes_on, constructor_here, no_method, method_goes_on, method_here, no_field_type, no_field_vars, field_here, stopped_at}
use Rattle.gv_stmts.proofs.classes.member.Goals as goal

pub returns-in_err-ident : goal.returns-in_err-ident
returns-in_err-ident c = passed_on_exactly IsTypeName (Stopped (IsMember c.args.tokens.now c.args.class)) _ _ _ _ c.from_residual-in_err-ident.result (c.from_residual-in_err-ident.ensures.1)
    (λ f. absurd (no_constructor_name c.args.tokens.now c.args.class (c.if-begins_constructor.ensures) f)) (c.in_err-ident.ensures)

pub returns-in_err-params : goal.returns-in_err-params
returns-in_err-params c =
    let l : Led c.args.tokens.now c.in_ok-annotations.annotations c.modifiers-modifiers.result c.args.cursor.now.rest.now c.modifiers-modifiers.new.cursor.rest.now = record { us = c.annotations.new.cursor.rest.now; noted = c.in_ok-annotations.ensures; modifies = c.modifiers-modifiers.ensures } in
    passed_on_exactly (Routine c.args.tokens.now) (Stopped (IsMember c.args.tokens.now c.args.class)) _ _ _ _ c.from_residual-in_err-params.result (c.from_residual-in_err-params.ensures.1)
    (no_constructor_routine c.args.tokens.now c.args.class l (c.if-begins_constructor.ensures) (c.in_ok-ident.ensures)) (c.in_err-params.ensures)

pub returns-in_err-expect_stop : goal.returns-in_err-expect_stop
returns-in_err-expect_stop c =
    let l : Led c.args.tokens.now c.in_ok-annotations.annotations c.modifiers-modifiers.result c.args.cursor.now.rest.now c.modifiers-modifiers.new.cursor.rest.now = record { us = c.annotations.new.cursor.rest.now; noted = c.in_ok-annotations.ensures; modifies = c.modifiers-modifiers.ensures } in
    refused_on (Stopped (IsMember c.args.tokens.now c.args.class)) _ _ _ c.from_residual-in_err-expect_stop.result (c.from_residual-in_err-expect_stop.ensures.1) (c.in_err-expect_stop.ensures.stops.0)
    (constructor_goes_on c.args.tokens.now c.args.class l (c.if-begins_constructor.ensures) (c.in_ok-ident.ensures) (c.in_ok-params.ensures) (c.in_err-expect_stop.ensures.stops.1))

pub returns-then-begins_constructor : goal.returns-then-begins_constructor
returns-then-begins_constructor c =
    let l : Led c.args.tokens.now c.in_ok-annotations.annotations c.modifiers-modifiers.result c.args.cursor.now.rest.now c.modifiers-modifiers.new.cursor.rest.now = record { us = c.annotations.new.cursor.rest.now; noted = c.in_ok-annotations.ensures; modifies = c.modifiers-modifiers.ensures } in
    stopped_at (IsMember c.args.tokens.now c.args.class) (c.in_ok-expect_stop.ensures.same) (constructor_here c.args.tokens.now c.args.class l (c.if-begins_constructor.ensures) (c.in_ok-ident.ensures) (c.in_ok-params.ensures)) (c.in_ok-expect_stop.ensures.stops)

pub returns-in_err-method : goal.returns-in_err-method
returns-in_err-method c =
    let l : Led c.args.tokens.now c.in_ok-annotations.annotations c.modifiers-modifiers.result c.args.cursor.now.rest.now c.modifiers-modifiers.new.cursor.rest.now = record { us = c.annotations.new.cursor.rest.now; noted = c.in_ok-annotations.ensures; modifies = c.modifiers-modifiers.ensures } in
    passed_on_exactly (GoesMethod c.args.tokens.now c.in_ok-annotations.annotations c.modifiers-modifiers.result) (Stopped (IsMember c.args.tokens.now c.args.class)) _ _ _ _ c.from_residual-in_err-method.result (c.from_residual-in_err-method.ensures.1)
    (no_method c.args.tokens.now c.args.class l (c.if-begins_method.ensures) (c.if-begins_constructor.ensures)) (c.in_err-method.ensures)

pub returns-in_err-expect_stop-2 : goal.returns-in_err-expect_stop-2
returns-in_err-expect_stop-2 c =
    let l : Led c.args.tokens.now c.in_ok-annotations.annotations c.modifiers-modifiers.result c.args.cursor.now.rest.now c.modifiers-modifiers.new.cursor.rest.now = record { us = c.annotations.new.cursor.rest.now; noted = c.in_ok-annotations.ensures; modifies = c.modifiers-modifiers.ensures } in
    refused_on (Stopped (IsMember c.args.tokens.now c.args.class)) _ _ _ c.from_residual-in_err-expect_stop-2.result (c.from_residual-in_err-expect_stop-2.ensures.1) (c.in_err-expect_stop-2.ensures.stops.0)
    (method_goes_on c.args.tokens.now c.args.class l (c.if-begins_method.ensures) (c.if-begins_constructor.ensures) (c.in_ok-method.ensures) (c.in_err-expect_stop-2.ensures.stops.1))

pub returns-then-begins_method : goal.returns-then-begins_method
returns-then-begins_method c =
    let l : Led c.args.tokens.now c.in_ok-annotations.annotations c.modifiers-modifiers.result c.args.cursor.now.rest.now c.modifiers-modifiers.new.cursor.rest.now = record { us = c.annotations.new.cursor.rest.now; noted = c.in_ok-annotations.ensures; modifies = c.modifiers-modifiers.ensures } in
    stopped_at (IsMember c.args.tokens.now c.args.class) (c.in_ok-expect_stop-2.ensures.same) (a_method (method_here c.args.tokens.now l (c.in_ok-method.ensures))) (c.in_ok-expect_stop-2.ensures.stops)

pub returns-in_err-written : goal.returns-in_err-written
returns-in_err-written c =
    let l : Led c.args.tokens.now c.in_ok-annotations.annotations c.modifiers-modifiers.result c.args.cursor.now.rest.now c.modifiers-modifiers.new.cursor.rest.now = record { us = c.annotations.new.cursor.rest.now; noted = c.in_ok-annotations.ensures; modifies = c.modifiers-modifiers.ensures } in
    passed_on_exactly (IsVarType c.args.tokens.now) (Stopped (IsMember c.args.tokens.now c.args.class)) _ _ _ _ c.from_residual-in_err-written.result (c.from_residual-in_err-written.ensures.1)
    (no_field_type c.args.tokens.now c.args.class l (c.if-begins_method.ensures) (c.if-begins_constructor.ensures)) (c.in_err-written.ensures c.args.tokens.now)

pub returns-in_err-vars : goal.returns-in_err-vars
returns-in_err-vars c =
    let l : Led c.args.tokens.now c.in_ok-annotations.annotations c.modifiers-modifiers.result c.args.cursor.now.rest.now c.modifiers-modifiers.new.cursor.rest.now = record { us = c.annotations.new.cursor.rest.now; noted = c.in_ok-annotations.ensures; modifies = c.modifiers-modifiers.ensures } in
    passed_on_exactly (Stopped (AreVars c.args.tokens.now)) (Stopped (IsMember c.args.tokens.now c.args.class)) _ _ _ _ c.from_residual-in_err-vars.result (c.from_residual-in_err-vars.ensures.1)
    (no_field_vars c.args.tokens.now c.args.class l (c.if-begins_method.ensures) (c.if-begins_constructor.ensures) (c.in_ok-written.ensures c.args.tokens.now)) (c.in_err-vars.ensures)

pub returns : goal.returns
returns c =
    let l : Led c.args.tokens.now c.in_ok-annotations.annotations c.modifiers-modifiers.result c.args.cursor.now.rest.now c.modifiers-modifiers.new.cursor.rest.now = record { us = c.annotations.new.cursor.rest.now; noted = c.in_ok-annotations.ensures; modifies = c.modifiers-modifiers.ensures } in
    field_here c.args.tokens.now c.args.class l (c.in_ok-written.ensures c.args.tokens.now) (c.in_ok-vars.ensures)
