use Rattle.std.proofs.Common.{◌≡◌, [], refl, sym, subst}
use Rattle.gv_tree.specs.declared.top.Top.TheVariants as top
use Rattle.gv_grammar.specs.Stmts.{IsDecl, IsStmt}
use Rattle.gv_grammar.specs.Scripts.{AreAnnotations, IsImport, IsTop, top_class, top_method}
use Rattle.gv_cursor.specs.Reading.{Stopped}
use Rattle.gv_cursor.proofs.Results.{passed_on_exactly, refused_on}
use Rattle.gv_stmts.specs.Members.{GoesMethod, GoesClass}
use Rattle.gv_stmts.proofs.MemberPhrases.{Led, method_here, stopped_at}
use Rattle.gv_stmts.proofs.TopPhrases.{no_import, import_here, no_top_notes, class_here, no_class, class_goes_on, no_method, method_goes_on, no_stmt_here, stmt_here, no_decl_here, decl_here}
use Rattle.gv_stmts.proofs.script.top.Goals as goal

pub returns-in_err-import : goal.returns-in_err-import
returns-in_err-import c = passed_on_exactly (Stopped IsImport) (Stopped (IsTop c.args.tokens.now)) _ _ _ _ c.from_residual.result (c.from_residual.ensures.1) (no_import c.args.tokens.now (c.if-sees_keyword.ensures.1)) (c.in_err-import.ensures)

pub returns-then-sees_keyword : goal.returns-then-sees_keyword
returns-then-sees_keyword c = import_here c.args.tokens.now (c.in_ok-import.ensures)

pub returns-in_err-annotations : goal.returns-in_err-annotations
returns-in_err-annotations c = passed_on_exactly (AreAnnotations c.args.tokens.now) (Stopped (IsTop c.args.tokens.now)) _ _ _ _ c.from_residual-in_err-annotations.result (c.from_residual-in_err-annotations.ensures.1)
    (no_top_notes c.args.tokens.now (c.if-sees_keyword.ensures)) (c.in_err-annotations.ensures)

pub returns-in_err-class : goal.returns-in_err-class
returns-in_err-class c =
    let l : Led c.args.tokens.now c.in_ok-annotations.annotations c.modifiers-modifiers.result c.args.cursor.now.rest.now c.modifiers-modifiers.new.cursor.rest.now = record { us = c.annotations.new.cursor.rest.now; noted = c.in_ok-annotations.ensures; modifies = c.modifiers-modifiers.ensures } in
    passed_on_exactly (GoesClass c.args.tokens.now c.in_ok-annotations.annotations c.modifiers-modifiers.result) (Stopped (IsTop c.args.tokens.now)) _ _ _ _ c.from_residual-in_err-class.result (c.from_residual-in_err-class.ensures.1)
    (no_class c.args.tokens.now (c.if-sees_keyword.ensures) l (c.if-sees_keyword-2.ensures.1)) (c.in_err-class.ensures)

pub returns-in_err-expect_stop : goal.returns-in_err-expect_stop
returns-in_err-expect_stop c =
    let l : Led c.args.tokens.now c.in_ok-annotations.annotations c.modifiers-modifiers.result c.args.cursor.now.rest.now c.modifiers-modifiers.new.cursor.rest.now = record { us = c.annotations.new.cursor.rest.now; noted = c.in_ok-annotations.ensures; modifies = c.modifiers-modifiers.ensures } in
    refused_on (Stopped (IsTop c.args.tokens.now)) _ _ _ c.from_residual-in_err-expect_stop.result (c.from_residual-in_err-expect_stop.ensures.1) (c.in_err-expect_stop.ensures.stops.0)
    (class_goes_on c.args.tokens.now (c.if-sees_keyword.ensures) l (c.if-sees_keyword-2.ensures.1) (c.in_ok-class.ensures) (c.in_err-expect_stop.ensures.stops.1))

pub returns-then-sees_keyword-2 : goal.returns-then-sees_keyword-2
returns-then-sees_keyword-2 c =
    let l : Led c.args.tokens.now c.in_ok-annotations.annotations c.modifiers-modifiers.result c.args.cursor.now.rest.now c.modifiers-modifiers.new.cursor.rest.now = record { us = c.annotations.new.cursor.rest.now; noted = c.in_ok-annotations.ensures; modifies = c.modifiers-modifiers.ensures } in
    stopped_at (IsTop c.args.tokens.now) (c.in_ok-expect_stop.ensures.same) (top_class (class_here c.args.tokens.now l (c.in_ok-class.ensures))) (c.in_ok-expect_stop.ensures.stops)

pub returns-in_err-method : goal.returns-in_err-method
returns-in_err-method c =
    let l : Led c.args.tokens.now c.in_ok-annotations.annotations c.modifiers-modifiers.result c.args.cursor.now.rest.now c.modifiers-modifiers.new.cursor.rest.now = record { us = c.annotations.new.cursor.rest.now; noted = c.in_ok-annotations.ensures; modifies = c.modifiers-modifiers.ensures } in
    passed_on_exactly (GoesMethod c.args.tokens.now c.in_ok-annotations.annotations c.modifiers-modifiers.result) (Stopped (IsTop c.args.tokens.now)) _ _ _ _ c.from_residual-in_err-method.result (c.from_residual-in_err-method.ensures.1)
    (no_method c.args.tokens.now (c.if-sees_keyword.ensures) l (c.if-begins_method.ensures)) (c.in_err-method.ensures)

pub returns-in_err-expect_stop-2 : goal.returns-in_err-expect_stop-2
returns-in_err-expect_stop-2 c =
    let l : Led c.args.tokens.now c.in_ok-annotations.annotations c.modifiers-modifiers.result c.args.cursor.now.rest.now c.modifiers-modifiers.new.cursor.rest.now = record { us = c.annotations.new.cursor.rest.now; noted = c.in_ok-annotations.ensures; modifies = c.modifiers-modifiers.ensures } in
    refused_on (Stopped (IsTop c.args.tokens.now)) _ _ _ c.from_residual-in_err-expect_stop-2.result (c.from_residual-in_err-expect_stop-2.ensures.1) (c.in_err-expect_stop-2.ensures.stops.0)
    (method_goes_on c.args.tokens.now (c.if-sees_keyword.ensures) l (c.if-begins_method.ensures) (c.in_ok-method.ensures) (c.in_err-expect_stop-2.ensures.stops.1))

pub returns-then-begins_method : goal.returns-then-begins_method
returns-then-begins_method c =
    let l : Led c.args.tokens.now c.in_ok-annotations.annotations c.modifiers-modifiers.result c.args.cursor.now.rest.now c.modifiers-modifiers.new.cursor.rest.now = record { us = c.annotations.new.cursor.rest.now; noted = c.in_ok-annotations.ensures; modifies = c.modifiers-modifiers.ensures } in
    stopped_at (IsTop c.args.tokens.now) (c.in_ok-expect_stop-2.ensures.same) (top_method (method_here c.args.tokens.now l (c.in_ok-method.ensures))) (c.in_ok-expect_stop-2.ensures.stops)

pub returns-in_err-read_stmt : goal.returns-in_err-read_stmt
returns-in_err-read_stmt c =
    let l : Led c.args.tokens.now c.in_ok-annotations.annotations c.modifiers-modifiers.result c.args.cursor.now.rest.now c.modifiers-modifiers.new.cursor.rest.now = record { us = c.annotations.new.cursor.rest.now; noted = c.in_ok-annotations.ensures; modifies = c.modifiers-modifiers.ensures } in
    let v = c.annotations-2.view_is in
    let h = c.if-is_empty.ensures.0 refl in
    let e : c.in_ok-annotations.annotations ≡ [] = cc in
    passed_on_exactly (Stopped (IsStmt c.args.tokens.now)) (Stopped (IsTop c.args.tokens.now)) _ _ _ _ c.from_residual-in_err-read_stmt.result (c.from_residual-in_err-read_stmt.ensures.1)
    (no_stmt_here c.args.tokens.now (c.if-sees_keyword.ensures) l (c.if-sees_keyword-2.ensures) (c.if-begins_method.ensures) e) (c.in_err-read_stmt.ensures)

pub returns-then-is_empty : goal.returns-then-is_empty
returns-then-is_empty c = stmt_here c.args.tokens.now (c.in_ok-read_stmt.ensures)

pub returns-in_err-read_decl : goal.returns-in_err-read_decl
returns-in_err-read_decl c =
    let l : Led c.args.tokens.now c.in_ok-annotations.annotations c.modifiers-modifiers.result c.args.cursor.now.rest.now c.modifiers-modifiers.new.cursor.rest.now = record { us = c.annotations.new.cursor.rest.now; noted = c.in_ok-annotations.ensures; modifies = c.modifiers-modifiers.ensures } in
    passed_on_exactly (Stopped (IsDecl c.args.tokens.now)) (Stopped (IsTop c.args.tokens.now)) _ _ _ _ c.from_residual-in_err-read_decl.result (c.from_residual-in_err-read_decl.ensures.1)
    (no_decl_here c.args.tokens.now (c.if-sees_keyword.ensures) l (c.if-sees_keyword-2.ensures) (c.if-begins_method.ensures) (λ h. let v = c.annotations-2.view_is in let x = c.if-is_empty.ensures.1 cc in cc)) (c.in_err-read_decl.ensures)

pub returns : goal.returns
returns c =
    let e : c.annotations-2.inside.items.items ≡ c.in_ok-annotations.annotations = c.annotations-2.view_is in
    subst (λ ns. Stopped (IsTop c.args.tokens.now) (top.Decl ns c.in_ok-read_decl.field-0) c.args.cursor.now.rest.now c.read_decl.new.cursor.rest.now) (sym e)
    (decl_here c.args.tokens.now c.in_ok-annotations.annotations (λ h. let v = c.annotations-2.view_is in let x = c.if-is_empty.ensures.1 cc in cc) (c.in_ok-annotations.ensures) (c.in_ok-read_decl.ensures))
