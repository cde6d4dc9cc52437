use Rattle.gv_spelling.specs.declared.kinds.Keyword.TheVariants as keyword
use Rattle.gv_spelling.specs.declared.kinds.Symbol.TheVariants as symbol
use Rattle.gv_grammar.specs.Tokens.{Eats}
use Rattle.gv_grammar.specs.Scripts.{MayName, AreMembers}
use Rattle.gv_cursor.proofs.Results.{passed_on_exactly, unexpected_on_exactly}
use Rattle.gv_stmts.specs.Members.{IsTypeName, GoesClass}
use Rattle.gv_stmts.proofs.Routines.{UpToName, UpToSuper, UpToInterface, class_goes, no_class_name, no_class_super, no_class_interface, no_class_brace, no_class_members}
use Rattle.gv_stmts.proofs.classes.class.Goals as goal

pub returns-in_err-ident : goal.returns-in_err-ident
returns-in_err-ident c = passed_on_exactly IsTypeName (GoesClass c.args.tokens.now c.args.annotations c.args.modifiers) _ _ _ _ c.from_residual-in_err-ident.result (c.from_residual-in_err-ident.ensures.1)
    (no_class_name c.args.tokens.now c.args.annotations c.args.modifiers (c.in_ok-expect_keyword.ensures)) (c.in_err-ident.ensures)

pub returns-in_err-superclass : goal.returns-in_err-superclass
returns-in_err-superclass c =
    let n : UpToName c.args.tokens.now c.args.annotations c.args.modifiers c.in_ok-ident.ident c.args.cursor.now.rest.now c.type_name.new.cursor.rest.now = record { us = c.expect_keyword.new.self.rest.now; class = c.in_ok-expect_keyword.ensures; name = c.in_ok-ident.ensures } in
    passed_on_exactly (MayName keyword.Extends) (GoesClass c.args.tokens.now c.args.annotations c.args.modifiers) _ _ _ _ c.from_residual-in_err-superclass.result (c.from_residual-in_err-superclass.ensures.1)
    (no_class_super c.args.tokens.now c.args.annotations c.args.modifiers n) (c.in_err-superclass.ensures)

pub returns-in_err-interface : goal.returns-in_err-interface
returns-in_err-interface c =
    let n : UpToName c.args.tokens.now c.args.annotations c.args.modifiers c.in_ok-ident.ident c.args.cursor.now.rest.now c.type_name.new.cursor.rest.now = record { us = c.expect_keyword.new.self.rest.now; class = c.in_ok-expect_keyword.ensures; name = c.in_ok-ident.ensures } in
    let s : UpToSuper c.args.tokens.now c.args.annotations c.args.modifiers c.in_ok-ident.ident c.args.cursor.now.rest.now c.may_name.new.cursor.rest.now = record { vs = c.type_name.new.cursor.rest.now; named = n; super = c.in_ok-superclass.superclass; extended = c.in_ok-superclass.ensures } in
    passed_on_exactly (MayName keyword.Implements) (GoesClass c.args.tokens.now c.args.annotations c.args.modifiers) _ _ _ _ c.from_residual-in_err-interface.result (c.from_residual-in_err-interface.ensures.1)
    (no_class_interface c.args.tokens.now c.args.annotations c.args.modifiers s) (c.in_err-interface.ensures)

pub returns-in_err-expect : goal.returns-in_err-expect
returns-in_err-expect c =
    let n : UpToName c.args.tokens.now c.args.annotations c.args.modifiers c.in_ok-ident.ident c.args.cursor.now.rest.now c.type_name.new.cursor.rest.now = record { us = c.expect_keyword.new.self.rest.now; class = c.in_ok-expect_keyword.ensures; name = c.in_ok-ident.ensures } in
    let s : UpToSuper c.args.tokens.now c.args.annotations c.args.modifiers c.in_ok-ident.ident c.args.cursor.now.rest.now c.may_name.new.cursor.rest.now = record { vs = c.type_name.new.cursor.rest.now; named = n; super = c.in_ok-superclass.superclass; extended = c.in_ok-superclass.ensures } in
    let i : UpToInterface c.args.tokens.now c.args.annotations c.args.modifiers c.in_ok-ident.ident c.args.cursor.now.rest.now c.may_name-2.new.cursor.rest.now = record { ws = c.may_name.new.cursor.rest.now; upto = s; interface = c.in_ok-interface.interface; implemented = c.in_ok-interface.ensures } in
    unexpected_on_exactly (GoesClass c.args.tokens.now c.args.annotations c.args.modifiers) (Eats symbol.LeftBrace) _ _ _ _ _ c.from_residual-in_err-expect.result (c.from_residual-in_err-expect.ensures.1)
    (no_class_brace c.args.tokens.now c.args.annotations c.args.modifiers i c.may_line.ensures) (c.in_err-expect.ensures)

pub returns-in_err-members : goal.returns-in_err-members
returns-in_err-members c =
    let n : UpToName c.args.tokens.now c.args.annotations c.args.modifiers c.in_ok-ident.ident c.args.cursor.now.rest.now c.type_name.new.cursor.rest.now = record { us = c.expect_keyword.new.self.rest.now; class = c.in_ok-expect_keyword.ensures; name = c.in_ok-ident.ensures } in
    let s : UpToSuper c.args.tokens.now c.args.annotations c.args.modifiers c.in_ok-ident.ident c.args.cursor.now.rest.now c.may_name.new.cursor.rest.now = record { vs = c.type_name.new.cursor.rest.now; named = n; super = c.in_ok-superclass.superclass; extended = c.in_ok-superclass.ensures } in
    let i : UpToInterface c.args.tokens.now c.args.annotations c.args.modifiers c.in_ok-ident.ident c.args.cursor.now.rest.now c.may_name-2.new.cursor.rest.now = record { ws = c.may_name.new.cursor.rest.now; upto = s; interface = c.in_ok-interface.interface; implemented = c.in_ok-interface.ensures } in
    passed_on_exactly (AreMembers c.args.tokens.now c.in_ok-ident.ident.name) (GoesClass c.args.tokens.now c.args.annotations c.args.modifiers) _ _ _ _ c.from_residual-in_err-members.result (c.from_residual-in_err-members.ensures.1)
    (no_class_members c.args.tokens.now c.args.annotations c.args.modifiers (record { xs = c.may_name-2.new.cursor.rest.now; ys = c.may_line.new.cursor.rest.now; upto = i; line = c.may_line.ensures; brace = c.in_ok-expect.ensures })) (c.in_err-members.ensures)

pub returns : goal.returns
returns c = class_goes c.args.tokens.now c.args.annotations c.args.modifiers (c.in_ok-expect_keyword.ensures) (c.in_ok-ident.ensures) (c.in_ok-superclass.ensures) (c.in_ok-interface.ensures) c.may_line.ensures (c.in_ok-expect.ensures) (c.in_ok-members.ensures)
