use Rattle.gv_grammar.proofs.Single.{along}
use Rattle.gv_grammar.specs.Stmts.{IsForIn, by_in, by_colon}
use Rattle.gv_grammar.proofs.Lengths.{of_as}
use Rattle.gv_decls.specs.Phrases.{IsTyped}
use Rattle.gv_grammar.proofs.StmtLengths.{of_typed, of_for_in}
use Rattle.gv_blocks.proofs.reader.Blocks.for_in.Goals.{then-not-eat_keyword+in_ok-expect-2, else-not-eat_keyword}
use Rattle.gv_spelling.specs.declared.kinds.Symbol.TheVariants as symbol
use Rattle.std.proofs.Common.{◌≡◌, sym, arith, List}
use Rattle.gv_lex.specs.declared.token.Token.{Token}
use Rattle.gv_grammar.specs.Tokens.{Eats}
use Rattle.gv_grammar.specs.Stmts.{IsValue, IsStmt, IsBody}
use Rattle.gv_grammar.proofs.Lengths.{less, of_keyword, of_eats, no_more}
use Rattle.gv_cursor.specs.Reading.{Stopped}
use Rattle.gv_cursor.proofs.Results.{passed_on_exactly, unexpected_on_exactly}
use Rattle.gv_decls.specs.Phrases.{IsName}
use Rattle.gv_grammar.proofs.StmtLengths.{of_value, of_may_line}
use Rattle.gv_blocks.proofs.ForStmts.{no_for_open}
use Rattle.gv_blocks.proofs.ForHeads.{head_of, typed_there, typed_here, name_there, named_here, follows_there, Headed, no_in_value, no_in_close, no_in_body, for_in_here}
use Rattle.gv_blocks.proofs.reader.Blocks.for_in.Goals as goal

pub returns-in_err-expect : goal.returns-in_err-expect
returns-in_err-expect g c = unexpected_on_exactly (Stopped (IsStmt c.args.self.now.values.tokens.now)) (Eats symbol.LeftParen) _ _ _ _ _ c.from_residual-in_err-expect.result (c.from_residual-in_err-expect.ensures.1)
    (λ f. no_for_open c.args.self.now.values.tokens.now (c.in_ok-expect_keyword.ensures) f) (c.in_err-expect.ensures)

pub returns-in_err-written : goal.returns-in_err-written
returns-in_err-written g c = passed_on_exactly (IsTyped c.args.self.now.values.tokens.now) (Stopped (IsStmt c.args.self.now.values.tokens.now)) _ _ _ _ c.from_residual-in_err-written.result (c.from_residual-in_err-written.ensures.1)
    (λ f. absurd (typed_there c.args.self.now.values.tokens.now (head_of c.args.self.now.values.tokens.now (c.requires.head) (c.in_ok-expect_keyword.ensures) (c.in_ok-expect.ensures)) f)) (c.in_err-written.ensures c.args.self.now.values.tokens.now)

pub returns-in_err-ident : goal.returns-in_err-ident
returns-in_err-ident g c = passed_on_exactly (IsName) (Stopped (IsStmt c.args.self.now.values.tokens.now)) _ _ _ _ c.from_residual-in_err-ident.result (c.from_residual-in_err-ident.ensures.1)
    (λ f. absurd (name_there c.args.self.now.values.tokens.now (typed_here c.args.self.now.values.tokens.now (head_of c.args.self.now.values.tokens.now (c.requires.head) (c.in_ok-expect_keyword.ensures) (c.in_ok-expect.ensures)) ((c.in_ok-written.ensures c.args.self.now.values.tokens.now).is)) f)) (c.in_err-ident.ensures)

pub returns-in_err-expect-2 : goal.returns-in_err-expect-2
returns-in_err-expect-2 g c = unexpected_on_exactly (Stopped (IsStmt c.args.self.now.values.tokens.now)) (Eats symbol.Colon) _ _ _ _ _ c.from_residual-in_err-expect-2.result (c.from_residual-in_err-expect-2.ensures.1)
    (λ f. absurd (follows_there c.args.self.now.values.tokens.now (named_here c.args.self.now.values.tokens.now (typed_here c.args.self.now.values.tokens.now (head_of c.args.self.now.values.tokens.now (c.requires.head) (c.in_ok-expect_keyword.ensures) (c.in_ok-expect.ensures)) ((c.in_ok-written.ensures c.args.self.now.values.tokens.now).is)) (c.in_ok-ident.ensures)) (c.if-not-eat_keyword.ensures.0) (c.if-not-eat_keyword.ensures.1) f)) (c.in_err-expect-2.ensures)

pub value-requires-clause-within : goal.value-requires-clause-within
value-requires-clause-within g c =
    let m = (named_here c.args.self.now.values.tokens.now (typed_here c.args.self.now.values.tokens.now (head_of c.args.self.now.values.tokens.now (c.requires.head) (c.in_ok-expect_keyword.ensures) (c.in_ok-expect.ensures)) ((c.in_ok-written.ensures c.args.self.now.values.tokens.now).is)) (c.in_ok-ident.ensures)) in
    let i : IsForIn c.args.self.now.values.tokens.now c.ident.new.cursor.rest.now c.if-not-eat_keyword.cursor.rest.now = elim c.if-not-eat_keyword.branch [
      | then-not-eat_keyword+in_ok-expect-2 w ↦
          let e : c.if-not-eat_keyword.cursor.rest.now ≡ w.expect-then-not-eat_keyword.new.self.rest.now = cc in
          along (λ (zs : List Token). IsForIn c.args.self.now.values.tokens.now c.ident.new.cursor.rest.now zs) e (by_colon (along (λ (zs : List Token). Eats symbol.Colon zs w.expect-then-not-eat_keyword.new.self.rest.now) (sym (w.if-not-eat_keyword.ensures.0)) (w.in_ok-expect-2.ensures)))
      | else-not-eat_keyword w ↦ let e : c.if-not-eat_keyword.cursor.rest.now ≡ c.eat_keyword.new.self.rest.now = cc in along (λ (zs : List Token). IsForIn c.args.self.now.values.tokens.now c.ident.new.cursor.rest.now zs) e (by_in (w.if-not-eat_keyword.ensures))
    ] in
    let a = less (of_keyword (c.in_ok-expect_keyword.ensures)) in let b = less (of_eats (c.in_ok-expect.ensures)) in let d = no_more (of_typed c.args.self.now.values.tokens.now (m.typed)) in let e = less (of_as (m.named)) in let k = less (of_for_in c.args.self.now.values.tokens.now i) in let l = c.requires.within in
    omega arith

pub returns-in_err-value : goal.returns-in_err-value
returns-in_err-value g c =
    let m = (named_here c.args.self.now.values.tokens.now (typed_here c.args.self.now.values.tokens.now (head_of c.args.self.now.values.tokens.now (c.requires.head) (c.in_ok-expect_keyword.ensures) (c.in_ok-expect.ensures)) ((c.in_ok-written.ensures c.args.self.now.values.tokens.now).is)) (c.in_ok-ident.ensures)) in
    let i : IsForIn c.args.self.now.values.tokens.now c.ident.new.cursor.rest.now c.if-not-eat_keyword.cursor.rest.now = elim c.if-not-eat_keyword.branch [
      | then-not-eat_keyword+in_ok-expect-2 w ↦
          let e : c.if-not-eat_keyword.cursor.rest.now ≡ w.expect-then-not-eat_keyword.new.self.rest.now = cc in
          along (λ (zs : List Token). IsForIn c.args.self.now.values.tokens.now c.ident.new.cursor.rest.now zs) e (by_colon (along (λ (zs : List Token). Eats symbol.Colon zs w.expect-then-not-eat_keyword.new.self.rest.now) (sym (w.if-not-eat_keyword.ensures.0)) (w.in_ok-expect-2.ensures)))
      | else-not-eat_keyword w ↦ let e : c.if-not-eat_keyword.cursor.rest.now ≡ c.eat_keyword.new.self.rest.now = cc in along (λ (zs : List Token). IsForIn c.args.self.now.values.tokens.now c.ident.new.cursor.rest.now zs) e (by_in (w.if-not-eat_keyword.ensures))
    ] in
    let h : Headed c.args.self.now.values.tokens.now c.in_ok-written.written c.in_ok-ident.ident c.args.cursor.now.rest.now c.expect.new.self.rest.now c.may_typed.new.cursor.rest.now c.if-not-eat_keyword.cursor.rest.now =
    record { us = c.expect_keyword.new.self.rest.now; xs = c.ident.new.cursor.rest.now; n = m.n; no_parts = c.requires.parts; word = c.in_ok-expect_keyword.ensures; opened = c.in_ok-expect.ensures; typed = m.typed; named = m.named; is_name = m.is_name; follows = i } in
    passed_on_exactly (Stopped (IsValue c.args.self.now.values.tokens.now)) (Stopped (IsStmt c.args.self.now.values.tokens.now)) _ _ _ _ c.from_residual-in_err-value.result (c.from_residual-in_err-value.ensures.1)
    (λ f. no_in_value c.args.self.now.values.tokens.now h f) (c.in_err-value.ensures)

pub returns-in_err-expect-3 : goal.returns-in_err-expect-3
returns-in_err-expect-3 g c =
    let m = (named_here c.args.self.now.values.tokens.now (typed_here c.args.self.now.values.tokens.now (head_of c.args.self.now.values.tokens.now (c.requires.head) (c.in_ok-expect_keyword.ensures) (c.in_ok-expect.ensures)) ((c.in_ok-written.ensures c.args.self.now.values.tokens.now).is)) (c.in_ok-ident.ensures)) in
    let i : IsForIn c.args.self.now.values.tokens.now c.ident.new.cursor.rest.now c.if-not-eat_keyword.cursor.rest.now = elim c.if-not-eat_keyword.branch [
      | then-not-eat_keyword+in_ok-expect-2 w ↦
          let e : c.if-not-eat_keyword.cursor.rest.now ≡ w.expect-then-not-eat_keyword.new.self.rest.now = cc in
          along (λ (zs : List Token). IsForIn c.args.self.now.values.tokens.now c.ident.new.cursor.rest.now zs) e (by_colon (along (λ (zs : List Token). Eats symbol.Colon zs w.expect-then-not-eat_keyword.new.self.rest.now) (sym (w.if-not-eat_keyword.ensures.0)) (w.in_ok-expect-2.ensures)))
      | else-not-eat_keyword w ↦ let e : c.if-not-eat_keyword.cursor.rest.now ≡ c.eat_keyword.new.self.rest.now = cc in along (λ (zs : List Token). IsForIn c.args.self.now.values.tokens.now c.ident.new.cursor.rest.now zs) e (by_in (w.if-not-eat_keyword.ensures))
    ] in
    let h : Headed c.args.self.now.values.tokens.now c.in_ok-written.written c.in_ok-ident.ident c.args.cursor.now.rest.now c.expect.new.self.rest.now c.may_typed.new.cursor.rest.now c.if-not-eat_keyword.cursor.rest.now =
    record { us = c.expect_keyword.new.self.rest.now; xs = c.ident.new.cursor.rest.now; n = m.n; no_parts = c.requires.parts; word = c.in_ok-expect_keyword.ensures; opened = c.in_ok-expect.ensures; typed = m.typed; named = m.named; is_name = m.is_name; follows = i } in
    unexpected_on_exactly (Stopped (IsStmt c.args.self.now.values.tokens.now)) (Eats symbol.RightParen) _ _ _ _ _ c.from_residual-in_err-expect-3.result (c.from_residual-in_err-expect-3.ensures.1)
    (λ f. no_in_close c.args.self.now.values.tokens.now h (c.in_ok-value.ensures) f) (c.in_err-expect-3.ensures)

pub body_stmt-requires-clause-shorter : goal.body_stmt-requires-clause-shorter
body_stmt-requires-clause-shorter g c =
    let m = (named_here c.args.self.now.values.tokens.now (typed_here c.args.self.now.values.tokens.now (head_of c.args.self.now.values.tokens.now (c.requires.head) (c.in_ok-expect_keyword.ensures) (c.in_ok-expect.ensures)) ((c.in_ok-written.ensures c.args.self.now.values.tokens.now).is)) (c.in_ok-ident.ensures)) in
    let i : IsForIn c.args.self.now.values.tokens.now c.ident.new.cursor.rest.now c.if-not-eat_keyword.cursor.rest.now = elim c.if-not-eat_keyword.branch [
      | then-not-eat_keyword+in_ok-expect-2 w ↦
          let e : c.if-not-eat_keyword.cursor.rest.now ≡ w.expect-then-not-eat_keyword.new.self.rest.now = cc in
          along (λ (zs : List Token). IsForIn c.args.self.now.values.tokens.now c.ident.new.cursor.rest.now zs) e (by_colon (along (λ (zs : List Token). Eats symbol.Colon zs w.expect-then-not-eat_keyword.new.self.rest.now) (sym (w.if-not-eat_keyword.ensures.0)) (w.in_ok-expect-2.ensures)))
      | else-not-eat_keyword w ↦ let e : c.if-not-eat_keyword.cursor.rest.now ≡ c.eat_keyword.new.self.rest.now = cc in along (λ (zs : List Token). IsForIn c.args.self.now.values.tokens.now c.ident.new.cursor.rest.now zs) e (by_in (w.if-not-eat_keyword.ensures))
    ] in
    let a = less (of_keyword (c.in_ok-expect_keyword.ensures)) in let b = less (of_eats (c.in_ok-expect.ensures)) in let d = no_more (of_typed c.args.self.now.values.tokens.now (m.typed)) in let e = less (of_as (m.named)) in let k = less (of_for_in c.args.self.now.values.tokens.now i) in let l = c.requires.within in
    let o = less (of_value c.args.self.now.values.tokens.now (c.in_ok-value.ensures.is)) in let q = less (of_eats (c.in_ok-expect-3.ensures)) in let r = no_more (of_may_line (c.may_line.ensures)) in omega arith

pub returns-in_err-body_stmt : goal.returns-in_err-body_stmt
returns-in_err-body_stmt g c =
    let m = (named_here c.args.self.now.values.tokens.now (typed_here c.args.self.now.values.tokens.now (head_of c.args.self.now.values.tokens.now (c.requires.head) (c.in_ok-expect_keyword.ensures) (c.in_ok-expect.ensures)) ((c.in_ok-written.ensures c.args.self.now.values.tokens.now).is)) (c.in_ok-ident.ensures)) in
    let i : IsForIn c.args.self.now.values.tokens.now c.ident.new.cursor.rest.now c.if-not-eat_keyword.cursor.rest.now = elim c.if-not-eat_keyword.branch [
      | then-not-eat_keyword+in_ok-expect-2 w ↦
          let e : c.if-not-eat_keyword.cursor.rest.now ≡ w.expect-then-not-eat_keyword.new.self.rest.now = cc in
          along (λ (zs : List Token). IsForIn c.args.self.now.values.tokens.now c.ident.new.cursor.rest.now zs) e (by_colon (along (λ (zs : List Token). Eats symbol.Colon zs w.expect-then-not-eat_keyword.new.self.rest.now) (sym (w.if-not-eat_keyword.ensures.0)) (w.in_ok-expect-2.ensures)))
      | else-not-eat_keyword w ↦ let e : c.if-not-eat_keyword.cursor.rest.now ≡ c.eat_keyword.new.self.rest.now = cc in along (λ (zs : List Token). IsForIn c.args.self.now.values.tokens.now c.ident.new.cursor.rest.now zs) e (by_in (w.if-not-eat_keyword.ensures))
    ] in
    let h : Headed c.args.self.now.values.tokens.now c.in_ok-written.written c.in_ok-ident.ident c.args.cursor.now.rest.now c.expect.new.self.rest.now c.may_typed.new.cursor.rest.now c.if-not-eat_keyword.cursor.rest.now =
    record { us = c.expect_keyword.new.self.rest.now; xs = c.ident.new.cursor.rest.now; n = m.n; no_parts = c.requires.parts; word = c.in_ok-expect_keyword.ensures; opened = c.in_ok-expect.ensures; typed = m.typed; named = m.named; is_name = m.is_name; follows = i } in
    passed_on_exactly (Stopped (IsBody c.args.self.now.values.tokens.now)) (Stopped (IsStmt c.args.self.now.values.tokens.now)) _ _ _ _ c.from_residual-in_err-body_stmt.result (c.from_residual-in_err-body_stmt.ensures.1)
    (λ f. no_in_body c.args.self.now.values.tokens.now h (c.in_ok-value.ensures) (c.in_ok-expect-3.ensures) (c.may_line.ensures) f) (c.in_err-body_stmt.ensures)

pub returns : goal.returns
returns g c =
    let m = (named_here c.args.self.now.values.tokens.now (typed_here c.args.self.now.values.tokens.now (head_of c.args.self.now.values.tokens.now (c.requires.head) (c.in_ok-expect_keyword.ensures) (c.in_ok-expect.ensures)) ((c.in_ok-written.ensures c.args.self.now.values.tokens.now).is)) (c.in_ok-ident.ensures)) in
    let i : IsForIn c.args.self.now.values.tokens.now c.ident.new.cursor.rest.now c.if-not-eat_keyword.cursor.rest.now = elim c.if-not-eat_keyword.branch [
      | then-not-eat_keyword+in_ok-expect-2 w ↦
          let e : c.if-not-eat_keyword.cursor.rest.now ≡ w.expect-then-not-eat_keyword.new.self.rest.now = cc in
          along (λ (zs : List Token). IsForIn c.args.self.now.values.tokens.now c.ident.new.cursor.rest.now zs) e (by_colon (along (λ (zs : List Token). Eats symbol.Colon zs w.expect-then-not-eat_keyword.new.self.rest.now) (sym (w.if-not-eat_keyword.ensures.0)) (w.in_ok-expect-2.ensures)))
      | else-not-eat_keyword w ↦ let e : c.if-not-eat_keyword.cursor.rest.now ≡ c.eat_keyword.new.self.rest.now = cc in along (λ (zs : List Token). IsForIn c.args.self.now.values.tokens.now c.ident.new.cursor.rest.now zs) e (by_in (w.if-not-eat_keyword.ensures))
    ] in
    let h : Headed c.args.self.now.values.tokens.now c.in_ok-written.written c.in_ok-ident.ident c.args.cursor.now.rest.now c.expect.new.self.rest.now c.may_typed.new.cursor.rest.now c.if-not-eat_keyword.cursor.rest.now =
    record { us = c.expect_keyword.new.self.rest.now; xs = c.ident.new.cursor.rest.now; n = m.n; no_parts = c.requires.parts; word = c.in_ok-expect_keyword.ensures; opened = c.in_ok-expect.ensures; typed = m.typed; named = m.named; is_name = m.is_name; follows = i } in
    rw (c.place-place.ensures, c.in_ok-value-2.ensures, c.in_ok-body.ensures) (for_in_here c.args.self.now.values.tokens.now h (c.in_ok-value.ensures) (c.in_ok-expect-3.ensures) (c.may_line.ensures) (c.in_ok-body_stmt.ensures))
