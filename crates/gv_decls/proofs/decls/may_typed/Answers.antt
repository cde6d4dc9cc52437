use Rattle.std.proofs.Common.{◌≡◌, ◌≢◌, ◌∙◌, true, false, ap, drop, sym, Some, None, inl, inr, ◌⊎◌}
use Rattle.gv_spelling.specs.declared.kinds.Symbol.TheVariants as symbol
use Rattle.gv_lex.specs.declared.token.TokenKind.TheVariants as kind
use Rattle.gv_grammar.specs.Tokens.{kind_of, place_of, type_of}
use Rattle.gv_grammar.specs.Stmts.{is_name_token}
use Rattle.gv_decls.proofs.Declarations.{def_typed, rest_typed, type_typed, untyped_here, not_typed, NoTypeHere}
use Rattle.gv_decls.proofs.decls.may_typed.Goals.{in-Some+else-is_ellipsis+else-is_name_token, in_default, then-is_name_token-2+else-not-is_ellipsis, else-is_name_token-2}
use Rattle.gv_decls.proofs.decls.may_typed.Goals as goal

pub returns-then-eat_keyword : goal.returns-then-eat_keyword
returns-then-eat_keyword c = λ tokens. def_typed tokens (c.if-eat_keyword.ensures)

pub returns-then-is_ellipsis : goal.returns-then-is_ellipsis
returns-then-is_ellipsis c = λ tokens.
    let e = c.if-eat_keyword.ensures.0 in
    let p : type_of (place_of c.args.cursor.now.rest.now) (kind_of c.args.cursor.now.rest.now) ≡ Some c.in-Some.written = cc in
    let q : kind_of (drop 1 c.args.cursor.now.rest.now) ≡ kind.Symbol symbol.Ellipsis = ap (λ zs. kind_of (drop 1 zs)) (sym e) ∙ (sym c.kind_behind.ensures ∙ c.if-is_ellipsis.ensures) in
    rw (c.advance-then-is_ellipsis.ensures, c.advance.ensures, c.if-eat_keyword.ensures.0) (rest_typed tokens _ p q)

pub returns-then-is_name_token : goal.returns-then-is_name_token
returns-then-is_name_token c = λ tokens.
    let e = c.if-eat_keyword.ensures.0 in
    let p : type_of (place_of c.args.cursor.now.rest.now) (kind_of c.args.cursor.now.rest.now) ≡ Some c.in-Some.written = cc in
    let q : is_name_token (kind_of (drop 1 c.args.cursor.now.rest.now)) ≡ true = cc in
    rw (c.advance-then-is_name_token.ensures, c.if-eat_keyword.ensures.0) (type_typed tokens _ p q)

pub returns-then-not-is_ellipsis : goal.returns-then-not-is_ellipsis
returns-then-not-is_ellipsis c = λ tokens.
    let e = c.if-eat_keyword.ensures.0 in
    let n : is_name_token (kind_of c.args.cursor.now.rest.now) ≡ true = cc in
    let f : kind_of (drop 1 c.args.cursor.now.rest.now) ≢ kind.Symbol symbol.Ellipsis = λ h. c.if-not-is_ellipsis.ensures (c.kind_behind-then-is_name_token-2.ensures ∙ (ap (λ zs. kind_of (drop 1 zs)) e ∙ h)) in
    let t : NoTypeHere c.args.cursor.now.rest.now = elim c.match-type_of.branch [
      | in-Some+else-is_ellipsis+else-is_name_token w ↦ let q : is_name_token (kind_of (drop 1 c.args.cursor.now.rest.now)) ≡ false = cc in inr (f, q)
      | in_default w ↦ let p : type_of (place_of c.args.cursor.now.rest.now) (kind_of c.args.cursor.now.rest.now) ≡ None = cc in inl p
    ] in
    rw (c.if-eat_keyword.ensures.0) (untyped_here tokens _ n t f)

pub returns : goal.returns
returns c = λ tokens.
    let e = c.if-eat_keyword.ensures.0 in
    let n : (is_name_token (kind_of c.args.cursor.now.rest.now) ≡ false) ⊎ (kind_of (drop 1 c.args.cursor.now.rest.now) ≡ kind.Symbol symbol.Ellipsis) = elim c.if-is_name_token-2.branch [
      | then-is_name_token-2+else-not-is_ellipsis w ↦ inr (ap (λ zs. kind_of (drop 1 zs)) (sym e) ∙ (sym w.kind_behind-then-is_name_token-2.ensures ∙ w.if-not-is_ellipsis.ensures))
      | else-is_name_token-2 w ↦ let k : is_name_token (kind_of c.args.cursor.now.rest.now) ≡ false = cc in inl k
    ] in
    let t : NoTypeHere c.args.cursor.now.rest.now = elim c.match-type_of.branch [
      | in-Some+else-is_ellipsis+else-is_name_token w ↦
          let q : is_name_token (kind_of (drop 1 c.args.cursor.now.rest.now)) ≡ false = cc in
          inr ((λ h. w.if-is_ellipsis.ensures (w.kind_behind.ensures ∙ (ap (λ zs. kind_of (drop 1 zs)) e ∙ h))), q)
      | in_default w ↦ let p : type_of (place_of c.args.cursor.now.rest.now) (kind_of c.args.cursor.now.rest.now) ≡ None = cc in inl p
    ] in
    rw (c.refuse.ensures.0) (not_typed tokens (c.if-eat_keyword.ensures.1) t n)
