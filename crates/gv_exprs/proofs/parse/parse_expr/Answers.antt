use Rattle.std.proofs.Common.{◌≡◌, ℕ, ◌+◌, ◌-◌, ◌≤◌, List, length, drop, ap, arith, rules, subst, sym, ◌∙◌, Option, Some, None, refl}
use Rattle.std.specs.Option.{option_map}
use Rattle.std.proofs.lemmas.List.{drop-drop, length-drop}
use Rattle.gv_base.specs.declared.refusal.Place.{Place}
use Rattle.gv_lex.specs.declared.token.Token.{Token}
use Rattle.gv_lines.specs.Loads.{too_deep}
use Rattle.gv_grammar.specs.Phrases.{Takes, Longest}
use Rattle.gv_grammar.specs.Exprs.{IsExpr}
use Rattle.gv_grammar.proofs.Lengths.{of_expr}
use Rattle.gv_exprs.proofs.parse.parse_expr.Goals as goal

-- the place behind what is taken from another place
behind_is : (at : ℕ) {least : ℕ} (tokens : List Token) {rest : List Token} → at ≤ length tokens → Takes least (drop at tokens) rest → rest ≡ drop (length tokens - length rest) tokens
behind_is at tokens {rest = rest} h t =
    let a = t.behind ∙ drop-drop t.count at tokens in
    let b = ap length a in
    let d = length-drop (at + t.count) tokens in
    let e = length-drop at tokens in
    let f = t.within in
    let g : length tokens - length rest ≡ at + t.count = omega arith in
    a ∙ ap (λ n. drop n tokens) (sym g)

none_deep : {place : Option Place} (found : Option Token) → place ≡ option_map (λ (t : Token). t.place) found → place ≡ None → found ≡ None
none_deep None p q = refl
none_deep (Some t) p q = cc

pub returns-in-Ok : goal.returns-in-Ok
returns-in-Ok c =
    let e : c.split_at.result.1.now ≡ drop c.args.at c.args.tokens.now = search rules in
    let l : Longest (IsExpr (length c.args.tokens.now)) c.in-Ok.expr (drop c.args.at c.args.tokens.now) c.read_expr.new.tokens.rest.now = rw (← e) (c.in-Ok.ensures) in
    let b = behind_is c.args.at c.args.tokens.now (omega (arith, c.requires)) (of_expr (length c.args.tokens.now) l.is) in
    record {
      flat = none_deep (too_deep c.args.tokens.now) c.in_ok-place.ensures cc;
      reads = rw c.saturating_sub.ensures (subst (λ zs. Longest (IsExpr (length c.args.tokens.now)) c.in-Ok.expr (drop c.args.at c.args.tokens.now) zs) b l);
    }
