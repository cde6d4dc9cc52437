use Rattle.std.proofs.Common.{◌≡◌, ◌∙◌, sym}
use Rattle.groovy_cli.specs.Program.{Lexes, IsJudged, no_tokens, no_tree, a_refused_tree}
use Rattle.groovy_cli.proofs.Saying.{not_built_said, run_said}
use Rattle.groovy_cli.proofs.answer.script_answer.Goals as goal

pub returns-in-Err-Refused : goal.returns-in-Err-Refused
returns-in-Err-Refused c = rw (c.in-Err-Refused.field-0-is) (no_tokens (rw (c.in-Err-Refused.field-0-is) at c.in-Err-Refused.ensures.refused))

pub returns-in-Err-Refused-parse : goal.returns-in-Err-Refused-parse
returns-in-Err-Refused-parse c =
    let l : Lexes c.args.script.now c.lex.new.names c.in-Ok.tokens.items = record { spelled = c.in-Ok.ensures.tokens; named = c.in-Ok.ensures.named } in
    rw (c.in-Err-Refused-parse.field-0-is) (no_tree l (rw (c.in-Err-Refused-parse.field-0-is, c.as_slice.ensures.value) at c.in-Err-Refused-parse.ensures))

pub returns-in-Err-Refused-canonical : goal.returns-in-Err-Refused-canonical
returns-in-Err-Refused-canonical c =
    let l : Lexes c.args.script.now c.lex.new.names c.in-Ok.tokens.items = record { spelled = c.in-Ok.ensures.tokens; named = c.in-Ok.ensures.named } in
    let t = rw (c.as_slice.ensures.value) at c.in-Ok-parse.ensures in
    rw (c.in-Err-Refused-canonical.field-0-is) (a_refused_tree l t (rw (c.in-Err-Refused-canonical.field-0-is) at c.in-Err-Refused-canonical.ensures))

pub returns-in-None : goal.returns-in-None
returns-in-None c =
    let l : Lexes c.args.script.now c.lex.new.names c.in-Ok.tokens.items = record { spelled = c.in-Ok.ensures.tokens; named = c.in-Ok.ensures.named } in
    let t = rw (c.as_slice.ensures.value) at c.in-Ok-parse.ensures in
    let j = c.in-Ok-canonical.ensures in
    not_built_said c.args.limits c.args.script.now c.lex.new.names c.in_ok-names.names _ c.in-Ok.tokens.items c.in-Ok-parse.tree c.trees.result.now c.in_ok-known.known c.in_ok-bodies.field-0 l t j.0
    (c.in_ok-names.ensures ∙ (c.names-2.ensures ∙ sym j.1)) (c.trees.ensures ∙ sym j.2) (c.in_ok-known.ensures.names) (c.in_ok-known.ensures.known) (c.in_ok-bodies.ensures) _ c.in-None.is c.form_refusal.ensures

pub returns : goal.returns
returns c =
    let l : Lexes c.args.script.now c.lex.new.names c.in-Ok.tokens.items = record { spelled = c.in-Ok.ensures.tokens; named = c.in-Ok.ensures.named } in
    let t = rw (c.as_slice.ensures.value) at c.in-Ok-parse.ensures in
    let j = c.in-Ok-canonical.ensures in
    run_said c.args.limits c.args.script.now c.lex.new.names c.in_ok-names.names _ c.in-Ok.tokens.items c.in-Ok-parse.tree c.trees.result.now c.in_ok-known.known c.in_ok-bodies.field-0 l t j.0
    (c.in_ok-names.ensures ∙ (c.names-2.ensures ∙ sym j.1)) (c.trees.ensures ∙ sym j.2) (c.in_ok-known.ensures.names) (c.in_ok-known.ensures.known) (c.in_ok-bodies.ensures) _ c.in_ok-texts.texts.keys _ c.in-Some.is
    (rw (c.as_slice-2.ensures.value) at c.in_ok-texts.ensures) (c.in_ok-report.ensures)
