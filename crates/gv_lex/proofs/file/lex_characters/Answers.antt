use Rattle.std.proofs.Common.{◌≡◌, ◌<◌, ◌-◌, ◌∙◌, length, ap, rules, length-drop}
use Rattle.std.proofs.lemmas.Result.{IfOk-weaker, IfErr-weaker}
use Rattle.gv_lex.specs.Lexing.{reading_of}
use Rattle.gv_lex.proofs.Told.{keeps_itself, keeps_more}
use Rattle.gv_lex.proofs.Turning.{completes-turn, completes-end}
use Rattle.gv_lex.proofs.file.lex_characters.Goals as goal

pub turns-preserved : goal.turns-preserved
turns-preserved c =
    let text = c.turns.rest.now in
    let rest = c.split_at-in-turns.result.1.now in
    let names = c.turns.names in
    let turns = c.in_ok-len.ensures.turns in
    let some : 0 < length text = search rules in
    let left : length rest ≡ length text - c.in_ok-len.len = ap length c.split_at-in-turns.ensures.back ∙ length-drop c.in_ok-len.len text in
    record {
      completes = λ later keeps. completes-turn later c.turns.lexer c.turn.new.self text rest c.in_ok-len.len turns.act (reading_of c.args.file c.args.text.now) some turns.some turns.is_turn
          (turns.follows later keeps) c.split_at-in-turns.ensures.back (c.turns.invariant.completes later (keeps_more names c.turn.new.names later c.in_ok-len.ensures.names keeps));
      names = keeps_more c.args.names.now names c.turn.new.names c.turns.invariant.names c.in_ok-len.ensures.names;
      room = rw left turns.room;
    }

pub returns-clause-tokens : goal.returns-clause-tokens
returns-clause-tokens c =
    let names = c.turns.names in
    let whole = reading_of c.args.file c.args.text.now in
    let none : length c.turns.rest.now ≡ 0 = search rules in
    let complete = completes-end names c.turns.lexer c.turns.rest.now whole none (c.turns.invariant.completes names (keeps_itself names)) in
    IfOk-weaker c.finish.result _ _ (λ tokens judged. (judged names whole complete).told_are) c.finish.ensures.tokens

pub returns-clause-named : goal.returns-clause-named
returns-clause-named c =
    let names = c.turns.names in
    let whole = reading_of c.args.file c.args.text.now in
    let none : length c.turns.rest.now ≡ 0 = search rules in
    let complete = completes-end names c.turns.lexer c.turns.rest.now whole none (c.turns.invariant.completes names (keeps_itself names)) in
    IfOk-weaker c.finish.result _ _ (λ tokens judged. (judged names whole complete).named) c.finish.ensures.tokens

pub returns-clause-refused : goal.returns-clause-refused
returns-clause-refused c =
    let names = c.turns.names in
    let whole = reading_of c.args.file c.args.text.now in
    let none : length c.turns.rest.now ≡ 0 = search rules in
    let complete = completes-end names c.turns.lexer c.turns.rest.now whole none (c.turns.invariant.completes names (keeps_itself names)) in
    IfErr-weaker c.finish.result _ _ (λ error refused. refused names whole complete) c.finish.ensures.refused
