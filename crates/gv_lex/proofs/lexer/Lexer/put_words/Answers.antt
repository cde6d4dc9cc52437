use Rattle.std.proofs.Common.{◌≡◌, ◌<◌, ◌+◌, length, ap, arith, length-drop, rules}
use Rattle.gv_lex.proofs.Paths.{path-one, path-more}
use Rattle.gv_lex.proofs.Putting.{puts_then}
use Rattle.gv_lex.proofs.Told.{keeps_more}
use Rattle.gv_lex.proofs.lexer.Lexer.put_words.Goals as goal

pub returns-then-is_empty-clause-puts : goal.returns-then-is_empty-clause-puts
returns-then-is_empty-clause-puts c =
    let word = c.split_at.result.0.now in
    let behind = c.split_at.result.1.now in
    let empty : length behind ≡ 0 = search rules in
    let one = path-one c.words.here c.words.rest.now word behind c.word_len.result c.word_len.ensures.value c.split_at.ensures.front c.split_at.ensures.back empty in
    λ later keeps. c.words.invariant.puts later c.put_word.new.self (keeps_more c.words.names c.put_word.new.names later c.in_ok-put_word.ensures.names keeps) (rw one (c.in_ok-put_word.ensures.puts later keeps))

pub words-preserved : goal.words-preserved
words-preserved c =
    let word = c.split_at.result.0.now in
    let behind = c.split_at.result.1.now in
    let some : 0 < length behind = search rules in
    let more = path-more c.words.here c.words.rest.now word behind c.word_len.result c.word_len.ensures.value c.split_at.ensures.front c.split_at.ensures.back some in
    let shorter : length c.back-rest.result.now + 1 ≡ length behind = omega (arith, some, ap length c.back-rest.ensures, length-drop 1 behind) in
    record {
      puts = λ later new keeps put.
          let dot = rw c.past-dot.ensures.value at (c.in_ok-put_at.ensures later tt) in
          let rest = rw (c.next_column-here.ensures, c.past-dot.ensures.value, c.back-rest.ensures) at put in
          c.words.invariant.puts later new (keeps_more c.words.names c.put_word.new.names later c.in_ok-put_word.ensures.names keeps)
          (rw more (puts_then later c.words.self c.put_word.new.self new _ _ (c.in_ok-put_word.ensures.puts later keeps) (puts_then later c.put_word.new.self c.put_at.new.self new _ _ dot rest)));
      names = keeps_more c.args.names.now c.words.names c.put_word.new.names c.words.invariant.names c.in_ok-put_word.ensures.names;
      room = rw c.next_column-here.ensures (record { lines = omega arith; columns = omega arith });
    }
