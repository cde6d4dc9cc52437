use Rattle.std.proofs.Common.{map, string_bytes, sym}
use Rattle.groovy_cli.proofs.Promises.{means, has_run, refused, unwritten}
use Rattle.groovy_cli.proofs.Saying.{asked}
use Rattle.groovy_cli.proofs.top.groovy.Goals as goal

pub returns-in-Ok-clause-meaning : goal.returns-in-Ok-clause-meaning
returns-in-Ok-clause-meaning g c =
    let words = map string_bytes c.args.words.now in
    let named = asked words c.in-Some.reading c.word-file.result.now (sym (c.in-Some.ensures.reading)) c.word-file.ensures in
    means words (record { file = c.word-file.result.now; limits = c.in-Some.reading.limits }) c.in-Ok.answer (g.F.Files.state c.args.files.now) (g.F.Files.state c.answer_to.new.files) _ _ c.give-in-Ok.result named
    c.in-Ok.ensures.stands c.give-in-Ok.ensures

pub returns-in-Ok-clause-run : goal.returns-in-Ok-clause-run
returns-in-Ok-clause-run g c =
    let words = map string_bytes c.args.words.now in
    let named = asked words c.in-Some.reading c.word-file.result.now (sym (c.in-Some.ensures.reading)) c.word-file.ensures in
    has_run words (record { file = c.word-file.result.now; limits = c.in-Some.reading.limits }) c.in-Ok.answer (g.F.Files.state c.args.files.now) (g.F.Files.state c.answer_to.new.files) _ _ c.give-in-Ok.result named
    c.in-Ok.ensures.stands c.give-in-Ok.ensures

pub returns-in-Ok-clause-refused : goal.returns-in-Ok-clause-refused
returns-in-Ok-clause-refused g c =
    let words = map string_bytes c.args.words.now in
    let named = asked words c.in-Some.reading c.word-file.result.now (sym (c.in-Some.ensures.reading)) c.word-file.ensures in
    refused words (record { file = c.word-file.result.now; limits = c.in-Some.reading.limits }) c.in-Ok.answer (g.F.Files.state c.args.files.now) (g.F.Files.state c.answer_to.new.files) _ _ c.give-in-Ok.result named
    c.in-Ok.ensures.stands c.give-in-Ok.ensures

pub returns-in-Ok-clause-unwritten : goal.returns-in-Ok-clause-unwritten
returns-in-Ok-clause-unwritten g c =
    let words = map string_bytes c.args.words.now in
    let named = asked words c.in-Some.reading c.word-file.result.now (sym (c.in-Some.ensures.reading)) c.word-file.ensures in
    unwritten words (record { file = c.word-file.result.now; limits = c.in-Some.reading.limits }) c.in-Ok.answer (g.F.Files.state c.args.files.now) (g.F.Files.state c.answer_to.new.files) _ _ c.give-in-Ok.result named
    c.in-Ok.ensures.stands c.give-in-Ok.ensures
