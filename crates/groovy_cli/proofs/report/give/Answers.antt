use Rattle.std.proofs.Common.{sym, ◌∙◌}
use Rattle.groovy_cli.specs.Answers.{outcome}
use Rattle.groovy_cli.proofs.Promises.{cut_at_out}
use Rattle.groovy_cli.proofs.report.give.Goals as goal

pub returns-then-is_err : goal.returns-then-is_err
returns-then-is_err g c =
    let out = g.O.Sink.state in
    let err = g.E.Sink.state in
    cut_at_out (outcome c.args.file.now c.args.answer.now) (out c.args.out.now) (out c.put_all.new.sink) (err c.args.err.now) (err c.put_all-then-is_err.new.sink)
    c.put_all.result c.put_all-then-is_err.result (sym c.if-is_err.ensures.value) (λ none. (c.put_all.ensures.empty (c.output.ensures c.args.file.now ∙ none)).0) (rw (c.output.ensures c.args.file.now) at c.put_all.ensures.err) c.put_all.ensures.cause
    c.put_all-then-is_err.ensures.ok c.put_all-then-is_err.ensures.err c.put_all-then-is_err.ensures.cause
