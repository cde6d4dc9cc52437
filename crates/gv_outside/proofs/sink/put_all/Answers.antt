use Rattle.std.proofs.Common.{arith, ap, length, ◌∙◌}
use Rattle.gv_outside.proofs.SinkLemmas.{takes_more, rest_is}
use Rattle.gv_outside.proofs.sink.put_all.Goals as goal

pub loop-done-preserved : goal.loop-done-preserved
loop-done-preserved g c =
    let state = g.S.Sink.state in
    let done = c.in_ok-done.ensures in
    record {
      within = omega (arith, done.within);
      taken = takes_more (state c.args.sink.now) (state c.loop-done.sink) (state c.put.new.self) c.args.bytes.now c.loop-done.done c.in_ok-done.field-0 c.loop-done.invariant.taken (rw rest_is at done.takes);
      empty = λ none. absurd (omega (arith, ap length none, c.loop-done-test.true));
      steady = done.cause ∙ c.loop-done.invariant.steady;
    }
