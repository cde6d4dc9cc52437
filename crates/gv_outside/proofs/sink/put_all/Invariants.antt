use Rattle.std.proofs.Common.{length, ◌-◌, ◌≡◌, ◌≤◌, [], take}
use Rattle.gv_outside.specs.Sink.{Takes}
use Rattle.gv_outside.proofs.sink.put_all.Given as goal

abbrev pub invariant-loop-done : goal.invariant-loop-done
invariant-loop-done g l =
    let state = g.S.Sink.state in
    record {
      within : l.done ≤ length l.bytes;
      taken : Takes (state l.fn.sink) (take l.done l.bytes) (state l.sink);
      empty : l.bytes ≡ [] → state l.sink ≡ state l.fn.sink;
      steady : (state l.sink).faults ≡ (state l.fn.sink).faults;
    }

abbrev pub decreases-loop-done : goal.decreases-loop-done
decreases-loop-done g l = length l.bytes - l.done
