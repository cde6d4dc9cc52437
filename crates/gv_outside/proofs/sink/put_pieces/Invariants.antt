use Rattle.std.proofs.Common.{◌≡◌, take, flat_map}
use Rattle.gv_outside.specs.Sink.{Takes}
use Rattle.gv_outside.proofs.sink.put_pieces.Given as goal

-- the pieces so far were taken
abbrev pub invariant-loop-piece : goal.invariant-loop-piece
invariant-loop-piece g l =
    let state = g.S.Sink.state in
    record {
      taken : Takes (state l.initial.sink) (flat_map (λ piece. piece.now) (take l.piece-index l.pieces)) (state l.sink);
      steady : (state l.sink).faults ≡ (state l.initial.sink).faults;
    }
