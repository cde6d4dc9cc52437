use Rattle.std.proofs.Common.{flat_map, List, ℕ, [], Bor, take, drop, get_or, suc}
use Rattle.std.proofs.lemmas.Result.{err_from_is_err_and}
use Rattle.gv_outside.proofs.SinkLemmas.{prefix_after, flat_map-at}
use Rattle.gv_outside.proofs.sink.put_pieces.Goals as goal

pub returns-in_err-put_all-clause-err : goal.returns-in_err-put_all-clause-err
returns-in_err-put_all-clause-err g c =
    let state = g.S.Sink.state in
    let pieces = c.args.pieces.now in
    let at = c.loop-piece.piece-index in
    let none : Bor (List ℕ) = record { ref_ptr = (0, 0); now = [] } in
    let bytes = λ (piece : Bor (List ℕ)). piece.now in
    let p = err_from_is_err_and c.from_residual.result c.from_residual.ensures.1 in
    rw p.1 (rw (← flat_map-at bytes pieces at none c.loop-piece-test.true)
    (prefix_after (state c.args.sink.now) (state c.loop-piece.sink) (state c.put_all.new.sink) (flat_map bytes (take at pieces)) (bytes (get_or pieces at none)) (flat_map bytes (drop (suc at) pieces))
    c.loop-piece.invariant.taken c.in_err-put_all.ensures.err))
