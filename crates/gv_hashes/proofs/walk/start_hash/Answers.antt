use Rattle.gv_hashes.proofs.Unasked.{unasked_result}
use Rattle.gv_hashes.proofs.walk.start_hash.Goals as goal

pub returns-clause-unasked : goal.returns-clause-unasked
returns-clause-unasked c =
    unasked_result c.args.names.now c.args.classes.now c.args.heap.now c.args.value c.root_turn.result (rw c.hash_value-hashed.ensures at c.root_turn.ensures)
