use Rattle.gv_chars.proofs.Cuts.{piece_more}
use Rattle.gv_chars.proofs.split.pieces.Goals as goal

pub turns-preserved : goal.turns-preserved
turns-preserved c = record {
  text = c.cut.ensures.text;
  left = piece_more _ _ _ _ _ _ _ c.in_ok-push_filled.ensures c.cut.ensures.before c.cut.ensures.behind c.turns.invariant.left;
}
