use Rattle.std.proofs.Common.{subst, sym, ap, ◌∙◌, length}
use Rattle.gv_code.specs.Pieces.{Bounded, ways_of}
use Rattle.gv_code.proofs.Decided.{length-directed}
use Rattle.gv_code.proofs.builder.PieceBuilder.direct.Goals as goal

pub invariant_of-result : goal.invariant_of-result
invariant_of-result c = subst (λ n. Bounded n c.self.inside.handlers.items) (sym (ap length c.in_ok-items.ensures ∙ length-directed (ways_of c.args.ways) c.self.inside.items.items)) c.self.invariant
