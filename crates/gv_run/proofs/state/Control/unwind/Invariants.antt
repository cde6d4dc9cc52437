use Rattle.std.proofs.Common.{◌≡◌, length}
use Rattle.gv_meaning.specs.Machine.{unwind}
use Rattle.gv_run.proofs.state.Control.unwind.Given as goal

abbrev pub invariant-bodies : goal.invariant-bodies
invariant-bodies l = unwind l.code l.v l.self.frames l.self.depth l.self.world ≡ unwind l.code l.v l.fn.self.frames l.fn.self.depth l.fn.self.world

abbrev pub decreases-bodies : goal.decreases-bodies
decreases-bodies l = length l.self.frames
