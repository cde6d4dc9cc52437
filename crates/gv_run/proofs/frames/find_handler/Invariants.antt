use Rattle.std.proofs.Common.{◌≡◌, drop}
use Rattle.gv_meaning.specs.Machine.{handler_at}
use Rattle.gv_run.proofs.frames.find_handler.Given as goal

abbrev pub invariant-loop-h : goal.invariant-loop-h
invariant-loop-h l = handler_at (drop l.h-index l.handlers) l.at ≡ handler_at l.handlers l.at
