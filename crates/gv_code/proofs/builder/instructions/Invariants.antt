use Rattle.std.proofs.Common.{◌≡◌, map}
use Rattle.gv_code.specs.Pieces.{instruction_of}
use Rattle.gv_code.proofs.builder.instructions.Given as goal

abbrev pub invariant-loop-item : goal.invariant-loop-item
invariant-loop-item l = l.steps ≡ map instruction_of l.yielded
