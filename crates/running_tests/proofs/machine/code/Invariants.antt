use Rattle.std.proofs.Common.{[], drop}
use Rattle.std.specs.List.{AllByRecursion}
use Rattle.gv_code.specs.Forward.{JumpFits}
use Rattle.running_tests.proofs.machine.code.Given as goal

-- neither what is written nor what is left jumps back
abbrev pub invariant-loop-op : goal.invariant-loop-op
invariant-loop-op l = record {
  written : AllByRecursion (λ i. JumpFits [] 0 i.op) l.steps;
  left : AllByRecursion (JumpFits [] 0) (drop l.op-index l.ops);
}
