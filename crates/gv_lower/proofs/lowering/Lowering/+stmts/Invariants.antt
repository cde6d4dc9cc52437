use Rattle.std.proofs.Common.{◌≡◌, ◌++◌, drop, option_map}
use Rattle.gv_lower.specs.Core.{all_of, made}
use Rattle.gv_lower.proofs.lowering.Lowering.+stmts.Given as goal

-- the trees so far, and then those of what is left
abbrev pub invariant-all_of-loop-stmt : goal.invariant-all_of-loop-stmt
invariant-all_of-loop-stmt l =
    let go = made l.self.known l.self.levels l.levels in
    option_map (λ ts. l.trees ++ ts) (all_of go l.in_loop l.scope (drop l.stmt-index l.all)) ≡ all_of go l.in_loop l.vars l.all
