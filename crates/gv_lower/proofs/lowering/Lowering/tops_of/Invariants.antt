use Rattle.std.proofs.Common.{◌≡◌, [], ◌++◌, drop, option_map}
use Rattle.gv_lower.specs.Core.{tops_of}
use Rattle.gv_lower.proofs.lowering.Lowering.tops_of.Given as goal

-- the trees so far, and then those of what is left
abbrev pub invariant-loop-top : goal.invariant-loop-top
invariant-loop-top l =
    let go = tops_of l.self.known l.self.levels in
    option_map (λ ts. l.trees ++ ts) (go l.scope (drop l.top-index l.all)) ≡ go [] l.all
