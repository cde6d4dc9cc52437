use Rattle.std.proofs.Common.{◌≡◌, drop}
use Rattle.gv_tops.specs.Transforms.{with_tops, imported_of}
use Rattle.gv_tops.proofs.imports.Imported.of.Given as goal

abbrev pub invariant-loop-top : goal.invariant-loop-top
invariant-loop-top l = with_tops l.known (drop l.top-index l.tops) l.imported ≡ imported_of l.known l.tops
