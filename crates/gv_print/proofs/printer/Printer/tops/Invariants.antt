use Rattle.std.proofs.Common.{◌≡◌, drop}
use Rattle.gv_print.specs.Texts as texts
use Rattle.gv_print.specs.Printed as spec
use Rattle.gv_print.proofs.printer.Printer.tops.Given as goal

abbrev pub invariant-loop-top : goal.invariant-loop-top
invariant-loop-top l = texts.each (spec.top_line_printed l.self.names.now (spec.trees l.self.names.now l.levels)) (drop l.top-index l.tops) l.out ≡ texts.each (spec.top_line_printed l.self.names.now (spec.trees l.self.names.now l.levels)) l.tops l.fn.out
