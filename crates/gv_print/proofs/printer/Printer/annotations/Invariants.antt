use Rattle.std.proofs.Common.{◌≡◌, drop}
use Rattle.gv_print.specs.Texts as texts
use Rattle.gv_print.specs.Printed as spec
use Rattle.gv_print.proofs.printer.Printer.annotations.Given as goal

abbrev pub invariant-loop-annotation : goal.invariant-loop-annotation
invariant-loop-annotation l = texts.each (spec.annotation_printed l.self.names.now (spec.trees l.self.names.now l.levels) l.indent) (drop l.annotation-index l.annotations) l.out ≡ texts.each (spec.annotation_printed l.self.names.now (spec.trees l.self.names.now l.levels) l.indent) l.annotations l.fn.out
