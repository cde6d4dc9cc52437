use Rattle.std.proofs.Common.{◌≡◌, drop}
use Rattle.gv_print.specs.Texts as texts
use Rattle.gv_print.specs.Printed as spec
use Rattle.gv_print.proofs.printer.Printer.members.Given as goal

abbrev pub invariant-loop-member : goal.invariant-loop-member
invariant-loop-member l = texts.each (spec.member_line_printed l.self.names.now (spec.trees l.self.names.now l.levels) 1) (drop l.member-index l.members) l.out ≡ texts.each (spec.member_line_printed l.self.names.now (spec.trees l.self.names.now l.levels) 1) l.members l.fn.out
