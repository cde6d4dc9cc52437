use Rattle.std.proofs.Common.{◌≡◌, true, drop}
use Rattle.gv_print.specs.Texts as texts
use Rattle.gv_print.specs.Printed as spec
use Rattle.gv_print.proofs.printer.Printer.settings.Given as goal

abbrev pub invariant-loop-setting : goal.invariant-loop-setting
invariant-loop-setting l = texts.listed (spec.setting_printed l.self.names.now (spec.trees l.self.names.now l.levels) l.indent) l.is_first (drop l.setting-index l.settings) l.out ≡ texts.listed (spec.setting_printed l.self.names.now (spec.trees l.self.names.now l.levels) l.indent) true l.settings l.initial.out
