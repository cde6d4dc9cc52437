-- what is left, printed behind what was printed, prints what the whole does
use Rattle.std.proofs.Common.{◌≡◌, true, drop}
use Rattle.gv_print.specs.Texts as texts
use Rattle.gv_print.specs.Printed as spec
use Rattle.gv_print.proofs.printer.Printer.+print.Given as goal

abbrev pub invariant-args-loop-arg : goal.invariant-args-loop-arg
invariant-args-loop-arg l = texts.listed (spec.arg_printed l.self.names.now (spec.trees l.self.names.now l.levels) l.indent) l.is_first (drop l.arg-index l.args) l.out ≡ texts.listed (spec.arg_printed l.self.names.now (spec.trees l.self.names.now l.levels) l.indent) true l.args l.initial.out

abbrev pub invariant-cases-loop-case : goal.invariant-cases-loop-case
invariant-cases-loop-case l = texts.each (spec.case_printed l.self.names.now (spec.trees l.self.names.now l.levels) l.indent) (drop l.case-index l.cases) l.out ≡ texts.each (spec.case_printed l.self.names.now (spec.trees l.self.names.now l.levels) l.indent) l.cases l.fn.out

abbrev pub invariant-catches-loop-catch : goal.invariant-catches-loop-catch
invariant-catches-loop-catch l = texts.each (spec.catch_printed l.self.names.now (spec.trees l.self.names.now l.levels) l.indent) (drop l.catch-index l.catches) l.out ≡ texts.each (spec.catch_printed l.self.names.now (spec.trees l.self.names.now l.levels) l.indent) l.catches l.fn.out

abbrev pub invariant-entries-loop-entry : goal.invariant-entries-loop-entry
invariant-entries-loop-entry l = texts.listed (spec.entry_printed l.self.names.now (spec.trees l.self.names.now l.levels) l.indent) l.is_first (drop l.entry-index l.entries) l.out ≡ texts.listed (spec.entry_printed l.self.names.now (spec.trees l.self.names.now l.levels) l.indent) true l.entries l.fn.out

abbrev pub invariant-exprs-loop-x : goal.invariant-exprs-loop-x
invariant-exprs-loop-x l = texts.listed ((spec.trees l.self.names.now l.levels).expr l.indent) l.is_first (drop l.x-index l.exprs) l.out ≡ texts.listed ((spec.trees l.self.names.now l.levels).expr l.indent) true l.exprs l.fn.out

abbrev pub invariant-items-loop-item : goal.invariant-items-loop-item
invariant-items-loop-item l = texts.listed (spec.item_printed l.self.names.now (spec.trees l.self.names.now l.levels) l.indent) l.is_first (drop l.item-index l.items) l.out ≡ texts.listed (spec.item_printed l.self.names.now (spec.trees l.self.names.now l.levels) l.indent) true l.items l.fn.out

abbrev pub invariant-lines-loop-stmt : goal.invariant-lines-loop-stmt
invariant-lines-loop-stmt l = texts.each (spec.line_printed l.self.names.now (spec.trees l.self.names.now l.levels) l.indent) (drop l.stmt-index l.stmts) l.out ≡ texts.each (spec.line_printed l.self.names.now (spec.trees l.self.names.now l.levels) l.indent) l.stmts l.fn.out

abbrev pub invariant-params-loop-param : goal.invariant-params-loop-param
invariant-params-loop-param l = texts.listed (spec.param_printed l.self.names.now (spec.trees l.self.names.now l.levels) l.indent) l.is_first (drop l.param-index l.params) l.out ≡ texts.listed (spec.param_printed l.self.names.now (spec.trees l.self.names.now l.levels) l.indent) true l.params l.fn.out

abbrev pub invariant-parts-loop-part : goal.invariant-parts-loop-part
invariant-parts-loop-part l = texts.each (spec.part_printed l.self.names.now (spec.trees l.self.names.now l.levels) l.indent) (drop l.part-index l.parts) l.out ≡ texts.each (spec.part_printed l.self.names.now (spec.trees l.self.names.now l.levels) l.indent) l.parts l.fn.out

abbrev pub invariant-vars-loop-var : goal.invariant-vars-loop-var
invariant-vars-loop-var l = texts.listed (spec.var_printed l.self.names.now (spec.trees l.self.names.now l.levels) l.indent) l.is_first (drop l.var-index l.vars) l.out ≡ texts.listed (spec.var_printed l.self.names.now (spec.trees l.self.names.now l.levels) l.indent) true l.vars l.initial.out
