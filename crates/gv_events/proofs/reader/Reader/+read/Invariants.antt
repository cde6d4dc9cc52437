-- what is left, read behind what was said, says what the whole does
use Rattle.std.proofs.Common.{◌≡◌, drop}
use Rattle.gv_events.specs.Events as spec
use Rattle.gv_events.proofs.reader.Reader.+read.Given as goal

abbrev pub invariant-args-loop-arg : goal.invariant-args-loop-arg
invariant-args-loop-arg l = spec.each (spec.arg_said l.self.it (spec.expr_said l.self.it l.levels) (spec.stmt_said l.self.it l.levels)) (drop l.arg-index l.args) l.out ≡ spec.each (spec.arg_said l.self.it (spec.expr_said l.self.it l.levels) (spec.stmt_said l.self.it l.levels)) l.args l.fn.out

abbrev pub invariant-cases-loop-case : goal.invariant-cases-loop-case
invariant-cases-loop-case l = spec.each (spec.case_said l.self.it (spec.expr_said l.self.it l.levels) (spec.stmt_said l.self.it l.levels)) (drop l.case-index l.cases) l.out ≡ spec.each (spec.case_said l.self.it (spec.expr_said l.self.it l.levels) (spec.stmt_said l.self.it l.levels)) l.cases l.fn.out

abbrev pub invariant-catches-loop-catch : goal.invariant-catches-loop-catch
invariant-catches-loop-catch l = spec.each (spec.catch_said l.self.it (spec.expr_said l.self.it l.levels) (spec.stmt_said l.self.it l.levels)) (drop l.catch-index l.catches) l.out ≡ spec.each (spec.catch_said l.self.it (spec.expr_said l.self.it l.levels) (spec.stmt_said l.self.it l.levels)) l.catches l.fn.out

abbrev pub invariant-entries-loop-entry : goal.invariant-entries-loop-entry
invariant-entries-loop-entry l = spec.each (spec.entry_said l.self.it (spec.expr_said l.self.it l.levels) (spec.stmt_said l.self.it l.levels)) (drop l.entry-index l.entries) l.out ≡ spec.each (spec.entry_said l.self.it (spec.expr_said l.self.it l.levels) (spec.stmt_said l.self.it l.levels)) l.entries l.fn.out

abbrev pub invariant-exprs-loop-x : goal.invariant-exprs-loop-x
invariant-exprs-loop-x l = spec.each (spec.expr_said l.self.it l.levels) (drop l.x-index l.xs) l.out ≡ spec.each (spec.expr_said l.self.it l.levels) l.xs l.fn.out

abbrev pub invariant-items-loop-item : goal.invariant-items-loop-item
invariant-items-loop-item l = spec.each (spec.item_said l.self.it (spec.expr_said l.self.it l.levels) (spec.stmt_said l.self.it l.levels)) (drop l.item-index l.items) l.out ≡ spec.each (spec.item_said l.self.it (spec.expr_said l.self.it l.levels) (spec.stmt_said l.self.it l.levels)) l.items l.fn.out

abbrev pub invariant-params-loop-param : goal.invariant-params-loop-param
invariant-params-loop-param l = spec.each (spec.param_said l.self.it (spec.expr_said l.self.it l.levels) (spec.stmt_said l.self.it l.levels)) (drop l.param-index l.params) l.out ≡ spec.each (spec.param_said l.self.it (spec.expr_said l.self.it l.levels) (spec.stmt_said l.self.it l.levels)) l.params l.fn.out

abbrev pub invariant-parts-loop-part : goal.invariant-parts-loop-part
invariant-parts-loop-part l = spec.each (spec.part_said l.self.it (spec.expr_said l.self.it l.levels) (spec.stmt_said l.self.it l.levels)) (drop l.part-index l.parts) l.out ≡ spec.each (spec.part_said l.self.it (spec.expr_said l.self.it l.levels) (spec.stmt_said l.self.it l.levels)) l.parts l.fn.out

abbrev pub invariant-stmts-loop-stmt : goal.invariant-stmts-loop-stmt
invariant-stmts-loop-stmt l = spec.each (spec.stmt_said l.self.it l.levels) (drop l.stmt-index l.stmts) l.out ≡ spec.each (spec.stmt_said l.self.it l.levels) l.stmts l.fn.out

abbrev pub invariant-vars-loop-var : goal.invariant-vars-loop-var
invariant-vars-loop-var l = spec.each (spec.var_said l.self.it (spec.expr_said l.self.it l.levels) (spec.stmt_said l.self.it l.levels)) (drop l.var-index l.vars) l.out ≡ spec.each (spec.var_said l.self.it (spec.expr_said l.self.it l.levels) (spec.stmt_said l.self.it l.levels)) l.vars l.fn.out
