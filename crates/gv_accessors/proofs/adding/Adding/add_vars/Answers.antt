use Rattle.std.proofs.Common.{◌∙◌}
use Rattle.gv_accessors.specs.Accessors as spec
use Rattle.gv_accessors.proofs.Steps.{passed}
use Rattle.gv_accessors.proofs.adding.Adding.add_vars.Goals as goal
use Rattle.gv_tree.specs.declared.stmt.Var.{Var}

pub loop-var-preserved : goal.loop-var-preserved
loop-var-preserved c =
    let added : Var → spec.State → spec.State = λ v. spec.property_added c.args.known.now (spec.property_of c.args.written c.args.is_static c.args.is_final v) in
    passed added c.args.vars.now c.loop-var.var-index c.var-item.result (c.loop-var.names, c.loop-var.self) (c.add_var.new.names, c.add_var.new.self)
    c.loop-var-test.true c.var-item.is c.in_ok-add_var.ensures ∙ c.loop-var.invariant
