use Rattle.std.proofs.Common.{ap, sym, ◌∙◌}
use Rattle.gv_meaning.specs.Calls.{row_at}
use Rattle.gv_natives.specs.declared.kinds.Kind.TheVariants.{Object}
use Rattle.gv_calls.proofs.Arity.{row_in-found, row_in-missed}
use Rattle.gv_calls.proofs.rows.row_for.Goals as goal

pub returns-in-Some : goal.returns-in-Some
returns-in-Some c =
    let found = rw (c.built_in-table.ensures.rows, c.arity_of-arity.ensures) at c.in-Some.ensures.found in
    let row = rw c.built_in-table.ensures.rows at c.row.ensures in
    let next = row_in-found c.args.kinds.now c.loop-kind.kind-index Object c.args.name.now c.args.arguments c.loop-kind-test.true c.in-Some.native found in
    sym (ap row_at (sym c.loop-kind.invariant ∙ next) ∙ row)

pub loop-kind-preserved : goal.loop-kind-preserved
loop-kind-preserved c =
    let missed = rw (c.built_in-table.ensures.rows, c.arity_of-arity.ensures) at c.in_default.ensures.found in
    let next = row_in-missed c.args.kinds.now c.loop-kind.kind-index Object c.args.name.now c.args.arguments c.loop-kind-test.true missed in
    sym next ∙ c.loop-kind.invariant
