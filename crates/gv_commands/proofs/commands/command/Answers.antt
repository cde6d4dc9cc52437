use Rattle.std.proofs.Common.{◌≡◌, true, false}
use Rattle.gv_tree.specs.declared.expr.Expr.TheVariants as expr
use Rattle.gv_grammar.specs.Tokens.{kind_of, place_of, begins_arguments}
use Rattle.gv_grammar.specs.Commands.{ends_in_name, GoesCommand, AreCommandArgs}
use Rattle.gv_cursor.specs.Reading.{Exactly, Stopped}
use Rattle.gv_commands.specs.Heads.{GoesFrom}
use Rattle.gv_commands.proofs.Heading as heading
use Rattle.gv_cursor.proofs.Results as results
use Rattle.gv_commands.proofs.commands.command.Goals as goal

pub returns-then-not-ends_in_name : goal.returns-then-not-ends_in_name
returns-then-not-ends_in_name c =
    let p : ends_in_name c.args.head ≡ false = cc in
    heading.reads_from_name c.args.all _ _ c.links.result p c.requires.head c.links.ensures

pub returns-in_err-args : goal.returns-in_err-args
returns-in_err-args c =
    let p : ends_in_name c.args.head ≡ true = cc in
    results.passed_on_exactly (Stopped (AreCommandArgs c.args.all)) (Stopped (GoesFrom c.args.all c.args.head)) _ _ _ _ c.from_residual.result (c.from_residual.ensures.1)
    (λ f. heading.no_arguments c.args.all p f) (c.in_err-args.ensures)

pub returns : goal.returns
returns c =
    let p : ends_in_name c.args.head ≡ true = cc in
    let b : begins_arguments (kind_of c.args.tokens.now.rest.now) ≡ true = heading.begins_behind_head _ c.requires.head in
    let d : Exactly (Stopped (GoesCommand c.args.all (expr.Call (place_of c.args.tokens.now.rest.now) c.args.head c.in_ok-args.args))) c.links-2.result c.command_args.new.tokens.rest.now c.links-2.new.tokens.rest.now =
    rw (← c.place-place.ensures, ← (c.in_ok-new.ensures)) c.links-2.ensures in
    heading.reads_arguments c.args.all _ _ _ _ c.links-2.result p b (c.in_ok-args.ensures) d
