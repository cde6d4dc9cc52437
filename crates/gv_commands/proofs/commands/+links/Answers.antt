use Rattle.std.proofs.Common.{◌≡◌, length, true, false, refl, ap, arith, None, Some}
use Rattle.gv_tree.specs.declared.expr.Expr.TheVariants as expr
use Rattle.gv_grammar.specs.Tokens.{kind_of, place_of, name_of, begins_arguments, begins_call}
use Rattle.gv_grammar.specs.Exprs.{IsSuffix}
use Rattle.gv_grammar.specs.Commands.{property, GoesCommand, AreCommandArgs}
use Rattle.gv_cursor.specs.Reading.{Exactly, Stopped, Extended}
use Rattle.gv_commands.proofs.Heading as heading
use Rattle.gv_cursor.proofs.Results as results
use Rattle.gv_cursor.proofs.Results.{refused_on}
use Rattle.gv_commands.proofs.commands.+links.Goals as goal

pub returns-in_err-expect_stop : goal.returns-in_err-expect_stop
returns-in_err-expect_stop t c =
    let p : name_of (kind_of c.args.tokens.now.rest.now) ≡ None = cc in
    refused_on (Stopped (GoesCommand c.args.all c.args.left)) c.args.tokens.now.rest.now c.expect_stop.new.self.rest.now _ c.from_residual.result (c.from_residual.ensures.1) (c.in_err-expect_stop.ensures.stops.0)
    (heading.no_links_end c.args.all p (c.in_err-expect_stop.ensures.stops.1))

pub returns-in_default : goal.returns-in_default
returns-in_default t c =
    let p : name_of (kind_of c.args.tokens.now.rest.now) ≡ None = cc in
    rw c.in_ok-expect_stop.ensures.same (heading.links_end c.args.all p c.in_ok-expect_stop.ensures.stops)

pub returns-in_err-args : goal.returns-in_err-args
returns-in_err-args t c =
    let p : name_of (kind_of c.args.tokens.now.rest.now) ≡ Some c.in-Some.name = cc in
    let b : begins_arguments (kind_of c.advance.new.self.rest.now) ≡ true = cc in
    results.passed_on_exactly (Stopped (AreCommandArgs c.args.all)) (Stopped (GoesCommand c.args.all c.args.left)) _ _ _ _ c.from_residual-in_err-args.result (c.from_residual-in_err-args.ensures.1)
    (λ f. heading.no_link_arguments c.args.all c.args.tokens.now.rest.now c.advance.new.self.rest.now p c.advance.ensures c.args.left b f) (c.in_err-args.ensures)

pub links-requires : goal.links-requires
links-requires t c =
    let p : name_of (kind_of c.args.tokens.now.rest.now) ≡ Some c.in-Some.name = cc in
    let a = heading.passed name_of c.args.tokens.now.rest.now refl p in
    let b = ap length c.advance.ensures in
    let d = heading.cargs_shorter c.args.all (c.in_ok-args.ensures) in
    (omega arith, tt)

pub returns-then-begins_arguments : goal.returns-then-begins_arguments
returns-then-begins_arguments t c =
    let p : name_of (kind_of c.args.tokens.now.rest.now) ≡ Some c.in-Some.name = cc in
    let b : begins_arguments (kind_of c.advance.new.self.rest.now) ≡ true = cc in
    let d : Exactly (Stopped (GoesCommand c.args.all (expr.Call (place_of c.advance.new.self.rest.now) (property c.args.left c.args.tokens.now.rest.now c.in-Some.name) c.in_ok-args.args)))
    c.links.result c.command_args.new.tokens.rest.now c.links.new.tokens.rest.now =
    rw (← c.place-at.ensures, ← c.place-place.ensures, ← (c.in_ok-new.ensures), ← (c.in_ok-new-2.ensures)) c.links.ensures in
    heading.reads_link_arguments c.args.all c.args.tokens.now.rest.now c.advance.new.self.rest.now p c.advance.ensures c.args.left b _ _ c.links.result (c.in_ok-args.ensures) d

pub links-requires-then-found : goal.links-requires-then-found
links-requires-then-found t c =
    let p : name_of (kind_of c.args.tokens.now.rest.now) ≡ Some c.in-Some.name = cc in
    let q : begins_call (kind_of c.advance.new.self.rest.now) ≡ true = cc in
    let s : Extended (IsSuffix c.args.all) (property c.args.left c.args.tokens.now.rest.now c.in-Some.name) c.in_ok-longer.longer c.in_ok-longer.found c.advance.new.self.rest.now c.read_suffix.new.tokens.rest.now =
    rw (← c.place-place.ensures, ← (c.in_ok-new.ensures)) c.in_ok-longer.ensures in
    let a = heading.passed name_of c.args.tokens.now.rest.now refl p in
    let b = ap length c.advance.ensures in
    let d = heading.link_call_shorter c.args.all c.args.tokens.now.rest.now c.advance.new.self.rest.now p c.advance.ensures c.args.left q _ _ c.in_ok-longer.found c.if-found.true s in
    (omega arith, tt)

pub returns-then-found : goal.returns-then-found
returns-then-found t c =
    let p : name_of (kind_of c.args.tokens.now.rest.now) ≡ Some c.in-Some.name = cc in
    let b : begins_call (kind_of c.advance.new.self.rest.now) ≡ true = cc in
    let s : Extended (IsSuffix c.args.all) (property c.args.left c.args.tokens.now.rest.now c.in-Some.name) c.in_ok-longer.longer c.in_ok-longer.found c.advance.new.self.rest.now c.read_suffix.new.tokens.rest.now =
    rw (← c.place-place.ensures, ← (c.in_ok-new.ensures)) c.in_ok-longer.ensures in
    heading.reads_link_call c.args.all c.args.tokens.now.rest.now c.advance.new.self.rest.now p c.advance.ensures c.args.left b _ c.in_ok-longer.found _ _ c.links-then-found.result c.if-found.true s c.links-then-found.ensures

pub returns-then-begins_call : goal.returns-then-begins_call
returns-then-begins_call t c =
    let p : name_of (kind_of c.args.tokens.now.rest.now) ≡ Some c.in-Some.name = cc in
    let b : begins_call (kind_of c.advance.new.self.rest.now) ≡ true = cc in
    let s : Extended (IsSuffix c.args.all) (property c.args.left c.args.tokens.now.rest.now c.in-Some.name) c.in_ok-longer.longer c.in_ok-longer.found c.advance.new.self.rest.now c.read_suffix.new.tokens.rest.now =
    rw (← c.place-place.ensures, ← (c.in_ok-new.ensures)) c.in_ok-longer.ensures in
    rw (c.refuse.ensures.0) (heading.no_link_call c.args.all c.args.tokens.now.rest.now c.advance.new.self.rest.now p c.advance.ensures c.args.left b _ _ c.in_ok-longer.found c.if-found.false s)

pub returns-in_err-expect_stop-2 : goal.returns-in_err-expect_stop-2
returns-in_err-expect_stop-2 t c =
    let p : name_of (kind_of c.args.tokens.now.rest.now) ≡ Some c.in-Some.name = cc in
    let b : begins_arguments (kind_of c.advance.new.self.rest.now) ≡ false = cc in
    let q : begins_call (kind_of c.advance.new.self.rest.now) ≡ false = cc in
    refused_on (Stopped (GoesCommand c.args.all c.args.left)) c.args.tokens.now.rest.now c.expect_stop-2.new.self.rest.now _ c.from_residual-in_err-expect_stop-2.result (c.from_residual-in_err-expect_stop-2.ensures.1) (c.in_err-expect_stop-2.ensures.stops.0)
    (heading.name_goes_on c.args.all c.args.tokens.now.rest.now c.advance.new.self.rest.now p c.advance.ensures c.args.left b q (c.in_err-expect_stop-2.ensures.stops.1))

pub returns : goal.returns
returns t c =
    let p : name_of (kind_of c.args.tokens.now.rest.now) ≡ Some c.in-Some.name = cc in
    let b : begins_arguments (kind_of c.advance.new.self.rest.now) ≡ false = cc in
    let q : begins_call (kind_of c.advance.new.self.rest.now) ≡ false = cc in
    rw (c.in_ok-expect_stop-2.ensures.same, c.place-place.ensures, c.in_ok-new.ensures)
    (heading.ends_with_name c.args.all c.args.tokens.now.rest.now c.advance.new.self.rest.now p c.advance.ensures c.args.left b q c.in_ok-expect_stop-2.ensures.stops)
