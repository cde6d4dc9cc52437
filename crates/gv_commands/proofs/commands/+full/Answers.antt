use Rattle.std.proofs.Common.{◌≡◌, ◌<◌, ◌+◌, ◌*◌, length, drop, true, false, refl, sym, ap, subst, arith, None, Some, Ok}
use Rattle.gv_grammar.specs.Tokens.{kind_of, assign_of}
use Rattle.gv_grammar.specs.Phrases.{Nothing}
use Rattle.gv_grammar.specs.Exprs.{is_target, IsCond}
use Rattle.gv_grammar.specs.Commands.{IsCommand, IsFull, full_cond}
use Rattle.gv_grammar.proofs.Lengths.{less, of_cond}
use Rattle.gv_cursor.specs.Reading.{Exactly, Stopped}
use Rattle.gv_commands.specs.Heads.{FindsHead}
use Rattle.gv_commands.proofs.Heading as heading
use Rattle.gv_cursor.proofs.Results as results
use Rattle.gv_cursor.proofs.Results.{refused_on}
use Rattle.gv_commands.proofs.commands.+full.Goals as goal

pub read_full-returns-in_err-head : goal.read_full-returns-in_err-head
read_full-returns-in_err-head t c = heading.head_failed c.args.all _ _ _ _ _ c.from_residual.result (c.from_residual.ensures.1) (c.in_err-head.ensures)

pub read_full-command-requires : goal.read_full-command-requires
read_full-command-requires t c =
    let d : FindsHead c.args.all (Ok (Some c.in-Some.head)) c.args.tokens.now.rest.now c.head.new.tokens.rest.now =
    subst (λ o. FindsHead c.args.all (Ok o) c.args.tokens.now.rest.now c.head.new.tokens.rest.now) c.in-Some.is (c.in_ok-head.ensures) in
    record { head = d.1 }

pub read_full-returns-in-Some : goal.read_full-returns-in-Some
read_full-returns-in-Some t c =
    let d : FindsHead c.args.all (Ok (Some c.in-Some.head)) c.args.tokens.now.rest.now c.head.new.tokens.rest.now =
    subst (λ o. FindsHead c.args.all (Ok o) c.args.tokens.now.rest.now c.head.new.tokens.rest.now) c.in-Some.is (c.in_ok-head.ensures) in
    heading.reads_command c.args.all _ _ _ c.command.result (d.0) (d.1) c.command.ensures

pub read_full-full_cond-requires : goal.read_full-full_cond-requires
read_full-full_cond-requires t c =
    let d : FindsHead c.args.all (Ok None) c.args.tokens.now.rest.now c.head.new.tokens.rest.now =
    subst (λ o. FindsHead c.args.all (Ok o) c.args.tokens.now.rest.now c.head.new.tokens.rest.now) c.in-None.is (c.in_ok-head.ensures) in
    let a = ap length (d.0) in
    let m : 2 * length c.head.new.tokens.rest.now < t = omega arith in
    (m, subst (Nothing (IsCommand c.args.all)) (sym (d.0)) (d.1))

pub read_full-returns-in-None : goal.read_full-returns-in-None
read_full-returns-in-None t c =
    let d : FindsHead c.args.all (Ok None) c.args.tokens.now.rest.now c.head.new.tokens.rest.now =
    subst (λ o. FindsHead c.args.all (Ok o) c.args.tokens.now.rest.now c.head.new.tokens.rest.now) c.in-None.is (c.in_ok-head.ensures) in
    subst (λ zs. Exactly (Stopped (IsFull c.args.all)) c.full_cond.result zs c.full_cond.new.tokens.rest.now) (d.0) c.full_cond.ensures

pub full_cond-returns-in_err-left : goal.full_cond-returns-in_err-left
full_cond-returns-in_err-left t c =
    results.passed_on_exactly (IsCond c.args.all) (Stopped (IsFull c.args.all)) _ _ _ _ c.from_residual.result (c.from_residual.ensures.1)
    (λ f. heading.no_full_cond c.args.all c.requires.no_command f) (c.in_err-left.ensures)

pub full_cond-returns-in_err-expect_end : goal.full_cond-returns-in_err-expect_end
full_cond-returns-in_err-expect_end t c =
    let p : assign_of (kind_of c.read_cond.new.tokens.rest.now) ≡ None = cc in
    refused_on (Stopped (IsFull c.args.all)) c.args.tokens.now.rest.now _ _ c.from_residual-in_err-expect_end.result (c.from_residual-in_err-expect_end.ensures.1) (c.in_err-expect_end.ensures.ends.0)
    (heading.full_goes_on c.args.all c.requires.no_command (c.in_ok-left.ensures) p (c.in_err-expect_end.ensures.ends.1))

pub full_cond-returns-in_default : goal.full_cond-returns-in_default
full_cond-returns-in_default t c =
    rw c.in_ok-expect_end.ensures.same (record { is = full_cond (c.in_ok-left.ensures.is) (c.in_ok-expect_end.ensures.ends.0); stops = c.in_ok-expect_end.ensures.ends.1 })

pub full_cond-returns-then-not-is_target : goal.full_cond-returns-then-not-is_target
full_cond-returns-then-not-is_target t c =
    let p : assign_of (kind_of c.read_cond.new.tokens.rest.now) ≡ Some c.in-Some.op = cc in
    let q : is_target c.in_ok-left.left ≡ false = cc in
    rw (c.refuse.ensures.0) (heading.full_no_target c.args.all c.requires.no_command (c.in_ok-left.ensures) p q)

pub full_cond-read_full-requires : goal.full_cond-read_full-requires
full_cond-read_full-requires t c =
    let p : assign_of (kind_of c.read_cond.new.tokens.rest.now) ≡ Some c.in-Some.op = cc in
    let a = heading.passed assign_of c.read_cond.new.tokens.rest.now refl p in
    let b = ap length c.advance.ensures in
    let d = less (of_cond c.args.all (c.in_ok-left.ensures.is)) in
    let m : 2 * length c.advance.new.self.rest.now + 1 < t = omega arith in
    (m, tt)

pub full_cond-returns-in_err-right : goal.full_cond-returns-in_err-right
full_cond-returns-in_err-right t c =
    let p : assign_of (kind_of c.read_cond.new.tokens.rest.now) ≡ Some c.in-Some.op = cc in
    results.passed_on_exactly (Stopped (IsFull c.args.all)) (Stopped (IsFull c.args.all)) _ _ _ _ c.from_residual-in_err-right.result (c.from_residual-in_err-right.ensures.1)
    (λ f. heading.full_no_right c.args.all c.requires.no_command (c.in_ok-left.ensures) p (rw (← c.advance.ensures) f)) (c.in_err-right.ensures)

pub full_cond-returns : goal.full_cond-returns
full_cond-returns t c =
    let p : assign_of (kind_of c.read_cond.new.tokens.rest.now) ≡ Some c.in-Some.op = cc in
    let q : is_target c.in_ok-left.left ≡ true = cc in
    let d : Stopped (IsFull c.args.all) c.in_ok-right.right (drop 1 c.read_cond.new.tokens.rest.now) c.read_full.new.tokens.rest.now = rw (← c.advance.ensures) (c.in_ok-right.ensures) in
    rw (c.in_ok-assigned.ensures, c.place-place.ensures) (heading.full_assigns c.args.all (c.in_ok-left.ensures) p q d)
