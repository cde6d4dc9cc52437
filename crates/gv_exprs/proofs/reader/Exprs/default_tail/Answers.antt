use Rattle.std.proofs.Common.{arith}
use Rattle.gv_spelling.specs.declared.kinds.Symbol.TheVariants as symbol
use Rattle.gv_grammar.specs.Tokens.{Eats}
use Rattle.gv_grammar.proofs.Lengths.{less, of_eats}
use Rattle.gv_grammar.proofs.Longest.{symbol_eaten}
use Rattle.gv_grammar.proofs.LongerOperators as longer
use Rattle.gv_exprs.proofs.reader.Exprs.default_tail.Goals as goal

pub inner_cond-requires-clause-shorter : goal.inner_cond-requires-clause-shorter
inner_cond-requires-clause-shorter g c =
    let q : Eats symbol.Elvis c.args.tokens.now.rest.now c.advance.new.self.rest.now = rw c.advance.ensures (symbol_eaten _ c.requires.next) in
    let a = less (of_eats q) in omega arith

pub returns-in_ok-new-in-Ok-2 : goal.returns-in_ok-new-in-Ok-2
returns-in_ok-new-in-Ok-2 g c =
    let q : Eats symbol.Elvis c.args.tokens.now.rest.now c.advance.new.self.rest.now = rw c.advance.ensures (symbol_eaten _ c.requires.next) in
    rw (c.place-place.ensures, c.in_ok-new-in-Ok.ensures, c.in_ok-new-in-Ok-2.ensures) (longer.cond_tail_defaults c.args.self.now.all q (c.in-Ok.ensures))

pub returns-in-Err-Refused : goal.returns-in-Err-Refused
returns-in-Err-Refused g c =
    let q : Eats symbol.Elvis c.args.tokens.now.rest.now c.advance.new.self.rest.now = rw c.advance.ensures (symbol_eaten _ c.requires.next) in
    longer.cond_tail_no_default c.args.self.now.all q (rw c.in-Err-Refused.field-0-is at (c.in-Err-Refused.ensures))
