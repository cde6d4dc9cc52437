use Rattle.std.proofs.Common.{◌<◌, length, arith}
use Rattle.gv_grammar.proofs.Lengths.{less, of_suffix}
use Rattle.gv_grammar.proofs.LongerOperators as operators
use Rattle.gv_exprs.proofs.ResultsPaths.{suffixed, not_suffixed, reads_suffixed}
use Rattle.gv_exprs.proofs.reader.Exprs.+path_tail.Goals as goal

pub path_tail-requires : goal.path_tail-requires
path_tail-requires g t c κs within = let a = less (of_suffix c.args.self.now.all (suffixed c.args.self.now.all c.in_ok-longer.found c.if-found.true (c.in_ok-longer.ensures))) in
    let m : length c.suffix.new.tokens.rest.now < t = omega arith in
    (m, (within, (c.requires.nests, omega arith)))

pub returns-then-found : goal.returns-then-found
returns-then-found g t c = reads_suffixed c.args.self.now.all _ _ _ c.path_tail.result (suffixed c.args.self.now.all c.in_ok-longer.found c.if-found.true (c.in_ok-longer.ensures)) c.path_tail.ensures

pub returns-else-found : goal.returns-else-found
returns-else-found g t c = let d = not_suffixed c.args.self.now.all c.in_ok-longer.found c.if-found.false (c.in_ok-longer.ensures) in rw (d.0, d.1) (operators.path_tail_ends c.args.self.now.all (d.2))
