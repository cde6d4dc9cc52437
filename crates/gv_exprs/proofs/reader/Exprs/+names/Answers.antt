use Rattle.std.proofs.Common.{rules, ◌≡◌, arith, None}
use Rattle.gv_grammar.specs.Tokens.{kind_of, name_of}
use Rattle.gv_grammar.proofs.LongerStrings.{names_no_dot, names_no_name}
use Rattle.gv_exprs.proofs.ResultsStrings.{another_name, name_passed}
use Rattle.gv_exprs.proofs.reader.Exprs.+names.Goals as goal

pub returns-then-not-eat : goal.returns-then-not-eat
returns-then-not-eat g t c = rw (c.if-not-eat.ensures.0) (names_no_dot c.args.self.now.all c.if-not-eat.ensures.1)

pub returns-in_default : goal.returns-in_default
returns-in_default g t c = let e : name_of (kind_of c.eat.new.self.rest.now) ≡ None = cc in names_no_name c.args.self.now.all c.if-not-eat.ensures e

pub names-requires : goal.names-requires
names-requires g t c κs within = let a = name_passed c.if-not-eat.ensures c.advance.ensures in (omega arith, search rules)

pub returns : goal.returns
returns g t c = another_name c.args.self.now.all c.args.left c.args.tokens.now.rest.now c.names.new.tokens.rest.now c.names.result c.if-not-eat.ensures c.kind.ensures c.name_of.ensures c.in-Some.is c.place-place.ensures c.place.ensures c.advance.ensures c.in_ok-new.ensures c.names.ensures
