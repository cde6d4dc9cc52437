use Rattle.std.proofs.Common.{◌≡◌}
use Rattle.gv_lex.specs.declared.token.TokenKind.TheVariants as kind
use Rattle.gv_grammar.specs.Tokens.{kind_of}
use Rattle.gv_stmts.proofs.Leads.{end_here}
use Rattle.gv_stmts.proofs.script.eat_end.Goals.{in-End, in_default}
use Rattle.gv_stmts.proofs.script.eat_end.Goals as goal

pub returns-then-matches : goal.returns-then-matches
returns-then-matches c = elim c.match-matches.branch [
  | in-End w ↦ let p : kind_of c.args.cursor.now.rest.now ≡ kind.End = let a = w.in-End.is in let b = c.kind.ensures in cc in
      end_here c.is_empty.result c.args.cursor.now.rest.now c.advance.new.self.rest.now c.if-is_empty.false c.is_empty.ensures p c.advance.ensures
  | in_default w ↦ let a = w.matches-is in let b = c.if-matches.true in cc
]
