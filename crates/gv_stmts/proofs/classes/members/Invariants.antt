use Rattle.std.proofs.Common.{◌++◌, ◌≤◌, List, length}
use Rattle.gv_lex.specs.declared.token.Token.{Token}
use Rattle.gv_tree.specs.declared.top.Member.{Member}
use Rattle.gv_grammar.specs.Phrases.{Nothing}
use Rattle.gv_grammar.specs.Scripts.{AreMembers}
use Rattle.gv_stmts.proofs.classes.members.Given as goal

abbrev pub invariant-loop : goal.invariant-loop
invariant-loop l = record {
  shorter : length l.cursor.rest.now ≤ length l.initial.cursor.rest.now;
  sound : (xs : List Member) (rest : List Token) → AreMembers l.tokens l.class xs l.cursor.rest.now rest → AreMembers l.tokens l.class (l.members ++ xs) l.fn.cursor.rest.now rest;
  refused : Nothing (AreMembers l.tokens l.class) l.cursor.rest.now → Nothing (AreMembers l.tokens l.class) l.fn.cursor.rest.now;
}

abbrev pub decreases-loop : goal.decreases-loop
decreases-loop l = length l.cursor.rest.now

abbrev pub invariant-loop-cursor : goal.invariant-loop-cursor
invariant-loop-cursor l = record {
  sound : (xs : List Member) (rest : List Token) → AreMembers l.tokens l.class xs l.cursor.rest.now rest → AreMembers l.tokens l.class (l.members ++ xs) l.fn.cursor.rest.now rest;
  refused : Nothing (AreMembers l.tokens l.class) l.cursor.rest.now → Nothing (AreMembers l.tokens l.class) l.fn.cursor.rest.now;
}

abbrev pub decreases-loop-cursor : goal.decreases-loop-cursor
decreases-loop-cursor l = length l.cursor.rest.now
