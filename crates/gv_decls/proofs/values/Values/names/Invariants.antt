use Rattle.std.proofs.Common.{◌++◌, List, length}
use Rattle.gv_lex.specs.declared.token.Token.{Token}
use Rattle.gv_tree.specs.declared.ops.Ident.{Ident}
use Rattle.gv_grammar.specs.Phrases.{Nothing}
use Rattle.gv_grammar.specs.Stmts.{AreNames}
use Rattle.gv_decls.proofs.values.Values.names.Given as goal

abbrev pub invariant-loop-names : goal.invariant-loop-names
invariant-loop-names g l = record {
  sound : (xs : List Ident) (rest : List Token) → AreNames l.self.tokens.now xs l.cursor.rest.now rest → AreNames l.self.tokens.now (l.names ++ xs) l.fn.cursor.rest.now rest;
  refused : Nothing (AreNames l.self.tokens.now) l.cursor.rest.now → Nothing (AreNames l.self.tokens.now) l.fn.cursor.rest.now;
}

abbrev pub decreases-loop-names : goal.decreases-loop-names
decreases-loop-names g l = length l.cursor.rest.now
