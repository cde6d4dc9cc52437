use Rattle.std.proofs.Common.{◌++◌, List, length}
use Rattle.gv_lex.specs.declared.token.Token.{Token}
use Rattle.gv_tree.specs.declared.top.Setting.{Setting}
use Rattle.gv_grammar.specs.Phrases.{Nothing}
use Rattle.gv_grammar.specs.Scripts.{AreSettings, MaySettings}
use Rattle.gv_stmts.proofs.classes.may_settings.Given as goal

abbrev pub invariant-loop-settings : goal.invariant-loop-settings
invariant-loop-settings l = record {
  sound : (xs : List Setting) (rest : List Token) → AreSettings l.tokens xs l.cursor.rest.now rest → MaySettings l.tokens (l.settings ++ xs) l.fn.cursor.rest.now rest;
  refused : Nothing (AreSettings l.tokens) l.cursor.rest.now → Nothing (MaySettings l.tokens) l.fn.cursor.rest.now;
}

abbrev pub decreases-loop-settings : goal.decreases-loop-settings
decreases-loop-settings l = length l.cursor.rest.now
