use Rattle.std.proofs.Common.{◌≡◌, ◌≤◌, drop}
use Rattle.gv_grammar.specs.Stmts.{has_arrow}
use Rattle.gv_blocks.proofs.words.has_arrow.Given as goal

abbrev pub invariant-loop-token : goal.invariant-loop-token
invariant-loop-token l = record {
  shallow : l.depth ≤ l.token-index;
  same : has_arrow l.depth (drop l.token-index l.tokens) ≡ has_arrow 0 l.tokens;
}
