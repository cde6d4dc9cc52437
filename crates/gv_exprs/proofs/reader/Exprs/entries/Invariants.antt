use Rattle.std.proofs.Common.{◌∷◌, [], ◌≤◌, List, length, Result}
use Rattle.gv_lex.specs.declared.token.Token.{Token}
use Rattle.gv_tree.specs.declared.expr.Entry.{Entry}
use Rattle.gv_cursor.specs.declared.error.ReadError.{ReadError}
use Rattle.gv_cursor.specs.Reading.{Reads}
use Rattle.gv_exprs.specs.Elements.{FollowsEntry}
use Rattle.gv_exprs.proofs.reader.Exprs.entries.Given as goal

-- what is read from here is what is read
abbrev pub invariant-loop-entries : goal.invariant-loop-entries
invariant-loop-entries g l = record {
  shorter : length l.tokens.rest.now ≤ length l.fn.tokens.rest.now;
  reads : (r : Result (List Entry) ReadError) (rest : List Token) → Reads (FollowsEntry l.self.all l.entries) r l.tokens.rest.now rest → Reads (FollowsEntry l.self.all (l.fn.first ∷ [])) r l.fn.tokens.rest.now rest;
}

abbrev pub decreases-loop-entries : goal.decreases-loop-entries
decreases-loop-entries g l = length l.tokens.rest.now
