use Rattle.std.proofs.Common.{◌∷◌, [], ◌≤◌, List, length, Result}
use Rattle.gv_lex.specs.declared.token.Token.{Token}
use Rattle.gv_tree.specs.declared.expr.Item.{Item}
use Rattle.gv_cursor.specs.declared.error.ReadError.{ReadError}
use Rattle.gv_cursor.specs.Reading.{Reads}
use Rattle.gv_exprs.specs.Elements.{FollowsItem}
use Rattle.gv_exprs.proofs.reader.Exprs.items.Given as goal

-- what is read from here is what is read
abbrev pub invariant-loop-items : goal.invariant-loop-items
invariant-loop-items g l = record {
  shorter : length l.tokens.rest.now ≤ length l.fn.tokens.rest.now;
  reads : (r : Result (List Item) ReadError) (rest : List Token) → Reads (FollowsItem l.self.all l.items) r l.tokens.rest.now rest → Reads (FollowsItem l.self.all (l.fn.first ∷ [])) r l.fn.tokens.rest.now rest;
}

abbrev pub decreases-loop-items : goal.decreases-loop-items
decreases-loop-items g l = length l.tokens.rest.now
