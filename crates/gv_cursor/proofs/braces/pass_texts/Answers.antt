use Rattle.std.proofs.Common.{◌≡◌, ℕ, ◌+◌, ◌-◌, ◌<◌, ◌≤◌, List, drop, arith, length-drop}
use Rattle.gv_lex.specs.declared.token.Piece.TheVariants as piece
use Rattle.gv_lex.specs.declared.token.Token.{Token}
use Rattle.gv_lex.specs.declared.token.TokenKind.{TokenKind}
use Rattle.gv_lex.specs.declared.token.TokenKind.TheVariants as kind
use Rattle.gv_grammar.specs.Tokens.{kind_of}
use Rattle.gv_grammar.specs.Exprs.{open_behind, behind_texts}
use Rattle.gv_grammar.proofs.Skipped.{texts_at}
use Rattle.gv_cursor.proofs.braces.pass_texts.Goals as goal

one_more : (n : ℕ) (k : TokenKind) → open_behind n k ≤ n + 2
one_more n (kind.Text (piece.Head p) m) = omega arith
one_more n (kind.Text piece.Tail m) = omega arith
one_more n other = omega arith

one_passed : (m n : ℕ) (ts us rest : List Token) (k : TokenKind) → 0 < m → k ≡ kind_of ts → n ≡ open_behind (m - 1) k → us ≡ drop 1 ts → behind_texts m ts ≡ rest → behind_texts n us ≡ rest
one_passed m n ts us rest k h p q r e = let a = texts_at {m = m} (m - 1) ts (omega arith) in cc

pub loop-left-preserved : goal.loop-left-preserved
loop-left-preserved c =
    let a = one_more (c.loop-left.left - 1) c.kind.result in
    let b = length-drop 1 c.loop-left.tokens.rest.now in
    record { texts = one_passed _ _ _ _ _ _ (omega arith) c.kind.ensures c.open_behind-left.ensures c.advance.ensures c.loop-left.invariant.texts; few = grind (arith, a, b) }
