use Rattle.std.proofs.Common.{◌≡◌, length}
use denote.Text.{Utf8}
use denote.Shadow.{shadow}
use Rattle.std.specs.Str.{chars}
use Rattle.gv_chars.specs.Chars.{compared}
use Rattle.gv_chars.proofs.order.compared.Given as goal

abbrev pub invariant-turns : goal.invariant-turns
invariant-turns l = record {
  left_text : shadow (Utf8 l.left);
  right_text : shadow (Utf8 l.right);
  left : compared (chars l.left) (chars l.right) ≡ compared (chars l.a) (chars l.b);
}

abbrev pub decreases-turns : goal.decreases-turns
decreases-turns l = length (chars l.left)
