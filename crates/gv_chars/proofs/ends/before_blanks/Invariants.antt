use Rattle.std.proofs.Common.{◌≡◌, length, reverse}
use denote.Text.{Utf8}
use denote.Shadow.{shadow}
use Rattle.std.specs.Str.{chars}
use Rattle.gv_chars.specs.Chars.{after_blanks}
use Rattle.gv_chars.proofs.ends.before_blanks.Given as goal

abbrev pub invariant-turns : goal.invariant-turns
invariant-turns l = record {
  text : shadow (Utf8 l.rest);
  left : after_blanks (reverse (chars l.rest)) ≡ after_blanks (reverse (chars l.text));
}

abbrev pub decreases-turns : goal.decreases-turns
decreases-turns l = length (chars l.rest)
