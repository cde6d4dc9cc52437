use Rattle.std.proofs.Common.{◌≡◌, length}
use denote.Text.{Utf8}
use denote.Shadow.{shadow}
use Rattle.std.specs.Str.{chars}
use Rattle.gv_chars.specs.Chars.{is_among}
use Rattle.gv_chars.proofs.split.is_among.Given as goal

abbrev pub invariant-turns : goal.invariant-turns
invariant-turns l = record {
  text : shadow (Utf8 l.rest);
  left : is_among (chars l.rest) l.character ≡ is_among (chars l.set) l.character;
}

abbrev pub decreases-turns : goal.decreases-turns
decreases-turns l = length (chars l.rest)
