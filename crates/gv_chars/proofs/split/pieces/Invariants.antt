use Rattle.std.proofs.Common.{◌≡◌, ◌++◌, length, map, encode_utf8_all}
use denote.Text.{Utf8}
use denote.Shadow.{shadow}
use Rattle.std.specs.Str.{chars}
use Rattle.std.specs.String.{string_bytes}
use Rattle.gv_chars.specs.Chars.{pieces}
use Rattle.gv_chars.proofs.split.pieces.Given as goal

abbrev pub invariant-turns : goal.invariant-turns
invariant-turns l = record {
  text : shadow (Utf8 l.rest);
  left :
      map string_bytes l.made.items ++ map encode_utf8_all (pieces (chars l.separators) (chars l.rest))
      ≡ map encode_utf8_all (pieces (chars l.separators) (chars l.text));
}

abbrev pub decreases-turns : goal.decreases-turns
decreases-turns l = length (chars l.rest)
