use Rattle.std.proofs.Common.{◌≡◌, ◌++◌, length, reverse, encode_utf8_all}
use denote.Text.{Utf8}
use denote.Shadow.{shadow}
use Rattle.std.specs.Str.{chars}
use Rattle.std.specs.String.{string_bytes}
use Rattle.gv_chars.proofs.places.reversed.Given as goal

abbrev pub invariant-turns : goal.invariant-turns
invariant-turns l = record {
  text : shadow (Utf8 l.rest);
  left : string_bytes l.made ++ encode_utf8_all (reverse (chars l.rest)) ≡ encode_utf8_all (reverse (chars l.text));
}

abbrev pub decreases-turns : goal.decreases-turns
decreases-turns l = length (chars l.rest)
