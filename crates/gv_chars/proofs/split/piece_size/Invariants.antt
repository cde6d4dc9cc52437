use Rattle.std.proofs.Common.{◌≡◌, ◌+◌, length}
use denote.Text.{Utf8}
use denote.Shadow.{shadow}
use Rattle.std.specs.List.{position_or_len}
use Rattle.std.specs.Str.{chars}
use Rattle.gv_chars.specs.Chars.{is_among}
use Rattle.gv_chars.proofs.split.piece_size.Given as goal

abbrev pub invariant-turns : goal.invariant-turns
invariant-turns l = record {
  text : shadow (Utf8 l.rest);
  left :
      l.size + position_or_len (is_among (chars l.separators)) (chars l.rest)
      ≡ position_or_len (is_among (chars l.separators)) (chars l.text);
  passed : l.size + length (chars l.rest) ≡ length (chars l.text);
}

abbrev pub decreases-turns : goal.decreases-turns
decreases-turns l = length (chars l.rest)
