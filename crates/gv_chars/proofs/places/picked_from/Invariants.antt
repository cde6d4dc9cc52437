use Rattle.std.proofs.Common.{◌≡◌, take, encode_utf8_all}
use Rattle.std.specs.String.{string_bytes}
use Rattle.gv_chars.specs.Chars.{picked}
use Rattle.gv_chars.proofs.places.picked_from.Given as goal

abbrev pub invariant-loop-place : goal.invariant-loop-place
invariant-loop-place l = string_bytes l.made ≡ encode_utf8_all (picked (take l.place-index l.places) l.characters)
