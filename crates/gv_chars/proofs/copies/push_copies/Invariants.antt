use Rattle.std.proofs.Common.{◌≡◌, ◌++◌, encode_utf8_all}
use Rattle.std.specs.Str.{chars}
use Rattle.std.specs.String.{string_bytes}
use Rattle.gv_chars.specs.Chars.{repeated}
use Rattle.gv_chars.proofs.copies.push_copies.Given as goal

abbrev pub invariant-loop-done : goal.invariant-loop-done
invariant-loop-done l = string_bytes l.made ≡ string_bytes l.initial.made ++ encode_utf8_all (repeated l.done (chars l.text))
