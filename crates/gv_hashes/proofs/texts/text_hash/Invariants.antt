use Rattle.std.proofs.Common.{◌≡◌, IsUtf8}
use Rattle.std.specs.Str.{chars}
use Rattle.std.specs.Str.Iter.{chars_rest}
use Rattle.gv_hashes.specs.Rules.{text_joined, text_hash}
use Rattle.gv_hashes.proofs.texts.text_hash.Given as goal

-- what is left joins to the hash of the whole
abbrev pub invariant-loop-character : goal.invariant-loop-character
invariant-loop-character l = IsUtf8 (chars_rest l.character-iterator) × (text_joined l.hash (chars (chars_rest l.character-iterator)) ≡ text_hash (chars l.fn.text))
