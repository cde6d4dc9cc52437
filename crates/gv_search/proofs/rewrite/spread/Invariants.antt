use Rattle.std.proofs.Common.{◌≡◌, ◌++◌, string_bytes, IsUtf8}
use Rattle.std.specs.Str.Iter.{chars_rest}
use Rattle.gv_search.specs.Texts as spec
use Rattle.gv_search.proofs.rewrite.spread.Given as goal

-- what was written and what is left make up the whole
abbrev pub invariant-loop-c : goal.invariant-loop-c
invariant-loop-c l = IsUtf8 (chars_rest l.c-iterator) × (string_bytes l.new ++ spec.spread (chars_rest l.c-iterator) l.with ≡ spec.spread l.fn.text l.fn.with)
