use Rattle.std.proofs.Common.{◌≡◌, ◌++◌, drop, length, map, string_bytes}
use Rattle.gv_strings.specs.Lists.{numbered, paid_texts}
use Rattle.gv_strings.proofs.lists.make_texts.Given as goal

abbrev pub invariant-loop-text : goal.invariant-loop-text
invariant-loop-text l =
    (l.strings.items ++ numbered (length l.heap.objects) (map string_bytes (drop l.text-index l.texts)) ≡ numbered (length l.fn.heap.objects) (map string_bytes l.texts))
    × (paid_texts l.heap (map string_bytes (drop l.text-index l.texts)) ≡ paid_texts l.fn.heap (map string_bytes l.texts))
