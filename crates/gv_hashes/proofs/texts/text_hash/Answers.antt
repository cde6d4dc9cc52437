use Rattle.std.proofs.Common.{w32}
use Rattle.std.specs.Str.Iter.{chars_rest}
use Rattle.std.proofs.lemmas.Int.{to_z-of_z}
use Rattle.std.proofs.lemmas.Str.{IsUtf8-past_char, chars_past_char}
use Rattle.gv_hashes.proofs.Empty.{no_chars}
use Rattle.gv_hashes.proofs.texts.text_hash.Goals as goal

pub loop-character-preserved : goal.loop-character-preserved
loop-character-preserved c =
    let step = rw c.in-Some.is at c.next.ensures.steps in
    let rest = chars_rest c.loop-character.character-iterator in
    let next = chars_rest c.next.new.self in
    let past = chars_past_char rest next c.in-Some.character c.loop-character.invariant.0 step.0 in (
      IsUtf8-past_char rest next c.in-Some.character c.loop-character.invariant.0 step.0,
      rw (to_z-of_z w32 c.joined-hash.result (record { sfits = c.joined-hash.type_inv }), c.joined-hash.ensures, to_z-of_z w32 c.number_of.result (record { sfits = c.number_of.type_inv }), c.number_of.ensures) (rw past at c.loop-character.invariant.1),
    )

pub returns : goal.returns
returns c =
    let step = rw c.in-None.is at c.next.ensures.steps in
    rw (no_chars (chars_rest c.loop-character.character-iterator) step.0.0) at c.loop-character.invariant.1
