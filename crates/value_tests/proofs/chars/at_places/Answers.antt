use Rattle.std.proofs.Common.{◌<◌, length, get_or, arith}
use borrow.Author.Count.{below_more}
use Rattle.std.specs.Str.{chars}
use Rattle.std.proofs.lemmas.List.{get_or_default}
use Rattle.value_tests.proofs.chars.at_places.Goals as goal

pub loop-place-preserved : goal.loop-place-preserved
loop-place-preserved c =
    below_more (λ k. get_or c.args.places.now k 0 < length (chars c.args.text.now)) c.loop-place.place-index c.loop-place.invariant (omega arith)

pub picked-requires : goal.picked-requires
picked-requires c = λ k d within.
    let e = get_or_default c.args.places.now k d 0 within in
    omega (arith, e, c.loop-place.invariant k (omega arith))
