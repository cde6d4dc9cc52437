use Rattle.std.proofs.Common.{ℤ, w32, codes, ◌++◌, subst, arith}
use Rattle.std.proofs.lemmas.Int.{to_z-of_z}
use Rattle.std.specs.Fmt.{decimal, signed_decimal}
use Rattle.gv_base.specs.declared.exception.ExceptionKind.TheVariants.{IndexOutOfBoundsException}
use Rattle.gv_rows.specs.Reply.{DoesThrow, said}
use Rattle.gv_searches.proofs.Heaps.{did_outside}
use Rattle.gv_searches.proofs.places.remove_place.Goals as goal

pub returns-else-place-size : goal.returns-else-place-size
returns-else-place-size c =
    let size = c.size_of-size.result in
    let Throws : ℤ → Type 0 = λ z. DoesThrow IndexOutOfBoundsException (said (codes "Index: " ++ signed_decimal z) (codes ", Size: " ++ decimal size)) c.throw_outside.result in
    did_outside c.args.heap.now c.args.id c.args.given c.args.place size c.throw_outside.result
    c.size_of-size.ensures (omega (arith, c.if-place-size.false)) (subst Throws (to_z-of_z w32 c.args.given c.ranges.given) c.throw_outside.ensures)
