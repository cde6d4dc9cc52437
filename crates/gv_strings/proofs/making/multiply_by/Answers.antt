use Rattle.std.proofs.Common.{codes, subst, sym, w64}
use Rattle.std.proofs.lemmas.Int.{to_z-of_z}
use Rattle.std.specs.Fmt.{signed_decimal}
use Rattle.gv_base.specs.declared.exception.ExceptionKind.TheVariants.{IllegalArgumentException}
use Rattle.gv_rows.specs.Reply.{Did, Throws, said}
use Rattle.gv_strings.specs.Making.{multiply_by}
use Rattle.gv_strings.specs.Texts.{text_at}
use Rattle.gv_strings.proofs.making.multiply_by.Goals as goal

pub returns-in-None : goal.returns-in-None
returns-in-None c =
    let heap = c.args.heap.now in
    subst (λ count. Did heap (multiply_by heap (text_at heap c.args.string) c.args.n count) c.throw_negative.result heap) (sym c.in-None.is)
    (subst (λ n. Did heap (Throws IllegalArgumentException (said (codes "Negative count: ") (signed_decimal n))) c.throw_negative.result heap)
    (to_z-of_z w64 c.args.n c.ranges.n) (c.throw_negative.ensures heap))
