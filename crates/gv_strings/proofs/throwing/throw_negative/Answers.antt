use Rattle.std.proofs.Common.{ap, w64, codes, ◌∙◌, refl}
use Rattle.std.proofs.lemmas.Int.{to_z-of_z}
use Rattle.std.specs.Fmt.{signed_decimal}
use Rattle.gv_base.specs.declared.exception.ExceptionKind.TheVariants.{IllegalArgumentException}
use Rattle.gv_strings.proofs.Said.{same_parts}
use Rattle.gv_strings.proofs.throwing.throw_negative.Goals as goal

pub returns : goal.returns
returns c =
    same_parts IllegalArgumentException (codes "Negative count: ") c.as_str.result.now
    (codes "Negative count: ") (signed_decimal c.args.n) c.throw_joined.result
    refl (c.as_str.ensures.value ∙ c.in-Ok.ensures ∙ ap signed_decimal (to_z-of_z w64 c.args.n c.ranges.n)) c.throw_joined.ensures
