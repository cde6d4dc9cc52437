use Rattle.std.proofs.Common.{ap, w64, codes, ◌∙◌, refl}
use Rattle.std.proofs.lemmas.Int.{to_z-of_z}
use Rattle.std.specs.Fmt.{signed_decimal}
use Rattle.gv_base.specs.declared.exception.ExceptionKind.TheVariants.{StringIndexOutOfBoundsException}
use Rattle.gv_strings.proofs.Said.{same_parts}
use Rattle.gv_strings.proofs.throwing.throw_outside.Goals as goal

pub returns : goal.returns
returns c =
    same_parts StringIndexOutOfBoundsException (codes "String index out of range: ") c.as_str.result.now
    (codes "String index out of range: ") (signed_decimal c.args.given) c.throw_joined.result
    refl (c.as_str.ensures.value ∙ c.in-Ok.ensures ∙ ap signed_decimal (to_z-of_z w64 c.args.given c.ranges.given)) c.throw_joined.ensures
