use Rattle.std.proofs.Common.{ap, w32, codes, ◌∙◌, ◌++◌}
use Rattle.std.proofs.lemmas.Int.{to_z-of_z}
use Rattle.std.specs.Fmt.{decimal, signed_decimal}
use Rattle.gv_base.specs.declared.exception.ExceptionKind.TheVariants.{IndexOutOfBoundsException}
use Rattle.gv_searches.proofs.Texts.{same_parts}
use Rattle.gv_searches.proofs.places.throw_outside.Goals as goal

pub returns : goal.returns
returns c =
    same_parts IndexOutOfBoundsException c.as_str.result.now c.as_str-2.result.now
    (codes "Index: " ++ signed_decimal c.args.given) (codes ", Size: " ++ decimal c.args.size) c.throw_joined.result
    (c.as_str.ensures.value ∙ c.in-Ok.ensures ∙ ap (λ z. codes "Index: " ++ signed_decimal z) (to_z-of_z w32 c.args.given c.ranges.given)) (c.as_str-2.ensures.value ∙ c.in-Ok-size_text.ensures) c.throw_joined.ensures
