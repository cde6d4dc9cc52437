use Rattle.std.proofs.Common.{rules, ◌∙◌}
use Rattle.std.specs.Prelude.{FitsSigned}
use Rattle.std.specs.Int.{w64}
use Rattle.std.specs.Str.{chars}
use Rattle.std.proofs.lemmas.Int.{to_z-of_z}
use Rattle.gv_chars.proofs.Numbers.{integer_by}
use Rattle.gv_chars.proofs.integers.integer_in.Goals as goal

pub returns : goal.returns
returns c =
    let least : FitsSigned w64 c.args.least = c.ranges.least in
    let greatest : FitsSigned w64 c.args.greatest = c.ranges.greatest in
    let number : FitsSigned w64 c.in_ok-long_of.field-0 = search rules in
    let given = c.within.ensures in
    let same = simp to_z-of_z at given in
    same ∙ integer_by c.args.least c.args.greatest c.in_ok-long_of.field-0 (chars c.args.text.now) (chars c.trimmed.result.now) least greatest c.in_ok-long_of.ensures c.trimmed.ensures.characters
