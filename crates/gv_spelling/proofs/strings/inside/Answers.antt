use Rattle.std.proofs.Common.{◌≡◌, arith, ◌≤◌, ◌<◌, ℕ, List, length, take, None, subst}
use Rattle.gv_spelling.specs.declared.kinds.Unit.{Unit}
use Rattle.gv_spelling.specs.Table.{Text, lookup}
use Rattle.gv_spelling.specs.Longest.{IsLongest}
use Rattle.gv_spelling.proofs.Units.{path_first, unicode_longest, fixed_longest, any_longest}
use Rattle.gv_spelling.proofs.strings.inside.Goals as goal

pub returns-then-path-gt0 : goal.returns-then-path-gt0
returns-then-path-gt0 c =
    let some = c.if-path-gt0.true in
    path_first c.args.quote c.args.text.now c.path_len-path.result (c.path_len-path.ensures.dollar some) (c.path_len-path.ensures.two some) (c.path_len-path.ensures.some some)

pub returns-in-Some : goal.returns-in-Some
returns-in-Some c = unicode_longest c.args.quote c.args.text.now c.in-Some.c (c.path_len-path.ensures.none (omega arith)) c.in-Some.ensures.some.0 c.in-Some.ensures.some.1

pub returns-in-Some-longest : goal.returns-in-Some-longest
returns-in-Some-longest c =
    let P : List (Text × Unit) → Type 0 = λ rows. IsLongest (lookup rows) c.args.text.now c.in-Some-longest.found.0 c.in-Some-longest.found.1 in
    fixed_longest c.args.quote c.args.text.now _ _ (c.path_len-path.ensures.none (omega arith)) c.in_default.ensures.none (subst P c.units.ensures.value c.in-Some-longest.ensures.some)

pub returns-in-None : goal.returns-in-None
returns-in-None c =
    let P : List (Text × Unit) → Type 0 = λ rows. (n : ℕ) → 0 < n → n ≤ length c.args.text.now → lookup rows (take n c.args.text.now) ≡ None in
    any_longest c.args.quote c.args.text.now c.at.result (c.path_len-path.ensures.none (omega arith)) c.requires c.at.ensures c.in_default.ensures.none (subst P c.units.ensures.value c.in-None.ensures.none)
