-- Where the elements of a sequence come from, as src/sequence.rt keeps it.
use Rattle.std.specs.Prelude.{ℕ, ℤ, pos, ◌+ℤ◌, ◌-ℤ◌, Bool, List, if◌then◌else◌}
use Rattle.gv_base.specs.declared.value.Value.{Value}
use Rattle.gv_rows.specs.Values.{elements_of}
use Rattle.gv_rows.specs.declared.sequence.Source.{Source}
use Rattle.gv_rows.specs.declared.sequence.Source.TheVariants.{Elements, Range}

abbrev pub elements_from : Source → List Value
elements_from (Elements elements) = elements.now
elements_from (Range range) = elements_of range.now

-- the number that stands so many steps behind one
abbrev pub stepped : Bool → ℤ → ℕ → ℤ
stepped down n steps = if down then n -ℤ pos steps else n +ℤ pos steps
