-- What small scripts mean, by computing.
use Rattle.std.specs.Prelude.{◌≡◌, refl, false, pos, [], ◌∷◌, ◌++◌, codes}
use Rattle.gv_base.specs.declared.value.Value.TheVariants.{Bool as Truth, Int}
use Rattle.gv_natives.specs.BuiltIn.{built_in}
use Rattle.gv_meaning.specs.World.{Got, Stopped, Ticks, Cells}
use Rattle.gv_meaning.specs.Meaning.{and_then, first_given, with_first, all_then, pick, with_value, then_do, kept, looped, meaning}
use Rattle.gv_meaning.specs.Examples.{world, looping, breaking, sharing, calling}

pub loops : meaning looping (world 2 0) ≡ Got (Truth false) (world 0 0)
unfolding and_then pick with_value then_do kept looped
loops = refl

pub stops : meaning looping (world 1 0) ≡ Stopped Ticks (world 0 0)
unfolding and_then pick with_value then_do kept looped
stops = refl

pub breaks : meaning breaking (world 1 0) ≡ Got (Int (pos 2)) (world 0 0)
unfolding and_then pick with_value then_do kept looped
breaks = refl

pub lacks : meaning sharing (world 1 0) ≡ Stopped Cells (world 1 0)
unfolding and_then pick with_value then_do kept
lacks = refl

pub calls : meaning calling (world 2 0) ≡ Stopped Cells (record (world 0 0) { output = codes "true" ++ 10 ∷ [] })
unfolding and_then first_given with_first all_then pick with_value then_do kept built_in
calls = refl
