-- What a call tells, and the world that it leaves, as the meaning has them together.
use Rattle.gv_calls.specs.declared.told.Told.{Told}
use Rattle.gv_calls.specs.declared.told.Told.TheVariants as told
use Rattle.gv_calls.specs.declared.told.Chosen.{Chosen}
use Rattle.gv_calls.specs.declared.told.Chosen.TheVariants as chosen
use Rattle.gv_meaning.specs.Calls as meaning
use Rattle.gv_meaning.specs.World.{Answer, Got, Threw, Stopped}
use Rattle.gv_meaning.specs.declared.world.World.{World}

abbrev pub answer_of : Told → World → Answer
answer_of (told.Got v) w = Got v w
answer_of (told.Threw v) w = Threw v w
answer_of (told.Stopped y) w = Stopped y w

abbrev pub chosen_of : Chosen → World → meaning.Chosen
chosen_of (chosen.Enter body captured arguments) w = meaning.Enter body captured arguments w
chosen_of (chosen.Else t) w = meaning.Else (answer_of t w)
