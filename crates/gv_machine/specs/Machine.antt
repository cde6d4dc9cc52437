-- What a machine is seen as, and how it goes on.
use Rattle.std.specs.Prelude.{◌≡◌, ℕ, Bool, true, false, List, []}
use Rattle.gv_code.specs.declared.code.Body.{Body}
use Rattle.gv_meaning.specs.declared.world.World.{World}
use Rattle.gv_meaning.specs.declared.world.Why.TheVariants as why
use Rattle.gv_meaning.specs.World.{Answer, Got, Threw, Stopped}
use Rattle.gv_calls.specs.Told.{answer_of}
use Rattle.gv_run.specs.Runs.{ComesTo}
use Rattle.gv_machine.specs.declared.end.End.{End}
use Rattle.gv_machine.specs.declared.end.End.TheVariants as end
use Rattle.gv_machine.specs.declared.end.Pause.{Pause}
use Rattle.gv_machine.specs.declared.end.Pause.TheVariants as pause
use Rattle.gv_machine.specs.declared.machine.Rest.{Rest}
use Rattle.gv_machine.specs.declared.machine.Rest.TheVariants as rest

-- where a run stands: at its start in a world, at its end, or nowhere, where memory was wanting
pub data Stand : Type 0 where
  Ready : (w : World) → Stand
  Ended : (o : Answer) → Stand
  Lost : Stand

-- a code, and where its run stands
pub record Seen : Type 0 where
  pub code : List Body
  pub stand : Stand

abbrev pub stand_of : Rest → Stand
stand_of (rest.Ready w) = Ready w
stand_of (rest.Ended told w) = Ended (answer_of told w)
stand_of rest.Lost = Lost

abbrev pub ready : List Body → World → Seen
ready code w = record { code = code; stand = Ready w }

abbrev pub lost : Seen → Seen
lost m = record m { stand = Lost }

-- ---- going on

abbrev pub has_ended : Stand → Bool
has_ended (Ended o) = true
has_ended other = false

-- how a run ends that comes to an answer
abbrev pub end_of : Answer → End
end_of (Got v w) = end.Value v
end_of (Threw v w) = end.Uncaught v
end_of (Stopped why.Ticks w) = end.Ticks
end_of (Stopped why.Cells w) = end.Cells
end_of (Stopped why.Depth w) = end.Depth

-- to what a run comes from where it stands: at its end it stays, and where it is lost it comes to nothing
abbrev pub EndsWith : List Body → Stand → Answer → Type 0
EndsWith code (Ready w) o = ComesTo code w o
EndsWith code (Ended e) o = o ≡ e
EndsWith code Lost o = ⊥

-- a machine goes on to an end, tells it, and stands there
abbrev pub Advances : Seen → Pause → Seen → Type 0
Advances old p new = (o : Answer) × EndsWith old.code old.stand o × (p ≡ pause.Ended (end_of o)) × (new ≡ record old { stand = Ended o })

-- ---- output

abbrev pub world_of : Answer → World
world_of (Got v w) = w
world_of (Threw v w) = w
world_of (Stopped y w) = w

-- what was printed and not dropped: of a lost run nothing
abbrev pub printed : Stand → List ℕ
printed (Ready w) = w.output
printed (Ended o) = (world_of o).output
printed Lost = []

abbrev pub waiting : Seen → List ℕ
waiting m = printed m.stand

-- ---- output that is dropped

abbrev pub silent : World → World
silent w = record w { output = [] }

abbrev pub silent_answer : Answer → Answer
silent_answer (Got v w) = Got v (silent w)
silent_answer (Threw v w) = Threw v (silent w)
silent_answer (Stopped y w) = Stopped y (silent w)

abbrev pub silent_stand : Stand → Stand
silent_stand (Ready w) = Ready (silent w)
silent_stand (Ended o) = Ended (silent_answer o)
silent_stand Lost = Lost

abbrev pub dropped : Seen → Seen
dropped m = record m { stand = silent_stand m.stand }
