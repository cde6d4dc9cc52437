-- How many steps are left.
use Rattle.std.proofs.Common.{◌≡◌, ℕ, zero, suc, ◌<◌, List, refl, sym, ap, ◌∙◌, subst, arith}
use Rattle.gv_code.specs.declared.code.Body.{Body}
use Rattle.gv_meaning.specs.World.{Answer}
use Rattle.gv_meaning.specs.Machine.{State, At, Over, step, steps}
use Rattle.gv_calls.specs.Told.{answer_of}
use Rattle.gv_calls.specs.declared.told.Told.{Told}
use Rattle.gv_run.specs.declared.state.Control.{Control}
use Rattle.gv_run.specs.declared.state.Mode.{Mode}
use Rattle.gv_run.specs.declared.state.Mode.TheVariants as mode
use Rattle.gv_run.specs.declared.state.Running.{Running}
use Rattle.gv_run.specs.Runs.{IsOver, EndsIn}
use Rattle.gv_run.specs.States.{state_of}

abbrev pub left : List Body → ℕ → State → ℕ
left code zero s = 0
left code (suc n) (Over o) = 0
left code (suc n) (At k at stack slots fs d w) = suc (left code n (step code (At k at stack slots fs d w)))

left_more : (code : List Body) (n : ℕ) (s : State) → IsOver (steps code n s) → left code (suc n) s ≡ left code n s
left_more code zero (Over o) h = refl
left_more code zero (At k at stack slots fs d w) h = elim h [ ]
left_more code (suc n) (Over o) h = refl
left_more code (suc n) (At k at stack slots fs d w) h = ap suc (left_more code n (step code (At k at stack slots fs d w)) h)

abbrev pub NotOver : State → Type 0
NotOver (Over o) = ⊥
NotOver (At k at stack slots fs d w) = Unit {0}

left_less : (code : List Body) (n : ℕ) (s : State) → NotOver s → IsOver (steps code n s) → left code n (step code s) < left code n s
left_less code n (Over o) going h = elim going [ ]
left_less code zero (At k at stack slots fs d w) going h = elim h [ ]
left_less code (suc n) (At k at stack slots fs d w) going h = let e = left_more code n (step code (At k at stack slots fs d w)) h in omega arith

same_end : (code : List Body) (n : ℕ) (s : State) → IsOver (steps code n s) → steps code n (step code s) ≡ steps code n s
same_end code zero (Over o) h = refl
same_end code zero (At k at stack slots fs d w) h = elim h [ ]
same_end code (suc n) s h = same_end code n (step code s) h

pub next_left : (code : List Body) (n : ℕ) (s t : State) → step code s ≡ t → NotOver s → EndsIn code n s → left code n t < left code n s
next_left code n s t e going h = subst (λ t. left code n t < left code n s) e (left_less code n s going h.over)

pub next_same : (code : List Body) (n : ℕ) (s t u : State) → step code s ≡ t → EndsIn code n s → steps code n s ≡ u → steps code n t ≡ u
next_same code n s t u e h f = ap (λ t. steps code n t) (sym e) ∙ same_end code n s h.over ∙ f

pub next_ends : (code : List Body) (n : ℕ) (s t : State) → step code s ≡ t → EndsIn code n s → EndsIn code n t
next_ends code n s t e h = record { over = subst IsOver (sym (next_same code n s t (steps code n s) e h refl)) h.over }

stays : (code : List Body) (n : ℕ) (o : Answer) → steps code n (Over o) ≡ Over o
stays code zero o = refl
stays code (suc n) o = stays code n o

pub over_stays : (code : List Body) (n : ℕ) (s t : State) (o : Answer) → steps code n s ≡ t → s ≡ Over o → t ≡ Over o
over_stays code n s t o e f = sym e ∙ ap (λ s. steps code n s) f ∙ stays code n o

-- ---- a turn of the loop

module _ (code : List Body) (n : ℕ) (m next : Mode) (now : Running) (c d : Control) (at : m ≡ mode.At now) (steps_on : step code (state_of (mode.At now) c) ≡ state_of next d) (ends : EndsIn code n (state_of m c)) where
  to_next : step code (state_of m c) ≡ state_of next d
  to_next = ap (λ m. step code (state_of m c)) at ∙ steps_on

  pub turn_left : left code n (state_of next d) < left code n (state_of m c)
  turn_left = next_left code n (state_of m c) (state_of next d) to_next (subst (λ m. NotOver (state_of m c)) (sym at) tt) ends

  pub turn_ends : EndsIn code n (state_of next d)
  turn_ends = next_ends code n (state_of m c) (state_of next d) to_next ends

  pub turn_same : (s : State) → steps code n (state_of m c) ≡ s → steps code n (state_of next d) ≡ s
  turn_same s same = next_same code n (state_of m c) (state_of next d) s to_next ends same

pub turn_over : (code : List Body) (n : ℕ) (m : Mode) (told : Told) (c : Control) (t : State) → m ≡ mode.Over told → steps code n (state_of m c) ≡ t → t ≡ Over (answer_of told c.world)
turn_over code n m told c t e same = over_stays code n (state_of m c) t (answer_of told c.world) same (ap (λ m. state_of m c) e)
