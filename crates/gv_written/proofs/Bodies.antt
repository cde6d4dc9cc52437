-- Each body of a unit, and the whole run.
use Rattle.std.proofs.Common.{◌≡◌, ℕ, zero, suc, ◌+◌, ◌-◌, ◌<◌, ◌≤◌, Bool, true, false, List, [], ◌∷◌, ◌++◌, map, length, Option, Some, None, refl, sym, ap, ◌∙◌, subst, arith, append_assoc, length-append}
use Rattle.std.specs.Prelude.{slice_get, if◌then◌else◌}
use Rattle.std.proofs.lemmas.Bool.Decides.{nat_tests}
use Rattle.gv_base.specs.declared.value.Value.{Value}
use Rattle.gv_base.specs.declared.value.Value.TheVariants.{Null, Obj}
use Rattle.gv_core.specs.declared.expr.Const.TheVariants as const
use Rattle.gv_core.specs.declared.stmt.Source.{Source}
use Rattle.gv_code.specs.declared.code.Body.{Body}
use Rattle.gv_code.specs.declared.code.Handler.{Handler}
use Rattle.gv_code.specs.declared.code.OperandKind.TheVariants.{Value as V}
use Rattle.gv_code.specs.declared.code.Op.TheVariants.{Push, Finish}
use Rattle.gv_code.specs.declared.piece.Item.{Item}
use Rattle.gv_code.specs.declared.piece.Item.TheVariants.{Plain, Out}
use Rattle.gv_code.specs.Pieces.{plain, bare, instruction_of}
use Rattle.gv_meaning.specs.declared.frame.Frame.{Frame}
use Rattle.gv_meaning.specs.declared.world.World.{World}
use Rattle.gv_meaning.specs.World.{Answer, Got, Threw, Stopped}
use Rattle.gv_meaning.specs.Calls.{Chosen, Enter, Else}
use Rattle.gv_meaning.specs.Meaning.{Scope, Runner, Outcome, Normal, Left, Raised, Halted, outcome_of, settled, fitted, filled, opening_scope, source_answer, body_of_level, level, meaning}
use Rattle.gv_meaning.specs.Machine.{State, At, Over, no_body, body_in, handler_at, land, lowest, resume, unwind, back, enter, begin, act_on, step, steps}
use Rattle.gv_written.specs.Correct.{IsRight}
use Rattle.gv_written.specs.Written.{declares, stmt_piece, whole, body_of, code_of}
use Rattle.gv_written.proofs.Comes.{Comes, here, next, Serves, Ends, comes_on, one_step, stepped, IsAt, HasAt, has_front, guard_state}
use Rattle.gv_written.proofs.Placed.{alone, placed_from, placed, covers, guard, guards_at, more, WithinAll, length-placed, placed_joined, within_joined}
use Rattle.gv_written.proofs.Scope.{append_none, opening_length}
use Rattle.gv_written.proofs.Stmts.{Runs}
use Rattle.gv_written.proofs.Does.{has_behind}
use Rattle.gv_written.proofs.Trees.{stmt_does}

-- the code of a body of the unit; one that isn't there has none
abbrev body_or_none : Option Source → Body
body_or_none None = no_body
body_or_none (Some b) = body_of b

body_here : (unit : List Source) (k : ℕ) (o : Option Source) → slice_get unit k ≡ o → body_in (code_of unit) k ≡ body_or_none o
body_here [] k o e = ap body_or_none e
body_here (b ∷ bs) zero o e = ap body_or_none e
body_here (b ∷ bs) (suc k) o e = body_here bs k o e

step_here : (before os : List Item) (o : Item) → slice_get (map instruction_of (before ++ o ∷ os)) (length before) ≡ Some (instruction_of o)
step_here [] os o = refl
step_here (p ∷ before) os o = step_here before os o

covered : (h : Handler) (p : ℕ) → true ≡ covers h p → p < h.to
covered h p e = grind (arith, nat_tests)

module _ (code : List Body) (k : ℕ) (frames : List Frame) (d : ℕ) where
  -- where the ways out and the throws of a body lead
  abbrev top_ends : Ends
  top_ends = record { out = λ e v slots w. resume v frames (suc d) w; caught = λ v slots w. unwind code v frames (suc d) w }

  item_here : (pc : ℕ) (o : Item) → slice_get (body_in code k).steps pc ≡ Some (instruction_of o) → IsAt code k frames d top_ends [] pc o
  item_here pc (Plain i) h = h
  item_here pc (Out shape e) h = λ above v slots w. stepped code k frames d pc (v ∷ (above ++ [])) slots w (record { shape = shape; op = Finish }) _ h refl

  -- the table finds what the guards say
  lands : (pc n : ℕ) (hs : List Handler) (stack : List Value) (v : Value) (slots : Scope) (w : World) → WithinAll n hs → land v (handler_at hs pc) k stack slots frames d w (unwind code v frames (suc d) w) ≡ guard_state code k frames d top_ends pc stack slots v w (guards_at pc hs)
  lands pc n [] stack v slots w within = refl
  lands pc n (h ∷ hs) stack v slots w within = found (covers h pc) refl (lands pc n hs stack v slots w within.2)
    where
      found : (c : Bool) → c ≡ covers h pc → land v (handler_at hs pc) k stack slots frames d w (unwind code v frames (suc d) w) ≡ guard_state code k frames d top_ends pc stack slots v w (guards_at pc hs) → land v (if c then Some h else handler_at hs pc) k stack slots frames d w (unwind code v frames (suc d) w) ≡ guard_state code k frames d top_ends pc stack slots v w (more c (guard h pc) (guards_at pc hs))
      found false e r = r
      found true e r =
          let lt : pc < h.to = covered h pc e in
          let p : h.target ≡ pc + 1 + (h.target - (pc + 1)) = omega arith in
          ap (λ n. At k n (v ∷ lowest h.kept stack) slots frames d w) p

  has_all : (hs : List Handler) (n : ℕ) (before os : List Item) → (body_in code k).steps ≡ map instruction_of (before ++ os) → (body_in code k).handlers ≡ hs → WithinAll n hs → HasAt code k frames d top_ends [] (length before) (placed_from (length before) hs os)
  has_all hs n before [] es eh within = tt
  has_all hs n before (o ∷ os) es eh within =
      let m : length (before ++ o ∷ []) ≡ length before + 1 = omega (arith, length-append before (o ∷ [])) in
      let l = append_assoc before (o ∷ []) os in (
        item_here (length before) o (ap (λ l. slice_get l (length before)) es ∙ step_here before os o),
        λ above v slots w. ap (λ hs. land v (handler_at hs (length before)) k (above ++ []) slots frames d w (unwind code v frames (suc d) w)) eh ∙ lands (length before) n hs (above ++ []) v slots w within,
        subst (λ m. HasAt code k frames d top_ends [] m (placed_from m hs os)) m (has_all hs n (before ++ o ∷ []) os (es ∙ ap (map instruction_of) (sym l)) eh within),
      )

  -- the end of a body
  ended : (n new pc : ℕ) (s : State) (o : Outcome) → HasAt code k frames d top_ends [] pc (alone (plain [] (Push const.Null)) ∷ alone (plain (V ∷ []) Finish) ∷ []) → Runs code k frames d top_ends [] n new pc s o → Comes code s (back code (settled o) frames (suc d))
  ended n new pc s (Normal scope w) h r =
      comes_on code r.2 (comes_on code (stepped code k frames d pc [] (scope ++ r.0) w (record { shape = []; op = Push const.Null }) _ h.0 refl) (stepped code k frames d (pc + 1) (Null ∷ []) (scope ++ r.0) w (record { shape = V ∷ []; op = Finish }) _ h.2.0 refl))
  ended n new pc s (Left e v scope w) h r = r.2
  ended n new pc s (Raised v scope w) h r = r.2
  ended n new pc s (Halted y w) h r = r

  -- a body that stands in the code
  source_runs : (run : Runner) → Serves code run d → (b : Source) → body_in code k ≡ body_of b → (ps : List ℕ) (args : List Value) (w : World) → Comes code (At k 0 [] (opening_scope b.captured b.parameters ps args) frames d w) (back code (source_answer run (Some b) ps args w) frames (suc d))
  source_runs run served b eb ps args w =
      let n = b.captured + b.parameters in
      let scope = opening_scope b.captured b.parameters ps args in
      let main = stmt_piece n [] b.tree in
      let rest = bare (plain [] (Push const.Null) ∷ plain (V ∷ []) Finish ∷ []) in
      let last = alone (plain [] (Push const.Null)) ∷ alone (plain (V ∷ []) Finish) ∷ [] in
      let does = stmt_does code k frames d run served b.tree [] top_ends [] n refl in
      let within = within_joined main rest does.within tt in
      let all = has_all (whole b).handlers (length (whole b).items) [] (whole b).items (ap (λ b. b.steps) eb) (ap (λ b. b.handlers) eb) within in
      let has = subst (λ l. HasAt code k frames d top_ends [] 0 l) (placed_joined main rest does.within) all in
      let went = does.by scope [] 0 w (opening_length b.captured b.parameters ps args) (has_front code k frames d top_ends [] 0 (placed main) last has) in
      let came = ended n (declares b.tree) (0 + length main.items) _ (outcome_of run b.tree scope w) (has_behind code k frames d top_ends [] 0 (length main.items) (placed main) last (length-placed main) has) went in
      subst (λ l. Comes code (At k 0 [] l frames d w) (back code (source_answer run (Some b) ps args w) frames (suc d))) (append_none scope) came

module _ (unit : List Source) where
  -- a body begins, if it is there
  opened_runs : (d : ℕ) (run : Runner) → Serves (code_of unit) run d → (k : ℕ) (ps : List ℕ) (args : List Value) (w : World) (fs : List Frame) → Comes (code_of unit) (enter (code_of unit) k ps args w fs (suc d)) (back (code_of unit) (body_of_level unit run k ps args w) fs (suc d))
  opened_runs d run served k ps args w fs = found (slice_get unit k) refl
    where
      found : (o : Option Source) → slice_get unit k ≡ o → Comes (code_of unit) (enter (code_of unit) k ps args w fs (suc d)) (back (code_of unit) (source_answer run o ps args w) fs (suc d))
      found None e =
          let slots = fitted (body_in (code_of unit) k).captured ps ++ filled (body_in (code_of unit) k).parameters args in
          one_step (code_of unit) (ap (λ (b : Body). act_on (code_of unit) (slice_get b.steps 0) k 0 [] slots fs d w) (body_here unit k None e))
      found (Some b) e =
          let eb = body_here unit k (Some b) e in
          subst (λ (c : Body). Comes (code_of unit) (At k 0 [] (fitted c.captured ps ++ filled c.parameters args) fs d w) (back (code_of unit) (source_answer run (Some b) ps args w) fs (suc d))) (sym eb) (source_runs (code_of unit) k fs d run served b eb ps args w)

  levels_serve : (d : ℕ) → Serves (code_of unit) (level unit d) d
  levels_serve zero = record { serves = does }
    where
      does : (c : Chosen) (fs : List Frame) → Comes (code_of unit) (begin (code_of unit) c fs zero) (back (code_of unit) (level unit zero c) fs zero)
      does (Enter k ps args w) fs = here
      does (Else o) fs = here
  levels_serve (suc d) = record { serves = does (levels_serve d) }
    where
      does : Serves (code_of unit) (level unit d) d → (c : Chosen) (fs : List Frame) → Comes (code_of unit) (begin (code_of unit) c fs (suc d)) (back (code_of unit) (level unit (suc d) c) fs (suc d))
      does served (Enter k ps args w) fs = opened_runs d (level unit d) served k ps args w fs
      does served (Else o) fs = here

stays : (code : List Body) (m : ℕ) (o : Answer) → steps code m (Over o) ≡ Over o
stays code zero o = refl
stays code (suc m) o = stays code m o

counts : (code : List Body) (s t : State) (o : Answer) → Comes code s t → t ≡ Over o → (n : ℕ) × ((m : ℕ) → n ≤ m → steps code m s ≡ Over o)
counts code s t o here e = (0, λ m le. ap (steps code m) e ∙ stays code m o)
counts code s t o (next c) e = let r = counts code (step code s) t o c e in (suc r.0, λ m le. more_steps r.0 r.1 m le)
  where
    more_steps : (n : ℕ) → ((m : ℕ) → n ≤ m → steps code m (step code s) ≡ Over o) → (m : ℕ) → suc n ≤ m → steps code m s ≡ Over o
    more_steps n f zero le = absurd (omega arith)
    more_steps n f (suc m) le = f m (omega arith)

over_all : (code : List Body) (o : Answer) (d : ℕ) → back code o [] d ≡ Over o
over_all code (Got v w) d = refl
over_all code (Threw v w) d = refl
over_all code (Stopped y w) d = refl

pub right : (unit : List Source) → IsRight (code_of unit) unit
right unit w =
    let code = code_of unit in
    counts code _ _ (meaning unit w) (opened_runs unit w.depth (level unit w.depth) (levels_serve unit w.depth) 0 [] (Obj w.script ∷ []) w []) (over_all code (meaning unit w) (suc w.depth))
