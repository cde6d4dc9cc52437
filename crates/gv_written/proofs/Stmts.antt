-- Where the outcomes of statements lead.
use Rattle.std.proofs.Common.{◌≡◌, ℕ, ◌+◌, ◌≤◌, Bool, true, false, List, [], ◌∷◌, ◌++◌, length, Some, refl, ap, subst, arith}
use Rattle.std.specs.Prelude.{slice_get, drop}
use Rattle.std.proofs.lemmas.List.{length-take-le}
use Rattle.gv_base.specs.declared.value.Value.{Value}
use Rattle.gv_code.specs.declared.code.Body.{Body}
use Rattle.gv_code.specs.declared.code.Op.TheVariants.{JumpOn, JumpUnless}
use Rattle.gv_code.specs.Pieces.{Shape}
use Rattle.gv_meaning.specs.declared.frame.Frame.{Frame}
use Rattle.gv_meaning.specs.declared.world.World.{World}
use Rattle.gv_meaning.specs.World.{is_true}
use Rattle.gv_meaning.specs.Meaning.{Scope, Result, Given, Thrown, Halt, Outcome, Normal, Left, Raised, Halted, with_value, kept, enclosed, pick}
use Rattle.gv_meaning.specs.Machine.{State, At, body_in, stopped}
use Rattle.gv_written.proofs.Comes.{Comes, Ends, comes_on, comes_as, stepped}
use Rattle.gv_written.proofs.Scope.{slots_cut}
use Rattle.gv_written.proofs.Run.{Spot, Lands}

module _ (code : List Body) (k : ℕ) (frames : List Frame) (d : ℕ) where
  abbrev pub spot : Ends → List Value → ℕ → Scope → Spot code
  spot ends base n junk = record { k = k; frames = frames; d = d; ends = ends; base = base; n = n; junk = junk }

  abbrev pub at : ℕ → List Value → Scope → Scope → World → State
  at pc stack scope junk w = At k pc stack (scope ++ junk) frames d w

  -- a run from a state, with n variables in scope, does what an outcome says; where it ends normally it has new ones
  abbrev pub Runs : Ends → List Value → ℕ → ℕ → ℕ → State → Outcome → Type 0
  Runs ends base n new pc s (Normal scope w) = (junk : Scope) × (length scope ≡ n + new) × Comes code s (at pc base scope junk w)
  Runs ends base n new pc s (Left e v scope w) = (junk : Scope) × (length scope ≡ n) × Comes code s (ends.out e v (scope ++ junk) w)
  Runs ends base n new pc s (Raised v scope w) = (junk : Scope) × (length scope ≡ n) × Comes code s (ends.caught v (scope ++ junk) w)
  Runs ends base n new pc s (Halted y w) = Comes code s (stopped y w)

  pub after : (ends : Ends) (base : List Value) (n new pc : ℕ) (s t : State) (o : Outcome) → Comes code s t → Runs ends base n new pc t o → Runs ends base n new pc s o
  after ends base n new pc s t (Normal scope w) c r = (r.0, r.1, comes_on code c r.2)
  after ends base n new pc s t (Left e v scope w) c r = (r.0, r.1, comes_on code c r.2)
  after ends base n new pc s t (Raised v scope w) c r = (r.0, r.1, comes_on code c r.2)
  after ends base n new pc s t (Halted y w) c r = comes_on code c r

  pub runs_at : (ends : Ends) (base : List Value) (n new pc pc' : ℕ) (s : State) (o : Outcome) → pc ≡ pc' → Runs ends base n new pc s o → Runs ends base n new pc' s o
  runs_at ends base n new pc pc' s o e r = subst (λ p. Runs ends base n new p s o) e r

  pub value_runs : (ends : Ends) (base : List Value) (n new : ℕ) (junk : Scope) (s : State) (pc pc' : ℕ) (o : Result) (f : Value → Scope → World → Outcome) → Lands code (spot ends base n junk) pc [] s o → ((v : Value) (scope : Scope) (w : World) → length scope ≡ n → Comes code s (at pc (v ∷ base) scope junk w) → Runs ends base n new pc' (at pc (v ∷ base) scope junk w) (f v scope w)) → Runs ends base n new pc' s (with_value o f)
  unfolding with_value
  value_runs ends base n new junk s pc pc' (Given v scope w) f c r = after ends base n new pc' s _ (f v scope w) c.1 (r v scope w c.0 c.1)
  value_runs ends base n new junk s pc pc' (Thrown v scope w) f c r = (junk, c.0, c.1)
  value_runs ends base n new junk s pc pc' (Halt y w) f c r = c

  -- the variables of an inner scope are given up
  pub kept_runs : (ends : Ends) (base : List Value) (n inner new m pc : ℕ) (s : State) (o : Outcome) → m ≡ n → n ≤ inner → Runs ends base inner new pc s o → Runs ends base n 0 pc s (kept m o)
  unfolding kept
  kept_runs ends base n inner new m pc s (Normal scope w) e le r =
      let l = r.1 in
      let c = length-take-le m scope (omega arith) in
      (drop m scope ++ r.0, omega arith, comes_as code r.2 (ap (λ l. At k pc base l frames d w) (slots_cut m scope r.0)))
  kept_runs ends base n inner new m pc s (Left x v scope w) e le r =
      let l = r.1 in
      let c = length-take-le m scope (omega arith) in
      (drop m scope ++ r.0, omega arith, comes_as code r.2 (ap (λ l. ends.out x v l w) (slots_cut m scope r.0)))
  kept_runs ends base n inner new m pc s (Raised v scope w) e le r =
      let l = r.1 in
      let c = length-take-le m scope (omega arith) in
      (drop m scope ++ r.0, omega arith, comes_as code r.2 (ap (λ l. ends.caught v l w) (slots_cut m scope r.0)))
  kept_runs ends base n inner new m pc s (Halted y w) e le r = r

  -- a statement with a scope of its own
  pub enclosed_runs : (ends : Ends) (base : List Value) (n new : ℕ) (scope : Scope) (pc : ℕ) (s : State) (o : Outcome) → length scope ≡ n → Runs ends base n new pc s o → Runs ends base n 0 pc s (enclosed scope o)
  enclosed_runs ends base n new scope pc s o e r = kept_runs ends base n n new (length scope) pc s o e (omega arith) r

  -- the code goes on from where an outcome is normal
  pub moved : (ends : Ends) (base : List Value) (n pc pc' : ℕ) (s : State) (o : Outcome) → Runs ends base n 0 pc s o → ((scope junk : Scope) (w : World) → Comes code (at pc base scope junk w) (at pc' base scope junk w)) → Runs ends base n 0 pc' s o
  moved ends base n pc pc' s (Normal scope w) r c = (r.0, r.1, comes_on code r.2 (c scope r.0 w))
  moved ends base n pc pc' s (Left e v scope w) r c = r
  moved ends base n pc pc' s (Raised v scope w) r c = r
  moved ends base n pc pc' s (Halted y w) r c = r

  pub pick_runs : (ends : Ends) (base : List Value) (n new pc : ℕ) (b : Bool) (s t : State) (o p : Outcome) → Runs ends base n new pc s o → Runs ends base n new pc t p → Runs ends base n new pc (pick b s t) (pick b o p)
  unfolding pick
  pick_runs ends base n new pc true s t o p x y = x
  pick_runs ends base n new pc false s t o p x y = y

  -- a test on the operands, and the jump that it decides
  pub test_runs : (ends : Ends) (base : List Value) (n new : ℕ) (scope junk : Scope) (pc far pc' : ℕ) (below : Shape) (v : Value) (w : World) (o p : Outcome) → slice_get (body_in code k).steps pc ≡ Some (record { shape = below; op = JumpUnless far }) → Runs ends base n new pc' (at (pc + 1) base scope junk w) o → Runs ends base n new pc' (at (pc + 1 + far) base scope junk w) p → Runs ends base n new pc' (at pc (v ∷ base) scope junk w) (pick (is_true v) o p)
  test_runs ends base n new scope junk pc far pc' below v w o p h x y =
      after ends base n new pc' _ _ (pick (is_true v) o p) (stepped code k frames d pc (v ∷ base) (scope ++ junk) w (record { shape = below; op = JumpUnless far }) _ h refl) (pick_runs ends base n new pc' (is_true v) _ _ o p x y)

  pub jumped : (base : List Value) (pc n pc' : ℕ) (below : Shape) (slots : Scope) (w : World) → pc + 1 + n ≡ pc' → slice_get (body_in code k).steps pc ≡ Some (record { shape = below; op = JumpOn n }) → Comes code (At k pc base slots frames d w) (At k pc' base slots frames d w)
  jumped base pc n pc' below slots w e h = stepped code k frames d pc base slots w (record { shape = below; op = JumpOn n }) _ h (ap (λ p. At k p base slots frames d w) e)
