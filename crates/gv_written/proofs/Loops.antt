-- Loops.
use Rattle.std.proofs.Common.{◌≡◌, ℕ, zero, suc, ◌+◌, ◌-◌, ◌<◌, List, [], ◌∷◌, ◌++◌, length, Some, refl, sym, ap, ◌∙◌, subst, arith, append_assoc, length-append}
use Rattle.std.specs.Prelude.{slice_get}
use Rattle.gv_base.specs.declared.value.Value.{Value}
use Rattle.gv_core.specs.declared.stmt.Exit.{Exit}
use Rattle.gv_core.specs.declared.stmt.Exit.TheVariants.{Breaks, Continues, Returns}
use Rattle.gv_code.specs.declared.code.Body.{Body}
use Rattle.gv_code.specs.declared.code.OperandKind.TheVariants.{Value as V}
use Rattle.gv_code.specs.declared.code.Op.TheVariants.{Discard, Tick, JumpBack, JumpUnless, Leave}
use Rattle.gv_code.specs.declared.piece.Item.{Item}
use Rattle.gv_code.specs.Pieces.{Piece, Shape, plain, bare, joined, loop_ways, directed as directed_piece}
use Rattle.gv_meaning.specs.declared.frame.Frame.{Frame}
use Rattle.gv_meaning.specs.declared.world.World.{World}
use Rattle.gv_meaning.specs.World.{paid, is_true}
use Rattle.gv_meaning.specs.Meaning.{Scope, Result, Outcome, Normal, Left, Raised, Halted, enclosed, looped, turn, turns, pick}
use Rattle.gv_meaning.specs.Machine.{State, At, body_in, stopped}
use Rattle.gv_written.specs.Written.{loop_tail, while_piece}
use Rattle.gv_written.proofs.Comes.{Comes, here, Ends, comes_on, comes_as, stepped, lowest_base, HasAt, has_front, Decides, has_directed}
use Rattle.gv_written.proofs.Placed.{Placed, alone, unguarded, directed, placed, Within, length-placed, length-unguarded, length-directed, length-directed_items, placed_bare, unguarded_append, placed_directed, within_joined, within_directed}
use Rattle.gv_written.proofs.Run.{Lands}
use Rattle.gv_written.proofs.Stmts.{spot, at, Runs, after, runs_at, value_runs, enclosed_runs, test_runs}
use Rattle.gv_written.proofs.Ticks.{comes_ticks, ticks_of}
use Rattle.gv_written.proofs.Does.{joined_is, Values, Does, has_behind}

-- the items of a loop, and what stands behind its test
abbrev tail_items : Shape → List Item → Piece → List Placed
tail_items below ct c = unguarded (loop_tail below (length ct + length c.items))

abbrev body_items : Shape → List Item → Piece → List Placed
body_items below ct c =
    alone (plain (V ∷ below) (JumpUnless (length c.items + 4))) ∷ (directed (loop_ways (length below)) (placed c) ++ tail_items below ct c)

abbrev while_items : Shape → List Item → Piece → List Placed
while_items below ct c = alone (plain below Tick) ∷ (unguarded ct ++ body_items below ct c)

while_is : (below : Shape) (ct : List Item) (c : Piece) → Within c → placed (while_piece below ct c) ≡ while_items below ct c
while_is below ct c w =
    let test = plain (V ∷ below) (JumpUnless (length c.items + 4)) ∷ [] in
    let ways = loop_ways (length below) in
    let tail = loop_tail below (length ct + length c.items) in
    joined_is (bare (plain below Tick ∷ (ct ++ test))) (joined (directed_piece ways c) (bare tail)) _ _ tt (placed_bare (plain below Tick ∷ (ct ++ test)) ∙ ap (λ l. alone (plain below Tick) ∷ l) (unguarded_append ct test))
    (joined_is (directed_piece ways c) (bare tail) _ _ (within_directed ways c w) (placed_directed ways c) (placed_bare tail)) ∙ ap (λ l. alone (plain below Tick) ∷ l) (append_assoc (unguarded ct) _ _)

while_within : (below : Shape) (ct : List Item) (c : Piece) → Within c → Within (while_piece below ct c)
while_within below ct c w =
    let test = plain (V ∷ below) (JumpUnless (length c.items + 4)) ∷ [] in
    let ways = loop_ways (length below) in
    let tail = loop_tail below (length ct + length c.items) in
    within_joined (bare (plain below Tick ∷ (ct ++ test))) (joined (directed_piece ways c) (bare tail)) tt (within_joined (directed_piece ways c) (bare tail) (within_directed ways c w) tt)

while_end : (below : Shape) (ct : List Item) (c : Piece) (pc : ℕ) → pc + 1 + length ct + 1 + length c.items + 4 ≡ pc + length (while_piece below ct c).items
while_end below ct c pc =
    let test = plain (V ∷ below) (JumpUnless (length c.items + 4)) ∷ [] in
    let ways = loop_ways (length below) in
    let tail = loop_tail below (length ct + length c.items) in
    let inner = (directed_piece ways c).items in
    omega (arith, length-append (ct ++ test) (inner ++ tail), length-append ct test, length-append inner tail, length-directed_items ways c.items)

module _ (code : List Body) (k : ℕ) (frames : List Frame) (d : ℕ) (ends : Ends) (base : List Value) where
  -- a way out that leaves operands behind
  left : (above : List Value) (p n target kept : ℕ) (shape : Shape) (v : Value) (slots : Scope) (w : World) → length base ≡ kept → p + 1 + n ≡ target → slice_get (body_in code k).steps p ≡ Some (record { shape = shape; op = Leave n kept }) → Comes code (At k p (v ∷ (above ++ base)) slots frames d w) (At k target (v ∷ base) slots frames d w)
  left above p n target kept shape v slots w tall e h =
      stepped code k frames d p (v ∷ (above ++ base)) slots w (record { shape = shape; op = Leave n kept }) _ h (ap (λ s. At k (p + 1 + n) (v ∷ s) slots frames d w) (lowest_base above base kept tall) ∙ ap (λ q. At k q (v ∷ base) slots frames d w) e)

  dropped : (p : ℕ) (shape : Shape) (v : Value) (slots : Scope) (w : World) → slice_get (body_in code k).steps p ≡ Some (record { shape = shape; op = Discard }) → Comes code (At k p (v ∷ base) slots frames d w) (At k (p + 1) base slots frames d w)
  dropped p shape v slots w h = stepped code k frames d p (v ∷ base) slots w (record { shape = shape; op = Discard }) _ h refl

  backed : (p n target : ℕ) (shape : Shape) (slots : Scope) (w : World) → p - n ≡ target → slice_get (body_in code k).steps p ≡ Some (record { shape = shape; op = JumpBack n }) → Comes code (At k p base slots frames d w) (At k target base slots frames d w)
  backed p n target shape slots w e h = stepped code k frames d p base slots w (record { shape = shape; op = JumpBack n }) _ h (ap (λ q. At k q base slots frames d w) e)

  -- where the body of a loop leads
  abbrev pub loop_out : ℕ → ℕ → Exit → Value → Scope → World → State
  loop_out start end Breaks v slots w = At k end base slots frames d w
  loop_out start end Continues v slots w = At k start base slots frames d w
  loop_out start end Returns v slots w = ends.out Returns v slots w

  abbrev pub loop_ends : ℕ → ℕ → Ends
  loop_ends start end = record { out = loop_out start end; caught = ends.caught }

module _ (code : List Body) (k : ℕ) (frames : List Frame) (d : ℕ) (ends : Ends) (base : List Value) (n new pc : ℕ) (below : Shape) (tall : length base ≡ length below) (ct : List Item) (c : Piece) (h : HasAt code k frames d ends base pc (while_items below ct c)) (test : Scope → World → Result) (body : Scope → World → Outcome) where
  abbrev loop_end : ℕ
  loop_end = pc + 1 + length ct + 1 + length c.items + 4

  abbrev inner_ends : Ends
  inner_ends = loop_ends code k frames d ends base pc loop_end

  has_test : HasAt code k frames d ends base (pc + 1 + length ct) (body_items below ct c)
  has_test = has_behind code k frames d ends base (pc + 1) (length ct) (unguarded ct) (body_items below ct c) (length-unguarded ct) h.2

  has_tail : HasAt code k frames d ends base (pc + 1 + length ct + 1 + length c.items) (tail_items below ct c)
  has_tail =
      has_behind code k frames d ends base (pc + 1 + length ct + 1) (length c.items) (directed (loop_ways (length below)) (placed c)) (tail_items below ct c) (length-directed (loop_ways (length below)) (placed c) ∙ length-placed c) has_test.2

  has_body : HasAt code k frames d inner_ends base (pc + 1 + length ct + 1) (placed c)
  has_body =
      has_directed code k frames d ends inner_ends base (loop_ways (length below)) (pc + 1 + length ct + 1 + length c.items) (λ v slots w. refl) decides (pc + 1 + length ct + 1) (placed c) (ap (λ l. pc + 1 + length ct + 1 + l) (length-placed c))
      (has_front code k frames d ends base (pc + 1 + length ct + 1) (directed (loop_ways (length below)) (placed c)) (tail_items below ct c) has_test.2)
    where
      decides : (e : Exit) (p m : ℕ) → p + 1 + m ≡ pc + 1 + length ct + 1 + length c.items → Decides code k frames d ends inner_ends base p e m (loop_ways (length below) e)
      decides Breaks p m e =
          let t : p + 1 + (m + 3) ≡ pc + 1 + length ct + 1 + length c.items + 1 + 1 + 1 = omega arith in
          let u : pc + 1 + length ct + 1 + length c.items + 1 + 1 + 1 + 1 ≡ loop_end = omega arith in
          λ shape i above v slots w. comes_on code (left code k frames d ends base above p (m + 3) _ (length below) shape v slots w tall t i)
          (comes_as code (dropped code k frames d ends base _ (V ∷ below) v slots w has_tail.2.2.2.0) (ap (λ q. At k q base slots frames d w) u))
      decides Continues p m e =
          let t : p + 1 + (m + 1) ≡ pc + 1 + length ct + 1 + length c.items + 1 = omega arith in
          let u : pc + 1 + length ct + 1 + length c.items + 1 + 1 - (length ct + length c.items + 4) ≡ pc = omega arith in
          λ shape i above v slots w. comes_on code (left code k frames d ends base above p (m + 1) _ (length below) shape v slots w tall t i)
          (comes_on code (dropped code k frames d ends base _ (V ∷ below) v slots w has_tail.2.0) (backed code k frames d ends base _ (length ct + length c.items + 4) pc below slots w u has_tail.2.2.0))
      decides Returns p m e = λ v slots w. refl

  module _ (rt : (scope : Scope) (w : World) (junk : Scope) → length scope ≡ n → Lands code (spot code k frames d ends base n junk) (pc + 1 + length ct) [] (at code k frames d (pc + 1) base scope junk w) (test scope w)) (rb : (scope : Scope) (w : World) (junk : Scope) → length scope ≡ n → Runs code k frames d inner_ends base n new (pc + 1 + length ct + 1 + length c.items) (at code k frames d (pc + 1 + length ct + 1) base scope junk w) (body scope w)) where
    abbrev Turns : ℕ → (Scope → World → Outcome) → Type 0
    Turns m go = (scope : Scope) (w : World) (junk : Scope) → length scope ≡ n → w.ticks < m → Runs code k frames d ends base n 0 loop_end (at code k frames d pc base scope junk w) (go scope w)

    looped_runs : (m : ℕ) (go : Scope → World → Outcome) → Turns m go → (s : State) → ticks_of s < m → (o : Outcome) → Runs code k frames d inner_ends base n 0 (pc + 1 + length ct + 1 + length c.items) s o → Runs code k frames d ends base n 0 loop_end s (looped o go)
    unfolding looped
    looped_runs m go rn s lt (Normal scope w') r =
        let u : pc + 1 + length ct + 1 + length c.items - (length ct + length c.items + 2) ≡ pc = omega arith in
        let t = comes_ticks code r.2 in
        let l = r.1 in
        after code k frames d ends base n 0 loop_end _ _ (go scope w') (comes_on code r.2 (backed code k frames d ends base _ (length ct + length c.items + 2) pc below (scope ++ r.0) w' u has_tail.0)) (rn scope w' r.0 (omega arith) (omega arith))
    looped_runs m go rn s lt (Left Breaks v scope w') r = let l = r.1 in (r.0, omega arith, r.2)
    looped_runs m go rn s lt (Left Continues v scope w') r =
        let t = comes_ticks code r.2 in
        after code k frames d ends base n 0 loop_end _ _ (go scope w') r.2 (rn scope w' r.0 r.1 (omega arith))
    looped_runs m go rn s lt (Left Returns v scope w') r = r
    looped_runs m go rn s lt (Raised v scope w') r = r
    looped_runs m go rn s lt (Halted y w') r = r

    turn_runs : (m : ℕ) (go : Scope → World → Outcome) → Turns m go → (scope : Scope) (w : World) (junk : Scope) → length scope ≡ n → w.ticks < m → Runs code k frames d ends base n 0 loop_end (at code k frames d (pc + 1) base scope junk w) (turn (test scope w) body go)
    turn_runs m go rn scope w junk e lt =
        let u : loop_end ≡ pc + 1 + length ct + 1 + (length c.items + 4) = omega arith in
        value_runs code k frames d ends base n 0 junk _ (pc + 1 + length ct) loop_end (test scope w) (λ v scope w. pick (is_true v) (looped (enclosed scope (body scope w)) go) (Normal scope w)) (rt scope w junk e)
        (λ v scope w' e c'. let t = comes_ticks code c' in
        test_runs code k frames d ends base n 0 scope junk (pc + 1 + length ct) (length c.items + 4) loop_end (V ∷ below) v w' (looped (enclosed scope (body scope w')) go) (Normal scope w') has_test.0
        (looped_runs m go rn _ (omega arith) (enclosed scope (body scope w')) (enclosed_runs code k frames d inner_ends base n new scope _ _ (body scope w') e (rb scope w' junk e)))
        (subst (λ q. Runs code k frames d ends base n 0 q (at code k frames d (pc + 1 + length ct + 1 + (length c.items + 4)) base scope junk w') (Normal scope w')) (sym u) (junk, omega arith, here)))

    turns_run : (m : ℕ) (scope : Scope) (w : World) (junk : Scope) → length scope ≡ n → w.ticks < m → Runs code k frames d ends base n 0 loop_end (at code k frames d pc base scope junk w) (turns m test body scope w)
    turns_run zero scope w junk e lt = absurd (omega arith)
    turns_run (suc m) scope w junk e lt = ticked (λ scope w junk e lt. turns_run m scope w junk e lt) w.ticks refl
      where
        ticked : Turns m (turns m test body) → (t : ℕ) → w.ticks ≡ t → Runs code k frames d ends base n 0 loop_end (at code k frames d pc base scope junk w) (paid Halted t w (λ w. turn (test scope w) body (turns m test body)))
        ticked rn zero q = stepped code k frames d pc base (scope ++ junk) w (record { shape = below; op = Tick }) _ h.0 (ap (λ t. paid stopped t w (λ w. at code k frames d (pc + 1) base scope junk w)) q)
        ticked rn (suc t) q =
            after code k frames d ends base n 0 loop_end _ _ (turn (test scope (record w { ticks = t })) body (turns m test body)) (stepped code k frames d pc base (scope ++ junk) w (record { shape = below; op = Tick }) _ h.0 (ap (λ t. paid stopped t w (λ w. at code k frames d (pc + 1) base scope junk w)) q))
            (turn_runs m (turns m test body) rn scope (record w { ticks = t }) junk e (omega arith))

module _ (code : List Body) (k : ℕ) (frames : List Frame) (d : ℕ) where
  pub does_while : (ends : Ends) (base : List Value) (n new : ℕ) (below : Shape) (ct : List Item) (c : Piece) (test : Scope → World → Result) (body : Scope → World → Outcome) → length base ≡ length below → ((ends : Ends) → Values code k frames d ends base n ct test) → ((ends : Ends) → Does code k frames d ends base n c [] new body) → Does code k frames d ends base n (while_piece below ct c) [] 0 (λ scope w. turns (suc w.ticks) test body scope w)
  does_while ends base n new below ct c test body tall gt gb =
      record {
        by = λ scope junk pc w e h. runs_at code k frames d ends base n 0 _ _ _ (turns (suc w.ticks) test body scope w) (while_end below ct c pc) (began scope junk pc w e (subst (λ l. HasAt code k frames d ends base pc l) (while_is below ct c (gb ends).within) h));
        within = while_within below ct c (gb ends).within;
      }
    where
      began : (scope junk : Scope) (pc : ℕ) (w : World) → length scope ≡ n → HasAt code k frames d ends base pc (while_items below ct c) → Runs code k frames d ends base n 0 (pc + 1 + length ct + 1 + length c.items + 4) (At k pc base (scope ++ junk) frames d w) (turns (suc w.ticks) test body scope w)
      began scope junk pc w e h =
          turns_run code k frames d ends base n new pc below tall ct c h test body
          (λ scope w junk e. (gt ends junk).by [] (pc + 1) scope w e (has_front code k frames d ends base (pc + 1) (unguarded ct) (body_items below ct c) h.2))
          (λ scope w junk e. (gb (inner_ends code k frames d ends base n new pc below tall ct c h test body)).by scope junk (pc + 1 + length ct + 1) w e (has_body code k frames d ends base n new pc below tall ct c h test body))
          (suc w.ticks) scope w junk e (omega arith)
