-- How runs of the code of statements are put together.
use Rattle.std.proofs.Common.{◌≡◌, ℕ, ◌+◌, Bool, true, false, List, [], ◌∷◌, ◌++◌, length, refl, sym, ap, ◌∙◌, subst, arith, append_assoc, length-append}
use Rattle.std.specs.Prelude.{nat_le}
use Rattle.gv_base.specs.declared.value.Value.{Value}
use Rattle.gv_base.specs.declared.value.Value.TheVariants.{Null}
use Rattle.gv_core.specs.declared.expr.Const.TheVariants as const
use Rattle.gv_core.specs.declared.stmt.Exit.{Exit}
use Rattle.gv_code.specs.declared.code.Body.{Body}
use Rattle.gv_code.specs.declared.code.OperandKind.TheVariants.{Value as V}
use Rattle.gv_code.specs.declared.code.Op.TheVariants.{Push, Declare, DeclareShared, Discard, JumpOn, JumpUnless}
use Rattle.gv_code.specs.declared.piece.Item.{Item}
use Rattle.gv_code.specs.declared.piece.Item.TheVariants.{Out}
use Rattle.gv_code.specs.Pieces.{Piece, Shape, plain, bare, joined}
use Rattle.gv_heap.specs.Heap.{pay, with_new_place}
use Rattle.gv_meaning.specs.declared.frame.Frame.{Frame}
use Rattle.gv_meaning.specs.declared.world.Cell.TheVariants.{Own, Shared}
use Rattle.gv_meaning.specs.declared.world.Why.TheVariants.{Cells}
use Rattle.gv_meaning.specs.declared.world.World.{World}
use Rattle.gv_meaning.specs.World.{is_true}
use Rattle.gv_meaning.specs.Meaning.{Scope, Result, Outcome, Normal, Left, Raised, Halted, with_value, then_do, enclosed, declared, pick}
use Rattle.gv_meaning.specs.Machine.{State, At}
use Rattle.gv_written.specs.Written.{declare, if_piece}
use Rattle.gv_written.proofs.Comes.{Comes, here, Ends, comes_on, stepped, HasAt, has_front, has_back, Stands, stands_front, stands_back}
use Rattle.gv_written.proofs.Placed.{Placed, alone, unguarded, placed, Within, length-placed, length-unguarded, placed_bare, unguarded_append, placed_joined, within_joined}
use Rattle.gv_written.proofs.Run.{Gives}
use Rattle.gv_written.proofs.Scope.{declared_slots, declared_length}
use Rattle.gv_written.proofs.Stmts.{spot, at, Runs, after, runs_at, value_runs, kept_runs, enclosed_runs, moved, pick_runs, test_runs, jumped}

-- one piece behind another, by the items of both
pub joined_is : (a b : Piece) (is js : List Placed) → Within a → placed a ≡ is → placed b ≡ js → placed (joined a b) ≡ is ++ js
joined_is a b is js w e f = placed_joined a b w ∙ cc (e, f)

-- the items of a choice
abbrev if_items : Shape → List Item → Piece → Piece → List Placed
if_items below ct a b =
    unguarded ct ++ (alone (plain (V ∷ below) (JumpUnless (length a.items + 1))) ∷ (placed a ++ (alone (plain below (JumpOn (length b.items))) ∷ placed b)))

if_is : (below : Shape) (ct : List Item) (a b : Piece) → Within a → placed (if_piece below ct a b) ≡ if_items below ct a b
if_is below ct a b wa =
    let test = plain (V ∷ below) (JumpUnless (length a.items + 1)) ∷ [] in
    let over = plain below (JumpOn (length b.items)) ∷ [] in
    joined_is (bare (ct ++ test)) (joined a (joined (bare over) b)) _ _ tt (placed_bare (ct ++ test) ∙ unguarded_append ct test) (joined_is a (joined (bare over) b) _ _ wa refl (joined_is (bare over) b _ _ tt refl refl)) ∙ append_assoc (unguarded ct) _ _

module _ (code : List Body) (k : ℕ) (frames : List Frame) (d : ℕ) where
  -- the code of an expression, whatever lies in the slots behind the variables in scope
  abbrev pub Values : Ends → List Value → ℕ → List Item → (Scope → World → Result) → Type 0
  Values ends base n c m = (junk : Scope) → Gives code (spot code k frames d ends base n junk) c [] m

  -- the piece c takes these operands and does what m says
  pub record Does (ends : Ends) (base : List Value) (n : ℕ) (c : Piece) (operands : List Value) (new : ℕ) (m : Scope → World → Outcome) : Type 0 where
    pub by : (scope junk : Scope) (pc : ℕ) (w : World) → length scope ≡ n → HasAt code k frames d ends base pc (placed c) → Runs code k frames d ends base n new (pc + length c.items) (At k pc (operands ++ base) (scope ++ junk) frames d w) (m scope w)
    pub within : Within c

  -- the place behind the first of two
  pub has_behind : (ends : Ends) (base : List Value) (pc n : ℕ) (a b : List Placed) → length a ≡ n → HasAt code k frames d ends base pc (a ++ b) → HasAt code k frames d ends base (pc + n) b
  has_behind ends base pc n a b e h = subst (λ m. HasAt code k frames d ends base (pc + m) b) e (has_back code k frames d ends base pc a b h)

  -- what items without guards do
  bare_does : (ends : Ends) (base : List Value) (n : ℕ) (c : List Item) (operands : List Value) (new : ℕ) (m : Scope → World → Outcome) → ((scope junk : Scope) (pc : ℕ) (w : World) → length scope ≡ n → Stands code k frames d ends base pc c → Runs code k frames d ends base n new (pc + length c) (At k pc (operands ++ base) (scope ++ junk) frames d w) (m scope w)) → Does ends base n (bare c) operands new m
  bare_does ends base n c operands new m f =
      record { by = λ scope junk pc w e h. f scope junk pc w e (subst (λ l. HasAt code k frames d ends base pc l) (placed_bare c) h); within = tt }

  pub does_discard : (ends : Ends) (base : List Value) (n : ℕ) (below : Shape) (v : Value) → Does ends base n (bare (plain below Discard ∷ [])) (v ∷ []) 0 (λ scope w. Normal scope w)
  does_discard ends base n below v =
      bare_does ends base n _ (v ∷ []) 0 _ (λ scope junk pc w e h. (junk, omega arith, stepped code k frames d pc (v ∷ base) (scope ++ junk) w (record { shape = below; op = Discard }) _ h.0 refl))

  pub does_declare : (ends : Ends) (base : List Value) (n : ℕ) (below : Shape) (shared : Bool) (v : Value) → Does ends base n (bare (plain below (declare shared n) ∷ [])) (v ∷ []) 1 (λ scope w. declared shared v scope w)
  does_declare ends base n below false v =
      bare_does ends base n _ (v ∷ []) 1 _ (λ scope junk pc w e h. ([], declared_length scope n (Own v) e, stepped code k frames d pc (v ∷ base) (scope ++ junk) w (record { shape = below; op = Declare n }) _ h.0 (ap (λ l. At k (pc + 1) base l frames d w) (declared_slots scope junk n (Own v) e))))
  does_declare ends base n below true v =
      bare_does ends base n _ (v ∷ []) 1 _ (λ scope junk pc w e h. let c = Shared (length w.heap.places) in
      let w' = record w { heap = pay (with_new_place w.heap v) 1 } in
      after code k frames d ends base n 1 (pc + 1) _ _ (declared true v scope w) (stepped code k frames d pc (v ∷ base) (scope ++ junk) w (record { shape = below; op = DeclareShared n }) _ h.0 refl)
      (pick_runs code k frames d ends base n 1 (pc + 1) (nat_le 1 w.heap.cells) _ _ (Normal (scope ++ c ∷ []) w') (Halted Cells w)
      ([], declared_length scope n c e, subst (λ l. Comes code (At k (pc + 1) base l frames d w') (at code k frames d (pc + 1) base (scope ++ c ∷ []) [] w')) (sym (declared_slots scope junk n c e)) here) here))

  pub does_out : (ends : Ends) (base : List Value) (n : ℕ) (below : Shape) (e : Exit) (v : Value) → Does ends base n (bare (Out below e ∷ [])) (v ∷ []) 0 (λ scope w. Left e v scope w)
  does_out ends base n below e v = bare_does ends base n _ (v ∷ []) 0 _ (λ scope junk pc w l h. (junk, l, h.0 [] v (scope ++ junk) w))

  pub does_null_out : (ends : Ends) (base : List Value) (n : ℕ) (below above : Shape) (e : Exit) → Does ends base n (bare (plain below (Push const.Null) ∷ Out above e ∷ [])) [] 0 (λ scope w. Left e Null scope w)
  does_null_out ends base n below above e =
      bare_does ends base n _ [] 0 _ (λ scope junk pc w l h. (junk, l, comes_on code (stepped code k frames d pc base (scope ++ junk) w (record { shape = below; op = Push const.Null }) _ h.0 refl) (h.2.0 [] Null (scope ++ junk) w)))

  pub does_value : (ends : Ends) (base : List Value) (n : ℕ) (c c' : List Item) (new : ℕ) (m : Scope → World → Result) (f : Value → Scope → World → Outcome) → Values ends base n c m → ((v : Value) → Does ends base n (bare c') (v ∷ []) new (f v)) → Does ends base n (bare (c ++ c')) [] new (λ scope w. with_value (m scope w) f)
  does_value ends base n c c' new m f g r =
      bare_does ends base n (c ++ c') [] new _ (λ scope junk pc w e h. let len : pc + length c + length c' ≡ pc + length (c ++ c') = omega (arith, length-append c c') in
      let behind = stands_back code k frames d ends base pc c c' h in
      runs_at code k frames d ends base n new _ _ _ (with_value (m scope w) f) len
      (value_runs code k frames d ends base n new junk _ (pc + length c) _ (m scope w) f ((g junk).by [] pc scope w e (stands_front code k frames d ends base pc c c' h))
      (λ v scope w e x. (r v).by scope junk (pc + length c) w e (subst (λ l. HasAt code k frames d ends base (pc + length c) l) (sym (placed_bare c')) behind))))

  pub does_nothing : (ends : Ends) (base : List Value) (n : ℕ) → Does ends base n (bare []) [] 0 (λ scope w. Normal scope w)
  does_nothing ends base n =
      bare_does ends base n [] [] 0 _ (λ scope junk pc w l h. let e : pc ≡ pc + 0 = omega arith in (junk, omega arith, subst (λ n. Comes code (at code k frames d pc base scope junk w) (at code k frames d n base scope junk w)) e here))

  pub does_then : (ends : Ends) (base : List Value) (n new : ℕ) (a b : Piece) (m f : Scope → World → Outcome) → Does ends base n a [] new m → Does ends base (n + new) b [] 0 f → Does ends base n (joined a b) [] 0 (λ scope w. enclosed scope (then_do (m scope w) f))
  unfolding then_do
  does_then ends base n new a b m f g r =
      record { by = λ scope junk pc w e h. began scope junk pc w e (subst (λ l. HasAt code k frames d ends base pc l) (placed_joined a b g.within) h); within = within_joined a b g.within r.within }
    where
      go : (scope : Scope) (pc : ℕ) (s : State) → length scope ≡ n → HasAt code k frames d ends base pc (placed a ++ placed b) → (o : Outcome) → Runs code k frames d ends base n new (pc + length a.items) s o → Runs code k frames d ends base n 0 (pc + length (a.items ++ b.items)) s (enclosed scope (then_do o f))
      go scope pc s e h (Normal scope1 w) x =
          let len : pc + length a.items + length b.items ≡ pc + length (a.items ++ b.items) = omega (arith, length-append a.items b.items) in
          kept_runs code k frames d ends base n (n + new) 0 (length scope) _ s (f scope1 w) e (omega arith)
          (runs_at code k frames d ends base (n + new) 0 _ _ s (f scope1 w) len (after code k frames d ends base (n + new) 0 _ s _ (f scope1 w) x.2 (r.by scope1 x.0 (pc + length a.items) w x.1 (has_behind ends base pc (length a.items) (placed a) (placed b) (length-placed a) h))))
      go scope pc s e h (Left x v scope1 w) r = enclosed_runs code k frames d ends base n 0 scope _ s (Left x v scope1 w) e r
      go scope pc s e h (Raised v scope1 w) r = enclosed_runs code k frames d ends base n 0 scope _ s (Raised v scope1 w) e r
      go scope pc s e h (Halted y w) r = enclosed_runs code k frames d ends base n 0 scope _ s (Halted y w) e r

      began : (scope junk : Scope) (pc : ℕ) (w : World) → length scope ≡ n → HasAt code k frames d ends base pc (placed a ++ placed b) → Runs code k frames d ends base n 0 (pc + length (a.items ++ b.items)) (At k pc base (scope ++ junk) frames d w) (enclosed scope (then_do (m scope w) f))
      began scope junk pc w e h = go scope pc _ e h (m scope w) (g.by scope junk pc w e (has_front code k frames d ends base pc (placed a) (placed b) h))

  pub does_if : (ends : Ends) (base : List Value) (n newa newb : ℕ) (below : Shape) (ct : List Item) (a b : Piece) (test : Scope → World → Result) (ma mb : Scope → World → Outcome) → Values ends base n ct test → Does ends base n a [] newa ma → Does ends base n b [] newb mb → Does ends base n (if_piece below ct a b) [] 0 (λ scope w. with_value (test scope w) (λ v scope w. pick (is_true v) (enclosed scope (ma scope w)) (enclosed scope (mb scope w))))
  does_if ends base n newa newb below ct a b test ma mb gt ga gb =
      record {
        by = λ scope junk pc w e h. began scope junk pc w e (subst (λ l. HasAt code k frames d ends base pc l) (if_is below ct a b ga.within) h);
        within = within_joined (bare (ct ++ first)) (joined a (joined (bare over) b)) tt (within_joined a (joined (bare over) b) ga.within (within_joined (bare over) b tt gb.within));
      }
    where
      first : List Item
      first = plain (V ∷ below) (JumpUnless (length a.items + 1)) ∷ []

      over : List Item
      over = plain below (JumpOn (length b.items)) ∷ []

      sides : List Placed
      sides = alone (plain (V ∷ below) (JumpUnless (length a.items + 1))) ∷ (placed a ++ (alone (plain below (JumpOn (length b.items))) ∷ placed b))

      end : ℕ → ℕ
      end pc = pc + length (if_piece below ct a b).items

      chosen : (scope junk : Scope) (pc p : ℕ) (v : Value) (w : World) → length scope ≡ n → p ≡ pc + length ct → HasAt code k frames d ends base p sides → Runs code k frames d ends base n 0 (end pc) (at code k frames d p (v ∷ base) scope junk w) (pick (is_true v) (enclosed scope (ma scope w)) (enclosed scope (mb scope w)))
      chosen scope junk pc p v w e q h =
          let behind = has_behind ends base (p + 1) (length a.items) (placed a) (alone (plain below (JumpOn (length b.items))) ∷ placed b) (length-placed a) h.2 in
          let len : p + 1 + length a.items + 1 + length b.items ≡ end pc = omega (arith, length-append (ct ++ first) (a.items ++ (over ++ b.items)), length-append ct first, length-append a.items (over ++ b.items)) in
          let other : p + 1 + length a.items + 1 ≡ p + 1 + (length a.items + 1) = omega arith in
          test_runs code k frames d ends base n 0 scope junk p (length a.items + 1) (end pc) (V ∷ below) v w (enclosed scope (ma scope w)) (enclosed scope (mb scope w)) h.0
          (moved code k frames d ends base n _ (end pc) _ (enclosed scope (ma scope w)) (enclosed_runs code k frames d ends base n newa scope _ _ (ma scope w) e (ga.by scope junk (p + 1) w e (has_front code k frames d ends base (p + 1) (placed a) _ h.2))) (λ scope junk w. jumped code k frames d base _ (length b.items) _ below (scope ++ junk) w len behind.0))
          (subst (λ q. Runs code k frames d ends base n 0 (end pc) (at code k frames d q base scope junk w) (enclosed scope (mb scope w))) other
          (runs_at code k frames d ends base n 0 _ _ _ (enclosed scope (mb scope w)) len (enclosed_runs code k frames d ends base n newb scope _ _ (mb scope w) e (gb.by scope junk (p + 1 + length a.items + 1) w e behind.2))))

      began : (scope junk : Scope) (pc : ℕ) (w : World) → length scope ≡ n → HasAt code k frames d ends base pc (unguarded ct ++ sides) → Runs code k frames d ends base n 0 (end pc) (At k pc base (scope ++ junk) frames d w) (with_value (test scope w) (λ v scope w. pick (is_true v) (enclosed scope (ma scope w)) (enclosed scope (mb scope w))))
      began scope junk pc w e h =
          let behind = has_behind ends base pc (length ct) (unguarded ct) sides (length-unguarded ct) h in
          value_runs code k frames d ends base n 0 junk _ (pc + length ct) (end pc) (test scope w) (λ v scope w. pick (is_true v) (enclosed scope (ma scope w)) (enclosed scope (mb scope w))) ((gt junk).by [] pc scope w e (has_front code k frames d ends base pc (unguarded ct) sides h))
          (λ v scope w e x. chosen scope junk pc (pc + length ct) v w e refl behind)
