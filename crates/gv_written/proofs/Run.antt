-- How runs of the code of expressions are put together.
use Rattle.std.proofs.Common.{◌≡◌, ℕ, suc, ◌+◌, List, [], ◌∷◌, ◌++◌, length, refl, ap, subst, arith, length-append}
use Rattle.gv_base.specs.declared.value.Value.{Value}
use Rattle.gv_code.specs.declared.code.Body.{Body}
use Rattle.gv_code.specs.declared.code.Op.{Op}
use Rattle.gv_code.specs.declared.piece.Item.{Item}
use Rattle.gv_code.specs.Pieces.{Shape, plain}
use Rattle.gv_meaning.specs.declared.frame.Frame.{Frame}
use Rattle.gv_meaning.specs.declared.world.World.{World}
use Rattle.gv_meaning.specs.World.{Answer, Got, Threw, Stopped}
use Rattle.gv_meaning.specs.Calls.{Chosen}
use Rattle.gv_meaning.specs.Meaning.{Scope, Runner, Result, Given, Thrown, Halt, Results, All_given, One_thrown, One_halt, within, and_then, first_given, with_first, all_then}
use Rattle.gv_meaning.specs.Machine.{State, At, stopped, frame, back, begin, act}
use Rattle.gv_written.proofs.Comes.{Comes, here, Serves, Ends, comes_on, comes_as, stepped, Stands, stands_front, stands_back}
use Rattle.gv_written.proofs.Scope.{onto, onto-append}

-- where code runs: its frame, where a throw leads, the operands that it leaves alone, how many variables are in scope, and the slots
-- behind them
pub record Spot (code : List Body) : Type 0 where
  pub k : ℕ
  pub frames : List Frame
  pub d : ℕ
  pub ends : Ends
  pub base : List Value
  pub n : ℕ
  pub junk : Scope

module _ (code : List Body) (s : Spot code) where
  abbrev pub Here : ℕ → List Item → Type 0
  Here pc c = Stands code s.k s.frames s.d s.ends s.base pc c

  abbrev pub state : ℕ → List Value → Scope → World → State
  state pc above scope w = At s.k pc (above ++ s.base) (scope ++ s.junk) s.frames s.d w

  abbrev pub Lands : ℕ → List Value → State → Result → Type 0
  Lands pc above t (Given v scope w) = (length scope ≡ s.n) × Comes code t (state pc (v ∷ above) scope w)
  Lands pc above t (Thrown v scope w) = (length scope ≡ s.n) × Comes code t (s.ends.caught v (scope ++ s.junk) w)
  Lands pc above t (Halt y w) = Comes code t (stopped y w)

  -- the code c takes these operands and gives the result of m
  pub record Gives (c : List Item) (operands : List Value) (m : Scope → World → Result) : Type 0 where
    pub by : (above : List Value) (pc : ℕ) (scope : Scope) (w : World) → length scope ≡ s.n → Here pc c → Lands (pc + length c) above (state pc (operands ++ above) scope w) (m scope w)

  abbrev pub LandsAll : ℕ → List Value → ℕ → State → Results → Type 0
  LandsAll pc above n t (All_given vs scope w) = (length vs ≡ n) × (length scope ≡ s.n) × Comes code t (state pc (onto vs above) scope w)
  LandsAll pc above n t (One_thrown v scope w) = (length scope ≡ s.n) × Comes code t (s.ends.caught v (scope ++ s.junk) w)
  LandsAll pc above n t (One_halt y w) = Comes code t (stopped y w)

  -- the code c gives n values, those of m
  pub record GivesAll (c : List Item) (n : ℕ) (m : Scope → World → Results) : Type 0 where
    pub by : (above : List Value) (pc : ℕ) (scope : Scope) (w : World) → length scope ≡ s.n → Here pc c → LandsAll (pc + length c) above n (state pc above scope w) (m scope w)

  lands_at : (t : State) (pc pc' : ℕ) (above : List Value) (o : Result) → pc ≡ pc' → Lands pc above t o → Lands pc' above t o
  lands_at t pc pc' above o e c = subst (λ n. Lands n above t o) e c

  before : (t u : State) (pc : ℕ) (above : List Value) (o : Result) → Comes code t u → Lands pc above u o → Lands pc above t o
  before t u pc above (Given v scope w) c x = (x.0, comes_on code c x.1)
  before t u pc above (Thrown v scope w) c x = (x.0, comes_on code c x.1)
  before t u pc above (Halt y w) c x = comes_on code c x

  back_lands : (above : List Value) (pc : ℕ) (scope : Scope) (i : Item) (t : State) (o : Answer) → length scope ≡ s.n → Here pc (i ∷ []) → Comes code t (back code o (frame s.k pc (above ++ s.base) (scope ++ s.junk) ∷ s.frames) s.d) → Lands (pc + 1) above t (within scope o)
  back_lands above pc scope i t (Got v w) n h c = (n, c)
  back_lands above pc scope i t (Threw v w) n h c = (n, comes_as code c (h.1 above v (scope ++ s.junk) w))
  back_lands above pc scope i t (Stopped y w) n h c = c

  -- one instruction, whose result is of this form
  pub gives_own : (below : Shape) (i : Op) (operands : List Value) (m : Scope → World → Result) → ((above : List Value) (pc : ℕ) (scope : Scope) (w : World) → length scope ≡ s.n → Lands (pc + 1) above (act code i s.k pc ((operands ++ above) ++ s.base) (scope ++ s.junk) s.frames s.d w) (m scope w)) → Gives (plain below i ∷ []) operands m
  gives_own below i operands m e =
      record { by = λ above pc scope w n h. before _ _ (pc + 1) above (m scope w) (stepped code s.k s.frames s.d pc ((operands ++ above) ++ s.base) (scope ++ s.junk) w (record { shape = below; op = i }) _ h.0 refl) (e above pc scope w n) }

  -- one instruction, which gives a value
  pub gives_value : (below : Shape) (i : Op) (operands : List Value) (f : World → Value) → ((above : List Value) (pc : ℕ) (slots : Scope) (w : World) → act code i s.k pc ((operands ++ above) ++ s.base) slots s.frames s.d w ≡ At s.k (pc + 1) (f w ∷ (above ++ s.base)) slots s.frames s.d w) → Gives (plain below i ∷ []) operands (λ scope w. Given (f w) scope w)
  gives_value below i operands f e = gives_own below i operands _ (λ above pc scope w n. (n, comes_as code here (e above pc (scope ++ s.junk) w)))

  -- one instruction, which does a call
  pub calls_by : (run : Runner) → Serves code run s.d → (below : Shape) (i : Op) (operands : List Value) (m : World → Chosen) → ((above : List Value) (pc : ℕ) (slots : Scope) (w : World) → act code i s.k pc ((operands ++ above) ++ s.base) slots s.frames s.d w ≡ begin code (m w) (frame s.k pc (above ++ s.base) slots ∷ s.frames) s.d) → Gives (plain below i ∷ []) operands (λ scope w. within scope (run (m w)))
  calls_by run served below i operands m e =
      record { by = λ above pc scope w n h. back_lands above pc scope (plain below i) _ (run (m w)) n h (comes_on code (stepped code s.k s.frames s.d pc ((operands ++ above) ++ s.base) (scope ++ s.junk) w (record { shape = below; op = i }) _ h.0 (e above pc (scope ++ s.junk) w)) (served.serves (m w) (frame s.k pc (above ++ s.base) (scope ++ s.junk) ∷ s.frames))) }

  pub gives_then : (c c' : List Item) (operands : List Value) (m : Scope → World → Result) (f : Value → Scope → World → Result) → Gives c [] m → ((v : Value) → Gives c' (v ∷ operands) (f v)) → Gives (c ++ c') operands (λ scope w. and_then (m scope w) f)
  unfolding and_then
  gives_then c c' operands m f g r =
      record { by = λ above pc scope w n h. go above pc _ h (m scope w) (g.by (operands ++ above) pc scope w n (stands_front code s.k s.frames s.d s.ends s.base pc c c' h)) }
    where
      go : (above : List Value) (pc : ℕ) (t : State) → Here pc (c ++ c') → (o : Result) → Lands (pc + length c) (operands ++ above) t o → Lands (pc + length (c ++ c')) above t (and_then o f)
      go above pc t h (Given v scope w') x =
          let len : pc + length c + length c' ≡ pc + length (c ++ c') = omega (arith, length-append c c') in
          before _ _ _ above (f v scope w') x.1 (lands_at _ _ _ above (f v scope w') len ((r v).by above (pc + length c) scope w' x.0 (stands_back code s.k s.frames s.d s.ends s.base pc c c' h)))
      go above pc t h (Thrown v scope w') x = x
      go above pc t h (Halt y w') x = x

  pub gives_all_then : (c c' : List Item) (operands : List Value) (n : ℕ) (m : Scope → World → Results) (f : List Value → Scope → World → Result) → GivesAll c n m → ((vs : List Value) → length vs ≡ n → Gives c' (onto vs operands) (f vs)) → Gives (c ++ c') operands (λ scope w. all_then (m scope w) f)
  unfolding all_then
  gives_all_then c c' operands n m f g r =
      record { by = λ above pc scope w e h. go above pc _ h (m scope w) (g.by (operands ++ above) pc scope w e (stands_front code s.k s.frames s.d s.ends s.base pc c c' h)) }
    where
      go : (above : List Value) (pc : ℕ) (t : State) → Here pc (c ++ c') → (o : Results) → LandsAll (pc + length c) (operands ++ above) n t o → Lands (pc + length (c ++ c')) above t (all_then o f)
      go above pc t h (All_given vs scope w') x =
          let len : pc + length c + length c' ≡ pc + length (c ++ c') = omega (arith, length-append c c') in
          before _ _ _ above (f vs scope w') (comes_as code x.2 (ap (λ l. At s.k (pc + length c) (l ++ s.base) (scope ++ s.junk) s.frames s.d w') (onto-append vs operands above))) (lands_at _ _ _ above (f vs scope w') len ((r vs x.0).by above (pc + length c) scope w' x.1 (stands_back code s.k s.frames s.d s.ends s.base pc c c' h)))
      go above pc t h (One_thrown v scope w') x = x
      go above pc t h (One_halt y w') x = x

  pub gives_none : GivesAll [] 0 (λ scope w. All_given [] scope w)
  gives_none = record { by = λ above pc scope w n h. let e : pc ≡ pc + 0 = omega arith in (refl, n, subst (λ n. Comes code (state pc above scope w) (state n above scope w)) e here) }

  pub gives_more : (c c' : List Item) (n : ℕ) (m : Scope → World → Result) (f : Scope → World → Results) → Gives c [] m → GivesAll c' n f → GivesAll (c ++ c') (suc n) (λ scope w. first_given (m scope w) (λ v scope w. with_first v (f scope w)))
  unfolding first_given with_first
  gives_more c c' n m f g r =
      record { by = λ above pc scope w e h. go above pc _ h (m scope w) (g.by above pc scope w e (stands_front code s.k s.frames s.d s.ends s.base pc c c' h)) }
    where
      rest : (t u : State) (pc pc' : ℕ) (above : List Value) (v : Value) (o : Results) → pc ≡ pc' → Comes code t u → LandsAll pc (v ∷ above) n u o → LandsAll pc' above (suc n) t (with_first v o)
      rest t u pc pc' above v (All_given vs scope w) e c x = (ap suc x.0, x.1, comes_on code c (subst (λ n. Comes code u (state n (onto vs (v ∷ above)) scope w)) e x.2))
      rest t u pc pc' above v (One_thrown y scope w) e c x = (x.0, comes_on code c x.1)
      rest t u pc pc' above v (One_halt y w) e c x = comes_on code c x

      go : (above : List Value) (pc : ℕ) (t : State) → Here pc (c ++ c') → (o : Result) → Lands (pc + length c) above t o → LandsAll (pc + length (c ++ c')) above (suc n) t (first_given o (λ v scope w. with_first v (f scope w)))
      go above pc t h (Given v scope w') x =
          let len : pc + length c + length c' ≡ pc + length (c ++ c') = omega (arith, length-append c c') in
          rest _ _ _ _ above v (f scope w') len x.1 (r.by (v ∷ above) (pc + length c) scope w' x.0 (stands_back code s.k s.frames s.d s.ends s.base pc c c' h))
      go above pc t h (Thrown v scope w') x = x
      go above pc t h (Halt y w') x = x
