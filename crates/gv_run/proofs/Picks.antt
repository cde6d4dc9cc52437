-- Instructions that choose.
use Rattle.std.proofs.Common.{◌≡◌, ℕ, ◌+◌, true, false, List, [], ◌∷◌, ◌++◌, length, take, refl, arith}
use Rattle.std.specs.Prelude.{nat_le}
use Rattle.gv_base.specs.declared.value.Value.{Value}
use Rattle.gv_code.specs.declared.code.Body.{Body}
use Rattle.gv_code.specs.declared.code.Op.TheVariants.{JumpUnless, DeclareShared}
use Rattle.gv_heap.specs.Heap.{pay, with_new_place}
use Rattle.gv_meaning.specs.declared.world.Cell.TheVariants.{Shared}
use Rattle.gv_meaning.specs.declared.world.Why.TheVariants.{Cells}
use Rattle.gv_meaning.specs.World.{is_true}
use Rattle.gv_meaning.specs.Meaning.{pick}
use Rattle.gv_calls.specs.declared.told.Told.TheVariants as told
use Rattle.gv_run.specs.declared.state.Control.{Control}
use Rattle.gv_run.specs.declared.state.Mode.{Mode}
use Rattle.gv_run.specs.declared.state.Mode.TheVariants as mode
use Rattle.gv_run.specs.declared.state.Running.{Running}
use Rattle.gv_run.specs.States.{acts, state_of}

pub jumps_not : (code : List Body) (n : ℕ) (r : Running) (c : Control) (v : Value) (rest : List Value) → r.stack ≡ v ∷ rest → true ≡ is_true v → (m : Mode) → m ≡ mode.At (record r { at = r.at + 1 + 0; stack = rest }) → acts code (JumpUnless n) r c ≡ state_of m c
unfolding pick
jumps_not code n r c v rest p q m e = let z : r.at + 1 + 0 ≡ r.at + 1 = omega arith in rw (e, p, ← q, z) refl

pub jumps : (code : List Body) (n : ℕ) (r : Running) (c : Control) (v : Value) (rest : List Value) → r.stack ≡ v ∷ rest → false ≡ is_true v → (m : Mode) → m ≡ mode.At (record r { at = r.at + 1 + n; stack = rest }) → acts code (JumpUnless n) r c ≡ state_of m c
unfolding pick
jumps code n r c v rest p q m e = rw (e, p, ← q) refl

pub no_place : (code : List Body) (slot : ℕ) (r : Running) (c d : Control) (v : Value) (rest : List Value) → r.stack ≡ v ∷ rest → nat_le 1 c.world.heap.cells ≡ false → d ≡ c → acts code (DeclareShared slot) r c ≡ state_of (mode.Over (told.Stopped Cells)) d
unfolding pick
no_place code slot r c d v rest p q e = rw (e, p, q) refl

pub a_place : (code : List Body) (slot place : ℕ) (r : Running) (c d : Control) (v : Value) (rest : List Value) → r.stack ≡ v ∷ rest → nat_le 1 c.world.heap.cells ≡ true → place ≡ length c.world.heap.places → d ≡ record c { world = record c.world { heap = pay (with_new_place c.world.heap v) 1 } }
    → (m : Mode) → m ≡ mode.At (record r { at = r.at + 1; stack = rest; slots = take slot r.slots ++ Shared place ∷ [] }) → acts code (DeclareShared slot) r c ≡ state_of m d
unfolding pick
a_place code slot place r c d v rest p q s e m f = rw (f, e, p, q, s) refl
