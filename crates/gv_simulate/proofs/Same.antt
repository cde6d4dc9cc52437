-- A run of right code comes to what the unit means.
use Rattle.std.proofs.Common.{◌≡◌, ℕ, zero, suc, ◌+◌, ◌≤◌, List, refl, sym, ap, ◌∙◌, arith}
use Rattle.gv_core.specs.declared.stmt.Source.{Source}
use Rattle.gv_code.specs.declared.code.Body.{Body}
use Rattle.gv_meaning.specs.declared.world.World.{World}
use Rattle.gv_meaning.specs.World.{Answer}
use Rattle.gv_meaning.specs.Meaning.{meaning}
use Rattle.gv_meaning.specs.Machine.{State, Over, opened, step, steps}
use Rattle.gv_written.specs.Correct.{IsRight}
use Rattle.gv_run.specs.Runs.{ComesTo}
use Rattle.gv_run.proofs.Left.{over_stays}

-- what is over stays so
later : (code : List Body) (n k : ℕ) (s : State) (o : Answer) → steps code n s ≡ Over o → steps code (n + k) s ≡ Over o
later code zero k s o e = let z : zero + k ≡ k = omega arith in ap (λ m. steps code m s) z ∙ over_stays code k s (steps code k s) o refl e
later code (suc n) k s o e = let z : suc n + k ≡ suc (n + k) = omega arith in ap (λ m. steps code m s) z ∙ later code n k (step code s) o e

over_is : (o p : Answer) → Over o ≡ Over p → o ≡ p
over_is o p e = cc

pub same_answer : (code : List Body) (unit : List Source) (w : World) (o : Answer) → IsRight code unit → ComesTo code w o → o ≡ meaning unit w
same_answer code unit w o right comes =
    let r = right w in
    let le : r.0 ≤ comes.0 + r.0 = omega arith in
    over_is o (meaning unit w) (sym (later code comes.0 r.0 (opened code w) o comes.1) ∙ r.1 (comes.0 + r.0) le)
