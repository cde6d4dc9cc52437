-- Where one of two lists has ended, nothing of the other is compared.
use Rattle.std.proofs.Common.{◌≡◌, ℕ, zero, suc, ◌≤◌, min, List, [], ◌∷◌, length, drop, refl, arith}
use Rattle.gv_base.specs.declared.value.Value.{Value}
use Rattle.gv_equals.specs.Pairs.{elements}
use Rattle.gv_equals.specs.declared.stage.Same.{Same}

right_ended : (vs : List Value) (rest : List Same) → rest ≡ elements vs [] rest
right_ended [] rest = refl
right_ended (v ∷ vs) rest = refl

pub ended : (vs ws : List Value) (rest : List Same) (n : ℕ) → min (length vs) (length ws) ≤ n → rest ≡ elements (drop n vs) (drop n ws) rest
ended [] ws rest zero h = refl
ended (v ∷ vs) [] rest zero h = refl
ended (v ∷ vs) (w ∷ ws) rest zero h = absurd (omega (arith, h))
ended [] ws rest (suc n) h = refl
ended (v ∷ vs) [] rest (suc n) h = right_ended (drop n vs) rest
ended (v ∷ vs) (w ∷ ws) rest (suc n) h = ended vs ws rest n (omega (arith, h))
