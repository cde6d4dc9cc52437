-- What holds of the known classes, at one of them.
use Rattle.std.proofs.Common.{◌≡◌, ℕ, zero, suc, Bool, true, false, ◌&&◌, List, [], ◌∷◌, Some, position, refl, ap, sym, ◌∙◌, arith}
use Rattle.std.specs.Prelude.{◌==◌, slice_get, unwrap_or}
use Rattle.std.specs.List.{list_all}
use Rattle.std.proofs.lemmas.Bool.Decides.{Decides-eqb, nat_tests}
use Rattle.gv_classes.specs.Classes.{up, AreRestsTyped, IsFirstOwn, rests_typed}
use Rattle.gv_classes.specs.declared.ids.TheConstants.{OBJECT}
use Rattle.gv_classes.specs.declared.declared.Declared.{Declared}

both : (a b : Bool) → (a && b) ≡ true → (a ≡ true) × (b ≡ true)
both true b h = (refl, h)
both false b h = absurd (cc)

pub rests-at : (classes : List Declared) (c : ℕ) (d : Declared) → list_all rests_typed classes ≡ true → slice_get classes c ≡ Some d → AreRestsTyped d
rests-at [] c d h at = absurd (cc)
rests-at (k ∷ ks) zero d h at = let first = both (rests_typed k) (list_all rests_typed ks) h in let same : k ≡ d = cc in rw (← same) first.0
rests-at (k ∷ ks) (suc c) d h at = rests-at ks c d (both (rests_typed k) (list_all rests_typed ks) h).1 at

position-first : {X : Type 0} (p : X → Bool) (x : X) (xs : List X) → p x ≡ true → position p (x ∷ xs) ≡ Some 0
position-first p x xs h = rw h (grind (arith, nat_tests))

pub up-own : (classes : List Declared) (c : ℕ) → IsFirstOwn classes → c ≡ OBJECT → up classes c ≡ OBJECT
up-own [] c h e = absurd h
up-own (d ∷ ds) c h e =
    ap (up (d ∷ ds)) e ∙ ap (λ o. unwrap_or o OBJECT) (position-first (λ k. k.name == d.above) d ds ((Decides-eqb d.name d.above).1 (sym h)))
