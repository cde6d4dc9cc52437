-- One class more is passed.
use Rattle.std.proofs.Common.{◌≡◌, ℕ, ◌+◌, List, ◌∷◌, drop, Option, Some, refl, ◌∙◌}
use Rattle.std.specs.Prelude.{slice_get}
use Rattle.std.proofs.lemmas.List.{drop_more}
use Rattle.std.proofs.lemmas.Option.{slice_get_within, get_or_from_slice_get}
use Rattle.gv_base.specs.declared.refusal.Refusal.{Refusal}
use Rattle.gv_classes.specs.declared.declared.Declared.{Declared}
use Rattle.gv_repeats.specs.Repeats.{each_refused, class_refused}

drop_at : {X : Type 0} (xs : List X) (i : ℕ) (x : X) → slice_get xs i ≡ Some x → drop i xs ≡ x ∷ drop (i + 1) xs
drop_at xs i x e = drop_more xs i x (slice_get_within xs i x e) ∙ rw (get_or_from_slice_get xs i x x e) refl

pub passed : (classes : List Declared) (file number : ℕ) (d : Declared) (before after : Option Refusal) → slice_get classes number ≡ Some d → after ≡ class_refused classes file number d before
    → each_refused classes file (number + 1) (drop (number + 1) classes) after ≡ each_refused classes file number (drop number classes) before
passed classes file number d before after e f = rw (drop_at classes number d e, f) refl
