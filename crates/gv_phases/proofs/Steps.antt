-- One more script is passed; conversion step by step.
use Rattle.std.proofs.Common.{◌≡◌, ◌∙◌, ap, sym, refl, ℕ, ◌+◌, ◌<◌, List, [], ◌∷◌, ◌++◌, Option, Some, None, drop, get_or, length, map}
use Rattle.std.proofs.lemmas.List.{drop_more}
use Rattle.gv_accessors.specs.Accessors.{converted}
use Rattle.gv_accessors.specs.declared.known.Known.{Known as AccessorNames}
use Rattle.gv_base.specs.declared.refusal.Refusal.{Refusal}
use Rattle.gv_checks.specs.Checks.{classes_of}
use Rattle.gv_classes.specs.BuiltIn.{rows, with_texts}
use Rattle.gv_classes.specs.declared.declared.Declared.{Declared}
use Rattle.gv_tree.specs.declared.top.Script.{Script}
use Rattle.gv_phases.specs.Known.{AreKnown, with_known, accessor_names}
use Rattle.gv_phases.specs.Phases.{IsConverted, converted_names, converted_scripts, Refuses, first_of, next_file, or_later}
use Rattle.gv_phases.specs.declared.known.Known.{Known}

here : {X : Type 0} (xs : List X) (i : ℕ) (x : X) → i < length xs → x ≡ get_or xs i x → drop i xs ≡ x ∷ drop (i + 1) xs
here xs i x within is = drop_more xs i x within ∙ ap (λ y. y ∷ drop (i + 1) xs) (sym is)

-- a script that is refused, and one that isn't
pub found : (refusal : Refuses) (scripts : List Script) (i file : ℕ) (s : Script) (r : Refusal) → i < length scripts → s ≡ get_or scripts i s → refusal file s ≡ Some r → first_of refusal file (drop i scripts) ≡ Some r
found refusal scripts i file s r within is e = ap (first_of refusal file) (here scripts i s within is) ∙ ap (λ o. or_later o (first_of refusal (next_file file) (drop (i + 1) scripts))) e

pub passed : (refusal : Refuses) (scripts : List Script) (i file : ℕ) (s : Script) → i < length scripts → s ≡ get_or scripts i s → refusal file s ≡ None
    → first_of refusal (next_file file) (drop (i + 1) scripts) ≡ first_of refusal file (drop i scripts)
passed refusal scripts i file s within is e = sym (ap (first_of refusal file) (here scripts i s within is) ∙ ap (λ o. or_later o (first_of refusal (next_file file) (drop (i + 1) scripts))) e)

joined : {X : Type 0} (xs : List X) (x : X) (ys : List X) → (xs ++ x ∷ []) ++ ys ≡ xs ++ x ∷ ys
joined [] x ys = refl
joined (z ∷ xs) x ys = ap (λ l. z ∷ l) (joined xs x ys)

pub put : {X Y : Type 0} (f : X → Y) (xs : List X) (i : ℕ) (x : X) (made : List Y) (y : Y) (more : List Y) → i < length xs → x ≡ get_or xs i x → y ≡ f x → more ≡ made ++ y ∷ []
    → more ++ map f (drop (i + 1) xs) ≡ made ++ map f (drop i xs)
put f xs i x made y more within is e h =
    ap (λ l. l ++ map f (drop (i + 1) xs)) h ∙ (joined made y (map f (drop (i + 1) xs))
    ∙ (ap (λ z. made ++ z ∷ map f (drop (i + 1) xs)) e ∙ sym (ap (λ l. made ++ map f l) (here xs i x within is))))

pub none_of : {A : Type 0} (r : Option A) → ((x : A) → r ≡ Some x → ⊥) → r ≡ None
none_of None f = refl
none_of (Some x) f = absurd (f x refl)

pub converted_is : (names known_names with_accessors all : List (List ℕ)) (scripts made slice : List Script) (k : Known) (a : AccessorNames) (classes : List Declared) → AreKnown names k → known_names ≡ with_known names → a ≡ accessor_names k
    → made ≡ (converted a known_names scripts).scripts → with_accessors ≡ (converted a known_names scripts).names → slice ≡ made → classes ≡ classes_of k.checks with_accessors slice → all ≡ with_texts with_accessors rows
    → IsConverted names scripts k all made classes
converted_is names known_names with_accessors all scripts made slice k a classes known n e m w s c t =
    let named : with_accessors ≡ converted_names k names scripts = w ∙ (ap (λ x. (converted x known_names scripts).names) e ∙ ap (λ x. (converted (accessor_names k) x scripts).names) n) in
    let with_them : made ≡ converted_scripts k names scripts = m ∙ (ap (λ x. (converted x known_names scripts).scripts) e ∙ ap (λ x. (converted (accessor_names k) x scripts).scripts) n) in
    record {
      known = known;
      named = t ∙ ap (λ x. with_texts x rows) named;
      with_accessors = with_them;
      gathered = c ∙ (ap (λ x. classes_of k.checks x slice) named ∙ ap (λ x. classes_of k.checks (converted_names k names scripts) x) (s ∙ with_them));
    }
