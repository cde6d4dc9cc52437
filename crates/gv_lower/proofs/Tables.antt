-- Each name stays where it is when others are put behind.
use Rattle.std.proofs.Common.{◌≡◌, ℕ, Bool, true, false, List, [], ◌∷◌, ◌++◌, if◌then◌else◌, Some, bytes_eq, codes, arith}
use Rattle.std.specs.List.{list_any}
use Rattle.std.proofs.lemmas.Bool.Decides.{nat_tests}
use Rattle.std.proofs.lemmas.List.{length-append}
use Rattle.std.proofs.lemmas.List.Folds.{position_or_len_push}
use Rattle.gv_base.specs.Names.{name_of, with_name}
use Rattle.gv_lower.specs.Known.{AreKnown}
use Rattle.gv_lower.specs.declared.known.Known.{Known}

pushed : (names : List (List ℕ)) (other text : List ℕ) (name : ℕ) → name_of names text ≡ Some name → name_of (names ++ other ∷ []) text ≡ Some name
pushed names other text name e =
    let last = position_or_len_push (bytes_eq text) names other in
    let more = length-append names (other ∷ []) in
    grind (arith, nat_tests)

stays : (names : List (List ℕ)) (other text : List ℕ) (name : ℕ) → name_of names text ≡ Some name → name_of (with_name names other) text ≡ Some name
stays names other text name e = by (list_any (bytes_eq other) names)
  where
    by : (b : Bool) → name_of (if b then names else names ++ other ∷ []) text ≡ Some name
    by true = e
    by false = pushed names other text name e

later : (old new : List (List ℕ)) (other text : List ℕ) (name : ℕ) → new ≡ with_name old other → name_of old text ≡ Some name → name_of new text ≡ Some name
later old new other text name e h = rw e (stays old other text name h)

-- five names that were put into a table in turn
pub all_known : (k : Known) (t1 : List (List ℕ)) {t2 t3 t4 t5 : List (List ℕ)}
    → t2 ≡ with_name t1 (codes "minus") → t3 ≡ with_name t2 (codes "multiply") → t4 ≡ with_name t3 (codes "compareTo") → t5 ≡ with_name t4 (codes "println")
    → name_of t1 (codes "plus") ≡ Some k.plus → name_of t2 (codes "minus") ≡ Some k.minus → name_of t3 (codes "multiply") ≡ Some k.multiply
    → name_of t4 (codes "compareTo") ≡ Some k.compare_to → name_of t5 (codes "println") ≡ Some k.println
    → AreKnown t5 k
all_known k t1 {t2 = t2} {t3 = t3} {t4 = t4} {t5 = t5} e2 e3 e4 e5 plus minus multiply compare_to println = record {
  plus = to5 (codes "plus") k.plus (to4 (codes "plus") k.plus (to3 (codes "plus") k.plus (later t1 t2 (codes "minus") (codes "plus") k.plus e2 plus)));
  minus = to5 (codes "minus") k.minus (to4 (codes "minus") k.minus (to3 (codes "minus") k.minus minus));
  multiply = to5 (codes "multiply") k.multiply (to4 (codes "multiply") k.multiply multiply);
  compare_to = to5 (codes "compareTo") k.compare_to compare_to;
  println = println;
}
  where
    to3 : (text : List ℕ) (name : ℕ) → name_of t2 text ≡ Some name → name_of t3 text ≡ Some name
    to3 text name h = later t2 t3 (codes "multiply") text name e3 h

    to4 : (text : List ℕ) (name : ℕ) → name_of t3 text ≡ Some name → name_of t4 text ≡ Some name
    to4 text name h = later t3 t4 (codes "compareTo") text name e4 h

    to5 : (text : List ℕ) (name : ℕ) → name_of t4 text ≡ Some name → name_of t5 text ≡ Some name
    to5 text name h = later t4 t5 (codes "println") text name e5 h
