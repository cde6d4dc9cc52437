-- The first refusal stands before all others.
use Rattle.std.proofs.Common.{◌≡◌, ℕ, ◌<◌, zero, suc, get_or, Bool, true, false, cond, List, [], ◌∷◌, length, Option, Some, None, Ok, Err, refl, subst, arith}
use Rattle.std.specs.Prelude.{All, Contains}
use Rattle.std.proofs.lemmas.Bool.Decides.{nat_tests}
use Rattle.std.proofs.lemmas.List.Elements.{All-nil, All-cons, All-head, All-tail}
use Rattle.gv_base.specs.declared.refusal.Refusal.{Refusal}
use Rattle.gv_lex.specs.Laws.{IsEarliest}
use Rattle.gv_lex.specs.Lexing.{judged}
use Rattle.gv_lex.specs.Places.{first_of, is_before}
use Rattle.gv_lex.specs.Tokens.{Spelled}

-- b isn't before a, and c isn't before b
not_before : (a b c : Refusal) → is_before b a ≡ false → is_before c b ≡ false → is_before c a ≡ false
not_before a b c h k = grind (arith, nat_tests)

before_not : (a b : Refusal) → is_before a b ≡ true → is_before b a ≡ false
before_not a b h = grind (arith, nat_tests)

not_itself : (a : Refusal) → is_before a a ≡ false
not_itself a = grind (arith, nat_tests)

abbrev NoneBefore : Refusal → List Refusal → Type 0
NoneBefore r rs = All (λ q. is_before q r ≡ false) rs

none_before_more : (r q : Refusal) (rs : List Refusal) → is_before q r ≡ false → NoneBefore r rs → NoneBefore r (q ∷ rs)
none_before_more r q rs h k = All-cons (λ p. is_before p r ≡ false) q rs h k

contains-more : (r q : Refusal) (rs : List Refusal) → Contains rs r → Contains (q ∷ rs) r
contains-more r q rs h = (suc h.0, omega (arith, h.1), h.2)

contains-head : (r q : Refusal) (rs : List Refusal) → q ≡ r → Contains (q ∷ rs) r
contains-head r q rs e = (0, omega arith, e)

-- the first two of a list, or the earlier one of them in their place
contains-first : (r b q : Refusal) (rs : List Refusal) → Contains (b ∷ rs) r → Contains (b ∷ q ∷ rs) r
contains-first r b q rs h = by h.0 h.1 h.2
  where
    by : (k : ℕ) → k < length (b ∷ rs) → get_or (b ∷ rs) k r ≡ r → Contains (b ∷ q ∷ rs) r
    by zero within is = (0, omega arith, is)
    by (suc k) within is = (suc (suc k), omega arith, is)

least_by : (b q r : Refusal) (rs : List Refusal) (t : Bool) → is_before q b ≡ t → IsEarliest r (cond t q b ∷ rs) → IsEarliest r (b ∷ q ∷ rs)
least_by b q r rs true e h =
    let head = All-head (λ p. is_before p r ≡ false) q rs h.none_before in
    record {
      among = contains-more r b (q ∷ rs) h.among;
      none_before = none_before_more r b (q ∷ rs) (not_before r q b head (before_not q b e)) h.none_before;
    }
least_by b q r rs false e h =
    let head = All-head (λ p. is_before p r ≡ false) b rs h.none_before in
    let tail = All-tail (λ p. is_before p r ≡ false) b rs h.none_before in
    record {
      among = contains-first r b q rs h.among;
      none_before = none_before_more r b (q ∷ rs) head (none_before_more r q rs (not_before r b q head e) tail);
    }

least : (b r : Refusal) (rs : List Refusal) → first_of (Some b) rs ≡ Some r → IsEarliest r (b ∷ rs)
least b r [] e =
    let same : b ≡ r = cc in
    let P : Refusal → Type 0 = λ x. is_before b x ≡ false in
    record { among = contains-head r b [] same; none_before = none_before_more r b [] (subst P same (not_itself b)) (All-nil (λ p. is_before p r ≡ false)) }
least b r (q ∷ rs) e = least_by b q r rs (is_before q b) refl (least (cond (is_before q b) q b) r rs e)

pub earliest : (r : Refusal) (rs : List Refusal) → first_of None rs ≡ Some r → IsEarliest r rs
earliest r [] e = absurd (cc)
earliest r (q ∷ rs) e = least q r rs e

-- some refusal is the first of some
first_of-some : (b : Refusal) (rs : List Refusal) → first_of (Some b) rs ≡ None → ⊥
first_of-some b [] e = cc
first_of-some b (q ∷ rs) e = first_of-some (cond (is_before q b) q b) rs e

pub first_of-none : (rs : List Refusal) → first_of None rs ≡ None → rs ≡ []
first_of-none [] e = refl
first_of-none (q ∷ rs) e = absurd (first_of-some q rs e)

-- ---- what is judged

pub judged-err : (o : Option Refusal) (tokens : List Spelled) (r : Refusal) → judged o tokens ≡ Err r → o ≡ Some r
judged-err None tokens r e = absurd (cc)
judged-err (Some q) tokens r e = cc

pub judged-ok : (o : Option Refusal) (ts us : List Spelled) → judged o ts ≡ Ok us → o ≡ None
judged-ok None ts us e = refl
judged-ok (Some q) ts us e = absurd (cc)
