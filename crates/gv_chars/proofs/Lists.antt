-- Lists: what is left behind some elements, and copies.
use Rattle.std.proofs.Common.{◌≡◌, ℕ, zero, suc, ◌<◌, ◌≤◌, ◌-◌, ◌+◌, ◌*◌, ◌/◌, ◌%◌, List, [], ◌∷◌, ◌++◌, length, get_or, take, drop, Some, None, sym, ap, ◌∙◌, refl, arith, append_assoc, append-nil, add-one}
use Rattle.std.specs.List.{slice_get, slice_index}
use Rattle.std.proofs.lemmas.List.{drop-drop, drop_all, take_all, take-append-le, take_more, map-append, get_or_default}
use Rattle.std.proofs.Math.Seq.{take-append-add}
use Rattle.std.proofs.Math.Nat.{suc-mul}
use Rattle.gv_chars.specs.Chars.{repeated, filling, picked}

-- what follows one element more
pub drop_next : (cs xs rest : List ℕ) (n c : ℕ) → xs ≡ drop n cs → xs ≡ c ∷ rest → rest ≡ drop (n + 1) cs
drop_next cs xs rest n c e f = ap (drop 1) (sym f ∙ e) ∙ drop-drop 1 n cs

-- where nothing follows, nothing follows more elements
pub drop_past : (cs xs : List ℕ) (n m : ℕ) → xs ≡ drop n cs → xs ≡ [] → n ≤ m → xs ≡ drop m cs
drop_past cs xs n m e f le =
    let further : n + (m - n) ≡ m = omega arith in
    f ∙ (sym (drop_all (m - n) [] (omega arith)) ∙ (ap (drop (m - n)) (sym f ∙ e) ∙ (drop-drop (m - n) n cs ∙ ap (λ k. drop k cs) further)))

get_at_drop : (cs : List ℕ) (n : ℕ) → slice_get (drop n cs) 0 ≡ slice_get cs n
get_at_drop [] zero = refl
get_at_drop [] (suc n) = refl
get_at_drop (c ∷ cs) zero = refl
get_at_drop (c ∷ cs) (suc n) = get_at_drop cs n

pub get_first : (cs xs rest : List ℕ) (n c : ℕ) → xs ≡ drop n cs → xs ≡ c ∷ rest → Some c ≡ slice_get cs n
get_first cs xs rest n c e f = ap (λ (ys : List ℕ). slice_get ys 0) (sym f ∙ e) ∙ get_at_drop cs n

pub get_none : (cs xs : List ℕ) (n : ℕ) → xs ≡ drop n cs → xs ≡ [] → None ≡ slice_get cs n
get_none cs xs n e f = ap (λ (ys : List ℕ). slice_get ys 0) (sym f ∙ e) ∙ get_at_drop cs n

-- one copy more, behind
copy_behind : (cs : List ℕ) (n : ℕ) → repeated n cs ++ cs ≡ repeated (suc n) cs
copy_behind cs zero = sym (append-nil cs)
copy_behind cs (suc n) = append_assoc cs (repeated n cs) cs ∙ ap (λ (xs : List ℕ). cs ++ xs) (copy_behind cs n)

pub repeated_more : (cs : List ℕ) (n : ℕ) → repeated n cs ++ cs ≡ repeated (n + 1) cs
repeated_more cs n = copy_behind cs n ∙ ap (λ k. repeated k cs) (sym (add-one n))

-- whole copies, and the beginning of one
taken_copies : (cs : List ℕ) (q r m s : ℕ) → 0 < length cs → r ≤ length cs → s ≡ q * length cs + r → s ≤ m → take s (repeated m cs) ≡ repeated q cs ++ take r cs
taken_copies cs zero r zero s some part is enough =
    let none : r ≡ 0 = omega arith in
    take_all s [] (omega arith) ∙ ap (λ k. take k cs) (sym none)
taken_copies cs zero r (suc m) s some part is enough =
    let same : s ≡ r = omega arith in
    ap (λ k. take k (cs ++ repeated m cs)) same ∙ take-append-le r cs (repeated m cs) part
taken_copies cs (suc q) r zero s some part is enough =
    let product = suc-mul q (length cs) in
    absurd (omega arith)
taken_copies cs (suc q) r (suc m) s some part is enough =
    let product = suc-mul q (length cs) in
    let left : s - length cs ≡ q * length cs + r = omega arith in
    let split : s ≡ length cs + (s - length cs) = omega arith in
    let fewer : s - length cs ≤ m = omega arith in
    ap (λ k. take k (cs ++ repeated m cs)) split ∙ (take-append-add cs (repeated m cs) (s - length cs) ∙ (ap (λ (xs : List ℕ). cs ++ xs) (taken_copies cs q r m (s - length cs) some part left fewer) ∙ sym (append_assoc cs (repeated q cs) (take r cs))))

pub filling_is : (cs : List ℕ) (n k : ℕ) → k ≡ length cs → 0 < k → filling n cs ≡ repeated (n / k) cs ++ take (n % k) cs
filling_is cs n k e some = taken_copies cs (n / k) (n % k) n n (omega arith) (omega arith) (rw (← e) (omega arith)) (omega arith)

-- no copies of nothing are anything
pub repeated_nothing : (n : ℕ) → repeated n [] ≡ []
repeated_nothing zero = refl
repeated_nothing (suc n) = repeated_nothing n

-- one place more
pub picked_more : (places cs : List ℕ) (i c : ℕ) → i < length places → get_or places i 0 < length cs → c ≡ get_or cs (get_or places i 0) c → picked (take (i + 1) places) cs ≡ picked (take i places) cs ++ c ∷ []
picked_more places cs i c within some is =
    ap (λ ps. picked ps cs) (take_more places i 0 within) ∙ (map-append (λ place. slice_index cs place) (take i places) (get_or places i 0 ∷ []) ∙ ap (λ d. picked (take i places) cs ++ d ∷ []) (get_or_default cs (get_or places i 0) 0 c some ∙ sym is))
