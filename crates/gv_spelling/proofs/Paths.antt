-- Why `$a.b` is the longest.
use Rattle.std.proofs.Common.{◌≡◌, ℕ, zero, suc, ◌+◌, ◌-◌, ◌<◌, ◌≤◌, ◌⊎◌, inl, inr, Bool, true, false, ◌&&◌, cond, [], ◌∷◌, take, drop, length, Some, None, refl, sym, subst, ◌∙◌, arith, length-drop}
use Rattle.std.specs.Prelude.{slice_index, ◌==◌}
use Rattle.std.proofs.Math.Bool.{and-false}
use Rattle.gv_spelling.specs.declared.kinds.Unit.TheVariants as unit
use Rattle.gv_spelling.specs.declared.kinds.Quote.{Quote}
use Rattle.gv_spelling.specs.Table.{Text, part_start, part_goes, path_from, path_end, path, is_double}
use Rattle.gv_spelling.specs.Longest.{IsLongest}
use Rattle.gv_spelling.proofs.Longest.{at_front, drop-take-sub}

-- ---- a path's end isn't before the best end so far

ge_true : (b : Bool) (at best : ℕ) (s : Text) → best ≤ at → (at + 1 ≤ path_end false (at + 1) (at + 1) s) → best ≤ cond b (path_end false (at + 1) (at + 1) s) best
ge_true true at best s h ih = omega (arith, ih)
ge_true false at best s h ih = omega arith

ge_false : (dot goes : Bool) (at best : ℕ) (s : Text) → best ≤ at → (best ≤ path_end true (at + 1) best s) → (at + 1 ≤ path_end false (at + 1) (at + 1) s)
    → best ≤ cond dot (path_end true (at + 1) best s) (cond goes (path_end false (at + 1) (at + 1) s) best)
ge_false true goes at best s h i j = i
ge_false false true at best s h i j = omega (arith, j)
ge_false false false at best s h i j = omega arith

ge : (fresh : Bool) (at best : ℕ) (s : Text) → best ≤ at → best ≤ path_end fresh at best s
ge fresh at best [] h = omega arith
ge true at best (c ∷ s) h = ge_true (part_start c) at best s h (ge false (at + 1) (at + 1) s (omega arith))
ge false at best (c ∷ s) h = ge_false (c == 46) (part_goes c) at best s h (ge true (at + 1) best s (omega arith)) (ge false (at + 1) (at + 1) s (omega arith))

-- ---- nothing longer is a path

over_true : (b : Bool) (at best n : ℕ) (s : Text) → (path_end false (at + 1) (at + 1) s < at + 1 + n → path_from false (take n s) ≡ false)
    → cond b (path_end false (at + 1) (at + 1) s) best < at + suc n → (b && path_from false (take n s)) ≡ false
over_true true at best n s ih h = ih (omega arith)
over_true false at best n s ih h = refl

over_false : (dot goes : Bool) (at best n : ℕ) (s : Text) → (path_end true (at + 1) best s < at + 1 + n → path_from true (take n s) ≡ false)
    → (path_end false (at + 1) (at + 1) s < at + 1 + n → path_from false (take n s) ≡ false)
    → cond dot (path_end true (at + 1) best s) (cond goes (path_end false (at + 1) (at + 1) s) best) < at + suc n
    → cond dot (path_from true (take n s)) (goes && path_from false (take n s)) ≡ false
over_false true goes at best n s i j h = i (omega arith)
over_false false true at best n s i j h = j (omega arith)
over_false false false at best n s i j h = refl

over : (fresh : Bool) (at best n : ℕ) (s : Text) → best ≤ at → (fresh ≡ false → best ≡ at) → path_end fresh at best s < at + n → n ≤ length s → path_from fresh (take n s) ≡ false
over true at best zero s h same less w = refl
over false at best zero s h same less w = absurd (omega (arith, same refl, ge false at best s h))
over fresh at best (suc n) [] h same less w = absurd (omega arith)
over true at best (suc n) (c ∷ s) h same less w =
    over_true (part_start c) at best n s (λ l. over false (at + 1) (at + 1) n s (omega arith) (λ e. refl) l (omega arith)) less
over false at best (suc n) (c ∷ s) h same less w =
    over_false (c == 46) (part_goes c) at best n s (λ l. over true (at + 1) best n s (omega arith) (λ e. absurd (cc)) l (omega arith))
    (λ l. over false (at + 1) (at + 1) n s (omega arith) (λ e. refl) l (omega arith)) less

-- ---- up to its end it is one

pub record EndsAt (fresh : Bool) (at e : ℕ) (s : Text) : Type 0 where
  pub beyond : at ≤ e
  pub is : path_from fresh (take (e - at) s) ≡ true

further : (fresh goes_fresh : Bool) (at e c : ℕ) (s : Text) → EndsAt goes_fresh (at + 1) e s → ((n : ℕ) → path_from goes_fresh (take n s) ≡ true → path_from fresh (c ∷ take n s) ≡ true) → EndsAt fresh at e (c ∷ s)
further fresh goes_fresh at e c s h more =
    let k : e - at ≡ suc (e - (at + 1)) = omega (arith, h.beyond) in
    let P : ℕ → Type 0 = λ n. path_from fresh (take n (c ∷ s)) ≡ true in
    record { beyond = omega (arith, h.beyond); is = subst P (sym k) (more (e - (at + 1)) h.is) }

here : (at : ℕ) (s : Text) → EndsAt false at at s
here at s =
    let k : at - at ≡ 0 = omega arith in
    let P : ℕ → Type 0 = λ n. path_from false (take n s) ≡ true in
    record { beyond = omega arith; is = subst P (sym k) refl }

-- the best end so far, or an end of a path
abbrev Ends : Bool → ℕ → ℕ → Text → ℕ → Type 0
Ends fresh at best s e = (e ≡ best) ⊎ EndsAt fresh at e s

ends_true : (b : Bool) (at best c : ℕ) (s : Text) → part_start c ≡ b → EndsAt false (at + 1) (path_end false (at + 1) (at + 1) s) s
    → Ends true at best (c ∷ s) (cond b (path_end false (at + 1) (at + 1) s) best)
ends_true true at best c s e h = inr (further true false at _ c s h (λ n g. rw (e, g) refl))
ends_true false at best c s e h = inl refl

always : (at : ℕ) (s : Text) → Ends false at at s (path_end false at at s) → EndsAt false at (path_end false at at s) s
always at s (inl e) = let P : ℕ → Type 0 = λ k. EndsAt false at k s in subst P (sym e) (here at s)
always at s (inr h) = h

ends_false : (dot goes : Bool) (at best c : ℕ) (s : Text) → (c == 46) ≡ dot → part_goes c ≡ goes → Ends true (at + 1) best s (path_end true (at + 1) best s)
    → EndsAt false (at + 1) (path_end false (at + 1) (at + 1) s) s
    → Ends false at best (c ∷ s) (cond dot (path_end true (at + 1) best s) (cond goes (path_end false (at + 1) (at + 1) s) best))
ends_false true goes at best c s e f (inl same) h = inl same
ends_false true goes at best c s e f (inr k) h = inr (further false true at _ c s k (λ n g. rw e g))
ends_false false true at best c s e f i h = inr (further false false at _ c s h (λ n g. rw (e, f, g) refl))
ends_false false false at best c s e f i h = inl refl

ends : (fresh : Bool) (at best : ℕ) (s : Text) → Ends fresh at best s (path_end fresh at best s)
ends fresh at best [] = inl refl
ends true at best (c ∷ s) = ends_true (part_start c) at best c s refl (always (at + 1) s (ends false (at + 1) (at + 1) s))
ends false at best (c ∷ s) = ends_false (c == 46) (part_goes c) at best c s refl refl (ends true (at + 1) best s) (always (at + 1) s (ends false (at + 1) (at + 1) s))

-- ---- the spelling

path_at : (q : Quote) (s : Text) (n : ℕ) → 0 < n
    → path q (take n s) ≡ cond ((is_double q && slice_index s 0 == 36) && path_from true (take (n - 1) (drop 1 s))) (Some unit.Path) None
path_at q s n h = rw (at_front n 0 s h, drop-take-sub 1 n s h) refl

is_path : (e k : ℕ) (s : Text) → e ≡ k → 1 < e → Ends true 1 1 s k → path_from true (take (e - 1) s) ≡ true
is_path e k s is some (inl one) = absurd (omega arith)
is_path e k s is some (inr h) = rw is h.is

no_more : (n : ℕ) (s : Text) → path_end true 1 1 s < 1 + n → n ≤ length s → path_from true (take n s) ≡ false
no_more n s less w = over true 1 1 n s (omega arith) (λ e. absurd (cc)) less w

none_at_all : (n : ℕ) (s : Text) → path_end true 1 1 s ≡ 1 → n ≤ length s → path_from true (take n s) ≡ false
none_at_all zero s is w = refl
none_at_all (suc n) s is w = no_more (suc n) s (omega arith) w

pub path_longest : (q : Quote) (s : Text) (e : ℕ) → is_double q ≡ true → slice_index s 0 ≡ 36 → e ≡ path_end true 1 1 (drop 1 s) → 1 < e → e ≤ length s → IsLongest (path q) s unit.Path e
path_longest q s e d f is some w = record {
  some = omega arith;
  within = w;
  spelled = path_at q s e (omega arith) ∙ rw (d, f, is_path e (path_end true 1 1 (drop 1 s)) (drop 1 s) is some (ends true 1 1 (drop 1 s))) refl;
  longest = λ n more within. path_at q s n (omega arith)
      ∙ rw (no_more (n - 1) (drop 1 s) (omega arith) (omega (arith, length-drop 1 s)), and-false (is_double q && slice_index s 0 == 36)) refl;
}

pub no_path : (q : Quote) (s : Text) → path_end true 1 1 (drop 1 s) ≡ 1 → (n : ℕ) → n ≤ length s → path q (take n s) ≡ None
no_path q s is zero w = rw (and-false (is_double q)) refl
no_path q s is (suc n) w = path_at q s (suc n) (omega arith)
    ∙ rw (none_at_all (suc n - 1) (drop 1 s) is (omega (arith, length-drop 1 s)), and-false (is_double q && slice_index s 0 == 36)) refl

pub other_front : (q : Quote) (s : Text) → (is_double q && slice_index s 0 == 36) ≡ false → (n : ℕ) → path q (take n s) ≡ None
other_front q s e zero = rw (and-false (is_double q)) refl
other_front q s e (suc n) = path_at q s (suc n) (omega arith) ∙ rw e refl

pub end_some : (s : Text) → 1 ≤ path_end true 1 1 s
end_some s = ge true 1 1 s (omega arith)
