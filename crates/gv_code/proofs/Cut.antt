-- The lowest and the topmost of a stack.
use Rattle.std.proofs.Common.{◌≡◌, ℕ, ◌-◌, List, ◌++◌, length, take, drop, reverse, sym, ap, ◌∙◌, arith, length-drop}
use Rattle.std.proofs.lemmas.List.{take-append-drop, length-reverse, reverse-append, reverse-reverse, take_all}
use Rattle.std.proofs.Math.Seq.{drop-append_seam}

pub cut_reverse : {A : Type 0} (n : ℕ) (xs : List A) → reverse (take n xs) ≡ drop (length (reverse xs) - n) (reverse xs)
cut_reverse n xs =
    let e : reverse xs ≡ reverse (drop n xs) ++ reverse (take n xs) = ap reverse (sym (take-append-drop n xs)) ∙ reverse-append (take n xs) (drop n xs) in
    let l : length (reverse xs) - n ≡ length (reverse (drop n xs)) = omega (arith, length-reverse xs, length-reverse (drop n xs), length-drop n xs) in
    sym (ap (λ m. drop m (reverse xs)) l ∙ ap (drop (length (reverse (drop n xs)))) e ∙ drop-append_seam (reverse (drop n xs)) (reverse (take n xs)))

last_reverse : {A : Type 0} (n : ℕ) (xs : List A) → drop (length xs - n) xs ≡ reverse (take n (reverse xs))
last_reverse n xs = sym (cut_reverse n (reverse xs) ∙ ap (λ ys. drop (length ys - n) ys) (reverse-reverse xs))

pub last_of : {A : Type 0} (n below : ℕ) (xs ys : List A) → below ≡ length xs - n → reverse xs ≡ ys → take (length xs - below) (drop below xs) ≡ reverse (take n ys)
last_of n below xs ys e r =
    take_all (length xs - below) (drop below xs) (omega (arith, length-drop below xs)) ∙ ap (λ m. drop m xs) e ∙ last_reverse n xs ∙ ap (λ l. reverse (take n l)) r
