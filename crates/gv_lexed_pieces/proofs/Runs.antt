-- What goes on as long as its characters are of a class: blanks and words.
use Rattle.std.proofs.Common.{◌≡◌, ℕ, zero, suc, ◌+◌, ◌<◌, ◌≤◌, ◌==◌, Bool, true, false, not, ◌&&◌, cond, List, [], ◌∷◌, ◌++◌, take, drop, length, Option, Some, None, refl, sym, ap, ◌∙◌, arith, subst}
use Rattle.std.specs.Prelude.{slice_index}
use Rattle.std.specs.List.{list_all, prefix_len}
use Rattle.std.proofs.Math.Bool.{and-false}
use Rattle.std.proofs.lemmas.Bool.Decides.{nat_tests}
use Rattle.gv_spelling.specs.Longest.{IsLongest}
use Rattle.gv_spelling.specs.Table.{Text, front_of, by_front, is_in, is_dollar_slash, between, name, word_of}
use Rattle.gv_spelling.specs.declared.classes.Class.{Class}
use Rattle.gv_spelling.specs.declared.classes.Class.TheVariants as class
use Rattle.gv_spelling.specs.declared.classes.Front.TheVariants as front
use Rattle.gv_spelling.specs.declared.kinds.Lexeme.{Lexeme}
use Rattle.gv_spelling.specs.declared.kinds.Lexeme.TheVariants as lexeme
use Rattle.gv_spelling.proofs.Longest.{between_longest, name_longest, run_longest, one_more}
use Rattle.gv_lexed_pieces.specs.Read.{IsRead, none_first, is_word, word_ends}
use Rattle.gv_lexed_pieces.proofs.Rows.{both, not_true, take_all}

pub none_prefix : (k : Class) (rest : Text) → none_first k rest ≡ true → prefix_len (is_in k) rest ≡ 0
none_prefix k [] e = refl
none_prefix k (c ∷ rest) e = rw (not_true (is_in k c) e) refl

pub prefix_all : (p : ℕ → Bool) (more rest : Text) → list_all p more ≡ true → prefix_len p rest ≡ 0 → prefix_len p (more ++ rest) ≡ length more
prefix_all p [] rest all e = e
prefix_all p (c ∷ more) rest all e =
    let h = both (p c) (list_all p more) all in
    rw (h.0, prefix_all p more rest h.1 e) (one_more (length more))

-- a character and those of the class behind it
run_length : (k : Class) (more rest : Text) → list_all (is_in k) more ≡ true → none_first k rest ≡ true → 1 + prefix_len (is_in k) (more ++ rest) ≡ suc (length more)
run_length k more rest all none = rw (prefix_all (is_in k) more rest all (none_prefix k rest none)) (one_more (length more))

blank_front : front.Blank ≡ front_of 32
unfolding front_of is_in
blank_front = refl

pub blanks_are_read : (operand : Bool) (more rest : Text) → list_all (is_in class.Blank) more ≡ true → none_first class.Blank rest ≡ true → IsRead operand (32 ∷ more) rest lexeme.Space
blanks_are_read operand more rest all none =
    let s : Text = 32 ∷ more ++ rest in
    let pos : 1 ≤ suc (length (more ++ rest)) = omega arith in
    let run : IsLongest (by_front front.Blank operand) (32 ∷ more ++ rest) lexeme.Space (1 + prefix_len (is_in class.Blank) (more ++ rest)) =
    run_longest (is_in class.Blank) (λ t. lexeme.Space) 1 (32 ∷ more ++ rest) (omega arith) pos in
    between_longest operand front.Blank (32 ∷ more ++ rest) lexeme.Space (suc (length more)) blank_front
    (subst (λ n. IsLongest (by_front front.Blank operand) (32 ∷ more ++ rest) lexeme.Space n) (run_length class.Blank more rest all none) run)

start_front : (c : ℕ) → is_in class.Start c ≡ true → front.Start ≡ front_of c
unfolding front_of
start_front c e = rw e refl

slash_is_no_name : is_in class.Name 47 ≡ false
unfolding is_in
slash_is_no_name = refl

name_no_slash : (d : ℕ) (b : Bool) → is_in class.Name d ≡ true → (d == 47) ≡ b → b ≡ false
name_no_slash d false e is = refl
name_no_slash d true e is =
    let same : d ≡ 47 = grind (arith, nat_tests) in
    let other : is_in class.Name 47 ≡ true = subst (λ n. is_in class.Name n ≡ true) same e in
    let no = slash_is_no_name in
    absurd (cc)

no_slash : (text rest : Text) → list_all (is_in class.Name) text ≡ true → not (slice_index rest 0 == 47) ≡ true → (slice_index (text ++ rest) 0 == 47) ≡ false
no_slash [] rest all e = not_true (slice_index rest 0 == 47) e
no_slash (d ∷ text) rest all e = name_no_slash d (d == 47) (both (is_in class.Name d) (list_all (is_in class.Name) text) all).0 refl

pub word_is_read : (operand : Bool) (text rest : Text) → is_word text ≡ true → word_ends rest ≡ true → IsRead operand text rest (word_of text)
word_is_read operand [] rest w e = absurd (cc)
word_is_read operand (c ∷ text) rest w e =
    let starts = both (is_in class.Start c) (list_all (is_in class.Name) text) w in
    let ends = both (none_first class.Name rest) (not (slice_index rest 0 == 47)) e in
    let slashless : is_dollar_slash (c ∷ text ++ rest) ≡ false = rw (no_slash text rest starts.1 ends.1) (and-false (c == 36)) in
    let pos : 0 < suc (length (text ++ rest)) = omega arith in
    let found : IsLongest name (c ∷ text ++ rest) (word_of (take (1 + prefix_len (is_in class.Name) (text ++ rest)) (c ∷ text ++ rest))) (1 + prefix_len (is_in class.Name) (text ++ rest)) =
    name_longest (c ∷ text ++ rest) pos slashless in
    let long : IsLongest name (c ∷ text ++ rest) (word_of (take (suc (length text)) (c ∷ text ++ rest))) (suc (length text)) =
    subst (λ n. IsLongest name (c ∷ text ++ rest) (word_of (take n (c ∷ text ++ rest))) n) (run_length class.Name text rest starts.1 ends.0) found in
    between_longest operand front.Start (c ∷ text ++ rest) (word_of (c ∷ text)) (suc (length text)) (start_front c starts.0)
    (subst (λ t. IsLongest name (c ∷ text ++ rest) (word_of t) (suc (length text))) (take_all (c ∷ text) rest) long)
