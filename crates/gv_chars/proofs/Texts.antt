-- The characters of a text and its bytes.
use Rattle.std.proofs.Common.{◌≡◌, ℕ, zero, suc, true, not, ◌==◌, ◌<◌, ◌≤◌, ◌-◌, ◌+◌, ◌/◌, ◌%◌, List, [], ◌∷◌, ◌++◌, length, get_or, take, drop, encode_utf8, encode_utf8_all, IsUtf8, sym, ap, ◌∙◌, refl, subst, arith, append-nil, append_assoc}
use Rattle.std.specs.Char.{IsScalar}
use Rattle.std.specs.List.{All}
use Rattle.std.specs.Str.{chars, IsCharBoundary}
use lib.Utf8.{scalars}
use Rattle.std.proofs.lemmas.Bool.Decides.{nat_tests}
use Rattle.std.proofs.lemmas.Str.{length-le-encodes, scalars-chars, chars-nil, chars-encodes, chars-append, chars_past_char, encodes-append, encodes-chars, IsUtf8-encode, IsCharBoundary-at_seam}
use Rattle.std.proofs.lemmas.List.{length-append, take-append-drop}
use Rattle.std.proofs.Math.Seq.{take-append_seam}
use Rattle.gv_chars.specs.Chars.{repeated, filling, picked, is_filled}
use Rattle.gv_chars.proofs.Lists.{repeated_more, repeated_nothing, filling_is, picked_more}

pub chars_none : (bs : List ℕ) → length bs ≡ 0 → chars bs ≡ []
chars_none [] e = chars-nil
chars_none (b ∷ bs) e = absurd (omega arith)

pub chars_before_char : (bs front : List ℕ) (c : ℕ) → IsUtf8 front → IsScalar c → bs ≡ front ++ encode_utf8 c → chars bs ≡ chars front ++ c ∷ []
chars_before_char bs front c u s e =
    ap chars e ∙ (chars-append front (encode_utf8 c) u ∙ ap (λ (xs : List ℕ). chars front ++ xs) (chars_past_char (encode_utf8 c) [] c (IsUtf8-encode c s) (sym (append-nil (encode_utf8 c))) ∙ ap (λ (xs : List ℕ). c ∷ xs) chars-nil))

-- the bytes of a text with these characters
pub bytes_from_chars : (bs cs : List ℕ) → IsUtf8 bs → chars bs ≡ cs → bs ≡ encode_utf8_all cs
bytes_from_chars bs cs u e = sym (encodes-chars bs u) ∙ ap encode_utf8_all e

-- a text that isn't empty has characters
some_listed : (bs cs : List ℕ) → bs ≡ encode_utf8_all cs → 0 < length bs → 0 < length cs
some_listed bs [] e some = absurd (let n = ap length e in omega arith)
some_listed bs (c ∷ cs) e some = omega arith

pub some_chars : (bs : List ℕ) → IsUtf8 bs → 0 < length bs → 0 < length (chars bs)
some_chars bs u some = some_listed bs (chars bs) (sym (encodes-chars bs u)) some

-- a text is its first characters and what follows them
pub text_at_seam : (bs rest : List ℕ) (n : ℕ) → IsUtf8 bs → IsUtf8 rest → chars rest ≡ drop n (chars bs) → bs ≡ encode_utf8_all (take n (chars bs)) ++ rest
text_at_seam bs rest n u v e =
    sym (encodes-chars bs u) ∙ (ap encode_utf8_all (sym (take-append-drop n (chars bs))) ∙ (encodes-append (take n (chars bs)) (drop n (chars bs)) ∙ ap (λ (xs : List ℕ). encode_utf8_all (take n (chars bs)) ++ xs) (sym (bytes_from_chars rest (drop n (chars bs)) v e))))

length_front : (bs xs rest : List ℕ) → bs ≡ xs ++ rest → length bs - length rest ≡ length xs
length_front bs xs rest e = let n = ap length e ∙ length-append xs rest in omega arith

pub boundary_at_seam : (bs rest : List ℕ) (n : ℕ) → IsUtf8 bs → IsUtf8 rest → chars rest ≡ drop n (chars bs) → IsCharBoundary bs (length bs - length rest)
boundary_at_seam bs rest n u v e =
    let cut = text_at_seam bs rest n u v e in
    subst (IsCharBoundary bs) (sym (length_front bs _ rest cut)) (IsCharBoundary-at_seam bs _ rest cut v)

pub front_at_seam : (bs rest : List ℕ) (n : ℕ) → IsUtf8 bs → IsUtf8 rest → chars rest ≡ drop n (chars bs) → take (length bs - length rest) bs ≡ encode_utf8_all (take n (chars bs))
front_at_seam bs rest n u v e =
    let cut = text_at_seam bs rest n u v e in
    ap (λ (k : ℕ). take k bs) (length_front bs _ rest cut) ∙ (ap (take (length (encode_utf8_all (take n (chars bs))))) cut ∙ take-append_seam (encode_utf8_all (take n (chars bs))) rest)

pub rest_within : (bs rest : List ℕ) (n : ℕ) → IsUtf8 bs → IsUtf8 rest → chars rest ≡ drop n (chars bs) → length rest ≤ length bs
rest_within bs rest n u v e =
    let m = ap length (text_at_seam bs rest n u v e) ∙ length-append (encode_utf8_all (take n (chars bs))) rest in omega arith

-- what was written, and so many copies of the text; then one more
pub copies_more : (made before start bs : List ℕ) (n : ℕ) → IsUtf8 bs → made ≡ before ++ bs → before ≡ start ++ encode_utf8_all (repeated n (chars bs)) → made ≡ start ++ encode_utf8_all (repeated (n + 1) (chars bs))
copies_more made before start bs n u e f =
    let cs = chars bs in
    e ∙ (ap (λ (xs : List ℕ). xs ++ bs) f ∙ (append_assoc start (encode_utf8_all (repeated n cs)) bs ∙ ap (λ (xs : List ℕ). start ++ xs) (ap (λ (xs : List ℕ). encode_utf8_all (repeated n cs) ++ xs) (sym (encodes-chars bs u)) ∙ (sym (encodes-append (repeated n cs) cs) ∙ ap encode_utf8_all (repeated_more cs n)))))

-- what was written, copies of the text and a part of it
pub filled : (made copied start bs part : List ℕ) (n k : ℕ) → IsUtf8 part → k ≡ length (chars bs) → 0 < k → made ≡ copied ++ part → copied ≡ start ++ encode_utf8_all (repeated (n / k) (chars bs)) → chars part ≡ take (n % k) (chars bs) → made ≡ start ++ encode_utf8_all (filling n (chars bs))
filled made copied start bs part n k u e some made_is copied_is part_is =
    let cs = chars bs in
    made_is ∙ (ap (λ (xs : List ℕ). xs ++ part) copied_is ∙ (append_assoc start (encode_utf8_all (repeated (n / k) cs)) part ∙ ap (λ (xs : List ℕ). start ++ xs) (ap (λ (xs : List ℕ). encode_utf8_all (repeated (n / k) cs) ++ xs) (bytes_from_chars part (take (n % k) cs) u part_is) ∙ (sym (encodes-append (repeated (n / k) cs) (take (n % k) cs)) ∙ ap encode_utf8_all (sym (filling_is cs n k e some))))))

-- characters written before a text, and behind it
pub written_before : (made bs cs : List ℕ) → IsUtf8 bs → made ≡ encode_utf8_all cs ++ bs → made ≡ encode_utf8_all (cs ++ chars bs)
written_before made bs cs u e = e ∙ (ap (λ (xs : List ℕ). encode_utf8_all cs ++ xs) (sym (encodes-chars bs u)) ∙ sym (encodes-append cs (chars bs)))

pub written_behind : (made bs cs : List ℕ) → IsUtf8 bs → made ≡ bs ++ encode_utf8_all cs → made ≡ encode_utf8_all (chars bs ++ cs)
written_behind made bs cs u e = e ∙ (ap (λ (xs : List ℕ). xs ++ encode_utf8_all cs) (sym (encodes-chars bs u)) ∙ sym (encodes-append (chars bs) cs))

-- one character more
pub encodes_more : (cs : List ℕ) (c : ℕ) → encode_utf8_all (cs ++ c ∷ []) ≡ encode_utf8_all cs ++ encode_utf8 c
encodes_more cs c = encodes-append cs (c ∷ []) ∙ ap (λ (xs : List ℕ). encode_utf8_all cs ++ xs) (append-nil (encode_utf8 c))

scalars_take : (n : ℕ) (cs : List ℕ) → scalars cs ≡ true → scalars (take n cs) ≡ true
scalars_take zero cs h = refl
scalars_take (suc n) [] h = refl
scalars_take (suc n) (c ∷ cs) h = grind (arith, nat_tests, scalars_take n cs)

-- the characters of what stands before the rest of a text
pub chars_of_front : (bs rest : List ℕ) (n : ℕ) → IsUtf8 bs → IsUtf8 rest → chars rest ≡ drop n (chars bs) → chars (take (length bs - length rest) bs) ≡ take n (chars bs)
chars_of_front bs rest n u v e = ap chars (front_at_seam bs rest n u v e) ∙ chars-encodes (take n (chars bs)) (scalars_take n (chars bs) (scalars-chars bs u))

-- one character written, of a place more
pub picked_written : (made before places cs : List ℕ) (i c : ℕ) → i < length places → All (λ place. place < length cs) places → c ≡ get_or cs (get_or places i 0) c → made ≡ before ++ encode_utf8 c → before ≡ encode_utf8_all (picked (take i places) cs) → made ≡ encode_utf8_all (picked (take (i + 1) places) cs)
picked_written made before places cs i c within all is e f =
    e ∙ (ap (λ (xs : List ℕ). xs ++ encode_utf8 c) f ∙ (sym (encodes_more (picked (take i places) cs) c) ∙ ap encode_utf8_all (sym (picked_more places cs i c within (all i 0 within) is))))

pub copies_of_nothing : (bs : List ℕ) (n : ℕ) → length bs ≡ 0 → encode_utf8_all (repeated n (chars bs)) ≡ []
copies_of_nothing bs n e = ap (λ cs. encode_utf8_all (repeated n cs)) (chars_none bs e) ∙ ap encode_utf8_all (repeated_nothing n)

-- ---- the test for an empty text

pub length_chars : (bs : List ℕ) → IsUtf8 bs → length (chars bs) ≤ length bs
length_chars bs u = let n = ap length (encodes-chars bs u) in omega (arith, length-le-encodes (chars bs))

is_filled_listed : (cs : List ℕ) → 0 < length cs → is_filled cs ≡ true
is_filled_listed [] some = absurd (omega arith)
is_filled_listed (c ∷ cs) some = refl

pub is_filled_bytes : (bs : List ℕ) → IsUtf8 bs → is_filled (chars bs) ≡ not (length bs == 0)
is_filled_bytes [] u = ap is_filled chars-nil
is_filled_bytes (b ∷ bs) u = is_filled_listed (chars (b ∷ bs)) (some_chars (b ∷ bs) u (omega arith)) ∙ grind (arith, nat_tests)
