-- How many bytes a text has that is repeated or padded.
use Rattle.std.proofs.Common.{◌≡◌, ℕ, zero, suc, ◌<◌, ◌≤◌, ◌-◌, ◌+◌, ◌*◌, ◌/◌, List, [], ◌∷◌, length, encode_utf8_all, IsUtf8, sym, ap, ◌∙◌, arith, length-append}
use Rattle.std.specs.Str.{chars}
use Rattle.std.proofs.lemmas.Str.{length-le-encodes, encodes-append, encodes-chars}
use Rattle.std.proofs.lemmas.List.{length-take}
use Rattle.gv_chars.specs.Chars.{repeated, filling, padded_left, padded_right}
use Rattle.gv_heap.specs.Prices.{text_price}

-- ---- repeated

length_copies : (n : ℕ) (cs : List ℕ) → length (encode_utf8_all (repeated n cs)) ≡ n * length (encode_utf8_all cs)
length_copies zero cs = omega arith
length_copies (suc n) cs =
    ap length (encodes-append cs (repeated n cs)) ∙ length-append (encode_utf8_all cs) (encode_utf8_all (repeated n cs))
    ∙ omega (arith, length_copies n cs)

pub repeated_bytes : (n : ℕ) (bs : List ℕ) → IsUtf8 bs → length (encode_utf8_all (repeated n (chars bs))) ≡ n * length bs
repeated_bytes n bs u = length_copies n (chars bs) ∙ ap (λ xs. n * length xs) (encodes-chars bs u)

-- ---- padded

-- a text that isn't empty has characters
some_listed : (bs cs : List ℕ) → bs ≡ encode_utf8_all cs → 0 < length bs → 0 < length cs
some_listed bs [] e some = absurd (let n = ap length e in omega arith)
some_listed bs (c ∷ cs) e some = omega arith

some_chars : (bs : List ℕ) → IsUtf8 bs → 0 < length bs → 0 < length (chars bs)
some_chars bs u some = some_listed bs (chars bs) (sym (encodes-chars bs u)) some

enough : (n : ℕ) (unit : List ℕ) → 0 < length unit → n ≤ length (repeated n unit)
enough zero unit some = omega arith
enough (suc n) unit some = omega (arith, length-append unit (repeated n unit), enough n unit some)

filled : (n : ℕ) (unit : List ℕ) → 0 < length unit → n ≤ length (filling n unit)
filled n unit some = omega (arith, enough n unit some, length-take n (repeated n unit))

-- a text with so many characters costs no less than one with so many bytes
dearer : (cells size : ℕ) (cs : List ℕ) → size ≤ length cs → cells < 1 + (size + 7) / 8 → cells < text_price (encode_utf8_all cs)
dearer cells size cs long short = omega (arith, length-le-encodes cs)

pub left_price : (cells size : ℕ) (unit text : List ℕ) → IsUtf8 unit → 0 < length unit → cells < 1 + (size + 7) / 8 → cells < text_price (encode_utf8_all (padded_left size (chars unit) (chars text)))
left_price cells size unit text u some short =
    let long : size ≤ length (padded_left size (chars unit) (chars text)) =
    omega (arith, filled (size - length (chars text)) (chars unit) (some_chars unit u some), length-append (filling (size - length (chars text)) (chars unit)) (chars text)) in
    dearer cells size (padded_left size (chars unit) (chars text)) long short

pub right_price : (cells size : ℕ) (unit text : List ℕ) → IsUtf8 unit → 0 < length unit → cells < 1 + (size + 7) / 8 → cells < text_price (encode_utf8_all (padded_right size (chars unit) (chars text)))
right_price cells size unit text u some short =
    let long : size ≤ length (padded_right size (chars unit) (chars text)) =
    omega (arith, filled (size - length (chars text)) (chars unit) (some_chars unit u some), length-append (chars text) (filling (size - length (chars text)) (chars unit))) in
    dearer cells size (padded_right size (chars unit) (chars text)) long short
