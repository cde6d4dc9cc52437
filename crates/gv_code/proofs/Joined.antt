-- Pieces in a row.
use Rattle.std.proofs.Common.{◌≡◌, ℕ, ◌+◌, List, [], ◌∷◌, ◌++◌, map, length, refl, sym, ap, ◌∙◌, arith, append_assoc, length-append}
use Rattle.gv_code.specs.declared.code.Handler.{Handler}
use Rattle.gv_code.specs.Pieces.{Piece, bare, joined, shifted}

append_none : {A : Type 0} (xs : List A) → xs ++ [] ≡ xs
append_none [] = refl
append_none (x ∷ xs) = ap (λ l. x ∷ l) (append_none xs)

shifted_twice : (n m : ℕ) (h : Handler) → shifted n (shifted m h) ≡ shifted (n + m) h
shifted_twice n m h =
    let a : h.from + m + n ≡ h.from + (n + m) = omega arith in
    let b : h.to + m + n ≡ h.to + (n + m) = omega arith in
    let c : h.target + m + n ≡ h.target + (n + m) = omega arith in
    cc (a, b, c)

shifted_none : (h : Handler) → shifted 0 h ≡ h
shifted_none h =
    let a : h.from + 0 ≡ h.from = omega arith in
    let b : h.to + 0 ≡ h.to = omega arith in
    let c : h.target + 0 ≡ h.target = omega arith in
    ap (λ n. record { from = n; to = h.to + 0; class = h.class; target = h.target + 0; kept = h.kept }) a ∙ ap (λ n. record { from = h.from; to = n; class = h.class; target = h.target + 0; kept = h.kept }) b ∙ ap (λ n. record { from = h.from; to = h.to; class = h.class; target = n; kept = h.kept }) c

map_twice : (n m : ℕ) (hs : List Handler) → map (shifted n) (map (shifted m) hs) ≡ map (shifted (n + m)) hs
map_twice n m [] = refl
map_twice n m (h ∷ hs) = cc (shifted_twice n m h, map_twice n m hs)

map_none : (hs : List Handler) → map (shifted 0) hs ≡ hs
map_none [] = refl
map_none (h ∷ hs) = cc (shifted_none h, map_none hs)

map_append : (n : ℕ) (hs js : List Handler) → map (shifted n) (hs ++ js) ≡ map (shifted n) hs ++ map (shifted n) js
map_append n [] js = refl
map_append n (h ∷ hs) js = ap (λ l. shifted n h ∷ l) (map_append n hs js)

pub joined_assoc : (a b c : Piece) → joined (joined a b) c ≡ joined a (joined b c)
joined_assoc a b c =
    let n = length a.items in
    let m = length b.items in
    let items = append_assoc a.items b.items c.items in
    let l : length (a.items ++ b.items) ≡ n + m = length-append a.items b.items in
    let third : map (shifted (length (a.items ++ b.items))) c.handlers ≡ map (shifted n) (map (shifted m) c.handlers) = ap (λ k. map (shifted k) c.handlers) l ∙ sym (map_twice n m c.handlers) in
    let handlers : (a.handlers ++ map (shifted n) b.handlers) ++ map (shifted (length (a.items ++ b.items))) c.handlers ≡ a.handlers ++ map (shifted n) (b.handlers ++ map (shifted m) c.handlers) =
    append_assoc a.handlers (map (shifted n) b.handlers) _ ∙ ap (λ l. a.handlers ++ l) (ap (λ l. map (shifted n) b.handlers ++ l) third ∙ sym (map_append n b.handlers (map (shifted m) c.handlers))) in
    cc (items, handlers)

pub joined_none : (a : Piece) → joined a (bare []) ≡ a
joined_none a =
    ap (λ l. record { items = l; handlers = a.handlers ++ [] }) (append_none a.items) ∙ ap (λ l. record { items = a.items; handlers = l }) (append_none a.handlers)

pub none_joined : (a : Piece) → joined (bare []) a ≡ a
none_joined a = ap (λ l. record { items = a.items; handlers = l }) (map_none a.handlers)
