-- Pieces that follow one another.
use Rattle.std.proofs.Common.{◌≡◌, ℕ, ◌+◌, ◌-◌, ◌<◌, ◌≤◌, List, [], ◌∷◌, ◌++◌, take, drop, get_or, flat_map, zero, suc, length, ap, sym, refl, ◌∙◌, append_assoc, length-append, length-drop, arith}
use Rattle.std.proofs.Math.Seq.{take-add, take-length, take-append-add}
use Rattle.std.proofs.lemmas.List.{take-append-le}
use Rattle.gv_outside.specs.Sink.{SinkState, Takes, TakesPrefix}

-- what is left of the bytes, as `&bytes[done..]` has it
pub rest_is : (bytes : List ℕ) (done : ℕ) → take (length bytes - done) (drop done bytes) ≡ drop done bytes
rest_is bytes done = rw (← length-drop done bytes) (take-length (drop done bytes))

-- one more piece
pub takes_more : (old mid new : SinkState) (bytes : List ℕ) (done count : ℕ) → Takes old (take done bytes) mid → Takes mid (take count (drop done bytes)) new → Takes old (take (done + count) bytes) new
takes_more old mid new bytes done count first then = λ after h.
    let second = then after h in
    let start = first second.0 second.1 in (
      start.0,
      start.1,
      second.2 ∙ ap (λ (b : List ℕ). b ++ take count (drop done bytes)) start.2
          ∙ append_assoc start.0 (take done bytes) (take count (drop done bytes)) ∙ ap (λ (b : List ℕ). start.0 ++ b) (sym (take-add done count bytes)),
    )

-- bytes behind bytes
pub takes_after : (old mid new : SinkState) (first then : List ℕ) → Takes old first mid → Takes mid then new → Takes old (first ++ then) new
takes_after old mid new first then before behind = λ after told.
    let second = behind after told in
    let start = before second.0 second.1 in
    (start.0, start.1, second.2 ∙ ap (λ (b : List ℕ). b ++ then) start.2 ∙ append_assoc start.0 first then)

-- some first bytes behind bytes, where more were meant to come
pub prefix_after : (old mid new : SinkState) (first then rest : List ℕ) → Takes old first mid → TakesPrefix mid then new → TakesPrefix old (first ++ (then ++ rest)) new
prefix_after old mid new first then rest before behind =
    let count = behind.0 in
    let within : count ≤ length then = behind.1 in
    (length first + count, simp length-append (omega arith), rw (taken first then rest count within) (takes_after old mid new first (take count then) before behind.2))
  where
    taken : (first then rest : List ℕ) (count : ℕ) → count ≤ length then → take (length first + count) (first ++ (then ++ rest)) ≡ first ++ take count then
    taken first then rest count within = take-append-add first (then ++ rest) count ∙ ap (λ (b : List ℕ). first ++ b) (take-append-le count then rest within)

-- the pieces before a place, the piece there, and those behind it
pub flat_map-at : {X : Type 0} (f : X → List ℕ) (xs : List X) (i : ℕ) (x : X) → i < length xs → flat_map f (take i xs) ++ (f (get_or xs i x) ++ flat_map f (drop (suc i) xs)) ≡ flat_map f xs
flat_map-at f [] i x h = absurd (omega arith)
flat_map-at f (y ∷ xs) zero x h = refl
flat_map-at f (y ∷ xs) (suc i) x h = append_assoc (f y) (flat_map f (take i xs)) (f (get_or xs i x) ++ flat_map f (drop (suc i) xs)) ∙ ap (λ (b : List ℕ). f y ++ b) (flat_map-at f xs i x (omega arith))
