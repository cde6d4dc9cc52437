-- What every reading keeps: limits that may be, and a file among the words.
use Rattle.std.proofs.Common.{◌≡◌, ℕ, ◌+◌, ◌<◌, ◌≤◌, Bool, true, false, if◌then◌else◌, List, [], ◌∷◌, length, Option, None, Some, IfSome, map, string_bytes, refl, ap, sym, ◌∙◌, subst, arith, lit≤}
use Rattle.std.specs.Global.{Global}
use Rattle.std.specs.Prelude.{String, ◌&&◌, ◌||◌, ◌==◌, nat_le, is_some, unwrap_or, option_map, option_and_then, slice_index, codes, bytes_eq}
use Rattle.std.proofs.lemmas.Bool.Decides.{nat_tests}
use Rattle.std.proofs.lemmas.List.{length-map}
use Rattle.std.proofs.lemmas.Option.{IfSome_then}
use Rattle.gv_words.specs.declared.asked.Asked.{Asked}
use Rattle.gv_words.specs.declared.asked.Limit.{Limit}
use Rattle.gv_words.specs.declared.asked.Limit.TheVariants.{Ticks, Cells, Depth}
use Rattle.gv_words.specs.declared.asked.TheConstants.{DEFAULTS}
use Rattle.gv_words.specs.declared.words.Reading.{Reading}
use Rattle.gv_words.specs.Words.{AreLimits, finished, is_set, limit_named, limits_of, most, name_in, nothing, number_of, read, reading_of, step, step_where, value_in, value_of, with_file, with_free_word, with_limit, with_option, with_option_value, with_value, with_word, within}

if_some : {B : Type 0} (Q : B → Type 0) (test : Bool) (x y : Option B) → IfSome x Q → IfSome y Q → IfSome (if test then x else y) Q
if_some Q true x y h k = h
if_some Q false x y h k = k

module _ {A B : Type 0} (Q : B → Type 0) where
  map_some : (P : A → Type 0) (f : A → B) (o : Option A) → IfSome o P → ((x : A) → P x → Q (f x)) → IfSome (option_map f o) Q
  map_some P f None h k = tt
  map_some P f (Some x) h k = k x h

  and_then_some : (P : A → Type 0) (f : A → Option B) (o : Option A) → IfSome o P → ((x : A) → P x → IfSome (f x) Q) → IfSome (option_and_then f o) Q
  and_then_some P f None h k = tt
  and_then_some P f (Some x) h k = k x h

-- the limit may be the number
abbrev May : Limit → ℕ → Type 0
May limit number = (1 ≤ number) × (number ≤ most limit)

-- each limit that is set may be it, and the file stands before the place
abbrev Kept : ℕ → Asked → Type 0
Kept place asked = IfSome asked.ticks (May Ticks) × IfSome asked.cells (May Cells) × IfSome asked.depth (May Depth) × IfSome asked.file (λ file. file < place)

value_may : (limit : Limit) (text : List ℕ) → IfSome (value_of limit text) (May limit)
value_may limit text = by (number_of text)
  where
    tested : (number : ℕ) (least top : Bool) → nat_le 1 number ≡ least → nat_le number (most limit) ≡ top → IfSome (if least && top then Some number else None) (May limit)
    tested number true true e f = grind (arith, nat_tests)
    tested number true false e f = tt
    tested number false top e f = tt

    by : (o : Option ℕ) → IfSome (option_and_then (within limit) o) (May limit)
    by None = tt
    by (Some number) = tested number (nat_le 1 number) (nat_le number (most limit)) refl refl

limit_kept : (limit : Limit) (number place : ℕ) (asked : Asked) → Kept place asked → May limit number → Kept place (with_limit limit number asked)
limit_kept Ticks number place asked k m = (m, k.1, k.2, k.3)
limit_kept Cells number place asked k m = (k.0, m, k.2, k.3)
limit_kept Depth number place asked k m = (k.0, k.1, m, k.3)

later : (place : ℕ) (asked : Asked) → Kept place asked → Kept (place + 1) asked
later place asked k = (k.0, k.1, k.2, by asked.file k.3)
  where
    by : (o : Option ℕ) → IfSome o (λ file. file < place) → IfSome o (λ file. file < place + 1)
    by None h = tt
    by (Some file) h = omega arith

module _ (place : ℕ) (word : List ℕ) (asked : Asked) (k : Kept (place + 1) asked) where
  abbrev Next : Option Asked → Type 0
  Next next = IfSome next (Kept (place + 1))

  value_kept : (limit : Limit) → Next (with_value limit word asked)
  value_kept limit = map_some (Kept (place + 1)) (May limit) _ (value_of limit word) (value_may limit word) (λ number m. limit_kept limit number (place + 1) asked k m)

  option_value_kept : (limit : Limit) (value : Option (List ℕ)) → Next (with_option_value limit value asked)
  option_value_kept limit None = k
  option_value_kept limit (Some text) = map_some (Kept (place + 1)) (May limit) _ (value_of limit text) (value_may limit text) (λ number m. limit_kept limit number (place + 1) asked k m)

  option_kept : (limit : Limit) (value : Option (List ℕ)) → Next (with_option limit value asked)
  option_kept limit value = if_some (Kept (place + 1)) (is_set limit asked) _ _ tt (option_value_kept limit value)

  file_kept : Next (with_file place word asked)
  file_kept = if_some (Kept (place + 1)) (is_some asked.file || bytes_eq word (codes "-")) _ _ tt (k.0, k.1, k.2, omega arith)

  word_kept : (limit : Option Limit) → Next (with_word limit place word asked)
  word_kept None = if_some (Kept (place + 1)) (slice_index word 0 == 45) _ _ tt file_kept
  word_kept (Some limit) = option_kept limit (value_in word)

  free_word_kept : Next (with_free_word place word asked)
  free_word_kept =
      if_some (Kept (place + 1)) asked.only_files _ _ file_kept
      (if_some (Kept (place + 1)) (bytes_eq word (codes "--")) _ _ k (word_kept (limit_named (name_in word))))

  where_kept : (waits : Option Limit) → Next (step_where waits asked place word)
  where_kept None = free_word_kept
  where_kept (Some limit) = value_kept limit

read_kept : (words : List (List ℕ)) (asked : Asked) (place end : ℕ) → place + length words ≡ end → Kept place asked → IfSome (read asked place words) (Kept end)
read_kept [] asked place end e k = let same : place ≡ end = omega arith in subst (λ n. Kept n asked) same k
read_kept (word ∷ words) asked place end e k =
    and_then_some (Kept end) (Kept (place + 1)) (λ next. read next (place + 1) words) (step asked place word)
    (where_kept place word asked (later place asked k) asked.waits)
    (λ next h. read_kept words next (place + 1) end (omega arith) h)

default_may : (limit : Limit) (default : ℕ) (o : Option ℕ) → May limit default → IfSome o (May limit) → May limit (unwrap_or o default)
default_may limit default None d h = d
default_may limit default (Some number) d h = h

limits_kept : (place : ℕ) (asked : Asked) → Kept place asked → AreLimits (limits_of asked)
limits_kept place asked k = record {
  ticks = default_may Ticks DEFAULTS.ticks asked.ticks (lit≤ tt, lit≤ tt) k.0;
  cells = default_may Cells DEFAULTS.cells asked.cells (lit≤ tt, lit≤ tt) k.1;
  depth = default_may Depth DEFAULTS.depth asked.depth (lit≤ tt, lit≤ tt) k.2;
}

-- what a reading of so many words has
abbrev Has : ℕ → Reading → Type 0
Has words r = (r.file < words) × AreLimits r.limits

finished_has : (place : ℕ) (asked : Asked) → Kept place asked → IfSome (finished asked) (Has place)
finished_has place asked k =
    if_some (Has place) (is_some asked.waits) None (option_map (λ file. record { limits = limits_of asked; file = file }) asked.file) tt
    (map_some (Has place) (λ file. file < place) _ asked.file k.3 (λ file h. (h, limits_kept place asked k)))

reading_has : (words : List (List ℕ)) → IfSome (reading_of words) (Has (length words))
reading_has words =
    and_then_some (Has (length words)) (Kept (length words)) finished (read nothing 0 words)
    (read_kept words nothing 0 (length words) (omega arith) (tt, tt, tt, tt))
    (λ asked k. finished_has (length words) asked k)

module _ (words : List (String Global)) (asked : Asked) (result : Option Reading) (e : result ≡ finished asked) (f : Some asked ≡ read nothing 0 (map string_bytes words)) where
  result_has : IfSome result (Has (length words))
  result_has =
      let same : result ≡ reading_of (map string_bytes words) = e ∙ ap (option_and_then finished) f in
      let count : length (map string_bytes words) ≡ length words = simp length-map in
      subst (λ o. IfSome o (Has (length words))) (sym same) (subst (λ n. IfSome (reading_of (map string_bytes words)) (Has n)) count (reading_has (map string_bytes words)))

  pub result_within : IfSome result (λ r. r.file < length words)
  result_within = IfSome_then result result_has (λ r h. h.0)

  pub result_limits : IfSome result (λ r. AreLimits r.limits)
  result_limits = IfSome_then result result_has (λ r h. h.1)
