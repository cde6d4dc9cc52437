-- The keys that are noted are as many as the cells that joining takes.
use Rattle.std.proofs.Common.{◌≡◌, ◌+◌, Bool, true, false, ◌||◌, cond, if◌then◌else◌, List, [], ◌∷◌, ◌++◌, length, length-append, is_some, unwrap_or, Some, refl, ap, sym, ◌∙◌, arith}
use Rattle.std.specs.List.{list_any}
use Rattle.std.specs.Map.{lookup}
use Rattle.std.proofs.lemmas.List.Folds.{list_any-append}
use Rattle.indexmap.specs.IndexMap.{insert_entry}
use Rattle.gv_heap.specs.Entries.{has_key, shown_at, with_entry}
use Rattle.gv_heap.specs.Keys.{same_key, same_key_Decides}
use Rattle.gv_heap.specs.Prices.{entry_price}
use Rattle.gv_heap.specs.declared.entries.Slot.{Slot}
use Rattle.gv_heap.specs.declared.key.MapKey.{MapKey}
use Rattle.gv_maps.specs.Joining.{joined, join_price}
use Rattle.gv_maps.specs.Prices.{noted, count_noted}

-- ---- tests

or_false : (a : Bool) → a ≡ (a || false)
or_false true = refl
or_false false = refl

or_swap : (a b c : Bool) → (a || (b || c)) ≡ ((a || b) || c)
or_swap true b c = refl
or_swap false b c = refl

-- what is there already changes nothing
or_known : (a b : Bool) → (b ≡ true → a ≡ true) → a ≡ (a || b)
or_known true b h = refl
or_known false true h = h refl
or_known false false h = refl

-- ---- which keys are there

has_key-cons : (e : MapKey × Slot) (entries : List (MapKey × Slot)) (q : MapKey) → has_key (e ∷ entries) q ≡ (same_key q e.0 || has_key entries q)
has_key-cons e entries q = by (same_key q e.0)
  where
    by : (b : Bool) → is_some (cond b (Some e.1) (lookup (same_key q) entries)) ≡ (b || has_key entries q)
    by true = refl
    by false = refl

-- a key that is the same tests the same
same_test : (q k j : MapKey) → same_key k j ≡ true → same_key q k ≡ same_key q j
same_test q k j h = ap (same_key q) ((same_key_Decides k j).0 h)

or_again : (a b : Bool) → (a || b) ≡ ((a || b) || a)
or_again true b = refl
or_again false true = refl
or_again false false = refl

pub has_key-insert : (entries : List (MapKey × Slot)) (k : MapKey) (x : Slot) (q : MapKey) → has_key (insert_entry same_key entries k x) q ≡ (has_key entries q || same_key q k)
has_key-insert [] k x q = has_key-cons (k, x) [] q ∙ sym (or_false (same_key q k))
has_key-insert (e ∷ entries) k x q = by (has_key-insert entries k x q) (same_key k e.0) refl
  where
    by : has_key (insert_entry same_key entries k x) q ≡ (has_key entries q || same_key q k) → (b : Bool) → same_key k e.0 ≡ b → has_key (if b then (e.0, x) ∷ entries else e ∷ insert_entry same_key entries k x) q ≡ (has_key (e ∷ entries) q || same_key q k)
    by rest true h =
        has_key-cons (e.0, x) entries q ∙ or_again (same_key q e.0) (has_key entries q)
        ∙ ap (λ b. (same_key q e.0 || has_key entries q) || b) (sym (same_test q k e.0 h))
        ∙ ap (λ b. b || same_key q k) (sym (has_key-cons e entries q))
    by rest false h =
        has_key-cons e (insert_entry same_key entries k x) q
        ∙ ap (λ b. same_key q e.0 || b) rest
        ∙ or_swap (same_key q e.0) (has_key entries q) (same_key q k)
        ∙ ap (λ b. b || same_key q k) (sym (has_key-cons e entries q))

-- ---- how many entries there are

length-insert : (entries : List (MapKey × Slot)) (k : MapKey) (x : Slot) → length (insert_entry same_key entries k x) ≡ length entries + (if has_key entries k then 0 else 1)
length-insert [] k x = refl
length-insert (e ∷ entries) k x = by (length-insert entries k x) (same_key k e.0) refl
  where
    by : length (insert_entry same_key entries k x) ≡ length entries + (if has_key entries k then 0 else 1) → (b : Bool) → same_key k e.0 ≡ b → length (if b then (e.0, x) ∷ entries else e ∷ insert_entry same_key entries k x) ≡ length (e ∷ entries) + (if has_key (e ∷ entries) k then 0 else 1)
    by rest true h =
        let there : has_key (e ∷ entries) k ≡ true = has_key-cons e entries k ∙ ap (λ b. b || has_key entries k) h in
        rw there (omega arith)
    by rest false h =
        let there : has_key (e ∷ entries) k ≡ has_key entries k = has_key-cons e entries k ∙ ap (λ b. b || has_key entries k) h in
        rw there (omega arith)

pub length_joined : (entries others : List (MapKey × Slot)) → length (joined entries others) ≡ length entries + join_price entries others
length_joined entries [] = omega arith
length_joined entries (e ∷ others) =
    let rest = length_joined (with_entry entries e.0 e.1.shown e.1.value) others in
    let first : length (with_entry entries e.0 e.1.shown e.1.value) ≡ length entries + entry_price entries e.0 = length-insert entries e.0 _ in
    omega arith

-- ---- noted keys

-- a key is among the entries so far exactly where it was known or is noted
abbrev pub Agree : List (MapKey × Slot) → List (MapKey × Slot) → List MapKey → Type 0
Agree now entries keys = (q : MapKey) → has_key now q ≡ (has_key entries q || list_any (same_key q) keys)

or_true : (a : Bool) → (a || true) ≡ true
or_true true = refl
or_true false = refl

module _ (now entries : List (MapKey × Slot)) (keys : List MapKey) (k : MapKey) (x : Slot) (agree : Agree now entries keys) where
  abbrev pub known : MapKey → Bool
  known q = has_key entries q || list_any (same_key q) keys

  among : (q : MapKey) → has_key (insert_entry same_key now k x) q ≡ (known q || same_key q k)
  among q = has_key-insert now k x q ∙ ap (λ b. b || same_key q k) (agree q)

  -- a key that is known or noted is not noted again
  again : known k ≡ true → (Agree (insert_entry same_key now k x) entries keys) × (length keys ≡ length keys + entry_price now k)
  again h =
      let there : has_key now k ≡ true = agree k ∙ h in
      (λ q. among q ∙ sym (or_known (known q) (same_key q k) (λ e. ap known ((same_key_Decides q k).0 e) ∙ h)), rw there (omega arith))

  -- another is noted last
  anew : known k ≡ false → (Agree (insert_entry same_key now k x) entries (keys ++ k ∷ [])) × (length (keys ++ k ∷ []) ≡ length keys + entry_price now k)
  anew h =
      let there : has_key now k ≡ false = agree k ∙ h in
      let longer = length-append keys (k ∷ []) in (
        λ q. among q ∙ sym (or_swap (has_key entries q) (list_any (same_key q) keys) (same_key q k))
            ∙ ap (λ b. has_key entries q || b) (ap (λ b. list_any (same_key q) keys || b) (or_false (same_key q k)) ∙ sym (list_any-append (same_key q) keys (k ∷ []))),
        rw there (omega arith),
      )

  abbrev pub Noted : List MapKey → Type 0
  Noted after = (Agree (insert_entry same_key now k x) entries after) × (length after ≡ length keys + entry_price now k)

  pub note_step : Noted (noted entries keys k)
  note_step = by (has_key entries k) (list_any (same_key k) keys) refl refl
    where
      by : (b c : Bool) → has_key entries k ≡ b → list_any (same_key k) keys ≡ c → Noted (if b then keys else if c then keys else keys ++ k ∷ [])
      by true c h i = again (ap (λ b. b || list_any (same_key k) keys) h)
      by false true h i = again (ap (λ b. has_key entries k || b) i ∙ or_true (has_key entries k))
      by false false h i = anew (ap (λ b. b || list_any (same_key k) keys) h ∙ i)

counted : (now entries : List (MapKey × Slot)) (keys : List MapKey) (others : List (MapKey × Slot)) → Agree now entries keys → count_noted entries keys others ≡ length keys + join_price now others
counted now entries keys [] agree = omega arith
counted now entries keys (e ∷ others) agree =
    let slot : Slot = record { shown = unwrap_or (shown_at now e.0) e.1.shown; value = e.1.value } in
    let step = note_step now entries keys e.0 slot agree in
    let rest = counted (insert_entry same_key now e.0 slot) entries (noted entries keys e.0) others step.0 in
    let longer = step.1 in
    omega arith

pub counted_all : (entries others : List (MapKey × Slot)) → count_noted entries [] others ≡ join_price entries others
counted_all entries others =
    let all = counted entries entries [] others (λ q. or_false (has_key entries q)) in
    omega arith
