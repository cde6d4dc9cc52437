-- The items of a piece, each with the guards that the handlers which cover it come to.
use Rattle.std.proofs.Common.{◌≡◌, ℕ, suc, ◌+◌, ◌-◌, ◌<◌, ◌≤◌, Bool, true, false, List, [], ◌∷◌, ◌++◌, map, length, Option, refl, sym, ap, ◌∙◌, subst, arith, length-append}
use Rattle.std.specs.Prelude.{nat_le, nat_lt, ◌&&◌}
use Rattle.std.proofs.lemmas.Bool.Decides.{nat_tests}
use Rattle.gv_core.specs.declared.stmt.Exit.{Exit}
use Rattle.gv_code.specs.declared.code.Op.{Op}
use Rattle.gv_code.specs.declared.code.Handler.{Handler}
use Rattle.gv_code.specs.declared.piece.Item.{Item}
use Rattle.gv_code.specs.Pieces.{Piece, bare, shifted, joined, decide, directed_items, directed as directed_piece}
use Rattle.gv_written.proofs.Scope.{append_none}

-- where a throw goes: how many instructions on, and how many of the lowest operands are kept
pub record Guard : Type 0 where
  pub on : ℕ
  pub kept : ℕ

-- an item with its guards, the innermost first
pub record Placed : Type 0 where
  pub item : Item
  pub guards : List Guard

abbrev pub alone : Item → Placed
alone o = record { item = o; guards = [] }

abbrev pub unguarded : List Item → List Placed
unguarded [] = []
unguarded (o ∷ os) = alone o ∷ unguarded os

abbrev pub Ways : Type 0
Ways = Exit → Option (ℕ → Op)

abbrev pub directed : Ways → List Placed → List Placed
directed ways [] = []
directed ways (i ∷ is) = record { item = decide ways (length is) i.item; guards = i.guards } ∷ directed ways is

abbrev pub covers : Handler → ℕ → Bool
covers h p = nat_le h.from p && nat_lt p h.to

abbrev pub more : Bool → Guard → List Guard → List Guard
more true g gs = g ∷ gs
more false g gs = gs

abbrev pub guard : Handler → ℕ → Guard
guard h p = record { on = h.target - (p + 1); kept = h.kept }

abbrev pub guards_at : ℕ → List Handler → List Guard
guards_at p [] = []
guards_at p (h ∷ hs) = more (covers h p) (guard h p) (guards_at p hs)

abbrev pub placed_from : ℕ → List Handler → List Item → List Placed
placed_from p hs [] = []
placed_from p hs (o ∷ os) = record { item = o; guards = guards_at p hs } ∷ placed_from (p + 1) hs os

abbrev pub placed : Piece → List Placed
placed c = placed_from 0 c.handlers c.items

-- no handler goes past the end, and none leads into what it covers
abbrev pub WithinAll : ℕ → List Handler → Type 0
WithinAll n [] = Unit {0}
WithinAll n (h ∷ hs) = (h.to ≤ n) × (h.to ≤ h.target) × WithinAll n hs

abbrev pub Within : Piece → Type 0
Within c = WithinAll (length c.items) c.handlers

-- ---- lengths

length-placed_from : (p : ℕ) (hs : List Handler) (os : List Item) → length (placed_from p hs os) ≡ length os
length-placed_from p hs [] = refl
length-placed_from p hs (o ∷ os) = ap suc (length-placed_from (p + 1) hs os)

pub length-placed : (c : Piece) → length (placed c) ≡ length c.items
length-placed c = length-placed_from 0 c.handlers c.items

pub length-unguarded : (os : List Item) → length (unguarded os) ≡ length os
length-unguarded [] = refl
length-unguarded (o ∷ os) = ap suc (length-unguarded os)

pub length-directed : (ways : Ways) (is : List Placed) → length (directed ways is) ≡ length is
length-directed ways [] = refl
length-directed ways (i ∷ is) = ap suc (length-directed ways is)

pub length-directed_items : (ways : Ways) (os : List Item) → length (directed_items ways os) ≡ length os
length-directed_items ways [] = refl
length-directed_items ways (o ∷ os) = ap suc (length-directed_items ways os)

-- ---- a piece without handlers

placed_none : (p : ℕ) (os : List Item) → placed_from p [] os ≡ unguarded os
placed_none p [] = refl
placed_none p (o ∷ os) = ap (λ l. alone o ∷ l) (placed_none (p + 1) os)

pub placed_bare : (os : List Item) → placed (bare os) ≡ unguarded os
placed_bare os = placed_none 0 os

pub unguarded_append : (a b : List Item) → unguarded (a ++ b) ≡ unguarded a ++ unguarded b
unguarded_append [] b = refl
unguarded_append (o ∷ a) b = ap (λ l. alone o ∷ l) (unguarded_append a b)

-- ---- one piece behind another

placed_append : (p : ℕ) (hs : List Handler) (a b : List Item) → placed_from p hs (a ++ b) ≡ placed_from p hs a ++ placed_from (p + length a) hs b
placed_append p hs [] b = let e : p ≡ p + 0 = omega arith in ap (λ n. placed_from n hs b) e
placed_append p hs (o ∷ a) b =
    let e : p + 1 + length a ≡ p + length (o ∷ a) = omega arith in
    ap (λ l. record { item = o; guards = guards_at p hs } ∷ l) (placed_append (p + 1) hs a b ∙ ap (λ n. placed_from (p + 1) hs a ++ placed_from n hs b) e)

more_append : (b : Bool) (g : Guard) (gs hs : List Guard) → more b g (gs ++ hs) ≡ more b g gs ++ hs
more_append true g gs hs = refl
more_append false g gs hs = refl

guards_append : (p : ℕ) (hs js : List Handler) → guards_at p (hs ++ js) ≡ guards_at p hs ++ guards_at p js
guards_append p [] js = refl
guards_append p (h ∷ hs) js = ap (λ l. more (covers h p) (guard h p) l) (guards_append p hs js) ∙ more_append (covers h p) (guard h p) (guards_at p hs) (guards_at p js)

covers_not : (h : Handler) (p : ℕ) → h.to ≤ p → covers h p ≡ false
covers_not h p le = grind (arith, nat_tests)

covers_below : (n : ℕ) (h : Handler) (p : ℕ) → p < n → covers (shifted n h) p ≡ false
covers_below n h p lt = grind (arith, nat_tests)

covers_shifted : (n : ℕ) (h : Handler) (p : ℕ) → covers (shifted n h) (p + n) ≡ covers h p
covers_shifted n h p = grind (arith, nat_tests)

guards_none : (n p : ℕ) (hs : List Handler) → WithinAll n hs → n ≤ p → guards_at p hs ≡ []
guards_none n p [] w le = refl
guards_none n p (h ∷ hs) w le =
    let lt : h.to ≤ p = omega arith in
    ap (λ b. more b (guard h p) (guards_at p hs)) (covers_not h p lt) ∙ guards_none n p hs w.2 le

guards_below : (n p : ℕ) (hs : List Handler) → p < n → guards_at p (map (shifted n) hs) ≡ []
guards_below n p [] lt = refl
guards_below n p (h ∷ hs) lt = ap (λ b. more b (guard (shifted n h) p) (guards_at p (map (shifted n) hs))) (covers_below n h p lt) ∙ guards_below n p hs lt

guard_shifted : (n : ℕ) (h : Handler) (p : ℕ) → guard (shifted n h) (p + n) ≡ guard h p
guard_shifted n h p =
    let e : h.target + n - (p + n + 1) ≡ h.target - (p + 1) = omega arith in
    ap (λ m. record { on = m; kept = h.kept }) e

guards_shifted : (n p : ℕ) (hs : List Handler) → guards_at (p + n) (map (shifted n) hs) ≡ guards_at p hs
guards_shifted n p [] = refl
guards_shifted n p (h ∷ hs) =
    let e : more (covers (shifted n h) (p + n)) (guard (shifted n h) (p + n)) (guards_at (p + n) (map (shifted n) hs)) ≡ more (covers h p) (guard h p) (guards_at p hs) = cc (covers_shifted n h p, guard_shifted n h p, guards_shifted n p hs) in e

placed_front : (n p : ℕ) (hs js : List Handler) (os : List Item) → p + length os ≤ n → placed_from p (hs ++ map (shifted n) js) os ≡ placed_from p hs os
placed_front n p hs js [] le = refl
placed_front n p hs js (o ∷ os) le =
    let lt : p < n = omega arith in
    let e : guards_at p (hs ++ map (shifted n) js) ≡ guards_at p hs = guards_append p hs (map (shifted n) js) ∙ ap (λ l. guards_at p hs ++ l) (guards_below n p js lt) ∙ append_none (guards_at p hs) in
    cc (e, placed_front n (p + 1) hs js os (omega arith))

placed_back : (n p q : ℕ) (hs js : List Handler) (os : List Item) → WithinAll n hs → q ≡ p + n → placed_from q (hs ++ map (shifted n) js) os ≡ placed_from p js os
placed_back n p q hs js [] w e = refl
placed_back n p q hs js (o ∷ os) w e =
    let le : n ≤ q = omega arith in
    let g : guards_at q (hs ++ map (shifted n) js) ≡ guards_at p js = guards_append q hs (map (shifted n) js) ∙ ap (λ l. l ++ guards_at q (map (shifted n) js)) (guards_none n q hs w le) ∙ ap (λ m. guards_at m (map (shifted n) js)) e ∙ guards_shifted n p js in
    cc (g, placed_back n (p + 1) (q + 1) hs js os w (omega arith))

pub placed_joined : (a b : Piece) → Within a → placed (joined a b) ≡ placed a ++ placed b
placed_joined a b w =
    let n = length a.items in
    let le : 0 + n ≤ n = omega arith in
    let z : 0 + n ≡ 0 + n = refl in
    placed_append 0 (a.handlers ++ map (shifted n) b.handlers) a.items b.items ∙ cc (placed_front n 0 a.handlers b.handlers a.items le, placed_back n 0 (0 + n) a.handlers b.handlers b.items w z)

within_more : (m n : ℕ) (hs : List Handler) → n ≤ m → WithinAll n hs → WithinAll m hs
within_more m n [] le w = tt
within_more m n (h ∷ hs) le w = (omega arith, w.1, within_more m n hs le w.2)

within_shifted : (m n : ℕ) (hs : List Handler) → WithinAll m hs → WithinAll (n + m) (map (shifted n) hs)
within_shifted m n [] w = tt
within_shifted m n (h ∷ hs) w = (omega arith, omega arith, within_shifted m n hs w.2)

within_append : (n : ℕ) (hs js : List Handler) → WithinAll n hs → WithinAll n js → WithinAll n (hs ++ js)
within_append n [] js w v = v
within_append n (h ∷ hs) js w v = (w.0, w.1, within_append n hs js w.2 v)

pub within_joined : (a b : Piece) → Within a → Within b → Within (joined a b)
within_joined a b wa wb =
    let n = length a.items in
    subst (λ m. WithinAll m (a.handlers ++ map (shifted n) b.handlers)) (sym (length-append a.items b.items))
    (within_append (n + length b.items) a.handlers (map (shifted n) b.handlers) (within_more (n + length b.items) n a.handlers (omega arith) wa) (within_shifted (length b.items) n b.handlers wb))

-- ---- ways out that are decided

placed_directed_from : (ways : Ways) (p : ℕ) (hs : List Handler) (os : List Item) → placed_from p hs (directed_items ways os) ≡ directed ways (placed_from p hs os)
placed_directed_from ways p hs [] = refl
placed_directed_from ways p hs (o ∷ os) = cc (placed_directed_from ways (p + 1) hs os, length-placed_from (p + 1) hs os)

pub placed_directed : (ways : Ways) (c : Piece) → placed (directed_piece ways c) ≡ directed ways (placed c)
placed_directed ways c = placed_directed_from ways 0 c.handlers c.items

pub within_directed : (ways : Ways) (c : Piece) → Within c → Within (directed_piece ways c)
within_directed ways c w = subst (λ n. WithinAll n c.handlers) (sym (length-directed_items ways c.items)) w
