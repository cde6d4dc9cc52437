-- Bounds of handlers.
use Rattle.std.proofs.Common.{◌≡◌, ℕ, zero, suc, ◌+◌, ◌<◌, ◌≤◌, List, [], ◌∷◌, ◌++◌, map, length, sym, subst, arith}
use Rattle.std.specs.Prelude.{slice_index_or}
use Rattle.gv_code.specs.declared.code.Handler.{Handler}
use Rattle.gv_code.specs.Pieces.{Bounded, shifted}

pub record Low (n : ℕ) (h : Handler) : Type 0 where
  pub from : h.from ≤ n
  pub to : h.to ≤ n
  pub target : h.target ≤ n + 2

pub bounded_at : (n i : ℕ) (hs : List Handler) (d : Handler) → Bounded n hs → i < length hs → Low n (slice_index_or hs i d)
bounded_at n i [] d b lt = absurd (omega arith)
bounded_at n zero (h ∷ hs) d b lt = record { from = b.0; to = b.1; target = b.2 }
bounded_at n (suc i) (h ∷ hs) d b lt = bounded_at n i hs d b.3 (omega arith)

bounded_more : (m n : ℕ) (hs : List Handler) → n ≤ m → Bounded n hs → Bounded m hs
bounded_more m n [] le b = tt
bounded_more m n (h ∷ hs) le b = (omega arith, omega arith, omega arith, bounded_more m n hs le b.3)

bounded_shifted : (m n : ℕ) (hs : List Handler) → Bounded m hs → Bounded (n + m) (map (shifted n) hs)
bounded_shifted m n [] b = tt
bounded_shifted m n (h ∷ hs) b = (omega arith, omega arith, omega arith, bounded_shifted m n hs b.3)

bounded_append : (n : ℕ) (hs js : List Handler) → Bounded n hs → Bounded n js → Bounded n (hs ++ js)
bounded_append n [] js b c = c
bounded_append n (h ∷ hs) js b c = (b.0, b.1, b.2, bounded_append n hs js b.3 c)

pub bounded_joined : (n m all : ℕ) (hs js ks : List Handler) → all ≡ n + m → ks ≡ hs ++ map (shifted n) js → Bounded n hs → Bounded m js → Bounded all ks
bounded_joined n m all hs js ks e f b c =
    subst (λ l. Bounded all l) (sym f) (subst (λ k. Bounded k (hs ++ map (shifted n) js)) (sym e) (bounded_append (n + m) hs (map (shifted n) js) (bounded_more (n + m) n hs (omega arith) b) (bounded_shifted m n js c)))

pub bounded_one_more : (n : ℕ) (hs ks : List Handler) (h : Handler) → ks ≡ hs ++ h ∷ [] → Bounded n hs → h.from ≤ n → h.to ≤ n → h.target ≤ n + 2 → Bounded n ks
bounded_one_more n hs ks h e b p q r = subst (λ l. Bounded n l) (sym e) (bounded_append n hs (h ∷ []) b (p, q, r, tt))
