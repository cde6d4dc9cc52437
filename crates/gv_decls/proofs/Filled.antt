-- Expressions with their closures read.
use Rattle.std.proofs.Common.{◌≡◌, ℕ, ◌≤◌, List, [], ◌∷◌, length, drop, Bool, true, false, eqb, refl, sym, subst, arith, Result, Ok, Err, ◌⊎◌, inl, inr, ap}
use Rattle.std.specs.List.{Contains}
use borrow.Author.Tests.{eqb-true, eq-eqb}
use Rattle.std.proofs.lemmas.List.Elements.{Contains-append_cases, Contains-append_right, Contains-push_cases}
use Rattle.gv_lex.specs.declared.token.Token.{Token}
use Rattle.gv_tree.specs.declared.expr.Closure.{Closure}
use Rattle.gv_tree.specs.declared.expr.Closure.TheVariants as closure
use Rattle.gv_tree.specs.declared.expr.Expr.{Expr}
use Rattle.gv_grammar.specs.Tokens.{kind_of, reach}
use Rattle.gv_grammar.specs.Phrases.{Longest, Nothing}
use Rattle.gv_grammar.specs.Meeting.{Meet, one, first_goes_on, second_goes_on, Level}
use Rattle.gv_grammar.specs.Exprs.{IsExpr}
use Rattle.gv_grammar.specs.Commands.{IsFull}
use Rattle.gv_grammar.specs.Closures.{Found, unread_places, filled}
use Rattle.gv_grammar.specs.Stmts.{Reads, reads, IsBodyOf, IsValue, value, IsFullValue, full_value}
use Rattle.gv_grammar.proofs.Single.{along}
use Rattle.gv_grammar.proofs.Tails.{Stops, ended}
use Rattle.gv_grammar.proofs.Meets.{meet_expr}
use Rattle.gv_grammar.proofs.Commands.{full_once}
use Rattle.gv_cursor.specs.declared.error.ReadError.{ReadError}
use Rattle.gv_cursor.specs.declared.error.ReadError.TheVariants.{Refused, OutOfMemory}
use Rattle.gv_cursor.specs.Reading.{Exactly, Stopped}
use Rattle.gv_fill.specs.Filled.{Reading, FilledBy, Unreadable, Fills}
use Rattle.gv_decls.specs.Phrases.{ReadsTree}

alone : {from to x y : ℕ} → Contains {X = ℕ × ℕ} ((from, to) ∷ []) (x, y) → (from ≡ x) × (to ≡ y)
alone {from} {to} {x} {y} c = elim (Contains-push_cases [] (from, to) (x, y) c) [ inl a ↦ absurd (omega arith) | inr e ↦ (ap (λ p. p.0) e, ap (λ p. p.1) e) ]

abbrev pick : Bool → Bool → Closure → Closure → Closure
pick true true c d = c
pick true false c d = d
pick false t c d = d

module _ (tokens : List Token) where
  abbrev ReadsAt : Closure → ℕ → ℕ → Type 0
  ReadsAt c from to = IsBodyOf tokens c (drop from tokens) (drop to tokens)

  picked : {a b x y : ℕ} {c d : Closure} (s t : Bool) → (s ≡ true → a ≡ x) → (t ≡ true → b ≡ y) → (a ≡ x → s ≡ true) → (b ≡ y → t ≡ true)
      → ReadsAt c x y → ((x ≡ a) × (y ≡ b)) ⊎ ReadsAt d a b → ReadsAt (pick s t c d) a b
  picked {b = b} {x = x} {c = c} true true f g i j h u = subst (λ k. ReadsAt c k b) (sym (f refl)) (subst (λ k. ReadsAt c x k) (sym (g refl)) h)
  picked true false f g i j h u = elim u [ inl e ↦ let k = j (sym (e.1)) in cc | inr v ↦ v ]
  picked false t f g i j h u = elim u [ inl e ↦ let k = i (sym (e.0)) in cc | inr v ↦ v ]

  record Chosen (places : Found) : Type 0 where
    read : ℕ → ℕ → Closure
    all : Reading tokens read places

  -- one function for all closures
  chosen : (places : Found) → ((from to : ℕ) → Contains places (from, to) → (c : Closure) × ReadsAt c from to) → Chosen places
  chosen [] f = record { read = λ a b. closure.Unread 0 0; all = record { each = λ a b c. absurd (omega arith) } }
  chosen ((x, y) ∷ ps) f =
      let first = f x y (0, omega arith, refl) in
      let others = chosen ps (λ a b c. f a b (Contains-append_right ((x, y) ∷ []) ps (a, b) c)) in
      record {
        read = λ a b. pick (eqb a x) (eqb b y) (first.0) (others.read a b);
        all = record {
          each = λ a b c. picked (eqb a x) (eqb b y) (eqb-true a x) (eqb-true b y) (eq-eqb a x) (eq-eqb b y) (first.1)
              (elim (Contains-append_cases ((x, y) ∷ []) ps (a, b) c) [ inl h ↦ inl (alone h) | inr h ↦ inr (others.all.each a b h) ]);
        };
      }

  tree_filled : (x y : Expr) → FilledBy tokens (unread_places x) (λ read. filled read x) y → Reads tokens x y
  tree_filled x y f =
      let one = chosen (unread_places x) (λ a b c. (f.body a b c, f.read a b c)) in
      subst (λ w. Reads tokens x w) (sym (f.told one.read one.all)) (reads one.read (λ from to u. one.all.each from to u))

  never_filled : {x : Expr} → Unreadable tokens (unread_places x) → (y : Expr) → Reads tokens x y → ⊥
  never_filled u y (reads read h) = u.never (read u.from u.to) (h u.from u.to u.there)

  pub reads_tree : (x : Expr) (r : Result Expr ReadError) → Fills tokens (unread_places x) (λ read. filled read x) r → ReadsTree tokens x r
  reads_tree x (Ok y) d = tree_filled x y d
  reads_tree x (Err OutOfMemory) d = tt
  reads_tree x (Err Refused) d = never_filled d

  -- ---- values

  pub no_value_here : {ts : List Token} → Nothing (IsExpr (length tokens)) ts → Nothing (Stopped (IsValue tokens)) ts
  no_value_here f y after s = go f s.is
    where
      go : {y : Expr} {ts after : List Token} → Nothing (IsExpr (length tokens)) ts → IsValue tokens y ts after → ⊥
      go f (value d r) = f _ _ d

  -- the longest expression goes on here
  pub no_value_stops : {x : Expr} {ts rest : List Token} → Longest (IsExpr (length tokens)) x ts rest → reach (kind_of rest) ≤ 12 → Nothing (Stopped (IsValue tokens)) ts
  no_value_stops {x = x} {ts = ts} {rest = rest} l h y after s = go s.is s.stops
    where
      met : {z : Expr} {us : List Token} → Meet (Level 12) x rest z us → Stops us → length rest ≤ length us → ⊥
      met (one p q) f k = let a = ap (λ zs. reach (kind_of zs)) q in omega arith
      met (first_goes_on p q) f k = let a = p.by in omega arith
      met (second_goes_on p q) f k = omega arith

      go : {y : Expr} {after : List Token} → IsValue tokens y ts after → Stops after → ⊥
      go (value d r) f = met (meet_expr (length tokens) l.is d) f (l.longest _ _ d)

  pub no_value_read : {x : Expr} {ts rest : List Token} → IsExpr (length tokens) x ts rest → Stops rest → ((y : Expr) → Reads tokens x y → ⊥) → Nothing (Stopped (IsValue tokens)) ts
  no_value_read {x = x} {ts = ts} d h f y after s = go s.is s.stops
    where
      go : {y : Expr} {after : List Token} → IsValue tokens y ts after → Stops after → ⊥
      go {y = y} (value e r) k = let a = ended (omega arith) (meet_expr (length tokens) d e) h k in f y (subst (λ w. Reads tokens w y) (sym (a.tree)) r)

  pub no_full_here : {ts : List Token} → Nothing (Stopped (IsFull (length tokens))) ts → Nothing (Stopped (IsFullValue tokens)) ts
  no_full_here {ts = ts} f y after s = go s.is s.stops
    where
      go : {y : Expr} {after : List Token} → IsFullValue tokens y ts after → Stops after → ⊥
      go (full_value d r) k = f _ _ (record { is = d; stops = k })

  pub no_full_read : {x : Expr} {ts rest : List Token} → Stopped (IsFull (length tokens)) x ts rest → ((y : Expr) → Reads tokens x y → ⊥) → Nothing (Stopped (IsFullValue tokens)) ts
  no_full_read {x = x} {ts = ts} d f y after s = go s.is s.stops
    where
      go : {y : Expr} {after : List Token} → IsFullValue tokens y ts after → Stops after → ⊥
      go {y = y} (full_value e r) k = let a = full_once (length tokens) d.is e d.stops k in f y (subst (λ w. Reads tokens w y) (sym (a.tree)) r)

  -- an expression that ends here, and its closures
  pub value_read : {x : Expr} {ts us rest : List Token} → IsExpr (length tokens) x ts us → Stops us → rest ≡ us → (r : Result Expr ReadError) → ReadsTree tokens x r → Exactly (Stopped (IsValue tokens)) r ts rest
  value_read {ts = ts} d h e (Ok y) t = record { is = along (λ zs. IsValue tokens y ts zs) e (value d t); stops = along Stops e h }
  value_read d h e (Err OutOfMemory) t = tt
  value_read d h e (Err Refused) t = no_value_read d h t

  pub full_value_read : {x : Expr} {ts us rest : List Token} → Stopped (IsFull (length tokens)) x ts us → rest ≡ us → (r : Result Expr ReadError) → ReadsTree tokens x r → Exactly (Stopped (IsFullValue tokens)) r ts rest
  full_value_read {ts = ts} d e (Ok y) t = record { is = along (λ zs. IsFullValue tokens y ts zs) e (full_value d.is t); stops = along Stops e d.stops }
  full_value_read d e (Err OutOfMemory) t = tt
  full_value_read d e (Err Refused) t = no_full_read d t
