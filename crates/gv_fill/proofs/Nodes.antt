-- The filling of an expression from those of its children.
use Rattle.std.proofs.Common.{◌≡◌, ℕ, List, [], ◌∷◌, ◌++◌, drop, reverse, map, refl, sym, ap, subst, arith, rules, inl, inr, ◌⊎◌, ◌∙◌, Result, Ok, Err, append_assoc}
use Rattle.std.specs.List.{Contains}
use Rattle.std.specs.Result.{IsErrAnd}
use Rattle.std.proofs.lemmas.List.{map-append, append-nil, reverse-reverse}
use Rattle.std.proofs.lemmas.List.Elements.{Contains-append_left, Contains-append_right, Contains-append_cases, Contains-push_cases}
use Rattle.std.proofs.lemmas.Grind.{flat_map-append, reverse_onto}
use Rattle.gv_lex.specs.declared.token.Token.{Token}
use Rattle.gv_tree.specs.declared.expr.Closure.{Closure}
use Rattle.gv_grammar.specs.Closures.{Found, Within, all_found}
use Rattle.gv_grammar.specs.Stmts.{IsBodyOf}
use Rattle.gv_grammar.proofs.Single.{ap2}
use Rattle.gv_grammar.proofs.Stmts.{body_of_once}
use Rattle.gv_cursor.specs.declared.error.ReadError.{ReadError}
use Rattle.gv_cursor.specs.declared.error.ReadError.TheVariants.{Refused, OutOfMemory}
use Rattle.gv_fill.specs.Filled.{Reading, FilledBy, Unreadable, Fills, ReadsBody}

abbrev Reader : Type 0
Reader = ℕ → ℕ → Closure

-- ---- the places of a child are places of the node

pub record Among (gs fs : Found) : Type 0 where
  pub is : (from to : ℕ) → Contains gs (from, to) → Contains fs (from, to)

pub same_places : {gs fs : Found} → fs ≡ gs → Among gs fs
same_places {gs = gs} e = record { is = λ from to c. subst (λ hs. Contains hs (from, to)) (sym e) c }

pub left_of : {xs fs : Found} (ys : Found) → fs ≡ xs ++ ys → Among xs fs
left_of {xs = xs} ys e = record { is = λ from to c. subst (λ hs. Contains hs (from, to)) (sym e) (Contains-append_left xs ys (from, to) c) }

pub right_of : {ys fs : Found} (xs : Found) → fs ≡ xs ++ ys → Among ys fs
right_of {ys = ys} xs e = record { is = λ from to c. subst (λ hs. Contains hs (from, to)) (sym e) (Contains-append_right xs ys (from, to) c) }

pub among : {xs ys zs : Found} → Among xs ys → Among ys zs → Among xs zs
among a b = record { is = λ from to c. b.is from to (a.is from to c) }

pub lies : {all n : ℕ} {gs fs : Found} → Among gs fs → Within all n fs → Within all n gs
lies a w = record {
  ordered = λ from to c. w.ordered from to (a.is from to c);
  inside = λ from to c. w.inside from to (a.is from to c);
  fewer = λ from to c. w.fewer from to (a.is from to c);
}

-- ---- one closure

alone : {from to x y : ℕ} → Contains {X = ℕ × ℕ} ((from, to) ∷ []) (x, y) → (from ≡ x) × (to ≡ y)
alone {from} {to} {x} {y} c = elim (Contains-push_cases [] (from, to) (x, y) c) [ inl a ↦ absurd (omega arith) | inr e ↦ (ap (λ p. p.0) e, ap (λ p. p.1) e) ]

here : (from to : ℕ) → Contains {X = ℕ × ℕ} ((from, to) ∷ []) (from, to)
here from to = search rules

pub its_place : {from to : ℕ} {fs : Found} → fs ≡ (from, to) ∷ [] → Contains fs (from, to)
its_place {from = from} {to = to} e = subst (λ hs. Contains hs (from, to)) (sym e) (here from to)

-- ---- the places of an item

spread_out : {A : Type 0} (places : A → Found) (xs ys : List A) → all_found (map places (xs ++ ys)) ≡ all_found (map places xs) ++ all_found (map places ys)
spread_out places xs ys = rw (map-append places xs ys, flat_map-append (λ f. f) (map places xs) (map places ys))

module _ (tokens : List Token) where
  -- ---- readers

  fewer : {read : Reader} {gs fs : Found} → Among gs fs → Reading tokens read fs → Reading tokens read gs
  fewer a r = record { each = λ from to c. r.each from to (a.is from to c) }

  pub of_none : {A : Type 0} {fs : Found} {with : Reader → A} {y : A} → fs ≡ [] → ((read : Reader) → with read ≡ y) → FilledBy tokens fs with y
  of_none {with = with} {y = y} e h = subst (λ hs. FilledBy tokens hs with y) (sym e)
      (record { body = λ from to c. absurd (omega arith); read = λ from to c. absurd (omega arith); told = λ read r. sym (h read) })

  pub of_one : {A B : Type 0} {fs gs : Found} {child : Reader → B} {with : Reader → A} {x : B} (build : B → A) → fs ≡ gs → ((read : Reader) → with read ≡ build (child read))
      → FilledBy tokens gs child x → FilledBy tokens fs with (build x)
  of_one {with = with} {x = x} build e h d = subst (λ hs. FilledBy tokens hs with (build x)) (sym e)
      (record { body = d.body; read = d.read; told = λ read r. ap build (d.told read r) ∙ sym (h read) })

  -- the reading of a closure in one of two children
  chosen : {A B : Type 0} {xs ys : Found} {f : Reader → A} {g : Reader → B} {x : A} {y : B} → FilledBy tokens xs f x → FilledBy tokens ys g y → (from to : ℕ)
      → Contains xs (from, to) ⊎ Contains ys (from, to) → (c : Closure) × IsBodyOf tokens c (drop from tokens) (drop to tokens)
  chosen d e from to (inl a) = (d.body from to a, d.read from to a)
  chosen d e from to (inr b) = (e.body from to b, e.read from to b)

  pub of_two : {A B C : Type 0} {fs xs ys : Found} {f : Reader → B} {g : Reader → C} {with : Reader → A} {x : B} {y : C} (build : B → C → A) → fs ≡ xs ++ ys
      → ((read : Reader) → with read ≡ build (f read) (g read)) → FilledBy tokens xs f x → FilledBy tokens ys g y → FilledBy tokens fs with (build x y)
  of_two {xs = xs} {ys = ys} {with = with} {x = x} {y = y} build e h d k = subst (λ hs. FilledBy tokens hs with (build x y)) (sym e)
      (record {
        body = λ from to c. (chosen d k from to (Contains-append_cases xs ys (from, to) c)).0;
        read = λ from to c. (chosen d k from to (Contains-append_cases xs ys (from, to) c)).1;
        told = λ read r. ap2 build (d.told read (fewer (left_of ys refl) r)) (k.told read (fewer (right_of xs refl) r)) ∙ sym (h read);
      })

  pub of_three : {A B C D : Type 0} {fs xs ys zs : Found} {f : Reader → B} {g : Reader → C} {k : Reader → D} {with : Reader → A} {x : B} {y : C} {z : D} (build : B → C → D → A)
      → fs ≡ xs ++ ys ++ zs → ((read : Reader) → with read ≡ build (f read) (g read) (k read))
      → FilledBy tokens xs f x → FilledBy tokens ys g y → FilledBy tokens zs k z → FilledBy tokens fs with (build x y z)
  of_three {B = B} {C = C} {xs = xs} {ys = ys} {f = f} {g = g} {x = x} {y = y} build e h a b c =
      of_two (λ (p : B × C) w. build p.0 p.1 w) e h (of_two {fs = xs ++ ys} {with = λ r. (f r, g r)} (λ v w. (v, w)) refl (λ r. refl) a b) c

  pub same_value : {A : Type 0} (places : A → Found) (with : Reader → A → A) {x y z w : A} → y ≡ x → w ≡ z
      → FilledBy tokens (places y) (λ read. with read y) z → FilledBy tokens (places x) (λ read. with read x) w
  same_value places with {y = y} {w = w} e f d =
      subst (λ v. FilledBy tokens (places v) (λ read. with read v) w) e (subst (λ v. FilledBy tokens (places y) (λ read. with read y) v) (sym f) d)

  -- ---- a child that is refused

  pub never_in : {gs fs : Found} → Among gs fs → Unreadable tokens gs → Unreadable tokens fs
  never_in a d = record { from = d.from; to = d.to; there = a.is d.from d.to d.there; never = d.never }

  pub refused_in : {A B : Type 0} (gs fs : Found) (child : Reader → B) (with : Reader → A) (e : ReadError) → Among gs fs → Fills tokens gs child (Err e) → Fills tokens fs with (Err e)
  refused_in gs fs child with OutOfMemory a d = tt
  refused_in gs fs child with Refused a d = never_in a d

  pub passed_on : {A B : Type 0} (gs fs : Found) (child : Reader → B) (with : Reader → A) (e : ReadError) (r : Result A ReadError) → IsErrAnd r (λ x. x ≡ e) → Among gs fs
      → Fills tokens gs child (Err e) → Fills tokens fs with r
  passed_on gs fs child with e (Ok y) h a d = absurd h
  passed_on gs fs child with e (Err x) h a d = subst (λ z. Fills tokens fs with (Err z)) (sym h) (refused_in gs fs child with e a d)

  -- ---- one closure

  pub read_closure : {from to : ℕ} {fs : Found} {with : Reader → Closure} (r : Result Closure ReadError) → fs ≡ (from, to) ∷ [] → ((read : Reader) → with read ≡ read from to)
      → ReadsBody tokens from to r → Fills tokens fs with r
  read_closure {from = from} {to = to} {with = with} (Ok y) e h d = subst (λ hs. FilledBy tokens hs with y) (sym e)
      (record {
        body = λ x z c. y;
        read = λ x z c. let a = alone c in subst (λ v. IsBodyOf tokens y (drop v tokens) (drop z tokens)) a.0 (subst (λ v. IsBodyOf tokens y (drop from tokens) (drop v tokens)) a.1 d);
        told = λ read r. let a = body_of_once tokens d (r.each from to (here from to)) in a.tree ∙ sym (h read);
      })
  read_closure (Err OutOfMemory) e h d = tt
  read_closure {from = from} {to = to} (Err Refused) e h d = record { from = from; to = to; there = subst (λ hs. Contains hs (from, to)) (sym e) (here from to); never = d }

  -- ---- items, taken from the end

  module _ {A : Type 0} (places : A → Found) (with : Reader → A → A) where
    -- what those that were taken give, the last one first
    pub record Taken (all left last_first : List A) : Type 0 where
      pub taken : List A
      pub parts : all ≡ left ++ taken
      pub gives : FilledBy tokens (all_found (map places taken)) (λ read. reverse (map (with read) taken)) last_first

    pub untouched : {all : List A} → Taken all all []
    untouched {all = all} = record { taken = []; parts = sym (append-nil all); gives = of_none refl (λ read. refl) }

    pub regrouped : {all left : List A} (rest taken : List A) (x : A) → all ≡ left ++ taken → left ≡ rest ++ x ∷ [] → all ≡ rest ++ (x ∷ taken)
    regrouped rest taken x p q = p ∙ (ap (λ l. l ++ taken) q ∙ append_assoc rest (x ∷ []) taken)

    pub one_more : {all left last_first : List A} {y : A} (rest : List A) (x : A) → Taken all left last_first → left ≡ rest ++ x ∷ [] → FilledBy tokens (places x) (λ read. with read x) y
        → Taken all rest (last_first ++ y ∷ [])
    one_more rest x t q d = record {
      taken = x ∷ t.taken;
      parts = regrouped rest t.taken x t.parts q;
      gives = of_two (λ y ys. ys ++ y ∷ []) refl (λ read. reverse_onto (map (with read) t.taken) (with read x) []) d t.gives;
    }

    pub all_taken : {all left last_first ys : List A} → Taken all left last_first → left ≡ [] → ys ≡ reverse last_first
        → FilledBy tokens (all_found (map places all)) (λ read. map (with read) all) ys
    all_taken {all = all} {last_first = last_first} {ys = ys} t q e =
        let same : all ≡ t.taken = t.parts ∙ ap (λ l. l ++ t.taken) q in
        subst (λ zs. FilledBy tokens (all_found (map places all)) (λ read. map (with read) all) zs) (sym e)
        (of_one reverse (ap (λ l. all_found (map places l)) same) (λ read. ap (map (with read)) same ∙ sym (reverse-reverse (map (with read) t.taken))) t.gives)

    pub of_item : {all left last_first : List A} (rest : List A) (x : A) → Taken all left last_first → left ≡ rest ++ x ∷ [] → Among (places x) (all_found (map places all))
    of_item {all = all} rest x t q =
        among (left_of (all_found (map places t.taken)) refl) (right_of (all_found (map places rest)) (ap (λ l. all_found (map places l)) (regrouped rest t.taken x t.parts q) ∙ spread_out places rest (x ∷ t.taken)))
