-- Going up from a class to Object, one step at a time.
use Rattle.std.proofs.Common.{◌≡◌, ◌≢◌, ◌+◌, ◌-◌, ◌<◌, ◌≤◌, ℕ, zero, suc, Bool, true, false, ◌||◌, if◌then◌else◌, List, [], ◌∷◌, length, refl, ap, sym, ◌∙◌, arith}
use Rattle.std.specs.Prelude.{◌==◌}
use Rattle.std.specs.List.{list_any}
use Rattle.std.proofs.Math.Bool.{or-false}
use Rattle.std.proofs.lemmas.Bool.{ne_eqb}
use Rattle.std.proofs.lemmas.Bool.Decides.{Decides-eqb}
use Rattle.gv_classes.specs.declared.ids.TheConstants.{OBJECT}
use Rattle.gv_classes.specs.declared.declared.Declared.{Declared}
use Rattle.gv_classes.specs.Classes.{up, above, comes_up, chain_within, chain}

true-not-false : true ≡ false → ⊥
true-not-false e = cc

module _ (classes : List Declared) where
  pub comes_up-here : (n c : ℕ) → c ≡ OBJECT → comes_up n classes c ≡ true
  unfolding comes_up
  comes_up-here zero c h = (Decides-eqb c OBJECT).1 h
  comes_up-here (suc n) c h = ap (λ b. b || comes_up n classes (up classes c)) ((Decides-eqb c OBJECT).1 h)

  comes_up-suc : (n c : ℕ) → c ≢ OBJECT → comes_up (suc n) classes c ≡ comes_up n classes (up classes c)
  unfolding comes_up
  comes_up-suc n c h = ap (λ b. b || comes_up n classes (up classes c)) (ne_eqb c OBJECT h)

  comes_up-none : (c : ℕ) → comes_up 0 classes c ≡ (c == OBJECT)
  unfolding comes_up
  comes_up-none c = refl

  -- more steps don't hurt
  comes_up-within : (n m c : ℕ) → n ≤ m → comes_up n classes c ≡ true → comes_up m classes c ≡ true
  unfolding comes_up
  comes_up-within zero m c le h = comes_up-here m c ((Decides-eqb c OBJECT).0 h)
  comes_up-within (suc n) zero c le h = absurd (omega arith)
  comes_up-within (suc n) (suc m) c le h = by (c == OBJECT) (comes_up-within n m (up classes c) (omega arith)) h
    where
      by : (b : Bool) → (comes_up n classes (up classes c) ≡ true → comes_up m classes (up classes c) ≡ true) → (b || comes_up n classes (up classes c)) ≡ true → (b || comes_up m classes (up classes c)) ≡ true
      by true ih h = refl
      by false ih h = ih h

  -- behind step i, and behind the last step
  pub comes_up-next : (i c d : ℕ) → i < length classes → c ≢ OBJECT → d ≡ up classes c → comes_up (length classes - (i + 1)) classes d ≡ comes_up (length classes - i) classes c
  comes_up-next i c d lt ne e =
      let one : length classes - i ≡ suc (length classes - (i + 1)) = omega arith in
      rw (one, e) (sym (comes_up-suc (length classes - (i + 1)) c ne))

  pub comes_up-end : (i c : ℕ) → length classes ≤ i → comes_up (length classes - i) classes c ≡ (c == OBJECT)
  comes_up-end i c le = let none : length classes - i ≡ 0 = omega arith in rw none (comes_up-none c)

  above-up : (n c : ℕ) → n ≤ length classes → comes_up n classes c ≡ true → above classes c ≡ up classes c
  above-up n c le h = ap (λ b. if b then up classes c else OBJECT) (comes_up-within n (length classes) c le h)

  -- a class, and what stands above it
  chain-suc : (n c : ℕ) → c ≢ OBJECT → chain_within (suc n) classes c ≡ c ∷ chain_within n classes (above classes c)
  unfolding chain_within
  chain-suc n c h = ap (λ b. c ∷ (if b then [] else chain_within n classes (above classes c))) (ne_eqb c OBJECT h)

  chain-top : (n c : ℕ) → c ≡ OBJECT → chain_within n classes c ≡ c ∷ []
  unfolding chain_within
  chain-top zero c h = refl
  chain-top (suc n) c h = ap (λ b. c ∷ (if b then [] else chain_within n classes (above classes c))) ((Decides-eqb c OBJECT).1 h)

  chain-none : (c : ℕ) → chain_within 0 classes c ≡ c ∷ []
  unfolding chain_within
  chain-none c = refl

  -- where Object never comes, the chain is the class and Object
  chain-stuck : (n c : ℕ) → 0 < n → c ≢ OBJECT → comes_up (length classes) classes c ≡ false → chain_within n classes c ≡ c ∷ OBJECT ∷ []
  chain-stuck zero c some ne h = absurd (omega arith)
  chain-stuck (suc n) c some ne h =
      chain-suc n c ne ∙ ap (λ b. c ∷ chain_within n classes (if b then up classes c else OBJECT)) h ∙ ap (λ l. c ∷ l) (chain-top n OBJECT refl)

  -- whether one of the classes from a class up to Object passes a test
  module _ (p : ℕ → Bool) where
    pub any_up-here : (n c : ℕ) → p c ≡ true → list_any p (chain_within n classes c) ≡ true
    unfolding chain_within
    any_up-here zero c h = ap (λ b. b || false) h
    any_up-here (suc n) c h = ap (λ b. b || list_any p (if c == OBJECT then [] else chain_within n classes (above classes c))) h

    pub any_up-top : (n c : ℕ) → c ≡ OBJECT → p c ≡ false → list_any p (chain_within n classes c) ≡ false
    any_up-top n c e h = ap (list_any p) (chain-top n c e) ∙ ap (λ b. b || false) h

    pub any_up-next : (i c d : ℕ) → i < length classes → c ≢ OBJECT → d ≡ up classes c → comes_up (length classes - i) classes c ≡ true → p c ≡ false
        → list_any p (chain_within (length classes - (i + 1)) classes d) ≡ list_any p (chain_within (length classes - i) classes c)
    any_up-next i c d lt ne e comes h =
        let left = length classes - (i + 1) in
        let one : length classes - i ≡ suc left = omega arith in
        let a = e ∙ sym (above-up (length classes - i) c (omega arith) comes) in
        ap (λ k. list_any p (chain_within left classes k)) a
        ∙ ap (λ b. b || list_any p (chain_within left classes (above classes c))) (sym h)
        ∙ ap (list_any p) (sym (chain-suc left c ne))
        ∙ ap (λ n. list_any p (chain_within n classes c)) (sym one)

    pub any_up-end : (i c : ℕ) → length classes ≤ i → list_any p (chain_within (length classes - i) classes c) ≡ p c
    any_up-end i c le = let none : length classes - i ≡ 0 = omega arith in rw none (ap (list_any p) (chain-none c) ∙ or-false (p c))

    pub any_up-stuck : (c : ℕ) → 0 < length classes → comes_up (length classes) classes c ≡ false → list_any p (chain classes c) ≡ (p c || p OBJECT)
    any_up-stuck c some h =
        let ne = λ (e : c ≡ OBJECT). true-not-false (sym (comes_up-here (length classes) c e) ∙ h) in
        ap (list_any p) (chain-stuck (length classes) c some ne h) ∙ ap (λ b. p c || b) (or-false (p OBJECT))
