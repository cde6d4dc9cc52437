-- A turn of the lexer, and the reading of what is left.
use Rattle.std.proofs.Common.{◌≡◌, ℕ, zero, suc, ◌-◌, ◌<◌, ◌≤◌, ◌⊎◌, inl, inr, List, [], ◌∷◌, ◌++◌, take, drop, length, map, Option, Some, None, refl, ap, sym, ◌∙◌, arith, append_assoc}
use Rattle.std.specs.Option.{option_map_or}
use Rattle.std.proofs.lemmas.Bool.{cases_lt}
use Rattle.gv_base.specs.declared.refusal.Refusal.{Refusal}
use Rattle.gv_spelling.specs.Longest.{IsLongest}
use Rattle.gv_spelling.specs.Table.{Text, between, inside}
use Rattle.gv_spelling.specs.declared.kinds.Lexeme.{Lexeme}
use Rattle.gv_spelling.specs.declared.kinds.Unit.{Unit as StringUnit}
use Rattle.gv_lex.specs.declared.lexer.Lexer.{Lexer}
use Rattle.gv_lex.specs.declared.open.Here.TheVariants.{Between, Inside}
use Rattle.gv_lex.specs.declared.open.OpenText.{OpenText}
use Rattle.gv_lex.specs.Lexing.{State, Act, Turn, Reading, longest, longest_to, turn, act_between, act_inside, behind, reading, reading_of_end, with_act, noted}
use Rattle.gv_lex.specs.Places.{earlier, first_of}
use Rattle.gv_lex.specs.Steps.{state_of, Follows, Completes}
use Rattle.gv_lex.specs.Tokens.{told}
use Rattle.gv_lex.proofs.Putting.{earlier-none}

-- ---- the longest spelling

cases_eq_lt : (m n : ℕ) → m ≤ n → (m ≡ n) ⊎ (m < n)
cases_eq_lt m n h = elim (cases_lt m n) [ inl less ↦ inr less | inr other ↦ inl (omega arith) ]

one-some : {A : Type 0} (x y : A × ℕ) → Some x ≡ Some y → x ≡ y
one-some x y e = cc

module _ {A : Type 0} (spells : Text → Option A) (text : Text) where
  longest_to-is : (what : A) (len n : ℕ) → IsLongest spells text what len → len ≤ n → n ≤ length text → longest_to spells text n ≡ Some (what, len)
  longest_to-is what len zero h low high = absurd (omega (arith, h.some))
  longest_to-is what len (suc n) h low high = by (cases_eq_lt len (suc n) low) (longest_to-is what len n h)
    where
      by : (len ≡ suc n) ⊎ (len < suc n) → (len ≤ n → n ≤ length text → longest_to spells text n ≡ Some (what, len)) → longest_to spells text (suc n) ≡ Some (what, len)
      by (inl e) ih = rw (← e, h.spelled) refl
      by (inr less) ih = rw (h.longest (suc n) less high) (ih (omega arith) (omega arith))

  pub longest-is : (what : A) (len : ℕ) → IsLongest spells text what len → longest spells text ≡ Some (what, len)
  longest-is what len h = longest_to-is what len (length text) h h.within (omega arith)

  none-longer : (what : A) (len n m : ℕ) → longest_to spells text n ≡ Some (what, len) → len < m → m ≤ n → spells (take m text) ≡ None
  none-longer what len zero m e low high = absurd (omega arith)
  none-longer what len (suc n) m e low high = by (spells (take (suc n) text)) refl (none-longer what len n m) e
    where
      by : (o : Option A) → spells (take (suc n) text) ≡ o → (longest_to spells text n ≡ Some (what, len) → len < m → m ≤ n → spells (take m text) ≡ None)
          → option_map_or (λ w. let l : A × ℕ = (w, suc n) in Some l) o (longest_to spells text n) ≡ Some (what, len) → spells (take m text) ≡ None
      by None is ih f = elim (cases_eq_lt m (suc n) high) [ inl same ↦ rw same is | inr less ↦ ih f low (omega arith) ]
      by (Some w) is ih f = let len_is = ap (λ l. l.1) (one-some (w, suc n) (what, len) f) in absurd (omega arith)

  longest_to-from : (what : A) (len n : ℕ) → longest_to spells text n ≡ Some (what, len) → (0 < len) × (len ≤ n) × (spells (take len text) ≡ Some what)
  longest_to-from what len zero e = absurd (cc)
  longest_to-from what len (suc n) e = by (spells (take (suc n) text)) refl (longest_to-from what len n) e
    where
      by : (o : Option A) → spells (take (suc n) text) ≡ o → (longest_to spells text n ≡ Some (what, len) → (0 < len) × (len ≤ n) × (spells (take len text) ≡ Some what))
          → option_map_or (λ w. let l : A × ℕ = (w, suc n) in Some l) o (longest_to spells text n) ≡ Some (what, len) → (0 < len) × (len ≤ suc n) × (spells (take len text) ≡ Some what)
      by None is ih f = let h = ih f in (h.0, omega arith, h.2)
      by (Some w) is ih f =
          let same = one-some (w, suc n) (what, len) f in
          let len_is : suc n ≡ len = ap (λ l. l.1) same in
          let what_is : w ≡ what = ap (λ l. l.0) same in
          (omega arith, omega arith, rw (← len_is, is, what_is) refl)

  pub is-longest : (what : A) (len : ℕ) → longest spells text ≡ Some (what, len) → IsLongest spells text what len
  is-longest what len e =
      let h = longest_to-from what len (length text) e in
      record { some = h.0; within = h.1; spelled = h.2; longest = λ m low high. none-longer what len (length text) m e low high }

-- ---- turns

pub turn-between : (s : State) (text : Text) (what : Lexeme) (len : ℕ) → s.here ≡ Between → IsLongest (between s.operand) text what len
    → turn s text ≡ record { len = len; act = behind s (take len text) (act_between s (take len text) what) }
unfolding turn
turn-between s text what len here h = rw (here, longest-is (between s.operand) text what len h) refl

pub turn-inside : (s : State) (t : OpenText) (text : Text) (what : StringUnit) (len : ℕ) → s.here ≡ Inside t → IsLongest (inside t.quote) text what len
    → turn s text ≡ record { len = len; act = behind s (take len text) (act_inside s t (take len text) what) }
unfolding turn
turn-inside s t text what len here h = rw (here, longest-is (inside t.quote) text what len h) refl

-- ---- what is left to be read

reading-skip : (s : State) (n : ℕ) (text : Text) → reading s n text ≡ reading s 0 (drop n text)
unfolding reading
reading-skip s zero text = refl
reading-skip s (suc n) [] = refl
reading-skip s (suc n) (c ∷ text) = reading-skip s n text

drop-one-less : (n c : ℕ) (text : Text) → 0 < n → drop (n - 1) text ≡ drop n (c ∷ text)
drop-one-less zero c text h = absurd (omega arith)
drop-one-less (suc n) c text h = let e : suc n - 1 ≡ n = omega arith in rw e refl

pub reading-turn : (s : State) (text : Text) (t : Turn) → 0 < length text → 0 < t.len → turn s text ≡ t → reading s 0 text ≡ with_act t.act (reading t.act.state 0 (drop t.len text))
unfolding reading
reading-turn s [] t some positive e = absurd (omega arith)
reading-turn s (c ∷ text) t some positive e =
    rw e (ap (with_act t.act) (reading-skip t.act.state (t.len - 1) text ∙ ap (reading t.act.state 0) (drop-one-less t.len c text positive)))

-- ---- what is refused

first_of-noted : (best o : Option Refusal) (rs : List Refusal) → first_of best (noted o ++ rs) ≡ first_of (earlier best o) rs
first_of-noted best None rs = ap (λ b. first_of b rs) (sym (earlier-none best))
first_of-noted best (Some r) rs = refl

-- what follows an act completes the whole as what was before it
completes_more : (names : List (List ℕ)) (old new : Lexer) (act : Act) (before after whole : Reading) → before ≡ with_act act after → Follows names old act new → Completes names old before whole → Completes names new after whole
completes_more names old new act before after whole e f h = record {
  tokens = ap (λ ts. ts ++ after.tokens) f.tokens ∙ append_assoc (map (told names) old.tokens.items) act.tokens after.tokens ∙ ap (λ (r : Reading). map (told names) old.tokens.items ++ r.tokens) (sym e) ∙ h.tokens;
  named = f.named h.named;
  first = ap (λ b. first_of b after.refusals) f.first ∙ sym (first_of-noted old.first act.refused after.refusals) ∙ ap (λ (r : Reading). first_of old.first r.refusals) (sym e) ∙ h.first;
}

-- after a turn, what was found and what is left still complete the whole
pub completes-turn : (names : List (List ℕ)) (old new : Lexer) (text rest : Text) (len : ℕ) (act : Act) (whole : Reading) → 0 < length text → 0 < len → turn (state_of old) text ≡ record { len = len; act = act }
    → Follows names old act new → rest ≡ drop len text → Completes names old (reading (state_of old) 0 text) whole → Completes names new (reading (state_of new) 0 rest) whole
completes-turn names old new text rest len act whole some positive e f rest_is h =
    let step = reading-turn (state_of old) text (record { len = len; act = act }) some positive e in
    let goes = step ∙ ap (λ s. with_act act (reading s 0 (drop len text))) (sym f.state) ∙ ap (λ t. with_act act (reading (state_of new) 0 t)) (sym rest_is) in
    completes_more names old new act (reading (state_of old) 0 text) (reading (state_of new) 0 rest) whole goes f h

-- at the end nothing is left
pub completes-end : (names : List (List ℕ)) (l : Lexer) (rest : Text) (whole : Reading) → length rest ≡ 0 → Completes names l (reading (state_of l) 0 rest) whole → Completes names l (reading_of_end (state_of l)) whole
unfolding reading
completes-end names l [] whole e h = h
completes-end names l (c ∷ rest) whole e h = absurd (omega arith)
