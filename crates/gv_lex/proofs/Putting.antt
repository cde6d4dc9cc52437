-- One step of the lexer after another.
use Rattle.std.proofs.Common.{◌≡◌, ℕ, List, [], ◌∷◌, ◌++◌, Option, None, Some, map, reverse, length, arith, refl, ap, sym, ◌∙◌, append_assoc}
use Rattle.std.specs.Option.{option_to_list}
use Rattle.std.proofs.lemmas.List.{append-nil, reverse-append}
use Rattle.gv_base.specs.declared.refusal.Place.{Place}
use Rattle.gv_base.specs.declared.refusal.Refusal.{Refusal}
use Rattle.gv_lex.specs.declared.lexer.Lexer.{Lexer}
use Rattle.gv_spelling.specs.declared.kinds.Symbol.{Symbol}
use Rattle.gv_spelling.specs.declared.kinds.Symbol.TheVariants as symbol
use Rattle.gv_lex.specs.Lexing.{State, Act, act_symbol, puts_symbol, refuses}
use Rattle.gv_lex.specs.Places.{earlier}
use Rattle.gv_lex.specs.Steps.{state_of, Puts, Follows}
use Rattle.gv_lex.specs.Tokens.{Spelled, told}

pub earlier-none : (o : Option Refusal) → earlier o None ≡ o
earlier-none None = refl
earlier-none (Some r) = refl

pub puts_then : (names : List (List ℕ)) (a b c : Lexer) (xs ys : List Spelled) → Puts names a xs b → Puts names b ys c → Puts names a (xs ++ ys) c
puts_then names a b c xs ys p q = record {
  tokens = q.tokens ∙ ap (λ ts. ts ++ ys) p.tokens ∙ append_assoc (map (told names) a.tokens.items) xs ys;
  named = λ h. q.named (p.named h);
  first = q.first ∙ p.first;
  state = q.state ∙ p.state;
}

-- what puts tokens and then sets the rest follows an act
pub puts_sets : (names : List (List ℕ)) (old mid new : Lexer) (xs : List Spelled) (set : State → State) → Puts names old xs mid
    → new.tokens.items ≡ mid.tokens.items → new.first ≡ mid.first → state_of new ≡ set (state_of mid)
    → Follows names old (record { tokens = xs; refused = None; state = set (state_of old) }) new
puts_sets names old mid new xs set p tokens first state = record {
  tokens = ap (map (told names)) tokens ∙ p.tokens;
  named = λ h. rw tokens (p.named h);
  first = first ∙ p.first ∙ sym (earlier-none old.first);
  state = state ∙ ap set p.state;
}

-- an act that puts nothing and refuses nothing
pub sets : (names : List (List ℕ)) (old new : Lexer) (state : State) → new.tokens.items ≡ old.tokens.items → new.first ≡ old.first → state_of new ≡ state
    → Follows names old (record { tokens = []; refused = None; state = state }) new
sets names old new state tokens first is = record {
  tokens = ap (map (told names)) tokens ∙ sym (append-nil (map (told names) old.tokens.items));
  named = λ h. rw tokens h;
  first = first ∙ sym (earlier-none old.first);
  state = is;
}

-- what follows an act of a lexer with the same tokens and the same first refusal
pub follows_from : (names : List (List ℕ)) (old mid new : Lexer) (act : Act) → mid.tokens.items ≡ old.tokens.items → mid.first ≡ old.first → Follows names mid act new → Follows names old act new
follows_from names old mid new act tokens first f = record {
  tokens = f.tokens ∙ ap (λ ts. map (told names) ts ++ act.tokens) tokens;
  named = λ h. f.named (rw tokens h);
  first = f.first ∙ ap (λ o. earlier o act.refused) first;
  state = f.state;
}

-- the place is set behind an act
pub follows_placed : (names : List (List ℕ)) (old mid new : Lexer) (act : Act) (place : Place) → Follows names old act mid → new.tokens.items ≡ mid.tokens.items → new.first ≡ mid.first → state_of new ≡ record (state_of mid) { place = place }
    → Follows names old (record act { state = record act.state { place = place } }) new
follows_placed names old mid new act place f tokens first state = record {
  tokens = ap (map (told names)) tokens ∙ f.tokens;
  named = λ h. rw tokens (f.named h);
  first = first ∙ f.first;
  state = state ∙ ap (λ (s : State). record s { place = place }) f.state;
}

pub reverse-push : {A : Type 0} (xs : List A) (x : A) → reverse (xs ++ x ∷ []) ≡ x ∷ reverse xs
reverse-push xs x = reverse-append xs (x ∷ [])

pub puts_from : (names : List (List ℕ)) (old mid new : Lexer) (more : List Spelled) → mid.tokens.items ≡ old.tokens.items → mid.first ≡ old.first → state_of mid ≡ state_of old → Puts names mid more new → Puts names old more new
puts_from names old mid new more tokens first state p = record {
  tokens = p.tokens ∙ ap (λ ts. map (told names) ts ++ more) tokens;
  named = λ h. p.named (rw tokens h);
  first = p.first ∙ first;
  state = p.state ∙ state;
}

-- ---- symbols

pub act_plain : (s : State) (x : Symbol) → (x ≡ symbol.LeftBrace → ⊥) → (x ≡ symbol.RightBrace → ⊥) → act_symbol s x ≡ puts_symbol s x
act_plain s symbol.LeftBrace h k = absurd (h refl)
act_plain s symbol.RightBrace h k = absurd (k refl)
act_plain s _ h k = refl

-- ---- what was open

pub popped : {A : Type 0} (old new : List A) (o : Option A) (x : A) → old ≡ new ++ option_to_list o → o ≡ Some x → reverse old ≡ x ∷ reverse new
popped old new o x e is = ap (λ xs. reverse xs) (e ∙ ap (λ p. new ++ option_to_list p) is) ∙ reverse-push new x

pub popped_none : {A : Type 0} (old : List A) → length old ≡ 0 → reverse old ≡ []
popped_none [] e = refl
popped_none (x ∷ xs) e = absurd (omega arith)

-- ---- strings

-- what is refused behind an act that refuses nothing
pub follows_refused : (names : List (List ℕ)) (old mid new : Lexer) (act : Act) (r : Refusal) → act.refused ≡ None → Follows names old act mid → Follows names mid (refuses (state_of mid) r) new
    → Follows names old (record act { refused = Some r }) new
follows_refused names old mid new act r none f g = record {
  tokens = g.tokens ∙ append-nil (map (told names) mid.tokens.items) ∙ f.tokens;
  named = λ h. g.named (f.named h);
  first = g.first ∙ ap (λ o. earlier o (Some r)) (f.first ∙ ap (λ o. earlier old.first o) none ∙ earlier-none old.first);
  state = g.state ∙ f.state;
}
