-- A call with more arguments than any row counts finds the row that takes any number of them.
use Rattle.std.proofs.Common.{◌≡◌, ℕ, suc, ◌+◌, ◌<◌, min, Bool, true, false, nat_le, List, [], ◌∷◌, length, drop, get_or, drop-cons, add-one, refl, sym, ap, ◌∙◌, inl, inr, arith}
use Rattle.std.specs.Prelude.{Option, Some, None, position}
use Rattle.std.specs.List.{list_all, position_from}
use Rattle.std.specs.Option.{option_or}
use Rattle.std.proofs.lemmas.Bool.{and_parts}
use Rattle.std.proofs.lemmas.Bool.Decides.{nat_tests, leb_tells}
use Rattle.std.proofs.lemmas.Iterator.Adapters.{position_from-zero}
use Rattle.gv_natives.specs.BuiltIn.{built_in}
use Rattle.gv_natives.specs.Table.{Method, answers, found}
use Rattle.gv_natives.specs.declared.kinds.Kind.{Kind}
use Rattle.gv_natives.specs.declared.kinds.TheConstants.{ANY_ARITY}
use Rattle.gv_meaning.specs.Calls.{row_in}

abbrev is_counted : Method → Bool
is_counted m = nat_le m.arity ANY_ARITY

all_counted : list_all is_counted built_in ≡ true
unfolding built_in
all_counted = refl

module _ (name : List ℕ) (kind : Kind) (n : ℕ) (large : ANY_ARITY < n) where
  answers_none : (m : Method) → is_counted m ≡ true → answers m name kind n ≡ false
  answers_none m h = grind (arith, nat_tests)

  position_none : (i : ℕ) (ms : List Method) → list_all is_counted ms ≡ true → position_from (λ m. answers m name kind n) i ms ≡ None
  position_none i [] h = refl
  position_none i (m ∷ ms) h =
      let parts = and_parts (is_counted m) (list_all is_counted ms) h in
      rw (answers_none m parts.0) (position_none (i + 1) ms parts.1)

option_or-same : {X : Type 0} (o : Option X) → option_or o o ≡ o
option_or-same None = refl
option_or-same (Some x) = refl

pub found_counted : (name : List ℕ) (kind : Kind) (n : ℕ) → found built_in name kind (min n ANY_ARITY) ≡ found built_in name kind n
found_counted name kind n = elim (leb_tells n ANY_ARITY) [
  | inl h ↦ let e : min n ANY_ARITY ≡ n = omega (arith, h.1) in ap (λ k. found built_in name kind k) e
  | inr h ↦
      let e : min n ANY_ARITY ≡ ANY_ARITY = omega (arith, h.1) in
      let none : position (λ m. answers m name kind n) built_in ≡ None = position_from-zero (λ m. answers m name kind n) built_in ∙ position_none name kind n h.1 0 built_in all_counted in
      let any = position (λ m. answers m name kind ANY_ARITY) built_in in
      ap (λ k. found built_in name kind k) e ∙ option_or-same any ∙ sym (ap (λ o. option_or o any) none)
]

-- the next of the kinds has a row, or has none
module _ (kinds : List Kind) (at : ℕ) (other : Kind) (name : List ℕ) (n : ℕ) (within : at < length kinds) where
  row_in-next : row_in (drop at kinds) name n ≡ option_or (found built_in name (get_or kinds at other) (min n ANY_ARITY)) (row_in (drop (at + 1) kinds) name n)
  row_in-next = rw (add-one, drop-cons kinds at other within) (ap (λ o. option_or o (row_in (drop (suc at) kinds) name n)) (sym (found_counted name (get_or kinds at other) n)))

  pub row_in-found : (native : ℕ) → Some native ≡ found built_in name (get_or kinds at other) (min n ANY_ARITY) → row_in (drop at kinds) name n ≡ Some native
  row_in-found native h = row_in-next ∙ ap (λ o. option_or o (row_in (drop (at + 1) kinds) name n)) (sym h)

  pub row_in-missed : None ≡ found built_in name (get_or kinds at other) (min n ANY_ARITY) → row_in (drop at kinds) name n ≡ row_in (drop (at + 1) kinds) name n
  row_in-missed h = row_in-next ∙ ap (λ o. option_or o (row_in (drop (at + 1) kinds) name n)) (sym h)
