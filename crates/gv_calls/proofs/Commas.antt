-- The names of classes, one after the other.
use Rattle.std.proofs.Common.{◌≡◌, ℕ, ◌-◌, ◌≤◌, List, [], ◌∷◌, ◌++◌, length, take, drop, get_or, codes, sym, ap, ◌∙◌, append_assoc, arith}
use Rattle.std.proofs.lemmas.List.{append-nil, take_all, drop_all}
use Rattle.gv_base.specs.declared.value.Value.{Value}
use Rattle.gv_meaning.specs.Calls.{kind_text, kinds_text}
use Rattle.gv_meaning.specs.declared.world.World.{World}

-- those behind the first
abbrev pub more_kinds : World → List Value → List ℕ
more_kinds w [] = []
more_kinds w (v ∷ vs) = codes ", " ++ (kind_text w v ++ more_kinds w vs)

pub kinds_text-more : (w : World) (v : Value) (vs : List Value) → kinds_text w (v ∷ vs) ≡ kind_text w v ++ more_kinds w vs
kinds_text-more w v [] = sym (append-nil (kind_text w v))
kinds_text-more w v (u ∷ vs) = append_assoc (kind_text w v) (codes ", ") (kinds_text w (u ∷ vs)) ∙ ap (λ rest. kind_text w v ++ (codes ", " ++ rest)) (kinds_text-more w u vs)

-- what stands behind the first value
abbrev pub rest_of : List Value → List Value
rest_of values = take (length values - 1) (drop 1 values)

kinds_text-first : (w : World) (values : List Value) (other : Value) → 1 ≤ length values → kinds_text w values ≡ kind_text w (get_or values 0 other) ++ more_kinds w (rest_of values)
kinds_text-first w [] other h = absurd (omega arith)
kinds_text-first w (v ∷ vs) other h = kinds_text-more w v vs ∙ ap (λ rest. kind_text w v ++ more_kinds w rest) (sym (take_all (length (v ∷ vs) - 1) vs (omega arith)))

-- a text after the first name and all the others are put
pub kinds_put : (w : World) (values : List Value) (other : Value) (before first text : List ℕ) (at : ℕ)
    → 1 ≤ length values → length (rest_of values) ≤ at → first ≡ before ++ kind_text w (get_or values 0 other)
    → text ++ more_kinds w (drop at (rest_of values)) ≡ first ++ more_kinds w (rest_of values) → text ≡ before ++ kinds_text w values
kinds_put w values other before first text at some end put left =
    let none : drop at (rest_of values) ≡ [] = drop_all at (rest_of values) end in
    sym (append-nil text) ∙ ap (λ vs. text ++ more_kinds w vs) (sym none) ∙ left ∙ ap (λ bytes. bytes ++ more_kinds w (rest_of values)) put
    ∙ append_assoc before (kind_text w (get_or values 0 other)) (more_kinds w (rest_of values)) ∙ ap (λ bytes. before ++ bytes) (sym (kinds_text-first w values other some))
