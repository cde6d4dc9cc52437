-- The ways out of a loop's body, decided one after the other.
use Rattle.std.proofs.Common.{◌≡◌, ℕ, suc, ◌-◌, List, [], ◌∷◌, ◌++◌, length, Option, refl, sym, ap, ◌∙◌, arith, append_assoc}
use Rattle.gv_core.specs.declared.stmt.Exit.{Exit}
use Rattle.gv_code.specs.declared.code.Op.{Op}
use Rattle.gv_code.specs.declared.piece.Item.{Item}
use Rattle.gv_code.specs.Pieces.{decide, directed_items}

pub length-directed : (ways : Exit → Option (ℕ → Op)) (items : List Item) → length (directed_items ways items) ≡ length items
length-directed ways [] = refl
length-directed ways (o ∷ os) = ap suc (length-directed ways os)

-- one more of those that are left
pub decided_more : (ways : Exit → Option (ℕ → Op)) (after : ℕ) (rest rest2 all done done2 : List Item) (item out : Item) →
    rest ≡ item ∷ rest2 → after ≡ length rest → done ++ directed_items ways rest ≡ all → out ≡ decide ways (after - 1) item → done2 ≡ done ++ out ∷ [] →
    (after - 1 ≡ length rest2) × (done2 ++ directed_items ways rest2 ≡ all)
decided_more ways after rest rest2 all done done2 item out r a inv o d =
    let n : after - 1 ≡ length rest2 = omega (arith, a ∙ ap length r) in
    let assoc = append_assoc done (out ∷ []) (directed_items ways rest2) in
    let one : out ≡ decide ways (length rest2) item = o ∙ ap (λ m. decide ways m item) n in
    let front : directed_items ways rest ≡ out ∷ directed_items ways rest2 = ap (directed_items ways) r ∙ ap (λ x. x ∷ directed_items ways rest2) (sym one) in
    (n, ap (λ l. l ++ directed_items ways rest2) d ∙ assoc ∙ ap (λ l. done ++ l) (sym front) ∙ inv)
