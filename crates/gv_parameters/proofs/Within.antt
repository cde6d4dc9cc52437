-- A closure that has as many parameters as another one has so many.
use Rattle.std.proofs.Common.{◌≡◌, ℕ, zero, suc, ◌-◌, ◌<◌, ap, ◌∙◌, arith}
use Rattle.gv_heap.specs.Heap.{HeapState, object_at}
use Rattle.gv_parameters.specs.Parameters.{has_within, known, told}
use Rattle.gv_parameters.specs.declared.parameters.Known.TheVariants.{SameAs}

pub within_same : (heap : HeapState) (n id wanted of further : ℕ) → 0 < n → known (object_at heap id) wanted ≡ SameAs of further → has_within heap n id wanted ≡ has_within heap (n - 1) of further
within_same heap zero id wanted of further p h = absurd (omega (arith, p))
within_same heap (suc n) id wanted of further p h =
    let before : n ≡ suc n - 1 = omega arith in
    ap (λ k. told k (has_within heap n)) h ∙ ap (λ m. has_within heap m of further) before
