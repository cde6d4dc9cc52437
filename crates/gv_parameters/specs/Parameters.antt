-- Whether a closure has at least so many parameters.
use Rattle.std.specs.Prelude.{ℕ, zero, suc, ◌+◌, nat_le, Bool, false, List, length, Option, Some, None}
use Rattle.gv_heap.specs.Heap.{HeapState, object_at}
use Rattle.gv_heap.specs.declared.closure.Bound.TheVariants.{Curried, CurriedLast, Composed, Method}
use Rattle.gv_heap.specs.declared.closure.Origin.{Origin}
use Rattle.gv_heap.specs.declared.closure.Origin.TheVariants.{Written, Bound}
use Rattle.gv_heap.specs.declared.object.Object.{Object}
use Rattle.gv_heap.specs.declared.object.Object.TheVariants as object
use Rattle.gv_parameters.specs.declared.parameters.Known.{Known}
use Rattle.gv_parameters.specs.declared.parameters.Known.TheVariants.{Has, SameAs}

-- what is known of a closure: whether it has as many as wanted, or which other one is to have how many
abbrev pub known_of : Origin → ℕ → Known
known_of (Written body parameters owner captured) wanted = Has (nat_le wanted parameters)
known_of (Bound (Curried of at args)) wanted = SameAs of (wanted + length args)
known_of (Bound (CurriedLast of args)) wanted = SameAs of (wanted + length args)
known_of (Bound (Composed first then)) wanted = SameAs first wanted
known_of (Bound (Method receiver name)) wanted = Has (nat_le wanted 1)

abbrev pub known : Option Object → ℕ → Known
known (Some (object.Closure closure)) wanted = known_of closure.origin wanted
known other wanted = Has false

abbrev pub told : Known → (ℕ → ℕ → Bool) → Bool
told (Has b) further = b
told (SameAs of wanted) further = further of wanted

-- a closure in which at most so many others lie
abbrev pub has_within : HeapState → ℕ → ℕ → ℕ → Bool
has_within heap zero id wanted = false
has_within heap (suc n) id wanted = told (known (object_at heap id) wanted) (has_within heap n)

abbrev pub has_parameters : HeapState → ℕ → ℕ → Bool
has_parameters heap id wanted = has_within heap (suc id) id wanted
