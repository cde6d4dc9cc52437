-- Going up many steps at once.
use Rattle.std.specs.Prelude.{ℕ, min, List, map, length, slice_get, unwrap_or}
use Rattle.std.specs.List.{range_with_len}
use Rattle.gv_classes.specs.declared.declared.Declared.{Declared}
use Rattle.gv_circles.specs.Circles.{far, lowest}
use Rattle.gv_circles.specs.declared.jumps.Jump.{Jump}

-- 2 ^ r steps up from a class
abbrev pub jump : ℕ → List Declared → ℕ → Jump
jump r classes c = record { far = far r classes c; lowest = lowest r classes c }

-- those of all classes, by their numbers
abbrev pub jumps : ℕ → List Declared → List Jump
jumps r classes = map (jump r classes) (range_with_len 0 (length classes))

-- a jump, and one on from where it comes
abbrev pub joined : Jump → Jump → Jump
joined a b = record { far = b.far; lowest = min a.lowest b.lowest }

-- a jump that is made twice
abbrev pub twice : List Jump → Jump → Jump
twice all j = joined j (unwrap_or (slice_get all j.far) j)

abbrev pub doubled : List Jump → List Jump
doubled all = map (twice all) all
