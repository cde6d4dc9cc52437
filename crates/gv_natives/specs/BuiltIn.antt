-- The built-in methods.
use Rattle.std.specs.Prelude.{List, map}
use Rattle.gv_natives.specs.declared.methods.TheConstants.{TUPLES}
use Rattle.gv_natives.specs.Table.{Method}

-- the rows that src/methods.rt writes out
unfoldable pub built_in : List Method
built_in = map (λ row. record { name = row.0.now; kind = row.1; arity = row.2; first = row.3; second = row.4; walks = row.5 }) TUPLES
