-- What a fold hands to its closure.
use Rattle.std.specs.Prelude.{ℕ, ◌+◌, Bool, true, false, List, [], ◌∷◌}
use Rattle.gv_base.specs.declared.value.Value.{Value}
use Rattle.gv_rows.specs.Values.{integer_of}
use Rattle.gv_folds.specs.declared.source.Args.TheVariants.{One, Two}
use Rattle.gv_folds.specs.declared.source.Handed.TheVariants.{Element, Pair}
use Rattle.gv_folds.specs.declared.source.Handing.{Handing}
use Rattle.gv_folds.specs.declared.source.Handing.TheVariants.{NoMore, Hands, Makes}
use Rattle.gv_folds.specs.declared.source.Source.{Source}
use Rattle.gv_folds.specs.declared.source.Source.TheVariants.{Plain, Indexed, Entries}

abbrev pub plain : List Value → Handing
plain [] = NoMore
plain (v ∷ vs) = Hands (Element v) (One v) (Plain vs)

-- each with its place
abbrev pub indexed : ℕ → List Value → Handing
indexed at [] = NoMore
indexed at (v ∷ vs) = Hands (Element v) (Two v (integer_of at)) (Indexed (at + 1) vs)

abbrev pub entry : Bool → Value → Value → List (Value × Value) → Handing
entry true key value rest = Hands (Pair key value) (Two key value) (Entries true rest)
entry false key value rest = Makes key value (Entries false rest)

abbrev pub entries_next : Bool → List (Value × Value) → Handing
entries_next takes_two [] = NoMore
entries_next takes_two (e ∷ es) = entry takes_two e.0 e.1 es

abbrev pub next : Source → Handing
next (Plain vs) = plain vs
next (Indexed at vs) = indexed at vs
next (Entries takes_two es) = entries_next takes_two es
