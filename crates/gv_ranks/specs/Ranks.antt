-- What comes before what.
use Rattle.std.specs.Prelude.{ℕ, pos, Option, Some, None}
use Rattle.std.specs.Ordering.{nat_cmp, int_cmp, bool_cmp}
use Rattle.std.specs.Str.{chars}
use Rattle.std.specs.declared.cmp.Ordering.{Ordering}
use Rattle.gv_base.specs.declared.value.Value.{Value}
use Rattle.gv_base.specs.declared.value.Value.TheVariants as value
use Rattle.gv_chars.specs.Chars as char
use Rattle.gv_ranks.specs.declared.rank.Rank.{Rank}
use Rattle.gv_ranks.specs.declared.rank.Rank.TheVariants.{Null, Number, Text, Truth}

-- the rank of a key that needs no text
abbrev pub plain : Value → Option Rank
plain value.Null = Some Null
plain (value.Bool b) = Some (Truth b)
plain (value.Int n) = Some (Number n)
plain (value.Long n) = Some (Number n)
plain other = None

-- null stands first; the other kinds don't meet in what can be ordered
abbrev pub place : Rank → ℕ
place Null = 0
place (Number n) = 1
place (Text t) = 2
place (Truth b) = 3

-- numbers by their values, texts by their characters, false before true
abbrev pub compared : Rank → Rank → Ordering
compared (Number m) (Number n) = int_cmp m n
compared (Text t) (Text u) = int_cmp (char.compared (chars t) (chars u)) (pos 0)
compared (Truth b) (Truth c) = bool_cmp b c
compared rank other = nat_cmp (place rank) (place other)
