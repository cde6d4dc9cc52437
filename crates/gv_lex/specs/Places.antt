-- Places, and the first of some refusals.
use Rattle.std.specs.Prelude.{ℕ, ◌+◌, Bool, not, ◌&&◌, ◌||◌, if◌then◌else◌, ◌==◌, nat_lt, List, [], ◌∷◌, slice_index, Option, Some, None}
use Rattle.gv_base.specs.Refusal.{number_of}
use Rattle.gv_base.specs.declared.refusal.Place.{Place}
use Rattle.gv_base.specs.declared.refusal.Refusal.{Refusal}

abbrev pub file_start : ℕ → Place
file_start file = record { file = file; line = 1; column = 1 }

abbrev pub next_column : Place → Place
next_column p = record p { column = p.column + 1 }

abbrev pub next_line : Place → Place
next_line p = record p { line = p.line + 1; column = 1 }

-- a line ends at LF, at CR, or at both together
abbrev pub past_one : Place → ℕ → Bool → Place
past_one p c before_line_feed =
    if c == 10 || (c == 13 && not before_line_feed) then next_line p
    else if c == 13 then p
    else next_column p

-- the place behind some characters
abbrev pub past : Place → List ℕ → Place
past p [] = p
past p (c ∷ s) = past (past_one p c (slice_index s 0 == 10)) s

-- the first stands before the second, by line, column and kind
abbrev pub is_before : Refusal → Refusal → Bool
is_before a b =
    nat_lt a.place.line b.place.line
    || (a.place.line == b.place.line && (nat_lt a.place.column b.place.column || (a.place.column == b.place.column && nat_lt (number_of a.kind) (number_of b.kind))))

abbrev pub earlier : Option Refusal → Option Refusal → Option Refusal
earlier (Some a) (Some b) = Some (if is_before b a then b else a)
earlier (Some a) None = Some a
earlier None b = b

-- the first of one refusal and some more
abbrev pub first_of : Option Refusal → List Refusal → Option Refusal
first_of best [] = best
first_of best (r ∷ rs) = first_of (earlier best (Some r)) rs
