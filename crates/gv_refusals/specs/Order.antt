-- Which of two refusals is reported.
use Rattle.std.specs.Prelude.{Bool, nat_lt, ◌==◌, ◌&&◌, ◌||◌, Option, Some, None, if◌then◌else◌}
use Rattle.gv_base.specs.Refusal.{number_of}
use Rattle.gv_base.specs.declared.refusal.Refusal.{Refusal}

-- one stands before the other: by file, line, column, and then by its kind
abbrev pub stands_before : Refusal → Refusal → Bool
stands_before a b =
    nat_lt a.place.file b.place.file
    || (a.place.file == b.place.file && (nat_lt a.place.line b.place.line
    || (a.place.line == b.place.line && (nat_lt a.place.column b.place.column
    || (a.place.column == b.place.column && nat_lt (number_of a.kind) (number_of b.kind))))))

-- the first so far, and one more that is found
abbrev pub earlier : Option Refusal → Refusal → Option Refusal
earlier None r = Some r
earlier (Some first) r = if stands_before r first then Some r else Some first
