-- What rows of strings throw themselves.
use Rattle.std.specs.Prelude.{ℕ, ℤ, List, Some, codes, encode_utf8_all, ◌++◌}
use Rattle.std.specs.Fmt.{signed_decimal}
use Rattle.std.specs.Str.{chars}
use Rattle.gv_base.specs.declared.exception.ExceptionKind.TheVariants.{IllegalArgumentException, NumberFormatException, StringIndexOutOfBoundsException}
use Rattle.gv_chars.specs.Chars.{trimmed}
use Rattle.gv_rows.specs.Reply.{Reply, Throws, said}

-- a place that isn't there, as it was given
abbrev pub out_of_range : ℤ → Reply
out_of_range given = Throws StringIndexOutOfBoundsException (said (codes "String index out of range: ") (signed_decimal given))

-- a count below 0
abbrev pub negative_count : ℤ → Reply
negative_count n = Throws IllegalArgumentException (said (codes "Negative count: ") (signed_decimal n))

-- an item of the places to read is no number
abbrev pub bad_places : Reply
bad_places = Throws IllegalArgumentException (said (codes "Bad arguments: ") (codes "getAt"))

-- there is nothing to pad with
abbrev pub empty_padding : Reply
empty_padding = Throws IllegalArgumentException (Some (codes "Empty padding"))

-- a text that writes no number, or one out of the kind's range
abbrev pub no_number : List ℕ → Reply
no_number text = Throws NumberFormatException (Some (codes "For input string: \"" ++ encode_utf8_all (trimmed (chars text)) ++ codes "\""))
