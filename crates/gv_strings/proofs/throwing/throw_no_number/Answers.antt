use Rattle.std.proofs.Common.{codes, encode_utf8_all, string_bytes, ◌++◌}
use Rattle.std.specs.Str.{chars}
use Rattle.gv_base.specs.declared.exception.ExceptionKind.TheVariants.{NumberFormatException}
use Rattle.gv_chars.specs.Chars.{trimmed}
use Rattle.gv_strings.proofs.Said.{thrown}
use Rattle.gv_strings.proofs.throwing.throw_no_number.Goals as goal

pub returns : goal.returns
returns c =
    thrown string_bytes NumberFormatException (codes "For input string: \"" ++ encode_utf8_all (trimmed (chars c.args.text.now)) ++ codes "\"")
    c.input_text.result c.throw.result c.throw.ensures c.input_text.ensures
