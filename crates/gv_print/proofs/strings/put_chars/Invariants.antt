use Rattle.std.proofs.Common.{◌≡◌, length}
use denote.Text.{Utf8}
use denote.Shadow.{shadow}
use Rattle.std.specs.Str.{chars}
use Rattle.gv_print.specs.Texts as texts
use Rattle.gv_print.proofs.strings.put_chars.Given as goal

abbrev pub invariant-turns : goal.invariant-turns
invariant-turns l = record {
  text : shadow (Utf8 l.rest);
  left : texts.each (texts.char_printed l.quotes) (chars l.rest) l.out ≡ texts.each (texts.char_printed l.quotes) (chars l.text) l.fn.out;
}

abbrev pub decreases-turns : goal.decreases-turns
decreases-turns l = length (chars l.rest)
