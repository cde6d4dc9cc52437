use Rattle.std.proofs.Common.{ap, ◌∙◌, reverse}
use Rattle.gv_chars.specs.Chars.{after_blanks}
use Rattle.gv_chars.proofs.Texts.{bytes_from_chars}
use Rattle.gv_chars.proofs.ends.trimmed.Goals as goal

pub returns : goal.returns
returns c =
    let same = c.before_blanks.ensures ∙ ap (λ xs. reverse (after_blanks (reverse xs))) c.after_blanks.ensures in
    record { bytes = bytes_from_chars c.before_blanks.result.now _ c.before_blanks.utf8 same; characters = same }
