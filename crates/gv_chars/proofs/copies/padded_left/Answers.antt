use Rattle.std.proofs.Common.{List, ℕ, ◌++◌, ◌-◌, ◌∙◌, ap, encode_utf8_all}
use Rattle.std.specs.Str.{chars}
use Rattle.gv_chars.specs.Chars.{filling}
use Rattle.gv_chars.proofs.Texts.{written_before}
use Rattle.gv_chars.proofs.copies.padded_left.Goals as goal

pub returns : goal.returns
returns c =
    let unit = chars c.args.unit.now in
    written_before _ c.args.text.now (filling _ unit) c.utf8.text
    (c.in_ok-push_str.ensures.bytes ∙ ap (λ (xs : List ℕ). xs ++ c.args.text.now)
    (c.in_ok-push_filling.ensures ∙ (ap (λ (xs : List ℕ). xs ++ encode_utf8_all (filling c.saturating_sub.result unit)) c.new-made.ensures.bytes
    ∙ ap (λ k. encode_utf8_all (filling k unit)) (c.saturating_sub.ensures ∙ ap (λ k. c.args.size - k) c.char_count.ensures))))
