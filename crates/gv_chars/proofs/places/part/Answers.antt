use Rattle.std.proofs.Common.{◌-◌, ◌∙◌, ap, take}
use Rattle.std.specs.Str.{chars}
use Rattle.std.proofs.lemmas.Result.{IfOk-weaker}
use Rattle.gv_chars.proofs.Texts.{bytes_from_chars}
use Rattle.gv_chars.proofs.places.part.Goals as goal

pub returns : goal.returns
returns c =
    IfOk-weaker c.from_str.result _ _
    (λ t h. h ∙ bytes_from_chars c.front.result.now _ c.front.utf8 (c.front.ensures ∙ (ap (λ k. take k (chars c.behind.result.now)) c.saturating_sub.ensures ∙ ap (take (c.args.to - c.args.from)) c.behind.ensures)))
    c.from_str.ensures.ok
