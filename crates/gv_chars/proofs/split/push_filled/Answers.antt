use Rattle.std.proofs.Common.{sym, ap, ◌++◌, ◌∙◌, map, cond, [], ◌∷◌, encode_utf8_all}
use Rattle.std.specs.String.{string_bytes}
use Rattle.std.specs.Str.{chars}
use Rattle.gv_chars.proofs.Cuts.{text_pushed}
use Rattle.gv_chars.proofs.split.push_filled.Goals as goal

pub returns-in_ok-push : goal.returns-in_ok-push
returns-in_ok-push c =
    let cs = chars c.args.piece.now in
    text_pushed string_bytes _ c.args.made.now.items c.in_ok-from_str.field-0 c.args.piece.now c.utf8.piece c.in_ok-from_str.ensures.ok c.in_ok-push.ensures.items
    ∙ ap (λ b. map string_bytes c.args.made.now.items ++ map encode_utf8_all (cond b (cs ∷ []) [])) (sym c.if-is_filled.true ∙ c.is_filled.ensures)
