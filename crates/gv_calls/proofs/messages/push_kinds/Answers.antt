use Rattle.std.proofs.Common.{string_bytes, ap, ◌∙◌, ◌++◌}
use Rattle.gv_base.specs.declared.value.Value.TheVariants.{Null}
use Rattle.gv_calls.proofs.Commas.{kinds_put}
use Rattle.gv_calls.proofs.messages.push_kinds.Goals as goal

pub returns : goal.returns
returns c =
    let before = string_bytes c.args.text.now in
    let first = string_bytes c.push_str.new.self in
    let put = c.in_ok-push_str.ensures.bytes ∙ ap (λ bytes. before ++ bytes) c.kind_text.ensures in
    kinds_put c.args.world.now c.args.values.now Null before first (string_bytes c.loop-value.text) c.loop-value.value-index c.in-len1-up.len_at_least c.loop-value-test.false put c.loop-value.invariant
