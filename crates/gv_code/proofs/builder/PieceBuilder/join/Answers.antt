use Rattle.std.proofs.Common.{◌≡◌, ◌+◌, ap, ◌∙◌, length, length-append}
use Rattle.std.specs.Prelude.{map, ◌++◌}
use Rattle.gv_code.proofs.Bounds.{bounded_joined}
use Rattle.gv_code.specs.Pieces.{shifted}
use Rattle.gv_code.proofs.builder.PieceBuilder.join.Goals as goal

pub invariant_of-result : goal.invariant_of-result
invariant_of-result c =
    let n = c.self.inside.items.items in
    let m = c.more.inside.items.items in
    let e : length c.append.new.self.items ≡ length n + length m = ap length c.in_ok-append.ensures.items ∙ length-append n m in
    let f : c.in_ok-handlers.handlers.items ≡ c.self.inside.handlers.items ++ map (shifted (length n)) c.more.inside.handlers.items = cc (c.in_ok-handlers.ensures, c.as_slice.ensures.value, c.len-n.ensures) in
    bounded_joined (length n) (length m) _ _ _ _ e f c.self.invariant c.more.invariant
