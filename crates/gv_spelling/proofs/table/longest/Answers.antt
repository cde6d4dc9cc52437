use Rattle.std.proofs.Common.{arith, map}
use Rattle.gv_spelling.proofs.Longest.{fixed_long}
use Rattle.gv_spelling.proofs.table.longest.Goals as goal

pub loop-len-init : goal.loop-len-init
loop-len-init g c = record {
  within = omega (arith, c.min-len.ensures);
  longest = λ n over within. fixed_long (map (λ k. (k.0.now, k.1)) c.args.table.now) n c.args.text.now c.requires (omega (arith, c.min-len.ensures)) within;
}
