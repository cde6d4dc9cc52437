use Rattle.std.proofs.Common.{◌≡◌, ◌<◌, ◌-◌, length, true}
use Rattle.std.specs.Prelude.{◌==◌}
use Rattle.std.specs.List.{list_any}
use Rattle.gv_classes.specs.Classes.{comes_up, chain_within, is_kind}
use Rattle.gv_classes.proofs.classes.Classes.meets.Given as goal

-- the classes that are left decide
abbrev pub invariant-loop-step : goal.invariant-loop-step
invariant-loop-step l = record {
  within : l.class < length l.self;
  comes : comes_up (length l.self - l.step) l.self l.class ≡ true;
  left : list_any (λ c. c == l.other) (chain_within (length l.self - l.step) l.self l.class) ≡ is_kind l.self l.initial.class l.other;
}
