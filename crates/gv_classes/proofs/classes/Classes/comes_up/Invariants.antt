use Rattle.std.proofs.Common.{◌≡◌, ◌<◌, ◌-◌, length}
use Rattle.gv_classes.specs.Classes.{comes_up}
use Rattle.gv_classes.proofs.classes.Classes.comes_up.Given as goal

-- the steps that are left decide
abbrev pub invariant-loop-step : goal.invariant-loop-step
invariant-loop-step l = record {
  within : l.class < length l.self;
  left : comes_up (length l.self - l.step) l.self l.class ≡ comes_up (length l.self) l.self l.initial.class;
}
