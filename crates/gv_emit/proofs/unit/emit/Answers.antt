use Rattle.std.proofs.Common.{ap, ◌∙◌}
use Rattle.gv_code.specs.declared.code.Code.{Code}
use Rattle.gv_emit.proofs.Forward.{code_forward}
use Rattle.gv_emit.proofs.Right.{code_right}
use Rattle.gv_emit.proofs.unit.emit.Goals as goal

pub returns-clause-right : goal.returns-clause-right
returns-clause-right c = code_right _ _ (ap (λ (code : Code). code.bodies) c.finish.ensures ∙ c.in_ok-out.ensures)

pub returns-clause-forward : goal.returns-clause-forward
returns-clause-forward c = code_forward _ _ (ap (λ (code : Code). code.bodies) c.finish.ensures ∙ c.in_ok-out.ensures)
