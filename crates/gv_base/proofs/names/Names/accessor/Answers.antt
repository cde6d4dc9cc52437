use Rattle.std.proofs.Common.{ap, ◌∙◌}
use Rattle.gv_base.specs.declared.accessors.Accessors.{Accessors}
use Rattle.gv_base.proofs.Growing.{kept_at}
use Rattle.gv_base.proofs.names.Names.accessor.Goals as goal

pub returns-then-write : goal.returns-then-write
returns-then-write c = rw c.if-write.true (ap (λ (a : Accessors). a.setter) (c.index-accessors.ensures ∙ kept_at _ _ c.args.name _ (rw c.self.view_is at c.self.invariant) c.requires))

pub returns-else-write : goal.returns-else-write
returns-else-write c = rw c.if-write.false (ap (λ (a : Accessors). a.getter) (c.index-accessors.ensures ∙ kept_at _ _ c.args.name _ (rw c.self.view_is at c.self.invariant) c.requires))
