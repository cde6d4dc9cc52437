use Rattle.std.specs.Prelude.{codes}
use Rattle.std.proofs.Common.{ap, subst, ◌∙◌}
use Rattle.gv_base.specs.declared.exception.ExceptionKind.TheVariants.{UnsupportedOperationException}
use Rattle.gv_rows.specs.Reply.{Did, Throws, said}
use Rattle.gv_rows.specs.Values.{class_text}
use Rattle.gv_maps.proofs.keys.no_key.Goals as goal

pub returns : goal.returns
returns c =
    subst (λ class. Did c.args.heap.now (Throws UnsupportedOperationException (said (codes "Map key of class ") class)) c.throw_joined.result c.args.heap.now)
    (c.class_name-class.ensures ∙ ap (class_text c.args.names.now c.args.classes.now) c.class_of.ensures)
    (c.throw_joined.ensures c.args.heap.now)
