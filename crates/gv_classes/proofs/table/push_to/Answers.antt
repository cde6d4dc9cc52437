use Rattle.std.proofs.Common.{nat_eq, rules}
use Rattle.indexmap.specs.IndexMap.{get}
use Rattle.gv_classes.proofs.Naming.{named-push}
use Rattle.gv_classes.proofs.table.push_to.Goals as goal

pub returns-clause-named : goal.returns-clause-named
returns-clause-named c = λ name.
    rw c.in_ok-push.ensures.items
    (named-push c.args.classes.now.items c.args.class (get nat_eq c.args.named.now) (get nat_eq c.note.new.named) c.len-id.result name (search rules) c.requires c.in_default.ensures.ok)
