use Rattle.std.proofs.Common.{refl, not, ap, sym, ◌∙◌, nat_eq, map}
use Rattle.std.specs.Cmp.Lexicographic.{pointwise}
use Rattle.gv_base.proofs.Tables.{list_any-map}
use Rattle.gv_keys.proofs.Sets.{with_key-map}
use Rattle.gv_keys.proofs.keys.Keys.put.Goals as goal

pub returns-clause-is_new : goal.returns-clause-is_new
returns-clause-is_new c = c.in_ok-is_new.ensures.added ∙ ap not (sym (list_any-map (λ v. v.items) (pointwise nat_eq c.args.key.items) c.self.inside.keys.keys)) ∙ rw (c.self.view_is) refl

pub returns-clause-put : goal.returns-clause-put
returns-clause-put c = ap (map (λ v. v.items)) c.in_ok-is_new.ensures.keys ∙ with_key-map (λ v. v.items) c.self.inside.keys.keys c.args.key ∙ rw (c.self.view_is) refl
