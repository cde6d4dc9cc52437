use Rattle.std.proofs.Common.{◌≡◌, Some, codes, subst, ap, ◌∙◌}
use Rattle.gv_base.specs.Names.{name_of, with_name}
use Rattle.gv_phases.proofs.known.Known.new.Goals as goal

pub returns-clause-names : goal.returns-clause-names
returns-clause-names c =
    c.in_ok-resolve_strategy.ensures.kept ∙ ap (λ names. with_name names (codes "resolveStrategy")) (c.in_ok-delegate.ensures.kept ∙ ap (λ names. with_name names (codes "delegate"))
    (c.in_ok-owner.ensures.kept ∙ ap (λ names. with_name names (codes "owner")) (c.in_ok-value.ensures.kept ∙ ap (λ names. with_name names (codes "#v")) c.in_ok-checks.ensures.names)))

pub returns-clause-known : goal.returns-clause-known
returns-clause-known c =
    let value = c.in_ok-value.ensures.kept ∙ ap (λ names. with_name names (codes "#v")) c.in_ok-checks.ensures.names in
    let owner = c.in_ok-owner.ensures.kept ∙ ap (λ names. with_name names (codes "owner")) value in
    let delegate = c.in_ok-delegate.ensures.kept ∙ ap (λ names. with_name names (codes "delegate")) owner in
    let all = c.in_ok-resolve_strategy.ensures.kept ∙ ap (λ names. with_name names (codes "resolveStrategy")) delegate in
    record {
      checks = c.in_ok-checks.ensures.known;
      value = subst (λ names. name_of names (codes "#v") ≡ Some c.in_ok-value.value) value c.in_ok-value.ensures.name;
      owner = subst (λ names. name_of names (codes "owner") ≡ Some c.in_ok-owner.owner) owner c.in_ok-owner.ensures.name;
      delegate = subst (λ names. name_of names (codes "delegate") ≡ Some c.in_ok-delegate.delegate) delegate c.in_ok-delegate.ensures.name;
      resolve_strategy = subst (λ names. name_of names (codes "resolveStrategy") ≡ Some c.in_ok-resolve_strategy.resolve_strategy) all c.in_ok-resolve_strategy.ensures.name;
    }
