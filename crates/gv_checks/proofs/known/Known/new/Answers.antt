use Rattle.std.proofs.Common.{◌≡◌, Some, codes, subst, ap, ◌∙◌}
use Rattle.gv_base.specs.Names.{name_of, with_name}
use Rattle.gv_checks.specs.Checks.{with_tops}
use Rattle.gv_declare.specs.Known as declare
use Rattle.gv_tops.specs.Known as tops
use Rattle.gv_checks.proofs.known.Known.new.Goals as goal

pub returns-clause-names : goal.returns-clause-names
returns-clause-names c = c.in_ok-declare.ensures.names ∙ ap (λ names. declare.with_names names declare.texts) (c.in_ok-tops.ensures.names ∙ ap (λ names. tops.with_names names tops.texts) c.in_ok-it.ensures.kept)

pub returns-clause-known : goal.returns-clause-known
returns-clause-known c =
    let tops_names = c.in_ok-tops.ensures.names ∙ ap (λ names. tops.with_names names tops.texts) c.in_ok-it.ensures.kept in
    let all_names = c.in_ok-declare.ensures.names ∙ ap (λ names. declare.with_names names declare.texts) tops_names in
    record {
      it = subst (λ names. name_of names (codes "it") ≡ Some c.in_ok-it.it) c.in_ok-it.ensures.kept c.in_ok-it.ensures.name;
      tops = subst (λ names. tops.AreKnown names c.in_ok-tops.tops) tops_names c.in_ok-tops.ensures.known;
      declare = subst (λ names. declare.AreKnown names c.in_ok-declare.declare) all_names c.in_ok-declare.ensures.known;
    }
