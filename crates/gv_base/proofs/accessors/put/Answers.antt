use Rattle.std.proofs.Common.{[], ◌∷◌, ◌++◌, refl, Some, ap, sym, ◌∙◌}
use Rattle.std.proofs.Math.Seq.{take-append_seam}
use Rattle.std.proofs.lemmas.Slice.Eq.{bytes_eq-Decides}
use Rattle.gv_base.specs.Accessors.{spelled}
use Rattle.gv_base.proofs.Growing.{kept-after, name_of-push}
use Rattle.gv_base.proofs.accessors.put.Goals as goal

pub returns-clause-name : goal.returns-clause-name
returns-clause-name c =
    let names = spelled c.args.texts.now.keys in
    let text = c.args.text.now in
    rw (c.in_ok-name.ensures.texts, c.in_ok-owned.ensures.ok, name_of-push names text text c.requires.new, (bytes_eq-Decides text text).1 refl) (ap Some (sym c.in_ok-name.ensures.name))

pub returns-clause-kept : goal.returns-clause-kept
returns-clause-kept c =
    let names = spelled c.args.texts.now.keys in
    let whole = sym (c.note.ensures.len ∙ c.deref_mut.ensures.len) in
    rw (whole, take-append_seam) (kept-after names _ c.args.text.now _ _ _ _ _ _ c.requires.new c.in_ok-properties.ensures c.requires.kept
    (c.deref_mut.ensures.value ∙ c.in_ok-name.ensures.accessors) c.in_ok-own.ensures (c.in_ok-name.ensures.texts ∙ ap (λ text. names ++ text ∷ []) c.in_ok-owned.ensures.ok)
    c.in_ok-name.ensures.name c.note.ensures.noted)
