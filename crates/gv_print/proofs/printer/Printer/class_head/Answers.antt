use Rattle.std.proofs.Common.{◌≡◌, ◌++◌, ◌∙◌, List, ℕ, OnOk, ap, codes, subst}
use Rattle.gv_base.specs.Names.{text_of}
use Rattle.gv_print.specs.Texts as texts
use Rattle.gv_print.specs.Printed as spec
use Rattle.gv_print.proofs.printer.Printer.class_head.Goals as goal

pub returns : goal.returns
returns c =
    let names = c.args.self.now.names.now in
    let class = c.args.class.now in
    let above = spec.above_printed names (spec.trees names c.args.levels) in
    let named = c.in_ok-put_ident.ensures ∙ ap (λ out. out ++ text_of names class.ident.name) (c.in_ok-put.ensures ∙ ap (λ out. out ++ codes "class ") c.in_ok-put_modifiers.ensures) in
    let extended = c.in_ok-above.ensures ∙ ap (λ out. texts.if_there (above (codes " extends ")) class.superclass out) named in
    subst (λ (out : List ℕ). OnOk c.above-2.result (c.above-2.new.out ≡ texts.if_there (above (codes " implements ")) class.interface out)) extended c.above-2.ensures
