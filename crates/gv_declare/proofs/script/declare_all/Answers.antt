use Rattle.std.proofs.Common.{◌∙◌, ap, [], ◌∷◌, ◌++◌}
use Rattle.std.proofs.lemmas.Result.{on_ok_weaker}
use Rattle.gv_declare.specs.Members as spec
use Rattle.gv_declare.proofs.Behind.{scripts_behind}
use Rattle.gv_declare.proofs.Rests.{script_typed}
use Rattle.gv_declare.proofs.script.declare_all.Goals as goal

pub add-requires : goal.add-requires
add-requires c = rw c.in_ok-script_class.ensures (script_typed c.args.known.now c.args.words c.args.scripts.now)

pub returns : goal.returns
returns c =
    let k = c.args.known.now in
    let scripts = c.args.scripts.now in
    let before = c.args.classes.now in
    let script = spec.script_declared k (spec.all_members k c.args.words scripts) in
    let first = c.in_ok-add.ensures.added ∙ ap (λ d. before ++ d ∷ []) c.in_ok-script_class.ensures in
    on_ok_weaker c.add_classes.result (λ e. e ∙ ap (spec.scripts_classes k scripts) first ∙ scripts_behind k scripts before (script ∷ [])) c.add_classes.ensures
