use Rattle.std.proofs.Common.{ℕ, List, ◌+◌, ◌∙◌, get_or, drop, [], Bor}
use Rattle.std.proofs.lemmas.List.{drop_more}
use Rattle.gv_classes.specs.BuiltIn.{texts_of}
use Rattle.gv_classes.proofs.Texts.{with_texts-step, classes-step}
use Rattle.gv_classes.proofs.built_in.table_of.Goals as goal

pub loop-name-preserved : goal.loop-name-preserved
loop-name-preserved c =
    let none : Bor (List ℕ) × Bor (List ℕ) = (record { ref_ptr = (0, 0); now = [] }, record { ref_ptr = (0, 0); now = [] }) in
    let rows = c.args.rows.now in
    let place = c.loop-name.name-index in
    let first = drop_more rows place none c.loop-name-test.true in
    record {
      names = with_texts-step c.loop-name.names c.class_of.new.names (get_or rows place none) (drop place rows) (drop (place + 1) rows) c.in_ok-class.class first c.in_ok-class.ensures.names ∙ c.loop-name.invariant.names;
      classes = classes-step c.loop-name.names c.class_of.new.names (get_or rows place none) (drop place rows) (drop (place + 1) rows) c.in_ok-class.class first c.in_ok-class.ensures.names
          c.loop-name.table c.push.new.self (texts_of rows) c.in_ok-class.ensures.name c.in_ok-class.ensures.above c.in_ok-class.ensures.rest c.in_ok-push.ensures.ok c.loop-name.invariant.classes;
    }
