use Rattle.std.proofs.Common.{◌≡◌, ◌++◌, drop, map}
use Rattle.gv_classes.specs.BuiltIn.{built_in_class, texts_of, with_texts}
use Rattle.gv_classes.proofs.built_in.table_of.Given as goal

-- the rows that are left decide
abbrev pub invariant-loop-name : goal.invariant-loop-name
invariant-loop-name l = record {
  names : with_texts l.names (texts_of (drop l.name-index l.rows)) ≡ with_texts l.initial.names (texts_of l.rows);
  classes : l.table ++ map (built_in_class (with_texts l.names (texts_of (drop l.name-index l.rows)))) (texts_of (drop l.name-index l.rows))
      ≡ map (built_in_class (with_texts l.names (texts_of (drop l.name-index l.rows)))) (texts_of l.rows);
}
