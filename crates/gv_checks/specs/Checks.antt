-- The refusal of a script that has a tree, if it has one.
use Rattle.std.specs.Prelude.{◌≡◌, ℕ, List, ◌++◌, Option, Some, None, codes, map}
use Rattle.gv_base.specs.Names.{name_of, with_name}
use Rattle.gv_base.specs.declared.refusal.Refusal.{Refusal}
use Rattle.gv_classes.specs.BuiltIn.{rows, built_in_class, with_texts}
use Rattle.gv_classes.specs.declared.declared.Declared.{Declared}
use Rattle.gv_tree.specs.declared.top.Script.{Script}
use Rattle.gv_declare.specs.Known as declare
use Rattle.gv_declare.specs.Members.{all_declared}
use Rattle.gv_events.specs.Events.{events_of}
use Rattle.gv_events.specs.declared.words.Words.{Words}
use Rattle.gv_loose.specs.Loose.{loose_refused}
use Rattle.gv_tops.specs.Known as tops
use Rattle.gv_tops.specs.Tops.{tops_refused}
use Rattle.gv_repeats.specs.Repeats.{repeats_refused}
use Rattle.gv_circles.specs.Circles.{circles_refused}
use Rattle.gv_types.specs.Types.{types_refused}
use Rattle.gv_bodies.specs.Bodies.{bodies_refused}
use Rattle.gv_checks.specs.declared.known.Known.{Known}

-- ---- names

-- the table with the names that the rules speak of
abbrev pub with_tops : List (List ℕ) → List (List ℕ)
with_tops names = tops.with_names (with_name names (codes "it")) tops.texts

abbrev pub with_known : List (List ℕ) → List (List ℕ)
with_known names = declare.with_names (with_tops names) declare.texts

-- each is the name that its text has, or gets
pub record AreKnown (names : List (List ℕ)) (k : Known) : Type 0 where
  pub it : name_of (with_name names (codes "it")) (codes "it") ≡ Some k.it
  pub tops : tops.AreKnown (with_tops names) k.tops
  pub declare : declare.AreKnown (with_known names) k.declare

abbrev pub words_of : Known → Words
words_of k = record { it = k.it; field = k.tops.field; groovy = k.tops.groovy; transform = k.tops.transform }

-- ---- classes

-- the built-in classes and those of some scripts, in a table with the names of the built-in ones
abbrev pub classes_of : Known → List (List ℕ) → List Script → List Declared
classes_of k names scripts = map (built_in_class (with_texts names rows)) rows ++ all_declared k.declare (words_of k) scripts

-- ---- refusals

-- the first refusal of a script in a file: of what stands at its top, of its statements, of what it declares twice, of superclass
-- circles, of its types, and of its bodies
abbrev pub refusal_of : Known → List Declared → ℕ → Script → Option Refusal
refusal_of k classes file script =
    bodies_refused (events_of (words_of k) script)
    (types_refused classes k.declare.interceptable script (events_of (words_of k) script)
    (circles_refused classes file
    (repeats_refused classes file
    (loose_refused file script
    (tops_refused k.tops script None)))))
