-- What is said of a script that has a tree.
use Rattle.std.proofs.Common.{◌≡◌, ℕ, List, [], ◌∷◌, map, Option, Some, None, Result, Ok, Err, refl, sym, ap, subst, ◌∙◌}
use Rattle.std.specs.Prelude.{option_map}
use Rattle.std.proofs.lemmas.Option.{none-some}
use Rattle.gv_base.specs.declared.limits.Limits.{Limits}
use Rattle.gv_base.specs.declared.refusal.Refusal.{Refusal}
use Rattle.gv_classes.specs.BuiltIn.{rows, built_in_class, with_texts}
use Rattle.gv_classes.specs.declared.declared.Declared.{Declared}
use Rattle.gv_core.specs.declared.stmt.Source.{Source}
use Rattle.gv_lex.specs.declared.token.Token.{Token}
use Rattle.gv_tree.specs.declared.top.Script.{Script}
use Rattle.gv_stmts.specs.Parsed.{Parses}
use Rattle.gv_meaning.specs.Meaning.{meaning}
use Rattle.gv_meaning.specs.Opening.{opened_world}
use Rattle.gv_meaning.specs.declared.world.World.{World}
use Rattle.gv_lower.specs.Known.{AreKnown, with_known}
use Rattle.gv_lower.specs.declared.known.Known.{Known}
use Rattle.gv_simulate.specs.Report.{report_of}
use Rattle.gv_simulate.specs.declared.report.Report.{Report}
use Rattle.gv_words.specs.Words.{reading_of}
use Rattle.gv_words.specs.declared.words.Reading.{Reading}
use Rattle.gv_phases.specs.Phases.{IsConverted, Passes, scripts_refused}
use Rattle.gv_phases.specs.Units.{IsAnalysed, IsCanonical}
use Rattle.gv_phases.specs.declared.error.PhaseError.{PhaseError}
use Rattle.gv_phases.specs.declared.error.PhaseError.TheVariants.{Refused, OutOfMemory}
use Rattle.gv_phases.specs.declared.unit.Analysed.{Analysed}
use Rattle.gv_phases.specs.declared.unit.Canonical.{Canonical}
use Rattle.gv_phases.specs.declared.unit.Converted.{Converted}
use Rattle.gv_phases.specs.declared.unit.Unit as phases
use Rattle.groovy_cli.specs.Judged.{Judged}
use Rattle.groovy_cli.specs.Program.{Request, word_at, request_in, request_of, Lexes, Says, IsJudged, a_tree, first_unit, said_of, first_world, texts_behind, not_built}

pub world_is : (names all : List (List ℕ)) (classes : List Declared) (texts : List ℕ) (limits : Limits) (w : World) → all ≡ with_texts names rows → classes ≡ map (built_in_class all) rows → w ≡ opened_world all classes texts limits
    → w ≡ first_world names texts limits
world_is names all classes texts limits w p q r = r ∙ rw (q, p) refl

module _ (names : List (List ℕ)) (s : Script) (u : phases.Unit Converted) (c : IsConverted names (s ∷ []) u.state.known u.names u.scripts.items u.state.classes) where
  abbrev judged : (refusal : Option Refusal) → refusal ≡ scripts_refused u.state.known u.state.classes u.scripts.items → IsJudged names s refusal
  judged refusal e = record { rules = u.state.known; all = u.names; scripts = u.scripts.items; classes = u.state.classes; converted = c; judged = e }

  pub refused_by : (e : PhaseError) → Passes (scripts_refused u.state.known u.state.classes u.scripts.items) (IsAnalysed u) (Err e) → Judged names s (Err e)
  refused_by (Refused r) p = judged (Some r) (sym p)
  refused_by OutOfMemory p = tt

  pub judged_by : (v : phases.Unit Analysed) (r : Result (phases.Unit Canonical) PhaseError) → Passes (scripts_refused u.state.known u.state.classes u.scripts.items) (IsAnalysed u) (Ok v)
      → Passes None (IsCanonical v) r → Judged names s r
  judged_by v (Ok w) p q = (judged None (sym (p.0)), sym (q.1.names ∙ p.1.names), ap (λ x. x.items) (sym (q.1.scripts ∙ p.1.scripts)))
  judged_by v (Err (Refused r)) p q = absurd (none-some r q)
  judged_by v (Err OutOfMemory) p q = tt

module _ (limits : Limits) (bytes : List ℕ) (names some all : List (List ℕ)) (tokens : List Token) (s : Script) (scripts : List Script) (known : Known) (unit : Option (List Source)) (l : Lexes bytes names tokens)
    (t : Parses (Ok s) tokens) (j : IsJudged names s None) (p : some ≡ j.all) (h : scripts ≡ j.scripts) (q : all ≡ with_known some) (k : AreKnown all known) (u : unit ≡ first_unit known scripts) where
  known_all : all ≡ with_known j.all
  known_all = q ∙ ap with_known p

  unit_is : unit ≡ first_unit known j.scripts
  unit_is = u ∙ ap (first_unit known) h

  says : Says limits bytes (said_of limits (with_known j.all) (texts_behind [] tokens) unit)
  says = subst (λ u. Says limits bytes (said_of limits (with_known j.all) (texts_behind [] tokens) u)) (sym unit_is) (a_tree l t j (subst (λ n. AreKnown n known) known_all k))

  pub not_built_said : (r : Refusal) → unit ≡ None → r ≡ not_built → Says limits bytes (Err r)
  not_built_said r e f = rw f (subst (λ u. Says limits bytes (said_of limits (with_known j.all) (texts_behind [] tokens) u)) e says)

  pub run_said : (bodies : List Source) (texts : List ℕ) (report : Report) → unit ≡ Some bodies → texts ≡ texts_behind [] tokens → report ≡ report_of (meaning bodies (first_world all texts limits)) → Says limits bytes (Ok report)
  run_said bodies texts report e f g =
      subst (λ r. Says limits bytes (Ok r)) (sym (g ∙ rw (f, known_all) refl)) (subst (λ u. Says limits bytes (said_of limits (with_known j.all) (texts_behind [] tokens) u)) e says)

pub asked : (words : List (List ℕ)) (reading : Reading) (file : List ℕ) → reading_of words ≡ Some reading → file ≡ word_at words reading.file → request_of words ≡ Some (record { file = file; limits = reading.limits })
asked words reading file e f = rw f (ap (option_map (request_in words)) e)
