-- The methods that take every answer.
use Rattle.std.proofs.Common.{◌≡◌, ℕ, ◌+◌, List, [], ◌∷◌, ◌++◌, map, reverse, refl, sym, ap, ◌∙◌}
use Rattle.std.proofs.lemmas.List.{append_assoc, append-nil, reverse-append}
use Rattle.gv_base.specs.declared.value.Value.{Value}
use Rattle.gv_classes.specs.declared.declared.Declared.{Declared}
use Rattle.gv_folds.specs.Folds.{Outcome, Answers, list_answer, going}
use Rattle.gv_folds.specs.declared.fold.Keeping.{Keeping}
use Rattle.gv_folds.specs.declared.fold.Keeping.TheVariants.{Each, Collected, Injected}
use Rattle.gv_folds.specs.declared.fold.Pending.{Pending}
use Rattle.gv_folds.specs.declared.fold.Pending.TheVariants.{Answer}
use Rattle.gv_folds.specs.declared.source.Handed.{Handed}
use Rattle.gv_folds.specs.declared.source.Handed.TheVariants.{Nothing, Element}
use Rattle.gv_folds.specs.declared.source.Source.{Source}
use Rattle.gv_folds.specs.declared.source.Source.TheVariants.{Plain, Indexed}
use Rattle.gv_fold_laws.specs.Methods.{Given, Gathers, alone, placed, injected, elements, answers, last_answer}
use Rattle.gv_fold_laws.specs.Runs.{Answered, Leads, stays, goes}

-- what is kept, last one first, with one more, before the rest
pub kept_next : {A : Type 0} (x : A) (kept rest : List A) → reverse (x ∷ kept) ++ rest ≡ reverse kept ++ x ∷ rest
kept_next x kept rest = ap (λ l. l ++ rest) (reverse-append (x ∷ []) kept) ∙ append_assoc (reverse kept) (x ∷ []) rest

module _ (names : List (List ℕ)) (classes : List Declared) (closure : Value) where
  -- a fold that waits for no answer
  abbrev pub From : Source → Keeping → Handed → Pending → List Answered → Outcome → Type 0
  From source keeping handed pending calls o = Leads names classes (going (record { closure = closure; source = source; keeping = keeping; handed = handed; pending = pending })) calls o

  each_from : (v : Value) (gs : List Given) (handed : Handed) (pending : Pending) → From (Plain (elements gs)) (Each v) handed pending (map alone gs) (Answers v)
  each_from v [] handed pending = stays
  each_from v (g ∷ gs) handed pending = goes (each_from v gs (Element g.element) Answer)

  with_index_from : (v : Value) (at : ℕ) (gs : List Given) (handed : Handed) (pending : Pending) → From (Indexed at (elements gs)) (Each v) handed pending (placed at gs) (Answers v)
  with_index_from v at [] handed pending = stays
  with_index_from v at (g ∷ gs) handed pending = goes (with_index_from v (at + 1) gs (Element g.element) Answer)

  inject_from : (v : Value) (gs : List Given) (handed : Handed) (pending : Pending) → From (Plain (elements gs)) (Injected v) handed pending (injected v gs) (Answers (last_answer v gs))
  inject_from v [] handed pending = stays
  inject_from v (g ∷ gs) handed pending = goes (inject_from g.answer gs (Element g.element) Answer)

  collect_from : (kept : List Value) (gs : List Given) (handed : Handed) (pending : Pending) → From (Plain (elements gs)) (Collected kept) handed pending (map alone gs) (list_answer (reverse kept ++ answers gs))
  collect_from kept [] handed pending = rw (append-nil (reverse kept)) stays
  collect_from kept (g ∷ gs) handed pending = rw (sym (kept_next g.answer kept (answers gs))) (goes (collect_from (g.answer ∷ kept) gs (Element g.element) Answer))

  pub gathers : (gs : List Given) → Gathers names classes closure gs
  gathers gs = record {
    each = λ v. each_from v gs Nothing Answer;
    collect = collect_from [] gs Nothing Answer;
    inject = λ v. inject_from v gs Nothing Answer;
    with_index = λ v. with_index_from v 0 gs Nothing Answer;
  }
