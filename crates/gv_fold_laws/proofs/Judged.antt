-- The methods that go by the truth of the answers.
use Rattle.std.proofs.Common.{◌≡◌, ℕ, suc, ◌+◌, Bool, true, false, List, [], ◌∷◌, ◌++◌, map, reverse, All, if◌then◌else◌, refl, sym, ap, ◌∙◌, arith}
use Rattle.std.proofs.lemmas.List.{append-nil}
use Rattle.std.proofs.lemmas.List.Elements.{All-head, All-tail}
use Rattle.gv_base.specs.declared.value.Value.{Value}
use Rattle.gv_base.specs.declared.value.Value.TheVariants.{Null, Bool as Truth}
use Rattle.gv_classes.specs.declared.declared.Declared.{Declared}
use Rattle.gv_rows.specs.Values.{integer_of}
use Rattle.gv_truths.specs.Truths as truths
use Rattle.gv_folds.specs.Folds.{Outcome, Answers, list_answer, judged, judging, kept}
use Rattle.gv_folds.specs.declared.fold.Fold.{Fold}
use Rattle.gv_folds.specs.declared.fold.Keeping.{Keeping}
use Rattle.gv_folds.specs.declared.fold.Keeping.TheVariants.{Found, FoundAll, Any, Every, Counted}
use Rattle.gv_folds.specs.declared.fold.Pending.{Pending}
use Rattle.gv_folds.specs.declared.fold.Pending.TheVariants.{Answer}
use Rattle.gv_folds.specs.declared.source.Handed.{Handed}
use Rattle.gv_folds.specs.declared.source.Handed.TheVariants.{Nothing, Element}
use Rattle.gv_folds.specs.declared.source.Source.{Source}
use Rattle.gv_folds.specs.declared.source.Source.TheVariants.{Plain}
use Rattle.gv_fold_laws.specs.Methods.{Given, IsTold, Tell, Judges, Stops, alone, elements, true_elements, true_count}
use Rattle.gv_fold_laws.specs.Runs.{Answered, Leads, stays, goes}
use Rattle.gv_fold_laws.proofs.Gathered.{From, kept_next}

module _ (names : List (List ℕ)) (classes : List Declared) (closure : Value) where
  -- a fold that was told about an element
  abbrev Told : List Value → Keeping → Value → Fold
  Told vs keeping v = record { closure = closure; source = Plain vs; keeping = keeping; handed = Element v; pending = Answer }

  first_told : (g : Given) (gs : List Given) → All (IsTold names classes closure) (g ∷ gs) → IsTold names classes closure g
  first_told g gs told = All-head (IsTold names classes closure) g gs told

  rest_told : (g : Given) (gs : List Given) → All (IsTold names classes closure) (g ∷ gs) → All (IsTold names classes closure) gs
  rest_told g gs told = All-tail (IsTold names classes closure) g gs told

  -- behind an answer whose truth is known
  known : (fold : Fold) (g : Given) (calls : List Answered) (o : Outcome) → IsTold names classes closure g → Leads names classes (judged fold (kept fold.keeping fold.handed g.is_true)) calls o
      → Leads names classes (judging fold (truths.started names classes g.heap g.answer)) calls o
  known fold g calls o told next = rw told next

  known_as : (fold : Fold) (g : Given) (b : Bool) (calls : List Answered) (o : Outcome) → IsTold names classes closure g → g.is_true ≡ b → Leads names classes (judged fold (kept fold.keeping fold.handed b)) calls o
      → Leads names classes (judging fold (truths.started names classes g.heap g.answer)) calls o
  known_as fold g b calls o told e next = known fold g calls o told (rw e next)

  -- ---- all answers are taken

  find_all_step : (vs behind : List Value) (v : Value) (more : List Value) (b : Bool) (calls : List Answered)
      → ((held : List Value) → From names classes closure (Plain behind) (FoundAll held) (Element v) Answer calls (list_answer (reverse held ++ more)))
      → Leads names classes (judged (Told behind (FoundAll vs) v) (kept (FoundAll vs) (Element v) b)) calls (list_answer (reverse vs ++ (if b then v ∷ more else more)))
  find_all_step vs behind v more true calls next = rw (sym (kept_next v vs more)) (next (v ∷ vs))
  find_all_step vs behind v more false calls next = next vs

  find_all_from : (vs : List Value) (gs : List Given) (handed : Handed) (pending : Pending) → All (IsTold names classes closure) gs → From names classes closure (Plain (elements gs)) (FoundAll vs) handed pending (map alone gs) (list_answer (reverse vs ++ true_elements gs))
  find_all_from vs [] handed pending told = rw (append-nil (reverse vs)) stays
  find_all_from vs (g ∷ gs) handed pending told =
      goes (known (Told (elements gs) (FoundAll vs) g.element) g _ _ (first_told g gs told) (find_all_step vs (elements gs) g.element (true_elements gs) g.is_true (map alone gs) (λ held. find_all_from held gs (Element g.element) Answer (rest_told g gs told))))

  count_step : (n : ℕ) (behind : List Value) (v : Value) (more : ℕ) (b : Bool) (calls : List Answered)
      → ((m : ℕ) → From names classes closure (Plain behind) (Counted m) (Element v) Answer calls (Answers (integer_of (m + more))))
      → Leads names classes (judged (Told behind (Counted n) v) (kept (Counted n) (Element v) b)) calls (Answers (integer_of (n + (if b then suc more else more))))
  count_step n behind v more true calls next =
      let sum : n + suc more ≡ n + 1 + more = omega arith in
      rw sum (next (n + 1))
  count_step n behind v more false calls next = next n

  count_from : (n : ℕ) (gs : List Given) (handed : Handed) (pending : Pending) → All (IsTold names classes closure) gs → From names classes closure (Plain (elements gs)) (Counted n) handed pending (map alone gs) (Answers (integer_of (n + true_count gs)))
  count_from n [] handed pending told =
      let sum : n + 0 ≡ n = omega arith in
      rw sum stays
  count_from n (g ∷ gs) handed pending told =
      goes (known (Told (elements gs) (Counted n) g.element) g _ _ (first_told g gs told) (count_step n (elements gs) g.element (true_count gs) g.is_true (map alone gs) (λ m. count_from m gs (Element g.element) Answer (rest_told g gs told))))

  count_all : (gs : List Given) → All (IsTold names classes closure) gs → From names classes closure (Plain (elements gs)) (Counted 0) Nothing Answer (map alone gs) (Answers (integer_of (true_count gs)))
  count_all gs told =
      let sum : true_count gs ≡ 0 + true_count gs = omega arith in
      rw sum (count_from 0 gs Nothing Answer told)

  -- ---- no answer ends the search

  none_from : (gs : List Given) (handed : Handed) (pending : Pending) → All (IsTold names classes closure) gs → Tell names classes closure false gs → From names classes closure (Plain (elements gs)) Any handed pending (map alone gs) (Answers (Truth false))
  none_from [] handed pending told tell = stays
  none_from (g ∷ gs) handed pending told tell = goes (known_as (Told (elements gs) Any g.element) g false _ _ (first_told g gs told) (All-head (λ h. h.is_true ≡ false) g gs tell) (none_from gs (Element g.element) Answer (rest_told g gs told) (All-tail (λ h. h.is_true ≡ false) g gs tell)))

  not_found_from : (gs : List Given) (handed : Handed) (pending : Pending) → All (IsTold names classes closure) gs → Tell names classes closure false gs → From names classes closure (Plain (elements gs)) Found handed pending (map alone gs) (Answers Null)
  not_found_from [] handed pending told tell = stays
  not_found_from (g ∷ gs) handed pending told tell = goes (known_as (Told (elements gs) Found g.element) g false _ _ (first_told g gs told) (All-head (λ h. h.is_true ≡ false) g gs tell) (not_found_from gs (Element g.element) Answer (rest_told g gs told) (All-tail (λ h. h.is_true ≡ false) g gs tell)))

  all_from : (gs : List Given) (handed : Handed) (pending : Pending) → All (IsTold names classes closure) gs → Tell names classes closure true gs → From names classes closure (Plain (elements gs)) Every handed pending (map alone gs) (Answers (Truth true))
  all_from [] handed pending told tell = stays
  all_from (g ∷ gs) handed pending told tell = goes (known_as (Told (elements gs) Every g.element) g true _ _ (first_told g gs told) (All-head (λ h. h.is_true ≡ true) g gs tell) (all_from gs (Element g.element) Answer (rest_told g gs told) (All-tail (λ h. h.is_true ≡ true) g gs tell)))

  pub judges : (gs : List Given) → All (IsTold names classes closure) gs → Judges names classes closure gs
  judges gs told = record {
    find_all = find_all_from [] gs Nothing Answer told;
    count = count_all gs told;
    none = λ tell. none_from gs Nothing Answer told tell;
    not_found = λ tell. not_found_from gs Nothing Answer told tell;
    all = λ tell. all_from gs Nothing Answer told tell;
  }

  -- ---- an answer ends it

  module _ (last : Given) (behind : List Value) (last_told : IsTold names classes closure last) where
    some_from : (gs : List Given) (handed : Handed) (pending : Pending) → All (IsTold names classes closure) gs → Tell names classes closure false gs → last.is_true ≡ true
        → From names classes closure (Plain (elements gs ++ last.element ∷ behind)) Any handed pending (map alone (gs ++ last ∷ [])) (Answers (Truth true))
    some_from [] handed pending told tell e = goes (known_as (Told behind Any last.element) last true _ _ last_told e stays)
    some_from (g ∷ gs) handed pending told tell e = goes (known_as (Told (elements gs ++ last.element ∷ behind) Any g.element) g false _ _ (first_told g gs told) (All-head (λ h. h.is_true ≡ false) g gs tell) (some_from gs (Element g.element) Answer (rest_told g gs told) (All-tail (λ h. h.is_true ≡ false) g gs tell) e))

    found_from : (gs : List Given) (handed : Handed) (pending : Pending) → All (IsTold names classes closure) gs → Tell names classes closure false gs → last.is_true ≡ true
        → From names classes closure (Plain (elements gs ++ last.element ∷ behind)) Found handed pending (map alone (gs ++ last ∷ [])) (Answers last.element)
    found_from [] handed pending told tell e = goes (known_as (Told behind Found last.element) last true _ _ last_told e stays)
    found_from (g ∷ gs) handed pending told tell e = goes (known_as (Told (elements gs ++ last.element ∷ behind) Found g.element) g false _ _ (first_told g gs told) (All-head (λ h. h.is_true ≡ false) g gs tell) (found_from gs (Element g.element) Answer (rest_told g gs told) (All-tail (λ h. h.is_true ≡ false) g gs tell) e))

    not_all_from : (gs : List Given) (handed : Handed) (pending : Pending) → All (IsTold names classes closure) gs → Tell names classes closure true gs → last.is_true ≡ false
        → From names classes closure (Plain (elements gs ++ last.element ∷ behind)) Every handed pending (map alone (gs ++ last ∷ [])) (Answers (Truth false))
    not_all_from [] handed pending told tell e = goes (known_as (Told behind Every last.element) last false _ _ last_told e stays)
    not_all_from (g ∷ gs) handed pending told tell e = goes (known_as (Told (elements gs ++ last.element ∷ behind) Every g.element) g true _ _ (first_told g gs told) (All-head (λ h. h.is_true ≡ true) g gs tell) (not_all_from gs (Element g.element) Answer (rest_told g gs told) (All-tail (λ h. h.is_true ≡ true) g gs tell) e))

  pub stops : (gs : List Given) (last : Given) (behind : List Value) → All (IsTold names classes closure) gs → IsTold names classes closure last → Stops names classes closure gs last behind
  stops gs last behind told last_told = record {
    some = λ tell e. some_from last behind last_told gs Nothing Answer told tell e;
    found = λ tell e. found_from last behind last_told gs Nothing Answer told tell e;
    not_all = λ tell e. not_all_from last behind last_told gs Nothing Answer told tell e;
  }
