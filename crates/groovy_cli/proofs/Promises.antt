-- What is promised of a call, from how the files stand and what was given.
use Rattle.std.proofs.Common.{◌≡◌, ℕ, ◌<◌, ◌≤◌, ◌⊎◌, true, false, List, [], length, inl, inr, Some, Result, Ok, Err, IsOk, OnOk, OnErr, is_err, refl, sym, ◌∙◌, arith}
use Rattle.gv_base.specs.declared.refusal.Refusal.{Refusal}
use Rattle.gv_outside.specs.Count.{HasCause, IsSteady}
use Rattle.gv_outside.specs.Sink.{SinkState, Takes, TakesPrefix}
use Rattle.gv_outside.specs.declared.files.Failed.{Failed}
use Rattle.gv_outside.specs.Files.{Contents, FilesState, content_of}
use Rattle.gv_outside.specs.declared.files.TheConstants.{MOST_BYTES}
use Rattle.groovy_cli.specs.Answers.{Stands, outcome}
use Rattle.groovy_cli.specs.Program.{Outcome, Request, unwritten_line, request_of, ending_status, IsFileOutcome, Says, too_long, a_script, unread_outcome}
use Rattle.gv_meaning.specs.declared.world.Why.TheVariants.{Ticks, Cells, Depth}
use Rattle.gv_simulate.specs.declared.report.Ending.{Ending}
use Rattle.gv_simulate.specs.declared.report.Ending.TheVariants.{Value, Uncaught, Stopped}
use Rattle.gv_simulate.specs.declared.report.Report.{Report}
use Rattle.groovy_cli.specs.Top.{Sinks, IsSound, Given, IsCut, Means, IsRunStatus, HasRun, IsRefused, IsUnwritten}
use Rattle.groovy_cli.specs.declared.answer.Answer.{Answer}
use Rattle.groovy_cli.specs.declared.answer.Answer.TheVariants.{Usage, Unread, TooLong, Refused, Ran}

-- the statuses of runs are no others
not_two : (ending : Ending) → ending_status ending ≡ 2 → ⊥
not_two Value e = omega (arith, e)
not_two (Uncaught text) e = omega (arith, e)
not_two (Stopped Ticks) e = omega (arith, e)
not_two (Stopped Cells) e = omega (arith, e)
not_two (Stopped Depth) e = omega (arith, e)

low_status : (ending : Ending) → ending_status ending ≤ 5
low_status Value = omega arith
low_status (Uncaught text) = omega arith
low_status (Stopped Ticks) = omega arith
low_status (Stopped Cells) = omega arith
low_status (Stopped Depth) = omega arith

no_run : (status n : ℕ) → status ≡ n → 5 < n → IsRunStatus status → ⊥
no_run status n s lt (inl e) = omega (arith, s, e, lt)
no_run status n s lt (inr (inl e)) = omega (arith, s, e, lt)
no_run status n s lt (inr (inr (inl e))) = omega (arith, s, e, lt)
no_run status n s lt (inr (inr (inr (inl e)))) = omega (arith, s, e, lt)
no_run status n s lt (inr (inr (inr (inr e)))) = omega (arith, s, e, lt)

-- no answer has the status of a sink that failed
not_unwritten : (file : List ℕ) (answer : Answer) → (outcome file answer).status ≡ 74 → ⊥
not_unwritten file Usage e = omega (arith, e)
not_unwritten file Unread e = omega (arith, e)
not_unwritten file TooLong e = omega (arith, e)
not_unwritten file (Refused refusal) e = omega (arith, e)
not_unwritten file (Ran report) e = let low = low_status report.ending in omega (arith, e, low)

-- where no file failed, an answer says an outcome of the file
pub is_outcome : (request : Request) (old new : FilesState) (answer : Answer) (contents : Contents) → Stands request old new answer → IsSteady old.faults new.faults → old.contents ≡ Some contents
    → IsFileOutcome request (content_of contents request.file) (outcome request.file answer)
is_outcome request old new Usage contents h steady told = absurd h
is_outcome request old new Unread contents h steady told = absurd (let risen = h.0.1 in omega (arith, risen, steady))
is_outcome request old new TooLong contents h steady told = too_long (h.3 contents told)
is_outcome request old new (Refused refusal) contents h steady told = let read = h.2 contents told in a_script read.0 read.1
is_outcome request old new (Ran report) contents h steady told = let read = h.2 contents told in a_script read.0 read.1

pub unwritten : (words : List (List ℕ)) (request : Request) (answer : Answer) (old new : FilesState) (before after : Sinks) (status : ℕ) → request_of words ≡ Some request → Stands request old new answer
    → Given (outcome request.file answer) before after status → IsUnwritten words (record { files = old; sinks = before }) (record { files = new; sinks = after }) status
unwritten words request answer old new before after status named stands (inl whole) = record {
  cause = λ e. absurd (not_unwritten request.file answer (sym whole.status_is ∙ e));
  at_out = λ risen. absurd (let same = whole.out in omega (arith, same, risen));
  at_err = λ risen. absurd (let same = whole.err in omega (arith, same, risen));
  unread = λ e. absurd (not_unwritten request.file answer (sym whole.status_is ∙ e));
  cut = λ e. absurd (not_unwritten request.file answer (sym whole.status_is ∙ e));
}
unwritten words request answer old new before after status named stands (inr broken) = record {
  cause = λ e. elim broken.cut [ inl cut ↦ inl cut.risen | inr cut ↦ inr cut.risen ];
  at_out = λ risen. broken.status_is;
  at_err = λ risen. broken.status_is;
  unread = λ e risen. rw named (by answer stands risen broken.cut);
  cut = λ e steady contents told. (outcome request.file answer, rw named (is_outcome request old new answer contents stands steady told), broken.cut);
}
  where
    by : (answer : Answer) → Stands request old new answer → old.faults < new.faults → IsCut (outcome request.file answer) before after → IsCut (unread_outcome request.file) before after
    by Usage h risen cut = absurd h
    by Unread h risen cut = cut
    by TooLong h risen cut = absurd (let same = h.0 in omega (arith, same, risen))
    by (Refused refusal) h risen cut = absurd (let same = h.0 in omega (arith, same, risen))
    by (Ran report) h risen cut = absurd (let same = h.0 in omega (arith, same, risen))

-- `out` failed, and then the line that says so was put into `err`
pub cut_at_out : (outcome : Outcome) (out new_out err new_err : SinkState) (r s : Result (Unit {0}) Failed) → is_err r ≡ true → (outcome.output ≡ [] → IsOk r)
    → OnErr r (TakesPrefix out outcome.output new_out) → HasCause out.faults new_out.faults r
    → OnOk s (Takes err unwritten_line new_err) → OnErr s (TakesPrefix err unwritten_line new_err) → HasCause err.faults new_err.faults s
    → Given outcome (record { out = out; err = err }) (record { out = new_out; err = new_err }) 74
cut_at_out outcome out new_out err new_err (Ok _) s failed asked prefix cause ok cut count = absurd (cc)
cut_at_out outcome out new_out err new_err (Err _) (Ok _) failed asked prefix cause ok cut count = inr (record {
  status_is = refl;
  cut = inl (record { some = λ none. let h : false ≡ true = asked none in cc; risen = cause; output = prefix; line = (length unwritten_line, omega arith, ok) });
  out = cause.0;
  err = omega (arith, count);
})
cut_at_out outcome out new_out err new_err (Err _) (Err _) failed asked prefix cause ok cut count = inr (record {
  status_is = refl;
  cut = inl (record { some = λ none. let h : false ≡ true = asked none in cc; risen = cause; output = prefix; line = cut });
  out = cause.0;
  err = count.0;
})

-- nothing is cut off where no sink failed
never_cut : {outcome : Outcome} {before after : Sinks} → IsCut outcome before after → IsSteady before.out.faults after.out.faults → IsSteady before.err.faults after.err.faults → ⊥
never_cut (inl cut) out err = let risen = cut.risen.1 in omega (arith, risen, out)
never_cut (inr cut) out err = let risen = cut.risen.1 in omega (arith, risen, err)

module _ (words : List (List ℕ)) (request : Request) (answer : Answer) (old new : FilesState) (before after : Sinks) (status : ℕ) (named : request_of words ≡ Some request) (stands : Stands request old new answer) where
  pub means : Given (outcome request.file answer) before after status → Means words (record { files = old; sinks = before }) (record { files = new; sinks = after }) status
  means (inl whole) contents told sound = inr (outcome request.file answer, rw named (is_outcome request old new answer contents stands sound.files told), whole.status_is, whole.written)
  means (inr broken) contents told sound = absurd (never_cut broken.cut sound.out sound.err)

  pub refused : Given (outcome request.file answer) before after status → IsRefused words (record { files = old; sinks = before }) (record { files = new; sinks = after }) status
  refused given = record { cause = λ e contents told. rw named (by answer stands given e contents told); always = λ sound contents told. rw named (at_last answer stands given sound contents told) }
    where
      by : (a : Answer) → Stands request old new a → Given (outcome request.file a) before after status → status ≡ 2 → (contents : Contents) → old.contents ≡ Some contents → (r : Refusal) × Says request.limits (content_of contents request.file) (Err r)
      by a h (inr broken) e contents told = absurd (let s = broken.status_is in omega (arith, s, e))
      by Usage h (inl whole) e contents told = absurd h
      by Unread h (inl whole) e contents told = absurd (let s = whole.status_is in omega (arith, s, e))
      by TooLong h (inl whole) e contents told = absurd (let s = whole.status_is in omega (arith, s, e))
      by (Refused refusal) h (inl whole) e contents told = (refusal, (h.2 contents told).1)
      by (Ran report) h (inl whole) e contents told = absurd (not_two report.ending (sym whole.status_is ∙ e))

      at_last : (a : Answer) → Stands request old new a → Given (outcome request.file a) before after status → IsSound (record { files = old; sinks = before }) (record { files = new; sinks = after }) → (contents : Contents) → old.contents ≡ Some contents
          → length (content_of contents request.file) ≤ MOST_BYTES → ((report : Report) → Says request.limits (content_of contents request.file) (Ok report) → ⊥) → (status ≡ 2) ⊎ (status ≡ 71)
      at_last a h (inr broken) sound contents told fits none = absurd (never_cut broken.cut sound.out sound.err)
      at_last Usage h (inl whole) sound contents told fits none = absurd h
      at_last Unread h (inl whole) sound contents told fits none = absurd (let risen = h.0.1 in let steady = sound.files in omega (arith, risen, steady))
      at_last TooLong h (inl whole) sound contents told fits none = absurd (let more = h.3 contents told in omega (arith, more, fits))
      at_last (Refused refusal) h (inl whole) sound contents told fits none = inl whole.status_is
      at_last (Ran report) h (inl whole) sound contents told fits none = absurd (none report (h.2 contents told).1)

  pub has_run : Given (outcome request.file answer) before after status → HasRun words (record { files = old; sinks = before }) (record { files = new; sinks = after }) status
  has_run given = record { cause = λ e contents told. rw named (by answer stands given e contents told) }
    where
      not_refused : status ≡ 2 → IsRunStatus status → ⊥
      not_refused s (inl e) = omega (arith, s, e)
      not_refused s (inr (inl e)) = omega (arith, s, e)
      not_refused s (inr (inr (inl e))) = omega (arith, s, e)
      not_refused s (inr (inr (inr (inl e)))) = omega (arith, s, e)
      not_refused s (inr (inr (inr (inr e)))) = omega (arith, s, e)

      by : (a : Answer) → Stands request old new a → Given (outcome request.file a) before after status → IsRunStatus status → (contents : Contents) → old.contents ≡ Some contents
          → (report : Report) × Says request.limits (content_of contents request.file) (Ok report) × (status ≡ ending_status report.ending)
      by a h (inr broken) e contents told = absurd (no_run status 74 broken.status_is (omega arith) e)
      by Usage h (inl whole) e contents told = absurd h
      by Unread h (inl whole) e contents told = absurd (no_run status 66 whole.status_is (omega arith) e)
      by TooLong h (inl whole) e contents told = absurd (no_run status 65 whole.status_is (omega arith) e)
      by (Refused refusal) h (inl whole) e contents told = absurd (not_refused whole.status_is e)
      by (Ran report) h (inl whole) e contents told = (report, (h.2 contents told).1, whole.status_is)
