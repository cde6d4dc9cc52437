-- What `kept` leaves of tokens.
use Rattle.std.proofs.Common.{◌≡◌, Bool, true, false, ◌&&◌, List, [], ◌∷◌, ◌++◌, Option, Some, None, if◌then◌else◌, refl, ap, ◌∙◌}
use Rattle.std.specs.Option.{option_to_list}
use Rattle.gv_lex.specs.declared.token.Token.{Token}
use Rattle.gv_lex.specs.declared.token.TokenKind.{TokenKind}
use Rattle.gv_lines.specs.Laws.{IsThinned, ends, stays, goes}
use Rattle.gv_lines.specs.Lines.{Line, start, counts_in, last_may_end, may_begin, counted, first_waiting, with_waiting, line_behind, is_line_end, kept_from, kept}

-- what waits is a line end
abbrev IsWaiting : Option Token → Type 0
IsWaiting None = Unit {0}
IsWaiting (Some t) = is_line_end t.kind ≡ true

waits : (o : Option Token) (t : Token) → IsWaiting o → is_line_end t.kind ≡ true → is_line_end (first_waiting o t).kind ≡ true
waits None t h e = e
waits (Some w) t h e = h

-- ---- nothing but line ends goes

thinned_end : (o : Option Token) → IsWaiting o → IsThinned [] (option_to_list o ++ [])
thinned_end None h = ends
thinned_end (Some w) h = goes h ends

thinned_behind : (w t : Token) (xs us : List Token) → is_line_end t.kind ≡ true → IsThinned xs (w ∷ us) → IsThinned xs (w ∷ t ∷ us)
thinned_behind w t xs us h (stays p) = stays (goes h p)
thinned_behind w t xs us h (goes k p) = goes k (goes h p)

thinned_line_end : (o : Option Token) (t : Token) (xs us : List Token) → is_line_end t.kind ≡ true → IsThinned xs (first_waiting o t ∷ us) → IsThinned xs (option_to_list o ++ t ∷ us)
thinned_line_end None t xs us h p = p
thinned_line_end (Some w) t xs us h p = thinned_behind w t xs us h p

thinned_other : (counts : Bool) (o : Option Token) (t : Token) (xs us : List Token) → IsWaiting o → IsThinned xs us → IsThinned (option_to_list (if counts then o else None) ++ t ∷ xs) (option_to_list o ++ t ∷ us)
thinned_other true None t xs us h p = stays p
thinned_other false None t xs us h p = stays p
thinned_other true (Some w) t xs us h p = stays (stays p)
thinned_other false (Some w) t xs us h p = goes h (stays p)

abbrev counts_before : Line → TokenKind → Bool
counts_before l k = counts_in l.levels && last_may_end l.before l.last && may_begin k

thinned_step : (l : Line) (t : Token) (ts : List Token) (b : Bool) → is_line_end t.kind ≡ b → IsWaiting l.waiting
    → (IsWaiting (Some (first_waiting l.waiting t)) → IsThinned (kept_from (with_waiting l t) ts) (first_waiting l.waiting t ∷ ts))
    → IsThinned (kept_from (line_behind l t.kind) ts) ts
    → IsThinned (if b then kept_from (with_waiting l t) ts else option_to_list (counted l t.kind) ++ t ∷ kept_from (line_behind l t.kind) ts) (option_to_list l.waiting ++ t ∷ ts)
thinned_step l t ts true e h f p = thinned_line_end l.waiting t (kept_from (with_waiting l t) ts) ts e (f (waits l.waiting t h e))
thinned_step l t ts false e h f p = thinned_other (counts_before l t.kind) l.waiting t (kept_from (line_behind l t.kind) ts) ts h p

thinned_from : (l : Line) (ts : List Token) → IsWaiting l.waiting → IsThinned (kept_from l ts) (option_to_list l.waiting ++ ts)
thinned_from l [] h = thinned_end l.waiting h
thinned_from l (t ∷ ts) h = thinned_step l t ts (is_line_end t.kind) refl h (λ k. thinned_from (with_waiting l t) ts k) (thinned_from (line_behind l t.kind) ts tt)

pub thinned : (ts : List Token) → IsThinned (kept ts) ts
thinned ts = thinned_from start ts tt

-- ---- of what was kept everything is kept

none_either : (b : Bool) → if◌then◌else◌ {A = Option Token} b None None ≡ None
none_either true = refl
none_either false = refl

abbrev without_waiting : Line → Line
without_waiting l = record l { waiting = None }

again_alone : (l : Line) (t : Token) (xs : List Token) → is_line_end t.kind ≡ false → kept_from (line_behind l t.kind) xs ≡ xs → kept_from (without_waiting l) (t ∷ xs) ≡ t ∷ xs
again_alone l t xs e h = rw e (ap (λ o. option_to_list o ++ t ∷ kept_from (line_behind l t.kind) xs) (none_either (counts_before l t.kind)) ∙ ap (λ ys. t ∷ ys) h)

again_line_end : (l : Line) (w t : Token) (xs : List Token) → is_line_end w.kind ≡ true → is_line_end t.kind ≡ false → counts_before l t.kind ≡ true → kept_from (line_behind l t.kind) xs ≡ xs
    → kept_from (without_waiting l) (w ∷ t ∷ xs) ≡ w ∷ t ∷ xs
again_line_end l w t xs k e c h = rw k (rw e (rw c (ap (λ ys. w ∷ t ∷ ys) h)))

again_other : (l : Line) (t : Token) (xs : List Token) (o : Option Token) (counts : Bool) → counts_before l t.kind ≡ counts → IsWaiting o → is_line_end t.kind ≡ false → kept_from (line_behind l t.kind) xs ≡ xs
    → kept_from (without_waiting l) (option_to_list (if counts then o else None) ++ t ∷ xs) ≡ option_to_list (if counts then o else None) ++ t ∷ xs
again_other l t xs None true c w e h = again_alone l t xs e h
again_other l t xs None false c w e h = again_alone l t xs e h
again_other l t xs (Some line_end) true c w e h = again_line_end l line_end t xs w e c h
again_other l t xs (Some line_end) false c w e h = again_alone l t xs e h

again_step : (l : Line) (t : Token) (ts : List Token) (b : Bool) → is_line_end t.kind ≡ b → IsWaiting l.waiting
    → (IsWaiting (Some (first_waiting l.waiting t)) → kept_from (without_waiting l) (kept_from (with_waiting l t) ts) ≡ kept_from (with_waiting l t) ts)
    → kept_from (line_behind l t.kind) (kept_from (line_behind l t.kind) ts) ≡ kept_from (line_behind l t.kind) ts
    → let xs = if b then kept_from (with_waiting l t) ts else option_to_list (counted l t.kind) ++ t ∷ kept_from (line_behind l t.kind) ts in kept_from (without_waiting l) xs ≡ xs
again_step l t ts true e h f p = f (waits l.waiting t h e)
again_step l t ts false e h f p = again_other l t (kept_from (line_behind l t.kind) ts) l.waiting (counts_before l t.kind) refl h e p

again_from : (l : Line) (ts : List Token) → IsWaiting l.waiting → kept_from (without_waiting l) (kept_from l ts) ≡ kept_from l ts
again_from l [] h = refl
again_from l (t ∷ ts) h = again_step l t ts (is_line_end t.kind) refl h (λ k. again_from (with_waiting l t) ts k) (again_from (line_behind l t.kind) ts tt)

pub again : (ts : List Token) → kept (kept ts) ≡ kept ts
again ts = again_from start ts tt
