-- What calls return in the readers of strings, as what their callers return.
use Rattle.std.proofs.Common.{◌≡◌, ◌≢◌, ℕ, ◌<◌, ◌≤◌, Bool, true, false, List, [], ◌∷◌, ◌++◌, length, drop, length-drop, arith, refl, sym, ap, subst, Result, Ok, Err, Option, Some, None, MatchBool, ◌∙◌}
use Rattle.gv_base.specs.declared.refusal.Place.{Place}
use Rattle.gv_spelling.specs.declared.kinds.Symbol.TheVariants as symbol
use Rattle.gv_lex.specs.declared.token.Part.{Part as Form}
use Rattle.gv_lex.specs.declared.token.Part.TheVariants as form
use Rattle.gv_lex.specs.declared.token.Piece.TheVariants as piece
use Rattle.gv_lex.specs.declared.token.Token.{Token}
use Rattle.gv_lex.specs.declared.token.TokenKind.{TokenKind}
use Rattle.gv_lex.specs.declared.token.TokenKind.TheVariants as kind
use Rattle.gv_tree.specs.declared.expr.Atom.TheVariants as atom
use Rattle.gv_tree.specs.declared.expr.Expr.{Expr}
use Rattle.gv_tree.specs.declared.expr.Expr.TheVariants as expr
use Rattle.gv_tree.specs.declared.expr.Label.TheVariants as label
use Rattle.gv_tree.specs.declared.expr.Part.{Part}
use Rattle.gv_tree.specs.declared.ops.MemberOp.TheVariants as member
use Rattle.gv_grammar.specs.Phrases.{Longest, Nothing}
use Rattle.gv_grammar.specs.Tokens.{Eats, EatsEnd, eats_piece, kind_of, place_of, name_of, ident}
use Rattle.gv_grammar.specs.Exprs.{IsExpr, IsGString, gstring, AreParts, IsPart, eager, lazy, GoesNames, names_end}
use Rattle.gv_grammar.proofs.Lengths.{left, of_eats, of_part}
use Rattle.gv_grammar.proofs.Single.{along, along2}
use Rattle.gv_grammar.proofs.Meets.{part_of, gstring_of}
use Rattle.gv_grammar.proofs.LongerStrings as longer
use Rattle.gv_cursor.specs.declared.error.ReadError.{ReadError}
use Rattle.gv_cursor.specs.declared.error.ReadError.TheVariants.{Refused, OutOfMemory}
use Rattle.gv_cursor.specs.Reading.{Fails, Reads}

module _ (all : ℕ) where
  -- names that are read behind a first one
  pub reads_names : (x : Expr) {y : Expr} {n : ℕ} (ts : List Token) {us : List Token} (rest : List Token) (r : Result Expr ReadError) → Eats symbol.Dot ts us → name_of (kind_of us) ≡ Some n
      → y ≡ expr.Member (place_of ts) member.Dot x (label.Name (ident (place_of us) n)) → Reads (GoesNames all y) r (drop 1 us) rest → Reads (GoesNames all x) r ts rest
  reads_names x ts {us = us} rest (Ok z) p q e d = longer.names_go_on all p q (subst (λ w. Longest (GoesNames all w) z (drop 1 us) rest) e d)
  reads_names x ts rest (Err OutOfMemory) p q e d = tt
  reads_names x {y = y} ts {us = us} rest (Err Refused) p q e d = absurd (d y (drop 1 us) names_end)

  -- names are never refused
  pub names_refused : {x : Expr} {ts us : List Token} → Nothing (GoesNames all x) ts → Nothing (IsPart all form.Path) us
  names_refused {x = x} {ts = ts} f = absurd (f x ts names_end)

  -- what a part in braces is, by whether an arrow comes first
  pub braces : {x : Expr} {ts us vs rest : List Token} (is_lazy : Bool) → MatchBool is_lazy (Eats symbol.Arrow ts us) ((us ≡ ts) × ((after : List Token) → Eats symbol.Arrow ts after → ⊥))
      → Longest (IsExpr all) x us vs → EatsEnd vs rest → Longest (IsPart all form.Braces) (is_lazy, x) ts rest
  braces true h l e = longer.long_part all (lazy h l.is e)
  braces {x = x} {vs = vs} false h l e = longer.long_part all (eager (along (λ zs. IsExpr all x zs vs) (sym h.0) l.is) e)

  pub no_value : {ts us : List Token} (is_lazy : Bool) → MatchBool is_lazy (Eats symbol.Arrow ts us) ((us ≡ ts) × ((after : List Token) → Eats symbol.Arrow ts after → ⊥))
      → Nothing (IsExpr all) us → Nothing (IsPart all form.Braces) ts
  no_value true h f = longer.no_lazy_expr all h f
  no_value false h f = longer.no_eager_expr all h.1 (along (λ zs. Nothing (IsExpr all) zs) (sym h.0) f)

  pub no_value_end : {x : Expr} {ts us vs : List Token} (is_lazy : Bool) → MatchBool is_lazy (Eats symbol.Arrow ts us) ((us ≡ ts) × ((after : List Token) → Eats symbol.Arrow ts after → ⊥))
      → Longest (IsExpr all) x us vs → ((ws : List Token) → EatsEnd vs ws → ⊥) → Nothing (IsPart all form.Braces) ts
  no_value_end true h l f = longer.no_lazy_end all h l f
  no_value_end {x = x} {vs = vs} false h l f = longer.no_eager_end all h.1 (along (λ zs. Longest (IsExpr all) x zs vs) (sym h.0) l) f

module _ (all : ℕ) {k : TokenKind} (ts : List Token) (here : k ≡ kind_of ts) where
  pub headless : {e : ReadError} → ((f : Form) (n : ℕ) → k ≢ kind.Text (piece.Head f) n) → e ≡ Refused → Fails (IsGString all) e ts
  headless h q = subst (λ w. Fails (IsGString all) w ts) (sym q) (longer.no_head all (λ f n r. h f n (here ∙ r)))

  module _ {f : Form} {n : ℕ} {us : List Token} (head : k ≡ kind.Text (piece.Head f) n) (passed : us ≡ drop 1 ts) where
    pub partless : Nothing (AreParts all f) us → Nothing (IsGString all) ts
    partless h = longer.no_parts all (sym here ∙ head) (along (λ zs. Nothing (AreParts all f) zs) (sym passed) h)

    pub whole : {ps : List Part} {rest : List Token} → Longest (AreParts all f) ps us rest → Longest (IsGString all) (gstring_of n ps) ts rest
    whole {ps = ps} {rest = rest} l = longer.gstring_here all ts (sym here ∙ head) (along (λ zs. AreParts all f ps zs rest) (sym passed) l.is)

  pub nameless : {e : ReadError} → name_of k ≡ None → e ≡ Refused → Fails (IsPart all form.Path) e ts
  nameless h q = subst (λ w. Fails (IsPart all form.Path) w ts) (sym q) (longer.no_names all (ap name_of (sym here) ∙ h))

  module _ {n : ℕ} {place : Place} {us : List Token} (name : name_of k ≡ Some n) (at : place ≡ place_of ts) (passed : us ≡ drop 1 ts) where
    named : {y : Expr} {vs : List Token} → Longest (GoesNames all (expr.Atom place (atom.Name n))) y us vs → Longest (GoesNames all (expr.Atom (place_of ts) (atom.Name n))) y (drop 1 ts) vs
    named {y = y} {vs = vs} l = along2 (λ w zs. Longest (GoesNames all w) y zs vs) (ap (λ w. expr.Atom w (atom.Name n)) (sym at)) (sym passed) l

    pub path : {y : Expr} {vs rest : List Token} → Longest (GoesNames all (expr.Atom place (atom.Name n))) y us vs → EatsEnd vs rest → Longest (IsPart all form.Path) (false, y) ts rest
    path l e = longer.names_here all ts (ap name_of (sym here) ∙ name) (named l) e

    pub path_unended : {y : Expr} {vs : List Token} → Longest (GoesNames all (expr.Atom place (atom.Name n))) y us vs → ((ws : List Token) → EatsEnd vs ws → ⊥) → Nothing (IsPart all form.Path) ts
    path_unended l f = longer.no_names_end all (ap name_of (sym here) ∙ name) (named l) f

pub name_passed : {ts us vs : List Token} → Eats symbol.Dot ts us → vs ≡ drop 1 us → length vs < length ts
name_passed {us = us} p q = let a = left (of_eats p) in let b = ap length q in let d = length-drop 1 us in omega arith

pub another_name : (all : ℕ) (x : Expr) {y : Expr} {n : ℕ} {k : TokenKind} {o : Option ℕ} {place behind : Place} (ts : List Token) {us vs : List Token} (rest : List Token) (r : Result Expr ReadError)
    → Eats symbol.Dot ts us → k ≡ kind_of us → o ≡ name_of k → o ≡ Some n → place ≡ place_of ts → behind ≡ place_of us → vs ≡ drop 1 us → y ≡ x
    → Reads (GoesNames all (expr.Member place member.Dot y (label.Name (ident behind n)))) r vs rest → Reads (GoesNames all x) r ts rest
another_name all x {y = y} {n = n} {place = place} {behind = behind} ts rest r p here q s at at2 passed same d = reads_names all x ts rest r p (sym (q ∙ ap name_of here) ∙ s) (rw (at, at2, same) refl) (along (λ zs. Reads (GoesNames all (expr.Member place member.Dot y (label.Name (ident behind n)))) r zs rest) (sym passed) d)

-- behind the head of a string, parts end where the string does
long_parts : (all : ℕ) {f : Form} {ps : List Part} {ts rest : List Token} → AreParts all f ps ts rest → Longest (AreParts all f) ps ts rest
long_parts all {f = f} {ps = ps} {ts = ts} {rest = rest} d =
    let head : Token = record { kind = kind.Text (piece.Head f) 0; place = place_of ts } in
    let l : Longest (IsGString all) (gstring_of 0 ps) (head ∷ ts) rest = longer.gstring_here all (head ∷ ts) refl d in
    record { is = d; longest = λ y after b. l.longest (gstring_of 0 y) after (gstring (eats_piece refl) b) }

-- parts from here complete those so far, and there are parts at the start only if there are some here
pub record Completes (all : ℕ) (f g : Form) (qs : List Part) (start here : List Token) : Type 0 where
  pub sound : (ps : List Part) (rest : List Token) → AreParts all g ps here rest → AreParts all f (qs ++ ps) start rest
  pub refused : Nothing (AreParts all g) here → Nothing (AreParts all f) start
  pub shorter : length here ≤ length start

pub none_yet : (all : ℕ) {f : Form} {qs : List Part} {start : List Token} → qs ≡ [] → Completes all f f qs start start
none_yet all p = rw p (record { sound = λ ps rest d. d; refused = λ h. h; shorter = omega arith })

module _ (all : ℕ) {f g : Form} {qs : List Part} {start here : List Token} (i : Completes all f g qs start here) where
  pub no_part_here : Nothing (IsPart all g) here → Nothing (AreParts all f) start
  no_part_here h = i.refused (longer.no_part all h)

  module _ {v : Bool × Expr} {us : List Token} (d : Longest (IsPart all g) v here us) where
    pub no_piece_here : {k l : TokenKind} {e : ReadError} → k ≡ kind_of us → ((n : ℕ) → k ≢ kind.Text piece.Tail n) → l ≡ kind_of us → ((h : Form) (n : ℕ) → l ≢ kind.Text (piece.Middle h) n) → e ≡ Refused → Fails (AreParts all f) e start
    no_piece_here o p q r s = subst (λ w. Fails (AreParts all f) w start) (sym s) (i.refused (longer.no_piece all d.is (λ n z. p n (o ∙ z)) (λ h n z. r h n (q ∙ z))))

    pub part_passed : {vs : List Token} → vs ≡ drop 1 us → length vs < length here
    part_passed {vs = vs} passed = let a = left (of_part all d.is) in let b = ap length passed in let c = length-drop 1 us in omega arith

    module _ {k : TokenKind} (next : k ≡ kind_of us) (n : ℕ) {x : Expr} {rs : List Part} {vs : List Token} (passed : vs ≡ drop 1 us) (same : x ≡ v.1) (pushed : rs ≡ qs ++ (part_of (v.0, x) n ∷ [])) where
      appended : rs ≡ qs ++ (part_of v n ∷ [])
      appended = pushed ∙ ap (λ w. qs ++ (part_of (v.0, w) n ∷ [])) same

      pub all_parts : k ≡ kind.Text piece.Tail n → Longest (AreParts all f) rs start vs
      all_parts p = long_parts all (along2 (λ w zs. AreParts all f w start zs) appended passed (longer.parts_end all qs i.sound d.is (sym next ∙ p)))

      pub one_more_part : {h : Form} → k ≡ kind.Text (piece.Middle h) n → Completes all f h rs start vs
      one_more_part {h = h} p = record {
        sound = λ ps rest b. subst (λ w. AreParts all f (w ++ ps) start rest) (sym appended)
            (longer.parts_more all qs i.sound d.is (sym next ∙ p) ps rest (along (λ zs. AreParts all h ps zs rest) (sym passed) b));
        refused = λ b. i.refused (longer.no_more_parts all d.is (sym next ∙ p) (along (λ zs. Nothing (AreParts all h) zs) (sym passed) b));
        shorter = let a = part_passed passed in let b = i.shorter in omega arith;
      }
