-- Strings with parts, exit by exit of their functions.
use Rattle.std.proofs.Common.{◌≡◌, ◌≢◌, ℕ, ◌≤◌, Bool, false, List, [], ◌∷◌, ◌++◌, length, drop, refl, sym, ap, arith, None, Some, append_assoc, ◌⊎◌, inl, inr}
use Rattle.gv_spelling.specs.declared.kinds.Symbol.TheVariants as symbol
use Rattle.gv_lex.specs.declared.token.Part.{Part as Form}
use Rattle.gv_lex.specs.declared.token.Part.TheVariants as form
use Rattle.gv_lex.specs.declared.token.Piece.TheVariants as piece
use Rattle.gv_lex.specs.declared.token.Token.{Token}
use Rattle.gv_lex.specs.declared.token.TokenKind.TheVariants as kind
use Rattle.gv_tree.specs.declared.expr.Atom.TheVariants as atom
use Rattle.gv_tree.specs.declared.expr.Expr.{Expr}
use Rattle.gv_tree.specs.declared.expr.Expr.TheVariants as expr
use Rattle.gv_tree.specs.declared.expr.GString.{GString}
use Rattle.gv_tree.specs.declared.expr.Label.TheVariants as label
use Rattle.gv_tree.specs.declared.expr.Part.{Part}
use Rattle.gv_tree.specs.declared.ops.MemberOp.TheVariants as member
use Rattle.gv_grammar.specs.Tokens.{Eats, EatsPiece, EatsEnd, EatsAs, kind_of, place_of, name_of, ident}
use Rattle.gv_grammar.specs.Phrases.{Longest, Nothing}
use Rattle.gv_grammar.specs.Exprs.{IsExpr, IsGString, gstring, AreParts, last_part, more_parts, IsPart, eager, lazy, names, GoesNames, names_end, one_name}
use Rattle.gv_grammar.proofs.Lengths.{left, no_more, of_eats, of_as, of_names}
use Rattle.gv_grammar.proofs.Single.{ap2, along, along2, kind_eaten, piece_eaten, end_eaten, meant, same_rest, as_same, piece_same}
use Rattle.gv_grammar.proofs.Firsts.{spread_class, gstring_first, expr_spread}
use Rattle.gv_grammar.proofs.Tails.{at_end}
use Rattle.gv_grammar.proofs.Meets.{part_of, gstring_of, meet_gstring, meet_part}
use Rattle.gv_grammar.proofs.Longest.{stops_here, goes_on, only, piece_here, as_here, as_rest, ended_there}

module _ (all : ℕ) where
  -- ---- names

  -- `.` and a name, and what it goes on with
  record OneName (x : Expr) (ts : List Token) (y : Expr) (rest : List Token) : Type 0 where
    us : List Token
    name : ℕ
    dot : Eats symbol.Dot ts us
    named : name_of (kind_of us) ≡ Some name
    more : GoesNames all (expr.Member (place_of ts) member.Dot x (label.Name (ident (place_of us) name))) y (drop 1 us) rest

  names_part : {x : Expr} {ts : List Token} (y : Expr) (rest : List Token) → GoesNames all x y ts rest → (length rest ≡ length ts) ⊎ OneName x ts y rest
  names_part y rest names_end = inl refl
  names_part {x = x} {ts = ts} y rest (one_name {n = n} {us = us} d q g) = inr (record {
    us = us;
    name = n;
    dot = d;
    named = meant q;
    more = along (λ zs. GoesNames all (expr.Member (place_of ts) member.Dot x (label.Name (ident (place_of us) n))) y zs rest) (sym (as_rest q)) g;
  })

  pub names_no_dot : {x : Expr} {ts : List Token} → ((us : List Token) → Eats symbol.Dot ts us → ⊥) → Longest (GoesNames all x) x ts ts
  names_no_dot {x = x} {ts = ts} f = stops_here (GoesNames all) (OneName x ts) names_end names_part (λ y after d. f d.us d.dot)

  pub names_no_name : {x : Expr} {ts us : List Token} → Eats symbol.Dot ts us → name_of (kind_of us) ≡ None → Longest (GoesNames all x) x ts ts
  names_no_name {x = x} {ts = ts} p e = stops_here (GoesNames all) (OneName x ts) names_end names_part
      (λ y after d. let a = ap (λ zs. name_of (kind_of zs)) (same_rest p d.dot) in let b = d.named in cc)

  pub names_go_on : {x y : Expr} {n : ℕ} {ts us rest : List Token} → Eats symbol.Dot ts us → name_of (kind_of us) ≡ Some n
      → Longest (GoesNames all (expr.Member (place_of ts) member.Dot x (label.Name (ident (place_of us) n)))) y (drop 1 us) rest → Longest (GoesNames all x) y ts rest
  names_go_on {x = x} {y = y} {n = n} {ts = ts} {us = us} {rest = rest} p q l =
      let d : GoesNames all x y ts rest = one_name p (as_here us refl q) l.is in
      goes_on (GoesNames all) (OneName x ts) names_end names_part y rest d (no_more (of_names all d)) go
    where
      go : (z : Expr) (after : List Token) → OneName x ts z after → length rest ≤ length after
      go z after d =
          let h = same_rest p d.dot in
          let a = ap (λ zs. name_of (kind_of zs)) h in
          let b = d.named in
          let i : n ≡ d.name = cc in
          l.longest z after (along2 (λ c cs. GoesNames all c z cs after) (ap2 (λ zs w. expr.Member (place_of ts) member.Dot x (label.Name (ident (place_of zs) w))) h i) (ap (drop 1) h) d.more)

  -- what the longest names are, where others end before the end of a list
  names_there : {x y z : Expr} {ts us vs after : List Token} → GoesNames all x y ts us → GoesNames all x z ts vs → EatsEnd vs after → length us ≤ length vs → us ≡ vs
  names_there names_end names_end e h = refl
  names_there names_end (one_name d n g) e h = let a = left (of_eats d) in let b = left (of_as n) in let c = no_more (of_names all g) in absurd (omega arith)
  names_there (one_name d n g) names_end e h = let a = end_eaten e in let b = kind_eaten d in cc
  names_there {x = x} {ts = ts} (one_name d n g) (one_name {y = z} {n = m} {vs = vs} {rest = r} d2 n2 g2) e h =
      let i = same_rest d d2 in
      let a = as_same n (along (λ zs. EatsAs name_of m zs vs) i n2) in
      let j = ap2 (λ zs w. expr.Member (place_of ts) member.Dot x (label.Name (ident (place_of zs) w))) i (a.tree) in
      names_there g (along2 (λ w zs. GoesNames all w z zs r) j (a.rest) g2) e h

  -- ---- a part

  pub long_part : {f : Form} {v : Bool × Expr} {ts rest : List Token} → IsPart all f v ts rest → Longest (IsPart all f) v ts rest
  long_part d = only d (λ y after f. meet_part all d f)

  pub names_here : {n : ℕ} {y : Expr} (ts : List Token) {us rest : List Token} → name_of (kind_of ts) ≡ Some n → Longest (GoesNames all (expr.Atom (place_of ts) (atom.Name n))) y (drop 1 ts) us → EatsEnd us rest
      → Longest (IsPart all form.Path) (false, y) ts rest
  names_here ts p l e = long_part (names (as_here ts refl p) l.is e)

  pub no_lazy_expr : {ts us : List Token} → Eats symbol.Arrow ts us → Nothing (IsExpr all) us → Nothing (IsPart all form.Braces) ts
  no_lazy_expr p f y after (eager d e) = let a = expr_spread all d in let b = ap spread_class (kind_eaten p) in omega arith
  no_lazy_expr p f y after (lazy {x = x} {vs = vs} q d e) = f x vs (along (λ zs. IsExpr all x zs vs) (same_rest p q) d)

  pub no_lazy_end : {x : Expr} {ts us vs : List Token} → Eats symbol.Arrow ts us → Longest (IsExpr all) x us vs → ((ws : List Token) → EatsEnd vs ws → ⊥) → Nothing (IsPart all form.Braces) ts
  no_lazy_end p l f y after (eager d e) = let a = expr_spread all d in let b = ap spread_class (kind_eaten p) in omega arith
  no_lazy_end p l f y after (lazy {x = x} {vs = vs} q d e) =
      let a = ended_there all l (along (λ zs. IsExpr all x zs vs) (same_rest p q) d) (at_end e) in f after (along (λ zs. EatsEnd zs after) a.rest e)

  pub no_eager_expr : {ts : List Token} → ((us : List Token) → Eats symbol.Arrow ts us → ⊥) → Nothing (IsExpr all) ts → Nothing (IsPart all form.Braces) ts
  no_eager_expr p f y after (eager d e) = f _ _ d
  no_eager_expr p f y after (lazy q d e) = p _ q

  pub no_eager_end : {x : Expr} {ts us : List Token} → ((us : List Token) → Eats symbol.Arrow ts us → ⊥) → Longest (IsExpr all) x ts us → ((vs : List Token) → EatsEnd us vs → ⊥) → Nothing (IsPart all form.Braces) ts
  no_eager_end p l f y after (eager d e) = let a = ended_there all l d (at_end e) in f after (along (λ zs. EatsEnd zs after) a.rest e)
  no_eager_end p l f y after (lazy q d e) = p _ q

  pub no_names : {ts : List Token} → name_of (kind_of ts) ≡ None → Nothing (IsPart all form.Path) ts
  no_names p y after (names n g e) = let a = meant n in cc

  pub no_names_end : {n : ℕ} {y : Expr} {ts us : List Token} → name_of (kind_of ts) ≡ Some n → Longest (GoesNames all (expr.Atom (place_of ts) (atom.Name n))) y (drop 1 ts) us
      → ((vs : List Token) → EatsEnd us vs → ⊥) → Nothing (IsPart all form.Path) ts
  no_names_end {n = n} {ts = ts} p l f y after (names {y = z} {n = m} {us = vs} {vs = ws} q g e) =
      let a = meant q in
      let i : n ≡ m = cc in
      let d = along2 (λ w zs. GoesNames all w z zs ws) (ap (λ w. expr.Atom (place_of ts) (atom.Name w)) i) (sym (as_rest q)) g in
      f after (along (λ zs. EatsEnd zs after) (names_there l.is d e (l.longest z ws d)) e)

  -- ---- parts

  pub last_part_here : {f : Form} {v : Bool × Expr} {n : ℕ} {ts us : List Token} → IsPart all f v ts us → kind_of us ≡ kind.Text piece.Tail n → AreParts all f (part_of v n ∷ []) ts (drop 1 us)
  last_part_here {us = us} d p = last_part d (piece_here us p)

  pub more_parts_here : {f g : Form} {v : Bool × Expr} {n : ℕ} {ps : List Part} {ts us rest : List Token} → IsPart all f v ts us → kind_of us ≡ kind.Text (piece.Middle g) n → AreParts all g ps (drop 1 us) rest
      → AreParts all f (part_of v n ∷ ps) ts rest
  more_parts_here {us = us} d p g = more_parts d (piece_here us p) g

  pub no_part : {f : Form} {ts : List Token} → Nothing (IsPart all f) ts → Nothing (AreParts all f) ts
  no_part h y after (last_part d p) = h _ _ d
  no_part h y after (more_parts d p g) = h _ _ d

  pub no_piece : {f : Form} {v : Bool × Expr} {ts us : List Token} → IsPart all f v ts us → ((n : ℕ) → kind_of us ≢ kind.Text piece.Tail n) → ((g : Form) (n : ℕ) → kind_of us ≢ kind.Text (piece.Middle g) n)
      → Nothing (AreParts all f) ts
  no_piece d h i y after (last_part {n = n} d2 p) = h n (along (λ zs. kind_of zs ≡ kind.Text piece.Tail n) ((meet_part all d d2).rest) (piece_eaten p))
  no_piece d h i y after (more_parts {g = g} {n = n} d2 p k) = i g n (along (λ zs. kind_of zs ≡ kind.Text (piece.Middle g) n) ((meet_part all d d2).rest) (piece_eaten p))

  pub no_more_parts : {f g : Form} {v : Bool × Expr} {n : ℕ} {ts us : List Token} → IsPart all f v ts us → kind_of us ≡ kind.Text (piece.Middle g) n → Nothing (AreParts all g) (drop 1 us) → Nothing (AreParts all f) ts
  no_more_parts {us = us} d p h y after (last_part {n = m} d2 q) =
      let a = along (λ zs. kind_of zs ≡ kind.Text piece.Tail m) ((meet_part all d d2).rest) (piece_eaten q) in cc
  no_more_parts {g = g} {us = us} d p h y after (more_parts {g = g2} {n = m} {ps = ps} {vs = vs} d2 q k) =
      let s = piece_same (piece_here us p) (along (λ zs. EatsPiece (piece.Middle g2) m zs vs) ((meet_part all d d2).rest) q) in
      let i = s.piece in
      let j : g ≡ g2 = cc in
      h ps after (along2 (λ w zs. AreParts all w ps zs after) j s.rest k)

  -- parts from here complete those so far
  module _ {f g : Form} (qs : List Part) {start here : List Token} (sound : (ps : List Part) (rest : List Token) → AreParts all g ps here rest → AreParts all f (qs ++ ps) start rest) where
    pub parts_more : {h : Form} {v : Bool × Expr} {n : ℕ} {us : List Token} → IsPart all g v here us → kind_of us ≡ kind.Text (piece.Middle h) n
        → (ps : List Part) (rest : List Token) → AreParts all h ps (drop 1 us) rest → AreParts all f ((qs ++ (part_of v n ∷ [])) ++ ps) start rest
    parts_more {v = v} {n = n} d p ps rest k = rw append_assoc (sound (part_of v n ∷ ps) rest (more_parts_here d p k))

    pub parts_end : {v : Bool × Expr} {n : ℕ} {us : List Token} → IsPart all g v here us → kind_of us ≡ kind.Text piece.Tail n → AreParts all f (qs ++ (part_of v n ∷ [])) start (drop 1 us)
    parts_end {v = v} {n = n} d p = sound (part_of v n ∷ []) _ (last_part_here d p)

  -- ---- strings

  pub long_gstring : {g : GString} {ts rest : List Token} → IsGString all g ts rest → Longest (IsGString all) g ts rest
  long_gstring d = only d (λ y after f. meet_gstring all d f)

  pub gstring_here : {f : Form} {n : ℕ} {ps : List Part} (ts : List Token) {rest : List Token} → kind_of ts ≡ kind.Text (piece.Head f) n → AreParts all f ps (drop 1 ts) rest → Longest (IsGString all) (gstring_of n ps) ts rest
  gstring_here ts p d = long_gstring (gstring (piece_here ts p) d)

  pub no_head : {ts : List Token} → ((f : Form) (n : ℕ) → kind_of ts ≢ kind.Text (piece.Head f) n) → Nothing (IsGString all) ts
  no_head h y after d = let a = gstring_first all d in h a.0 a.1 a.2

  pub no_parts : {f : Form} {n : ℕ} {ts : List Token} → kind_of ts ≡ kind.Text (piece.Head f) n → Nothing (AreParts all f) (drop 1 ts) → Nothing (IsGString all) ts
  no_parts {f = f} {ts = ts} p h y after (gstring {n = m} {f = g} {ps = ps} {us = us} q d) =
      let s = piece_same (piece_here ts p) q in
      let i = s.piece in
      let j : f ≡ g = cc in
      h ps after (along2 (λ w zs. AreParts all w ps zs after) j s.rest d)
