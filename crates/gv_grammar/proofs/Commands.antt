-- A full expression is read in one way.
use Rattle.std.proofs.Common.{◌≡◌, ◌≢◌, ℕ, ◌<◌, ◌≤◌, true, false, List, [], ◌∷◌, length, refl, sym, ap, subst, arith, Some, None, ◌∙◌}
use Rattle.gv_spelling.specs.declared.kinds.Keyword.{Keyword}
use Rattle.gv_spelling.specs.declared.kinds.Keyword.TheVariants as keyword
use Rattle.gv_spelling.specs.declared.kinds.Symbol.TheVariants as symbol
use Rattle.gv_lex.specs.declared.token.Token.{Token}
use Rattle.gv_lex.specs.declared.token.TokenKind.{TokenKind}
use Rattle.gv_lex.specs.declared.token.TokenKind.TheVariants as kind
use Rattle.gv_lex.specs.declared.token.Word.TheVariants as word
use Rattle.gv_tree.specs.declared.expr.Arg.{Arg}
use Rattle.gv_tree.specs.declared.expr.Arg.TheVariants as arg
use Rattle.gv_tree.specs.declared.expr.Arg.TheOpen.{Expr-F}
use Rattle.gv_tree.specs.declared.expr.Expr.{Expr, out-Expr}
use Rattle.gv_tree.specs.declared.expr.Expr.TheVariants as expr
use Rattle.gv_tree.specs.declared.ops.AssignOp.{AssignOp}
use Rattle.gv_grammar.specs.Tokens.{Eats, kind_of, place_of, name_of, assign_of, reach, begins_arguments, keyword_begins_arguments, begins_call}
use Rattle.gv_grammar.specs.Phrases.{Takes}
use Rattle.gv_grammar.specs.Meeting.{Meet, one, first_goes_on, second_goes_on, Level, Goes, Same, CondGoes}
use Rattle.gv_grammar.specs.Exprs.{Layer, is_target, an_expr, expr_ends, IsCond, a_cond, cond_ends, IsPath, no_prefix, IsSuffix}
use Rattle.gv_grammar.specs.Commands.{name_layer, call_layer, ends_in_name, ends_in_call, property, IsCommandArg, plain_carg, keyed_carg, AreCommandArgs, last_carg, more_cargs, IsLink, link_args, link_call, IsProperty, last_name, GoesCommand, command_ends, command_link, command_name, IsCommand, with_args, with_link, with_name, IsFull, full_cond, full_assign, full_command}
use Rattle.gv_grammar.proofs.Lengths.{takes_none, takes_one, then, weaken, less, no_more, of_eats, of_as, of_cond, of_key, of_suffix, of_path}
use Rattle.gv_grammar.proofs.Single.{ap2, ap3, along, along2, eaten_same, kind_eaten, meant, as_same}
use Rattle.gv_grammar.proofs.Tails.{reach_assign, Stops, at_comma, raised}
use Rattle.gv_grammar.proofs.Meets.{under, joins, meet_cond, meet_path, meet_suffix, meet_key, key_or_expr}

-- ---- tokens

pub keyword_stops : (k : Keyword) (n : ℕ) → keyword_begins_arguments k ≡ true → reach (kind.Word (word.Keyword k) n) ≡ 13
keyword_stops keyword.This n p = refl
keyword_stops keyword.Super n p = refl
keyword_stops keyword.Null n p = refl
keyword_stops keyword.True n p = refl
keyword_stops keyword.False n p = refl
keyword_stops keyword.New n p = refl
keyword_stops k n p = cc

-- no expression goes on with the first token of arguments
pub arguments_stop : (c : TokenKind) → begins_arguments c ≡ true → reach c ≡ 13
arguments_stop (kind.Word word.Name n) p = refl
arguments_stop (kind.Word word.TypeName n) p = refl
arguments_stop (kind.Word (word.Keyword k) n) p = keyword_stops k n p
arguments_stop (kind.Int z) p = refl
arguments_stop (kind.Long z) p = refl
arguments_stop (kind.Text q n) p = refl
arguments_stop (kind.Symbol symbol.Not) p = refl
arguments_stop other p = cc

pub name_stops : (c : TokenKind) {n : ℕ} → name_of c ≡ Some n → reach c ≡ 13
name_stops (kind.Word word.Name n) p = refl
name_stops (kind.Word word.TypeName n) p = refl
name_stops other p = cc

pub name_begins : (c : TokenKind) {n : ℕ} → name_of c ≡ Some n → begins_arguments c ≡ true
name_begins (kind.Word word.Name n) p = refl
name_begins (kind.Word word.TypeName n) p = refl
name_begins other p = cc

pub arguments_or_call : (c : TokenKind) → begins_arguments c ≡ true → begins_call c ≡ true → ⊥
arguments_or_call (kind.Symbol symbol.LeftParen) p q = cc
arguments_or_call (kind.Symbol symbol.LeftBrace) p q = cc
arguments_or_call other p q = cc

pub name_or_call : (l : Layer) → name_layer l ≡ true → call_layer l ≡ true → ⊥
name_or_call (Expr-F.Call p x args) h i = cc
name_or_call other h i = cc

-- no path ends in both
pub path_end : (x : Expr) → ends_in_name x ≡ true → ends_in_call x ≡ true → ⊥
unfolding ends_in_name ends_in_call
path_end x p q = name_or_call (out-Expr x) p q

-- ---- meetings

abbrev Onward : {A : Type 0} → A → List Token → Type 0
Onward x ts = Goes 12 ts

-- neither reading can go on
pub settled : {A : Type 0} {P : A → List Token → Type 0} {x y : A} {ts us : List Token} → (P x ts → ⊥) → (P y us → ⊥) → Meet P x ts y us → Same x ts y us
settled f g (one p q) = record { tree = p; rest = q }
settled f g (first_goes_on p q) = absurd (g p)
settled f g (second_goes_on p q) = absurd (f p)

pub stays : {n : ℕ} {ts : List Token} → n ≤ 12 → Stops ts → Goes n ts → ⊥
stays h p g = let a = g.by in omega arith

pub stays_before : {n : ℕ} {ts : List Token} → n ≤ 12 → begins_arguments (kind_of ts) ≡ true → Goes n ts → ⊥
stays_before {ts = ts} h p g = let a = g.by in let b = arguments_stop (kind_of ts) p in omega arith

module _ (all : ℕ) where
  -- ---- each takes tokens

  pub of_carg : {a : Arg} {ts rest : List Token} → IsCommandArg all a ts rest → Takes 1 ts rest
  of_carg (plain_carg d n) = of_cond all d
  of_carg (keyed_carg k c d) = then (of_key all k) (then (of_eats c) (of_cond all d))

  pub of_cargs : {args : List Arg} {ts rest : List Token} → AreCommandArgs all args ts rest → Takes 1 ts rest
  of_cargs (last_carg d n) = of_carg d
  of_cargs (more_cargs d c g) = then (of_carg d) (then (of_eats c) (of_cargs g))

  pub of_link : {x y : Expr} {ts rest : List Token} → IsLink all x y ts rest → Takes 1 ts rest
  of_link (link_args p b d) = then (of_as p) (of_cargs d)
  of_link (link_call p b s) = then (of_as p) (of_suffix all s)

  pub of_property : {x y : Expr} {ts rest : List Token} → IsProperty all x y ts rest → Takes 1 ts rest
  of_property (last_name p f g) = of_as p

  pub of_goes_command : {x y : Expr} {ts rest : List Token} → GoesCommand all x y ts rest → Takes 0 ts rest
  of_goes_command (command_ends f) = takes_none
  of_goes_command (command_link l g) = weaken (then (of_link l) (of_goes_command g))
  of_goes_command (command_name p) = weaken (of_property p)

  pub of_command : {x : Expr} {ts rest : List Token} → IsCommand all x ts rest → Takes 1 ts rest
  of_command (with_args d e b c g) = then (of_path all d) (then (of_cargs c) (of_goes_command g))
  of_command (with_link d e l g) = then (of_path all d) (then (of_link l) (of_goes_command g))
  of_command (with_name d e p) = then (of_path all d) (of_property p)

  pub of_full : {x : Expr} {ts rest : List Token} → IsFull all x ts rest → Takes 1 ts rest
  of_full (full_cond d n) = of_cond all d
  of_full (full_assign d p q f) = then (of_cond all d) (then takes_one (of_full f))
  of_full (full_command d) = of_command d

  -- ---- arguments

  pub meet_carg : {a b : Arg} {ts us vs : List Token} → IsCommandArg all a ts us → IsCommandArg all b ts vs → Meet Onward a us b vs
  meet_carg (plain_carg d n) (plain_carg d2 n2) =
      under (λ i. record { by = i.within }) (λ i. record { by = i.within }) (λ r. ap arg.Plain r) (meet_cond all d d2)
  meet_carg (plain_carg d n) (keyed_carg k c d2) = absurd (key_or_expr all k c (an_expr d expr_ends) n)
  meet_carg (keyed_carg k c d) (plain_carg d2 n) = absurd (key_or_expr all k c (an_expr d2 expr_ends) n)
  meet_carg (keyed_carg k c d) (keyed_carg {x = y} {rest = r} k2 c2 d2) =
      let a = meet_key all k k2 in
      under (λ i. record { by = i.within }) (λ i. record { by = i.within }) (λ r. ap2 arg.Keyed (a.tree) r)
      (meet_cond all d (along (λ zs. IsCond all y zs r) (eaten_same (a.rest) c c2) d2))

  -- the first reading ends before no comma, and the second goes on behind one
  pub last_or_more : {a b : Arg} {xs ys : List Arg} {us vs ws rest : List Token} → Meet Onward a us b vs → kind_of us ≢ kind.Symbol symbol.Comma → Eats symbol.Comma vs ws → length rest < length ws
      → Meet Onward xs us ys rest
  last_or_more (one p q) n c h = absurd (n (ap kind_of q ∙ kind_eaten c))
  last_or_more (first_goes_on p q) n c h = absurd (stays (omega arith) (at_comma c) p)
  last_or_more (second_goes_on p q) n c h = let a = less (of_eats c) in second_goes_on p (omega arith)

  pub more_or_last : {a b : Arg} {xs ys : List Arg} {us vs ws rest : List Token} → Meet Onward b vs a us → kind_of us ≢ kind.Symbol symbol.Comma → Eats symbol.Comma vs ws → length rest < length ws
      → Meet Onward ys rest xs us
  more_or_last (one p q) n c h = absurd (n (ap kind_of (sym q) ∙ kind_eaten c))
  more_or_last (first_goes_on p q) n c h = let a = less (of_eats c) in first_goes_on p (omega arith)
  more_or_last (second_goes_on p q) n c h = absurd (stays (omega arith) (at_comma c) p)

  pub meet_cargs : {xs ys : List Arg} {ts us vs : List Token} → AreCommandArgs all xs ts us → AreCommandArgs all ys ts vs → Meet Onward xs us ys vs
  meet_cargs (last_carg d n) (last_carg d2 n2) = under (λ i. i) (λ i. i) (λ r. ap (λ w. w ∷ []) r) (meet_carg d d2)
  meet_cargs (last_carg d n) (more_cargs d2 c2 g2) = last_or_more (meet_carg d d2) n c2 (less (of_cargs g2))
  meet_cargs (more_cargs d c g) (last_carg d2 n2) = more_or_last (meet_carg d d2) n2 c (less (of_cargs g))
  meet_cargs (more_cargs d c g) (more_cargs {args = bs} {rest = r} d2 c2 g2) =
      let a = settled (stays (omega arith) (at_comma c)) (stays (omega arith) (at_comma c2)) (meet_carg d d2) in
      under (λ i. i) (λ i. i) (λ r. ap2 (λ w v. w ∷ v) (a.tree) r) (meet_cargs g (along (λ zs. AreCommandArgs all bs zs r) (eaten_same (a.rest) c c2) g2))

  -- ---- links

  pub meet_link : {x y z : Expr} {ts us vs : List Token} → IsLink all x y ts us → IsLink all x z ts vs → Meet (Level 12) y us z vs
  meet_link {x = x} {ts = ts} (link_args p b d) (link_args {args = bs} {rest = r} p2 b2 d2) =
      let a = as_same p p2 in
      under (λ i. i) (λ i. i) (λ r. ap3 (λ n zs w. expr.Call (place_of zs) (property x ts n) w) (a.tree) (a.rest) r) (meet_cargs d (along (λ zs. AreCommandArgs all bs zs r) (a.rest) d2))
  meet_link {x = x} {ts = ts} (link_call p b s) (link_call {y = z} {rest = r} p2 b2 s2) =
      let a = as_same p p2 in
      let c = meet_suffix all s (along2 (λ n zs. IsSuffix all (property x ts n) z zs r) (a.tree) (a.rest) s2) in
      one (c.tree) (c.rest)
  meet_link (link_args p b d) (link_call p2 b2 s) =
      let a = as_same p p2 in absurd (arguments_or_call _ b (along (λ zs. begins_call (kind_of zs) ≡ true) (a.rest) b2))
  meet_link (link_call p b s) (link_args p2 b2 d) =
      let a = as_same p p2 in absurd (arguments_or_call _ (along (λ zs. begins_arguments (kind_of zs) ≡ true) (a.rest) b2) b)

  pub record Named (ts : List Token) : Type 0 where
    pub name : ℕ
    pub named : name_of (kind_of ts) ≡ Some name

  pub link_named : {x y : Expr} {ts rest : List Token} → IsLink all x y ts rest → Named ts
  link_named (link_args p b d) = record { name = _; named = meant p }
  link_named (link_call p b s) = record { name = _; named = meant p }

  pub property_named : {x y : Expr} {ts rest : List Token} → IsProperty all x y ts rest → Named ts
  property_named (last_name p f g) = record { name = _; named = meant p }

  pub unnamed : {ts : List Token} → name_of (kind_of ts) ≡ None → Named ts → ⊥
  unnamed p n = let a = n.named in cc

  pub link_or_property : {x y z : Expr} {ts us vs : List Token} → IsLink all x y ts us → IsProperty all x z ts vs → ⊥
  link_or_property (link_args p b d) (last_name p2 f g) =
      let a = as_same p p2 in let h = ap (λ zs. begins_arguments (kind_of zs)) (a.rest) in cc
  link_or_property (link_call p b s) (last_name p2 f g) =
      let a = as_same p p2 in let h = ap (λ zs. begins_call (kind_of zs)) (a.rest) in cc

  pub meet_property : {x y z : Expr} {ts us vs : List Token} → IsProperty all x y ts us → IsProperty all x z ts vs → Same y us z vs
  meet_property {x = x} {ts = ts} (last_name p f g) (last_name p2 f2 g2) = let a = as_same p p2 in record { tree = ap (property x ts) (a.tree); rest = a.rest }

  pub command_stops : {x y : Expr} {us rest : List Token} → GoesCommand all x y us rest → Goes 12 us → (rest ≡ us) × Goes 12 us
  command_stops (command_ends f) g = (refl, g)
  command_stops {us = us} (command_link l h) g = let n = link_named l in let a = name_stops (kind_of us) n.named in let b = g.by in absurd (omega arith)
  command_stops {us = us} (command_name p) g = let n = property_named p in let a = name_stops (kind_of us) n.named in let b = g.by in absurd (omega arith)

  pub meet_goes_command : {x y z : Expr} {ts us vs : List Token} → GoesCommand all x y ts us → GoesCommand all x z ts vs → Meet (Level 12) y us z vs
  meet_goes_command (command_ends f) (command_ends f2) = one refl refl
  meet_goes_command (command_ends f) (command_link l g) = absurd (unnamed f (link_named l))
  meet_goes_command (command_ends f) (command_name p) = absurd (unnamed f (property_named p))
  meet_goes_command (command_link l g) (command_ends f) = absurd (unnamed f (link_named l))
  meet_goes_command (command_name p) (command_ends f) = absurd (unnamed f (property_named p))
  meet_goes_command (command_link l g) (command_name p) = absurd (link_or_property l p)
  meet_goes_command (command_name p) (command_link l g) = absurd (link_or_property l p)
  meet_goes_command (command_name p) (command_name p2) = let a = meet_property p p2 in one (a.tree) (a.rest)
  meet_goes_command (command_link l g) (command_link {z = z} {rest = r} l2 g2) =
      joins (meet_link l l2) (λ p q. meet_goes_command g (along2 (λ w zs. GoesCommand all w z zs r) p q g2))
      (command_stops g) (command_stops g2) (no_more (of_goes_command g)) (no_more (of_goes_command g2))

  -- ---- commands

  -- the path with which a command begins, and that something follows it
  pub record Called (ts rest : List Token) : Type 0 where
    pub path : Expr
    pub behind : List Token
    pub is_path : IsPath all path ts behind
    pub follows : begins_arguments (kind_of behind) ≡ true
    pub within : length rest ≤ length behind

  pub called : {x : Expr} {ts rest : List Token} → IsCommand all x ts rest → Called ts rest
  called (with_args d e b c g) =
      let p = no_more (of_cargs c) in let q = no_more (of_goes_command g) in record { path = _; behind = _; is_path = d; follows = b; within = omega arith }
  called (with_link d e l g) =
      let n = link_named l in let p = no_more (of_link l) in let q = no_more (of_goes_command g) in
      record { path = _; behind = _; is_path = d; follows = name_begins _ n.named; within = omega arith }
  called (with_name d e p) =
      let n = property_named p in let q = no_more (of_property p) in record { path = _; behind = _; is_path = d; follows = name_begins _ n.named; within = q }

  pub path_once : {x y : Expr} {ts us vs : List Token} → IsPath all x ts us → IsPath all y ts vs → begins_arguments (kind_of us) ≡ true → begins_arguments (kind_of vs) ≡ true → Same x us y vs
  path_once d d2 p q = settled (stays_before (omega arith) p) (stays_before (omega arith) q) (meet_path all d d2)

  pub meet_command : {x y : Expr} {ts us vs : List Token} → IsCommand all x ts us → IsCommand all y ts vs → Meet (Level 12) x us y vs
  meet_command (with_args d e b c g) (with_args {y = y} {args = bs} {vs = vs} {rest = r} d2 e2 b2 c2 g2) =
      let a = path_once d d2 b b2 in
      joins (meet_cargs c (along (λ zs. AreCommandArgs all bs zs vs) (a.rest) c2))
      (λ p q. meet_goes_command g (along2 (λ w zs. GoesCommand all w y zs r) (ap3 (λ zs w v. expr.Call (place_of zs) w v) (a.rest) (a.tree) p) q g2))
      (command_stops g) (command_stops g2) (no_more (of_goes_command g)) (no_more (of_goes_command g2))
  meet_command (with_link d e l g) (with_link {y = y} {z = z} {vs = vs} {rest = r} d2 e2 l2 g2) =
      let n = link_named l in
      let n2 = link_named l2 in
      let a = path_once d d2 (name_begins _ n.named) (name_begins _ n2.named) in
      joins (meet_link l (along2 (λ w zs. IsLink all w y zs vs) (a.tree) (a.rest) l2)) (λ p q. meet_goes_command g (along2 (λ w zs. GoesCommand all w z zs r) p q g2))
      (command_stops g) (command_stops g2) (no_more (of_goes_command g)) (no_more (of_goes_command g2))
  meet_command (with_name d e p) (with_name {y = y} {rest = r} d2 e2 p2) =
      let n = property_named p in
      let n2 = property_named p2 in
      let a = path_once d d2 (name_begins _ n.named) (name_begins _ n2.named) in
      let b = meet_property p (along2 (λ w zs. IsProperty all w y zs r) (a.tree) (a.rest) p2) in
      one (b.tree) (b.rest)
  meet_command (with_args d e b c g) (with_link d2 e2 l g2) =
      let n = link_named l in let a = path_once d d2 b (name_begins _ n.named) in absurd (path_end _ e (subst (λ w. ends_in_call w ≡ true) (sym (a.tree)) e2))
  meet_command (with_args d e b c g) (with_name d2 e2 p) =
      let n = property_named p in let a = path_once d d2 b (name_begins _ n.named) in absurd (path_end _ e (subst (λ w. ends_in_call w ≡ true) (sym (a.tree)) e2))
  meet_command (with_link d e l g) (with_args d2 e2 b c g2) =
      let n = link_named l in let a = path_once d d2 (name_begins _ n.named) b in absurd (path_end _ (subst (λ w. ends_in_name w ≡ true) (sym (a.tree)) e2) e)
  meet_command (with_name d e p) (with_args d2 e2 b c g2) =
      let n = property_named p in let a = path_once d d2 (name_begins _ n.named) b in absurd (path_end _ (subst (λ w. ends_in_name w ≡ true) (sym (a.tree)) e2) e)
  meet_command (with_link d e l g) (with_name {y = y} {rest = r} d2 e2 p) =
      let n = link_named l in
      let n2 = property_named p in
      let a = path_once d d2 (name_begins _ n.named) (name_begins _ n2.named) in
      absurd (link_or_property l (along2 (λ w zs. IsProperty all w y zs r) (a.tree) (a.rest) p))
  meet_command (with_name d e p) (with_link {y = y} {vs = vs} d2 e2 l g) =
      let n = link_named l in
      let n2 = property_named p in
      let a = path_once d d2 (name_begins _ n2.named) (name_begins _ n.named) in
      absurd (link_or_property (along2 (λ w zs. IsLink all w y zs vs) (a.tree) (a.rest) l) p)

  -- ---- full expressions

  pub path_cond : {x : Expr} {ts rest : List Token} → IsPath all x ts rest → IsCond all x ts rest
  path_cond d = a_cond (raised all 10 (no_prefix d)) cond_ends

  pub ends_called : {x : Expr} {ts : List Token} → begins_arguments (kind_of ts) ≡ true → CondGoes x ts → ⊥
  ends_called {ts = ts} p g = let a = g.within in let b = arguments_stop (kind_of ts) p in omega arith

  -- a target before an assignment doesn't go on otherwise
  pub ends_assigned : {x : Expr} {t : Token} {ts : List Token} {op : AssignOp} → assign_of t.kind ≡ Some op → is_target x ≡ true → CondGoes x (t ∷ ts) → ⊥
  ends_assigned {t = t} p q g = let a = g.target q in let b = reach_assign t.kind p in omega arith

  pub cond_or_assign : {x y v w : Expr} {t : Token} {op : AssignOp} {us vs rest : List Token} → Meet CondGoes x us y (t ∷ vs) → assign_of t.kind ≡ Some op → is_target y ≡ true → length rest ≤ length vs
      → Meet (Level 12) v us w rest
  cond_or_assign {t = t} (one p q) a b h =
      let e = reach_assign t.kind a in let f = ap (λ zs. reach (kind_of zs)) q in let g = ap length q in second_goes_on (record { by = omega arith }) (omega arith)
  cond_or_assign (first_goes_on p q) a b h = absurd (ends_assigned a b p)
  cond_or_assign (second_goes_on p q) a b h = second_goes_on (record { by = p.within }) (omega arith)

  pub assign_or_cond : {x y v w : Expr} {t : Token} {op : AssignOp} {us vs rest : List Token} → Meet CondGoes y (t ∷ vs) x us → assign_of t.kind ≡ Some op → is_target y ≡ true → length rest ≤ length vs
      → Meet (Level 12) w rest v us
  assign_or_cond {t = t} (one p q) a b h =
      let e = reach_assign t.kind a in let f = ap (λ zs. reach (kind_of zs)) q in let g = ap length q in first_goes_on (record { by = omega arith }) (omega arith)
  assign_or_cond (second_goes_on p q) a b h = absurd (ends_assigned a b p)
  assign_or_cond (first_goes_on p q) a b h = first_goes_on (record { by = p.within }) (omega arith)

  pub cond_or_command : {x y v w : Expr} {us vs rest : List Token} → Meet CondGoes x us y vs → begins_arguments (kind_of us) ≡ false → begins_arguments (kind_of vs) ≡ true → length rest ≤ length vs
      → Meet (Level 12) v us w rest
  cond_or_command (one p q) a b h = let e = ap (λ zs. begins_arguments (kind_of zs)) q in cc
  cond_or_command (first_goes_on p q) a b h = absurd (ends_called b p)
  cond_or_command (second_goes_on p q) a b h = second_goes_on (record { by = p.within }) (omega arith)

  pub command_or_cond : {x y v w : Expr} {us vs rest : List Token} → Meet CondGoes y vs x us → begins_arguments (kind_of us) ≡ false → begins_arguments (kind_of vs) ≡ true → length rest ≤ length vs
      → Meet (Level 12) w rest v us
  command_or_cond (one p q) a b h = let e = ap (λ zs. begins_arguments (kind_of zs)) q in cc
  command_or_cond (second_goes_on p q) a b h = absurd (ends_called b p)
  command_or_cond (first_goes_on p q) a b h = first_goes_on (record { by = p.within }) (omega arith)

  pub assign_or_command : {x y : Expr} {t : Token} {op : AssignOp} {us vs : List Token} → Meet CondGoes x (t ∷ us) y vs → assign_of t.kind ≡ Some op → is_target x ≡ true → begins_arguments (kind_of vs) ≡ true → ⊥
  assign_or_command {t = t} {vs = vs} (one p q) a b c =
      let e = reach_assign t.kind a in let f = ap (λ zs. reach (kind_of zs)) q in let g = arguments_stop (kind_of vs) c in omega arith
  assign_or_command (first_goes_on p q) a b c = ends_called c p
  assign_or_command (second_goes_on p q) a b c = ends_assigned a b p

  pub meet_full : {x y : Expr} {ts us vs : List Token} → IsFull all x ts us → IsFull all y ts vs → Meet (Level 12) x us y vs
  meet_full (full_cond d n) (full_cond d2 n2) = under (λ i. record { by = i.within }) (λ i. record { by = i.within }) (λ r. r) (meet_cond all d d2)
  meet_full (full_cond d n) (full_assign d2 p q f) = cond_or_assign (meet_cond all d d2) p q (no_more (of_full f))
  meet_full (full_assign d p q f) (full_cond d2 n2) = assign_or_cond (meet_cond all d d2) p q (no_more (of_full f))
  meet_full (full_assign {y = y} {t = t} {op = o} {us = us} d p q f) (full_assign {x = x2} {y = y2} {t = t2} {op = o2} {us = us2} {rest = r2} d2 p2 q2 f2) =
      let a = settled (ends_assigned p q) (ends_assigned p2 q2) (meet_cond all d d2) in
      let b = a.tree in
      let c = a.rest in
      let g : t ≡ t2 = cc in
      let h : us ≡ us2 = cc in
      let i : o ≡ o2 = cc in
      under (λ i. i) (λ i. i) (λ r. ap3 (λ w v u. expr.Assign (place_of w) v u y) c i b ∙ ap (expr.Assign t2.place o2 x2) r)
      (meet_full f (along (λ zs. IsFull all y2 zs r2) h f2))
  meet_full (full_command c) (full_command c2) = meet_command c c2
  meet_full (full_cond d n) (full_command c) = let h = called c in cond_or_command (meet_cond all d (path_cond h.is_path)) n h.follows h.within
  meet_full (full_command c) (full_cond d n) = let h = called c in command_or_cond (meet_cond all (path_cond h.is_path) d) n h.follows h.within
  meet_full (full_assign d p q f) (full_command c) = let h = called c in absurd (assign_or_command (meet_cond all d (path_cond h.is_path)) p q h.follows)
  meet_full (full_command c) (full_assign d p q f) = let h = called c in absurd (assign_or_command (meet_cond all d (path_cond h.is_path)) p q h.follows)

  -- two readings of which both end where no expression goes on
  pub full_once : {x y : Expr} {ts us vs : List Token} → IsFull all x ts us → IsFull all y ts vs → Stops us → Stops vs → Same x us y vs
  full_once d d2 p q = settled (stays (omega arith) p) (stays (omega arith) q) (meet_full d d2)
