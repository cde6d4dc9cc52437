-- What ends before a token with which no expression goes on is read in one way; full expressions and commands, step by step.
use Rattle.std.proofs.Common.{◌≡◌, ◌≢◌, ℕ, ◌<◌, ◌≤◌, Bool, true, false, List, [], ◌∷◌, length, drop, refl, sym, ap, subst, arith, Option, Some, None, Result, Ok, Err, MatchBool, ◌⊎◌, inl, inr, ◌∙◌}
use Rattle.std.specs.Option.{is_some}
use Rattle.std.specs.Result.{IsErrAnd}
use Rattle.gv_base.specs.declared.refusal.Place.{Place}
use Rattle.gv_spelling.specs.declared.kinds.Symbol.TheVariants as symbol
use Rattle.gv_lex.specs.declared.token.Token.{Token}
use Rattle.gv_lex.specs.declared.token.TokenKind.{TokenKind}
use Rattle.gv_lex.specs.declared.token.TokenKind.TheVariants as kind
use Rattle.gv_tree.specs.declared.expr.Arg.{Arg}
use Rattle.gv_tree.specs.declared.expr.Arg.TheVariants as arg
use Rattle.gv_tree.specs.declared.expr.Expr.{Expr}
use Rattle.gv_tree.specs.declared.expr.Expr.TheVariants as expr
use Rattle.gv_tree.specs.declared.expr.GString.{GString}
use Rattle.gv_tree.specs.declared.expr.Key.{Key}
use Rattle.gv_tree.specs.declared.expr.Key.TheVariants as key
use Rattle.gv_tree.specs.declared.expr.Label.TheVariants as label
use Rattle.gv_tree.specs.declared.ops.AssignOp.{AssignOp}
use Rattle.gv_grammar.specs.Tokens.{Eats, eats, EatsAs, kind_of, place_of, name_of, assign_of, reach, begins_arguments, begins_call}
use Rattle.gv_grammar.specs.Phrases.{Longest, Nothing}
use Rattle.gv_grammar.specs.Meeting.{Meet, one, first_goes_on, second_goes_on, Same, CondGoes, Level}
use Rattle.gv_grammar.specs.Exprs.{is_target, an_expr, expr_ends, IsCond, IsPath, a_path, path_ends, IsSuffix, key_gstring, IsGString, a_gstring}
use Rattle.gv_grammar.specs.Commands.{ends_in_name, ends_in_call, property, IsCommandArg, plain_carg, keyed_carg, AreCommandArgs, last_carg, more_cargs, link_args, link_call, last_name, GoesCommand, command_ends, command_link, command_name, IsCommand, with_args, with_link, with_name, IsFull, full_cond, full_assign, full_command}
use Rattle.gv_grammar.proofs.Lengths.{less, no_more, of_as, of_suffix}
use Rattle.gv_grammar.proofs.Single.{along, along2, eaten_same, kind_eaten, as_same}
use Rattle.gv_grammar.proofs.Longest.{symbol_eaten, as_here}
use Rattle.gv_grammar.proofs.Tails.{Stops, at_comma, reach_assign}
use Rattle.gv_grammar.proofs.Meets.{meet_cond, meet_path, meet_suffix, meet_key, key_or_expr}
use Rattle.gv_grammar.proofs.Commands.{arguments_stop, name_stops, name_begins, arguments_or_call, path_end, settled, stays, stays_before, of_carg, of_cargs, meet_carg, meet_cargs, path_once, link_named, property_named, path_cond, ends_assigned}
use Rattle.gv_cursor.specs.declared.error.ReadError.{ReadError}
use Rattle.gv_cursor.specs.declared.error.ReadError.TheVariants.{Refused, OutOfMemory}
use Rattle.gv_cursor.specs.Reading.{Fails, Exactly, Stopped, Extended}
use Rattle.gv_exprs.specs.Elements.{key_of}
use Rattle.gv_commands.specs.Heads.{IsCommandHead, before_arguments, before_name, FindsHead, GoesFrom, from_arguments, from_name}
use Rattle.gv_exprs.proofs.Element.{key_here, key_cases, gstring_of_cond}

-- ---- heads

pub begins_behind_head : {x : Expr} (k : TokenKind) → IsCommandHead x k → begins_arguments k ≡ true
begins_behind_head k (before_arguments p q) = q
begins_behind_head k (before_name p q) = name_begins k q

called_no_head : {x : Expr} {k : TokenKind} → ends_in_name x ≡ false → name_of k ≡ None → IsCommandHead x k → ⊥
called_no_head p q (before_arguments r s) = cc
called_no_head p q (before_name r s) = cc

pub call_head : (x : Expr) (k : TokenKind) (b : Bool) (o : Option ℕ) → ends_in_name x ≡ false → ends_in_call x ≡ true → o ≡ name_of k → b ≡ is_some o → MatchBool b (IsCommandHead x k) (IsCommandHead x k → ⊥)
call_head x k true (Some n) p q r s = before_name q (sym r)
call_head x k true None p q r s = cc
call_head x k false (Some n) p q r s = cc
call_head x k false None p q r s = called_no_head p (sym r)

-- ---- tokens

cond_stays : {x : Expr} {ts : List Token} → Stops ts → CondGoes x ts → ⊥
cond_stays h g = let a = g.within in absurd (omega arith)

colon_stops : (ts : List Token) → kind_of ts ≡ kind.Symbol symbol.Colon → Stops ts
colon_stops ts p = let e = ap reach p in omega arith

behind_colon : {us vs : List Token} → Eats symbol.Colon us vs → vs ≡ drop 1 us
behind_colon (eats p) = refl

-- a token that means something is passed
pub passed : {A : Type 0} {x : A} (of : TokenKind → Option A) (ts : List Token) → of kind.End ≡ None → of (kind_of ts) ≡ Some x → length (drop 1 ts) < length ts
passed of ts e p = less (of_as {of = of} (as_here ts e p))

module _ (all : ℕ) where
  -- a head that isn't read
  pub head_failed : (e : ReadError) (ts us rest after : List Token) (r : Result Expr ReadError) → IsErrAnd r (λ y. y ≡ e) → FindsHead all (Err e) ts us → Exactly (Stopped (IsFull all)) r rest after
  head_failed OutOfMemory ts us rest after (Ok x) h d = absurd h
  head_failed OutOfMemory ts us rest after (Err x) h d = subst (λ y. Fails (Stopped (IsFull all)) y rest) (sym h) tt
  head_failed Refused ts us rest after r h d = absurd d

  -- ---- one reading

  carg_once : {a b : Arg} {ts us vs : List Token} → IsCommandArg all a ts us → IsCommandArg all b ts vs → Stops us → Stops vs → Same a us b vs
  carg_once d e h i = settled (stays (omega arith) h) (stays (omega arith) i) (meet_carg all d e)

  cargs_once : {a b : List Arg} {ts us vs : List Token} → AreCommandArgs all a ts us → AreCommandArgs all b ts vs → Stops us → Stops vs → Same a us b vs
  cargs_once d e h i = settled (stays (omega arith) h) (stays (omega arith) i) (meet_cargs all d e)

  -- the longest condition, and another one that can't go on
  pub cond_there : {x y : Expr} {ts us vs : List Token} → Longest (IsCond all) x ts us → IsCond all y ts vs → (CondGoes y vs → ⊥) → Same x us y vs
  cond_there {x = x} {y = y} {ts = ts} {us = us} {vs = vs} l d h = go (meet_cond all (l.is) d)
    where
      go : Meet CondGoes x us y vs → Same x us y vs
      go (one p q) = record { tree = p; rest = q }
      go (first_goes_on p q) = absurd (h p)
      go (second_goes_on p q) = let a = l.longest y vs d in absurd (omega arith)

  pub cond_stopped : {x y : Expr} {ts us vs : List Token} → Longest (IsCond all) x ts us → IsCond all y ts vs → Stops vs → Same x us y vs
  cond_stopped l d h = cond_there l d (cond_stays h)

  goes_stops : {x y : Expr} {us rest : List Token} → GoesCommand all x y us rest → Stops rest → Stops us
  goes_stops (command_ends f) h = h
  goes_stops {us = us} (command_link l g) h = let n = link_named all l in let a = name_stops (kind_of us) n.named in omega arith
  goes_stops {us = us} (command_name p) h = let n = property_named all p in let a = name_stops (kind_of us) n.named in omega arith

  pub carg_shorter : {a : Arg} {ts rest : List Token} → Stopped (IsCommandArg all) a ts rest → length rest < length ts
  carg_shorter d = less (of_carg all (d.is))

  pub cargs_shorter : {args : List Arg} {ts rest : List Token} → Stopped (AreCommandArgs all) args ts rest → length rest < length ts
  cargs_shorter d = less (of_cargs all (d.is))

  -- ---- commands from their paths

  record From (y : Expr) (ts rest : List Token) : Type 0 where
    path : Expr
    behind : List Token
    is_path : IsPath all path ts behind
    head : IsCommandHead path (kind_of behind)
    goes : GoesFrom all path y behind rest

  command_from : {y : Expr} {ts rest : List Token} → IsCommand all y ts rest → From y ts rest
  command_from (with_args d e b c g) = record { path = _; behind = _; is_path = d; head = before_arguments e b; goes = from_arguments e b c g }
  command_from (with_link d e l g) = let n = link_named all l in record { path = _; behind = _; is_path = d; head = before_name e n.named; goes = from_name e n.named (command_link l g) }
  command_from (with_name d e p) = let n = property_named all p in record { path = _; behind = _; is_path = d; head = before_name e n.named; goes = from_name e n.named (command_name p) }

  goes_command : {x y : Expr} {n : ℕ} {ts us rest : List Token} → IsPath all x ts us → ends_in_call x ≡ true → name_of (kind_of us) ≡ Some n → GoesCommand all x y us rest → IsCommand all y ts rest
  goes_command d e p (command_ends f) = cc
  goes_command d e p (command_link l g) = with_link d e l g
  goes_command d e p (command_name q) = with_name d e q

  from_command : {x y : Expr} {ts us rest : List Token} → IsPath all x ts us → GoesFrom all x y us rest → IsCommand all y ts rest
  from_command d (from_arguments e b c g) = with_args d e b c g
  from_command d (from_name e p g) = goes_command d e p g

  -- no command has another path than the longest
  pub no_command : {x : Expr} {ts us : List Token} → Longest (IsPath all) x ts us → (IsCommandHead x (kind_of us) → ⊥) → Nothing (IsCommand all) ts
  no_command {x = x} {ts = ts} {us = us} l f y after d = let c = command_from d in go (c.path) (c.behind) (c.is_path) (c.head) (meet_path all (l.is) (c.is_path))
    where
      go : (z : Expr) (vs : List Token) → IsPath all z ts vs → IsCommandHead z (kind_of vs) → Meet (Level 0) x us z vs → ⊥
      go z vs e h (one p q) = f (subst (λ zs. IsCommandHead x (kind_of zs)) (sym q) (subst (λ w. IsCommandHead w (kind_of vs)) (sym p) h))
      go z vs e h (first_goes_on p q) = stays_before (omega arith) (begins_behind_head _ h) p
      go z vs e h (second_goes_on p q) = let a = l.longest z vs e in omega arith

  pub no_command_path : {ts : List Token} → Nothing (IsPath all) ts → Nothing (IsCommand all) ts
  no_command_path f y after d = let c = command_from d in f (c.path) (c.behind) (c.is_path)

  -- ---- full expressions

  cond_or_head : {x y : Expr} {us vs : List Token} → Meet CondGoes x us y vs → Stops vs → begins_arguments (kind_of us) ≡ true → begins_arguments (kind_of vs) ≡ false → ⊥
  cond_or_head (one p q) h a b = let e = ap (λ zs. begins_arguments (kind_of zs)) q in cc
  cond_or_head (first_goes_on p q) h a b = cond_stays h p
  cond_or_head {us = us} (second_goes_on p q) h a b = let c = p.within in let e = arguments_stop (kind_of us) a in omega arith

  assign_or_head : {x y : Expr} {t : Token} {op : AssignOp} {us vs : List Token} → Meet CondGoes x us y (t ∷ vs) → assign_of t.kind ≡ Some op → is_target y ≡ true → begins_arguments (kind_of us) ≡ true → ⊥
  assign_or_head {t = t} {us = us} (one p q) a b c =
      let e = reach_assign t.kind a in let f = ap (λ zs. reach (kind_of zs)) q in let g = arguments_stop (kind_of us) c in omega arith
  assign_or_head (first_goes_on p q) a b c = ends_assigned all a b p
  assign_or_head {us = us} (second_goes_on p q) a b c = let d = p.within in let e = arguments_stop (kind_of us) c in omega arith

  no_full_from : {x : Expr} {ts us : List Token} → IsPath all x ts us → IsCommandHead x (kind_of us) → Nothing (Stopped (GoesFrom all x)) us → (y : Expr) (after : List Token) → IsFull all y ts after → Stops after → ⊥
  no_full_from d h f y after (full_cond e n) s = cond_or_head (meet_cond all (path_cond all d) e) s (begins_behind_head _ h) n
  no_full_from d h f y after (full_assign e p q g) s = assign_or_head (meet_cond all (path_cond all d) e) p q (begins_behind_head _ h)
  no_full_from {x = x} {us = us} d h f y after (full_command e) s =
      let c = command_from e in
      let a = path_once all d (c.is_path) (begins_behind_head _ h) (begins_behind_head _ (c.head)) in
      f y after (record { is = along2 (λ w zs. GoesFrom all w y zs after) (a.tree) (a.rest) (c.goes); stops = s })

  -- a command behind its path is a full expression
  pub reads_command : {x : Expr} (ts us rest : List Token) (r : Result Expr ReadError) → Longest (IsPath all) x ts us → IsCommandHead x (kind_of us)
      → Exactly (Stopped (GoesFrom all x)) r us rest → Exactly (Stopped (IsFull all)) r ts rest
  reads_command ts us rest (Ok y) l h d = record { is = full_command (from_command (l.is) (d.is)); stops = d.stops }
  reads_command ts us rest (Err OutOfMemory) l h d = tt
  reads_command ts us rest (Err Refused) l h d = λ y after e. no_full_from (l.is) h d y after (e.is) (e.stops)

  -- where no command stands
  module _ {ts : List Token} (no : Nothing (IsCommand all) ts) where
    pub no_full_cond : Nothing (IsCond all) ts → Nothing (Stopped (IsFull all)) ts
    no_full_cond f y after d = go y after (d.is)
      where
        go : (y : Expr) (after : List Token) → IsFull all y ts after → ⊥
        go y after (full_cond e n) = f y after e
        go y after (full_assign e p q g) = f _ _ e
        go y after (full_command e) = no y after e

    module _ {x : Expr} {us : List Token} (l : Longest (IsCond all) x ts us) where
      -- a full expression is the longest condition, or an assignment to it
      no_full : (begins_arguments (kind_of us) ≡ false → Stops us → ⊥)
          → ((t : Token) (op : AssignOp) (vs : List Token) → us ≡ t ∷ vs → assign_of t.kind ≡ Some op → is_target x ≡ true → Nothing (Stopped (IsFull all)) vs)
          → (y : Expr) (after : List Token) → IsFull all y ts after → Stops after → ⊥
      no_full f g y after (full_cond e n) s =
          let a = cond_stopped l e s in f (along (λ zs. begins_arguments (kind_of zs) ≡ false) (a.rest) n) (along Stops (a.rest) s)
      no_full f g y after (full_assign {x = z} {y = w} {t = t} {op = op} {us = vs} e p q d) s =
          let a = cond_there l e (ends_assigned all p q) in g t op vs (a.rest) p (subst (λ w. is_target w ≡ true) (sym (a.tree)) q) w after (record { is = d; stops = s })
      no_full f g y after (full_command e) s = no y after e

      full_before_arguments : begins_arguments (kind_of us) ≡ true → Nothing (Stopped (IsFull all)) ts
      full_before_arguments b y after d =
          no_full (λ n s. cc) (λ t op vs p a q z zs e. let h = ap (λ ws. reach (kind_of ws)) p in let i = reach_assign t.kind a in let j = arguments_stop (kind_of us) b in omega arith)
          y after (d.is) (d.stops)

      full_before_operator : assign_of (kind_of us) ≡ None → reach (kind_of us) ≤ 12 → Nothing (Stopped (IsFull all)) ts
      full_before_operator n h y after d =
          no_full (λ b s. omega arith) (λ t op vs p a q z zs e. let i = ap (λ ws. assign_of (kind_of ws)) p in cc) y after (d.is) (d.stops)

      pub full_goes_on : assign_of (kind_of us) ≡ None → (begins_arguments (kind_of us) ≡ true) ⊎ (reach (kind_of us) ≤ 12) → Nothing (Stopped (IsFull all)) ts
      full_goes_on n (inl b) = full_before_arguments b
      full_goes_on n (inr h) = full_before_operator n h

      pub full_no_target : {op : AssignOp} → assign_of (kind_of us) ≡ Some op → is_target x ≡ false → Nothing (Stopped (IsFull all)) ts
      full_no_target p f y after d =
          no_full (λ b s. let i = reach_assign (kind_of us) p in omega arith) (λ t op vs e a q z zs g. cc) y after (d.is) (d.stops)

      pub full_no_right : {op : AssignOp} → assign_of (kind_of us) ≡ Some op → Nothing (Stopped (IsFull all)) (drop 1 us) → Nothing (Stopped (IsFull all)) ts
      full_no_right p f y after d =
          no_full (λ b s. let i = reach_assign (kind_of us) p in omega arith) (λ t op vs e a q. subst (Nothing (Stopped (IsFull all))) (ap (drop 1) e) f) y after (d.is) (d.stops)

  pub full_assigns : {x y : Expr} {op : AssignOp} {ts us rest : List Token} → Longest (IsCond all) x ts us → assign_of (kind_of us) ≡ Some op → is_target x ≡ true
      → Stopped (IsFull all) y (drop 1 us) rest → Stopped (IsFull all) (expr.Assign (place_of us) op x y) ts rest
  full_assigns {x = x} {y = y} {op = op} {ts = ts} {us = us} {rest = rest} l p q d = record { is = go us (l.is) p (d.is); stops = d.stops }
    where
      go : (us : List Token) → IsCond all x ts us → assign_of (kind_of us) ≡ Some op → IsFull all y (drop 1 us) rest → IsFull all (expr.Assign (place_of us) op x y) ts rest
      go [] c p f = cc
      go (t ∷ us) c p f = full_assign c p q f

  -- ---- commands from heads

  pub no_arguments : {x : Expr} {ts : List Token} → ends_in_name x ≡ true → Nothing (Stopped (AreCommandArgs all)) ts → Nothing (Stopped (GoesFrom all x)) ts
  no_arguments {x = x} {ts = ts} h f y after d = go y after (d.is) (d.stops)
    where
      go : (y : Expr) (after : List Token) → GoesFrom all x y ts after → Stops after → ⊥
      go y after (from_arguments e b c g) s = f _ _ (record { is = c; stops = goes_stops g s })
      go y after (from_name e p g) s = path_end x h e

  no_links : {x : Expr} {args : List Arg} {ts us : List Token} → Stopped (AreCommandArgs all) args ts us → Nothing (Stopped (GoesCommand all (expr.Call (place_of ts) x args))) us → ends_in_name x ≡ true
      → (y : Expr) (after : List Token) → GoesFrom all x y ts after → Stops after → ⊥
  no_links {x = x} {ts = ts} c f h y after (from_arguments e b c2 g) s =
      let a = cargs_once (c.is) c2 (c.stops) (goes_stops g s) in
      f y after (record { is = along2 (λ w zs. GoesCommand all (expr.Call (place_of ts) x w) y zs after) (a.tree) (a.rest) g; stops = s })
  no_links {x = x} c f h y after (from_name e p g) s = path_end x h e

  pub reads_arguments : (x : Expr) {args : List Arg} (ts us rest : List Token) (r : Result Expr ReadError) → ends_in_name x ≡ true → begins_arguments (kind_of ts) ≡ true → Stopped (AreCommandArgs all) args ts us
      → Exactly (Stopped (GoesCommand all (expr.Call (place_of ts) x args))) r us rest → Exactly (Stopped (GoesFrom all x)) r ts rest
  reads_arguments x ts us rest (Ok y) h b c d = record { is = from_arguments h b (c.is) (d.is); stops = d.stops }
  reads_arguments x ts us rest (Err OutOfMemory) h b c d = tt
  reads_arguments x ts us rest (Err Refused) h b c d = λ y after e. no_links c d h y after (e.is) (e.stops)

  pub reads_from_name : {x : Expr} (ts rest : List Token) (r : Result Expr ReadError) → ends_in_name x ≡ false → IsCommandHead x (kind_of ts)
      → Exactly (Stopped (GoesCommand all x)) r ts rest → Exactly (Stopped (GoesFrom all x)) r ts rest
  reads_from_name ts rest r n (before_arguments p q) d = cc
  reads_from_name ts rest (Ok y) n (before_name p q) d = record { is = from_name p q (d.is); stops = d.stops }
  reads_from_name ts rest (Err OutOfMemory) n (before_name p q) d = tt
  reads_from_name {x = x} ts rest (Err Refused) n (before_name p q) d = λ y after e. go y after (e.is) (e.stops)
    where
      go : (y : Expr) (after : List Token) → GoesFrom all x y ts after → Stops after → ⊥
      go y after (from_arguments e b c g) s = cc
      go y after (from_name e i g) s = d y after (record { is = g; stops = s })

  -- ---- links

  pub links_end : {x : Expr} {ts : List Token} → name_of (kind_of ts) ≡ None → Stops ts → Stopped (GoesCommand all x) x ts ts
  links_end p h = record { is = command_ends p; stops = h }

  pub no_links_end : {x : Expr} {ts : List Token} → name_of (kind_of ts) ≡ None → reach (kind_of ts) ≤ 12 → Nothing (Stopped (GoesCommand all x)) ts
  no_links_end {x = x} {ts = ts} p h y after d = go y after (d.is) (d.stops)
    where
      go : (y : Expr) (after : List Token) → GoesCommand all x y ts after → Stops after → ⊥
      go y after (command_ends f) s = omega arith
      go y after (command_link l g) s = let n = link_named all l in let a = n.named in cc
      go y after (command_name q) s = let n = property_named all q in let a = n.named in cc

  -- behind a name
  module _ {n : ℕ} (ts us : List Token) (p : name_of (kind_of ts) ≡ Some n) (e : us ≡ drop 1 ts) where
    here : EatsAs name_of n ts us
    here = along (λ zs. EatsAs name_of n ts zs) e (as_here ts refl p)

    module _ (x : Expr) where
      -- a link and what follows it, or a last name
      no_goes : ((args : List Arg) (vs : List Token) (y : Expr) (after : List Token) → begins_arguments (kind_of us) ≡ true → AreCommandArgs all args us vs
          → GoesCommand all (expr.Call (place_of us) (property x ts n) args) y vs after → Stops after → ⊥)
          → ((z : Expr) (vs : List Token) (y : Expr) (after : List Token) → begins_call (kind_of us) ≡ true → IsSuffix all (property x ts n) z us vs → GoesCommand all z y vs after → Stops after → ⊥)
          → (begins_arguments (kind_of us) ≡ false → begins_call (kind_of us) ≡ false → Stops us → ⊥)
          → Nothing (Stopped (GoesCommand all x)) ts
      no_goes f g h y after d = go y after (d.is) (d.stops)
        where
          go : (y : Expr) (after : List Token) → GoesCommand all x y ts after → Stops after → ⊥
          go y after (command_ends q) s = cc
          go y after (command_link (link_args {args = args} {rest = vs} q b c) i) s =
              let a = as_same here q in
              f args vs y after (along (λ zs. begins_arguments (kind_of zs) ≡ true) (a.rest) b) (along (λ zs. AreCommandArgs all args zs vs) (a.rest) c)
              (along2 (λ m zs. GoesCommand all (expr.Call (place_of zs) (property x ts m) args) y vs after) (a.tree) (a.rest) i) s
          go y after (command_link (link_call {y = z} {rest = vs} q b c) i) s =
              let a = as_same here q in
              g z vs y after (along (λ zs. begins_call (kind_of zs) ≡ true) (a.rest) b) (along2 (λ m zs. IsSuffix all (property x ts m) z zs vs) (a.tree) (a.rest) c) i s
          go y after (command_name (last_name q b c)) s =
              let a = as_same here q in
              h (along (λ zs. begins_arguments (kind_of zs) ≡ false) (a.rest) b) (along (λ zs. begins_call (kind_of zs) ≡ false) (a.rest) c) (along Stops (a.rest) s)

      module _ (b : begins_arguments (kind_of us) ≡ true) where
        pub no_link_arguments : Nothing (Stopped (AreCommandArgs all)) us → Nothing (Stopped (GoesCommand all x)) ts
        no_link_arguments f = no_goes (λ args vs y after q c g s. f args vs (record { is = c; stops = goes_stops g s })) (λ z vs y after q c g s. arguments_or_call (kind_of us) b q) (λ q r s. cc)

        pub reads_link_arguments : {args : List Arg} (vs rest : List Token) (r : Result Expr ReadError) → Stopped (AreCommandArgs all) args us vs
            → Exactly (Stopped (GoesCommand all (expr.Call (place_of us) (property x ts n) args))) r vs rest → Exactly (Stopped (GoesCommand all x)) r ts rest
        reads_link_arguments vs rest (Ok y) c d = record { is = command_link (link_args here b (c.is)) (d.is); stops = d.stops }
        reads_link_arguments vs rest (Err OutOfMemory) c d = tt
        reads_link_arguments vs rest (Err Refused) c d =
            no_goes
            (λ args ws y after q c2 g s.
            let a = cargs_once (c.is) c2 (c.stops) (goes_stops g s) in
            d y after (record { is = along2 (λ w zs. GoesCommand all (expr.Call (place_of us) (property x ts n) w) y zs after) (a.tree) (a.rest) g; stops = s }))
            (λ z ws y after q c2 g s. arguments_or_call (kind_of us) b q) (λ q r s. cc)

      module _ (b : begins_call (kind_of us) ≡ true) where
        pub no_link_call : (z : Expr) (vs : List Token) (found : Bool) → found ≡ false → Extended (IsSuffix all) (property x ts n) z found us vs → Nothing (Stopped (GoesCommand all x)) ts
        no_link_call z vs true h d = cc
        no_link_call z vs false h d = no_goes (λ args ws y after q c g s. arguments_or_call (kind_of us) q b) (λ z2 ws y after q c g s. d.2 z2 ws c) (λ q r s. cc)

        pub reads_link_call : (z : Expr) (found : Bool) (vs rest : List Token) (r : Result Expr ReadError) → found ≡ true → Extended (IsSuffix all) (property x ts n) z found us vs
            → Exactly (Stopped (GoesCommand all z)) r vs rest → Exactly (Stopped (GoesCommand all x)) r ts rest
        reads_link_call z false vs rest r h c d = cc
        reads_link_call z true vs rest (Ok y) h c d = record { is = command_link (link_call here b c) (d.is); stops = d.stops }
        reads_link_call z true vs rest (Err OutOfMemory) h c d = tt
        reads_link_call z true vs rest (Err Refused) h c d =
            no_goes (λ args ws y after q c2 g s. arguments_or_call (kind_of us) q b)
            (λ z2 ws y after q c2 g s. let a = meet_suffix all c c2 in d y after (record { is = along2 (λ w zs. GoesCommand all w y zs after) (a.tree) (a.rest) g; stops = s }))
            (λ q r s. cc)

        pub link_call_shorter : (z : Expr) (vs : List Token) (found : Bool) → found ≡ true → Extended (IsSuffix all) (property x ts n) z found us vs → length vs ≤ length us
        link_call_shorter z vs true h d = no_more (of_suffix all d)
        link_call_shorter z vs false h d = cc

      module _ (b : begins_arguments (kind_of us) ≡ false) (c : begins_call (kind_of us) ≡ false) where
        pub ends_with_name : Stops us → Stopped (GoesCommand all x) (property x ts n) ts us
        ends_with_name h = record { is = command_name (last_name here b c); stops = h }

        pub name_goes_on : reach (kind_of us) ≤ 12 → Nothing (Stopped (GoesCommand all x)) ts
        name_goes_on h = no_goes (λ args vs y after q d g s. cc) (λ z vs y after q d g s. cc) (λ q r s. omega arith)

  -- ---- arguments

  no_cargs : {ts : List Token} → ((a : Arg) (us : List Token) → IsCommandArg all a ts us → Stops us → kind_of us ≢ kind.Symbol symbol.Comma → ⊥)
      → ((a : Arg) (us vs : List Token) → IsCommandArg all a ts us → Eats symbol.Comma us vs → Nothing (Stopped (AreCommandArgs all)) vs) → Nothing (Stopped (AreCommandArgs all)) ts
  no_cargs {ts = ts} f g y after d = go y after (d.is) (d.stops)
    where
      go : (y : List Arg) (after : List Token) → AreCommandArgs all y ts after → Stops after → ⊥
      go y after (last_carg c n) s = f _ after c s n
      go y after (more_cargs c e d) s = g _ _ _ c e _ after (record { is = d; stops = s })

  pub no_first_carg : {ts : List Token} → Nothing (Stopped (IsCommandArg all)) ts → Nothing (Stopped (AreCommandArgs all)) ts
  no_first_carg f = no_cargs (λ a us c s n. f a us (record { is = c; stops = s })) (λ a us vs c e y after d. f a us (record { is = c; stops = at_comma e }))

  pub no_more_cargs : {a : Arg} {ts us vs : List Token} → Stopped (IsCommandArg all) a ts us → Eats symbol.Comma us vs → Nothing (Stopped (AreCommandArgs all)) vs → Nothing (Stopped (AreCommandArgs all)) ts
  no_more_cargs {us = us} {vs = vs} c e f =
      no_cargs (λ b zs d s n. let a = carg_once (c.is) d (c.stops) s in n (sym (ap kind_of (a.rest)) ∙ kind_eaten e))
      (λ b zs ws d g. let a = carg_once (c.is) d (c.stops) (at_comma g) in subst (Nothing (Stopped (AreCommandArgs all))) (eaten_same (a.rest) e g) f)

  -- ---- an argument with a key of one token

  module _ {k : Key} (ts : List Token) (h : key_of (place_of ts) (kind_of ts) ≡ Some k) (c : kind_of (drop 1 ts) ≡ kind.Symbol symbol.Colon) where
    value_inside : {a : Arg} {after : List Token} → IsCommandArg all a ts after → (x : Expr) × IsCond all x (drop 1 (drop 1 ts)) after
    value_inside (plain_carg d n) = absurd (key_or_expr all (key_here all ts h) (symbol_eaten (drop 1 ts) c) (an_expr d expr_ends) n)
    value_inside {after = r} (keyed_carg {x = x} i c2 d) = let a = meet_key all (key_here all ts h) i in (x, along (λ zs. IsCond all x zs r) (eaten_same (a.rest) (symbol_eaten (drop 1 ts) c) c2) d)

    pub keyed_value : {x : Expr} {us : List Token} → IsCond all x (drop 1 (drop 1 ts)) us → Stops us → Stopped (IsCommandArg all) (arg.Keyed k x) ts us
    keyed_value d s = record { is = keyed_carg (key_here all ts h) (symbol_eaten (drop 1 ts) c) d; stops = s }

    pub no_keyed_value : Nothing (IsCond all) (drop 1 (drop 1 ts)) → Nothing (Stopped (IsCommandArg all)) ts
    no_keyed_value f y after d = let a = value_inside (d.is) in f (a.0) after (a.1)

    pub keyed_value_goes_on : {x : Expr} {us : List Token} → Longest (IsCond all) x (drop 1 (drop 1 ts)) us → reach (kind_of us) ≤ 12 → Nothing (Stopped (IsCommandArg all)) ts
    keyed_value_goes_on l g y after d = let a = value_inside (d.is) in let b = cond_stopped l (a.1) (d.stops) in let s = along Stops (b.rest) (d.stops) in omega arith

  -- ---- an argument with no key of one token

  -- a string with parts, a `:` and a value
  record KeyedBy (ts after : List Token) : Type 0 where
    string : GString
    value : Expr
    behind : List Token
    first : IsCond all (expr.GString (place_of ts) string) ts behind
    colon : kind_of behind ≡ kind.Symbol symbol.Colon
    second : IsCond all value (drop 1 behind) after

  abbrev NoKey : List Token → Type 0
  NoKey ts = (kind_of (drop 1 ts) ≢ kind.Symbol symbol.Colon) ⊎ (key_of (place_of ts) (kind_of ts) ≡ None)

  not_key : {k : Key} {us vs : List Token} (ts : List Token) → NoKey ts → key_of (place_of ts) (kind_of ts) ≡ Some k → us ≡ drop 1 ts → Eats symbol.Colon us vs → ⊥
  not_key ts (inl f) h p c = f (along (λ zs. kind_of zs ≡ kind.Symbol symbol.Colon) (sym p) (kind_eaten c))
  not_key ts (inr e) h p c = cc

  with_key : {k : Key} {x : Expr} {ts us vs after : List Token} → NoKey ts
      → ((key_of (place_of ts) (kind_of ts) ≡ Some k) × (us ≡ drop 1 ts)) ⊎ ((g : GString) × (k ≡ key.Label (label.GString (place_of ts) g)) × IsGString all g ts us)
      → Eats symbol.Colon us vs → IsCond all x vs after → KeyedBy ts after
  with_key {ts = ts} n (inl p) c d = absurd (not_key ts n (p.0) (p.1) c)
  with_key {x = x} {us = us} {after = r} n (inr (g, p, s)) c d = record {
    string = g;
    value = x;
    behind = us;
    first = path_cond all (a_path (a_gstring s) path_ends);
    colon = kind_eaten c;
    second = along (λ zs. IsCond all x zs r) (sym (behind_colon c)) d;
  }

  begun : {a : Arg} {ts after : List Token} → IsCommandArg all a ts after → NoKey ts → ((x : Expr) × IsCond all x ts after × (kind_of after ≢ kind.Symbol symbol.Colon)) ⊎ KeyedBy ts after
  begun (plain_carg {x = x} d f) n = inl (x, d, f)
  begun (keyed_carg k c d) n = inr (with_key n (key_cases all k) c d)

  pub plain_value : {x : Expr} {ts us : List Token} → IsCond all x ts us → kind_of us ≢ kind.Symbol symbol.Colon → Stops us → Stopped (IsCommandArg all) (arg.Plain x) ts us
  plain_value d f s = record { is = plain_carg d f; stops = s }

  pub string_value : {p : Place} {g : GString} {v : Expr} (ts us vs : List Token) → IsCond all (expr.GString p g) ts us → Eats symbol.Colon us (drop 1 us) → IsCond all v (drop 1 us) vs → Stops vs
      → Stopped (IsCommandArg all) (arg.Keyed (key.Label (label.GString p g)) v) ts vs
  string_value {g = g} {v = v} ts us vs d c f s = let a = gstring_of_cond all d in
      subst (λ q. Stopped (IsCommandArg all) (arg.Keyed (key.Label (label.GString q g)) v) ts vs) (sym (a.1))
      (record { is = keyed_carg (key_gstring (a.0)) c f; stops = s })

  module _ (ts : List Token) (n : NoKey ts) where
    no_carg : ((x : Expr) (after : List Token) → IsCond all x ts after → kind_of after ≢ kind.Symbol symbol.Colon → Stops after → ⊥)
        → ((g : GString) (v : Expr) (us after : List Token) → IsCond all (expr.GString (place_of ts) g) ts us → kind_of us ≡ kind.Symbol symbol.Colon → IsCond all v (drop 1 us) after → Stops after → ⊥)
        → Nothing (Stopped (IsCommandArg all)) ts
    no_carg f g y after d = go (begun (d.is) n)
      where
        go : ((x : Expr) × IsCond all x ts after × (kind_of after ≢ kind.Symbol symbol.Colon)) ⊎ KeyedBy ts after → ⊥
        go (inl (x, e, i)) = f x after e i (d.stops)
        go (inr k) = g (k.string) (k.value) (k.behind) after (k.first) (k.colon) (k.second) (d.stops)

    pub no_first_value : Nothing (IsCond all) ts → Nothing (Stopped (IsCommandArg all)) ts
    no_first_value f = no_carg (λ x after d i s. f x after d) (λ g v us after d c e s. f _ us d)

    pub first_goes_on_there : {x : Expr} (us : List Token) → Longest (IsCond all) x ts us → kind_of us ≢ kind.Symbol symbol.Colon → reach (kind_of us) ≤ 12 → Nothing (Stopped (IsCommandArg all)) ts
    first_goes_on_there us l f h =
        no_carg (λ x after d i s. let a = cond_stopped l d s in let b = along Stops (a.rest) s in omega arith)
        (λ g v vs after d c e s. let a = cond_stopped l d (colon_stops vs c) in f (along (λ zs. kind_of zs ≡ kind.Symbol symbol.Colon) (a.rest) c))

    -- behind the longest condition stands a `:`
    module _ {x : Expr} (us : List Token) (l : Longest (IsCond all) x ts us) (c : kind_of us ≡ kind.Symbol symbol.Colon) where
      plain_there : (y : Expr) (after : List Token) → IsCond all y ts after → kind_of after ≢ kind.Symbol symbol.Colon → Stops after → ⊥
      plain_there y after d f s = let a = cond_stopped l d s in f (along (λ zs. kind_of zs ≡ kind.Symbol symbol.Colon) (sym (a.rest)) c)

      pub no_string_key : ((p : Place) (g : GString) → x ≡ expr.GString p g → ⊥) → Nothing (Stopped (IsCommandArg all)) ts
      no_string_key f = no_carg plain_there (λ g v vs after d i e s. let a = cond_stopped l d (colon_stops vs i) in f _ g (a.tree))

      pub no_string_value : Nothing (IsCond all) (drop 1 us) → Nothing (Stopped (IsCommandArg all)) ts
      no_string_value f = no_carg plain_there (λ g v vs after d i e s. let a = cond_stopped l d (colon_stops vs i) in f v after (along (λ zs. IsCond all v (drop 1 zs) after) (a.rest) e))

      pub string_value_goes_on : {w : Expr} (vs : List Token) → Longest (IsCond all) w (drop 1 us) vs → reach (kind_of vs) ≤ 12 → Nothing (Stopped (IsCommandArg all)) ts
      string_value_goes_on vs m h = no_carg plain_there
          (λ g v ws after d i e s.
          let a = cond_stopped l d (colon_stops ws i) in
          let b = cond_stopped m (along (λ zs. IsCond all v (drop 1 zs) after) (a.rest) e) s in
          let t = along Stops (b.rest) s in omega arith)
