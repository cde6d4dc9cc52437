-- The derivations of the examples.
use Rattle.std.proofs.Common.{◌≡◌, ℕ, suc, true, List, ◌∷◌, refl, Some}
use Rattle.gv_lex.specs.declared.token.Token.{Token}
use Rattle.gv_tree.specs.declared.expr.Atom.{Atom}
use Rattle.gv_base.specs.declared.refusal.Place.{Place}
use Rattle.gv_tree.specs.declared.expr.Atom.TheVariants as atom
use Rattle.gv_tree.specs.declared.expr.Expr.{Expr, out-Expr}
use denote.Hole.Carrier.{out}
use Rattle.gv_tree.specs.declared.expr.Expr.TheVariants as expr
use Rattle.gv_grammar.specs.Tokens.{eats, eats_keyword, eats_piece, eats_end, eats_as, atom_of}
use Rattle.gv_grammar.specs.Exprs.{is_target, assigns, chooses, choices, typing, postfix, index, last_index, no_argument, a_new, a_gstring, gstring, last_part, more_parts, lazy, names, names_end, one_name, none, IsClosure, unread, no_closure, one_closure, IsExpr, an_expr, expr_ends, a_cond, cond_ends, IsBin, tightest, a_bin, bin_ends, operator, IsUnary, no_prefix, a_path, path_ends, suffix, call, key_word, arguments, last_arg, more_args, keyed_arg, spread_arg, last_entry, more_entries, keyed_entry, computed_entry, spread_entry, an_atom, a_map}
use Rattle.gv_grammar.specs.Examples.{the_end, sum_tokens, sum_tree, call_tokens, call_tree, map_tokens, map_tree, assignment_tokens, assignment_tree, string_tokens, string_tree}
use Rattle.gv_grammar.proofs.Tails.{raised, unit_expr, as_expr}
use Rattle.gv_grammar.proofs.Firsts.{closure_first}

module _ (all : ℕ) where
  atom_unit : {t : Token} {a : Atom} {rest : List Token} → atom_of t.kind ≡ Some a → IsUnary all (expr.Atom t.place a) (t ∷ rest) rest
  atom_unit p = no_prefix (a_path (an_atom p) path_ends)

  atom_expr : {t : Token} {a : Atom} {rest : List Token} → atom_of t.kind ≡ Some a → IsExpr all (expr.Atom t.place a) (t ∷ rest) rest
  atom_expr p = as_expr all (an_atom p)

  -- no operator of the next level follows
  up : {n : ℕ} {x : Expr} {ts rest : List Token} → IsBin all n x ts rest → IsBin all (suc n) x ts rest
  up d = a_bin d bin_ends

pub sum_reads : IsExpr 6 sum_tree sum_tokens (the_end 10)
sum_reads =
    an_expr (a_cond (up 6 (up 6 (up 6 (up 6 (up 6 (up 6 (up 6 (up 6
    (a_bin (up 6 (tightest (atom_unit 6 refl))) (operator refl refl refl
    (a_bin (tightest (atom_unit 6 refl)) (operator refl refl refl (tightest (atom_unit 6 refl)) bin_ends))
    bin_ends))))))))))
    cond_ends) expr_ends

no_closure_at_end : {n : ℕ} (all : ℕ) (f : Expr) (after : List Token) → IsClosure all f (the_end n) after → ⊥
no_closure_at_end all f after d = let a = closure_first all d in cc

pub call_reads : IsExpr 12 call_tree call_tokens (the_end 16)
call_reads =
    unit_expr 12 (no_prefix (a_path (an_atom refl) (suffix
    (call (eats refl)
    (arguments (more_args (keyed_arg (key_word (eats_as refl)) (eats refl) (atom_expr 12 refl)) (eats refl)
    (last_arg (spread_arg (eats refl) (atom_unit 12 refl)) (eats refl))))
    (one_closure (unread (eats refl) (none refl) (eats refl)) (no_closure (no_closure_at_end 12))))
    path_ends)))

pub map_reads : IsExpr 15 map_tree map_tokens (the_end 20)
map_reads =
    as_expr 15 (a_map (eats refl)
    (more_entries (keyed_entry (key_word (eats_as refl)) (eats refl) (atom_expr 15 refl)) (eats refl)
    (more_entries (computed_entry (eats refl) (atom_expr 15 refl) (eats refl) (eats refl) (atom_expr 15 refl)) (eats refl)
    (last_entry (spread_entry (eats refl) (atom_unit 15 refl)) (eats refl)))))

a_name_is_target : (p : Place) (n : ℕ) → is_target (expr.Atom p (atom.Name n)) ≡ true
unfolding is_target out-Expr out
a_name_is_target p n = refl

pub assignment_reads : IsExpr 17 assignment_tree assignment_tokens (the_end 32)
assignment_reads =
    an_expr (a_cond (raised 17 10 (atom_unit 17 refl)) cond_ends) (assigns refl (a_name_is_target _ _)
    (an_expr (a_cond (raised 17 10 (atom_unit 17 refl)) (chooses (eats refl) (choices
    (an_expr (a_cond (up 17 (up 17 (up 17 (up 17 (up 17 (up 17 (a_bin (raised 17 3 (atom_unit 17 refl)) (typing refl refl refl bin_ends)))))))) cond_ends) expr_ends)
    (eats refl)
    (unit_expr 17 (no_prefix (a_path (a_new (eats_keyword refl) (eats_as refl) (eats refl) (no_argument (eats refl)))
    (suffix (index (eats refl) (last_index (atom_expr 17 refl) (eats refl))) (suffix (postfix refl) path_ends))))))))
    expr_ends))

pub string_reads : IsExpr 11 string_tree string_tokens (the_end 15)
string_reads =
    as_expr 11 (a_gstring (gstring (eats_piece refl)
    (more_parts (lazy (eats refl) (atom_expr 11 refl) (eats_end refl)) (eats_piece refl)
    (last_part (names (eats_as refl) (one_name (eats refl) (eats_as refl) names_end) (eats_end refl)) (eats_piece refl)))))
