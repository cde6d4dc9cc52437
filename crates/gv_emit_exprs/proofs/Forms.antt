-- The written code of each form, as the source builds the form.
use Rattle.std.proofs.Common.{◌≡◌, ℕ, suc, List, [], ◌∷◌, ◌++◌, length, refl, ap, ◌∙◌}
use Rattle.gv_core.specs.declared.expr.Expr.{Expr}
use Rattle.gv_core.specs.declared.expr.Order.{Order}
use Rattle.gv_core.specs.declared.expr.Expr.TheVariants.{Assign, Call, Ordered, Equal, Not}
use Rattle.gv_core.specs.declared.expr.Expr.TheBlock.{Row_of-Expr, end_of-Expr, more_of-Expr, items-the_row-Expr, items_hidden-the_row-Expr-1, shape-the_row-Expr-0, hidden-the_row-Expr-0, hidden-the_row-Expr-1}
use denote.Hole.Carrier as Carrier
use Rattle.gv_code.specs.declared.code.Op.TheVariants.{Invoke, Ordered as OrderedTop, Equal as EqualTop, Not as NotTop}
use Rattle.gv_code.specs.declared.code.OperandKind.TheVariants.{Value as V}
use Rattle.gv_code.specs.declared.piece.Item.{Item}
use Rattle.gv_code.specs.Pieces.{Shape, plain}
use Rattle.gv_written.specs.Written.{count_of, expr_items, exprs_items, store_items, values_on}
use Rattle.gv_emit_exprs.specs.Lists.{list_items}

pub code_assign : (height : ℕ) (below : Shape) (slot : ℕ) (e : Expr) → expr_items height below (Assign slot e) ≡ expr_items height below e ++ store_items height slot (V ∷ below)
unfolding shape-the_row-Expr-0 hidden-the_row-Expr-0 Carrier.hidden
code_assign height below slot e = refl

pub code_ordered : (height : ℕ) (below : Shape) (order : Order) (e : Expr) → expr_items height below (Ordered order e) ≡ expr_items height below e ++ plain (V ∷ below) (OrderedTop order) ∷ []
unfolding shape-the_row-Expr-0 hidden-the_row-Expr-0 Carrier.hidden
code_ordered height below order e = refl

pub code_not : (height : ℕ) (below : Shape) (e : Expr) → expr_items height below (Not e) ≡ expr_items height below e ++ plain (V ∷ below) NotTop ∷ []
unfolding shape-the_row-Expr-0 hidden-the_row-Expr-0 Carrier.hidden
code_not height below e = refl

pub code_equal : (height : ℕ) (below : Shape) (a b : Expr) → expr_items height below (Equal a b) ≡ expr_items height below a ++ (expr_items height (V ∷ below) b ++ plain (V ∷ V ∷ below) EqualTop ∷ [])
unfolding shape-the_row-Expr-0 hidden-the_row-Expr-0 Carrier.hidden
code_equal height below a b = refl

row_code : {m : _} → (height : ℕ) (below : Shape) (r : Row_of-Expr m) → exprs_items height below r ≡ list_items height below (items-the_row-Expr _ r)
row_code height below end_of-Expr = refl
row_code height below (more_of-Expr e rest) = ap (λ l. expr_items height below e ++ l) (row_code height (V ∷ below) rest)

row_count : {m : _} → (r : Row_of-Expr m) → count_of r ≡ length (items-the_row-Expr _ r)
row_count end_of-Expr = refl
row_count (more_of-Expr e rest) = ap suc (row_count rest)

pub code_call : (height : ℕ) (below : Shape) (name : ℕ) (all : List Expr) → expr_items height below (Call name all) ≡ list_items height below all ++ plain (values_on (length all) below) (Invoke name (length all)) ∷ []
code_call height below name all =
    let r = hidden-the_row-Expr-1 all in
    let e : items-the_row-Expr _ r ≡ all = items_hidden-the_row-Expr-1 all in
    let last : ℕ → Item = λ n. plain (values_on n below) (Invoke name n) in
    ap (λ l. l ++ last (count_of r) ∷ []) (row_code height below r ∙ ap (list_items height below) e) ∙ ap (λ n. list_items height below all ++ last n ∷ []) (row_count r ∙ ap length e)

pub ruleset forms = (code_assign, code_ordered, code_not, code_equal, code_call)

-- the same from what the emitter's steps say: one lemma for each shape of a form
pub of_assign : (height : ℕ) (below : Shape) (slot : ℕ) (e a a1 : Expr) (f : List Item) →
    e ≡ Assign slot a → a1 ≡ a → f ≡ expr_items height below a1 → expr_items height below e ≡ f ++ store_items height slot (V ∷ below)
of_assign height below slot e a a1 f p q r = cc (code_assign height below slot a)

pub of_one : (height : ℕ) (below : Shape) (e form a a1 : Expr) (last : Item) (f : List Item) →
    form ≡ e → expr_items height below form ≡ expr_items height below a ++ last ∷ [] → a1 ≡ a → f ≡ expr_items height below a1 → expr_items height below e ≡ f ++ last ∷ []
of_one height below e form a a1 last f p law q r = cc law

pub of_two : (height : ℕ) (below shape : Shape) (e form a b a1 b1 : Expr) (last : Item) (f s : List Item) →
    form ≡ e → expr_items height below form ≡ expr_items height below a ++ (expr_items height (V ∷ below) b ++ last ∷ []) → a1 ≡ a → shape ≡ V ∷ below → b1 ≡ b → f ≡ expr_items height below a1 → s ≡ expr_items height shape b1 → expr_items height below e ≡ f ++ (s ++ last ∷ [])
of_two height below shape e form a b a1 b1 last f s p law q t r u v = cc law

pub of_call : (height : ℕ) (below : Shape) (name n : ℕ) (e : Expr) (all all1 : List Expr) (f : List Item) →
    e ≡ Call name all → all1 ≡ all → n ≡ length all → f ≡ list_items height below all1 → expr_items height below e ≡ f ++ plain (values_on n below) (Invoke name n) ∷ []
of_call height below name n e all all1 f p q r s = cc (code_call height below name all)
