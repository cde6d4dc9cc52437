-- The written code of each statement form, as the source builds the form.
use Rattle.std.proofs.Common.{◌≡◌, ℕ, zero, suc, ◌+◌, ◌<◌, ◌≤◌, List, [], ◌∷◌, length, drop, get_or, refl, sym, ap, ◌∙◌, arith, add-one, drop-cons}
use Rattle.gv_core.specs.declared.expr.Expr.{Expr}
use Rattle.gv_core.specs.declared.stmt.Stmt.{Stmt}
use Rattle.gv_core.specs.declared.stmt.Stmt.TheVariants.{Block, If, While}
use Rattle.gv_core.specs.declared.stmt.Stmt.TheBlock.{Row_of-Stmt, end_of-Stmt, more_of-Stmt, items-the_row-Stmt, items_hidden-the_row-Stmt-0, hidden-the_row-Stmt-0, shape-the_row-Stmt-1, hidden-the_row-Stmt-1}
use denote.Hole.Carrier as Carrier
use Rattle.gv_code.specs.declared.piece.Item.{Item}
use Rattle.gv_code.specs.Pieces.{Piece, Shape, bare, joined}
use Rattle.gv_code.proofs.Joined.{joined_assoc, joined_none, none_joined}
use Rattle.gv_written.specs.Written.{declares, expr_items, if_piece, stmt_piece, stmts_piece, while_piece}
use Rattle.gv_emit.specs.Lists.{list_piece}

row_piece : {m : _} → (height : ℕ) (below : Shape) (r : Row_of-Stmt m) → stmts_piece height below r ≡ list_piece height below (items-the_row-Stmt _ r)
row_piece height below end_of-Stmt = refl
row_piece height below (more_of-Stmt s rest) = ap (λ p. joined (stmt_piece height below s) p) (row_piece (height + declares s) below rest)

pub piece_block : (height : ℕ) (below : Shape) (all : List Stmt) → stmt_piece height below (Block all) ≡ list_piece height below all
piece_block height below all =
    let r = hidden-the_row-Stmt-0 all in
    let e : items-the_row-Stmt _ r ≡ all = items_hidden-the_row-Stmt-0 all in
    row_piece height below r ∙ ap (list_piece height below) e

pub piece_if : (height : ℕ) (below : Shape) (t : Expr) (a b : Stmt) → stmt_piece height below (If t a b) ≡ if_piece below (expr_items height below t) (stmt_piece height below a) (stmt_piece height below b)
unfolding shape-the_row-Stmt-1 hidden-the_row-Stmt-1 Carrier.hidden
piece_if height below t a b = refl

pub piece_while : (height : ℕ) (below : Shape) (t : Expr) (s : Stmt) → stmt_piece height below (While t s) ≡ while_piece below (expr_items height below t) (stmt_piece height below s)
unfolding shape-the_row-Stmt-1 hidden-the_row-Stmt-1 Carrier.hidden
piece_while height below t s = refl

pub ruleset forms = (piece_block, piece_if, piece_while)

pub of_if : (height : ℕ) (below : Shape) (e a b a1 b1 : Stmt) (t : Expr) (test : List Item) (f s : Piece) →
    e ≡ If t a b → a1 ≡ a → b1 ≡ b → test ≡ expr_items height below t → f ≡ stmt_piece height below a1 → s ≡ stmt_piece height below b1 → stmt_piece height below e ≡ if_piece below test f s
of_if height below e a b a1 b1 t test f s p q r o u v = cc (piece_if height below t a b)

pub of_while : (height : ℕ) (below : Shape) (e b b1 : Stmt) (t : Expr) (test : List Item) (f : Piece) →
    e ≡ While t b → b1 ≡ b → test ≡ expr_items height below t → f ≡ stmt_piece height below b1 → stmt_piece height below e ≡ while_piece below test f
of_while height below e b b1 t test f p q u v = cc (piece_while height below t b)

-- the statements that are done, and those to come
pub block_more : (height scope scope2 i : ℕ) (below : Shape) (all : List Stmt) (s d : Stmt) (done more done2 : Piece) →
    i < length all → joined done (list_piece scope below (drop i all)) ≡ list_piece height below all → s ≡ get_or all i d → more ≡ stmt_piece scope below s → done2 ≡ joined done more → scope2 ≡ scope + declares s →
    joined done2 (list_piece scope2 below (drop (i + 1) all)) ≡ list_piece height below all
block_more height scope scope2 i below all s d done more done2 lt inv es em ed e2 =
    let split : drop i all ≡ get_or all i d ∷ drop (i + 1) all = rw (add-one, drop-cons all i d) in
    let rest = list_piece scope2 below (drop (i + 1) all) in
    let a = joined_assoc done more rest in
    let step : list_piece scope below (s ∷ drop (i + 1) all) ≡ joined more rest = cc (em, e2) in
    let whole : list_piece scope below (drop i all) ≡ joined more rest = ap (list_piece scope below) (split ∙ ap (λ s. s ∷ drop (i + 1) all) (sym es)) ∙ step in
    ap (λ p. joined p rest) ed ∙ a ∙ ap (λ p. joined done p) (sym whole) ∙ inv

drop_all : (i : ℕ) (all : List Stmt) → length all ≤ i → drop i all ≡ []
drop_all zero [] le = refl
drop_all zero (s ∷ all) le = absurd (omega arith)
drop_all (suc i) [] le = refl
drop_all (suc i) (s ∷ all) le = drop_all i all (omega arith)

pub block_done : (height scope i : ℕ) (below : Shape) (all : List Stmt) (done : Piece) → length all ≤ i → joined done (list_piece scope below (drop i all)) ≡ list_piece height below all → done ≡ list_piece height below all
block_done height scope i below all done le inv = sym (joined_none done) ∙ ap (λ l. joined done (list_piece scope below l)) (sym (drop_all i all le)) ∙ inv

pub block_none : (height : ℕ) (below : Shape) (all : List Stmt) (items : List Item) (done : Piece) → items ≡ [] → done ≡ bare items → joined done (list_piece height below (drop 0 all)) ≡ list_piece height below all
block_none height below all items done o f = cc (o, f, none_joined (list_piece height below all))
