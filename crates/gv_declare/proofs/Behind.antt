-- What is declared stands behind what was declared before, which stays as it was.
use Rattle.std.proofs.Common.{◌≡◌, ◌∙◌, refl, ap, List, [], ◌∷◌, ◌++◌, append_assoc}
use Rattle.gv_declare.specs.Members.{each, classes_declared, scripts_classes, top_class, class_declared}
use Rattle.gv_declare.specs.declared.known.Known.{Known}
use Rattle.gv_classes.specs.declared.declared.Declared.{Declared}
use Rattle.gv_tree.specs.declared.top.Script.{Script}
use Rattle.gv_tree.specs.declared.top.Top.{Top}
use Rattle.gv_tree.specs.declared.top.Top.TheVariants as top

-- where each puts what it makes behind, all do
each_behind : {X Y : Type 0} (f : X → List Y → List Y) → ((x : X) (before so_far : List Y) → f x (before ++ so_far) ≡ before ++ f x so_far)
    → (xs : List X) (before so_far : List Y) → each f xs (before ++ so_far) ≡ before ++ each f xs so_far
each_behind f h [] before so_far = refl
each_behind f h (x ∷ xs) before so_far = ap (each f xs) (h x before so_far) ∙ each_behind f h xs before (f x so_far)

top_behind : (k : Known) (t : Top) (before so_far : List Declared) → top_class k t (before ++ so_far) ≡ before ++ top_class k t so_far
top_behind k (top.Class c) before so_far = append_assoc before so_far (class_declared k c ∷ [])
top_behind k (top.Import i) before so_far = refl
top_behind k (top.Method m) before so_far = refl
top_behind k (top.Decl notes d) before so_far = refl
top_behind k (top.Stmt s) before so_far = refl

pub scripts_behind : (k : Known) (scripts : List Script) (before so_far : List Declared) → scripts_classes k scripts (before ++ so_far) ≡ before ++ scripts_classes k scripts so_far
scripts_behind k scripts before so_far = each_behind (λ s. classes_declared k s.tops) (λ s. each_behind (top_class k) (top_behind k) s.tops) scripts before so_far
