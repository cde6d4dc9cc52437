-- Each member with a rest parameter has a type.
use Rattle.std.proofs.Common.{◌≡◌, refl, ap, ℕ, zero, suc, Bool, true, false, ◌||◌, ◌==◌, ◌+◌, List, [], ◌∷◌, map, if◌then◌else◌}
use Rattle.std.specs.Int.Bits.{bit_and}
use Rattle.std.specs.List.{list_all, list_any}
use Rattle.std.proofs.lemmas.List.Folds.{list_all-append}
use Rattle.gv_classes.specs.Classes.{AreRestsTyped, has_rest_type, not_empty}
use Rattle.gv_classes.specs.declared.declared.Member.{Member}
use Rattle.gv_classes.specs.declared.declared.MemberKind.{MemberKind}
use Rattle.gv_classes.specs.declared.declared.MemberKind.TheVariants as kind
use Rattle.gv_classes.specs.declared.declared.TheConstants.{STATIC, FINAL, PRIVATE, REST}
use Rattle.gv_declare.specs.Members.{Made, put, each, param_type, kept, defaults, flag, version, versions, field_flags, field_made, field_members, member_members, decl_flags, top_members, script_members, script_declared, all_members}
use Rattle.gv_declare.specs.declared.known.Known.{Known}
use Rattle.gv_events.specs.Events.{has_field}
use Rattle.gv_events.specs.declared.words.Words.{Words}
use Rattle.gv_tree.specs.declared.expr.Param.{Param, out-Param}
use Rattle.gv_tree.specs.declared.ops.Ident.{Ident}
use Rattle.gv_tree.specs.declared.ops.Modifiers.{Modifiers}
use Rattle.gv_tree.specs.declared.ops.VarType.{VarType}
use Rattle.gv_tree.specs.declared.stmt.Decl.{out-Decl}
use Rattle.gv_tree.specs.declared.stmt.Var.{Var}
use Rattle.gv_tree.specs.declared.top.Member.{Member as MemberTree}
use Rattle.gv_tree.specs.declared.top.Member.TheVariants as member
use Rattle.gv_tree.specs.declared.top.Script.{Script}
use Rattle.gv_tree.specs.declared.top.Top.{Top}
use Rattle.gv_tree.specs.declared.top.Top.TheVariants as top

abbrev pub AreTyped : List Member → Type 0
AreTyped members = list_all has_rest_type members ≡ true

or_true : (b : Bool) → (b || true) ≡ true
or_true true = refl
or_true false = refl

-- the other flags leave that of a rest parameter alone
no_rest : (a b c : Bool) → (bit_and (flag a STATIC + flag b FINAL + flag c PRIVATE + flag false REST) REST == 0) ≡ true
no_rest true true true = refl
no_rest true true false = refl
no_rest true false true = refl
no_rest true false false = refl
no_rest false true true = refl
no_rest false true false = refl
no_rest false false true = refl
no_rest false false false = refl

-- a rest parameter that is kept has a type
kept_typed : (k : Known) (a b c : Bool) (xs : List Param)
    → ((bit_and (flag a STATIC + flag b FINAL + flag c PRIVATE + flag (list_any (λ x. (out-Param x).is_rest) xs) REST) REST == 0) || not_empty (map (param_type k) xs)) ≡ true
kept_typed k a b c [] = ap (λ t. t || false) (no_rest a b c)
kept_typed k a b c (x ∷ xs) = or_true _

version_typed : (k : Known) (what : MemberKind) (i : Ident) (m : Modifiers) (params : List Param) (n : ℕ) → has_rest_type (version k what i m params n) ≡ true
version_typed k what i m params n = kept_typed k m.is_static m.is_final m.is_private (kept n params)

field_typed : (k : Known) (w : VarType) (flags : ℕ) (v : Var) → has_rest_type (field_made k w flags v) ≡ true
field_typed k w flags v = or_true _

put_typed : (m : Member) (so_far : List Member) → has_rest_type m ≡ true → AreTyped so_far → AreTyped (put m so_far)
put_typed m so_far one before = rw (list_all-append has_rest_type so_far (m ∷ []), before, one) refl

each_typed : {X : Type 0} (f : X → Made) → ((x : X) (so_far : List Member) → AreTyped so_far → AreTyped (f x so_far))
    → (xs : List X) (so_far : List Member) → AreTyped so_far → AreTyped (each f xs so_far)
each_typed f h [] so_far before = before
each_typed f h (x ∷ xs) so_far before = each_typed f h xs (f x so_far) (h x so_far before)

versions_typed : (f : ℕ → Member) → ((n : ℕ) → has_rest_type (f n) ≡ true) → (n : ℕ) (so_far : List Member) → AreTyped so_far → AreTyped (versions f n so_far)
versions_typed f h zero so_far before = put_typed (f 0) so_far (h 0) before
versions_typed f h (suc n) so_far before = versions_typed f h n (put (f (suc n)) so_far) (put_typed (f (suc n)) so_far (h (suc n)) before)

all_versions_typed : (k : Known) (what : MemberKind) (i : Ident) (m : Modifiers) (params : List Param) (so_far : List Member) → AreTyped so_far
    → AreTyped (versions (version k what i m params) (defaults params) so_far)
all_versions_typed k what i m params so_far before = versions_typed (version k what i m params) (version_typed k what i m params) (defaults params) so_far before

fields_typed : (k : Known) (w : VarType) (flags : ℕ) (vars : List Var) (so_far : List Member) → AreTyped so_far → AreTyped (field_members k w flags vars so_far)
fields_typed k w flags vars so_far before = each_typed (λ v. put (field_made k w flags v)) (λ v so_far before. put_typed (field_made k w flags v) so_far (field_typed k w flags v) before) vars so_far before

member_typed : (k : Known) (m : MemberTree) (so_far : List Member) → AreTyped so_far → AreTyped (member_members k m so_far)
member_typed k (member.Method m) so_far before = all_versions_typed k kind.Method m.ident m.modifiers m.params so_far before
member_typed k (member.Constructor c) so_far before = all_versions_typed k kind.Constructor c.ident c.modifiers c.params so_far before
member_typed k (member.Field f) so_far before = fields_typed k f.written (field_flags f.modifiers) f.vars so_far before

-- of a class
pub class_typed : (k : Known) (trees : List MemberTree) {before members : List Member} → before ≡ [] → members ≡ each (member_members k) trees before → AreTyped members
class_typed k trees none made = rw (made, none) (each_typed (member_members k) (member_typed k) trees [] refl)

chosen_typed : (b : Bool) (members so_far : List Member) → AreTyped members → AreTyped so_far → AreTyped (if b then members else so_far)
chosen_typed true members so_far more before = more
chosen_typed false members so_far more before = before

top_typed : (k : Known) (words : Words) (t : Top) (so_far : List Member) → AreTyped so_far → AreTyped (top_members k words t so_far)
top_typed k words (top.Method m) so_far before = all_versions_typed k kind.Method m.ident m.modifiers m.params so_far before
top_typed k words (top.Decl notes d) so_far before =
    chosen_typed (has_field words notes) _ so_far (fields_typed k (out-Decl d).written (decl_flags d) (out-Decl d).vars so_far before) before
top_typed k words (top.Import i) so_far before = before
top_typed k words (top.Class c) so_far before = before
top_typed k words (top.Stmt s) so_far before = before

-- of the script's class
pub script_typed : (k : Known) (words : Words) (scripts : List Script) → AreRestsTyped (script_declared k (all_members k words scripts))
script_typed k words scripts = each_typed (λ s. script_members k words s.tops) (λ s. each_typed (top_members k words) (top_typed k words) s.tops) scripts [] refl
