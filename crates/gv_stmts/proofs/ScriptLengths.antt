-- Each phrase of a class and of a script takes tokens, from the front.
use Rattle.std.proofs.Common.{List, ℕ, Option}
use Rattle.gv_lex.specs.declared.token.Token.{Token}
use Rattle.gv_tree.specs.declared.expr.Param.{Param}
use Rattle.gv_tree.specs.declared.ops.Ident.{Ident}
use Rattle.gv_tree.specs.declared.ops.Modifiers.{Modifiers}
use Rattle.gv_tree.specs.declared.stmt.Stmt.{Stmt}
use Rattle.gv_tree.specs.declared.top.Annotation.{Annotation}
use Rattle.gv_tree.specs.declared.top.Answer.{Answer}
use Rattle.gv_tree.specs.declared.top.ClassTree.{ClassTree}
use Rattle.gv_tree.specs.declared.top.Import.{Import}
use Rattle.gv_tree.specs.declared.top.Member.{Member}
use Rattle.gv_tree.specs.declared.top.Method.{Method}
use Rattle.gv_tree.specs.declared.top.Setting.{Setting}
use Rattle.gv_tree.specs.declared.top.Top.{Top}
use Rattle.gv_spelling.specs.declared.kinds.Keyword.{Keyword}
use Rattle.gv_grammar.specs.Phrases.{Takes}
use Rattle.gv_grammar.specs.Scripts.{AreModifiers, no_modifier, a_modifier, IsDotted, last_dotted, more_dotted, is_all, not_all, IsImport, an_import, MayName, a_name, no_name, AreSettings, last_setting, more_settings, MaySettings, no_parens, empty_parens, settings, AreAnnotations, no_annotation, an_annotation, IsAnswer, a_void, an_answer, IsRoutine, routine, IsMethod, method, IsMember, a_method, a_constructor, a_field, AreMembers, no_member, member_parted, one_member, AreBehindMember, members_end, members_go_on, IsClass, a_class, IsTop, top_import, top_class, top_method, top_decl, top_stmt}
use Rattle.gv_grammar.proofs.Lengths.{takes_none, takes_one, then, weaken, of_eats, of_keyword, of_as}
use Rattle.gv_grammar.proofs.StmtLengths.{behind, of_separates, of_may_line, of_value, of_var_type, of_params, of_vars, of_decl, of_stmt, of_block}

pub of_modifiers : {m : Modifiers} {ts rest : List Token} → AreModifiers m ts rest → Takes 0 ts rest
of_modifiers (no_modifier p) = takes_none
of_modifiers (a_modifier d p) = weaken (then takes_one (of_modifiers d))

pub of_dotted : {is : List Ident} {ts rest : List Token} → IsDotted is ts rest → Takes 1 ts rest
of_dotted (last_dotted p f) = of_as p
of_dotted (more_dotted p c d) = then (of_as p) (then (of_eats c) (of_dotted d))

pub of_import : {i : Import} {ts rest : List Token} → IsImport i ts rest → Takes 1 ts rest
of_import (an_import p d (is_all q)) = then (of_keyword p) (then (of_dotted d) (of_eats q))
of_import (an_import p d (not_all f)) = then (of_keyword p) (of_dotted d)

pub of_may_name : {k : Keyword} {x : Option Ident} {ts rest : List Token} → MayName k x ts rest → Takes 0 ts rest
of_may_name (a_name p q) = weaken (then (of_keyword p) (of_as q))
of_may_name (no_name f) = takes_none

module _ (tokens : List Token) where
  pub of_settings : {ss : List Setting} {ts rest : List Token} → AreSettings tokens ss ts rest → Takes 1 ts rest
  of_settings (last_setting n e d c) = then (of_as n) (then (of_eats e) (then (of_value tokens d) (of_eats c)))
  of_settings (more_settings n e d c g) = then (of_as n) (then (of_eats e) (then (of_value tokens d) (then (of_eats c) (of_settings g))))

  pub of_may_settings : {ss : List Setting} {ts rest : List Token} → MaySettings tokens ss ts rest → Takes 0 ts rest
  of_may_settings (no_parens f) = takes_none
  of_may_settings (empty_parens p q) = weaken (then (of_eats p) (of_eats q))
  of_may_settings (settings p d) = weaken (then (of_eats p) (of_settings d))

  pub of_notes : {ns : List Annotation} {ts rest : List Token} → AreAnnotations tokens ns ts rest → Takes 0 ts rest
  of_notes (no_annotation f) = takes_none
  of_notes (an_annotation p d s l g) = weaken (then (of_eats p) (then (of_dotted d) (then (of_may_settings s) (then (of_may_line l) (of_notes g)))))

  pub of_answer : {a : Answer} {ts rest : List Token} → IsAnswer tokens a ts rest → Takes 1 ts rest
  of_answer (a_void p) = of_keyword p
  of_answer (an_answer d) = of_var_type tokens d

  pub of_routine : {ps : List Param} {b : List Stmt} {ts rest : List Token} → IsRoutine tokens ps b ts rest → Takes 1 ts rest
  of_routine (routine o d l b) = then (of_eats o) (then (of_params tokens d) (then (of_may_line l) (of_block tokens b)))

  pub of_method : {m : Method} {ts rest : List Token} → IsMethod tokens m ts rest → Takes 0 ts rest
  of_method (method p m a n r) = then (of_notes p) (then (of_modifiers m) (weaken (then (of_answer a) (then (of_as n) (of_routine r)))))

  pub of_member : {class : ℕ} {m : Member} {ts rest : List Token} → IsMember tokens class m ts rest → Takes 0 ts rest
  of_member (a_method d) = of_method d
  of_member (a_constructor p m n r) = then (of_notes p) (then (of_modifiers m) (weaken (then (of_as n) (of_routine r))))
  of_member (a_field p m w d) = then (of_notes p) (then (of_modifiers m) (weaken (then (of_var_type tokens w) (of_vars tokens d))))

  mutual
    pub of_members : {class : ℕ} {ms : List Member} {ts rest : List Token} → AreMembers tokens class ms ts rest → Takes 1 ts rest
    of_members (no_member p) = of_eats p
    of_members (member_parted p d) = then (of_separates p) (of_members d)
    of_members (one_member d g) = behind (of_member d) (of_behind_member g)

    pub of_behind_member : {class : ℕ} {ms : List Member} {ts rest : List Token} → AreBehindMember tokens class ms ts rest → Takes 1 ts rest
    of_behind_member (members_end p) = of_eats p
    of_behind_member (members_go_on p d) = then (of_separates p) (of_members d)

  pub of_class : {c : ClassTree} {ts rest : List Token} → IsClass tokens c ts rest → Takes 0 ts rest
  of_class (a_class p m k n e f l o d) =
      then (of_notes p) (then (of_modifiers m) (weaken (then (of_keyword k) (then (of_as n) (then (of_may_name e) (then (of_may_name f) (then (of_may_line l) (then (of_eats o) (of_members d)))))))))

  pub of_top : {x : Top} {ts rest : List Token} → IsTop tokens x ts rest → Takes 0 ts rest
  of_top (top_import d) = weaken (of_import d)
  of_top (top_class d) = of_class d
  of_top (top_method d) = of_method d
  of_top (top_decl p d) = then (of_notes p) (weaken (of_decl tokens d))
  of_top (top_stmt d) = weaken (of_stmt tokens d)
