-- Members of classes: what their parts read make, and where none stand.
use Rattle.std.proofs.Common.{◌≡◌, ◌≤◌, ℕ, List, sym, ap, subst, arith, ◌∙◌}
use Rattle.gv_spelling.specs.declared.kinds.Symbol.TheVariants as symbol
use Rattle.gv_lex.specs.declared.token.Token.{Token}
use Rattle.gv_tree.specs.declared.expr.Param.{Param}
use Rattle.gv_tree.specs.declared.ops.Ident.{Ident}
use Rattle.gv_tree.specs.declared.ops.Modifiers.{Modifiers}
use Rattle.gv_tree.specs.declared.ops.VarType.{VarType}
use Rattle.gv_tree.specs.declared.stmt.Stmt.{Stmt}
use Rattle.gv_tree.specs.declared.stmt.Var.{Var}
use Rattle.gv_tree.specs.declared.top.Annotation.{Annotation}
use Rattle.gv_tree.specs.declared.top.Answer.{Answer}
use Rattle.gv_tree.specs.declared.top.Member.{Member}
use Rattle.gv_tree.specs.declared.top.Member.TheVariants as member
use Rattle.gv_tree.specs.declared.top.Method.{Method}
use Rattle.gv_grammar.specs.Tokens.{Eats, EatsAs, kind_of, place_of, name_of, type_name_of, ident, reach}
use Rattle.gv_grammar.specs.Phrases.{Phrase, Nothing}
use Rattle.gv_grammar.specs.Stmts.{is_name_token, Separates, IsVarType, var_def, var_typed, AreVars, last_var, more_vars, var_alone, var_initial}
use Rattle.gv_grammar.specs.Scripts.{AreModifiers, AreAnnotations, IsAnswer, a_void, an_answer, IsRoutine, routine, IsMethod, method, IsMember, a_method, a_constructor, a_field, AreMembers, no_member, member_parted, one_member, AreBehindMember, members_end, members_go_on}
use Rattle.gv_grammar.proofs.Single.{along, apart, as_same, kind_eaten, meant}
use Rattle.gv_grammar.proofs.StmtFirsts.{vars_named}
use Rattle.gv_grammar.proofs.Stmts.{separates_once, var_type_once}
use Rattle.gv_grammar.proofs.Tails.{Stops}
use Rattle.gv_grammar.proofs.Scripts.{modifiers_once, notes_once, routine_once, method_once, type_behind, answer_behind, answer_type, separator_or_brace, member_opens, member_once, separator_opens, behind_member_stops}
use Rattle.gv_cursor.specs.Reading.{Stopped}
use Rattle.gv_stmts.specs.Members.{IsTypeName, a_type_name, BeginsMethod, begins_method, BeginsConstructor, begins_constructor, GoesMethod, goes_method}
use Rattle.gv_stmts.proofs.Routines.{Routine}

-- an answer is the same in each list of tokens
pub answer_in : {one : List Token} (other : List Token) {a : Answer} {ts us : List Token} → IsAnswer one a ts us → IsAnswer other a ts us
answer_in other (a_void p) = a_void p
answer_in other (an_answer (var_def p)) = an_answer (var_def p)
answer_in other (an_answer (var_typed p)) = an_answer (var_typed p)

pub name_or_paren : {n : ℕ} {ts us vs ws : List Token} → ts ≡ us → EatsAs name_of n ts vs → Eats symbol.LeftParen us ws → ⊥
name_or_paren e p q = let a = meant p in let b = ap name_of (ap kind_of e ∙ kind_eaten q) in cc

-- a phrase before a token with which no expression goes on
pub stopped_at : {A : Type 0} (S : Phrase A) {x : A} {ts us vs : List Token} → vs ≡ us → S x ts us → Stops us → Stopped S x ts vs
stopped_at S {x = x} {ts = ts} e d h = along (λ zs. Stopped S x ts zs) e (record { is = d; stops = h })

module _ (tokens : List Token) where
  routine_paren : {ps : List Param} {b : List Stmt} {ts rest : List Token} → IsRoutine tokens ps b ts rest → (us : List Token) × Eats symbol.LeftParen ts us
  routine_paren (routine {us = us} o d l b) = (us, o)

  -- variables have no parenthesis behind their first name
  pub vars_or_paren : {vs : List Var} {n : ℕ} {ts us xs ys : List Token} → AreVars tokens vs ts us → Stops us → EatsAs name_of n ts xs → Eats symbol.LeftParen xs ys → ⊥
  vars_or_paren (last_var (var_alone p f) g) h n o = let a = as_same n p in let b = ap reach (sym (ap kind_of (a.rest)) ∙ kind_eaten o) in omega arith
  vars_or_paren (last_var (var_initial p c d) g) h n o = let a = as_same n p in let k = apart (a.rest) o c in cc
  vars_or_paren (more_vars (var_alone p f) c d) h n o = let a = as_same n p in let k = apart (a.rest) o c in cc
  vars_or_paren (more_vars (var_initial p c g) c2 d) h n o = let a = as_same n p in let k = apart (a.rest) o c in cc

  pub vars_at_paren : {vs : List Var} {ts us xs ys : List Token} → ts ≡ xs → AreVars tokens vs ts us → Eats symbol.LeftParen xs ys → ⊥
  vars_at_paren e d o = let a = vars_named tokens d in let b = ap is_name_token (ap kind_of e ∙ kind_eaten o) in cc

  -- ---- what stands behind annotations and modifiers

  pub record Led (notes : List Annotation) (m : Modifiers) (ts vs : List Token) : Type 0 where
    pub us : List Token
    pub noted : AreAnnotations tokens notes ts us
    pub modifies : AreModifiers m us vs

  pub led_once : {notes ns : List Annotation} {m n : Modifiers} {ts vs us ws : List Token} → Led notes m ts vs → AreAnnotations tokens ns ts us → AreModifiers n us ws → vs ≡ ws
  led_once {n = n} {ws = ws} l p q = let a = notes_once tokens (l.noted) p in let b = modifiers_once (l.modifies) (along (λ zs. AreModifiers n zs ws) (a.rest) q) in b.rest

  pub method_here : {notes : List Annotation} {m : Modifiers} {x : Method} {ts vs rest : List Token} → Led notes m ts vs → GoesMethod tokens notes m x vs rest → IsMethod tokens x ts rest
  method_here l (goes_method d i r) = method (l.noted) (l.modifies) d i r

  module _ (class : ℕ) where
    -- ---- constructors

    pub constructor_here : {notes : List Annotation} {m : Modifiers} {i : Ident} {ps : List Param} {b : List Stmt} {ts vs ws rest : List Token} → Led notes m ts vs → BeginsConstructor class vs
        → IsTypeName i vs ws → IsRoutine tokens ps b ws rest → IsMember tokens class (member.Constructor (record { annotations = notes; modifiers = m; ident = i; params = ps; body = b })) ts rest
    constructor_here {notes = notes} {m = m} {ps = ps} {b = b} {ts = ts} {vs = vs} {rest = rest} l (begins_constructor q o) (a_type_name {rest = ws} p) r =
        let a = as_same q p in
        subst (λ n. IsMember tokens class (member.Constructor (record { annotations = notes; modifiers = m; ident = ident (place_of vs) n; params = ps; body = b })) ts rest) (a.tree)
        (a_constructor (l.noted) (l.modifies) q (along (λ zs. IsRoutine tokens ps b zs rest) (a.rest) r))

    -- where a constructor begins, a member is one
    pub constructor_only : {notes : List Annotation} {m : Modifiers} {i : Ident} {y : Member} {ts vs ws after : List Token} → Led notes m ts vs → BeginsConstructor class vs → IsTypeName i vs ws
        → IsMember tokens class y ts after → (r : List Param × List Stmt) × Routine tokens r ws after
    constructor_only l (begins_constructor q o) (a_type_name p) (a_method (method {a = x} {ws = ws2} p2 k d n e)) =
        let a = led_once l p2 k in
        let b = answer_behind tokens (along (λ zs. IsAnswer tokens x zs ws2) a d) q in absurd (name_or_paren b n o)
    constructor_only l (begins_constructor q o) (a_type_name p) (a_constructor {ps = ps} {b = b} {ws = ws2} {rest = r} p2 k n e) =
        let a = led_once l p2 k in
        let c = as_same p (along (λ zs. EatsAs type_name_of class zs ws2) a n) in ((ps, b), along (λ zs. IsRoutine tokens ps b zs r) (c.rest) e)
    constructor_only l (begins_constructor q o) (a_type_name p) (a_field {v = v} {ws = ws2} p2 k d e) =
        let a = led_once l p2 k in
        let b = type_behind tokens (along (λ zs. IsVarType tokens v zs ws2) a d) q in absurd (vars_at_paren b e o)

    pub no_constructor_name : {vs : List Token} → BeginsConstructor class vs → Nothing IsTypeName vs → ⊥
    no_constructor_name (begins_constructor q o) f = f _ _ (a_type_name q)

    pub no_constructor_routine : {notes : List Annotation} {m : Modifiers} {i : Ident} {ts vs ws : List Token} → Led notes m ts vs → BeginsConstructor class vs → IsTypeName i vs ws
        → Nothing (Routine tokens) ws → Nothing (Stopped (IsMember tokens class)) ts
    no_constructor_routine l q p f y after d = let a = constructor_only l q p (d.is) in f (a.0) after (a.1)

    pub constructor_goes_on : {notes : List Annotation} {m : Modifiers} {i : Ident} {ps : List Param} {b : List Stmt} {ts vs ws rest : List Token} → Led notes m ts vs → BeginsConstructor class vs → IsTypeName i vs ws
        → IsRoutine tokens ps b ws rest → reach (kind_of rest) ≤ 12 → Nothing (Stopped (IsMember tokens class)) ts
    constructor_goes_on l q p r h y after d =
        let a = constructor_only l q p (d.is) in
        let c = routine_once tokens r (a.1) in
        let e = ap (λ zs. reach (kind_of zs)) (c.rest) in
        let g = d.stops in absurd (omega arith)

    -- ---- methods

    pub method_only : {notes : List Annotation} {m : Modifiers} {y : Member} {ts vs after : List Token} → Led notes m ts vs → BeginsMethod vs → (BeginsConstructor class vs → ⊥)
        → IsMember tokens class y ts after → Stops after → (x : Method) × GoesMethod tokens notes m x vs after
    method_only {vs = vs} l b f (a_method (method {a = x} {vs = vs2} {ws = ws2} p2 k d n e)) h = (_, goes_method (along (λ zs. IsAnswer tokens x zs ws2) (led_once l p2 k) d) n e)
    method_only l b f (a_constructor {ws = ws2} p2 k n e) h = let a = routine_paren e in absurd (f (begins_constructor (along (λ zs. EatsAs type_name_of class zs ws2) (led_once l p2 k) n) (a.1)))
    method_only l (begins_method {a = x} {n = n} {us = us} {vs = xs} d i o) f (a_field {v = v} {vars = vars} {ws = ws2} {rest = r} p2 k w e) h =
        let a = answer_type tokens (answer_in tokens d) (along (λ zs. IsVarType tokens v zs ws2) (led_once l p2 k) w) in
        absurd (vars_or_paren (along (λ zs. AreVars tokens vars zs r) a e) h i o)

    pub no_method : {notes : List Annotation} {m : Modifiers} {ts vs : List Token} → Led notes m ts vs → BeginsMethod vs → (BeginsConstructor class vs → ⊥)
        → Nothing (GoesMethod tokens notes m) vs → Nothing (Stopped (IsMember tokens class)) ts
    no_method l b f g y after d = let a = method_only l b f (d.is) (d.stops) in g (a.0) after (a.1)

    pub method_goes_on : {notes : List Annotation} {m : Modifiers} {x : Method} {ts vs rest : List Token} → Led notes m ts vs → BeginsMethod vs → (BeginsConstructor class vs → ⊥)
        → GoesMethod tokens notes m x vs rest → reach (kind_of rest) ≤ 12 → Nothing (Stopped (IsMember tokens class)) ts
    method_goes_on l b f g h y after d =
        let a = method_only l b f (d.is) (d.stops) in
        let c = method_once tokens (method_here l g) (method_here l (a.1)) in
        let e = ap (λ zs. reach (kind_of zs)) (c.rest) in
        let k = d.stops in absurd (omega arith)

    -- ---- fields

    pub record Fields (vs after : List Token) : Type 0 where
      pub v : VarType
      pub vars : List Var
      pub ws : List Token
      pub written : IsVarType tokens v vs ws
      pub listed : AreVars tokens vars ws after

    pub field_only : {notes : List Annotation} {m : Modifiers} {y : Member} {ts vs after : List Token} → Led notes m ts vs → (BeginsMethod vs → ⊥) → (BeginsConstructor class vs → ⊥)
        → IsMember tokens class y ts after → Fields vs after
    field_only l b f (a_method (method {a = x} {ws = ws2} p2 k d n e)) = let a = routine_paren e in absurd (b (begins_method {tokens = tokens} (along (λ zs. IsAnswer tokens x zs ws2) (led_once l p2 k) d) n (a.1)))
    field_only l b f (a_constructor {ws = ws2} p2 k n e) = let a = routine_paren e in absurd (f (begins_constructor (along (λ zs. EatsAs type_name_of class zs ws2) (led_once l p2 k) n) (a.1)))
    field_only l b f (a_field {v = v} {vars = vars} {ws = ws2} p2 k w e) = record { v = v; vars = vars; ws = ws2; written = along (λ zs. IsVarType tokens v zs ws2) (led_once l p2 k) w; listed = e }

    pub no_field_type : {notes : List Annotation} {m : Modifiers} {ts vs : List Token} → Led notes m ts vs → (BeginsMethod vs → ⊥) → (BeginsConstructor class vs → ⊥)
        → Nothing (IsVarType tokens) vs → Nothing (Stopped (IsMember tokens class)) ts
    no_field_type l b f g y after d = let a = field_only l b f (d.is) in g (a.v) (a.ws) (a.written)

    pub no_field_vars : {notes : List Annotation} {m : Modifiers} {v : VarType} {ts vs ws : List Token} → Led notes m ts vs → (BeginsMethod vs → ⊥) → (BeginsConstructor class vs → ⊥)
        → IsVarType tokens v vs ws → Nothing (Stopped (AreVars tokens)) ws → Nothing (Stopped (IsMember tokens class)) ts
    no_field_vars l b f w g y after d =
        let a = field_only l b f (d.is) in
        let c = var_type_once tokens w (a.written) in
        g (a.vars) after (record { is = along (λ zs. AreVars tokens (a.vars) zs after) (c.rest) (a.listed); stops = d.stops })

    pub field_here : {notes : List Annotation} {m : Modifiers} {v : VarType} {vars : List Var} {ts vs ws rest : List Token} → Led notes m ts vs → IsVarType tokens v vs ws → Stopped (AreVars tokens) vars ws rest
        → Stopped (IsMember tokens class) (member.Field (record { annotations = notes; modifiers = m; written = v; vars = vars })) ts rest
    field_here l w d = record { is = a_field (l.noted) (l.modifies) w (d.is); stops = d.stops }

    -- ---- members

    -- behind a separator stand the members that stand before it
    pub not_parted : {ts us : List Token} → Separates ts us → Nothing (AreMembers tokens class) us → Nothing (AreMembers tokens class) ts
    not_parted s f y after (no_member p) = separator_or_brace s p
    not_parted s f y after (member_parted q e) = f y after (along (λ zs. AreMembers tokens class y zs after) (separates_once s q) e)
    not_parted s f y after (one_member d g) = let a = member_opens tokens d in let b = separator_opens s in cc

    pub no_members_here : {ts us vs : List Token} → us ≡ ts → ((after : List Token) → Separates ts after → ⊥) → vs ≡ us → ((after : List Token) → Eats symbol.RightBrace us after → ⊥)
        → Nothing (Stopped (IsMember tokens class)) vs → Nothing (AreMembers tokens class) ts
    no_members_here e s k p f y after (no_member q) = p after (along (λ zs. Eats symbol.RightBrace zs after) e q)
    no_members_here e s k p f y after (member_parted q d) = s _ q
    no_members_here e s k p f y after (one_member {m = m} {us = us} d g) = f m us (record { is = along (λ zs. IsMember tokens class m zs us) (k ∙ e) d; stops = behind_member_stops tokens g })

    -- what stands behind a member is what stands there
    not_behind : {x : Member} {ts us : List Token} → Stopped (IsMember tokens class) x ts us → ((ms : List Member) (after : List Token) → AreBehindMember tokens class ms us after → ⊥) → Nothing (AreMembers tokens class) ts
    not_behind d f y after (no_member p) = let a = rw (kind_eaten p) at (member_opens tokens (d.is)) in cc
    not_behind d f y after (member_parted q e) = let a = member_opens tokens (d.is) in let b = separator_opens q in cc
    not_behind d f y after (one_member {ms = ms} e g) = let a = member_once tokens (d.is) e (d.stops) (behind_member_stops tokens g) in f ms after (along (λ zs. AreBehindMember tokens class ms zs after) (a.rest) g)

    pub no_more_members : {x : Member} {ts us vs ws : List Token} → Stopped (IsMember tokens class) x ts us → vs ≡ us → ((after : List Token) → Eats symbol.RightBrace us after → ⊥) → Separates vs ws
        → Nothing (AreMembers tokens class) ws → Nothing (AreMembers tokens class) ts
    no_more_members {us = us} {vs = vs} {ws = ws} d e p s f = not_behind d (λ ms after g. go ms after g)
      where
        go : (ms : List Member) (after : List Token) → AreBehindMember tokens class ms us after → ⊥
        go ms after (members_end q) = p after q
        go ms after (members_go_on q h) = f ms after (along (λ zs. AreMembers tokens class ms zs after) (separates_once (along (λ zs. Separates zs ws) (sym e) s) q) h)

    pub members_break_off : {x : Member} {ts us vs : List Token} → Stopped (IsMember tokens class) x ts us → vs ≡ us → ((after : List Token) → Eats symbol.RightBrace us after → ⊥)
        → ((after : List Token) → Separates vs after → ⊥) → Nothing (AreMembers tokens class) ts
    members_break_off {us = us} {vs = vs} d e p s = not_behind d (λ ms after g. go ms after g)
      where
        go : (ms : List Member) (after : List Token) → AreBehindMember tokens class ms us after → ⊥
        go ms after (members_end q) = p after q
        go ms after (members_go_on {us = ws} q h) = s ws (along (λ zs. Separates zs ws) e q)
