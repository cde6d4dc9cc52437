-- What each name of a script means, by what the script says in reading order (gv_events).
use Rattle.std.specs.Prelude.{ℕ, ◌-◌, ◌==◌, ◌&&◌, Bool, true, false, not, nat_lt, List, [], ◌∷◌, ◌++◌, length, take, slice_get, slice_set, Option, Some, None, option_and_then, option_map, if◌then◌else◌}
use Rattle.std.specs.Int.Bits.{bit_and}
use Rattle.std.specs.Option.{is_some, option_map_or}
use Rattle.gv_classes.specs.Classes.{named}
use Rattle.gv_classes.specs.declared.declared.Declared.{Declared}
use Rattle.gv_classes.specs.declared.declared.Member.{Member}
use Rattle.gv_classes.specs.declared.declared.MemberKind.{MemberKind}
use Rattle.gv_classes.specs.declared.declared.MemberKind.TheVariants as kind
use Rattle.gv_classes.specs.declared.declared.TheConstants.{STATIC}
use Rattle.gv_events.specs.declared.event.Event.{Event}
use Rattle.gv_events.specs.declared.event.Event.TheVariants as event
use Rattle.gv_events.specs.declared.event.Scope.{Scope}
use Rattle.gv_events.specs.declared.event.Scope.TheVariants as scope
use Rattle.gv_tree.specs.declared.ops.Ident.{Ident}
use Rattle.gv_scopes.specs.Numbers.{is_there, with_number, place_of}
use Rattle.gv_scopes.specs.declared.fields.OwnFields.{OwnFields}
use Rattle.gv_scopes.specs.declared.frame.Frame.{Frame}
use Rattle.gv_scopes.specs.declared.known.Known.{Known}
use Rattle.gv_scopes.specs.declared.resolved.Body.{Body}
use Rattle.gv_scopes.specs.declared.resolved.Meaning.{Meaning}
use Rattle.gv_scopes.specs.declared.resolved.Meaning.TheVariants as meaning
use Rattle.gv_scopes.specs.declared.resolved.Resolved.{Resolved}
use Rattle.gv_scopes.specs.declared.resolved.Variable.{Variable}

-- ---- the fields that a class declares itself

abbrev pub no_fields : OwnFields
no_fields = record { names = []; statics = [] }

abbrev pub is_static_member : Member → Bool
is_static_member m = not (bit_and m.flags STATIC == 0)

abbrev pub with_field : Member → OwnFields → OwnFields
with_field m f = record { names = with_number f.names m.name; statics = if is_static_member m then with_number f.statics m.name else f.statics }

abbrev pub with_member : Member → MemberKind → OwnFields → OwnFields
with_member m kind.Field f = with_field m f
with_member m k f = f

abbrev pub fields_of : List Member → OwnFields → OwnFields
fields_of [] f = f
fields_of (m ∷ ms) f = fields_of ms (with_member m m.kind f)

abbrev pub fields_in : Option Declared → OwnFields
fields_in None = no_fields
fields_in (Some d) = fields_of d.members no_fields

abbrev pub class_fields : List Declared → Option ℕ → OwnFields
class_fields classes c = fields_in (option_and_then (slice_get classes) c)

-- a field that is read directly; where there is no object, a static one
abbrev pub own_field : OwnFields → Bool → ℕ → Option ℕ
own_field f is_static name = if is_static && not (is_there f.statics name) then None else place_of f.names name

-- ---- what is known at a place

-- the variables so far, and those of them that a closure captures; the bodies so far; what the names so far mean; the names in
-- scope, the oldest first, each with its variable; the scope there, and those around it, the inner ones last; the fields of the
-- script's class, and of the class there
pub record Naming : Type 0 where
  pub variables : List Variable
  pub shared : List ℕ
  pub bodies : List Body
  pub uses : List Meaning
  pub held : List ℕ
  pub holders : List ℕ
  pub inner : Frame
  pub outer : List Frame
  pub script : OwnFields
  pub fields : OwnFields

-- ---- scopes

-- a body in a scope, where so many names are held: a closure sees what is around it, any other body begins anew
abbrev pub closure_within : ℕ → ℕ → Frame → Frame
closure_within names body f = record { names = names; body = body; it = f.it; in_closure = true; is_static = f.is_static }

abbrev pub member_within : ℕ → ℕ → Bool → Frame
member_within names body is_static = record { names = names; body = body; it = None; in_closure = false; is_static = is_static }

-- a scope that is no body of its own
abbrev pub block_within : ℕ → Frame → Frame
block_within names f = record f { names = names }

abbrev pub body_opened : Scope → Frame → Naming → Naming
body_opened s f n = record n { bodies = n.bodies ++ record { scope = s; parameters = []; captured = [] } ∷ []; outer = n.outer ++ n.inner ∷ []; inner = f }

abbrev pub block_opened : Naming → Naming
block_opened n = record n { outer = n.outer ++ n.inner ∷ []; inner = block_within (length n.held) n.inner }

abbrev pub member_opened : Scope → Bool → Naming → Naming
member_opened s is_static n = body_opened s (member_within (length n.held) (length n.bodies) is_static) n

abbrev pub opened : Scope → Naming → Naming
opened scope.Loop n = block_opened n
opened scope.Switch n = block_opened n
opened scope.Block n = block_opened n
opened scope.Closure n = body_opened scope.Closure (closure_within (length n.held) (length n.bodies) n.inner) n
opened scope.StaticMethod n = member_opened scope.StaticMethod true n
opened scope.StaticField n = member_opened scope.StaticField true n
opened s n = member_opened s false n

-- the names declared in a scope are held up to its end
abbrev pub left_to : Naming → Option Frame → Naming
left_to n None = n
left_to n (Some f) = record n { held = take n.inner.names n.held; holders = take n.inner.names n.holders; inner = f; outer = take (length n.outer - 1) n.outer }

abbrev pub closed : Naming → Naming
closed n = left_to n (slice_get n.outer (length n.outer - 1))

-- ---- variables

-- a variable of the body there
abbrev pub with_variable : ℕ → Naming → Naming
with_variable name n = record n { variables = n.variables ++ record { name = name; body = n.inner.body } ∷ [] }

-- its name is held from then on
abbrev pub declared : ℕ → Naming → Naming
declared name n = record (with_variable name n) {
  held = with_number n.held name;
  holders = if is_there n.held name then n.holders else n.holders ++ length n.variables ∷ [];
}

-- the body of a number, changed where it is there
abbrev pub changed : (Body → Body) → ℕ → List Body → List Body
changed f b bodies = option_map_or (λ body. slice_set bodies b (f body)) (slice_get bodies b) bodies

abbrev pub with_parameter : ℕ → Body → Body
with_parameter v body = record body { parameters = body.parameters ++ v ∷ [] }

-- a variable is a parameter of the body there
abbrev pub taken : ℕ → Naming → Naming
taken v n = record n { bodies = changed (with_parameter v) n.inner.body n.bodies }

-- the parameter of a closure without a parameter list hides one of a closure around it
abbrev pub implied : ℕ → Naming → Naming
implied name n = taken (length n.variables) (record (with_variable name n) { inner = record n.inner { it = Some (length n.variables) } })

-- ---- names

-- the variable that a name means
abbrev pub held_variable : ℕ → Naming → Option ℕ
held_variable name n = option_and_then (slice_get n.holders) (place_of n.held name)

abbrev pub variable_or : Option ℕ → Option ℕ → Option ℕ
variable_or None v = v
variable_or (Some it) v = Some it

abbrev pub variable_of : ℕ → ℕ → Naming → Option ℕ
variable_of it name n = variable_or (if name == it then n.inner.it else None) (held_variable name n)

-- what a name means that is no variable: in a closure, one of three properties of its own; else a field that its class declares
-- itself; a class; or else a property
abbrev pub class_meaning : List Declared → ℕ → Meaning
class_meaning classes name = option_map_or meaning.Class (named classes name) meaning.Property

abbrev pub closure_meaning : Known → List Declared → ℕ → Meaning
closure_meaning k classes name =
    if name == k.owner then meaning.Owner
    else if name == k.delegate then meaning.Delegate
    else if name == k.resolve_strategy then meaning.ResolveStrategy
    else class_meaning classes name

abbrev pub field_here : ℕ → Naming → Option ℕ
field_here name n = own_field n.fields n.inner.is_static name

abbrev pub member_meaning : List Declared → ℕ → Naming → Meaning
member_meaning classes name n = option_map_or meaning.Field (field_here name n) (class_meaning classes name)

abbrev pub other_meaning : Known → List Declared → ℕ → Naming → Meaning
other_meaning k classes name n = if n.inner.in_closure then closure_meaning k classes name else member_meaning classes name n

abbrev pub with_use : Meaning → Naming → Naming
with_use m n = record n { uses = n.uses ++ m ∷ [] }

-- ---- captured variables

abbrev pub with_captured : ℕ → Body → Body
with_captured v body = record body { captured = with_number body.captured v }

-- by a body that stands in the one which declares the variable
abbrev pub captured_in : ℕ → ℕ → ℕ → List Body → List Body
captured_in v declaring b bodies = if nat_lt declaring b then changed (with_captured v) b bodies else bodies

abbrev pub captured_by : ℕ → ℕ → List Frame → List Body → List Body
captured_by v declaring [] bodies = bodies
captured_by v declaring (f ∷ fs) bodies = captured_by v declaring fs (captured_in v declaring f.body bodies)

abbrev pub captured : ℕ → ℕ → Naming → Naming
captured v declaring n = record n {
  shared = with_number n.shared v;
  bodies = captured_in v declaring n.inner.body (captured_by v declaring n.outer n.bodies);
}

-- used in a body: another one than that which declares it captures it
abbrev pub used_in : ℕ → Variable → Naming → Naming
used_in v x n = if x.body == n.inner.body then n else captured v x.body n

abbrev pub used : ℕ → Option Variable → Naming → Naming
used v None n = n
used v (Some x) n = used_in v x n

-- a name that is an expression
abbrev pub name_used : Known → List Declared → ℕ → Option ℕ → Naming → Naming
name_used k classes name None n = with_use (other_meaning k classes name n) n
name_used k classes name (Some v) n = with_use (meaning.Variable v) (used v (slice_get n.variables v) n)

-- a member of `this`
abbrev pub own_meaning : ℕ → Naming → Meaning
own_meaning name n = if n.inner.in_closure then meaning.Property else option_map_or meaning.Field (field_here name n) meaning.Property

-- ---- events

module _ (k : Known) (classes : List Declared) where
  abbrev pub after : Event → Naming → Naming
  after (event.Open s) n = opened s n
  after event.Close n = closed n
  after (event.OpenClass i) n = record n { fields = class_fields classes (named classes i.name) }
  after event.CloseClass n = record n { fields = n.script }
  after (event.Declare i) n = declared i.name n
  after (event.Parameter i) n = taken (length n.variables) (declared i.name n)
  after (event.Implicit name) n = implied name n
  after (event.Use i) n = name_used k classes i.name (variable_of k.it i.name n) n
  after (event.UseOfThis i) n = with_use (own_meaning i.name n) n
  after (event.Class i) n = n
  after (event.Leave p l) n = n
  after (event.This p) n = n
  after (event.SuperCall p) n = n
  after (event.OutOfPlace p) n = n

  abbrev pub after_all : List Event → Naming → Naming
  after_all [] n = n
  after_all (e ∷ es) n = after_all es (after e n)

-- outside of all scopes
abbrev pub outside : OwnFields → Naming
outside script = record {
  variables = [];
  shared = [];
  bodies = [];
  uses = [];
  held = [];
  holders = [];
  inner = member_within 0 0 false;
  outer = [];
  script = script;
  fields = script;
}

-- the whole of a script's events, where its class is known by its name
abbrev pub naming_of : Known → List Declared → List Event → Naming
naming_of k classes events = after_all k classes events (outside (class_fields classes (named classes k.script)))

abbrev pub resolved_in : Naming → Resolved
resolved_in n = record { variables = n.variables; captured = n.shared; bodies = n.bodies; uses = n.uses }

abbrev pub resolved_of : Known → List Declared → List Event → Resolved
resolved_of k classes events = resolved_in (naming_of k classes events)

-- a closure captures the variable
abbrev pub is_shared : Resolved → ℕ → Bool
is_shared r v = is_there r.captured v
