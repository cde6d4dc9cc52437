-- The first refusal that a script's events give: of names declared twice, of `break` and `continue`, of `this` and `super`.
use Rattle.std.specs.Prelude.{ℕ, ◌-◌, ◌==◌, Bool, true, false, List, [], ◌∷◌, ◌++◌, length, take, slice_get, Option, Some, None, if◌then◌else◌}
use Rattle.std.specs.List.{list_any}
use Rattle.gv_base.specs.declared.refusal.Place.{Place}
use Rattle.gv_base.specs.declared.refusal.Refusal.{Refusal}
use Rattle.gv_base.specs.declared.refusal.RefusalKind.{RefusalKind}
use Rattle.gv_base.specs.declared.refusal.RefusalKind.TheVariants.{NameDeclaredTwice, NothingToLeave, ThisOrSuperOutOfPlace}
use Rattle.gv_tree.specs.declared.ops.Ident.{Ident}
use Rattle.gv_tree.specs.declared.ops.Leave.{Leave}
use Rattle.gv_tree.specs.declared.ops.Leave.TheVariants.{Break, Continue}
use Rattle.gv_events.specs.declared.event.Event.{Event}
use Rattle.gv_events.specs.declared.event.Event.TheVariants as event
use Rattle.gv_events.specs.declared.event.Scope.{Scope}
use Rattle.gv_events.specs.declared.event.Scope.TheVariants as scope
use Rattle.gv_refusals.specs.Order.{earlier}
use Rattle.gv_bodies.specs.declared.frame.Frame.{Frame}

-- what is known at a place: the names held, the oldest first; the scope there; those around it, the inner ones last; and the
-- first refusal so far
pub record WatchState : Type 0 where
  pub held : List ℕ
  pub inner : Frame
  pub outer : List Frame
  pub first : Option Refusal

-- ---- scopes

-- a scope in another, where so many names are held. A closure and a method let nothing leave what is around them; a block in a
-- switch or in a loop can be left as that can.
abbrev pub within : Scope → ℕ → Frame → Frame
within scope.Loop names f = record { names = names; breaks = true; continues = true; member = f.member }
within scope.Switch names f = record { names = names; breaks = true; continues = f.continues; member = f.member }
within scope.Block names f = record { names = names; breaks = f.breaks; continues = f.continues; member = f.member }
within scope.Closure names f = record { names = names; breaks = false; continues = false; member = f.member }
within s names f = record { names = names; breaks = false; continues = false; member = s }

abbrev pub opened : Scope → WatchState → WatchState
opened s w = record w { inner = within s (length w.held) w.inner; outer = w.outer ++ w.inner ∷ [] }

-- the names declared in a scope are held up to its end
abbrev pub left_to : WatchState → Option Frame → WatchState
left_to w None = w
left_to w (Some f) = record w { held = take w.inner.names w.held; inner = f; outer = take (length w.outer - 1) w.outer }

abbrev pub closed : WatchState → WatchState
closed w = left_to w (slice_get w.outer (length w.outer - 1))

-- ---- refusals

abbrev pub noted : RefusalKind → Place → WatchState → WatchState
noted kind place w = record w { first = earlier w.first (record { kind = kind; place = place }) }

abbrev pub unless : Bool → RefusalKind → Place → WatchState → WatchState
unless fine kind place w = if fine then w else noted kind place w

-- ---- names

abbrev pub holds : List ℕ → ℕ → Bool
holds names name = list_any (λ n. n == name) names

abbrev pub held_too : ℕ → WatchState → WatchState
held_too name w = if holds w.held name then w else record w { held = w.held ++ name ∷ [] }

abbrev pub declared : Ident → WatchState → WatchState
declared i w = if holds w.held i.name then noted NameDeclaredTwice i.place w else record w { held = w.held ++ i.name ∷ [] }

-- ---- ways out, this and super

abbrev pub may_leave : Leave → Frame → Bool
may_leave Break f = f.breaks
may_leave Continue f = f.continues

abbrev pub has_this : Scope → Bool
has_this scope.StaticMethod = false
has_this s = true

abbrev pub has_super : Scope → Bool
has_super scope.Method = true
has_super s = false

-- ---- events

abbrev pub after : Event → WatchState → WatchState
after (event.Open s) w = opened s w
after event.Close w = closed w
after (event.OpenClass i) w = w
after event.CloseClass w = w
after (event.Declare i) w = declared i w
after (event.Parameter i) w = declared i w
after (event.Implicit name) w = held_too name w
after (event.Use i) w = w
after (event.UseOfThis i) w = w
after (event.Class name) w = w
after (event.Leave p l) w = unless (may_leave l w.inner) NothingToLeave p w
after (event.This p) w = unless (has_this w.inner.member) ThisOrSuperOutOfPlace p w
after (event.SuperCall p) w = unless (has_super w.inner.member) ThisOrSuperOutOfPlace p w
after (event.OutOfPlace p) w = noted ThisOrSuperOutOfPlace p w

abbrev pub after_all : List Event → WatchState → WatchState
after_all [] w = w
after_all (e ∷ es) w = after_all es (after e w)

-- outside of all scopes
abbrev pub outside : Option Refusal → WatchState
outside first = record { held = []; inner = record { names = 0; breaks = false; continues = false; member = scope.Script }; outer = []; first = first }

-- the first refusal of a script's bodies, or one that was found before where that stands first
abbrev pub bodies_refused : List Event → Option Refusal → Option Refusal
bodies_refused events first = (after_all events (outside first)).first
