use Rattle.std.proofs.Common.{rules, ◌≡◌, [], List, ℕ, Option}
use Rattle.gv_base.specs.declared.exception.ExceptionKind.{ExceptionKind}
use Rattle.gv_heap.specs.Heap.{HeapState}
use Rattle.gv_rows.specs.Reply.{DoesThrow}
use Rattle.gv_rows.specs.declared.done.Done.TheVariants as done
use Rattle.gv_calling.proofs.opening.bad_arguments.Goals as goal

no_heap : HeapState
no_heap = record { objects = []; places = []; cells = 0 }

-- what is thrown, whatever the heap is
thrown : {kind k : ExceptionKind} {message m : Option (List ℕ)} → DoesThrow kind message (done.Thrown k m) → (k ≡ kind) × (m ≡ message)
thrown does = ((does no_heap).0, (does no_heap).1)

pub returns-in-Thrown : goal.returns-in-Thrown
returns-in-Thrown c = search (rules, thrown)
