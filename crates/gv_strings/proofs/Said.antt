-- What is thrown with a text that is known.
use Rattle.std.proofs.Common.{◌≡◌, ℕ, List, IfOk, MatchResult, Ok, Err, Result, Some, subst, sym}
use Rattle.gv_base.specs.declared.exception.ExceptionKind.{ExceptionKind}
use Rattle.gv_rows.specs.Reply.{Did, DoesThrow, Throws, said}
use Rattle.gv_rows.specs.declared.done.Done.{Done}
use Rattle.gv_rows.specs.declared.done.Done.TheVariants as done

-- of two parts, each of which is known
pub same_parts : (kind : ExceptionKind) (a b x y : List ℕ) (result : Done) → a ≡ x → b ≡ y → DoesThrow kind (said a b) result → DoesThrow kind (said x y) result
same_parts kind a b x y result e f h = subst (λ t. DoesThrow kind (said x t) result) f (subst (λ t. DoesThrow kind (said t b) result) e h)

-- of a text that was made, or for which memory was wanting
pub thrown : {S E : Type 0} (bytes : S → List ℕ) (kind : ExceptionKind) (message : List ℕ) (text : Result S E) (result : Done) →
    MatchResult text (λ t. DoesThrow kind (Some (bytes t)) result) (λ _. result ≡ done.OutOfMemory) → IfOk text (λ t. bytes t ≡ message) → DoesThrow kind (Some message) result
thrown bytes kind message (Ok t) result h e = subst (λ m. DoesThrow kind (Some m) result) e h
thrown bytes kind message (Err error) result h e = λ heap. subst (λ r. Did heap (Throws kind (Some message)) r heap) (sym h) tt
