-- What is thrown with a text of two parts, each of which is known.
use Rattle.std.proofs.Common.{◌≡◌, ℕ, List, subst}
use Rattle.gv_base.specs.declared.exception.ExceptionKind.{ExceptionKind}
use Rattle.gv_rows.specs.Reply.{DoesThrow, said}
use Rattle.gv_rows.specs.declared.done.Done.{Done}

pub same_parts : (kind : ExceptionKind) (a b x y : List ℕ) (result : Done) → a ≡ x → b ≡ y → DoesThrow kind (said a b) result → DoesThrow kind (said x y) result
same_parts kind a b x y result e f h = subst (λ t. DoesThrow kind (said x t) result) f (subst (λ t. DoesThrow kind (said t b) result) e h)
