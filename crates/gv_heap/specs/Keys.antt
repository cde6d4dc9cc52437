-- When two keys of a map are the same: exactly where they are equal.
use Rattle.std.specs.Prelude.{◌≡◌, Bool, true, false, not, ◌==◌, bytes_eq, if◌then◌else◌, refl}
use Rattle.std.specs.Bool.{Decides}
use Rattle.std.specs.Cmp.{IsEquivalence, decided, signed_Decides}
use Rattle.std.specs.Ordering.{int_eq}
use Rattle.std.proofs.Common.{ap, sym}
use Rattle.std.proofs.lemmas.Slice.Eq.{bytes_eq-Decides}
use Rattle.std.proofs.lemmas.Bool.Decides.{Decides-eqb}
use Rattle.gv_heap.specs.declared.key.MapKey.{MapKey}
use Rattle.gv_heap.specs.declared.key.MapKey.TheVariants.{Null, Bool as Truth, Int, Long, Text, GText, Class, Obj}

-- keys of two kinds differ: an Integer from a Long, the text of a GString from that of a String
abbrev pub same_key : MapKey → MapKey → Bool
same_key Null Null = true
same_key (Truth x) (Truth y) = if x then y else not y
same_key (Int x) (Int y) = int_eq x y
same_key (Long x) (Long y) = int_eq x y
same_key (Text x) (Text y) = bytes_eq x y
same_key (GText x) (GText y) = bytes_eq x y
same_key (Class x) (Class y) = x == y
same_key (Obj x) (Obj y) = x == y
same_key a b = false

-- a test of what a key holds decides the key
module _ {A : Type 0} (make : A → MapKey) (part : (x y : A) → make x ≡ make y → x ≡ y) (x y : A) where
  of_part : (r : Bool) → Decides r (x ≡ y) → Decides r (make x ≡ make y)
  of_part r h = (λ e. ap make (h.0 e), λ e. h.1 (part x y e))

truths : (x y : Bool) → Decides (if x then y else not y) (x ≡ y)
truths true true = (λ _. refl, λ _. refl)
truths true false = (λ e. sym e, λ e. sym e)
truths false true = (λ e. e, λ e. e)
truths false false = (λ _. refl, λ _. refl)

pub same_key_Decides : (a b : MapKey) → Decides (same_key a b) (a ≡ b)
same_key_Decides Null Null = (λ _. refl, λ _. refl)
same_key_Decides (Truth x) (Truth y) = of_part Truth (λ p q e. cc) x y _ (truths x y)
same_key_Decides (Int x) (Int y) = of_part Int (λ p q e. cc) x y _ (signed_Decides x y)
same_key_Decides (Long x) (Long y) = of_part Long (λ p q e. cc) x y _ (signed_Decides x y)
same_key_Decides (Text x) (Text y) = of_part Text (λ p q e. cc) x y _ (bytes_eq-Decides x y)
same_key_Decides (GText x) (GText y) = of_part GText (λ p q e. cc) x y _ (bytes_eq-Decides x y)
same_key_Decides (Class x) (Class y) = of_part Class (λ p q e. cc) x y _ (Decides-eqb x y)
same_key_Decides (Obj x) (Obj y) = of_part Obj (λ p q e. cc) x y _ (Decides-eqb x y)
same_key_Decides a b = (λ e. cc, λ e. cc)

pub same_key_equiv : IsEquivalence same_key
same_key_equiv = decided same_key same_key_Decides
