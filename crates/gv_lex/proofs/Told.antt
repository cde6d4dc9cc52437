-- What tokens tell stays, as the table of names grows.
use Rattle.std.proofs.Common.{◌≡◌, ℕ, ◌<◌, List, [], ◌++◌, Some, length, get_or, ap, sym, ◌∙◌, arith, length-append, bytes_eq, append_assoc}
use Rattle.std.proofs.lemmas.List.{append-nil, get_or_append_left}
use Rattle.std.proofs.lemmas.List.Quantifiers.{position-Some}
use Rattle.std.proofs.lemmas.Option.{unwrap_or-slice_get}
use Rattle.std.proofs.lemmas.Slice.Eq.{bytes_eq-Decides}
use Rattle.gv_base.specs.Names.{name_of, text_of}
use Rattle.gv_lex.specs.Steps.{IsName}
use Rattle.gv_lex.specs.Tokens.{KeepsNames}

-- the name of a text is a place of the table, with that text
name_found : (names : List (List ℕ)) (text : List ℕ) (n : ℕ) → name_of names text ≡ Some n → IsName names n text
name_found names text n e =
    let at = position-Some (bytes_eq text) names n [] e in
    record { within = at.0; text_is = unwrap_or-slice_get names n [] ∙ sym ((bytes_eq-Decides text (get_or names n [])).0 at.1) }

text-kept : (old more : List (List ℕ)) (n : ℕ) → n < length old → text_of (old ++ more) n ≡ text_of old n
text-kept old more n h = unwrap_or-slice_get (old ++ more) n [] ∙ get_or_append_left old more [] n h ∙ sym (unwrap_or-slice_get old n [])

name_stays : (old more : List (List ℕ)) (n : ℕ) (text : List ℕ) → IsName old n text → IsName (old ++ more) n text
name_stays old more n text h = record {
  within = omega (arith, h.within, length-append old more);
  text_is = text-kept old more n h.within ∙ h.text_is;
}

-- a name has its text in each later table
pub name_kept : (names : List (List ℕ)) (text : List ℕ) (n : ℕ) → name_of names text ≡ Some n → (later : List (List ℕ)) → KeepsNames names later → IsName later n text
name_kept names text n e later keeps = rw keeps.1 (name_stays names keeps.0 n text (name_found names text n e))

pub keeps_itself : (names : List (List ℕ)) → KeepsNames names names
keeps_itself names = ([], sym (append-nil names))

pub keeps_more : (old new newer : List (List ℕ)) → KeepsNames old new → KeepsNames new newer → KeepsNames old newer
keeps_more old new newer h k = (h.0 ++ k.0, k.1 ∙ ap (λ names. names ++ k.0) h.1 ∙ append_assoc old h.0 k.0)
