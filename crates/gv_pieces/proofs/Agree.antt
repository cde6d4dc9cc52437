-- A printed text and pieces that have this text, and what keeps them so.
use Rattle.std.proofs.Common.{◌≡◌, ℕ, zero, suc, ◌==◌, nat_lt, Bool, true, false, List, [], ◌∷◌, ◌++◌, codes, encode_utf8, Option, Some, None, if◌then◌else◌, refl, sym, ap, ◌∙◌}
use Rattle.std.proofs.lemmas.List.{append_assoc, append-nil}
use Rattle.std.specs.Str.{chars}
use Rattle.gv_base.specs.Names.{text_of}
use Rattle.gv_print.specs.Texts as texts
use Rattle.gv_print.specs.Texts.{Printed}
use Rattle.gv_print.specs.declared.strings.Quotes.{Quotes}
use Rattle.gv_print.specs.declared.strings.Quotes.TheVariants as quotes
use Rattle.gv_spelling.specs.declared.kinds.Symbol.TheVariants as symbol
use Rattle.gv_pieces.specs.Pieces.{Piece, Blank, Line, Symbol, Open, Chars, Close, piece_text, texts_of}
use Rattle.gv_pieces.specs.Words as words
use Rattle.gv_pieces.specs.Words.{Pieced}

-- ---- what is printed behind a text doesn't depend on it

each_behind : {X : Type 0} (f : X → Printed) → ((x : X) (t : List ℕ) → f x t ≡ t ++ f x []) → (xs : List X) (t : List ℕ) → texts.each f xs t ≡ t ++ texts.each f xs []
each_behind f behind [] t = sym (append-nil t)
each_behind f behind (x ∷ xs) t =
    each_behind f behind xs (f x t)
    ∙ ap (λ u. u ++ texts.each f xs []) (behind x t)
    ∙ append_assoc t (f x []) (texts.each f xs [])
    ∙ ap (λ u. t ++ u) (sym (each_behind f behind xs (f x [])))

if_behind : (b : Bool) (t u v u0 v0 : List ℕ) → u ≡ t ++ u0 → v ≡ t ++ v0 → (if b then u else v) ≡ t ++ (if b then u0 else v0)
if_behind true t u v u0 v0 d e = d
if_behind false t u v u0 v0 d e = e

more_behind : (t u u0 v : List ℕ) → u ≡ t ++ u0 → u ++ v ≡ t ++ (u0 ++ v)
more_behind t u u0 v e = ap (λ w. w ++ v) e ∙ append_assoc t u0 v

unicode_behind : (c : ℕ) (t : List ℕ) → texts.unicode_escaped c t ≡ t ++ texts.unicode_escaped c []
unicode_behind c t =
    more_behind t _ _ _ (more_behind t _ _ _ (more_behind t _ _ _ (append_assoc t (codes "\\u") _)))

control_behind : (c : ℕ) (t : List ℕ) → texts.control_escaped c t ≡ t ++ texts.control_escaped c []
control_behind c t =
    if_behind (c == 8) t _ _ _ _ refl (if_behind (c == 9) t _ _ _ _ refl (if_behind (c == 10) t _ _ _ _ refl (if_behind (c == 12) t _ _ _ _ refl (if_behind (c == 13) t _ _ _ _ refl (unicode_behind c t)))))

char_behind : (q : Quotes) (c : ℕ) (t : List ℕ) → texts.char_printed q c t ≡ t ++ texts.char_printed q c []
char_behind q c t = if_behind (texts.is_marked q c) t _ _ _ _ (append_assoc t (codes "\\") (encode_utf8 c)) (if_behind (nat_lt c 32) t _ _ _ _ (control_behind c t) refl)

chars_behind : (q : Quotes) (text t : List ℕ) → texts.chars_printed q text t ≡ t ++ texts.chars_printed q text []
chars_behind q text t = each_behind (texts.char_printed q) (char_behind q) (chars text) t

margin_behind : (levels : ℕ) (t : List ℕ) → texts.margin levels t ≡ t ++ texts.margin levels []
margin_behind zero t = sym (append-nil t)
margin_behind (suc levels) t =
    margin_behind levels (t ++ codes "  ")
    ∙ append_assoc t (codes "  ") (texts.margin levels [])
    ∙ ap (λ u. t ++ u) (sym (margin_behind levels (codes "  ")))

new_line_behind : (indent : ℕ) (t : List ℕ) → texts.new_line indent t ≡ t ++ texts.new_line indent []
new_line_behind indent t =
    margin_behind indent (t ++ codes "\n")
    ∙ append_assoc t (codes "\n") (texts.margin indent [])
    ∙ ap (λ u. t ++ u) (sym (margin_behind indent (codes "\n")))

module _ (names : List (List ℕ)) where
  -- the text is that of the pieces
  pub record Same (t : List ℕ) (ps : List Piece) : Type 0 where
    pub is : t ≡ texts_of names ps

  -- behind such a text and such pieces, a form prints the text of its pieces
  abbrev pub Agrees : Printed → Pieced → Type 0
  Agrees f g = (t : List ℕ) (ps : List Piece) → Same t ps → Same (f t) (g ps)

  pub texts-append : (ps qs : List Piece) → texts_of names (ps ++ qs) ≡ texts_of names ps ++ texts_of names qs
  texts-append [] qs = refl
  texts-append (p ∷ ps) qs =
      ap (λ u. piece_text names p ++ u) (texts-append ps qs) ∙ sym (append_assoc (piece_text names p) (texts_of names ps) (texts_of names qs))

  pub put_as : (added : List ℕ) (qs : List Piece) {t : List ℕ} {ps : List Piece} → added ≡ texts_of names qs → Same t ps → Same (t ++ added) (ps ++ qs)
  put_as added qs {t} {ps} e same = record {
    is = ap (λ u. u ++ added) same.is ∙ ap (λ u. texts_of names ps ++ u) e ∙ sym (texts-append ps qs);
  }

  pub put : (qs : List Piece) {t : List ℕ} {ps : List Piece} → Same t ps → Same (t ++ texts_of names qs) (ps ++ qs)
  put qs same = put_as (texts_of names qs) qs refl same

  -- one piece, whose text ends where it does
  pub put_one : (p : Piece) {t : List ℕ} {ps : List Piece} → Same t ps → Same (t ++ piece_text names p) (ps ++ p ∷ [])
  put_one p same = put_as (piece_text names p) (p ∷ []) (sym (append-nil (piece_text names p))) same

  -- one piece whose text has two parts
  pub put_parts : (p : Piece) (a b : List ℕ) {t : List ℕ} {ps : List Piece} → piece_text names p ≡ a ++ b → Same t ps → Same (t ++ a ++ b) (ps ++ p ∷ [])
  put_parts p a b {t} {ps} e same =
      let done : Same (t ++ (a ++ b)) (ps ++ p ∷ []) = put_as (a ++ b) (p ∷ []) (sym (append-nil (piece_text names p) ∙ e)) same in
      record { is = append_assoc t a b ∙ done.is }

  pub put_if_agrees : (b : Bool) (qs : List Piece) → Agrees (texts.put_if b (texts_of names qs)) (words.put_if_pieced b qs)
  put_if_agrees true qs t ps same = put qs same
  put_if_agrees false qs t ps same = same

  put_unless_agrees : (b : Bool) (qs : List Piece) → Agrees (texts.put_unless b (texts_of names qs)) (words.put_unless_pieced b qs)
  put_unless_agrees true qs t ps same = same
  put_unless_agrees false qs t ps same = put qs same

  pub if_agrees : (b : Bool) {t u : List ℕ} {ps qs : List Piece} → Same t ps → Same u qs → Same (if b then t else u) (if b then ps else qs)
  if_agrees true d e = d
  if_agrees false d e = e

  pub each_agrees : {X : Type 0} (f : X → Printed) (g : X → Pieced) → ((x : X) → Agrees (f x) (g x)) → (xs : List X) → Agrees (texts.each f xs) (words.each_pieced g xs)
  each_agrees f g agrees [] t ps same = same
  each_agrees f g agrees (x ∷ xs) t ps same = each_agrees f g agrees xs _ _ (agrees x _ _ same)

  pub if_there_agrees : {X : Type 0} (f : X → Printed) (g : X → Pieced) → ((x : X) → Agrees (f x) (g x)) → (x : Option X) → Agrees (texts.if_there f x) (words.if_there_pieced g x)
  if_there_agrees f g agrees None t ps same = same
  if_there_agrees f g agrees (Some x) t ps same = agrees x _ _ same

  pub parted_agrees : {X : Type 0} (qs : List Piece) (f : X → Printed) (g : X → Pieced) → ((x : X) → Agrees (f x) (g x)) → (b : Bool) (xs : List X)
      → Agrees (texts.parted (texts_of names qs) f b xs) (words.parted_pieced qs g b xs)
  parted_agrees qs f g agrees b [] t ps same = same
  parted_agrees qs f g agrees b (x ∷ xs) t ps same = parted_agrees qs f g agrees false xs _ _ (agrees x _ _ (put_unless_agrees b qs _ _ same))

  pub listed_agrees : {X : Type 0} (f : X → Printed) (g : X → Pieced) → ((x : X) → Agrees (f x) (g x)) → (b : Bool) (xs : List X)
      → Agrees (texts.listed f b xs) (words.listed_pieced g b xs)
  listed_agrees f g agrees b xs t ps same = parted_agrees (Symbol symbol.Comma ∷ Blank ∷ []) f g agrees b xs _ _ same

  pub new_line_agrees : (indent : ℕ) → Agrees (texts.new_line indent) (words.new_line_pieced indent)
  new_line_agrees indent t ps same =
      let done : Same (t ++ texts.new_line indent []) (ps ++ Line indent ∷ []) = put_one (Line indent) same in
      record { is = new_line_behind indent t ∙ done.is }

  pub chars_agrees : (q : Quotes) (name : ℕ) → Agrees (texts.chars_printed q (text_of names name)) (words.chars_pieced q name)
  chars_agrees q name t ps same =
      let done : Same (t ++ texts.chars_printed q (text_of names name) []) (ps ++ Chars q name ∷ []) = put_one (Chars q name) same in
      record { is = chars_behind q (text_of names name) t ∙ done.is }

  pub string_agrees : (name : ℕ) → Agrees (texts.string_printed (text_of names name)) (words.string_pieced name)
  string_agrees name t ps same = put (Close quotes.Single ∷ []) (chars_agrees quotes.Single name _ _ (put (Open quotes.Single ∷ []) same))
