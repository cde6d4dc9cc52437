-- What the laws say.
use Rattle.std.specs.Prelude.{◌≡◌, true, List, [], ◌∷◌}
use Rattle.gv_lex.specs.declared.token.Token.{Token}
use Rattle.gv_lines.specs.Lines.{is_line_end}

-- the first list is the second without some of its line ends
pub data IsThinned : List Token → List Token → Type 0 where
  ends : IsThinned [] []
  stays : {t : Token} {ts us : List Token} → IsThinned ts us → IsThinned (t ∷ ts) (t ∷ us)
  goes : {t : Token} {ts us : List Token} → is_line_end t.kind ≡ true → IsThinned ts us → IsThinned ts (t ∷ us)
