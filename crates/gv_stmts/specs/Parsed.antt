-- What `parse` ensures: which script it answers, or why none.
use Rattle.std.specs.Prelude.{◌≡◌, List, [], ◌∷◌, Result, Ok, Err, None, ◌⊎◌}
use Rattle.gv_base.specs.declared.refusal.Refusal.{Refusal}
use Rattle.gv_base.specs.declared.refusal.RefusalKind.TheVariants.{UnexpectedToken}
use Rattle.gv_lex.specs.declared.token.Token.{Token}
use Rattle.gv_tree.specs.declared.top.Script.{Script}
use Rattle.gv_lines.specs.Lines.{kept}
use Rattle.gv_lines.specs.Loads.{too_deep}
use Rattle.gv_grammar.specs.Tokens.{place_of}
use Rattle.gv_grammar.specs.Scripts.{IsScript}
use Rattle.gv_cursor.specs.Refused.{IsRefusalIn}
use Rattle.gv_exprs.specs.declared.parse.ParseError.{ParseError}
use Rattle.gv_exprs.specs.declared.parse.ParseError.TheVariants.{Refused, OutOfMemory}
use Rattle.gv_exprs.specs.Parsed.{StandsTooDeep}

-- one of the tokens is refused; where there is none, line 0 is
abbrev pub IsRefusalOf : List Token → Refusal → Type 0
IsRefusalOf [] r = r ≡ record { kind = UnexpectedToken; place = place_of [] }
IsRefusalOf (t ∷ ts) r = IsRefusalIn (t ∷ ts) r

-- no token stands too deep, and this is the script
pub record HasTree (tokens : List Token) (s : Script) : Type 0 where
  pub flat : too_deep tokens ≡ None
  pub tree : IsScript s tokens

-- none does, and there is no script
pub record HasNone (tokens : List Token) (r : Refusal) : Type 0 where
  pub flat : too_deep tokens ≡ None
  pub nothing : (s : Script) → IsScript s tokens → ⊥
  pub told : IsRefusalOf tokens r

-- of a list whose line ends all count
abbrev pub ParsesKept : Result Script ParseError → List Token → Type 0
ParsesKept (Ok s) tokens = HasTree tokens s
ParsesKept (Err (Refused r)) tokens = StandsTooDeep tokens r ⊎ HasNone tokens r
ParsesKept (Err OutOfMemory) tokens = Unit {0}

abbrev pub Parses : Result Script ParseError → List Token → Type 0
Parses r tokens = ParsesKept r (kept tokens)
