-- Why a token is refused where no script goes on with it.
use Rattle.std.specs.Prelude.{◌≡◌, List}
use Rattle.std.specs.List.{Contains}
use Rattle.gv_base.specs.declared.refusal.Foreign.{Foreign}
use Rattle.gv_base.specs.declared.refusal.Foreign.TheVariants as foreign
use Rattle.gv_base.specs.declared.refusal.Refusal.{Refusal}
use Rattle.gv_base.specs.declared.refusal.RefusalKind.{RefusalKind}
use Rattle.gv_base.specs.declared.refusal.RefusalKind.TheVariants.{UnexpectedToken, PlainDivision, NotInProfile}
use Rattle.gv_spelling.specs.declared.kinds.RefusedWord.{RefusedWord}
use Rattle.gv_spelling.specs.declared.kinds.RefusedWord.TheVariants as word
use Rattle.gv_spelling.specs.declared.kinds.Symbol.{Symbol}
use Rattle.gv_spelling.specs.declared.kinds.Symbol.TheVariants as symbol
use Rattle.gv_lex.specs.declared.token.Token.{Token}
use Rattle.gv_lex.specs.declared.token.TokenKind.{TokenKind}
use Rattle.gv_lex.specs.declared.token.TokenKind.TheVariants as kind
use Rattle.gv_lex.specs.declared.token.Word.TheVariants as lexed

abbrev pub foreign_word : RefusedWord → Foreign
foreign_word word.Abstract = foreign.Abstract
foreign_word word.Byte = foreign.Byte
foreign_word word.Char = foreign.Char
foreign_word word.Const = foreign.Const
foreign_word word.Do = foreign.Do
foreign_word word.Double = foreign.Double
foreign_word word.Enum = foreign.Enum
foreign_word word.Float = foreign.Float
foreign_word word.Goto = foreign.Goto
foreign_word word.Interface = foreign.Interface
foreign_word word.Native = foreign.Native
foreign_word word.Package = foreign.Package
foreign_word word.Short = foreign.Short
foreign_word word.Strictfp = foreign.Strictfp
foreign_word word.Synchronized = foreign.Synchronized
foreign_word word.Throws = foreign.Throws
foreign_word word.Trait = foreign.Trait
foreign_word word.Transient = foreign.Transient
foreign_word word.Volatile = foreign.Volatile

abbrev pub of_symbol : Symbol → RefusalKind
of_symbol symbol.Slash = PlainDivision
of_symbol symbol.SlashAssign = PlainDivision
of_symbol symbol.Power = NotInProfile foreign.Power
of_symbol symbol.PowerAssign = NotInProfile foreign.PowerAssign
of_symbol symbol.Tilde = NotInProfile foreign.Tilde
of_symbol symbol.Find = NotInProfile foreign.Find
of_symbol symbol.Match = NotInProfile foreign.Match
of_symbol symbol.Identical = NotInProfile foreign.Identical
of_symbol s = UnexpectedToken

abbrev pub of_kind : TokenKind → RefusalKind
of_kind (kind.Symbol s) = of_symbol s
of_kind (kind.Word (lexed.Refused w) n) = NotInProfile (foreign_word w)
of_kind other = UnexpectedToken

abbrev pub refusal_of : Token → Refusal
refusal_of t = record { kind = of_kind t.kind; place = t.place }

-- one of these tokens is refused
pub record IsRefusalIn (tokens : List Token) (r : Refusal) : Type 0 where
  pub token : Token
  pub there : Contains tokens token
  pub told : r ≡ refusal_of token
