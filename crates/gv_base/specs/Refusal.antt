-- The numbers and texts of the kinds of refusal, as users see them.
use Rattle.std.specs.Prelude.{ℕ, List, codes}
use Rattle.gv_base.specs.declared.refusal.Foreign.{Foreign}
use Rattle.gv_base.specs.declared.refusal.Foreign.TheVariants as foreign
use Rattle.gv_base.specs.declared.refusal.RefusalKind.{RefusalKind}
use Rattle.gv_base.specs.declared.refusal.RefusalKind.TheVariants.{NotUtf8, UnendedString, UnendedComment, BadEscape, BadNumber, LiteralPast64Bits, StrayCharacter, SlashyString, UnendedInterpolation, UnexpectedToken, PlainDivision, NotInProfile, NestedTooDeep, NameDeclaredTwice, UnknownClass, ImportOutsideProfile, LooseStatement, PropertyOverride, SuperclassCircle, MethodDeclaredTwice, AnnotationOutOfPlace, NothingToLeave, ThisOrSuperOutOfPlace, NotBuilt}

abbrev pub number_of : RefusalKind → ℕ
number_of NotUtf8 = 1
number_of UnendedString = 2
number_of UnendedComment = 3
number_of BadEscape = 4
number_of BadNumber = 5
number_of LiteralPast64Bits = 6
number_of StrayCharacter = 7
number_of SlashyString = 8
number_of UnendedInterpolation = 9
number_of UnexpectedToken = 10
number_of PlainDivision = 11
number_of (NotInProfile f) = 12
number_of NestedTooDeep = 13
number_of NameDeclaredTwice = 20
number_of UnknownClass = 21
number_of ImportOutsideProfile = 22
number_of LooseStatement = 23
number_of PropertyOverride = 24
number_of SuperclassCircle = 25
number_of MethodDeclaredTwice = 26
number_of AnnotationOutOfPlace = 27
number_of NothingToLeave = 28
number_of ThisOrSuperOutOfPlace = 29
number_of NotBuilt = 40

abbrev pub foreign_text : Foreign → List ℕ
foreign_text foreign.Abstract = codes "not in this profile: abstract"
foreign_text foreign.Byte = codes "not in this profile: byte"
foreign_text foreign.Char = codes "not in this profile: char"
foreign_text foreign.Const = codes "not in this profile: const"
foreign_text foreign.Do = codes "not in this profile: do"
foreign_text foreign.Double = codes "not in this profile: double"
foreign_text foreign.Enum = codes "not in this profile: enum"
foreign_text foreign.Float = codes "not in this profile: float"
foreign_text foreign.Goto = codes "not in this profile: goto"
foreign_text foreign.Interface = codes "not in this profile: interface"
foreign_text foreign.Native = codes "not in this profile: native"
foreign_text foreign.Package = codes "not in this profile: package"
foreign_text foreign.Short = codes "not in this profile: short"
foreign_text foreign.Strictfp = codes "not in this profile: strictfp"
foreign_text foreign.Synchronized = codes "not in this profile: synchronized"
foreign_text foreign.Throws = codes "not in this profile: throws"
foreign_text foreign.Trait = codes "not in this profile: trait"
foreign_text foreign.Transient = codes "not in this profile: transient"
foreign_text foreign.Volatile = codes "not in this profile: volatile"
foreign_text foreign.Power = codes "not in this profile: **"
foreign_text foreign.PowerAssign = codes "not in this profile: **="
foreign_text foreign.Tilde = codes "not in this profile: ~"
foreign_text foreign.Find = codes "not in this profile: =~"
foreign_text foreign.Match = codes "not in this profile: ==~"
foreign_text foreign.Identical = codes "not in this profile: ==="

abbrev pub text_of : RefusalKind → List ℕ
text_of NotUtf8 = codes "not UTF-8"
text_of UnendedString = codes "string not ended"
text_of UnendedComment = codes "comment not ended"
text_of BadEscape = codes "bad escape"
text_of BadNumber = codes "number outside this profile"
text_of LiteralPast64Bits = codes "literal past 64 bits"
text_of StrayCharacter = codes "stray character"
text_of SlashyString = codes "slashy string"
text_of UnendedInterpolation = codes "interpolation not ended"
text_of UnexpectedToken = codes "unexpected token"
text_of PlainDivision = codes "plain division"
text_of (NotInProfile f) = foreign_text f
text_of NestedTooDeep = codes "nested too deep"
text_of NameDeclaredTwice = codes "name declared twice"
text_of UnknownClass = codes "unknown class"
text_of ImportOutsideProfile = codes "import outside this profile"
text_of LooseStatement = codes "loose statement"
text_of PropertyOverride = codes "property override"
text_of SuperclassCircle = codes "superclass circle"
text_of MethodDeclaredTwice = codes "method declared twice"
text_of AnnotationOutOfPlace = codes "annotation out of place"
text_of NothingToLeave = codes "nothing to leave"
text_of ThisOrSuperOutOfPlace = codes "this or super out of place"
text_of NotBuilt = codes "not built yet"
