use Rattle.std.proofs.Common.{◌≡◌, ◌≢◌, sym, MatchBool, Bool, true, false}
use denote.Enum.Bare.{sameb, same_true, same_false}
use Rattle.gv_spelling.specs.declared.kinds.Symbol.{Symbol}
use Rattle.gv_spelling.specs.contracts.kinds.Symbol.{the_type}
use Rattle.gv_cursor.proofs.cursor.same_symbol.Goals as goal

told : (r : Bool) (a b : Symbol) → r ≡ sameb the_type a b → MatchBool r (a ≡ b) (a ≢ b)
told true a b e = same_true the_type tt a b (sym e)
told false a b e = same_false the_type a b (sym e)

pub returns : goal.returns
returns c = told c.eq.result c.args.a c.args.b c.eq.ensures
