use Rattle.std.proofs.Common.{◌∙◌, sym, arith}
use Rattle.gv_spelling.proofs.Longest.{dollar_slash_longest, name_longest}
use Rattle.gv_spelling.proofs.next.name.Goals as goal

pub returns-then-is_dollar_slash : goal.returns-then-is_dollar_slash
returns-then-is_dollar_slash c =
    let p = c.is_dollar_slash.ensures.parts c.if-is_dollar_slash.true in
    dollar_slash_longest c.args.text.now p.0 p.1 p.2

pub returns : goal.returns
returns c =
    rw (c.word_of.ensures, c.past-len.ensures.value)
    (name_longest c.args.text.now (omega (arith, c.requires)) (sym c.is_dollar_slash.ensures.value ∙ c.if-is_dollar_slash.false))
