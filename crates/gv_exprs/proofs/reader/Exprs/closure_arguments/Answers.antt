use Rattle.std.proofs.Common.{◌≡◌, refl, true, false, inl}
use Rattle.gv_grammar.specs.Exprs.{takes_closures}
use Rattle.gv_exprs.proofs.ResultsPaths.{unsuffixed, no_closures, some_closures}
use Rattle.gv_exprs.proofs.reader.Exprs.closure_arguments.Goals as goal

pub returns-then-not-takes_closures : goal.returns-then-not-takes_closures
returns-then-not-takes_closures g c =
    let t : takes_closures c.args.left ≡ false = cc in
    (refl, refl, unsuffixed c.args.self.now.all c.args.left c.requires.no_paren c.requires.no_bracket c.requires.no_member c.requires.no_field c.requires.no_postfix (inl t))

pub returns-then-is_empty : goal.returns-then-is_empty
returns-then-is_empty g c =
    let d = no_closures c.args.self.now.all c.args.left c.requires.no_paren c.requires.no_bracket c.requires.no_member c.requires.no_field c.requires.no_postfix
    c.in_ok-args.ensures.0 c.in_ok-args.ensures.1 c.in_ok-args.ensures.2 c.new.ensures (c.if-is_empty.ensures.0 refl) in
    (refl, d.0, d.1)

pub returns : goal.returns
returns g c =
    let t : takes_closures c.args.left ≡ true = cc in
    rw (c.place-place.ensures, c.in_ok-new.ensures) (some_closures c.args.self.now.all c.in_ok-args.ensures.0 t c.in_ok-args.ensures.1 c.in_ok-args.ensures.2 c.new.ensures (λ h. let x = c.if-is_empty.ensures.1 h in cc))
