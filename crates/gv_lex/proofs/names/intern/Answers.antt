use Rattle.std.proofs.lemmas.Result.{IfOk-weaker}
use Rattle.gv_lex.proofs.Told.{name_kept}
use Rattle.gv_lex.proofs.names.intern.Goals as goal

pub returns-clause-name : goal.returns-clause-name
returns-clause-name c = IfOk-weaker c.intern.result _ _ (name_kept c.intern.new.self c.args.text.now) c.intern.ensures.name
