use Rattle.gv_grammar.specs.Scripts.{IsDotted, IsImport, an_import}
use Rattle.gv_cursor.specs.Reading.{Stopped}
use Rattle.gv_cursor.proofs.Results.{passed_on_exactly, refused_on}
use Rattle.gv_stmts.proofs.MemberPhrases.{stopped_at}
use Rattle.gv_stmts.proofs.TopPhrases.{all_read, no_import_path, import_goes_on}
use Rattle.gv_stmts.proofs.script.import.Goals as goal

pub returns-in_err-path : goal.returns-in_err-path
returns-in_err-path c = passed_on_exactly IsDotted (Stopped IsImport) _ _ _ _ c.from_residual-in_err-path.result (c.from_residual-in_err-path.ensures.1) (no_import_path (c.in_ok-expect_keyword.ensures)) (c.in_err-path.ensures)

pub returns-in_err-expect_stop : goal.returns-in_err-expect_stop
returns-in_err-expect_stop c = refused_on (Stopped IsImport) _ _ _ c.from_residual-in_err-expect_stop.result (c.from_residual-in_err-expect_stop.ensures.1) (c.in_err-expect_stop.ensures.stops.0)
    (import_goes_on (c.in_ok-expect_keyword.ensures) (c.in_ok-path.ensures) (all_read c.eat-is_all.result c.eat-is_all.ensures) (c.in_err-expect_stop.ensures.stops.1))

pub returns : goal.returns
returns c = rw c.place-place.ensures (stopped_at IsImport (c.in_ok-expect_stop.ensures.same) (an_import (c.in_ok-expect_keyword.ensures) (c.in_ok-path.ensures) (all_read c.eat-is_all.result c.eat-is_all.ensures)) (c.in_ok-expect_stop.ensures.stops))
