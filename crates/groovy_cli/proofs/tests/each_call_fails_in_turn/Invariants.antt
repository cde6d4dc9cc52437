use Rattle.groovy_cli.proofs.tests.each_call_fails_in_turn.Given as goal

abbrev pub ghosts-run_failing : goal.ghosts-run_failing
ghosts-run_failing g a = record { name = a.blank.name; parts = a.blank.parts }
