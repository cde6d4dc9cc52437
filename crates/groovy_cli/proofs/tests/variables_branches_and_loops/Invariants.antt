use Rattle.groovy_cli.proofs.tests.variables_branches_and_loops.Given as goal

abbrev pub ghosts-run : goal.ghosts-run
ghosts-run g a = record { name = a.blank.name; parts = a.blank.parts }
