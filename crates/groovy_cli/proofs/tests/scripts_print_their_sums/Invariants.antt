use Rattle.groovy_cli.proofs.tests.scripts_print_their_sums.Given as goal

abbrev pub ghosts-run : goal.ghosts-run
ghosts-run g a = record { name = a.blank.name; parts = a.blank.parts }
