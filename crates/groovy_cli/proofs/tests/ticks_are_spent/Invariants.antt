use Rattle.groovy_cli.proofs.tests.ticks_are_spent.Given as goal

abbrev pub ghosts-run : goal.ghosts-run
ghosts-run g a = record { name = a.blank.name; parts = a.blank.parts }
