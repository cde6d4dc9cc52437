use Rattle.groovy_cli.proofs.tests.words_without_a_reading_and_long_files.Given as goal

abbrev pub ghosts-run : goal.ghosts-run
ghosts-run g a = record { name = a.blank.name; parts = a.blank.parts }
