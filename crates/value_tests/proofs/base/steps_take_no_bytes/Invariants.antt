use Rattle.value_tests.proofs.base.steps_take_no_bytes.Given as goal

abbrev pub ghosts-size_after_two_steps : goal.ghosts-size_after_two_steps
ghosts-size_after_two_steps g a = record { name = a.blank.name; parts = a.blank.parts }
