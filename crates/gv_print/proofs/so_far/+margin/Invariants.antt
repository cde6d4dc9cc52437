use Rattle.gv_print.proofs.so_far.+margin.Given as goal

abbrev pub decreases-margin : goal.decreases-margin
decreases-margin l = l.levels
