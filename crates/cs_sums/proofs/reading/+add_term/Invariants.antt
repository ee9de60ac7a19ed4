use Rattle.cs_sums.proofs.reading.+add_term.Given as goal

abbrev pub decreases-add_term : goal.decreases-add_term
decreases-add_term l = l.layers
