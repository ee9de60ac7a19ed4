use Rattle.cs_sums.proofs.reading.+value_in.Given as goal

abbrev pub decreases-value_in : goal.decreases-value_in
decreases-value_in l = l.layers
