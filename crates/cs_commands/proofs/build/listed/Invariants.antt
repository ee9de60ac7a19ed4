use Rattle.std.proofs.Common.{◌≡◌, length, map}
use Rattle.vx_terms.specs.Views.{term, terms}
use Rattle.cs_reader.specs.Spelling.{listed}
use Rattle.cs_reader.proofs.Lists.{listed_onto}
use Rattle.cs_commands.proofs.build.listed.Given as goal

abbrev pub invariant-loop-last : goal.invariant-loop-last
invariant-loop-last l = listed_onto (map (λ x. term x.value) l.rest) (terms l.all.value) ≡ listed (map (λ x. term x.value) l.fn.parts)

abbrev pub decreases-loop-last : goal.decreases-loop-last
decreases-loop-last l = length l.rest
