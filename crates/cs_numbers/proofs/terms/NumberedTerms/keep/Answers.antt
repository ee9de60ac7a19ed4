use Rattle.std.proofs.Common.{map}
use Rattle.vx_terms.specs.Views.{term}
use Rattle.cs_numbers.proofs.Kept.{kept_set}
use Rattle.cs_numbers.proofs.terms.NumberedTerms.keep.Goals as goal

pub invariant_of-self-clause-parts : goal.invariant_of-self-clause-parts
invariant_of-self-clause-parts c = kept_set (map (λ x. term x.value) c.args.self.now.terms.items) c.args.self.now.kept.items c.args.number c.args.parts c.requires c.args.self.now.parts
