-- What is done with assertions and instances.
use Rattle.vx_grammar.specs.Statements.{Claim, inhales, exhales, asserts, assumes, Folding, folds, unfolds}
use Rattle.vx_stmt_parser.specs.declared.plain.Claim as the_claim
use Rattle.vx_stmt_parser.specs.declared.plain.Claim.TheVariants as claims
use Rattle.vx_stmt_parser.specs.declared.plain.Folding as the_folding
use Rattle.vx_stmt_parser.specs.declared.plain.Folding.TheVariants as foldings

abbrev pub claim_of : the_claim.Claim → Claim
claim_of claims.Inhale = inhales
claim_of claims.Exhale = exhales
claim_of claims.Assert = asserts
claim_of claims.Assume = assumes

abbrev pub folding_of : the_folding.Folding → Folding
folding_of foldings.Fold = folds
folding_of foldings.Unfold = unfolds
