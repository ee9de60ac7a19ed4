use Rattle.cs_certificate.proofs.Chains.{chain_computes, congruence_computes}
use Rattle.cs_certificate.proofs.Comparisons.{split_computes, trichotomy_computes}
use Rattle.cs_certificate.proofs.Picks.{pick_computes}
use Rattle.cs_certificate.proofs.Divisions.{divide_computes}
use Rattle.cs_certificate.proofs.Definitions.{define_computes}
use Rattle.cs_certificate.proofs.clauses_by_numbers.Goals as goal

pub returns : goal.returns
returns c nodes s stack r = record {
  define = define_computes nodes s r stack;
  chain = chain_computes nodes s r stack;
  congruence = congruence_computes nodes s r stack;
  split = split_computes nodes s r stack;
  trichotomy = trichotomy_computes nodes s r stack;
  pick = pick_computes nodes s r stack;
  divide = divide_computes nodes s r stack;
}
