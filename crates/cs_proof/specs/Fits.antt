-- What plans stand for, and numbers that fit.
use Rattle.std.specs.Prelude.{◌<◌, ◌^◌, length, map, All}
use Rattle.vx_terms.specs.Views.{term}
use Rattle.cs_numbers.specs.Listed.{terms_in}
use Rattle.cs_table.specs.Table.{nodes_in}
use Rattle.vx_smt_meaning.specs.Views.{declared_symbol}
use Rattle.cs_certificate.specs.Certificate.{Stack}
use Rattle.cs_proof.specs.declared.stack.Stack.{Stack as Stack'}
use Rattle.cs_proof.specs.Plans.{Plans}
use Rattle.cs_proof.specs.Views.{duty, IsFit, IsFitClause}
use Rattle.cs_proof.specs.declared.plans.Plans.{Plans as Plans'}

abbrev pub stand : Plans' → Plans
stand p = record { terms = terms_in p.terms; nodes = nodes_in p.nodes; duties = map duty p.duties.items; clauses = map (λ c. c.literals.items) p.clauses.items }

-- there are fewer than 2^32 nodes, and literals name them alone
pub record Fits (p : Plans') : Type 0 where
  pub small : length p.nodes.nodes.items < 2 ^ 32
  pub clauses : All (IsFitClause (length p.nodes.nodes.items)) p.clauses.items
  pub duties : All (IsFit (length p.nodes.nodes.items)) p.duties.items

abbrev pub seen : Stack' → Stack
seen s = record { assertions = map (λ x. term x.value) s.assertions.items; symbols = map declared_symbol s.symbols.items }
