-- A list of values.
use Rattle.std.specs.Prelude.{List, [], ◌∷◌}
use Rattle.vx_stack.specs.declared.waiting.Values.{Values}
use Rattle.vx_stack.specs.declared.waiting.Values.TheVariants as values'
use Rattle.vx_terms.specs.Terms.{Term}
use Rattle.vx_heap.specs.Views.{held_term}

abbrev pub values : Values → List Term
values values'.None = []
values (values'.More' t q vs) = held_term t ∷ values vs
