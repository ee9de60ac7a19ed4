-- A question that stands in a tree at a place, where an interpretation makes true all that is asked there.
use Rattle.std.specs.Prelude.{◌≡◌, ◌⊎◌, ◌∷◌}
use Rattle.vx_ast.specs.declared.Place.{Place}
use Rattle.vx_terms.specs.Build.{negate}
use Rattle.vx_terms.specs.Interpretations.{Interpretation, AllTrue}
use Rattle.vx_rules.specs.Trees.{Code, Tree, End, Impossible, On, Step, Ask, Probe, Fork}

-- in this tree stands a question at the place with this code, whose path is true and whose condition isn't
abbrev pub Exposed : Interpretation → Place → Code → Tree → Type 0
Exposed i at code End = ⊥
Exposed i at code (Impossible s) = ⊥
Exposed i at code (On t s) = ⊥
Exposed i at code (Step t) = Exposed i at code t
Exposed i at code (Ask q t) = ((q.place ≡ at) × (q.code ≡ code) × AllTrue i (negate q.condition ∷ q.path)) ⊎ Exposed i at code t
Exposed i at code (Probe q a b) = Exposed i at code a ⊎ Exposed i at code b
Exposed i at code (Fork a b) = Exposed i at code a ⊎ Exposed i at code b
