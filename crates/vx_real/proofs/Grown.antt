-- What is exposed behind a state has that state's path true, since paths only grow.
use Rattle.std.proofs.Common.{inl, inr, List, [], ◌∷◌, ◌++◌, subst}
use Rattle.vx_ast.specs.declared.Place.{Place}
use Rattle.vx_terms.specs.Terms.{Term}
use Rattle.vx_terms.specs.Interpretations.{Interpretation, AllTrue}
use Rattle.vx_rules.specs.States.{path_terms}
use Rattle.vx_rules.specs.Trees.{Code, Tree, End, Impossible, On, Step, Ask, Probe, Fork}
use Rattle.vx_rules.specs.Rules.{Giving, Going}
use Rattle.vx_grows.specs.Grows.{Begins, Grows}
use Rattle.vx_grows.proofs.GrowSteps.{Follows, FollowsWith}
use Rattle.vx_real.specs.Exposed.{Exposed}
use Rattle.vx_real.proofs.SumReads.{Keeps, KeepsGiving}

module _ (i : Interpretation) (at : Place) (code : Code) where
  front_true : (xs ys : List Term) → AllTrue i (xs ++ ys) → AllTrue i xs
  front_true [] ys h = tt
  front_true (x ∷ xs) ys h = (h.0, front_true xs ys h.1)

  begins_true : {base path : List Term} → Begins base path → AllTrue i path → AllTrue i base
  begins_true {base = base} b h = front_true base b.rest (subst (AllTrue i) b.is h)

  pub grown_true : (base : List Term) (t : Tree) → Grows base t → Exposed i at code t → AllTrue i base
  grown_true base End g x = absurd x
  grown_true base (Impossible s) g x = absurd x
  grown_true base (On t s) g x = absurd x
  grown_true base (Step t) g x = grown_true base t g x
  grown_true base (Ask q t) g (inl x) = begins_true g.0 x.2.1
  grown_true base (Ask q t) g (inr x) = begins_true g.0 (grown_true q.path t g.1 x)
  grown_true base (Probe q a b) g (inl x) = begins_true g.0 (grown_true q.path a g.1 x)
  grown_true base (Probe q a b) g (inr x) = begins_true g.0 (grown_true q.path b g.2 x)
  grown_true base (Fork a b) g (inl x) = grown_true base a g.0 x
  grown_true base (Fork a b) g (inr x) = grown_true base b g.1 x

  pub keeps : (on : Going) → Follows on → Keeps i at code on
  keeps on h s x = grown_true (path_terms s.path) (on s) (h s) x

  pub keeps_giving : (on : Giving) → FollowsWith on → KeepsGiving i at code on
  keeps_giving on h t s x = grown_true (path_terms s.path) (on t s) (h t s) x
