-- Assertions that hold `false`, or a term and its negation.
use Rattle.std.specs.Prelude.{◌⊎◌, false, List}
use Rattle.vx_terms.specs.Terms.{Term, Truth, Not}
use Rattle.cs_certificate.specs.Certificate.{Contains}

-- some term and its negation are both among the terms
abbrev pub HasBoth : List Term → Type 0
HasBoth ts = (t : Term) × Contains ts t × Contains ts (Not t)

-- `false` is, or a term and its negation are
abbrev pub HasOpposites : List Term → Type 0
HasOpposites ts = Contains ts (Truth false) ⊎ HasBoth ts
