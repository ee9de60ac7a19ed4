-- The terms that stand in a term.
use Rattle.std.specs.Prelude.{List, [], ◌++◌}
use Rattle.vx_terms.specs.Terms.{Term, Apply, Not, Binary, Ite, AllOf, SomeOf}
use Rattle.cs_certificate.specs.Terms.{subterms, all_subterms}

-- the subterms of a term but itself
abbrev pub inner : Term → List Term
inner (Apply f a ts) = all_subterms ts
inner (Not t) = subterms t
inner (Binary o t u) = subterms t ++ subterms u
inner (Ite c t u) = subterms c ++ (subterms t ++ subterms u)
inner (AllOf ts) = all_subterms ts
inner (SomeOf ts) = all_subterms ts
inner _ = []
