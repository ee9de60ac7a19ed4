-- What the types of src/ stand for.
use Rattle.std.specs.Prelude.{ℕ, List, [], map, Option, Some, None, All}
use Rattle.vx_frac.specs.Fraction.{fraction}
use Rattle.vx_terms.specs.Views.{term}
use Rattle.cs_certificate.specs.Certificate.{NumberedLiteral, Step, Input, NewTerm, Define, Pick, Chain, Congruence, Farkas, Split, Trichotomy, Divide, Propagate}
use Rattle.cs_reader.specs.declared.step.Literal.{Literal as Literal'}
use Rattle.cs_table.specs.Gives.{sign_of}
use Rattle.cs_farkas.specs.Views.{combination}
use Rattle.cs_certificate.specs.declared.literal.Literal.{Literal}
use Rattle.cs_certificate.specs.declared.literal.Clause.{Clause}
use Rattle.cs_certificate.specs.Marks.{IsBelow}
use Rattle.cs_proof.specs.declared.step.Step.{Step as Step'}
use Rattle.cs_proof.specs.declared.step.Step.TheVariants as steps'
use Rattle.cs_proof.specs.declared.prepare.Duty.{Duty as Duty'}
use Rattle.cs_proof.specs.declared.prepare.Duty.TheVariants as duties'
use Rattle.cs_proof.specs.Prepared.{Duty, Named, Derived, Missed, Sum, Hints}

abbrev pub numbered : Literal' → NumberedLiteral
numbered l = record { sign = sign_of l.positive; number = l.number }

-- a `term` step may spell no term
abbrev pub written : Step' → Option Step
written (steps'.Input n) = Some (Input n)
written (steps'.Term t) = Some (NewTerm (term t.value))
written steps'.NoTerm = None
written (steps'.Define t k) = Some (Define t k)
written (steps'.Pick t k) = Some (Pick t k)
written (steps'.Chain ns) = Some (Chain ns.items)
written (steps'.Congruence s t) = Some (Congruence s t)
written (steps'.Farkas ls ms) = Some (Farkas (map numbered ls.items) (map fraction ms.items))
written (steps'.Split t z) = Some (Split t z)
written (steps'.Trichotomy a b) = Some (Trichotomy a b)
written (steps'.Divide a d k) = Some (Divide a d k)
written (steps'.Propagate ls hs) = Some (Propagate (map numbered ls.items) hs.items)

abbrev pub duty : Duty' → Duty
duty duties'.Named = Named
duty duties'.Derived = Derived
duty duties'.Missed = Missed
duty (duties'.Sum n c) = Sum n (combination c)
duty (duties'.Hints c hs) = Hints c.literals.items hs.items

abbrev pub assumed_in : Duty' → List Literal
assumed_in (duties'.Hints c hs) = c.literals.items
assumed_in d = []

-- what is assumed names the first n terms
abbrev pub IsFit : ℕ → Duty' → Type 0
IsFit n d = All (IsBelow n) (assumed_in d)

abbrev pub IsFitClause : ℕ → Clause → Type 0
IsFitClause n c = All (IsBelow n) c.literals.items
