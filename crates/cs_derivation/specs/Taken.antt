-- What is done for a step, by numbers.
use Rattle.std.specs.Prelude.{◌≡◌, ℕ, Bool, true, false, if◌then◌else◌, List, [], ◌∷◌, ◌++◌, length, Option, Some, None, Ok, Err}
use Rattle.std.specs.declared.result.Result.{Result}
use Rattle.cs_certificate.specs.Certificate.{Step, NewTerm, Farkas, NumberedLiteral}
use Rattle.cs_table.specs.Gives.{sign_of}
use Rattle.cs_writable.specs.Writable.{IsWritable}
use Rattle.cs_certificate.specs.declared.literal.Literal.{Literal}
use Rattle.cs_certificate.specs.declared.literal.Clause.{Clause}
use Rattle.cs_certificate.specs.Hints.{refutes}
use Rattle.cs_proof.specs.Prepared.{Duty, Derived, Hints, prepared_of}
use Rattle.cs_derivation.specs.Reached.{Reached}

-- a writable step that is neither a `term` nor a `farkas` step
abbrev pub IsTaken : Step → Type 0
IsTaken (NewTerm t) = ⊥
IsTaken (Farkas ls ms) = ⊥
IsTaken step = IsWritable step

-- a literal as steps write it
abbrev pub numbered : Literal → NumberedLiteral
numbered l = record { sign = sign_of l.positive; number = l.number }

-- whether the clauses show what a step has to show
abbrev pub shows : List Clause → Duty → Bool
shows clauses Derived = true
shows clauses (Hints assumed hs) = refutes clauses assumed hs
shows clauses d = false

-- with a step and its clause
abbrev pub with_step : Reached → Option Step → List Literal → Reached
with_step r w ls = record r { clauses = r.clauses ++ ls ∷ []; steps = r.steps ++ w ∷ [] }

-- by what is prepared for the step
abbrev pub taken_by : List Clause → Reached → Option Step → Option (Duty × List Literal) → Option Reached
taken_by clauses r w None = None
taken_by clauses r w (Some x) = if shows clauses x.0 then Some (with_step r w x.1) else None

-- with the step, where its clause is derived
abbrev pub taken : List Clause → Reached → Option Step → Option Reached
taken clauses r w = taken_by clauses r w (prepared_of r.nodes r.roots w)

-- what was returned is what is taken, with the new clause's number; else nothing changes
abbrev pub Takes : {E : Type 0} → Option Reached → Reached → Reached → Result (Option ℕ) E → Type 0
Takes computed before after (Ok (Some n)) = (computed ≡ Some after) × (n ≡ length before.clauses)
Takes computed before after (Ok None) = (computed ≡ None) × (after ≡ before)
Takes computed before after (Err e) = after ≡ before
