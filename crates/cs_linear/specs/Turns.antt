-- What the units of a check are spent on: each one on a bound that is broken, whose column comes to the limit.
use Rattle.std.specs.Prelude.{◌≡◌, ℕ, zero, suc, ◌≤◌, ◌+◌, true, List}
use Rattle.cs_linear.specs.Amounts.{amount}
use Rattle.cs_linear.specs.Rows.{Assignment}
use Rattle.cs_linear.specs.Contradictions.{amount_at, is_broken, IsAmong}
use Rattle.cs_linear.specs.Views.{bounds_of, mains_of, deltas_of}
use Rattle.cs_linear.specs.declared.bounds.Bound.{Bound}
use Rattle.cs_linear.specs.declared.tableau.Tableau.{Tableau}
use Rattle.cs_linear.specs.declared.mend.Checked.{Checked}
use Rattle.cs_linear.specs.declared.mend.Checked.TheVariants as answers
use Rattle.cs_linear.specs.declared.mend.Undecided.{Undecided}
use Rattle.cs_linear.specs.declared.mend.Undecided.TheVariants as causes
use Rattle.cs_linear.specs.declared.mend.Step.{Step}
use Rattle.cs_linear.specs.declared.mend.Step.TheVariants as steps

-- the value of the bound's column is the limit
abbrev pub IsAtLimit : Assignment → Assignment → Bound → Type 0
IsAtLimit a d b = amount_at a d b.column ≡ amount b.limit

-- the values of the columns: the numbers, and the multiples of the small one
pub record Standing : Type 0 where
  pub mains : Assignment
  pub deltas : Assignment

abbrev pub standing : Tableau → Standing
standing t = record { mains = mains_of t; deltas = deltas_of t }

-- an asserted bound is broken, and behind the turn its column is at the limit
pub record IsMended (bounds : List Bound) (old : Standing) (new : Standing) : Type 0 where
  pub bound : Bound
  pub among : IsAmong bound bounds
  pub broken : is_broken old.mains old.deltas bound ≡ true
  pub met : IsAtLimit new.mains new.deltas bound

-- so many turns, each of which mends a bound
pub data Mends (bounds : List Bound) : Standing → ℕ → Standing → Type 0 where
  none : {s : Standing} → Mends bounds s zero s
  more : {s t u : Standing} {n : ℕ} → Mends bounds s n t → IsMended bounds t u → Mends bounds s (suc n) u

-- a conflict takes a unit
abbrev pub IsEnded : ℕ → ℕ → Checked → Type 0
IsEnded before after answers.Feasible = after ≡ before
IsEnded before after (answers.Conflict c) = after ≡ before + 1

-- a turn takes a unit where it mends a bound, and where it tells a conflict
abbrev pub IsTurn : Tableau → Tableau → ℕ → ℕ → Step → Type 0
IsTurn old new before after steps.On = IsMended (bounds_of old) (standing old) (standing new) × (after ≡ before + 1)
IsTurn old new before after (steps.Ended c) = IsEnded before after c

-- it takes none where none is left; one that stops amid a move has taken it
abbrev pub IsStopped : ℕ → ℕ → Undecided → Type 0
IsStopped before after causes.Budget = after ≡ before
IsStopped before after (causes.Over o) = after ≡ before + 1
IsStopped before after causes.Want = after ≡ before + 1

-- as many bounds were mended, one after another, as units were spent
abbrev pub IsPaid : Tableau → ℕ → ℕ → Type 0
IsPaid t before after = (n : ℕ) × (u : Standing) × Mends (bounds_of t) (standing t) n u × (after ≡ before + n)

-- the same, but for one unit at most
abbrev pub IsPaidButOne : Tableau → ℕ → ℕ → Type 0
IsPaidButOne t before after = (n : ℕ) × (u : Standing) × Mends (bounds_of t) (standing t) n u × (after ≤ before + n + 1)

-- where no bound is broken any more, each unit has mended one; a conflict takes one unit more
abbrev pub Pays : Tableau → ℕ → ℕ → Checked → Type 0
Pays t before after answers.Feasible = IsPaid t before after
Pays t before after (answers.Conflict c) = IsPaid t (before + 1) after

-- where all units are spent, each of them has mended a bound
abbrev pub HasPaid : Tableau → ℕ → ℕ → Undecided → Type 0
HasPaid t before after causes.Budget = IsPaid t before after
HasPaid t before after (causes.Over o) = IsPaidButOne t before after
HasPaid t before after causes.Want = IsPaidButOne t before after
