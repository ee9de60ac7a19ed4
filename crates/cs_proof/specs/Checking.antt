-- What a checker does in each step, and its verdict.
use Rattle.std.specs.Prelude.{ℕ, zero, suc, ◌-◌, Bool, true, false, if◌then◌else◌, List, [], ◌∷◌, length, take, Option, Some, None, slice_get}
use Rattle.std.specs.List.{list_any}
use Rattle.cs_certificate.specs.Nodes.{Node}
use Rattle.cs_certificate.specs.declared.literal.Literal.{Literal}
use Rattle.cs_certificate.specs.declared.literal.Clause.{Clause}
use Rattle.cs_certificate.specs.Hints as hints
use Rattle.cs_farkas.specs.Sums.{Outcome, Done, Leaves, Misses, ◌>>=◌}
use Rattle.cs_farkas.specs.Sums as sums
use Rattle.cs_farkas.specs.Rows.{refutes}
use Rattle.cs_farkas.specs.Views.{over}
use Rattle.cs_farkas.specs.declared.calls.Break.{Break}
use Rattle.cs_farkas.specs.declared.calls.Break.TheVariants as breaks
use Rattle.cs_reader.specs.declared.refusal.Refusal.{Refusal}
use Rattle.cs_reader.specs.declared.refusal.Refusal.TheVariants as refusals
use Rattle.vx_frac.specs.Fraction.{fraction}
use Rattle.cs_proof.specs.Prepared.{Duty, Named, Derived, Missed, Sum, Hints}

-- finished, or refused by C1 to C4
pub data Verdict : Type 0 where
  Finished : Verdict
  BadStep : ℕ → Verdict
  Over : ℕ → sums.Over → Verdict
  NotEmpty : Verdict
  BadForm : ℕ → Verdict

abbrev pub refusal : Refusal → Verdict
refusal (refusals.BadStep n) = BadStep n
refusal (refusals.Over n call a b) = Over n record { call = call; left = fraction a; right = fraction b }
refusal refusals.NotEmpty = NotEmpty
refusal (refusals.BadForm n) = BadForm n

-- why the step is refused
abbrev pub refused : ℕ → Break → Verdict
refused n breaks.Miss = BadStep n
refused n (breaks.Over o) = Over n (over o)

pub record Checker : Type 0 where
  pub nodes : List Node
  pub clauses : List Clause
  pub duties : List Duty
  -- so many steps are done, which derived so many clauses
  pub done : ℕ
  pub derived : ℕ
  pub refusal : Option Verdict

-- the number of clauses behind the step
abbrev pub met : List Node → List Clause → (derived : ℕ) → Duty → Outcome ℕ
met nodes clauses derived Named = Done derived
met nodes clauses derived Derived = Done (suc derived)
met nodes clauses derived Missed = Misses
met nodes clauses derived (Sum n c) = refutes (take n nodes) (length nodes) c >>= λ s. Done (suc derived)
met nodes clauses derived (Hints assumed hs) = if hints.refutes (take derived clauses) assumed hs then Done (suc derived) else Misses

abbrev pub after : Checker → Outcome ℕ → Checker
after c (Done k) = record c { done = suc c.done; derived = k }
after c (Leaves o) = record c { refusal = Some (Over c.done o) }
after c Misses = record c { refusal = Some (BadStep c.done) }

abbrev pub next : Checker → Option Duty → Checker
next c None = c
next c (Some d) = after c (met c.nodes c.clauses c.derived d)

abbrev pub stepped_if : Checker → Option Verdict → Checker
stepped_if c (Some r) = c
stepped_if c None = next c (slice_get c.duties c.done)

-- one step further; nothing changes after a refusal or after the last step
abbrev pub stepped : Checker → Checker
stepped c = stepped_if c c.refusal

abbrev pub steps_more : ℕ → Checker → Checker
steps_more zero c = c
steps_more (suc n) c = steps_more n (stepped c)

abbrev pub is_nil : List Literal → Bool
is_nil [] = true
is_nil (l ∷ ls) = false

abbrev pub is_empty : Clause → Bool
is_empty c = is_nil c.literals.items

abbrev pub closed : Option Verdict → List Clause → Verdict
closed (Some r) clauses = r
closed None clauses = if list_any is_empty clauses then Finished else NotEmpty

abbrev pub left : Checker → ℕ
left c = length c.duties - c.done

abbrev pub last : Checker → Checker
last c = steps_more (left c) c

-- what is said once all steps are done
abbrev pub verdict : Checker → Verdict
verdict c = closed (last c).refusal (last c).clauses
