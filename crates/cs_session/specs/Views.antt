-- What the types of src/ stand for.
use Rattle.std.specs.Prelude.{ℕ, Bool, List, [], ◌∷◌, length, map, reverse, string_bytes, Option, Some, None}
use Rattle.vx_terms.specs.Views.{term}
use Rattle.vx_smt_meaning.specs.Views.{declared_symbol}
use Rattle.vx_smt_meaning.specs.Commands.{Level, assertions_of, declared_in}
use Rattle.cs_certificate.specs.Certificate.{Stack}
use Rattle.cs_answer.specs.declared.answer.Cause.{Cause}
use Rattle.cs_session.specs.Counts.{spread}
use Rattle.cs_session.specs.declared.levels.Levels.{Levels}
use Rattle.cs_session.specs.declared.session.Last.{Last}
use Rattle.cs_session.specs.declared.session.Last.TheVariants.{Nothing, Refuted, Satisfied, Unknown}
use Rattle.cs_session.specs.declared.session.Session.{Session}

-- all that stands on the levels, the newest first
abbrev pub all_of : Levels → Level
all_of l = record {
  sorts = reverse (map string_bytes l.sorts.items);
  symbols = reverse (map declared_symbol l.stack.symbols.items);
  assertions = reverse (map (λ x. term x.value) l.stack.assertions.items);
}

-- the newest level stands first
abbrev pub levels_of : Levels → List Level
levels_of l = spread (reverse l.counts.items) (all_of l)

-- all that stands on some levels, the oldest first
abbrev pub standing : List Level → Stack
standing levels = record { assertions = reverse (assertions_of levels); symbols = reverse (declared_in levels) }

-- how many levels are open; the base level isn't counted
abbrev pub depth : List Level → ℕ
depth [] = 0
depth (l ∷ levels) = length levels

-- the levels, and what the last check said of them
pub record State : Type 0 where
  pub levels : List Level
  pub last : Last

abbrev pub state : Session → State
state s = record { levels = levels_of s.levels; last = s.last }

-- memory ran out
abbrev pub is_spent : Session → Bool
is_spent s = s.spent

abbrev pub cause_of : Last → Option Cause
cause_of Nothing = None
cause_of (Refuted steps) = None
cause_of Satisfied = None
cause_of (Unknown cause) = Some cause
