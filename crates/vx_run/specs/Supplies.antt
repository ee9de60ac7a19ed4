-- The supply that the code's stands for, and what a step came to.
use Rattle.std.specs.Prelude.{ℕ, List, ◌++◌, Result, Ok, Err}
use Rattle.vx_meaning.specs.Values.{Value}
use Rattle.vx_run.specs.Going.{Supply, Outcome, continued, gives}
use Rattle.vx_run.specs.Views.{outcome}
use Rattle.vx_run.specs.declared.outcome.Whole.{Whole}
use Rattle.vx_run.specs.declared.supply.Supply.{Supply as Supply'}

abbrev pub supply : Supply' → Supply ℕ
supply l = record { source = l.source; steps = l.steps }

abbrev pub stepped : Result (Unit {0}) Whole → Supply ℕ → Result (Unit {0} × Supply ℕ) Outcome
stepped (Ok t) l = Ok (tt, l)
stepped (Err w) l = Err (outcome w)

-- these values stand before those that are still chosen
abbrev pub behind : List Value → Result (List Value × Supply ℕ) Outcome → Result (List Value × Supply ℕ) Outcome
behind ws r = continued r (λ vs. gives (ws ++ vs))
