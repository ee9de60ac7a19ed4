-- What is given, with values chosen where it is newly held.
use Rattle.std.proofs.Common.{◌≡◌, ℕ, Result, Ok, Err, refl, sym, ◌∙◌, ap}
use Rattle.vx_ast.specs.declared.Place.{Place}
use Rattle.vx_frac.specs.Fractions.{Fraction}
use Rattle.vx_meaning.specs.States.{Resource, Holdings, with_heap, with_holdings}
use Rattle.vx_run.specs.Draws.{by_draws}
use Rattle.vx_run.specs.Going.{Going, Outcome, Supply, ◌>>=◌, continued, gives, failing_as, Stopped}
use Rattle.vx_run.specs.Widths.{within_128_bits, written_all}
use Rattle.vx_run.specs.Given.{Filling, all_held, filled}
use Rattle.vx_run.specs.Blame.{within, ended_within, counted, failed_as}
use Rattle.vx_run.specs.Configs.{Setting, Config, around, put_state}
use Rattle.vx_run.specs.Frames.{before}
use Rattle.vx_run.specs.Pending.{deeper_by}
use Rattle.vx_run.specs.Visits.{holding_now, possible_or_stop}
use Rattle.vx_run.specs.declared.blame.Blame.{Blame}
use Rattle.vx_run.specs.declared.context.Within.{Within}
use Rattle.vx_run.proofs.Steps.{failing_within}
use Rattle.vx_run.proofs.Permitted.{put_then}

module _ (t : Setting) (k : Within) (at : Place) (r : Resource) (b : Fraction) (h : Holdings) (c : Config) where
  abbrev pub chosen_for_it : Going ℕ Filling
  chosen_for_it =
      filled t.program by_draws within_128_bits (deeper_by t k.level) t.steps (around c.callers) k.level at r b
      (record { heap = c.state.heap; totals = written_all within_128_bits (all_held t.program t.steps (around c.callers) c.state) })

  abbrev pub then_possible : Filling → Going ℕ Config
  then_possible w = put_state k.blame c (possible_or_stop t at c (with_holdings h (with_heap w.heap c.state)))

  pub holding_in : (to : Blame) → ((o : Outcome) → counted k.blame (failed_as (Stopped at) o) ≡ counted to o) → holding_now t k at r b h c ≡ (within to chosen_for_it >>= then_possible)
  holding_in to e =
      put_then k.blame c (failing_as (Stopped at) chosen_for_it) (λ w. possible_or_stop t at c (with_holdings h (with_heap w.heap c.state)))
      ∙ ap (λ (m : Going ℕ Filling). m >>= then_possible) (failing_within k.blame to (Stopped at) e chosen_for_it)

  -- where the values are found at once
  pub holding_then : (to : Blame) → ((o : Outcome) → counted k.blame (failed_as (Stopped at) o) ≡ counted to o) → (w : Filling) (l j : Supply ℕ) → chosen_for_it l ≡ Ok (w, j) →
      then_possible w j ≡ holding_now t k at r b h c l
  holding_then to e w l j f =
      sym (ap (λ (m : Going ℕ Config). m l) (holding_in to e) ∙ ap (λ (x : Result (Filling × Supply ℕ) Outcome). continued (ended x) then_possible) f)
    where
      ended : Result (Filling × Supply ℕ) Outcome → Result (Filling × Supply ℕ) Outcome
      ended x = within to (λ l. x) l

-- what comes of something is put, and what follows goes on from there
pub filled_then : {A : Type 0} (to : Blame) (m : Going ℕ A) (l : Supply ℕ) (put : A → Config) (f : Config → Going ℕ Config) (f' : A → Going ℕ Config) (g : Config → Going ℕ Config) → ((a : A) → f (put a) ≡ f' a) →
    ((within to m >>= λ a. gives (put a)) >>= before f g) l ≡ ((within to m >>= f') >>= g) l
filled_then {A = A} to m l put f f' g h = go (m l)
  where
    go : (x : Result (A × Supply ℕ) Outcome) → continued (continued (ended_within to x) (λ a. gives (put a))) (before f g) ≡ continued (continued (ended_within to x) f') g
    go (Ok (a, j)) = ap (λ (n : Going ℕ Config). continued (n j) g) (h a)
    go (Err o) = refl
