-- Checks and sides of runs backwards: a check that is refused over each heap that agrees fails there, and one that passes leads to what follows.
use Rattle.std.proofs.Common.{◌≡◌, ℕ, refl}
use Rattle.std.specs.Prelude.{Ok, Err}
use Rattle.vx_ast.specs.declared.Place.{Place}
use Rattle.vx_ast.specs.Syntax.{Program}
use Rattle.vx_meaning.specs.States as run
use Rattle.vx_meaning.specs.Fits.{Checked, Eventually}
use Rattle.vx_meaning.specs.Outcomes.{Outcomes, FailsAt, checked, passes, refused}
use Rattle.vx_real.proofs.Backwards.{AgreeOn, over, from_map, fails_here, FailsFrom, EndsIn, Leads}

module _ (p : Program) where
  -- over each heap that agrees with what is held
  abbrev pub Always : run.State → (run.State → Type 0) → Type 0
  Always c P = (g o : run.Heap) → AgreeOn p c.holdings g c.heap → AgreeOn p c.old_holdings o c.old_heap → P (over g o c)

  module _ {A : Type 0} (check : run.State → ℕ → Checked A) (rest : run.State → A → Outcomes) (c : run.State) where
    pub refused_fails : (at : Place) → Always c (λ s. Eventually (λ n. check s n ≡ Err at)) → FailsFrom p (λ s. checked (check s) (rest s)) c at
    refused_fails at f = fails_here p (λ s. checked (check s) (rest s)) c at (λ g o a b. refused at (f g o a b) refl)

    pub passing_fails : (at : Place) (a : A) → Always c (λ s. Eventually (λ n. check s n ≡ Ok a)) → FailsFrom p (λ s. rest s a) c at → FailsFrom p (λ s. checked (check s) (rest s)) c at
    passing_fails at a f r = from_map p (λ g o. checked (check (over g o c)) (rest (over g o c)) (FailsAt at)) r (λ g o e old r. passes a (f g o e old) r)

    pub passing_leads : (d : run.State) (a : A) → Always c (λ s. Eventually (λ n. check s n ≡ Ok a)) → Leads p (λ s. rest s a) c d → Leads p (λ s. checked (check s) (rest s)) c d
    passing_leads d a f l h agrees = from_map p (EndsIn p (λ s. checked (check s) (rest s)) c d h) (l h agrees) (λ g o e old r. (r.0, r.1, passes a (f g o e old) r.2))
