-- What is evaluated in another state, after which the state is as before.
use Rattle.std.proofs.Common.{◌≡◌, ℕ, List, ◌∷◌, Result, Ok, Err, refl}
use Rattle.vx_ast.specs.Syntax.{Expr}
use Rattle.vx_meaning.specs.Values.{Value}
use Rattle.vx_meaning.specs.States.{State, Holdings, with_store}
use Rattle.vx_run.specs.Going.{Going, Outcome, Supply, ◌>>=◌, continued, gives}
use Rattle.vx_run.specs.Blame.{within, ended_within}
use Rattle.vx_run.specs.Configs.{Config, with_values, with_takings, in_state, put_value, put_state, put_taking, with_taking}
use Rattle.vx_run.specs.Changes.{act}
use Rattle.vx_run.specs.Frames.{before}
use Rattle.vx_run.specs.declared.blame.Blame.{Blame}
use Rattle.vx_run.specs.declared.change.Change.TheVariants.{StartTaking, DropTaking}

module _ (b : Blame) (c : Config) where
  -- back in the state before
  back_from : (s : State) (x : Result (Value × Supply ℕ) Outcome) (k : Config → Going ℕ Config) →
      continued (continued (ended_within b x) (λ v. gives (with_values (v ∷ c.values) (in_state s c)))) (before (λ d. gives (in_state c.state d)) k)
      ≡ continued (continued (ended_within b x) (λ v. gives (with_values (v ∷ c.values) c))) k
  back_from s (Ok r) k = refl
  back_from s (Err o) k = refl

  pub back : (s : State) (m : Going ℕ Value) (k : Config → Going ℕ Config) →
      (put_value b (in_state s c) m >>= before (λ d. gives (in_state c.state d)) k) ≡ (put_value b c m >>= k)
  back s m k = λ i l. back_from s (m l) k i

  -- what is taken is held again, before a value is found
  after_taking : (x : Result (Holdings × Supply ℕ) Outcome) (n : State → Going ℕ Value) (k : Config → Going ℕ Config) →
      continued (continued (ended_within b x) (λ h. gives (with_takings (h ∷ c.takings) c))) (before (act DropTaking) (before (λ d. put_value b d (n d.state)) k))
      ≡ continued (continued (ended_within b (continued x (λ h. n c.state))) (λ v. gives (with_values (v ∷ c.values) c))) k
  after_taking (Ok r) n k = refl
  after_taking (Err o) n k = refl

  pub taken_first : (m : State → Holdings → Going ℕ Holdings) (n : State → Going ℕ Value) (k : Config → Going ℕ Config) →
      before (act StartTaking) (before (λ d. with_taking d (λ h e. put_taking b e (m e.state h))) (before (act DropTaking) (before (λ d. put_value b d (n d.state)) k))) c
      ≡ (put_value b c (m c.state c.state.holdings >>= λ h. n c.state) >>= k)
  taken_first m n k = λ i l. after_taking (m c.state c.state.holdings l) n k i

-- a body is added within something, and the value is found there with the variables as they were
module _ (inner b : Blame) (c : Config) where
  after_adding : (s : State) (x : Result (State × Supply ℕ) Outcome) (n : State → Going ℕ Value) (k : Config → Going ℕ Config) →
      continued (continued (ended_within inner x) (λ u. gives (in_state u (in_state s c))))
      (before (λ d. gives (in_state (with_store c.state.store d.state) d)) (before (λ d. put_value b d (n d.state)) (before (λ d. gives (in_state c.state d)) k)))
      ≡ continued (continued (ended_within inner x) (λ u. put_value b c (n (with_store c.state.store u)))) k
  after_adding s (Ok (u, l)) n k = λ i. back b c (with_store c.state.store u) (n (with_store c.state.store u)) k i l
  after_adding s (Err o) n k = refl

  pub added_first : (s : State) (m : State → Going ℕ State) (n : State → Going ℕ Value) (k : Config → Going ℕ Config) →
      before (λ d. put_state inner d (m d.state))
      (before (λ d. gives (in_state (with_store c.state.store d.state) d)) (before (λ d. put_value b d (n d.state)) (before (λ d. gives (in_state c.state d)) k))) (in_state s c)
      ≡ ((within inner (m s) >>= λ u. put_value b c (n (with_store c.state.store u))) >>= k)
  added_first s m n k = λ i l. after_adding s (m s l) n k i
