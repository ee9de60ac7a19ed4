-- What is found, taken or given, and what goes on with it.
use Rattle.std.proofs.Common.{◌≡◌, ℕ, List, ◌∷◌, Result, Ok, Err, refl, sym, ◌∙◌, ap}
use Rattle.vx_ast.specs.declared.Place.{Place}
use Rattle.vx_meaning.specs.Values.{Value}
use Rattle.vx_meaning.specs.States.{State, Holdings}
use Rattle.vx_run.specs.Going.{Going, Outcome, Supply, Stopped, Failed, Running, Wide, Unchosen, Ended, ◌>>=◌, gives, failing_as}
use Rattle.vx_run.specs.Blame.{within, ended_within}
use Rattle.vx_run.specs.Configs.{Config, in_state, with_one, with_list, with_taking, put_value, put_list, put_state, put_taking}
use Rattle.vx_run.specs.Frames.{Come, Follows}
use Rattle.vx_run.specs.Holding.{Tells}
use Rattle.vx_run.specs.declared.halt.Halt.{Halt}
use Rattle.vx_run.specs.declared.halt.Halt.TheVariants as halt
use Rattle.vx_run.specs.declared.blame.Blame.{Blame}
use Rattle.vx_run.specs.declared.blame.Blame.TheVariants as blame
use Rattle.vx_run.proofs.Steps.{bracketed}

itself_in : {A : Type 0} (x : Result (A × Supply ℕ) Outcome) → ended_within blame.Itself x ≡ x
itself_in (Ok r) = refl
itself_in (Err Ended) = refl
itself_in (Err (Stopped at)) = refl
itself_in (Err (Failed at)) = refl
itself_in (Err Running) = refl
itself_in (Err (Wide at op a b)) = refl
itself_in (Err Unchosen) = refl

pub itself : {A : Type 0} (m : Going ℕ A) → within blame.Itself m ≡ m
itself m = λ i l. itself_in (m l) i

pub fails : {A : Type 0} (at : Place) (m : Going ℕ A) → within (blame.Fails at) m ≡ failing_as (Failed at) m
fails {A = A} at m = λ i l. by (m l) i
  where
    by : (x : Result (A × Supply ℕ) Outcome) → ended_within (blame.Fails at) x ≡ failing_as (Failed at) (λ (l : Supply ℕ). x) record { source = 0; steps = 0 }
    by (Ok r) = refl
    by (Err Ended) = refl
    by (Err (Stopped place)) = refl
    by (Err (Failed place)) = refl
    by (Err Running) = refl
    by (Err (Wide place op a b)) = refl
    by (Err Unchosen) = refl

pub value_then : (b : Blame) (m : Going ℕ Value) (c : Config) (f : Value → Config → Going ℕ Config) → (put_value b c m >>= λ d. with_one d f) ≡ (within b m >>= λ v. f v c)
value_then b m c f = bracketed (within b m) _ _

pub list_then : (b : Blame) (m : Going ℕ (List Value)) (c : Config) (f : List Value → Config → Going ℕ Config) → (put_list b c m >>= λ d. with_list d f) ≡ (within b m >>= λ vs. f vs c)
list_then b m c f = bracketed (within b m) _ _

pub taking_then : (b : Blame) (m : Going ℕ Holdings) (c : Config) (f : Holdings → Config → Going ℕ Config) → (put_taking b c m >>= λ d. with_taking d f) ≡ (within b m >>= λ h. f h c)
taking_then b m c f = bracketed (within b m) _ _

pub state_then : (b : Blame) (m : Going ℕ State) (c : Config) (f : Config → Going ℕ Config) → (put_state b c m >>= f) ≡ (within b m >>= λ s. f (in_state s c))
state_then b m c f = bracketed (within b m) _ _

-- what ends here ends all that follows
pub told_on : {A B : Type 0} (view : A → B) (x : Halt) (m : Going ℕ B) (f : B → Going ℕ Config) (new : Come) (l : Supply ℕ) → Tells view (Err x) m → Follows (Err x) new ((m >>= f) l)
told_on {A} {B} view (halt.Over end) m f new l e = ap (λ (o : Going ℕ B). (o >>= f) l) e
told_on view halt.Want m f new l e = tt
