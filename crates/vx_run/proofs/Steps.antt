-- One more thing to be done, and what a form's parts come to.
use Rattle.std.proofs.Common.{◌≡◌, ℕ, List, [], ◌∷◌, ◌++◌, Result, Ok, Err, refl, sym, ◌∙◌, ap, subst}
use Rattle.vx_meaning.specs.Values.{Value}
use Rattle.vx_run.specs.Going.{Going, Outcome, Supply, Ended, Stopped, Failed, Running, Wide, Unchosen, ◌>>=◌, continued, gives, failing_as}
use Rattle.vx_run.specs.Blame.{within, ended_within, counted, failed_as}
use Rattle.vx_run.specs.Configs.{Setting, Config, with_values, put_value}
use Rattle.vx_run.specs.Frames.{act, rest, before, Come, Follows}
use Rattle.vx_run.specs.declared.blame.Blame.{Blame}
use Rattle.vx_run.specs.declared.halt.Halt.{Halt}
use Rattle.vx_run.specs.declared.halt.Halt.TheVariants as halt
use Rattle.vx_run.specs.declared.frame.Frame.{Frame}

-- in any order of brackets
pub continued_on : {A B C : Type 0} (x : Result (A × Supply ℕ) Outcome) (f : A → Going ℕ B) (g : B → Going ℕ C) →
    continued (continued x f) g ≡ continued x (λ a. f a >>= g)
continued_on (Ok (a, l)) f g = refl
continued_on (Err o) f g = refl

pub bracketed : {A B C : Type 0} (m : Going ℕ A) (f : A → Going ℕ B) (g : B → Going ℕ C) → ((m >>= f) >>= g) ≡ (m >>= λ a. f a >>= g)
bracketed m f g = λ i l. continued_on (m l) f g i

pub given_on : {A : Type 0} (x : Result (A × Supply ℕ) Outcome) → continued x gives ≡ x
given_on (Ok (a, l)) = refl
given_on (Err o) = refl

pub rest_more : (t : Setting) (fs : List Frame) (f : Frame) → rest t (fs ++ f ∷ []) ≡ before (act t f) (rest t fs)
rest_more t [] f = λ i c l. sym (given_on (act t f c l)) i
rest_more t (e ∷ fs) f =
    ap (λ (g : Config → Going ℕ Config). before g (act t e)) (rest_more t fs f)
    ∙ (λ i c. bracketed (act t f c) (rest t fs) (act t e) i)

-- what is within something, in parts
pub ended_on : {A B : Type 0} (b : Blame) (x : Result (A × Supply ℕ) Outcome) (f : A → Going ℕ B) →
    ended_within b (continued x f) ≡ continued (ended_within b x) (λ a. within b (f a))
ended_on b (Ok (a, l)) f = refl
ended_on b (Err o) f = refl

pub within_on : {A B : Type 0} (b : Blame) (m : Going ℕ A) (f : A → Going ℕ B) → within b (m >>= f) ≡ (within b m >>= λ a. within b (f a))
within_on b m f = λ i l. ended_on b (m l) f i

-- a form of one part: what the part comes to is put on, and what was put off behind it goes on from there
one_part : {A B : Type 0} (b : Blame) (x : Result (A × Supply ℕ) Outcome) (on : A → Config) (f : A → Going ℕ B) (to : B → Config) (g k : Config → Going ℕ Config) →
    ((a : A) → g (on a) ≡ (within b (f a) >>= λ r. gives (to r))) →
    continued (continued (ended_within b x) (λ a. gives (on a))) (before g k) ≡ continued (continued (ended_within b (continued x f)) (λ r. gives (to r))) k
one_part b (Ok (a, l)) on f to g k h = ap (λ (m : Going ℕ Config). continued (m l) k) (h a)
one_part b (Err o) on f to g k h = refl

pub of_one : {A B : Type 0} (b : Blame) (m : Going ℕ A) (on : A → Config) (f : A → Going ℕ B) (to : B → Config) (g k : Config → Going ℕ Config) →
    ((a : A) → g (on a) ≡ (within b (f a) >>= λ r. gives (to r))) →
    ((within b m >>= λ a. gives (on a)) >>= before g k) ≡ ((within b (m >>= f) >>= λ r. gives (to r)) >>= k)
of_one b m on f to g k h = λ i l. one_part b (m l) on f to g k h i

-- a form of two parts, the second found with the first's put on
two_parts : {A B C : Type 0} (b : Blame) (x : Result (A × Supply ℕ) Outcome) (n : Going ℕ B) (on : A → Config) (upon : A → B → Config) (f : A → B → Going ℕ C) (to : C → Config)
    (h : Config → Going ℕ Config) (g k : Config → Going ℕ Config) → ((a : A) → h (on a) ≡ (within b n >>= λ r. gives (upon a r))) →
    ((a : A) (r : B) → g (upon a r) ≡ (within b (f a r) >>= λ u. gives (to u))) →
    continued (continued (ended_within b x) (λ a. gives (on a))) (before h (before g k)) ≡ continued (continued (ended_within b (continued x (λ a. n >>= f a))) (λ u. gives (to u))) k
two_parts b (Ok (a, l)) n on upon f to h g k e q =
    ap (λ (m : Going ℕ Config). continued (m l) (before g k)) (e a) ∙ one_part b (n l) (upon a) (f a) to g k (q a)
two_parts b (Err o) n on upon f to h g k e q = refl

pub of_two : {A B C : Type 0} (b : Blame) (m : Going ℕ A) (n : Going ℕ B) (on : A → Config) (upon : A → B → Config) (f : A → B → Going ℕ C) (to : C → Config)
    (h : Config → Going ℕ Config) (g k : Config → Going ℕ Config) → ((a : A) → h (on a) ≡ (within b n >>= λ r. gives (upon a r))) →
    ((a : A) (r : B) → g (upon a r) ≡ (within b (f a r) >>= λ u. gives (to u))) →
    ((within b m >>= λ a. gives (on a)) >>= before h (before g k)) ≡ ((within b (m >>= λ a. n >>= f a) >>= λ u. gives (to u)) >>= k)
of_two b m n on upon f to h g k e q = λ i l. two_parts b (m l) n on upon f to h g k e q i

-- what changes the configuration alone leaves what follows
pub follows_on : (x : Result (Unit {0}) Halt) (c : Config) (l : Supply ℕ) (m : Come) (k : Config → Going ℕ Config) → Follows x (gives c l) m → Follows x (k c l) (continued m k)
follows_on (Ok u) c l m k e = ap (λ (n : Come). continued n k) e
follows_on (Err (halt.Over end)) c l m k e = ap (λ (n : Come). continued n k) e
follows_on (Err halt.Want) c l m k e = tt

-- the same end, said of the same thing in other words
pub follows_as : (x : Result (Unit {0}) Halt) (new old other : Come) → Follows x new old → old ≡ other → Follows x new other
follows_as x new old other h e = subst (Follows x new) e h

pub follows_from : (x : Result (Unit {0}) Halt) (new first old : Come) → Follows x first old → new ≡ first → Follows x new old
follows_from x new first old h e = subst (λ (n : Come). Follows x n old) (sym e) h

-- a form that has no parts
pub of_none : (x : Result (Unit {0}) Halt) (b : Blame) (c d : Config) (l : Supply ℕ) (m n : Going ℕ Value) (k : Config → Going ℕ Config) →
    Follows x (gives d l) (put_value b c m l) → m ≡ n → Follows x (k d l) (before (λ e. put_value b e n) k c l)
of_none x b c d l m n k f e = follows_on x d l (put_value b c n l) k (subst (λ (q : Going ℕ Value). Follows x (gives d l) (put_value b c q l)) e f)

-- within something, what fails counts as one thing
module _ {A : Type 0} (b to : Blame) (e : Outcome) (h : (o : Outcome) → counted b (failed_as e o) ≡ counted to o) where
  pub failing_within : (m : Going ℕ A) → within b (failing_as e m) ≡ within to m
  failing_within m = λ i l. go (m l) i where
    ended : {o u : Outcome} → o ≡ u → (let r : Result (A × Supply ℕ) Outcome = Err o in r) ≡ Err u
    ended q = ap (λ (o : Outcome). let r : Result (A × Supply ℕ) Outcome = Err o in r) q

    go : (x : Result (A × Supply ℕ) Outcome) → ended_within b (let n : Going ℕ A = λ l. x in failing_as e n record { source = 0; steps = 0 }) ≡ ended_within to x
    go (Ok r) = refl
    go (Err (Failed at)) = ended (h (Failed at))
    go (Err (Stopped at)) = ended (h (Stopped at))
    go (Err Ended) = ended (h Ended)
    go (Err Running) = ended (h Running)
    go (Err (Wide at op a c)) = ended (h (Wide at op a c))
    go (Err Unchosen) = ended (h Unchosen)
