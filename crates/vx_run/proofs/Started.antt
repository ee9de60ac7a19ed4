-- The whole run of a method by what is to be done for it: its precondition is given, its body runs, its postcondition is taken.
use Rattle.std.proofs.Common.{◌≡◌, ℕ, suc, ◌+◌, List, [], ◌∷◌, ◌++◌, length, Result, Ok, Err, refl, sym, ◌∙◌, ap}
use Rattle.vx_ast.specs.Syntax.{Program, Method, Block}
use Rattle.vx_frac.specs.Fractions.{full}
use Rattle.vx_meaning.specs.Values.{Value}
use Rattle.vx_meaning.specs.States.{State, Store, Holdings, bind, from_now}
use Rattle.vx_meaning.specs.Flatten.{bare}
use Rattle.vx_meaning.specs.Fails.{precondition_of, postcondition_of}
use Rattle.vx_meaning.specs.Around.{nobody}
use Rattle.vx_run.specs.Draws.{by_draws}
use Rattle.vx_run.specs.Going.{Going, Outcome, Supply, Ended, ◌>>=◌, continued, gives, chosen_for}
use Rattle.vx_run.specs.Widths.{within_128_bits}
use Rattle.vx_run.specs.Evaluated.{take}
use Rattle.vx_run.specs.Given.{give}
use Rattle.vx_run.specs.Whole as whole
use Rattle.vx_run.specs.Drawn.{drawn}
use Rattle.vx_run.specs.Blame.{ended_within}
use Rattle.vx_run.specs.Configs.{Setting, Config, Caller, around, in_state, with_takings, with_taking, put_state, put_taking}
use Rattle.vx_run.specs.Pending.{deeper_by}
use Rattle.vx_run.specs.Tasks.{bodies_by}
use Rattle.vx_run.specs.Frames.{before}
use Rattle.vx_run.specs.Runs.{end_of, first, method_rest}
use Rattle.vx_run.specs.Changes.{act}
use Rattle.vx_run.specs.declared.blame.Blame.TheVariants.{Itself}
use Rattle.vx_run.specs.declared.change.Change.TheVariants.{FromNow, StartTaking, DropTaking}

abbrev pub ended : Result (Unit {0} × Supply ℕ) Outcome → Outcome
ended (Ok r) = Ended
ended (Err o) = o

module _ (body : List Caller → State → Going ℕ State) (taking : State → Holdings → Going ℕ Holdings) where
  abbrev pub bodied : Config → Going ℕ Config
  bodied c = put_state Itself c (body c.callers c.state)

  abbrev pub took : Config → Going ℕ Config
  took c = with_taking c (λ h d. put_taking Itself d (taking d.state h))

  after_taking : (c : Config) (x : Result (Holdings × Supply ℕ) Outcome) →
      end_of (continued (continued (ended_within Itself x) (λ h. gives (with_takings (h ∷ c.takings) c))) (before (act DropTaking) gives)) ≡ ended (continued x (λ _. gives tt))
  after_taking c (Ok r) = refl
  after_taking c (Err o) = refl

  after_body : (c : Config) (x : Result (State × Supply ℕ) Outcome) →
      end_of (continued (continued (ended_within Itself x) (λ s. gives (in_state s c))) (before (act StartTaking) (before took (before (act DropTaking) gives))))
      ≡ ended (continued x (λ s. taking s s.holdings >>= λ _. gives tt))
  after_body c (Ok (s, l)) = after_taking (in_state s c) (taking s s.holdings l)
  after_body c (Err o) = refl

  pub after_giving : (c : Config) (x : Result (State × Supply ℕ) Outcome) →
      end_of (continued (continued (ended_within Itself x) (λ s. gives (in_state s c))) (before (act FromNow) (before bodied (before (act StartTaking) (before took (before (act DropTaking) gives))))))
      ≡ ended (continued x (λ s. body c.callers (from_now s) >>= λ u. taking u u.holdings >>= λ _. gives tt))
  after_giving c (Ok (s, l)) = after_body (in_state (from_now s) c) (body c.callers (from_now s) l)
  after_giving c (Err o) = refl

-- what is to be done of a method, from these variables
module _ (t : Setting) (n : ℕ) (m : Method) (b : Block) where
  abbrev body_by : List Caller → State → Going ℕ State
  body_by cs s = bodies_by t n (around cs) b s

  abbrev taking_by : State → Holdings → Going ℕ Holdings
  taking_by s h = take t.program within_128_bits (deeper_by t n) s full (postcondition_of m) h

  abbrev pub by_definition : Store → Going ℕ (Unit {0})
  by_definition x =
      give t.program by_draws within_128_bits (deeper_by t n) t.steps nobody n full (precondition_of m) (bare x []) >>= λ s. bodies_by t n nobody b (from_now s) >>= λ u.
      take t.program within_128_bits (deeper_by t n) u full (postcondition_of m) u.holdings >>= λ _. gives tt

  pub started : (x : Store) (l : Supply ℕ) → end_of (method_rest t n m b (first x) l) ≡ ended (by_definition x l)
  started x l = after_giving body_by taking_by (first x) (give t.program by_draws within_128_bits (deeper_by t n) t.steps nobody n full (precondition_of m) (bare x []) l)

-- the drawn run, once its first values are drawn
module _ (p : Program) (m : Method) (b : Block) (seed steps : ℕ) where
  abbrev pub setting : Setting
  setting = record { program = p; steps = steps }

  abbrev pub levels : ℕ
  levels = suc (steps + length p)

  same_end : (r : Result (Unit {0} × Supply ℕ) Outcome) → ended r ≡ whole.outcome p by_draws within_128_bits steps r
  same_end (Ok r) = refl
  same_end (Err o) = refl

  abbrev behind_returns : List Value → Result (List Value × Supply ℕ) Outcome → Outcome
  behind_returns vs r = whole.outcome p by_draws within_128_bits steps (continued r (λ ws. by_definition setting levels m b (bind m.parameters vs ++ bind m.returns ws)))

  abbrev behind_parameters : Result (List Value × Supply ℕ) Outcome → Outcome
  behind_parameters r =
      whole.outcome p by_draws within_128_bits steps (continued r (λ vs. chosen_for by_draws m.returns >>= λ ws. by_definition setting levels m b (bind m.parameters vs ++ bind m.returns ws)))

  pub drawn_is : (vs ws : List Value) (k l : Supply ℕ) → chosen_for by_draws m.parameters (record { source = seed; steps = steps }) ≡ Ok (vs, k) → chosen_for by_draws m.returns k ≡ Ok (ws, l) →
      ended (by_definition setting levels m b (bind m.parameters vs ++ bind m.returns ws) l) ≡ drawn p m b seed steps
  drawn_is vs ws k l e f =
      same_end (by_definition setting levels m b (bind m.parameters vs ++ bind m.returns ws) l) ∙ ap (behind_returns vs) (sym f) ∙ ap behind_parameters (sym e)

-- the run of a method is the drawn one, where its variables are drawn
module _ (p : Program) (m : Method) (b : Block) (seed steps : ℕ) where
  pub method_drawn : (n : ℕ) (vs ws : List Value) (k l : Supply ℕ) (x : Store) (c : Config) (f : Config → Going ℕ Config) → f ≡ method_rest (setting p m b seed steps) n m b → c ≡ first x →
      x ≡ bind m.parameters vs ++ bind m.returns ws → n ≡ suc (steps + length p) →
      chosen_for by_draws m.parameters (record { source = seed; steps = steps }) ≡ Ok (vs, k) → chosen_for by_draws m.returns k ≡ Ok (ws, l) →
      end_of (f c l) ≡ drawn p m b seed steps
  method_drawn n vs ws k l x c f ef ec ex en e g =
      ap (λ (h : Config → Going ℕ Config). end_of (h c l)) ef
      ∙ ap (λ (d : Config). end_of (method_rest (setting p m b seed steps) n m b d l)) ec
      ∙ ap (λ (y : Store). end_of (method_rest (setting p m b seed steps) n m b (first y) l)) ex
      ∙ started (setting p m b seed steps) n m b (bind m.parameters vs ++ bind m.returns ws) l
      ∙ ap (λ (i : ℕ). ended (by_definition (setting p m b seed steps) i m b (bind m.parameters vs ++ bind m.returns ws) l)) en
      ∙ drawn_is p m b seed steps vs ws k l e g
