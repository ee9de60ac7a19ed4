-- Blocks backwards: one statement after the other, sides of a condition, and a block's own variables that are forgotten at its end.
use Rattle.std.proofs.Common.{◌≡◌, ◌⊎◌, inl, inr, ℕ, ◌≤◌, Bool, true, false, cond, length, take, refl, sym, ◌∙◌, ap, subst, le_refl, le_trans}
use Rattle.std.proofs.Math.Seq.{take-append_seam}
use Rattle.vx_ast.specs.declared.Place.{Place}
use Rattle.vx_ast.specs.declared.ValueType.TheVariants as type
use Rattle.vx_ast.specs.Syntax.{Program, Expr, Stmt, If, Block, Done, Then}
use Rattle.vx_meaning.specs.Values.{Value, type_of, is_true}
use Rattle.vx_meaning.specs.States as run
use Rattle.vx_meaning.specs.Fits.{fit_by}
use Rattle.vx_meaning.specs.Outcomes.{Outcomes, ends}
use Rattle.vx_meaning.specs.Give.{when, side}
use Rattle.vx_meaning.specs.Run as meaning
use Rattle.vx_terms.specs.Interpretations.{Interpretation, as_bool}
use Rattle.vx_rules.specs.States as rules
use Rattle.vx_rules.specs.Trees.{Code}
use Rattle.vx_rules.specs.Rules.{Going, Outer, fork}
use Rattle.vx_rules.specs.Members.{exec_all}
use Rattle.vx_types.specs.Typing.{Scope, scope_after, scope_after_all}
use Rattle.vx_types.specs.FieldLanguage.{InFields}
use Rattle.vx_elements.proofs.Settled.{Meaning}
use Rattle.vx_elements.proofs.Elements.{element, bool_value_is}
use Rattle.vx_elements.proofs.Scopes.{scope_more}
use Rattle.vx_grows.proofs.GrowSteps.{Follows, fork_grows}
use Rattle.vx_grows.proofs.GrowParts.{OuterGrows}
use Rattle.vx_grows.proofs.GrowStatements.{exec_all_grows}
use Rattle.vx_sound.proofs.Fields.{fields_world}
use Rattle.vx_sound.proofs.Stands.{StoreStands, store_take, store_lengths}
use Rattle.vx_sound.proofs.Statements.{still_once}
use Rattle.vx_real.proofs.Backwards.{become, FailsFrom, Leads, first_fails, then_fails, then_leads, keeping_leads}
use Rattle.vx_real.proofs.Matched.{HasReferences, Misfits, Evaluates, Reaches, ExecReal, ExecAllReal}
use Rattle.vx_real.proofs.Questions.{Behind, forked}
use Rattle.vx_real.proofs.Expressions.{eval_real}
use Rattle.vx_real.proofs.Checks.{passing_fails, passing_leads}
use Rattle.vx_real.proofs.Symbols.{matches_store}
use Rattle.vx_real.proofs.Plain.{fits_always, misfit_fails}

-- the side that a value picks
pub picks : (v : Value) (b : Bool) → type_of v ≡ type.Bool → as_bool (element v) ≡ b → is_true v ≡ b
picks v b t e = ap is_true (bool_value_is v t) ∙ e

module _ (p : Program) (c : run.State) (v : Value) (b : Bool) (is : is_true v ≡ b) (left right : run.State → Outcomes) where
  pub side_fails : (at : Place) → FailsFrom p (cond b left right) c at → FailsFrom p (λ s. side v (left s) (right s)) c at
  side_fails at f = go b is f
    where
      go : (x : Bool) → is_true v ≡ x → FailsFrom p (cond x left right) c at → FailsFrom p (λ s. side v (left s) (right s)) c at
      go true e f = subst (λ x. FailsFrom p (λ s. when x (left s) (right s)) c at) (sym e) f
      go false e f = subst (λ x. FailsFrom p (λ s. when x (left s) (right s)) c at) (sym e) f

  pub side_leads : (d : run.State) → Leads p (cond b left right) c d → Leads p (λ s. side v (left s) (right s)) c d
  side_leads d f = go b is f
    where
      go : (x : Bool) → is_true v ≡ x → Leads p (cond x left right) c d → Leads p (λ s. side v (left s) (right s)) c d
      go true e f = subst (λ x. Leads p (λ s. when x (left s) (right s)) c d) (sym e) f
      go false e f = subst (λ x. Leads p (λ s. when x (left s) (right s)) c d) (sym e) f

module _ (means : Meaning) (p : Program) (i : Interpretation) (references : HasReferences i) (at : Place) (code : Code) (o : Outer) (below : OuterGrows o) where
  -- it fails at the place, or leads on with some store
  abbrev pub Runs : Scope → (run.State → Outcomes) → rules.State → run.State → Going → Type 0
  Runs scope first s c on = FailsFrom p first c at ⊎ ((x : run.Store) × Reaches means p i at code scope first s c x on)

  -- from a state that was before, with no fewer symbols
  pub earlier_runs : (scope : Scope) (first : run.State → Outcomes) (s t : rules.State) (c : run.State) (on : Going) → s.next ≤ t.next → t.at ≡ s.at → Runs scope first t c on → Runs scope first s c on
  earlier_runs scope first s t c on le e (inl f) = inl f
  earlier_runs scope first s t c on le e (inr (x, r)) =
      inr (x, record { state = r.state; heap = r.heap; holdings = r.holdings; later = le_trans le r.later; at_is = r.at_is ∙ e; matches = r.matches; leads = r.leads; exposed = r.exposed })

  -- a block whose variables are forgotten
  back_in : (b : Block) (scope : Scope) → take (length scope) (scope_after_all p b scope) ≡ scope
  back_in b scope = let r = scope_more p b scope in ap (take (length scope)) r.1 ∙ take-append_seam scope r.0

  pub scoped_real : (b : Block) (scope : Scope) (s : rules.State) (c : run.State) (on : Going) (k : ℕ) → k ≡ length scope → length c.store ≡ length scope →
      Runs (scope_after_all p b scope) (meaning.run_all p b) s c (λ s1. on (rules.leave k s1)) → Runs scope (meaning.scoped p (meaning.run_all p b)) s c on
  scoped_real b scope s c on k e f (inl r) = inl (first_fails p (meaning.run_all p b) (λ t. ends (run.leave (length c.store) t)) c at r)
  scoped_real b scope s c on k e f (inr (x, r)) =
      let l = length c.store in
      let d = become x r.heap r.holdings c in
      inr (
        take l x,
        record {
          state = rules.leave k r.state;
          heap = r.heap;
          holdings = r.holdings;
          later = r.later;
          at_is = r.at_is;
          matches = matches_store means p i references scope (take k r.state.store) (take l x) r.matches
              (subst (λ z. StoreStands means (fields_world p) r.state.next i z (take k r.state.store) (take l x)) (back_in b scope)
              (subst (λ m. StoreStands means (fields_world p) r.state.next i (take (length scope) (scope_after_all p b scope)) (take m r.state.store) (take l x)) (sym e)
              (subst (λ m. StoreStands means (fields_world p) r.state.next i (take (length scope) (scope_after_all p b scope)) (take (length scope) r.state.store) (take m x)) (sym f)
              (store_take means (fields_world p) r.state.next i (length scope) (scope_after_all p b scope) r.state.store x r.matches.stands.store))));
          leads = then_leads p (meaning.run_all p b) (λ t. ends (run.leave l t)) c (run.leave l d) x r.heap r.holdings r.leads (keeping_leads p (λ t. ends (run.leave l t)) d (run.leave l d) (λ g a. a) (λ g o' a b. refl));
          exposed = r.exposed;
        },
      )

  pub if_real : (place : Place) (e : Expr) (a b : Block) → InFields e → ExecAllReal means p i at code o a → ExecAllReal means p i at code o b → ExecReal means p i at code o (If place e a b)
  if_real place e a b j on_a on_b scope k once s c on none m h exposed = go (eval_real means p i at code o below e scope type.Bool k.0 j s c (λ t s1. fork t s1 left right) m (λ t s1. fork_grows s1 t left right left_grows right_grows) exposed)
    where
      leaving : Going
      leaving s1 = on (rules.leave (length s.store) s1)

      left : Going
      left s2 = exec_all p o a s2 leaving

      right : Going
      right s2 = exec_all p o b s2 leaving

      left_grows : Follows left
      left_grows s2 = exec_all_grows p o below a s2 leaving (λ s3. h (rules.leave (length s.store) s3))

      right_grows : Follows right
      right_grows s2 = exec_all_grows p o below b s2 leaving (λ s3. h (rules.leave (length s.store) s3))

      lengths : (length s.store ≡ length scope) × (length c.store ≡ length scope)
      lengths = store_lengths means (fields_world p) s.next i scope s.store c.store m.stands.store

      on_left : run.State → Outcomes
      on_left = meaning.scoped p (meaning.run_all p a)

      on_right : run.State → Outcomes
      on_right = meaning.scoped p (meaning.run_all p b)

      ran : (r : Evaluates means p i at code scope s c (λ t s1. fork t s1 left right) e type.Bool) (x : Bool) → as_bool (element r.result) ≡ x →
          Runs scope (cond x (meaning.scoped p (meaning.run_all p a)) (meaning.scoped p (meaning.run_all p b))) r.state c on → Runs scope (meaning.run p (If place e a b)) s c on
      ran r x is (inl f) = inl (passing_fails p (λ z n. fit_by p n z e) (λ z v. side v (on_left z) (on_right z)) c at r.result (fits_always p c e j r.fits)
          (side_fails p c r.result x (picks r.result x r.typed is) on_left on_right at f))
      ran r x is (inr (y, q)) = inr (
        y,
        record {
          state = q.state;
          heap = q.heap;
          holdings = q.holdings;
          later = le_trans r.later q.later;
          at_is = q.at_is ∙ r.at_is;
          matches = q.matches;
          leads = passing_leads p (λ z n. fit_by p n z e) (λ z v. side v (on_left z) (on_right z)) c (become y q.heap q.holdings c) r.result (fits_always p c e j r.fits)
              (side_leads p c r.result x (picks r.result x r.typed is) on_left on_right (become y q.heap q.holdings c) q.leads);
          exposed = q.exposed;
        },
      )

      sides : (r : Evaluates means p i at code scope s c (λ t s1. fork t s1 left right) e type.Bool) (x : Bool) → as_bool (element r.result) ≡ x → Behind means p i at code scope r.state c (cond x left right) → Runs scope (meaning.run p (If place e a b)) s c on
      sides r true is q = ran r true is (sooner_runs (scoped_real a scope q.state c on (length s.store) lengths.0 lengths.1 (on_a scope k.1 once q.state c leaving (q.at_is ∙ r.at_is ∙ none) q.matches (λ s1. h (rules.leave (length s.store) s1)) q.exposed)))
        where
          sooner_runs : Runs scope (meaning.scoped p (meaning.run_all p a)) q.state c on → Runs scope (meaning.scoped p (meaning.run_all p a)) r.state c on
          sooner_runs z = earlier_runs scope (meaning.scoped p (meaning.run_all p a)) r.state q.state c on (subst (λ n. r.state.next ≤ n) (sym q.next_is) (le_refl _)) q.at_is z
      sides r false is q = ran r false is (sooner_runs (scoped_real b scope q.state c on (length s.store) lengths.0 lengths.1 (on_b scope k.2 once q.state c leaving (q.at_is ∙ r.at_is ∙ none) q.matches (λ s1. h (rules.leave (length s.store) s1)) q.exposed)))
        where
          sooner_runs : Runs scope (meaning.scoped p (meaning.run_all p b)) q.state c on → Runs scope (meaning.scoped p (meaning.run_all p b)) r.state c on
          sooner_runs z = earlier_runs scope (meaning.scoped p (meaning.run_all p b)) r.state q.state c on (subst (λ n. r.state.next ≤ n) (sym q.next_is) (le_refl _)) q.at_is z

      go : Misfits means p i at code s c e ⊎ Evaluates means p i at code scope s c (λ t s1. fork t s1 left right) e type.Bool → Runs scope (meaning.run p (If place e a b)) s c on
      go (inl f) = inl (misfit_fails means p i references at code o below s e (λ z v. side v (on_left z) (on_right z)) none j f)
      go (inr r) = sides r (as_bool (element r.result)) refl (forked means p i at code r.term left right r.matches r.good left_grows right_grows r.exposed (as_bool (element r.result)) (ap as_bool r.value_is))

  pub done_real : ExecAllReal means p i at code o Done
  done_real scope k once s c on none m h e = inr (
    c.store,
    record {
      state = s;
      heap = c.heap;
      holdings = c.holdings;
      later = le_refl _;
      at_is = refl;
      matches = m;
      leads = keeping_leads p ends c c (λ g a. a) (λ g o' a b. refl);
      exposed = e;
    },
  )

  pub then_real : (st : Stmt) (b : Block) → ExecReal means p i at code o st → ExecAllReal means p i at code o b → ExecAllReal means p i at code o (Then st b)
  then_real st b on_st on_b scope k once s c on none m h e = go (on_st scope k.0 once s c (λ s1. exec_all p o b s1 on) none m (λ s1. exec_all_grows p o below b s1 on h) e)
    where
      after : Scope
      after = scope_after p st scope

      rest : (x : run.Store) (r : Reaches means p i at code (scope_after p st scope) (meaning.run p st) s c x (λ s1. exec_all p o b s1 on)) → Runs (scope_after_all p b (scope_after p st scope)) (meaning.run_all p b) r.state (become x r.heap r.holdings c) on →
          Runs (scope_after_all p b (scope_after p st scope)) (meaning.run_all p (Then st b)) s c on
      rest x r (inl f) = inl (then_fails p (meaning.run p st) (meaning.run_all p b) c at x r.heap r.holdings r.leads f)
      rest x r (inr (y, q)) = inr (
        y,
        record {
          state = q.state;
          heap = q.heap;
          holdings = q.holdings;
          later = le_trans r.later q.later;
          at_is = q.at_is ∙ r.at_is;
          matches = q.matches;
          leads = then_leads p (meaning.run p st) (meaning.run_all p b) c (become y q.heap q.holdings c) x r.heap r.holdings r.leads q.leads;
          exposed = q.exposed;
        },
      )

      go : Runs (scope_after p st scope) (meaning.run p st) s c (λ s1. exec_all p o b s1 on) → Runs (scope_after_all p b (scope_after p st scope)) (meaning.run_all p (Then st b)) s c on
      go (inl f) = inl (first_fails p (meaning.run p st) (meaning.run_all p b) c at f)
      go (inr (x, r)) = rest x r (on_b after k.1 (still_once p st scope k.0 once) r.state (become x r.heap r.holdings c) on (r.at_is ∙ none) r.matches h r.exposed)
