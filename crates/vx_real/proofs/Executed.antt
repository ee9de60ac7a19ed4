-- Statements and blocks of the fragment backwards, with calls.
use Rattle.std.proofs.Common.{◌≡◌, ◌⊎◌, inl, inr, ℕ, List, Some, None, ◌∙◌, subst, le_trans}
use Rattle.std.specs.Prelude.{Err}
use Rattle.vx_frac.specs.Fractions.{full}
use Rattle.vx_ast.specs.declared.Place.{Place}
use Rattle.vx_ast.specs.Syntax.{Name, Program, method_named, joined, Exprs, Stmt, Declare, Assign, Write, New, Call, Inhale, Exhale, Assert, Assume, Fold, Unfold, If, While, Block, Done, Then}
use Rattle.vx_meaning.specs.Values.{Value}
use Rattle.vx_meaning.specs.States as run
use Rattle.vx_meaning.specs.Fits.{Checked, Eventually, placed, fit_all, take_by, deeper}
use Rattle.vx_meaning.specs.Outcomes.{Outcome, Ends, FailsAt, checked}
use Rattle.vx_meaning.specs.Run as meaning
use Rattle.vx_terms.specs.Interpretations.{Interpretation, AllTrue}
use Rattle.vx_rules.specs.States as rules
use Rattle.vx_rules.specs.Trees.{Code, CallCode, Tree}
use Rattle.vx_rules.specs.Rules.{GivingAll, Outer, never}
use Rattle.vx_rules.specs.Members.{names_of, after_names, called}
use Rattle.vx_types.specs.CallLanguage.{AreInFields}
use Rattle.vx_elements.proofs.Settled.{Meaning}
use Rattle.vx_elements.proofs.Eventually.{eventually}
use Rattle.vx_grows.proofs.GrowSteps.{FollowsAll}
use Rattle.vx_grows.proofs.GrowParts.{OuterGrows}
use Rattle.vx_grows.proofs.GrowStatements.{called_grows, calling_grows}
use Rattle.vx_sound.proofs.Contracts.{IsCallable, SpeaksOfFields, AllSpeaks}
use Rattle.vx_real.specs.Exposed.{Exposed}
use Rattle.vx_real.proofs.Backwards.{over, become, from_map, EndsIn, FailsFrom}
use Rattle.vx_real.proofs.Matched.{HasReferences, SomeMisfits, EvaluatesAll, Reaches, ExecReal, ExecAllReal}
use Rattle.vx_real.proofs.Grown.{grown_true}
use Rattle.vx_real.proofs.HeldAlone.{fit_all_over}
use Rattle.vx_real.proofs.Expressions.{evals_real}
use Rattle.vx_real.proofs.Checks.{Always, refused_fails, passing_fails, passing_leads}
use Rattle.vx_real.proofs.Symbols.{NamedAll, named_all}
use Rattle.vx_real.proofs.Plain.{own_place, declare_real, assign_real, inhale_real, assume_real, exhale_real, assert_real}
use Rattle.vx_real.proofs.Writing.{write_real}
use Rattle.vx_real.proofs.Created.{new_real}
use Rattle.vx_real.proofs.Scoped.{Runs, if_real, done_real, then_real}
use Rattle.vx_real.proofs.Looped.{while_real}
use Rattle.vx_real.proofs.Calling.{deeper_rules, called_real}

module _ (means : Meaning) (p : Program) (i : Interpretation) (references : HasReferences i) (at : Place) (code : Code) (o : Outer) (below : OuterGrows o) (above : OuterGrows (deeper_rules p o)) where
  call_real : (place : Place) (xs : List Name) (f : Name) (es : Exprs) → AreInFields es → IsCallable p f → ExecReal means p i at code (deeper_rules p o) (Call place xs f es)
  call_real place xs f es j callable scope k once s c on outside m h x = go (evals_real means p i at code (deeper_rules p o) above es scope (k.0).parameters k.2 j s c after m after_grows x)
    where
      after : GivingAll
      after ts s1 = elim (method_named p f) as (λ c. Tree) [
        | None ↦ never place CallCode s1
        | Some m ↦ called p (deeper_rules p o) place m (names_of ts s1) xs (after_names ts s1) on
      ]

      after_grows : FollowsAll after
      after_grows ts s1 = calling_grows p (deeper_rules p o) above place f ts xs s1 on h

      check : run.State → ℕ → Checked (List Value)
      check z n = fit_all p (deeper p n) z es

      always : {a : Checked (List Value)} → Eventually (λ n. fit_all p (deeper p n) c es ≡ a) → Always p c (λ z. Eventually (λ n. fit_all p (deeper p n) z es ≡ a))
      always e g o' a old = eventually e (λ n u. fit_all_over p c g o' a old n es j ∙ u)

      -- once its arguments are named
      named : (r : EvaluatesAll means p i at code scope s c after es (k.0).parameters) (n : NamedAll means p i references scope r.state c (k.0).parameters r.terms r.results) →
          FailsFrom p (λ z. meaning.call p z place xs f r.results) c at ⊎ ((y : run.Store) × Reaches means p i at code scope (λ z. meaning.call p z place xs f r.results) (after_names r.terms r.state) c y on) → Runs means p i references at code (deeper_rules p o) above scope (meaning.run p (Call place xs f es)) s c on
      named r n (inl q) = inl (passing_fails p check (λ z vs. meaning.call p z place xs f vs) c at r.results (always r.fits) q)
      named r n (inr (y, q)) = inr (
        y,
        record {
          state = q.state;
          heap = q.heap;
          holdings = q.holdings;
          later = le_trans r.later (le_trans n.later q.later);
          at_is = q.at_is ∙ n.at_is ∙ r.at_is;
          matches = q.matches;
          leads = passing_leads p check (λ z vs. meaning.call p z place xs f vs) c (become y q.heap q.holdings c) r.results (always r.fits) q.leads;
          exposed = q.exposed;
        },
      )

      -- the method that is called is the one of this name
      calls : (vs : List Value) (z : run.State) (outcome : Outcome) →
          checked (λ n. placed place (take_by p n (run.with_store (run.bind (k.0).parameters vs) z) full (joined (k.0).place (k.0).requires) z.holdings)) (meaning.return_from p z place xs k.0 vs) outcome → meaning.call p z place xs f vs outcome
      calls vs z outcome q = rw k.1 q

      by_name : (vs : List Value) (t : rules.State) → FailsFrom p (λ z. checked (λ n. placed place (take_by p n (run.with_store (run.bind (k.0).parameters vs) z) full (joined (k.0).place (k.0).requires) z.holdings)) (meaning.return_from p z place xs k.0 vs)) c at
          ⊎ ((y : run.Store) × Reaches means p i at code scope (λ z. checked (λ n. placed place (take_by p n (run.with_store (run.bind (k.0).parameters vs) z) full (joined (k.0).place (k.0).requires) z.holdings)) (meaning.return_from p z place xs k.0 vs)) t c y on) →
          FailsFrom p (λ z. meaning.call p z place xs f vs) c at ⊎ ((y : run.Store) × Reaches means p i at code scope (λ z. meaning.call p z place xs f vs) t c y on)
      by_name vs t (inl q) = inl (from_map p (λ g o'. meaning.call p (over g o' c) place xs f vs (FailsAt at)) q (λ g o' a old r. calls vs (over g o' c) (FailsAt at) r))
      by_name vs t (inr (y, q)) =
          let d = become y q.heap q.holdings c in
          inr (
            y,
            record {
              state = q.state;
              heap = q.heap;
              holdings = q.holdings;
              later = q.later;
              at_is = q.at_is;
              matches = q.matches;
              leads = λ to agrees. from_map p (EndsIn p (λ z. meaning.call p z place xs f vs) c d to) (q.leads to agrees) (λ g o' a old r. (r.0, r.1, calls vs (over g o' c) (Ends (over r.0 o' d)) r.2));
              exposed = q.exposed;
            },
          )

      go : SomeMisfits means p i at code s c es ⊎ EvaluatesAll means p i at code scope s c after es (k.0).parameters → Runs means p i references at code (deeper_rules p o) above scope (meaning.run p (Call place xs f es)) s c on
      go (inl (y, is, misfit)) = inl (refused_fails p check (λ z vs. meaning.call p z place xs f vs) c at (always (subst (λ z. Eventually (λ n. fit_all p (deeper p n) c es ≡ Err z)) (own_place s y outside is) misfit)))
      go (inr r) = named r n (by_name r.results (after_names r.terms r.state) (called_real means p i references at code o below k.0 (callable k.0 k.1) scope (after_names r.terms r.state) c place xs (names_of r.terms r.state) r.results on k.3 n.each (n.at_is ∙ r.at_is ∙ outside) n.matches h entered))
        where
          entered : Exposed i at code (called p (deeper_rules p o) place k.0 (names_of r.terms r.state) xs (after_names r.terms r.state) on)
          entered = subst (λ m. Exposed i at code (elim m as (λ c. Tree) [
            | None ↦ never place CallCode r.state
            | Some m ↦ called p (deeper_rules p o) place m (names_of r.terms r.state) xs (after_names r.terms r.state) on
          ])) k.1 r.exposed

          true_path : AllTrue i (rules.path_terms (after_names r.terms r.state).path)
          true_path = grown_true i at code (rules.path_terms (after_names r.terms r.state).path) (called p (deeper_rules p o) place k.0 (names_of r.terms r.state) xs (after_names r.terms r.state) on)
              (called_grows p (deeper_rules p o) above place k.0 (names_of r.terms r.state) xs (after_names r.terms r.state) on h) entered

          n : NamedAll means p i references scope r.state c (k.0).parameters r.terms r.results
          n = named_all means p i references (k.0).parameters r.terms r.results r.each r.matches true_path

  mutual
    exec_real : (st : Stmt) → SpeaksOfFields p st → ExecReal means p i at code (deeper_rules p o) st
    exec_real (Declare place x t) j = declare_real means p i references at code (deeper_rules p o) above place x t
    exec_real (Assign place x e) j = assign_real means p i references at code (deeper_rules p o) above place x e j
    exec_real (Write place e f e') j = write_real means p i references at code (deeper_rules p o) above place e f e' j.0 j.1
    exec_real (New place x fs) j = new_real means p i references at code (deeper_rules p o) above place x fs
    exec_real (Call place xs f es) j = call_real place xs f es j.0 j.1
    exec_real (Inhale place a) j = inhale_real means p i references at code (deeper_rules p o) above place a j
    exec_real (Exhale place a) j = exhale_real means p i references at code (deeper_rules p o) above place a j
    exec_real (Assert place a) j = assert_real means p i references at code (deeper_rules p o) above place a j
    exec_real (Assume place e) j = assume_real means p i references at code (deeper_rules p o) above place e j
    exec_real (Fold place x es share) j = absurd j
    exec_real (Unfold place x es share) j = absurd j
    exec_real (If place e a b) j = if_real means p i references at code (deeper_rules p o) above place e a b j.0 (exec_all_real a j.1) (exec_all_real b j.2)
    exec_real (While place e is b) j = while_real means p i references at code (deeper_rules p o) above place e is b j.0 j.1 (exec_all_real b j.2)

    pub exec_all_real : (b : Block) → AllSpeaks p b → ExecAllReal means p i at code (deeper_rules p o) b
    exec_all_real Done j = done_real means p i references at code (deeper_rules p o) above
    exec_all_real (Then st b) j = then_real means p i references at code (deeper_rules p o) above st b (exec_real st j.0) (exec_all_real b j.1)
