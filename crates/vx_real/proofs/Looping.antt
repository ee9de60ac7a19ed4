-- Loops backwards: the invariant is taken; then an arbitrary iteration fails, or it goes on behind the loop.
use Rattle.std.proofs.Common.{◌≡◌, ◌⊎◌, inl, inr, ℕ, Bool, true, false, List, [], length, None, refl, sym, ◌∙◌, ap, subst, le_trans}
use Rattle.std.proofs.lemmas.Bool.{not-true}
use Rattle.vx_frac.specs.Fractions.{none, full}
use Rattle.vx_ast.specs.declared.Place.{Place}
use Rattle.vx_ast.specs.declared.ValueType.TheVariants as type
use Rattle.vx_ast.specs.Syntax.{Program, Expr, Assertion, joined, Block}
use Rattle.vx_meaning.specs.States as run
use Rattle.vx_meaning.specs.Consistent.{IsConsistent}
use Rattle.vx_meaning.specs.Fits.{fit_by, take_by}
use Rattle.vx_meaning.specs.Outcomes.{Outcomes, ends, stops, checked, and_then}
use Rattle.vx_meaning.specs.Give.{give, side}
use Rattle.vx_meaning.specs.Run as meaning
use Rattle.vx_terms.specs.Sorts.{BoolSort}
use Rattle.vx_terms.specs.Terms.{Term}
use Rattle.vx_terms.specs.Build.{negate, whole_amount}
use Rattle.vx_terms.specs.Interpretations.{Interpretation, as_bool, value, IsTrueIn}
use Rattle.vx_terms.proofs.Build.{negate_value}
use Rattle.vx_rules.specs.States as rules
use Rattle.vx_rules.specs.Trees.{Code, KeptCode, End, Step}
use Rattle.vx_rules.specs.Rules.{Giving, Going, Outer, placed, eval, produce, consume}
use Rattle.vx_rules.specs.Members.{codes, exec_all}
use Rattle.vx_types.specs.Typing.{Scope, AreOnce, IsTyped, IsTypedBlock, HasType}
use Rattle.vx_types.specs.FieldLanguage.{InFields, IsOfFields}
use Rattle.vx_elements.proofs.Settled.{Meaning}
use Rattle.vx_elements.proofs.Built.{Good, good_negate}
use Rattle.vx_amounts.proofs.Amounts.{le-refl}
use Rattle.vx_grows.proofs.Later.{branch_later}
use Rattle.vx_grows.proofs.GrowSteps.{Follows, FollowsWith, earlier}
use Rattle.vx_grows.proofs.GrowParts.{OuterGrows}
use Rattle.vx_grows.proofs.GrowAssertions.{eval_grows, consume_grows}
use Rattle.vx_grows.proofs.GrowStatements.{exec_all_grows}
use Rattle.vx_sound.proofs.Fields.{fields_world}
use Rattle.vx_sound.proofs.Stands.{store_lengths, unowned}
use Rattle.vx_sound.proofs.Giving.{whole_scale}
use Rattle.vx_real.specs.Exposed.{Exposed}
use Rattle.vx_real.proofs.Exactly.{Exact}
use Rattle.vx_real.proofs.SumReads.{branch_true}
use Rattle.vx_real.proofs.Grown.{keeps}
use Rattle.vx_real.proofs.Backwards.{become, FailsFrom, first_fails, then_fails, then_leads, keeping_leads}
use Rattle.vx_real.proofs.Matched.{HasReferences, Matches, Misfits, Evaluates, Mistakes, Takes, Reaches, ExecAllReal}
use Rattle.vx_real.proofs.Questions.{matches_branch}
use Rattle.vx_real.proofs.Expressions.{eval_real}
use Rattle.vx_real.proofs.TakesAssertions.{take_shown}
use Rattle.vx_real.proofs.GivesAssertions.{give_shown}
use Rattle.vx_real.proofs.Checks.{passing_fails, passing_leads}
use Rattle.vx_real.proofs.Plain.{own_place, fits_always, misfit_fails, mistake_fails}
use Rattle.vx_real.proofs.Scoped.{picks, side_fails, side_leads, Runs, scoped_real}

pub denied_false : (means : Meaning) (i : Interpretation) {n : ℕ} (t : Term) → Good means n i t BoolSort → IsTrueIn i (negate t) → as_bool (value i t) ≡ false
denied_false means i t g told = not-true (as_bool (value i t)) (sym (ap as_bool (negate_value i g.formed)) ∙ told)

-- nothing is held
pub nothing_exact : (i : Interpretation) → Exact i [] []
nothing_exact i = record { each = tt; all = λ l. le-refl none; apart = tt }

module _ (means : Meaning) (p : Program) (i : Interpretation) (references : HasReferences i) (at : Place) (code : Code) (o : Outer) (below : OuterGrows o) where
  -- a state of which nothing is held now
  pub matches_nothing : {scope : Scope} {s : rules.State} {c : run.State} (heap : run.Heap) → Matches means p i scope s c → Matches means p i scope (rules.with_heap [] s) (record c { heap = heap; holdings = [] })
  matches_nothing {s = s} {c = c} heap m = record {
    stands = record {
      store = m.stands.store;
      path = m.stands.path;
      heap = record { each = tt; sums = λ l. le-refl none };
      old = m.stands.old;
      awake = m.stands.awake;
      bounded = m.stands.bounded;
      null = m.stands.null;
      standard = m.stands.standard;
      owned = unowned means (fields_world p) s.next i c.heap c.old_heap heap c.old_heap s.own None refl m.stands.owned;
      marked = m.stands.marked;
      holds = (fields_world p).nothing heap;
      old_holds = m.stands.old_holds;
    };
    exact = nothing_exact i;
    old_exact = m.old_exact;
  }

  module _ (place : Place) (e : Expr) (is : List Assertion) (b : Block) (j : InFields e) (inv_fields : IsOfFields (joined place is)) (on_b : ExecAllReal means p i at code o b)
      (scope : Scope) (typed : HasType p scope e type.Bool) (inv_typed : IsTyped p scope (joined place is)) (body_typed : IsTypedBlock p scope b) (once : AreOnce scope) (k : ℕ) (k_is : k ≡ length scope) where
    abbrev inv : Assertion
    inv = joined place is

    abbrev pub kept : Going
    kept s5 = consume p o (joined place is) (codes KeptCode KeptCode) whole_amount s5.heap s5 (λ v s6. End)

    kept_grows : Follows kept
    kept_grows s5 = consume_grows p o below (joined place is) (codes KeptCode KeptCode) whole_amount s5.heap s5 (λ v s6. End) (λ v s6. tt)

    abbrev pub iterated : Giving
    iterated t s3 = exec_all p o b (rules.with_branch t s3) (λ s4. kept (rules.leave k s4))

    iterated_grows : FollowsWith iterated
    iterated_grows t s3 = earlier (branch_later t s3) (iterated t s3) (exec_all_grows p o below b (rules.with_branch t s3) (λ s4. kept (rules.leave k s4)) (λ s4. kept_grows (rules.leave k s4)))

    -- what follows in an iteration once its invariant is given
    abbrev pub iterates : run.State → Outcomes
    iterates t = checked (λ n. fit_by p n t e) (λ v. side v (and_then (meaning.scoped p (meaning.run_all p b) t) (λ u. checked (λ n. take_by p n u full (joined place is) u.holdings) (λ z. stops))) stops)

    -- the invariant isn't kept
    not_kept : (s : rules.State) (c : run.State) → s.at ≡ None → Matches means p i scope s c → Exposed i at code (kept s) → FailsFrom p (λ u. checked (λ n. take_by p n u full (joined place is) u.holdings) (λ z. stops)) c at
    not_kept s c none m x = go (take_shown means p i at code o below (joined place is) scope full inv_typed inv_fields s c c.holdings (codes KeptCode KeptCode) whole_amount s.heap (λ v s6. End) refl (whole_scale means (fields_world p) s.next i) m m (λ v s6. tt) x)
      where
        go : Mistakes means p i at code s c (joined place is) full c.holdings ⊎ Takes means p i at code scope s c c.holdings (λ v s6. End) (joined place is) full → FailsFrom p (λ u. checked (λ n. take_by p n u full (joined place is) u.holdings) (λ z. stops)) c at
        go (inl f) = mistake_fails means p i references at code o below s (joined place is) (λ u z. stops) none inv_fields f
        go (inr r) = absurd r.exposed

    -- the body's end, or what is behind it, fails
    body_fails : (s : rules.State) (c : run.State) → length c.store ≡ length scope → s.at ≡ None → Matches means p i scope s c → Exposed i at code (exec_all p o b s (λ s4. kept (rules.leave k s4))) →
        FailsFrom p (λ t. and_then (meaning.scoped p (meaning.run_all p b) t) (λ u. checked (λ n. take_by p n u full (joined place is) u.holdings) (λ z. stops))) c at
    body_fails s c len none m x = go (scoped_real means p i references at code o below b scope s c kept k k_is len (on_b scope body_typed once s c (λ s4. kept (rules.leave k s4)) none m (λ s4. kept_grows (rules.leave k s4)) x))
      where
        go : Runs means p i references at code o below scope (meaning.scoped p (meaning.run_all p b)) s c kept → FailsFrom p (λ t. and_then (meaning.scoped p (meaning.run_all p b) t) (λ u. checked (λ n. take_by p n u full (joined place is) u.holdings) (λ z. stops))) c at
        go (inl f) = first_fails p (meaning.scoped p (meaning.run_all p b)) (λ u. checked (λ n. take_by p n u full (joined place is) u.holdings) (λ z. stops)) c at f
        go (inr (x, r)) = then_fails p (meaning.scoped p (meaning.run_all p b)) (λ u. checked (λ n. take_by p n u full (joined place is) u.holdings) (λ z. stops)) c at x r.heap r.holdings r.leads
            (not_kept r.state (become x r.heap r.holdings c) (r.at_is ∙ none) r.matches r.exposed)

    iteration_fails : (s : rules.State) (c : run.State) → s.at ≡ None → Matches means p i scope s c → Exposed i at code (eval p o e s iterated) → FailsFrom p iterates c at
    iteration_fails s c none m x = go (eval_real means p i at code o below e scope type.Bool typed j s c iterated m iterated_grows x)
      where
        body : run.State → Outcomes
        body t = and_then (meaning.scoped p (meaning.run_all p b) t) (λ u. checked (λ n. take_by p n u full (joined place is) u.holdings) (λ z. stops))

        go : Misfits means p i at code s c e ⊎ Evaluates means p i at code scope s c iterated e type.Bool → FailsFrom p iterates c at
        go (inl f) = misfit_fails means p i references at code o below s e (λ t v. side v (body t) stops) none j f
        go (inr r) =
            let told = (branch_true i r.term r.state (keeps i at code (λ s3. exec_all p o b s3 (λ s4. kept (rules.leave k s4))) (λ s3. exec_all_grows p o below b s3 (λ s4. kept (rules.leave k s4)) (λ s4. kept_grows (rules.leave k s4))) (rules.with_branch r.term r.state) r.exposed)).0 in
            passing_fails p (λ t n. fit_by p n t e) (λ t v. side v (body t) stops) c at r.result (fits_always p c e j r.fits)
            (side_fails p c r.result true (picks r.result true r.typed (sym (ap as_bool r.value_is) ∙ told)) body (λ t. stops) at
            (body_fails (rules.with_branch r.term r.state) c (store_lengths means (fields_world p) r.state.next i scope r.state.store c.store r.matches.stands.store).1 (r.at_is ∙ none)
            (matches_branch means p i r.term r.matches r.good told) r.exposed))

    abbrev pub inside : Going
    inside s2 = eval p o e s2 iterated

    pub inside_grows : Follows inside
    inside_grows s2 = eval_grows p o below e s2 iterated iterated_grows

    abbrev pub iterating : run.State → Outcomes
    iterating t = and_then (give p (IsConsistent p) full (joined place is) t) iterates

    -- from where variables are forgotten and nothing is held
    pub entered_fails : (s : rules.State) (c : run.State) → s.at ≡ None → Matches means p i scope s c → Exposed i at code (produce p o (joined place is) whole_amount None s inside) → FailsFrom p iterating c at
    entered_fails s c none m x = go (give_shown means p i at code o below references (joined place is) scope full inv_typed inv_fields s c whole_amount inside (whole_scale means (fields_world p) s.next i) m inside_grows x)
      where
        go : ((y : Place) × (placed s y ≡ at) × FailsFrom p (give p (IsConsistent p) full (joined place is)) c y) ⊎ Reaches means p i at code scope (give p (IsConsistent p) full (joined place is)) s c c.store inside → FailsFrom p iterating c at
        go (inl (y, is', f)) = first_fails p (give p (IsConsistent p) full (joined place is)) iterates c at (subst (FailsFrom p (give p (IsConsistent p) full (joined place is)) c) (own_place s y none is') f)
        go (inr r) = then_fails p (give p (IsConsistent p) full (joined place is)) iterates c at c.store r.heap r.holdings r.leads (iteration_fails r.state (become c.store r.heap r.holdings c) (r.at_is ∙ none) r.matches r.exposed)

    -- Behind the loop

    module _ (on : Going) (on_grows : Follows on) where
      abbrev pub past : Giving
      past t s3 = Step (on (rules.with_branch (negate t) s3))

      past_grows : FollowsWith past
      past_grows t s3 = earlier (branch_later (negate t) s3) (on (rules.with_branch (negate t) s3)) (on_grows (rules.with_branch (negate t) s3))

      abbrev pub outside : Going
      outside s2 = eval p o e s2 past

      pub outside_grows : Follows outside
      outside_grows s2 = eval_grows p o below e s2 past past_grows

      abbrev pub leaves : run.State → Outcomes
      leaves t = checked (λ n. fit_by p n t e) (λ v. side v stops (ends t))

      abbrev pub leaving : run.State → Outcomes
      leaving t = and_then (give p (IsConsistent p) full (joined place is) t) leaves

      left_real : (s : rules.State) (c : run.State) → s.at ≡ None → Matches means p i scope s c → Exposed i at code (eval p o e s past) → Runs means p i references at code o below scope leaves s c on
      left_real s c none m x = go (eval_real means p i at code o below e scope type.Bool typed j s c past m past_grows x)
        where
          go : Misfits means p i at code s c e ⊎ Evaluates means p i at code scope s c past e type.Bool → Runs means p i references at code o below scope leaves s c on
          go (inl f) = inl (misfit_fails means p i references at code o below s e (λ t v. side v stops (ends t)) none j f)
          go (inr r) =
              let told = (branch_true i (negate r.term) r.state (keeps i at code on on_grows (rules.with_branch (negate r.term) r.state) r.exposed)).0 in
              inr (
                c.store,
                record {
                  state = rules.with_branch (negate r.term) r.state;
                  heap = c.heap;
                  holdings = c.holdings;
                  later = r.later;
                  at_is = r.at_is;
                  matches = matches_branch means p i (negate r.term) r.matches (good_negate means r.good) told;
                  leads = passing_leads p (λ t n. fit_by p n t e) (λ t v. side v stops (ends t)) c c r.result (fits_always p c e j r.fits)
                      (side_leads p c r.result false (picks r.result false r.typed (sym (ap as_bool r.value_is) ∙ denied_false means i r.term r.good told)) (λ t. stops) ends c (keeping_leads p ends c c (λ g a. a) (λ g o' x y. refl)));
                  exposed = r.exposed;
                },
              )

      pub behind_real : (s : rules.State) (c : run.State) → s.at ≡ None → Matches means p i scope s c → Exposed i at code (produce p o (joined place is) whole_amount None s outside) → Runs means p i references at code o below scope leaving s c on
      behind_real s c none m x = go (give_shown means p i at code o below references (joined place is) scope full inv_typed inv_fields s c whole_amount outside (whole_scale means (fields_world p) s.next i) m outside_grows x)
        where
          further : (r : Reaches means p i at code scope (give p (IsConsistent p) full (joined place is)) s c c.store outside) → Runs means p i references at code o below scope leaves r.state (become c.store r.heap r.holdings c) on →
              Runs means p i references at code o below scope leaving s c on
          further r (inl f) = inl (then_fails p (give p (IsConsistent p) full (joined place is)) leaves c at c.store r.heap r.holdings r.leads f)
          further r (inr (y, q)) = inr (
            y,
            record {
              state = q.state;
              heap = q.heap;
              holdings = q.holdings;
              later = le_trans r.later q.later;
              at_is = q.at_is ∙ r.at_is;
              matches = q.matches;
              leads = then_leads p (give p (IsConsistent p) full (joined place is)) leaves c (become y q.heap q.holdings c) c.store r.heap r.holdings r.leads q.leads;
              exposed = q.exposed;
            },
          )

          go : ((y : Place) × (placed s y ≡ at) × FailsFrom p (give p (IsConsistent p) full (joined place is)) c y) ⊎ Reaches means p i at code scope (give p (IsConsistent p) full (joined place is)) s c c.store outside →
              Runs means p i references at code o below scope leaving s c on
          go (inl (y, is', f)) = inl (first_fails p (give p (IsConsistent p) full (joined place is)) leaves c at (subst (FailsFrom p (give p (IsConsistent p) full (joined place is)) c) (own_place s y none is') f))
          go (inr r) = further r (left_real r.state (become c.store r.heap r.holdings c) (r.at_is ∙ none) r.matches r.exposed)
