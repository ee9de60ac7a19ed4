-- Calls backwards: the precondition is taken, and the postcondition given with any returns, from any heap that keeps what is left.
use Rattle.std.proofs.Common.{◌≡◌, ◌⊎◌, inl, inr, ℕ, List, ◌++◌, length, drop, Some, None, refl, sym, ◌∙◌, ap, subst, le_trans}
use Rattle.std.specs.Prelude.{Err}
use Rattle.vx_frac.specs.Fractions.{full}
use Rattle.vx_ast.specs.declared.Place.{Place}
use Rattle.vx_ast.specs.Syntax.{Name, Program, Method, joined, Assertion}
use Rattle.vx_meaning.specs.Values.{Value}
use Rattle.vx_meaning.specs.States as run
use Rattle.vx_meaning.specs.Consistent.{IsConsistent}
use Rattle.vx_meaning.specs.Fits.{Checked, placed, take_by}
use Rattle.vx_meaning.specs.Outcomes.{Outcomes, ends, checked, goes_on, is_over}
use Rattle.vx_meaning.specs.Give.{give}
use Rattle.vx_meaning.specs.Run as meaning
use Rattle.vx_terms.specs.Terms.{Term}
use Rattle.vx_terms.specs.Build.{whole_amount}
use Rattle.vx_terms.specs.Interpretations.{Interpretation}
use Rattle.vx_rules.specs.States as rules
use Rattle.vx_rules.specs.Trees.{Code, CallCode, Step}
use Rattle.vx_rules.specs.Rules as rule
use Rattle.vx_rules.specs.Rules.{Giving, Going, Outer, entered, back, consume, produce}
use Rattle.vx_rules.specs.Members.{codes, called}
use Rattle.vx_types.specs.Typing.{Scope, IsTyped, TargetsHaveTypes}
use Rattle.vx_types.specs.FieldLanguage.{IsOfFields}
use Rattle.vx_elements.proofs.Settled.{Meaning, extends-refl}
use Rattle.vx_elements.proofs.Eventually.{eventually}
use Rattle.vx_elements.proofs.Scopes.{joined_typed}
use Rattle.vx_grows.proofs.Later.{declared_later}
use Rattle.vx_grows.proofs.GrowSteps.{Follows, FollowsWith, earlier}
use Rattle.vx_grows.proofs.GrowParts.{OuterGrows}
use Rattle.vx_grows.proofs.GrowAssertions.{produce_grows}
use Rattle.vx_sound.proofs.Fields.{fields_world}
use Rattle.vx_sound.proofs.Stands.{TermsStand, terms_later, store_later, heap_later, unowned}
use Rattle.vx_sound.proofs.Arguments.{stands_entered, returned_terms, assigned_all}
use Rattle.vx_sound.proofs.Contracts.{HasFieldContract}
use Rattle.vx_sound.proofs.Giving.{whole_scale}
use Rattle.vx_real.specs.Exposed.{Exposed}
use Rattle.vx_real.proofs.Backwards.{over, become, FailsFrom, Leads}
use Rattle.vx_real.proofs.Matched.{HasReferences, Matches, Mistakes, Takes, Reaches}
use Rattle.vx_real.proofs.TakesAssertions.{take_shown}
use Rattle.vx_real.proofs.GivesAssertions.{give_shown}
use Rattle.vx_real.proofs.Checks.{refused_fails, passing_fails, passing_leads}
use Rattle.vx_real.proofs.Restored.{before}
use Rattle.vx_real.proofs.Symbols.{DeclaredAll, declared_all}
use Rattle.vx_real.proofs.Plain.{takes_always, mistakes_always}
use Rattle.vx_real.proofs.Looped.{joined_fields}

-- the rules for the parts of others, one less deep
abbrev pub deeper_rules : Program → Outer → Outer
deeper_rules p o = record { eval = rule.eval p o; evals = rule.evals p o; produce = rule.produce p o; consume = rule.consume p o }

module _ (means : Meaning) (p : Program) (i : Interpretation) (references : HasReferences i) (at : Place) (code : Code) (o : Outer) (below : OuterGrows o) (m : Method) (contract : HasFieldContract p m) where
  abbrev pre : Assertion
  pre = joined m.place m.requires

  abbrev post : Assertion
  post = joined m.place m.ensures

  post_fields : IsOfFields (joined m.place m.ensures)
  post_fields = joined_fields m.place m.ensures contract.ensures

  post_typed : IsTyped p (m.parameters ++ m.returns) (joined m.place m.ensures)
  post_typed = joined_typed p (m.parameters ++ m.returns) m.place m.ensures contract.typed_ensures

  module _ (scope : Scope) (s : rules.State) (c : run.State) (place : Place) (xs : List Name) (ts : List Term) (vs : List Value) (on : Going)
      (targets : TargetsHaveTypes p scope xs m.returns) (each : TermsStand means (fields_world p) s.next i m.parameters ts vs) (none : s.at ≡ None) (matches : Matches means p i scope s c) (on_grows : Follows on) where
    abbrev pub inner : rules.State
    inner = entered (rules.bind m.parameters ts) place s

    abbrev pub start : run.State
    start = run.with_store (run.bind m.parameters vs) c

    -- back in the caller, with the returns that this state has
    abbrev returned : rules.State → rules.State → rules.State
    returned inside s2 = rules.with_store (rules.assign_all xs (drop (length ts) (rules.terms_in inside.store)) s.store) (record (back s s2) { old = s.old })

    abbrev last : rules.State → Going
    last inside s2 = Step (on (returned inside s2))

    abbrev begun : rules.State → rules.State
    begun s1 = rules.declare_all m.returns (record s1 { old = s.heap })

    abbrev pub after : Giving
    after snapshot s1 = produce p o (joined m.place m.ensures) whole_amount None (begun s1) (last (begun s1))

    pub after_grows : FollowsWith after
    after_grows snapshot s1 = earlier (declared_later m.returns (record s1 { old = s.heap })) (after snapshot s1) (produce_grows p o below (joined m.place m.ensures) whole_amount None (begun s1) (last (begun s1)) (λ s2. on_grows (returned (begun s1) s2)))

    entered_matches : Matches means p i m.parameters inner start
    entered_matches = record { stands = stands_entered means (fields_world p) place m.parameters ts vs each matches.stands; exact = matches.exact; old_exact = matches.old_exact }

    -- what returns, once the precondition is taken
    module _ (r : Takes means p i at code m.parameters inner start c.holdings after (joined m.place m.requires) full) where
      -- in the callee, with old the state before
      abbrev promising : run.State
      promising = record { store = run.bind m.parameters vs; heap = c.heap; holdings = r.left; old_heap = c.heap; old_holdings = c.holdings }

      promised : Matches means p i m.parameters (record r.state { old = s.heap }) promising
      promised = record {
        stands = record {
          store = r.matches.stands.store;
          path = r.matches.stands.path;
          heap = r.matches.stands.heap;
          old = heap_later means (fields_world p) r.later (extends-refl means s.next i) s.heap c.heap c.holdings matches.stands.heap;
          awake = r.matches.stands.awake;
          bounded = r.matches.stands.bounded;
          null = r.matches.stands.null;
          standard = r.matches.stands.standard;
          owned = unowned means (fields_world p) r.state.next i c.heap c.old_heap c.heap c.heap r.state.own None refl r.matches.stands.owned;
          marked = r.matches.stands.marked;
          holds = r.matches.stands.holds;
          old_holds = matches.stands.holds;
        };
        exact = r.matches.exact;
        old_exact = matches.exact;
      }

      d : DeclaredAll means p i references m.parameters m.returns (record r.state { old = s.heap }) promising
      d = declared_all means p i references m.parameters m.returns (record r.state { old = s.heap }) promising promised

      abbrev given : run.State
      given = run.with_store (run.bind m.parameters vs ++ run.bind m.returns d.values) promising

      -- the caller's state once it has these
      abbrev after_call : run.Heap → run.Holdings → run.State
      after_call h hs = become (run.assign_all xs d.values c.store) h hs c

      abbrev promise : run.State → Outcomes
      promise = give p (IsConsistent p) full (joined m.place m.ensures)

      returned_matches : (g : Reaches means p i at code (m.parameters ++ m.returns) promise (begun r.state) given given.store (last (begun r.state))) → Matches means p i scope (returned (begun r.state) g.state) (after_call g.heap g.holdings)
      returned_matches g =
          let le = le_trans r.later (le_trans d.later g.later) in
          let us = drop (length ts) (rules.terms_in (begun r.state).store) in
          let x = extends-refl means s.next i in
          record {
            stands = record {
              store = assigned_all means (fields_world p) g.state.next i scope xs m.returns us d.values targets
                  (terms_later means (fields_world p) g.later (extends-refl means (begun r.state).next i) m.returns us d.values
                  (returned_terms means (fields_world p) s.next (begun r.state).next i i m.parameters m.returns ts vs d.values each d.typed (begun r.state).store d.matches.stands.store))
                  s.store c.store (store_later means (fields_world p) le x scope s.store c.store matches.stands.store);
              path = g.matches.stands.path;
              heap = g.matches.stands.heap;
              old = heap_later means (fields_world p) le x s.old c.old_heap c.old_holdings matches.stands.old;
              awake = g.matches.stands.awake;
              bounded = g.matches.stands.bounded;
              null = g.matches.stands.null;
              standard = g.matches.stands.standard;
              owned = unowned means (fields_world p) g.state.next i g.heap c.heap g.heap c.old_heap g.state.own None refl g.matches.stands.owned;
              marked = matches.stands.marked;
              holds = g.matches.stands.holds;
              old_holds = matches.stands.old_holds;
            };
            exact = g.matches.exact;
            old_exact = matches.old_exact;
          }

      abbrev pub returning : run.State → run.Holdings → Outcomes
      returning z left = meaning.return_from p z place xs m vs left

      abbrev landing : run.State → run.State → Outcomes
      landing z t = ends record { store = run.assign_all xs d.values z.store; heap = t.heap; holdings = t.holdings; old_heap = z.old_heap; old_holdings = z.old_holdings }

      -- the postcondition fails, at the call
      promise_fails : (x : Place) → place ≡ at → FailsFrom p promise given x → FailsFrom p (λ z. returning z r.left) c at
      promise_fails x is f =
          let w = before p c r.left f.heap r.matches.stands.holds.only f.agrees in
          record {
            heap = w.front;
            agrees = w.agrees;
            runs = λ g o' alike old.
                let ran = f.runs f.heap g (λ l. refl) (λ l pos. alike l ∙ w.agrees l pos) in
                (f.heap, (w.changes g o' alike, (d.values, (d.typed, is_over tt ((x, ran), sym is)))));
          }

      returns_lead : (g : Reaches means p i at code (m.parameters ++ m.returns) promise (begun r.state) given given.store (last (begun r.state))) → Leads p (λ z. returning z r.left) c (after_call g.heap g.holdings)
      returns_lead g h agrees =
          let l = g.leads h agrees in
          let w = before p c r.left l.heap r.matches.stands.holds.only l.agrees in
          record {
            heap = w.front;
            agrees = w.agrees;
            runs = λ f o' alike old.
                let ran = l.runs l.heap f (λ l. refl) (λ l pos. alike l ∙ w.agrees l pos) in
                (ran.0, ran.1, (l.heap, (w.changes f o' alike, (d.values, (d.typed, goes_on (over ran.0 f (become given.store g.heap g.holdings given)) ran.2 refl)))));
          }

      -- what the caller's run goes on with
      pub returned_real : FailsFrom p (λ z. returning z r.left) c at ⊎ ((x : run.Store) × Reaches means p i at code scope (λ z. returning z r.left) s c x on)
      returned_real = go (give_shown means p i at code o below references (joined m.place m.ensures) (m.parameters ++ m.returns) full post_typed post_fields (begun r.state) given whole_amount (last (begun r.state))
          (whole_scale means (fields_world p) (begun r.state).next i) d.matches (λ s2. on_grows (returned (begun r.state) s2)) r.exposed)
        where
          go : ((x : Place) × (rule.placed (begun r.state) x ≡ at) × FailsFrom p promise given x) ⊎ Reaches means p i at code (m.parameters ++ m.returns) promise (begun r.state) given given.store (last (begun r.state)) →
              FailsFrom p (λ z. returning z r.left) c at ⊎ ((x : run.Store) × Reaches means p i at code scope (λ z. returning z r.left) s c x on)
          go (inl (x, is, f)) = inl (promise_fails x (here x is) f)
            where
              here : (x : Place) → rule.placed (begun r.state) x ≡ at → place ≡ at
              here x e = subst (λ o. (elim o as (λ o. Place) [ Some outer ↦ outer | None ↦ x ]) ≡ at) (d.at_is ∙ r.at_is) e
          go (inr g) = inr (
            run.assign_all xs d.values c.store,
            record {
              state = returned (begun r.state) g.state;
              heap = g.heap;
              holdings = g.holdings;
              later = le_trans r.later (le_trans d.later g.later);
              at_is = refl;
              matches = returned_matches g;
              leads = returns_lead g;
              exposed = g.exposed;
            },
          )

    abbrev pub calling : run.State → Outcomes
    calling z = checked (λ n. placed place (take_by p n (run.with_store (run.bind m.parameters vs) z) full (joined m.place m.requires) z.holdings)) (meaning.return_from p z place xs m vs)

    pub called_real : Exposed i at code (called p (deeper_rules p o) place m ts xs s on) → FailsFrom p calling c at ⊎ ((x : run.Store) × Reaches means p i at code scope calling s c x on)
    called_real e =
        go (take_shown means p i at code o below (joined m.place m.requires) m.parameters full (joined_typed p m.parameters m.place m.requires contract.typed_requires) pre_fields inner start c.holdings (codes CallCode CallCode) whole_amount s.heap after refl
        (whole_scale means (fields_world p) s.next i) entered_matches entered_matches after_grows e)
      where
        pre_fields : IsOfFields (joined m.place m.requires)
        pre_fields = joined_fields m.place m.requires contract.requires

        check : run.State → ℕ → Checked run.Holdings
        check z n = placed place (take_by p n (run.with_store (run.bind m.parameters vs) z) full (joined m.place m.requires) z.holdings)

        resumed : (r : Takes means p i at code m.parameters inner start c.holdings after (joined m.place m.requires) full) →
            FailsFrom p (λ z. meaning.return_from p z place xs m vs r.left) c at ⊎ ((x : run.Store) × Reaches means p i at code scope (λ z. meaning.return_from p z place xs m vs r.left) s c x on) →
            FailsFrom p calling c at ⊎ ((x : run.Store) × Reaches means p i at code scope calling s c x on)
        resumed r (inl f) = inl (passing_fails p check (λ z left. meaning.return_from p z place xs m vs left) c at r.left (λ g o' a old. eventually (takes_always p start (joined m.place m.requires) full c.holdings pre_fields r.takes g o' a old) (λ n u. ap (placed place) u)) f)
        resumed r (inr (x, q)) = inr (
          x,
          record {
            state = q.state;
            heap = q.heap;
            holdings = q.holdings;
            later = q.later;
            at_is = q.at_is;
            matches = q.matches;
            leads = passing_leads p check (λ z left. meaning.return_from p z place xs m vs left) c (become x q.heap q.holdings c) r.left (λ g o' a old. eventually (takes_always p start (joined m.place m.requires) full c.holdings pre_fields r.takes g o' a old) (λ n u. ap (placed place) u)) q.leads;
            exposed = q.exposed;
          },
        )

        go : Mistakes means p i at code inner start (joined m.place m.requires) full c.holdings ⊎ Takes means p i at code m.parameters inner start c.holdings after (joined m.place m.requires) full →
            FailsFrom p calling c at ⊎ ((x : run.Store) × Reaches means p i at code scope calling s c x on)
        go (inl (x, is, f)) = inl (refused_fails p check (λ z left. meaning.return_from p z place xs m vs left) c at
            (λ g o' a old. eventually (mistakes_always p start (joined m.place m.requires) full c.holdings pre_fields f g o' a old) (λ n u. ap (placed place) u ∙ ap Err is)))
        go (inr r) = resumed r (returned_real r)
