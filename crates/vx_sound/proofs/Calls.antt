-- A call: its precondition is taken, and any returns and any heap that keeps what is held come with its postcondition.
use Rattle.std.proofs.Common.{◌≡◌, ℕ, zero, suc, List, ◌++◌, length, drop, None, sym, ap, subst, le_refl, le_trans}
use Rattle.std.specs.Prelude.{Ok}
use Rattle.vx_frac.specs.Fractions.{full}
use Rattle.vx_ast.specs.declared.Place.{Place}
use Rattle.vx_ast.specs.Syntax.{Name, Program, Method, joined, Assertion}
use Rattle.vx_meaning.specs.Values.{Value}
use Rattle.vx_meaning.specs.States as run
use Rattle.vx_meaning.specs.Consistent.{IsConsistent}
use Rattle.vx_meaning.specs.Fits.{placed, Eventually, take_by}
use Rattle.vx_meaning.specs.Outcomes.{Outcome, Ends, FailsAt, Stops, ends, checked, passes, refused, failing_at}
use Rattle.vx_meaning.specs.Give.{give}
use Rattle.vx_meaning.specs.Run as meaning
use Rattle.vx_terms.specs.Terms.{Term}
use Rattle.vx_terms.specs.Build.{whole_amount}
use Rattle.vx_terms.specs.Interpretations.{Interpretation}
use Rattle.vx_rules.specs.States as rules
use Rattle.vx_rules.specs.Trees.{AssertCode, CallCode, Step}
use Rattle.vx_rules.specs.Rules.{Giving, Going, Outer, nowhere, outer, entered, back, produce}
use Rattle.vx_rules.specs.Members.{codes, called}
use Rattle.vx_types.specs.Typing.{Scope, IsTyped, TargetsHaveTypes}
use Rattle.vx_sound.proofs.Marks.{unrooted}
use Rattle.vx_sound.proofs.World.{CanBe, World, Changing}
use Rattle.vx_sound.proofs.Speaks.{SpeaksOf, joined_speaks}
use Rattle.vx_sound.proofs.Evaluate.{PartsGo}
use Rattle.vx_sound.proofs.Passes.{Cleared}
use Rattle.vx_elements.proofs.Settled.{Meaning, extends-refl, extends-trans}
use Rattle.vx_elements.proofs.Eventually.{eventually, one_answer}
use Rattle.vx_sound.proofs.Stands.{TermsStand, terms_later, Stands, store_later, heap_later, unowned}
use Rattle.vx_sound.proofs.Puts.{heap_changed}
use Rattle.vx_sound.proofs.Goes.{Goes, stuck, declared_all}
use Rattle.vx_sound.proofs.Giving.{whole_scale}
use Rattle.vx_sound.proofs.Assertions.{Leaves, leaves_after, ends_leaves, then_leaves, refused_leaves, give_goes, Consumes, consumed}
use Rattle.vx_elements.proofs.Scopes.{joined_typed}
use Rattle.vx_sound.proofs.Says.{HasContract}
use Rattle.vx_sound.proofs.Arguments.{bound, returned_terms, assigned_all}

module _ (means : Meaning) (world : World) (m : Method) (contract : HasContract world m) (changing : Changing world) (parts : (d : ℕ) → PartsGo means world (outer world.program d)) where
  abbrev p : Program
  p = world.program

  abbrev pre : Assertion
  pre = joined m.place m.requires

  abbrev post : Assertion
  post = joined m.place m.ensures

  -- in the callee's precondition, with its parameters
  enters : {scope : Scope} {i : Interpretation} {s : rules.State} {c : run.State} (at : Place) (ts : List Term) (vs : List Value) → TermsStand means world s.next i m.parameters ts vs → Stands means world scope i s c →
      Stands means world m.parameters i (entered (rules.bind m.parameters ts) at s) (run.with_store (run.bind m.parameters vs) c)
  enters {i = i} {s = s} at ts vs h st = record {
    store = bound means world s.next i m.parameters ts vs h;
    path = st.path;
    heap = st.heap;
    old = st.old;
    awake = st.awake;
    bounded = st.bounded;
    null = st.null;
    standard = st.standard;
    owned = st.owned;
    marked = st.marked;
    holds = st.holds;
    old_holds = st.old_holds;
  }

  module _ (d : ℕ) (scope : Scope) (i : Interpretation) (s : rules.State) (c : run.State) (at : Place) (xs : List Name) (ts : List Term) (vs : List Value) (on : Going)
      (targets : TargetsHaveTypes p scope xs m.returns) (each : TermsStand means world s.next i m.parameters ts vs) (st : Stands means world scope i s c) where
    abbrev start : run.State
    start = run.with_store (run.bind m.parameters vs) c

    abbrev promising : Going
    promising inside = produce p (outer p d) (joined m.place m.ensures) whole_amount None inside (λ s2. Step (on (rules.with_store (rules.assign_all xs (drop (length ts) (rules.terms_in inside.store)) s.store) (record (back s s2) { old = s.old }))))

    abbrev after : Giving
    after snapshot s1 = produce p (outer p d) (joined m.place m.ensures) whole_amount None (rules.declare_all m.returns (record s1 { old = s.heap }))
        (λ s2. Step (on (rules.with_store (rules.assign_all xs (drop (length ts) (rules.terms_in (rules.declare_all m.returns (record s1 { old = s.heap })).store)) s.store) (record (back s s2) { old = s.old }))))

    -- what a callee may leave
    returns : (r : Consumes means world (outer p d) (parts d) m.parameters i s.next after start pre full c.holdings) (outcome : Outcome) → meaning.return_from p c at xs m vs r.left outcome → Leaves means world scope i s.next on outcome
    returns r outcome (heap, (same, (ws, (tw, ran)))) = leaves_after means world scope on outcome r.goes (leaves_after means world scope on outcome g ended)
      where
        inside : Stands means world m.parameters r.goes.interp (record r.goes.state { old = s.heap }) (record { store = run.bind m.parameters vs; heap = heap; holdings = r.left; old_heap = c.heap; old_holdings = c.holdings })
        inside = record {
          store = r.goes.stands.store;
          path = r.goes.stands.path;
          heap = heap_changed means world changing r.goes.state.next r.goes.interp r.goes.state.heap (run.with_holdings r.left c) heap r.goes.stands.heap r.goes.stands.holds same;
          old = heap_later means world r.goes.later r.goes.extends s.heap c.heap c.holdings st.heap;
          awake = r.goes.stands.awake;
          bounded = r.goes.stands.bounded;
          null = r.goes.stands.null;
          standard = r.goes.stands.standard;
          owned = unowned means world _ _ _ _ _ _ _ world.own changing.of_no_function r.goes.stands.owned;
          marked = r.goes.stands.marked;
          holds = changing.changed (run.with_holdings r.left c) heap same r.goes.stands.holds;
          old_holds = st.holds;
        }

        g : Goes means world (m.parameters ++ m.returns) r.goes.interp r.goes.state.next promising
            (record { store = run.bind m.parameters vs ++ run.bind m.returns ws; heap = heap; holdings = r.left; old_heap = c.heap; old_holdings = c.holdings })
        g = declared_all means world m.returns ws tw m.parameters r.goes.interp (record r.goes.state { old = s.heap })
            (record { store = run.bind m.parameters vs; heap = heap; holdings = r.left; old_heap = c.heap; old_holdings = c.holdings }) promising inside r.goes.cleared

        post_typed : IsTyped p (m.parameters ++ m.returns) (joined m.place m.ensures)
        post_typed = joined_typed p (m.parameters ++ m.returns) m.place m.ensures contract.typed_ensures

        post_plain : SpeaksOf world.Held world.Applied (joined m.place m.ensures)
        post_plain = joined_speaks world.Held world.Applied m.place m.ensures contract.ensures

        last : Going
        last s2 = Step (on (rules.with_store (rules.assign_all xs (drop (length ts) (rules.terms_in g.state.store)) s.store) (record (back s s2) { old = s.old })))

        given : (other : Outcome) → give p (IsConsistent p) full (joined m.place m.ensures) (record { store = run.bind m.parameters vs ++ run.bind m.returns ws; heap = heap; holdings = r.left; old_heap = c.heap; old_holdings = c.holdings }) other →
            Leaves means world (m.parameters ++ m.returns) g.interp g.state.next last other
        given other h = give_goes means world (outer p d) (parts d) (IsConsistent p) (λ c k. subst (λ b. CanBe p b c) (sym changing.bounded) k) (unrooted changing.unmarked) other (joined m.place m.ensures) full h post_typed post_plain whole_amount last (whole_scale means world g.state.next g.interp) g.stands g.cleared

        first : (other : Outcome) → failing_at at (give p (IsConsistent p) full (joined m.place m.ensures) (record { store = run.bind m.parameters vs ++ run.bind m.returns ws; heap = heap; holdings = r.left; old_heap = c.heap; old_holdings = c.holdings })) other →
            Leaves means world (m.parameters ++ m.returns) g.interp g.state.next last other
        first (Ends t) h = given (Ends t) h
        first (FailsAt place) ((inner, h), e) = given (FailsAt inner) h
        first Stops h = tt

        -- back in the caller
        leaving : (e : run.State) (q : Goes means world (m.parameters ++ m.returns) g.interp g.state.next last e) →
            Goes means world scope q.interp q.state.next on (record { store = run.assign_all xs ws c.store; heap = e.heap; holdings = e.holdings; old_heap = c.old_heap; old_holdings = c.old_holdings })
        leaving e q =
            let le = le_trans r.goes.later (le_trans g.later q.later) in
            let ext = extends-trans means r.goes.later r.goes.extends (extends-trans means g.later g.extends q.extends) in
            let us = drop (length ts) (rules.terms_in g.state.store) in
            record {
              interp = q.interp;
              state = rules.with_store (rules.assign_all xs us s.store) (record (back s q.state) { old = s.old });
              extends = extends-refl means q.state.next q.interp;
              later = le_refl _;
              stands = record {
                store = assigned_all means world q.state.next q.interp scope xs m.returns us ws targets
                    (terms_later means world q.later q.extends m.returns us ws (returned_terms means world s.next g.state.next i g.interp m.parameters m.returns ts vs ws each tw g.state.store g.stands.store))
                    s.store c.store (store_later means world le ext scope s.store c.store st.store);
                path = q.stands.path;
                heap = q.stands.heap;
                old = heap_later means world le ext s.old c.old_heap c.old_holdings st.old;
                awake = q.stands.awake;
                bounded = q.stands.bounded;
                null = q.stands.null;
                standard = q.stands.standard;
                owned = unowned means world _ _ _ _ _ _ _ world.own changing.of_no_function q.stands.owned;
                marked = st.marked;
                holds = q.stands.holds;
                old_holds = st.old_holds;
              };
              cleared = q.cleared;
            }

        ended : Leaves means world scope g.interp g.state.next on outcome
        ended = then_leaves means world (m.parameters ++ m.returns) scope g.interp g.state.next
            (failing_at at (give p (IsConsistent p) full (joined m.place m.ensures) (record { store = run.bind m.parameters vs ++ run.bind m.returns ws; heap = heap; holdings = r.left; old_heap = c.heap; old_holdings = c.holdings })))
            (λ t. ends record { store = run.assign_all xs ws c.store; heap = t.heap; holdings = t.holdings; old_heap = c.old_heap; old_holdings = c.old_holdings })
            last on outcome ran first
            (λ e q h. ends_leaves means world scope q.interp q.state.next on (record { store = run.assign_all xs ws c.store; heap = e.heap; holdings = e.holdings; old_heap = c.old_heap; old_holdings = c.old_holdings }) outcome h (leaving e q))

  called_goes : (d : ℕ) (scope : Scope) (i : Interpretation) (s : rules.State) (c : run.State) (at : Place) (xs : List Name) (ts : List Term) (vs : List Value) (on : Going) →
      TargetsHaveTypes p scope xs m.returns → TermsStand means world s.next i m.parameters ts vs → Stands means world scope i s c → Cleared (called p (outer p d) at m ts xs s on) →
      (outcome : Outcome) → checked (λ n. placed at (take_by p n (run.with_store (run.bind m.parameters vs) c) full (joined m.place m.requires) c.holdings)) (meaning.return_from p c at xs m vs) outcome →
      Leaves means world scope i s.next on outcome
  called_goes zero scope i s c at xs ts vs on targets each st w outcome h = stuck means world nowhere AssertCode (enters at ts vs each st) w
  called_goes (suc d) scope i s c at xs ts vs on targets each st w outcome h = go h
    where
      r : Consumes means world (outer p d) (parts d) m.parameters i s.next (after d scope i s c at xs ts vs on targets each st) (run.with_store (run.bind m.parameters vs) c) (joined m.place m.requires) full c.holdings
      r = consumed means world (outer p d) (parts d) (joined m.place m.requires) full (joined_typed p m.parameters m.place m.requires contract.typed_requires) (joined_speaks world.Held world.Applied m.place m.requires contract.requires)
          (codes CallCode CallCode) whole_amount (after d scope i s c at xs ts vs on targets each st) (whole_scale means world s.next i) (enters at ts vs each st) w

      takes : Eventually (λ n. placed at (take_by p n (run.with_store (run.bind m.parameters vs) c) full (joined m.place m.requires) c.holdings) ≡ Ok r.left)
      takes = eventually r.takes (λ n u. ap (placed at) u)

      go : checked (λ n. placed at (take_by p n (run.with_store (run.bind m.parameters vs) c) full (joined m.place m.requires) c.holdings)) (meaning.return_from p c at xs m vs) outcome → Leaves means world scope i s.next on outcome
      go (passes left e rest) = returns d scope i s c at xs ts vs on targets each st r outcome (subst (λ z. meaning.return_from p c at xs m vs z outcome) (one_answer left r.left e takes) rest)
      go (refused place e f) = refused_leaves means world scope i s.next on outcome r.left place takes e

-- what is shown of a call whose arguments are named, over rules for the parts of others
abbrev pub CallsGo : Meaning → World → Outer → Type 0
CallsGo means world o =
    (m : Method) → HasContract world m → (scope : Scope) (i : Interpretation) (s : rules.State) (c : run.State) (at : Place) (xs : List Name) (ts : List Term) (vs : List Value) (on : Going) →
    TargetsHaveTypes world.program scope xs m.returns → TermsStand means world s.next i m.parameters ts vs → Stands means world scope i s c → Cleared (called world.program o at m ts xs s on) →
    (outcome : Outcome) → checked (λ n. placed at (take_by world.program n (run.with_store (run.bind m.parameters vs) c) full (joined m.place m.requires) c.holdings)) (meaning.return_from world.program c at xs m vs) outcome →
    Leaves means world scope i s.next on outcome

-- at every depth
pub calls_go : (means : Meaning) (world : World) → Changing world → ((d : ℕ) → PartsGo means world (outer world.program d)) → (d : ℕ) → CallsGo means world (outer world.program d)
calls_go means world changing parts d m contract = called_goes means world m contract changing parts d
