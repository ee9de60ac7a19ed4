-- What an application consumes: where its precondition was taken, the snapshot stands for the tree of the precondition's values,
-- and with its heap put back the state stands for the concrete one as it was.
use Rattle.std.proofs.Common.{◌≡◌, ℕ, zero, suc, ◌≤◌, true, List, Some, refl, ◌∙◌, le_trans}
use Rattle.vx_frac.specs.Fractions.{full}
use Rattle.vx_ast.specs.declared.Place.{Place}
use Rattle.vx_ast.specs.Syntax.{Name, Declaration, Program, Predicate, predicate_named, Assertion}
use Rattle.vx_meaning.specs.Values.{Value}
use Rattle.vx_meaning.specs.States as run
use Rattle.vx_meaning.specs.Fits.{Takes}
use Rattle.vx_terms.specs.Sorts.{SnapSort}
use Rattle.vx_terms.specs.Terms.{Term}
use Rattle.vx_terms.specs.Build.{whole_amount}
use Rattle.vx_terms.specs.Interpretations.{Interpretation, value}
use Rattle.vx_rules.specs.States as rules
use Rattle.vx_rules.specs.Trees.{AssertCode}
use Rattle.vx_rules.specs.Rules.{Giving, Going, Context, outer, nowhere, entered, back}
use Rattle.vx_types.specs.Typing.{Scope, HaveNoPerm, IsTyped}
use Rattle.vx_elements.proofs.Settled.{Meaning, Extends, extends-trans}
use Rattle.vx_sound.proofs.World.{World}
use Rattle.vx_sound.proofs.Standard.{name_written}
use Rattle.vx_sound.proofs.Speaks.{SpeaksOf}
use Rattle.vx_sound.proofs.Passes.{Cleared}
use Rattle.vx_sound.proofs.Stands.{TermsStand, Stands, store_later, heap_later}
use Rattle.vx_sound.proofs.Goes.{stuck, Named, named}
use Rattle.vx_sound.proofs.Arguments.{stands_entered}
use Rattle.vx_sound.proofs.Evaluate.{PartsGo}
use Rattle.vx_sound.proofs.Giving.{whole_scale}
use Rattle.vx_sound.proofs.Assertions.{Consumes, consumed}
use Rattle.vx_sound_preds.specs.Bodies.{GoodBodies}
use Rattle.vx_sound_preds.specs.Asking.{IsAsking}
use Rattle.vx_sound_preds.proofs.Holding.{Applying, functions_world}
use Rattle.vx_sound_preds.proofs.Produced.{SnapshotOf}
use Rattle.vx_sound_preds.proofs.Trees.{TreeOf, builds_tree}

-- once an assertion was consumed in the variables of another member: with the heap put back, what was built is named
abbrev pub put_back : rules.State → (Term → Going) → Giving
put_back s on snapshot s1 = let s2 = rules.with_heap s.heap (back s s1) in on (rules.name_of snapshot s2) (rules.after_name snapshot s2)

module _ (means : Meaning) (p : Program) (good : GoodBodies p) (Held : Name → Type 0) (no_perm : (x : Name) (d : Predicate) → predicate_named p x ≡ Some d → HaveNoPerm d.parameters) (applying : Applying) where
  abbrev world : World
  world = functions_world p good Held no_perm true applying

  -- the assertion can be taken, and its snapshot is known where the state stands for c again
  pub record Consumed (scope : Scope) (i : Interpretation) (n : ℕ) (on : Term → Going) (c inside : run.State) (a : Assertion) : Type 0 where
    pub interp : Interpretation
    pub state : rules.State
    pub term : Term
    pub left : run.Holdings
    pub extends : Extends means n i interp
    pub later : n ≤ state.next
    pub stands : Stands means world scope interp state c
    pub snapshot : SnapshotOf means p good Held no_perm true applying state.next interp inside a term
    pub takes : Takes p inside a full left
    pub cleared : Cleared (on term state)

  module _ (scope : Scope) (i : Interpretation) (s : rules.State) (c : run.State) (at : Place) (ds : List Declaration) (ts : List Term) (vs : List Value) (a : Assertion) (x : Context) (on : Term → Going)
      (typed : IsTyped p ds a) (speaks : SpeaksOf Held applying.Applied a) (asking : IsAsking p a) (each : TermsStand means world s.next i ds ts vs) (st : Stands means world scope i s c) where
    abbrev inside : run.State
    inside = run.with_store (run.bind ds vs) c

    inner_stands : Stands means world ds i (entered (rules.bind ds ts) at s) (run.with_store (run.bind ds vs) c)
    inner_stands = stands_entered means world at ds ts vs each st

    -- over the rules for parts, which go
    consumed_by : (n : ℕ) (parts : PartsGo means world (outer p n)) → Cleared ((outer p (suc n)).consume a x whole_amount s.heap (entered (rules.bind ds ts) at s) (put_back s on)) → Consumed scope i s.next on c inside a
    consumed_by n parts h = record {
      interp = m.interp;
      state = rules.after_name r.snapshot (rules.with_heap s.heap (back s r.goes.state));
      term = rules.name_of r.snapshot (rules.with_heap s.heap (back s r.goes.state));
      left = r.left;
      extends = extends-trans means r.goes.later r.goes.extends m.extends;
      later = le_trans r.goes.later m.later;
      stands = m.stands;
      snapshot = record {
        good_term = m.good;
        written = name_written r.snapshot (rules.with_heap s.heap (back s r.goes.state)) back_stands.awake;
        fuel = tree.is.0;
        tree = tree.tree;
        is = tree.is.1;
        value_is = m.value_is ∙ tree.value_is;
      };
      takes = r.takes;
      cleared = r.goes.cleared;
    }
      where
        r : Consumes means world (outer p n) parts ds i s.next (put_back s on) inside a full c.holdings
        r = consumed means world (outer p n) parts a full typed speaks x whole_amount (put_back s on) (whole_scale means world s.next i) inner_stands h

        tree : TreeOf means p good Held no_perm applying r.goes.interp inside a r.snapshot
        tree = builds_tree means p good Held no_perm applying (outer p n) parts r.goes.state.next r.goes.interp r.goes.stands.standard inside a r.snapshot asking r.built

        back_stands : Stands means world scope r.goes.interp (rules.with_heap s.heap (back s r.goes.state)) c
        back_stands = record {
          store = store_later means world r.goes.later r.goes.extends scope s.store c.store st.store;
          path = r.goes.stands.path;
          heap = heap_later means world r.goes.later r.goes.extends s.heap c.heap c.holdings st.heap;
          old = r.goes.stands.old;
          awake = r.goes.stands.awake;
          bounded = r.goes.stands.bounded;
          null = r.goes.stands.null;
          standard = r.goes.stands.standard;
          owned = r.goes.stands.owned;
          marked = st.marked;
          holds = st.holds;
          old_holds = r.goes.stands.old_holds;
        }

        m : Named means world scope r.goes.interp r.goes.state.next c SnapSort (value r.goes.interp r.snapshot) (rules.name_of r.snapshot (rules.with_heap s.heap (back s r.goes.state))) (rules.after_name r.snapshot (rules.with_heap s.heap (back s r.goes.state)))
        m = named means world r.snapshot SnapSort back_stands r.good

    -- at every depth, by what holds one depth below
    pub consumed_at : (d : ℕ) → ((n : ℕ) → d ≡ suc n → PartsGo means world (outer p n)) → Cleared ((outer p d).consume a x whole_amount s.heap (entered (rules.bind ds ts) at s) (put_back s on)) → Consumed scope i s.next on c inside a
    consumed_at zero parts h = stuck means world nowhere AssertCode inner_stands h
    consumed_at (suc n) parts h = consumed_by n (parts n refl) h
