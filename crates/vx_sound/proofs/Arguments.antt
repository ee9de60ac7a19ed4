-- Arguments of a call: named, and bound to parameters.
use Rattle.std.proofs.Common.{ℕ, ◌≤◌, List, [], ◌∷◌, ◌++◌, length, drop, refl, ◌∙◌, le_refl, le_trans}
use Rattle.vx_ast.specs.declared.Place.{Place}
use Rattle.vx_ast.specs.Syntax.{Name, Declaration, Program}
use Rattle.vx_meaning.specs.Values.{Value}
use Rattle.vx_meaning.specs.States as run
use Rattle.vx_terms.specs.Terms.{Term}
use Rattle.vx_terms.specs.Interpretations.{Interpretation}
use Rattle.vx_rules.specs.States as rules
use Rattle.vx_rules.specs.States.{sort_of_type}
use Rattle.vx_rules.specs.Rules.{entered, back}
use Rattle.vx_rules.specs.Members.{names_of, after_names}
use Rattle.vx_types.specs.Typing.{Scope, TargetsHaveTypes}
use Rattle.vx_sound.proofs.World.{World}
use Rattle.vx_elements.proofs.Settled.{Meaning, Extends, extends-refl, extends-trans}
use Rattle.vx_sound.proofs.Stands.{StoreStands, TermsStand, term_later, terms_later, Stands, store_later, store_assign}
use Rattle.vx_sound.proofs.Goes.{named}

module _ (means : Meaning) (world : World) where
  abbrev p : Program
  p = world.program

  pub record NamedAll (scope : Scope) (i : Interpretation) (n : ℕ) (c : run.State) (ds : List Declaration) (us : List Term) (vs : List Value) (s : rules.State) : Type 0 where
    pub interp : Interpretation
    pub extends : Extends means n i interp
    pub later : n ≤ s.next
    pub stands : Stands means world scope interp s c
    pub each : TermsStand means world s.next interp ds us vs

  pub named_all : {scope : Scope} {i : Interpretation} {s : rules.State} {c : run.State} (ds : List Declaration) (ts : List Term) (vs : List Value) → TermsStand means world s.next i ds ts vs → Stands means world scope i s c →
      NamedAll scope i s.next c ds (names_of ts s) vs (after_names ts s)
  named_all {i = i} {s = s} [] [] [] h st = record { interp = i; extends = extends-refl means s.next i; later = le_refl _; stands = st; each = tt }
  named_all {i = i} {s = s} (d ∷ ds) (t ∷ ts) (v ∷ vs) h st =
      let n = named means world t (sort_of_type d.of) st h.0.good in
      let r = named_all {i = n.interp} {s = rules.after_name t s} ds ts vs (terms_later means world n.later n.extends ds ts vs h.1) n.stands in
      record {
        interp = r.interp;
        extends = extends-trans means n.later n.extends r.extends;
        later = le_trans n.later r.later;
        stands = r.stands;
        each = (term_later means world r.later r.extends d (rules.name_of t s) v record { typed = h.0.typed; good = n.good; value_is = n.value_is ∙ h.0.value_is }, r.each);
      }
  named_all [] [] (v ∷ vs) h st = absurd h
  named_all [] (t ∷ ts) vs h st = absurd h
  named_all (d ∷ ds) [] vs h st = absurd h
  named_all (d ∷ ds) (t ∷ ts) [] h st = absurd h

  -- parameters stand for arguments
  pub bound : (n : ℕ) (i : Interpretation) (ds : List Declaration) (ts : List Term) (vs : List Value) → TermsStand means world n i ds ts vs → StoreStands means world n i ds (rules.bind ds ts) (run.bind ds vs)
  bound n i [] [] [] h = tt
  bound n i (d ∷ ds) (t ∷ ts) (v ∷ vs) h = (record { symbolic_name = refl; name = refl; typed = h.0.typed; good = h.0.good; value_is = h.0.value_is }, bound n i ds ts vs h.1)
  bound n i [] [] (v ∷ vs) h = absurd h
  bound n i [] (t ∷ ts) vs h = absurd h
  bound n i (d ∷ ds) [] vs h = absurd h
  bound n i (d ∷ ds) (t ∷ ts) [] h = absurd h

  -- in the part of another member, whose parameters stand for arguments
  pub stands_entered : {scope : Scope} {i : Interpretation} {s : rules.State} {c : run.State} (at : Place) (ds : List Declaration) (ts : List Term) (vs : List Value) → TermsStand means world s.next i ds ts vs → Stands means world scope i s c →
      Stands means world ds i (entered (rules.bind ds ts) at s) (run.with_store (run.bind ds vs) c)
  stands_entered {i = i} {s = s} at ds ts vs h st = record {
    store = bound s.next i ds ts vs h;
    path = st.path;
    heap = st.heap;
    old = st.old;
    awake = st.awake;
    bounded = st.bounded;
    null = st.null;
    standard = st.standard;
    owned = st.owned;
    marked = st.marked;
    holds = st.holds;
    old_holds = st.old_holds;
  }

  -- and back from it
  pub stands_back : {scope mid : Scope} {i j : Interpretation} {s t : rules.State} {c : run.State} (ys : run.Store) → s.next ≤ t.next → Extends means s.next i j → Stands means world scope i s c → Stands means world mid j t (run.with_store ys c) → Stands means world scope j (back s t) c
  stands_back {scope = scope} {s = s} {c = c} ys le x before st = record {
    store = store_later means world le x scope s.store c.store before.store;
    path = st.path;
    heap = st.heap;
    old = st.old;
    awake = st.awake;
    bounded = st.bounded;
    null = st.null;
    standard = st.standard;
    owned = st.owned;
    marked = before.marked;
    holds = st.holds;
    old_holds = st.old_holds;
  }

  -- the terms of returns, behind as many parameters as there are arguments
  all_terms : (n : ℕ) (i : Interpretation) (es : List Declaration) (ws : List Value) → run.HaveTypes es ws → (xs : rules.Store) → StoreStands means world n i es xs (run.bind es ws) → TermsStand means world n i es (rules.terms_in xs) ws
  all_terms n i [] [] tw [] h = tt
  all_terms n i (e ∷ es) (w ∷ ws) tw (x ∷ xs) h = (record { typed = h.0.typed; good = h.0.good; value_is = h.0.value_is }, all_terms n i es ws tw.1 xs h.1)
  all_terms n i [] [] tw (x ∷ xs) h = absurd h
  all_terms n i (e ∷ es) (w ∷ ws) tw [] h = absurd h
  all_terms n i [] (w ∷ ws) tw xs h = absurd tw
  all_terms n i (e ∷ es) [] tw xs h = absurd tw

  pub returned_terms : (m n : ℕ) (i j : Interpretation) (ds es : List Declaration) (ts : List Term) (vs ws : List Value) → TermsStand means world m i ds ts vs → run.HaveTypes es ws → (xs : rules.Store) →
      StoreStands means world n j (ds ++ es) xs (run.bind ds vs ++ run.bind es ws) → TermsStand means world n j es (drop (length ts) (rules.terms_in xs)) ws
  returned_terms m n i j [] es [] [] ws h tw xs k = all_terms n j es ws tw xs k
  returned_terms m n i j (d ∷ ds) es (t ∷ ts) (v ∷ vs) ws h tw (x ∷ xs) k = returned_terms m n i j ds es ts vs ws h.1 tw xs k.1
  returned_terms m n i j (d ∷ ds) es (t ∷ ts) (v ∷ vs) ws h tw [] k = absurd k
  returned_terms m n i j [] es [] (v ∷ vs) ws h tw xs k = absurd h
  returned_terms m n i j [] es (t ∷ ts) vs ws h tw xs k = absurd h
  returned_terms m n i j (d ∷ ds) es [] vs ws h tw xs k = absurd h
  returned_terms m n i j (d ∷ ds) es (t ∷ ts) [] ws h tw xs k = absurd h

  -- targets get them in order
  pub assigned_all : (n : ℕ) (i : Interpretation) (scope : Scope) (names : List Name) (es : List Declaration) (us : List Term) (ws : List Value) → TargetsHaveTypes p scope names es → TermsStand means world n i es us ws →
      (xs : rules.Store) (ys : run.Store) → StoreStands means world n i scope xs ys → StoreStands means world n i scope (rules.assign_all names us xs) (run.assign_all names ws ys)
  assigned_all n i scope [] [] [] [] t h xs ys st = st
  assigned_all n i scope (x ∷ names) (e ∷ es) (u ∷ us) (w ∷ ws) t h xs ys st =
      assigned_all n i scope names es us ws t.1 h.1 (rules.assign x u xs) (run.assign x w ys) (store_assign means world x e.of u w scope xs ys st t.0 h.0.typed h.0.good h.0.value_is)
  assigned_all n i scope [] (e ∷ es) us ws t h xs ys st = absurd t
  assigned_all n i scope (x ∷ names) [] us ws t h xs ys st = absurd t
  assigned_all n i scope [] [] [] (w ∷ ws) t h xs ys st = absurd h
  assigned_all n i scope [] [] (u ∷ us) ws t h xs ys st = absurd h
  assigned_all n i scope (x ∷ names) (e ∷ es) [] ws t h xs ys st = absurd h
  assigned_all n i scope (x ∷ names) (e ∷ es) (u ∷ us) [] t h xs ys st = absurd h
