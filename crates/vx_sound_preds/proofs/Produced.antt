-- A body or a precondition that is produced, with a snapshot or without one: where its entries are known, they are added to what is
-- held, and what follows is cleared there. Giving it ends there too, if it ends.
use Rattle.std.proofs.Common.{◌≡◌, ◌⊎◌, ℕ, ◌≤◌, Bool, true, false, cond, List, [], ◌∷◌, ◌++◌, Option, Some, None, inl, inr, refl, sym, ◌∙◌, ap, subst, le_refl, le_trans}
use Rattle.std.specs.Prelude.{Ok, option_and_then}
use Rattle.std.proofs.lemmas.Option.{same_Some}
use Rattle.vx_frac.specs.Fractions.{Fraction, none, product}
use Rattle.vx_ast.specs.declared.Place.{Place}
use Rattle.vx_ast.specs.declared.ValueType.{ValueType}
use Rattle.vx_ast.specs.declared.ValueType.TheVariants as type
use Rattle.vx_ast.specs.Syntax.{Name, Program, Predicate, predicate_named, place_of, Expr, Exprs, Assertion, Pure, Points, Both, Implied, Chosen}
use Rattle.vx_ast.specs.Syntax as syntax
use Rattle.vx_meaning.specs.Values.{Value, BoolValue, RefValue, PermValue, type_of, is_true}
use Rattle.vx_meaning.specs.States as run
use Rattle.vx_meaning.specs.Evaluate as plain
use Rattle.vx_meaning.specs.Evaluate.{applications}
use Rattle.vx_meaning.specs.Flatten.{no_applications, entries, location_entry, instance_entry}
use Rattle.vx_meaning.specs.Fits.{Checked, Eventually, Fits, choose, field_part, instance_part, deeper, add, add_part}
use Rattle.vx_meaning.specs.Outcomes.{Outcome, Ends, FailsAt, Stops, ends, stops, checked, passes, refused, IsOver, goes_on, is_over}
use Rattle.vx_meaning.specs.Give.{when, side, give, give_part}
use Rattle.vx_terms.specs.Sorts.{Sort, RealSort, SnapSort}
use Rattle.vx_terms.specs.Terms.{Term}
use Rattle.vx_terms.specs.Build.{equals, unit, pair, wrap, first, second, unwrap}
use Rattle.vx_terms.specs.Interpretations.{Interpretation, TreeElement, Tree, Empty, Pair, IsOf, as_bool, as_fraction, value}
use Rattle.vx_rules.specs.States as rules
use Rattle.vx_rules.specs.States.{sort_of_type}
use Rattle.vx_rules.specs.Trees.{Step}
use Rattle.vx_rules.specs.Chunks.{field_key, instance_key, put}
use Rattle.vx_rules.specs.Rules.{Going, Outer, fork, field_sort, produced_value, after_value, produced_snapshot, after_snapshot, left_part, right_part, with_split, with_unit, eval, produce}
use Rattle.vx_types.specs.Typing.{Scope, HaveNoPerm, HasType, IsTyped}
use Rattle.vx_elements.proofs.Settled.{Meaning, Extends, extends-refl, extends-trans, value_kept}
use Rattle.vx_elements.proofs.Built.{Good, good_later, good_equals}
use Rattle.vx_elements.proofs.Elements.{element, element_is, bool_value_is}
use Rattle.vx_elements.proofs.Eventually.{always, eventually, both_eventually, one_answer, no_refusal}
use Rattle.vx_elements.proofs.Truth.{is_equal}
use Rattle.vx_elements.proofs.Values.{value_typed, sort_of_field}
use Rattle.vx_amounts.proofs.Amounts.{Le, Same}
use Rattle.vx_sound.specs.Snapshots.{leaf, location_leaf, truth_leaf, tree_by}
use Rattle.vx_sound.proofs.Marks.{InnerAt, MayMark, Unrooted, inner_anywhere}
use Rattle.vx_sound.proofs.World.{at_field, World}
use Rattle.vx_sound.proofs.Standard.{IsWritten, leaf_of, leaf_is, unit_value, pair_value, first_value, second_value, wrap_value, unwrap_value, first_written, second_written, name_written, good_unit, good_pair, good_first, good_second, good_wrap, good_unwrap}
use Rattle.vx_sound.proofs.Speaks.{Speaks, SpeaksOf}
use Rattle.vx_sound.proofs.Passes.{Cleared}
use Rattle.vx_sound.proofs.Stands.{IsThere, Stands, stands_fact, next_after_fact}
use Rattle.vx_sound.proofs.Candidates.{Keys, of_instance, keys_later, keyed}
use Rattle.vx_sound.proofs.Puts.{put_stands}
use Rattle.vx_sound.proofs.Goes.{Goes, Evaluates, goes_after, reached, forked, Named, named}
use Rattle.vx_sound.proofs.Evaluate.{PartsGo, bind_ok, eval_goes}
use Rattle.vx_sound.proofs.Giving.{next_after_put, ScaleStands, scale_later, put_fresh, Located, located, InstanceLocated, instance_located}
use Rattle.vx_sound_preds.specs.Bodies.{Rigid, IsPlain, IsPlainBody, GoodBodies}
use Rattle.vx_sound_preds.specs.Asking.{asking_tree, asking_entries, IsAsking}
use Rattle.vx_sound_preds.proofs.Fitting.{step}
use Rattle.vx_sound_preds.proofs.Flats.{After, came}
use Rattle.vx_sound_preds.proofs.Same.{same_entries, plain_asks}
use Rattle.vx_sound_preds.proofs.Asked.{held_tree, held_entries, asking_positive, read_of, read_all, share_worth}
use Rattle.vx_sound_preds.proofs.Adding.{added, added_append}
use Rattle.vx_sound_preds.proofs.Marking.{BodiesKeep, produce_kept, left_kept, split_marks, as_marked, marked_on, marked_back}
use Rattle.vx_sound_preds.proofs.Inside.{AllInner, inner_parts}
use Rattle.vx_sound_preds.proofs.Holding.{HoldsInstances, added_debts, fewer, Applying, functions_world}

-- an outcome that ends, ends here
abbrev pub EndsAt : run.State → Outcome → Type 0
EndsAt u (Ends t) = t ≡ u
EndsAt u (FailsAt at) = ⊥
EndsAt u Stops = Unit {0}

module _ (means : Meaning) (p : Program) (good : GoodBodies p) (Held : Name → Type 0) (no_perm : (x : Name) (d : Predicate) → predicate_named p x ≡ Some d → HaveNoPerm d.parameters) (bounded : Bool) (applying : Applying) where
  abbrev pub world : World
  world = functions_world p good Held no_perm bounded applying

  -- the snapshot of an assertion, where there is one: it stands for the tree of the assertion's values
  pub record SnapshotOf (n : ℕ) (i : Interpretation) (c : run.State) (a : Assertion) (t : Term) : Type 0 where
    pub good_term : Good means n i t SnapSort
    pub written : IsWritten t
    pub fuel : ℕ
    pub tree : Tree
    pub is : asking_tree p (applications p fuel) (tree_by p fuel c.heap) c a ≡ Some tree
    pub value_is : value i t ≡ TreeElement tree

  abbrev pub IsSnapshotOf : ℕ → Interpretation → run.State → Assertion → Option Term → Type 0
  IsSnapshotOf n i c a None = Unit {0}
  IsSnapshotOf n i c a (Some t) = SnapshotOf n i c a t

  pub snapshot_later : (m n : ℕ) (i j : Interpretation) (c : run.State) (a : Assertion) (snapshot : Option Term) → m ≤ n → Extends means m i j → IsSnapshotOf m i c a snapshot → IsSnapshotOf n j c a snapshot
  snapshot_later m n i j c a None le x k = tt
  snapshot_later m n i j c a (Some t) le x k = record { good_term = good_later means le x k.good_term; written = k.written; fuel = k.fuel; tree = k.tree; is = k.is; value_is = value_kept means t k.good_term.settled x ∙ k.value_is }

  -- of another assertion that has the same tree, in a state with other holdings
  snapshot_as : (n : ℕ) (i : Interpretation) (c : run.State) (hs : run.Holdings) (a b : Assertion) (snapshot : Option Term) →
      ((m : ℕ) (f : run.Instance → Option Tree) (t : Tree) → asking_tree p (applications p m) f c a ≡ Some t → asking_tree p (applications p m) f (run.with_holdings hs c) b ≡ Some t) → IsSnapshotOf n i c a snapshot → IsSnapshotOf n i (run.with_holdings hs c) b snapshot
  snapshot_as n i c hs a b None e k = tt
  snapshot_as n i c hs a b (Some t) e k = record { good_term = k.good_term; written = k.written; fuel = k.fuel; tree = k.tree; is = e k.fuel (tree_by p k.fuel c.heap) k.tree k.is; value_is = k.value_is }

  -- Units

  next_unit : (snapshot : Option Term) (s : rules.State) → (with_unit snapshot s).next ≡ s.next
  next_unit None s = refl
  next_unit (Some t) s = next_after_fact means world (equals t unit) s

  unit_stands : {scope : Scope} {i : Interpretation} {s : rules.State} {c : run.State} (a : Assertion) (snapshot : Option Term) → Stands means world scope i s c → IsSnapshotOf s.next i c a snapshot →
      ((m : ℕ) (f : run.Instance → Option Tree) (t : Tree) → asking_tree p (applications p m) f c a ≡ Some t → t ≡ Empty) → Stands means world scope i (with_unit snapshot s) c
  unit_stands a None st k e = st
  unit_stands {i = i} {c = c} a (Some t) st k e =
      let empty : k.tree ≡ Empty = e k.fuel (tree_by p k.fuel c.heap) k.tree k.is in
      stands_fact means world (equals t unit) st (good_equals means k.good_term (good_unit means)) (is_equal i t unit (k.value_is ∙ ap TreeElement empty ∙ sym (unit_value i st.standard)))

  -- Pairs

  record Split (scope : Scope) (i : Interpretation) (s : rules.State) (c : run.State) (a b : Assertion) (snapshot : Option Term) : Type 0 where
    pub stands : Stands means world scope i (with_split snapshot s) c
    pub next_is : (with_split snapshot s).next ≡ s.next
    pub left : IsSnapshotOf s.next i c a (left_part snapshot)
    pub right : IsSnapshotOf s.next i c b (right_part snapshot)

  -- the parts of a term that stands for a pair
  pub record PartsOf (scope : Scope) (i : Interpretation) (s : rules.State) (c : run.State) (t : Term) (x y : Tree) : Type 0 where
    pub stands : Stands means world scope i (with_split (Some t) s) c
    pub next_is : (with_split (Some t) s).next ≡ s.next
    pub first_good : Good means s.next i (first t) SnapSort
    pub first_written : IsWritten (first t)
    pub first_is : value i (first t) ≡ TreeElement x
    pub second_good : Good means s.next i (second t) SnapSort
    pub second_written : IsWritten (second t)
    pub second_is : value i (second t) ≡ TreeElement y

  pub parts_of : {scope : Scope} {i : Interpretation} {s : rules.State} {c : run.State} (t : Term) (x y : Tree) → Stands means world scope i s c → Good means s.next i t SnapSort → IsWritten t → value i t ≡ TreeElement (Pair x y) → PartsOf scope i s c t x y
  parts_of {i = i} {s = s} t x y st good written whole =
      let one = first_value i st.standard t x y whole in
      let two = second_value i st.standard t x y whole in
      let first_good : Good means s.next i (first t) SnapSort = subst (λ u. Good means s.next i u SnapSort) (sym written.first_is) (good_first means good) in
      let second_good : Good means s.next i (second t) SnapSort = subst (λ u. Good means s.next i u SnapSort) (sym written.second_is) (good_second means good) in
      let first_is : value i (first t) ≡ TreeElement x = ap (value i) written.first_is ∙ one in
      let second_is : value i (second t) ≡ TreeElement y = ap (value i) written.second_is ∙ two in
      let fact = equals t (pair (first t) (second t)) in
      record {
        stands = stands_fact means world fact st (good_equals means good (good_pair means first_good second_good)) (is_equal i t (pair (first t) (second t)) (whole ∙ sym (pair_value i st.standard (first t) (second t) x y first_is second_is)));
        next_is = next_after_fact means world fact s;
        first_good = first_good;
        first_written = subst IsWritten (sym written.first_is) (first_written t);
        first_is = first_is;
        second_good = second_good;
        second_written = subst IsWritten (sym written.second_is) (second_written t);
        second_is = second_is;
      }

  split : {scope : Scope} {i : Interpretation} {s : rules.State} {c : run.State} (a b : Assertion) (snapshot : Option Term) → Stands means world scope i s c → IsSnapshotOf s.next i c (Both a b) snapshot → Split scope i s c a b snapshot
  split a b None st k = record { stands = st; next_is = refl; left = tt; right = tt }
  split {i = i} {s = s} {c = c} a b (Some t) st k =
      let f = tree_by p k.fuel c.heap in
      let x = came (asking_tree p (applications p k.fuel) f c a) (λ t. option_and_then (λ u. Some (Pair t u)) (asking_tree p (applications p k.fuel) f c b)) k.tree k.is in
      let y = came (asking_tree p (applications p k.fuel) f c b) (λ u. Some (Pair x.it u)) k.tree x.then in
      let whole : value i t ≡ TreeElement (Pair x.it y.it) = k.value_is ∙ ap TreeElement (sym (same_Some (Pair x.it y.it) k.tree y.then)) in
      let m = parts_of t x.it y.it st k.good_term k.written whole in
      record {
        stands = m.stands;
        next_is = m.next_is;
        left = record { good_term = m.first_good; written = m.first_written; fuel = k.fuel; tree = x.it; is = x.is; value_is = m.first_is };
        right = record { good_term = m.second_good; written = m.second_written; fuel = k.fuel; tree = y.it; is = y.is; value_is = m.second_is };
      }

  -- A chunk whose value is known

  pub put_known : {scope : Scope} {i : Interpretation} {s : rules.State} {c : run.State} {key : rules.Chunk} {r : run.Resource} {b : Sort} (keys : Keys means world s.next i key r b) (a u : Term) (q : Fraction) (inner : Bool) (on : Going) → Stands means world scope i s c →
      Good means s.next i a RealSort → Same (as_fraction (value i a)) q → Le none (as_fraction (value i a)) → Good means s.next i u b → (key.is_field ≡ false → IsWritten u) → IsThere p c.heap r (value i u) →
      HoldsInstances p Held bounded c.heap (run.gained r q c.holdings) → (inner ≡ true → InnerAt p applying.marks c.heap r) → Cleared (on (put (record key { amount = a; value = u; inner = inner }) s)) → Goes means world scope i s.next on (run.with_holdings (run.gained r q c.holdings) c)
  put_known {i = i} {s = s} {key = key} {r = r} keys a u q inner on st ga same_q sign gu written there holds marked h = record {
    interp = i;
    state = put (record key { amount = a; value = u; inner = inner }) s;
    extends = extends-refl means s.next i;
    later = subst (λ m. s.next ≤ m) (sym (next_after_put means world (record key { amount = a; value = u; inner = inner }) s)) (le_refl _);
    stands = put_stands means world (record key { amount = a; value = u; inner = inner }) r q st (keyed means world keys a u inner ga sign gu written (λ k. there) marked) same_q holds;
    cleared = h;
  }

  -- the value of a location by a snapshot, named
  record ValueNamed (scope : Scope) (i : Interpretation) (s : rules.State) (c : run.State) (f : Name) (r : ℕ) (snapshot : Option Term) (t : Term) : Type 0 where
    pub interp : Interpretation
    pub extends : Extends means s.next i interp
    pub later : s.next ≤ (after_value (field_sort p f) snapshot s).next
    pub stands : Stands means world scope interp (after_value (field_sort p f) snapshot s) c
    pub good_value : Good means (after_value (field_sort p f) snapshot s).next interp (produced_value (field_sort p f) snapshot s) (field_sort p f)
    pub value_is : value interp (produced_value (field_sort p f) snapshot s) ≡ element (run.value_at p c.heap (at_field r f))

  value_named : {scope : Scope} {i : Interpretation} {s : rules.State} {c : run.State} (f : Name) (r : ℕ) (t : Term) → Stands means world scope i s c → Good means s.next i t SnapSort → IsWritten t → value i t ≡ TreeElement (leaf (run.value_at p c.heap (at_field r f))) →
      ValueNamed scope i s c f r (Some t) t
  value_named {scope = scope} {i = i} {s = s} {c = c} f r t st g written is = record {
    interp = n.interp;
    extends = n.extends;
    later = subst (λ m. s.next ≤ m) (sym next_is) n.later;
    stands = stands_fact means world fact n.stands (good_equals means (good_later means n.later n.extends g) (good_wrap means n.good)) (is_equal n.interp t (wrap (field_sort p f) name) (value_kept means t g.settled n.extends ∙ is ∙ sym wrapped_is));
    good_value = subst (λ m. Good means m n.interp name (field_sort p f)) (sym next_is) n.good;
    value_is = named_is;
  }
    where
      ft : ValueType
      ft = run.field_type p f

      v : Value
      v = run.value_at p c.heap (at_field r f)

      sort_is : field_sort p f ≡ sort_of_type (run.field_type p f)
      sort_is = sort_of_field p f

      of_sort : IsOf (sort_of_type (run.field_type p f)) (element (run.value_at p c.heap (at_field r f)))
      of_sort = subst (λ y. IsOf (sort_of_type y) (element (run.value_at p c.heap (at_field r f)))) (value_typed p c.heap (at_field r f)) (element_is (run.value_at p c.heap (at_field r f)))

      leaf_element : value i t ≡ TreeElement (leaf_of (element (run.value_at p c.heap (at_field r f))))
      leaf_element = is ∙ ap TreeElement (sym (leaf_is v))

      good_part : Good means s.next i (unwrap (field_sort p f) t) (field_sort p f)
      good_part = subst (λ z. Good means s.next i (unwrap z t) z) (sym sort_is) (subst (λ u. Good means s.next i u (sort_of_type ft)) (sym (written.unwrap_is ft)) (good_unwrap means (sort_of_type ft) g))

      part_is : value i (unwrap (field_sort p f) t) ≡ element (run.value_at p c.heap (at_field r f))
      part_is = subst (λ z. value i (unwrap z t) ≡ element v) (sym sort_is) (ap (value i) (written.unwrap_is ft) ∙ unwrap_value i st.standard ft t (element v) of_sort leaf_element)

      n : Named means world scope i s.next c (field_sort p f) (value i (unwrap (field_sort p f) t)) (rules.name_of (unwrap (field_sort p f) t) s) (rules.after_name (unwrap (field_sort p f) t) s)
      n = named means world (unwrap (field_sort p f) t) (field_sort p f) st good_part

      name : Term
      name = rules.name_of (unwrap (field_sort p f) t) s

      named_is : value n.interp (rules.name_of (unwrap (field_sort p f) t) s) ≡ element (run.value_at p c.heap (at_field r f))
      named_is = n.value_is ∙ part_is

      wrapped_is : value n.interp (wrap (field_sort p f) (rules.name_of (unwrap (field_sort p f) t) s)) ≡ TreeElement (leaf (run.value_at p c.heap (at_field r f)))
      wrapped_is =
          subst (λ z. value n.interp (wrap z name) ≡ TreeElement (leaf v)) (sym sort_is)
          (wrap_value n.interp n.stands.standard ft name (subst (IsOf (sort_of_type ft)) (sym named_is) of_sort) ∙ ap (λ e. TreeElement (leaf_of e)) named_is ∙ ap TreeElement (leaf_is v))

      fact : Term
      fact = equals t (wrap (field_sort p f) (rules.name_of (unwrap (field_sort p f) t) s))

      next_is : (rules.with_fact (equals t (wrap (field_sort p f) (rules.name_of (unwrap (field_sort p f) t) s))) (rules.after_name (unwrap (field_sort p f) t) s)).next ≡ (rules.after_name (unwrap (field_sort p f) t) s).next
      next_is = next_after_fact means world fact (rules.after_name (unwrap (field_sort p f) t) s)

  module _ (o : Outer) (parts : PartsGo means world o) (Possible : run.State → Type 0) where
    -- the entries were added, and giving ends there
    pub record Produced (scope : Scope) (i : Interpretation) (n : ℕ) (on : Going) (c : run.State) (a : Assertion) (q : Fraction) (es : run.Holdings) : Type 0 where
      pub adds : Eventually (λ n. add p (deeper p n) q a c ≡ Ok (run.with_holdings (added q es c.holdings) c))
      pub gives : (outcome : Outcome) → give p Possible q a c outcome → EndsAt (run.with_holdings (added q es c.holdings) c) outcome
      pub goes : Goes means world scope i n on (run.with_holdings (added q es c.holdings) c)

    -- bodies keep what marks are put
    abbrev Keeps : Type 0
    Keeps = BodiesKeep p good o

    -- why marks don't matter behind a part: it is plain, so it keeps what marks are put; or no instance is the root
    abbrev pub KeepsMarks : Assertion → Type 0
    KeepsMarks a = (BodiesKeep p good o × IsPlainBody p Rigid a) ⊎ Unrooted applying.marks

    -- what is shown of an assertion, whose entries are known by m
    ProducedGoes : Fraction → Assertion → Type 0
    ProducedGoes q a =
        KeepsMarks a → (scope : Scope) (c : run.State) (m : ℕ) (es : run.Holdings) → IsTyped p scope a → SpeaksOf Held applying.Applied a → IsAsking p a →
        asking_entries p (applications p m) c a ≡ Some es → HoldsInstances p Held bounded c.heap (added q es c.holdings) →
        (i : Interpretation) (s : rules.State) (scale : Term) (snapshot : Option Term) (on : Going) → IsSnapshotOf s.next i c a snapshot → ScaleStands means world s.next i scale q → Stands means world scope i s c → (s.inner ≡ true → AllInner p good c.heap applying.marks es) →
        Cleared (produce p o a scale snapshot s on) → Produced scope i s.next on c a q es

    ends_at : (u : run.State) (outcome : Outcome) → ends u outcome → EndsAt u outcome
    ends_at u (Ends t) e = e
    ends_at u (FailsAt at) e = e
    ends_at u Stops e = tt

    stops_at : (u : run.State) (outcome : Outcome) → stops outcome → EndsAt u outcome
    stops_at u (Ends t) e = absurd e
    stops_at u (FailsAt at) e = e
    stops_at u Stops e = tt

    -- what a possible part gives
    part_gives : (c : run.State) (q : Fraction) (r : run.Resource) (a : Fraction) (outcome : Outcome) → give_part p Possible q c (r, a) outcome → EndsAt (run.with_holdings (run.gained r (product q a) c.holdings) c) outcome
    part_gives c q r a outcome (inl (can, e)) = ends_at (run.with_holdings (run.gained r (product q a) c.holdings) c) outcome e
    part_gives c q r a outcome (inr (never, e)) = stops_at (run.with_holdings (run.gained r (product q a) c.holdings) c) outcome e

    checked_gives : (c : run.State) (q : Fraction) (r : run.Resource) (a : Fraction) (outcome : Outcome) (check : ℕ → Checked (run.Resource × Fraction)) → Eventually (λ n. check n ≡ Ok (r, a)) → checked check (give_part p Possible q c) outcome →
        EndsAt (run.with_holdings (run.gained r (product q a) c.holdings) c) outcome
    checked_gives c q r a outcome check k (passes x h rest) = part_gives c q r a outcome (subst (λ x. give_part p Possible q c x outcome) (one_answer x (r, a) h k) rest)
    checked_gives c q r a outcome check k (refused at h e) = no_refusal (r, a) at k h

    -- one entry
    one_produced : {scope : Scope} {i : Interpretation} {n : ℕ} {on : Going} (c : run.State) (a : Assertion) (q : Fraction) (r : run.Resource) (x : Fraction) (es : run.Holdings) → (r, x) ∷ [] ≡ es →
        Eventually (λ n. add p (deeper p n) q a c ≡ Ok (run.with_holdings (run.gained r (product q x) c.holdings) c)) →
        ((outcome : Outcome) → give p Possible q a c outcome → EndsAt (run.with_holdings (run.gained r (product q x) c.holdings) c) outcome) →
        Goes means world scope i n on (run.with_holdings (run.gained r (product q x) c.holdings) c) → Produced scope i n on c a q es
    unfolding added
    one_produced {scope = scope} {i = i} {n = n} {on = on} c a q r x es e k g h = subst (λ es. Produced scope i n on c a q es) e record { adds = k; gives = g; goes = h }

    -- no entry
    none_produced : {scope : Scope} {i : Interpretation} {n : ℕ} {on : Going} (c : run.State) (a : Assertion) (q : Fraction) (es : run.Holdings) → [] ≡ es → Eventually (λ n. add p (deeper p n) q a c ≡ Ok c) →
        ((outcome : Outcome) → give p Possible q a c outcome → EndsAt c outcome) → Goes means world scope i n on c → Produced scope i n on c a q es
    unfolding added
    none_produced {scope = scope} {i = i} {n = n} {on = on} c a q es e k g h = subst (λ es. Produced scope i n on c a q es) e record { adds = k; gives = g; goes = h }

    one_holds : (c : run.State) (q : Fraction) (r : run.Resource) (x : Fraction) (es : run.Holdings) → (r, x) ∷ [] ≡ es → HoldsInstances p Held bounded c.heap (added q es c.holdings) → HoldsInstances p Held bounded c.heap (run.gained r (product q x) c.holdings)
    unfolding added
    one_holds c q r x es e h = subst (λ es. HoldsInstances p Held bounded c.heap (added q es c.holdings)) (sym e) h

    is_true_of : (v : Value) → type_of v ≡ type.Bool → is_true v ≡ as_bool (element v)
    is_true_of v e = ap is_true (bool_value_is v e)

    pure_produced : (q : Fraction) (e : Expr) → ProducedGoes q (Pure e)
    unfolding ProducedGoes
    pure_produced q e marks scope c m es t k pl en holds i s scale snapshot on sn sc st mk w = go (is_true r.result) refl (read_of p c e r.result r.fits m (λ v. cond (is_true v) (Some []) None) es en)
      where
        after : Term → Going
        after t s1 = Step (on (with_unit snapshot (rules.with_fact t s1)))

        r : Evaluates means world scope i s.next (λ t s1. Step (on (with_unit snapshot (rules.with_fact t s1)))) c e type.Bool
        r = eval_goes means world o parts t k (λ t s1. Step (on (with_unit snapshot (rules.with_fact t s1)))) st w

        empty : is_true r.result ≡ true → (t : Tree) → truth_leaf r.result ≡ Some t → t ≡ Empty
        empty f t h = sym (same_Some Empty t (sym (ap (λ b. cond b (Some Empty) None) f) ∙ h))

        go : (b : Bool) → is_true r.result ≡ b → cond b (Some []) None ≡ Some es → Produced scope i s.next on c (Pure e) q es
        go false f g = cc
        go true f g = none_produced c (Pure e) q es (same_Some [] es g) (eventually r.fits (λ n h. bind_ok (λ _. Ok c) r.result h)) gives record {
          interp = r.interp;
          state = with_unit snapshot (rules.with_fact r.term r.state);
          extends = r.extends;
          later = subst (λ m. s.next ≤ m) (sym (next_unit snapshot (rules.with_fact r.term r.state) ∙ next)) r.later;
          stands = unit_stands (Pure e) snapshot told (subst (λ m. IsSnapshotOf m r.interp c (Pure e) snapshot) (sym next) (snapshot_later s.next r.state.next i r.interp c (Pure e) snapshot r.later r.extends sn))
              (λ m f' t h. empty f t (read_of p c e r.result r.fits m truth_leaf t h));
          cleared = r.cleared;
        }
          where
            next : (rules.with_fact r.term r.state).next ≡ r.state.next
            next = next_after_fact means world r.term r.state

            told : Stands means world scope r.interp (rules.with_fact r.term r.state) c
            told = stands_fact means world r.term r.stands r.good (ap as_bool r.value_is ∙ sym (is_true_of r.result r.typed) ∙ f)

            gives : (outcome : Outcome) → give p Possible q (Pure e) c outcome → EndsAt c outcome
            gives outcome (passes x h rest) = ends_at c outcome (subst (λ b. when b (ends c) stops outcome) (ap is_true (one_answer x r.result h r.fits) ∙ f) rest)
            gives outcome (refused at h g) = no_refusal r.result at r.fits h

    points_produced : (q : Fraction) (at : Place) (e : Expr) (f : Name) (share : Expr) → ProducedGoes q (Points at e f share)
    unfolding ProducedGoes
    points_produced q at e f share marks scope c m es t k pl en holds i s scale snapshot on sn sc st mk w =
        one_produced c (Points at e f share) q (run.At (at_field l.reference f)) l.fraction es entry_is
        (eventually l.part (λ n m. bind_ok (add_part p (deeper p n) q c) (run.At (at_field l.reference f), l.fraction) m))
        (λ outcome g. checked_gives c q (run.At (at_field l.reference f)) l.fraction outcome (λ n. field_part p (deeper p n) c at e f share) l.part g)
        (goes_after means world located_at (put_there snapshot (snapshot_later s.next l.state.next i l.interp c (Points at e f share) snapshot l.later l.extends sn) l.cleared))
      where
        after : Term → Term → Going
        after r a s3 = Step (on (put (record (field_key f r) { amount = a; value = produced_value (field_sort p f) snapshot s3; inner = s.inner }) (after_value (field_sort p f) snapshot s3)))

        l : Located means world o parts scope i s.next after c at e f share q
        l = located means world o parts at f scale q after t.0 k.0 t.2 k.1 sc st w

        entry_is : (run.At (at_field l.reference f), l.fraction) ∷ [] ≡ es
        entry_is = same_Some ((run.At (at_field l.reference f), l.fraction) ∷ []) es
            (sym (step (location_entry f (RefValue l.reference)) (PermValue l.fraction) (share_worth p c share (PermValue l.fraction) pl.1 l.share_fits))
            ∙ read_of p c e (RefValue l.reference) l.receiver_fits m (λ r. option_and_then (location_entry f r) (plain.value p no_applications c share)) es en)

        marked : s.inner ≡ true → InnerAt p applying.marks c.heap (run.At (at_field l.reference f))
        marked e = tt

        there : HoldsInstances p Held bounded c.heap (run.gained (run.At (at_field l.reference f)) (product q l.fraction) c.holdings)
        there = one_holds c q (run.At (at_field l.reference f)) l.fraction es entry_is holds

        located_at : Goes means world scope i s.next (after l.receiver l.amount) c
        located_at = record { interp = l.interp; state = l.state; extends = l.extends; later = l.later; stands = l.stands; cleared = l.cleared }

        put_there : (snapshot : Option Term) → IsSnapshotOf l.state.next l.interp c (Points at e f share) snapshot →
            Cleared (on (put (record (field_key f l.receiver) { amount = l.amount; value = produced_value (field_sort p f) snapshot l.state; inner = s.inner }) (after_value (field_sort p f) snapshot l.state))) →
            Goes means world scope l.interp l.state.next on (run.with_holdings (run.gained (run.At (at_field l.reference f)) (product q l.fraction) c.holdings) c)
        put_there None sn h = put_fresh means world l.keys l.amount (product q l.fraction) s.inner on l.stands l.amount_good l.amount_is l.sign there marked h
        put_there (Some t) sn h =
            let tree_is : sn.tree ≡ leaf (run.value_at p c.heap (at_field l.reference f)) =
            sym (same_Some (leaf (run.value_at p c.heap (at_field l.reference f))) sn.tree (read_of p c e (RefValue l.reference) l.receiver_fits sn.fuel (location_leaf p c.heap f) sn.tree sn.is)) in
            let m = value_named f l.reference t l.stands sn.good_term sn.written (sn.value_is ∙ ap TreeElement tree_is) in
            let a_kept = value_kept means l.amount l.amount_good.settled m.extends in
            let g = put_known (keys_later means world m.later m.extends l.keys) l.amount (produced_value (field_sort p f) (Some t) l.state) (product q l.fraction) s.inner on m.stands (good_later means m.later m.extends l.amount_good)
            (subst (λ e. Same (as_fraction e) (product q l.fraction)) (sym a_kept) l.amount_is) (subst (λ e. Le none (as_fraction e)) (sym a_kept) l.sign) m.good_value (λ e. absurd (not_both e)) m.value_is there marked h in
            record { interp = g.interp; state = g.state; extends = extends-trans means {k = g.interp} m.later m.extends g.extends; later = le_trans {k = g.state.next} m.later g.later; stands = g.stands; cleared = g.cleared }
          where
            not_both : ◌≡◌ {A = Bool} true false → ⊥
            not_both e = cc

    instance_produced : (q : Fraction) (at : Place) (x : Name) (xs : Exprs) (share : Expr) → ProducedGoes q (syntax.Instance at x xs share)
    unfolding ProducedGoes
    instance_produced q at x xs share marks scope c m es t k pl en holds i s scale snapshot on sn sc st mk w =
        one_produced c (syntax.Instance at x xs share) q (run.Folded record { predicate = x; arguments = l.results }) l.fraction es entry_is
        (eventually l.part (λ n m. bind_ok (add_part p (deeper p n) q c) (run.Folded record { predicate = x; arguments = l.results }, l.fraction) m))
        (λ outcome g. checked_gives c q (run.Folded record { predicate = x; arguments = l.results }) l.fraction outcome (λ n. instance_part p (deeper p n) c at x xs share) l.part g)
        (goes_after means world located_at (put_there snapshot (snapshot_later s.next l.state.next i l.interp c (syntax.Instance at x xs share) snapshot l.later l.extends sn) l.cleared))
      where
        after : List Term → Term → Going
        after ts a s3 = Step (on (put (record (instance_key x ts) { amount = a; value = produced_snapshot snapshot s3; inner = s.inner }) (after_snapshot snapshot s3)))

        l : InstanceLocated means world o parts scope i s.next after c at x xs share q
        l = instance_located means world o parts at x t.0.0 scale q after k.0 t.0.1 t.0.2 k.1 t.1 k.2 sc st w

        entry_is : (run.Folded record { predicate = x; arguments = l.results }, l.fraction) ∷ [] ≡ es
        entry_is = same_Some ((run.Folded record { predicate = x; arguments = l.results }, l.fraction) ∷ []) es
            (sym (step (instance_entry x l.results) (PermValue l.fraction) (share_worth p c share (PermValue l.fraction) pl.1 l.share_fits))
            ∙ read_all p c xs l.results l.arguments_fit m (λ vs. option_and_then (instance_entry x vs) (plain.value p no_applications c share)) es en)

        marked : s.inner ≡ true → InnerAt p applying.marks c.heap (run.Folded record { predicate = x; arguments = l.results })
        marked e = (subst (AllInner p good c.heap applying.marks) (sym entry_is) (mk e)).0

        there : HoldsInstances p Held bounded c.heap (run.gained (run.Folded record { predicate = x; arguments = l.results }) (product q l.fraction) c.holdings)
        there = one_holds c q (run.Folded record { predicate = x; arguments = l.results }) l.fraction es entry_is holds

        keys : Keys means world l.state.next l.interp (instance_key x l.terms) (run.Folded record { predicate = x; arguments = l.results }) SnapSort
        keys = of_instance x l.terms l.results l.keys

        located_at : Goes means world scope i s.next (after l.terms l.amount) c
        located_at = record { interp = l.interp; state = l.state; extends = l.extends; later = l.later; stands = l.stands; cleared = l.cleared }

        put_there : (snapshot : Option Term) → IsSnapshotOf l.state.next l.interp c (syntax.Instance at x xs share) snapshot →
            Cleared (on (put (record (instance_key x l.terms) { amount = l.amount; value = produced_snapshot snapshot l.state; inner = s.inner }) (after_snapshot snapshot l.state))) →
            Goes means world scope l.interp l.state.next on (run.with_holdings (run.gained (run.Folded record { predicate = x; arguments = l.results }) (product q l.fraction) c.holdings) c)
        put_there None sn h = put_fresh means world keys l.amount (product q l.fraction) s.inner on l.stands l.amount_good l.amount_is l.sign there marked h
        put_there (Some t) sn h =
            let tree_is = read_all p c xs l.results l.arguments_fit sn.fuel (λ vs. tree_by p sn.fuel c.heap record { predicate = x; arguments = vs }) sn.tree sn.is in
            let m = named means world t SnapSort l.stands sn.good_term in
            let a_kept = value_kept means l.amount l.amount_good.settled m.extends in
            let g = put_known (keys_later means world m.later m.extends keys) l.amount (rules.name_of t l.state) (product q l.fraction) s.inner on m.stands (good_later means m.later m.extends l.amount_good)
            (subst (λ e. Same (as_fraction e) (product q l.fraction)) (sym a_kept) l.amount_is) (subst (λ e. Le none (as_fraction e)) (sym a_kept) l.sign) m.good (λ e. name_written t l.state l.stands.awake) (sn.tree, (sn.fuel, tree_is), m.value_is ∙ sn.value_is) there marked h in
            record { interp = g.interp; state = g.state; extends = extends-trans means {k = g.interp} m.later m.extends g.extends; later = le_trans {k = g.state.next} m.later g.later; stands = g.stands; cleared = g.cleared }

    -- one part after the other
    both_adds : (q : Fraction) (a b : Assertion) (c u v : run.State) → Eventually (λ n. add p (deeper p n) q a c ≡ Ok u) → Eventually (λ n. add p (deeper p n) q b u ≡ Ok v) → Eventually (λ n. add p (deeper p n) q (Both a b) c ≡ Ok v)
    both_adds q a b c u v f g = both_eventually f g (λ n g h. bind_ok (λ u. add p (deeper p n) q b u) u g ∙ h)

    both_gives : (q : Fraction) (a b : Assertion) (c u v : run.State) (outcome : Outcome) → ((other : Outcome) → give p Possible q a c other → EndsAt u other) → ((other : Outcome) → give p Possible q b u other → EndsAt v other) → give p Possible q (Both a b) c outcome → EndsAt v outcome
    both_gives q a b c u v outcome f g (goes_on t h r) = g outcome (subst (λ z. give p Possible q b z outcome) (f (Ends t) h) r)
    both_gives q a b c u v outcome f g (is_over over h) = ended outcome over (f outcome h)
      where
        ended : (other : Outcome) → IsOver other → EndsAt u other → EndsAt v other
        ended (Ends t) over k = absurd over
        ended (FailsAt at) over k = k
        ended Stops over k = tt

    whole_produced : {scope : Scope} {i : Interpretation} {n : ℕ} {on : Going} (c : run.State) (a : Assertion) (q : Fraction) (xs ys es : run.Holdings) → xs ++ ys ≡ es →
        Eventually (λ n. add p (deeper p n) q a c ≡ Ok (run.with_holdings (added q ys (added q xs c.holdings)) c)) →
        ((outcome : Outcome) → give p Possible q a c outcome → EndsAt (run.with_holdings (added q ys (added q xs c.holdings)) c) outcome) →
        Goes means world scope i n on (run.with_holdings (added q ys (added q xs c.holdings)) c) → Produced scope i n on c a q es
    whole_produced {scope = scope} {i = i} {n = n} {on = on} c a q xs ys es e k g h =
        let same : added q ys (added q xs c.holdings) ≡ added q es c.holdings = sym (added_append q xs ys c.holdings) ∙ ap (λ zs. added q zs c.holdings) e in
        record {
          adds = subst (λ hs. Eventually (λ n. add p (deeper p n) q a c ≡ Ok (run.with_holdings hs c))) same k;
          gives = λ outcome m. subst (λ hs. EndsAt (run.with_holdings hs c) outcome) same (g outcome m);
          goes = subst (λ hs. Goes means world scope i n on (run.with_holdings hs c)) same h;
        }

    -- Marks

    -- t is marked as s is, or that says nothing
    abbrev MarkedAs : rules.State → rules.State → Type 0
    MarkedAs s t = (t.inner ≡ s.inner) ⊎ Unrooted applying.marks

    all_anywhere : Unrooted applying.marks → MayMark applying.marks → (h : run.Heap) (es : run.Holdings) → AllInner p good h applying.marks es
    all_anywhere free may h [] = tt
    all_anywhere free may h (x ∷ xs) = (inner_anywhere p applying.marks free may h x.0, all_anywhere free may h xs)

    inner_there : {scope : Scope} {i : Interpretation} {c : run.State} (s t : rules.State) (h : run.Heap) (es : run.Holdings) → MarkedAs s t → Stands means world scope i t c → (s.inner ≡ true → AllInner p good h applying.marks es) → t.inner ≡ true → AllInner p good h applying.marks es
    inner_there s t h es (inl same) st k e = k (sym same ∙ e)
    inner_there s t h es (inr free) st k e = all_anywhere free (st.marked e) h es

    -- what follows, and how what is cleared of it is marked
    record Following (s : rules.State) (after : Going) (Reaches : Going → Type 0) : Type 0 where
      going : Going
      reaches : Reaches going
      back : (t : rules.State) → Cleared (going t) → MarkedAs s t × Cleared (after t)

    -- behind a part
    following : (a : Assertion) → KeepsMarks a → (scale : Term) (snapshot : Option Term) (s : rules.State) (after : Going) → Cleared (produce p o a scale snapshot s after) → Following s after (λ on. Cleared (produce p o a scale snapshot s on))
    following a (inl (keeps, pl)) scale snapshot s after w = record {
      going = as_marked s after;
      reaches = produce_kept p good o keeps a pl scale snapshot s after (as_marked s after) (marked_on s after) w;
      back = λ t c. let z = marked_back s after t c in (inl z.0, z.1);
    }
    following a (inr free) scale snapshot s after w = record { going = after; reaches = w; back = λ t c. (inr free, c) }

    -- on the sides of a condition
    record Sides (d : Expr) (s : rules.State) (left right : Going) : Type 0 where
      on_left : Going
      on_right : Going
      reaches : Cleared (eval p o d s (λ t s1. fork t s1 on_left on_right))
      back_left : (t : rules.State) → Cleared (on_left t) → MarkedAs s t × Cleared (left t)
      back_right : (t : rules.State) → Cleared (on_right t) → MarkedAs s t × Cleared (right t)

    sides : (d : Expr) → (Keeps × IsPlain d) ⊎ Unrooted applying.marks → (s : rules.State) (left right : Going) → Cleared (eval p o d s (λ t s1. fork t s1 left right)) → Sides d s left right
    sides d (inl (keeps, pl)) s left right w = record {
      on_left = as_marked s left;
      on_right = as_marked s right;
      reaches = left_kept p good o keeps d pl s left right (as_marked s left) (as_marked s right) (marked_on s left) (marked_on s right) w;
      back_left = λ t c. let z = marked_back s left t c in (inl z.0, z.1);
      back_right = λ t c. let z = marked_back s right t c in (inl z.0, z.1);
    }
    sides d (inr free) s left right w = record { on_left = left; on_right = right; reaches = w; back_left = λ t c. (inr free, c); back_right = λ t c. (inr free, c) }

    -- so of the parts of a pair, and of conditions
    first_marks : (a b : Assertion) → KeepsMarks (Both a b) → KeepsMarks a
    first_marks a b (inl (keeps, pl)) = inl (keeps, pl.0)
    first_marks a b (inr free) = inr free

    second_marks : (a b : Assertion) → KeepsMarks (Both a b) → KeepsMarks b
    second_marks a b (inl (keeps, pl)) = inl (keeps, pl.1)
    second_marks a b (inr free) = inr free

    both_produced : (q : Fraction) (a b : Assertion) → ProducedGoes q a → ProducedGoes q b → ProducedGoes q (Both a b)
    unfolding ProducedGoes
    both_produced q a b on_a on_b marks scope c m es t k pl en holds i s scale snapshot on sn sc st mk w =
        whole_produced c (Both a b) q x.it y.it es whole
        (both_adds q a b c middle (run.with_holdings (added q y.it (added q x.it c.holdings)) c) r.adds z.adds)
        (λ outcome g. both_gives q a b c middle (run.with_holdings (added q y.it (added q x.it c.holdings)) c) outcome r.gives z.gives g)
        (goes_after means world first z.goes)
      where
        x : After (asking_entries p (applications p m) c a) (λ xs. option_and_then (λ ys. Some (xs ++ ys)) (asking_entries p (applications p m) c b)) es
        x = came (asking_entries p (applications p m) c a) (λ xs. option_and_then (λ ys. Some (xs ++ ys)) (asking_entries p (applications p m) c b)) es en

        y : After (asking_entries p (applications p m) c b) (λ ys. Some (x.it ++ ys)) es
        y = came (asking_entries p (applications p m) c b) (λ ys. Some (x.it ++ ys)) es x.then

        whole : x.it ++ y.it ≡ es
        whole = same_Some (x.it ++ y.it) es y.then

        middle : run.State
        middle = run.with_holdings (added q x.it c.holdings) c

        all_there : HoldsInstances p Held bounded c.heap (added q y.it (added q x.it c.holdings))
        all_there = subst (HoldsInstances p Held bounded c.heap) (sym (sym (added_append q x.it y.it c.holdings) ∙ ap (λ zs. added q zs c.holdings) whole)) holds

        half : HoldsInstances p Held bounded c.heap (added q x.it c.holdings)
        half = fewer p good Held bounded c.heap q y.it (added q x.it c.holdings) sc.positive (asking_positive p (applications p m) c b y.it pl.1 y.is)
            (added_debts p good Held bounded q x.it c.holdings sc.positive (asking_positive p (applications p m) c a x.it pl.0 x.is) st.holds.debts) all_there

        two : Split scope i s c a b snapshot
        two = split a b snapshot st sn

        after : Going
        after s1 = produce p o b scale (right_part snapshot) s1 on

        inner : s.inner ≡ true → AllInner p good c.heap applying.marks x.it × AllInner p good c.heap applying.marks y.it
        inner e = inner_parts p good c.heap applying.marks x.it y.it (subst (AllInner p good c.heap applying.marks) (sym whole) (mk e))

        split_is : (with_split snapshot s).inner ≡ s.inner
        split_is = split_marks snapshot s

        f : Following (with_split snapshot s) (λ s1. produce p o b scale (right_part snapshot) s1 on) (λ on. Cleared (produce p o a scale (left_part snapshot) (with_split snapshot s) on))
        f = following a (first_marks a b marks) scale (left_part snapshot) (with_split snapshot s) after w

        r : Produced scope i (with_split snapshot s).next f.going c a q x.it
        r = on_a (first_marks a b marks) scope c m x.it t.0 k.0 pl.0 x.is half i (with_split snapshot s) scale (left_part snapshot) f.going (subst (λ n. IsSnapshotOf n i c a (left_part snapshot)) (sym two.next_is) two.left)
            (subst (λ n. ScaleStands means world n i scale q) (sym two.next_is) sc) two.stands (λ e. (inner (sym split_is ∙ e)).0) f.reaches

        first : Goes means world scope i s.next f.going (run.with_holdings (added q x.it c.holdings) c)
        first = subst (λ n. Goes means world scope i n f.going (run.with_holdings (added q x.it c.holdings) c)) two.next_is r.goes

        then : MarkedAs (with_split snapshot s) first.state × Cleared (produce p o b scale (right_part snapshot) first.state on)
        then = f.back first.state first.cleared

        z : Produced scope first.interp first.state.next on (run.with_holdings (added q x.it c.holdings) c) b q y.it
        z = on_b (second_marks a b marks) scope (run.with_holdings (added q x.it c.holdings) c) m y.it t.1 k.1 pl.1 (held_entries p m (added q x.it c.holdings) c b pl.1 ∙ y.is) all_there first.interp first.state scale (right_part snapshot) on
            (snapshot_as first.state.next first.interp c (added q x.it c.holdings) b b (right_part snapshot) (λ m f t h. held_tree p m (added q x.it c.holdings) c f b ∙ h)
            (snapshot_later s.next first.state.next i first.interp c b (right_part snapshot) first.later first.extends two.right))
            (scale_later means world first.later first.extends sc) first.stands
            (inner_there (with_split snapshot s) first.state c.heap y.it then.0 first.stands (λ e. (inner (sym split_is ∙ e)).1)) then.1

    -- the side that a condition picks
    pub record Picked (scope : Scope) (i : Interpretation) (s : rules.State) (left right : Going) (c : run.State) (d : Expr) : Type 0 where
      pub test : Bool
      pub goes : Goes means world scope i s.next (cond test left right) c
      pub fits : Fits p c d (BoolValue test)

    pub picked : {scope : Scope} {i : Interpretation} {s : rules.State} {c : run.State} (d : Expr) (left right : Going) → HasType p scope d type.Bool → Speaks Held applying.Applied d → Stands means world scope i s c →
        Cleared (eval p o d s (λ t s1. fork t s1 left right)) → Picked scope i s left right c d
    picked {c = c} d left right t k st w =
        let r = eval_goes means world o parts t k (λ t s1. fork t s1 left right) st w in
        let b = as_bool (element r.result) in
        let is : r.result ≡ BoolValue b = bool_value_is r.result r.typed in
        record {
          test = b;
          goes = goes_after means world (reached means world r) (forked means world r.term left right r.stands r.good r.cleared b (ap as_bool r.value_is));
          fits = eventually r.fits (λ n g. g ∙ ap Ok is);
        }

    condition_marks : (d : Expr) (a : Assertion) → KeepsMarks (Implied d a) → (Keeps × IsPlain d) ⊎ Unrooted applying.marks
    condition_marks d a (inl (keeps, pl)) = inl (keeps, pl.0)
    condition_marks d a (inr free) = inr free

    implied_marks : (d : Expr) (a : Assertion) → KeepsMarks (Implied d a) → KeepsMarks a
    implied_marks d a (inl (keeps, pl)) = inl (keeps, pl.1)
    implied_marks d a (inr free) = inr free

    implied_produced : (q : Fraction) (d : Expr) (a : Assertion) → ProducedGoes q a → ProducedGoes q (Implied d a)
    unfolding ProducedGoes
    implied_produced q d a on_a marks scope c m es t k pl en holds i s scale snapshot on sn sc st mk w = go picks.test picks.goes picks.fits
      where
        left : Going
        left s2 = produce p o a scale snapshot s2 on

        right : Going
        right s2 = on (with_unit snapshot s2)

        f : Sides d s left right
        f = sides d (condition_marks d a marks) s left right w

        picks : Picked scope i s f.on_left f.on_right c d
        picks = picked d f.on_left f.on_right t.0 k.0 st f.reaches

        entries_are : (b : Bool) → Fits p c d (BoolValue b) → plain.choose (BoolValue b) (asking_entries p (applications p m) c a) (Some []) ≡ Some es
        entries_are b e = read_of p c d (BoolValue b) e m (λ v. plain.choose v (asking_entries p (applications p m) c a) (Some [])) es en

        tree_is : (b : Bool) → Fits p c d (BoolValue b) → (m : ℕ) (f : run.Instance → Option Tree) (t : Tree) → asking_tree p (applications p m) f c (Implied d a) ≡ Some t → plain.choose (BoolValue b) (asking_tree p (applications p m) f c a) (Some Empty) ≡ Some t
        tree_is b e m f t h = read_of p c d (BoolValue b) e m (λ v. plain.choose v (asking_tree p (applications p m) f c a) (Some Empty)) t h

        adds_by : (b : Bool) (u : run.State) → Fits p c d (BoolValue b) → Eventually (λ n. choose (place_of d) (BoolValue b) (add p (deeper p n) q a c) (Ok c) ≡ Ok u) → Eventually (λ n. add p (deeper p n) q (Implied d a) c ≡ Ok u)
        adds_by b u f g = both_eventually f g (λ n f g. bind_ok (λ v. choose (place_of d) v (add p (deeper p n) q a c) (Ok c)) (BoolValue b) f ∙ g)

        gives_by : (b : Bool) (u : run.State) → Fits p c d (BoolValue b) → (outcome : Outcome) → (when b (give p Possible q a c) (ends c) outcome → EndsAt u outcome) → give p Possible q (Implied d a) c outcome → EndsAt u outcome
        gives_by b u f outcome g (passes x h rest) = g (subst (λ v. side v (give p Possible q a c) (ends c) outcome) (one_answer x (BoolValue b) h f) rest)
        gives_by b u f outcome g (refused at h e) = no_refusal (BoolValue b) at f h

        go : (b : Bool) → Goes means world scope i s.next (cond b f.on_left f.on_right) c → Fits p c d (BoolValue b) → Produced scope i s.next on c (Implied d a) q es
        go true g e =
            let z = f.back_left g.state g.cleared in
            let r = on_a (implied_marks d a marks) scope c m es t.1 k.1 pl.1 (entries_are true e) holds g.interp g.state scale snapshot on
            (snapshot_as g.state.next g.interp c c.holdings (Implied d a) a snapshot (tree_is true e) (snapshot_later s.next g.state.next i g.interp c (Implied d a) snapshot g.later g.extends sn))
            (scale_later means world g.later g.extends sc) g.stands (inner_there s g.state c.heap es z.0 g.stands mk) z.1 in
            record {
              adds = adds_by true (run.with_holdings (added q es c.holdings) c) e r.adds;
              gives = λ outcome h. gives_by true (run.with_holdings (added q es c.holdings) c) e outcome (r.gives outcome) h;
              goes = goes_after means world g r.goes;
            }
        go false g e =
            none_produced c (Implied d a) q es (same_Some [] es (entries_are false e)) (adds_by false c e (always (λ n. refl))) (λ outcome h. gives_by false c e outcome (ends_at c outcome) h) record {
              interp = g.interp;
              state = with_unit snapshot g.state;
              extends = g.extends;
              later = subst (λ n. s.next ≤ n) (sym (next_unit snapshot g.state)) g.later;
              stands = unit_stands (Implied d a) snapshot g.stands (snapshot_later s.next g.state.next i g.interp c (Implied d a) snapshot g.later g.extends sn) (λ m f t h. sym (same_Some Empty t (tree_is false e m f t h)));
              cleared = (f.back_right g.state g.cleared).1;
            }

    chosen_marks : (d : Expr) (a b : Assertion) → KeepsMarks (Chosen d a b) → (Keeps × IsPlain d) ⊎ Unrooted applying.marks
    chosen_marks d a b (inl (keeps, pl)) = inl (keeps, pl.0)
    chosen_marks d a b (inr free) = inr free

    left_marks : (d : Expr) (a b : Assertion) → KeepsMarks (Chosen d a b) → KeepsMarks a
    left_marks d a b (inl (keeps, pl)) = inl (keeps, pl.1)
    left_marks d a b (inr free) = inr free

    right_marks : (d : Expr) (a b : Assertion) → KeepsMarks (Chosen d a b) → KeepsMarks b
    right_marks d a b (inl (keeps, pl)) = inl (keeps, pl.2)
    right_marks d a b (inr free) = inr free

    chosen_produced : (q : Fraction) (d : Expr) (a b : Assertion) → ProducedGoes q a → ProducedGoes q b → ProducedGoes q (Chosen d a b)
    unfolding ProducedGoes
    chosen_produced q d a b on_a on_b marks scope c m es t k pl en holds i s scale snapshot on sn sc st mk w = go picks.test picks.goes picks.fits
      where
        left : Going
        left s2 = produce p o a scale snapshot s2 on

        right : Going
        right s2 = produce p o b scale snapshot s2 on

        f : Sides d s left right
        f = sides d (chosen_marks d a b marks) s left right w

        picks : Picked scope i s f.on_left f.on_right c d
        picks = picked d f.on_left f.on_right t.0 k.0 st f.reaches

        entries_are : (z : Bool) → Fits p c d (BoolValue z) → plain.choose (BoolValue z) (asking_entries p (applications p m) c a) (asking_entries p (applications p m) c b) ≡ Some es
        entries_are z e = read_of p c d (BoolValue z) e m (λ v. plain.choose v (asking_entries p (applications p m) c a) (asking_entries p (applications p m) c b)) es en

        tree_is : (z : Bool) → Fits p c d (BoolValue z) → (m : ℕ) (f : run.Instance → Option Tree) (t : Tree) → asking_tree p (applications p m) f c (Chosen d a b) ≡ Some t →
            plain.choose (BoolValue z) (asking_tree p (applications p m) f c a) (asking_tree p (applications p m) f c b) ≡ Some t
        tree_is z e m f t h = read_of p c d (BoolValue z) e m (λ v. plain.choose v (asking_tree p (applications p m) f c a) (asking_tree p (applications p m) f c b)) t h

        adds_by : (z : Bool) (u : run.State) → Fits p c d (BoolValue z) → Eventually (λ n. choose (place_of d) (BoolValue z) (add p (deeper p n) q a c) (add p (deeper p n) q b c) ≡ Ok u) → Eventually (λ n. add p (deeper p n) q (Chosen d a b) c ≡ Ok u)
        adds_by z u f g = both_eventually f g (λ n f g. bind_ok (λ v. choose (place_of d) v (add p (deeper p n) q a c) (add p (deeper p n) q b c)) (BoolValue z) f ∙ g)

        gives_by : (z : Bool) (u : run.State) → Fits p c d (BoolValue z) → (outcome : Outcome) → (when z (give p Possible q a c) (give p Possible q b c) outcome → EndsAt u outcome) → give p Possible q (Chosen d a b) c outcome → EndsAt u outcome
        gives_by z u f outcome g (passes x h rest) = g (subst (λ v. side v (give p Possible q a c) (give p Possible q b c) outcome) (one_answer x (BoolValue z) h f) rest)
        gives_by z u f outcome g (refused at h e) = no_refusal (BoolValue z) at f h

        go : (z : Bool) → Goes means world scope i s.next (cond z f.on_left f.on_right) c → Fits p c d (BoolValue z) → Produced scope i s.next on c (Chosen d a b) q es
        go true g e =
            let y = f.back_left g.state g.cleared in
            let r = on_a (left_marks d a b marks) scope c m es t.1 k.1 pl.1 (entries_are true e) holds g.interp g.state scale snapshot on
            (snapshot_as g.state.next g.interp c c.holdings (Chosen d a b) a snapshot (tree_is true e) (snapshot_later s.next g.state.next i g.interp c (Chosen d a b) snapshot g.later g.extends sn))
            (scale_later means world g.later g.extends sc) g.stands (inner_there s g.state c.heap es y.0 g.stands mk) y.1 in
            record {
              adds = adds_by true (run.with_holdings (added q es c.holdings) c) e r.adds;
              gives = λ outcome h. gives_by true (run.with_holdings (added q es c.holdings) c) e outcome (r.gives outcome) h;
              goes = goes_after means world g r.goes;
            }
        go false g e =
            let y = f.back_right g.state g.cleared in
            let r = on_b (right_marks d a b marks) scope c m es t.2 k.2 pl.2 (entries_are false e) holds g.interp g.state scale snapshot on
            (snapshot_as g.state.next g.interp c c.holdings (Chosen d a b) b snapshot (tree_is false e) (snapshot_later s.next g.state.next i g.interp c (Chosen d a b) snapshot g.later g.extends sn))
            (scale_later means world g.later g.extends sc) g.stands (inner_there s g.state c.heap es y.0 g.stands mk) y.1 in
            record {
              adds = adds_by false (run.with_holdings (added q es c.holdings) c) e r.adds;
              gives = λ outcome h. gives_by false (run.with_holdings (added q es c.holdings) c) e outcome (r.gives outcome) h;
              goes = goes_after means world g r.goes;
            }

    produces : (q : Fraction) (a : Assertion) → ProducedGoes q a
    produces q (Pure e) = pure_produced q e
    produces q (Points at e f share) = points_produced q at e f share
    produces q (syntax.Instance at x es share) = instance_produced q at x es share
    produces q (Both a b) = both_produced q a b (produces q a) (produces q b)
    produces q (Implied d a) = implied_produced q d a (produces q a)
    produces q (Chosen d a b) = chosen_produced q d a b (produces q a) (produces q b)

    -- the whole assertion
    pub produced : (q : Fraction) (a : Assertion) → KeepsMarks a → (scope : Scope) (c : run.State) (m : ℕ) (es : run.Holdings) → IsTyped p scope a → SpeaksOf Held applying.Applied a → IsAsking p a →
        asking_entries p (applications p m) c a ≡ Some es → HoldsInstances p Held bounded c.heap (added q es c.holdings) →
        (i : Interpretation) (s : rules.State) (scale : Term) (snapshot : Option Term) (on : Going) → IsSnapshotOf s.next i c a snapshot → ScaleStands means world s.next i scale q → Stands means world scope i s c → (s.inner ≡ true → AllInner p good c.heap applying.marks es) →
        Cleared (produce p o a scale snapshot s on) → Produced scope i s.next on c a q es
    unfolding ProducedGoes
    produced q a = produces q a

    -- a body, whose entries are read with nothing applied
    pub plain_produced : Keeps → (q : Fraction) (a : Assertion) (scope : Scope) (c : run.State) (es : run.Holdings) → IsTyped p scope a → SpeaksOf Held applying.Applied a → IsPlainBody p Rigid a → entries p c a ≡ Some es → HoldsInstances p Held bounded c.heap (added q es c.holdings) →
        (i : Interpretation) (s : rules.State) (scale : Term) (snapshot : Option Term) (on : Going) → IsSnapshotOf s.next i c a snapshot → ScaleStands means world s.next i scale q → Stands means world scope i s c → (s.inner ≡ true → AllInner p good c.heap applying.marks es) →
        Cleared (produce p o a scale snapshot s on) → Produced scope i s.next on c a q es
    plain_produced keeps q a scope c es t k pl en = produced q a (inl (keeps, pl)) scope c 0 es t k (plain_asks p a pl) (same_entries p (applications p 0) c a pl ∙ en)
