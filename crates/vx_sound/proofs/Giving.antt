-- What putting a fresh chunk, and locating and taking a permission, lead to.
use Rattle.std.proofs.Common.{◌≡◌, ℕ, suc, pos, ◌≤◌, Bool, true, false, not, cond, ◌⊎◌, inl, inr, List, Some, refl, sym, ◌∙◌, ap, ap₂, subst, le_refl, le_trans, le_of_lt, lt-suc_self, true≢false}
use Rattle.std.specs.Prelude.{Ok}
use Rattle.vx_frac.specs.Fractions.{Fraction, none, full, at_most, sum, product}
use Rattle.vx_ast.specs.declared.Place.{Place}
use Rattle.vx_ast.specs.declared.ValueType.TheVariants.{Perm}
use Rattle.vx_ast.specs.declared.ValueType.TheVariants as type
use Rattle.vx_ast.specs.Syntax.{Name, Program, Predicate, predicate_named, Expr, Exprs}
use Rattle.vx_meaning.specs.Values.{Value, RefValue, PermValue}
use Rattle.vx_meaning.specs.States as run
use Rattle.vx_meaning.specs.Fits.{Checked, ◌>>=◌, or_fail, guard, Eventually, fit_by, fit_all, field_part, instance_part, deeper}
use Rattle.vx_meaning.specs.Fits as fits
use Rattle.vx_terms.specs.Sorts.{Sort, RealSort}
use Rattle.vx_terms.specs.Terms.{Term, same}
use Rattle.vx_terms.specs.Build.{equals, less_equal, multiply, zero_amount, whole_amount}
use Rattle.vx_terms.specs.Interpretations.{Interpretation, Element, IntElement, TreeElement, Empty, as_fraction, IsOf, value, IsTrueIn}
use Rattle.vx_rules.specs.States as rules
use Rattle.vx_rules.specs.Trees.{Code, Tree, AmountCode}
use Rattle.vx_rules.specs.Chunks.{field_key, Candidate, chosen, reduced, put_over, put, candidates, holds_amount, put_facts}
use Rattle.vx_rules.specs.Rules.{Going, Outer, ask, placed, eval, evals, field_sort, leads_inside, first_with, take_fresh, take_chunk}
use Rattle.vx_types.specs.Typing.{Scope, HasType, HaveTypes}
use Rattle.vx_sound.proofs.Marks.{InnerAt, LeadsAt}
use Rattle.vx_sound.proofs.World.{at_field, World}
use Rattle.vx_sound.proofs.Standard.{IsWritten, variable_written}
use Rattle.vx_sound.proofs.Speaks.{Speaks, AllSpeak}
use Rattle.vx_sound.proofs.Passes.{Cleared}
use Rattle.vx_elements.proofs.Settled.{Meaning, Extends, extends-refl, extends-trans, with_symbol, symbol_extends, value_kept, fresh_value}
use Rattle.vx_elements.proofs.Built.{Good, good_later, good_equals}
use Rattle.vx_elements.proofs.Elements.{element, element_is}
use Rattle.vx_elements.proofs.Eventually.{eventually, both_eventually}
use Rattle.vx_amounts.proofs.Amounts.{Le, Positive, Same, same-refl, full-positive, le-trans, same-trans, same-lowest', product_same, unscaled, above-add, positive-or, positive-le, not-positive}
use Rattle.vx_elements.proofs.Truth.{equal_is, true_le, good_zero, good_whole, good_at_most, good_product, multiply_is}
use Rattle.vx_sound.proofs.Stands.{amount_of, IsThere, content_sort, HeapStands, terms_later, Stands, stands_later, next_after_facts}
use Rattle.vx_elements.proofs.Values.{ref_value_is, perm_value_is, value_typed, sort_of_field}
use Rattle.vx_sound.proofs.Chunks.{leads_at, resource_same, held_sign, taken_apart, chunk_held, reduced_stands, lowered_by_none}
use Rattle.vx_sound.proofs.Candidates.{FirstWith, first_one, InstanceTerms, Keys, of_field, of_instance, keys_later, keys_typed, Keyed, keyed, good_amount, amount_is}
use Rattle.vx_sound.proofs.SumTaken.{take_one as take_location}
use Rattle.vx_sound.proofs.Puts.{stands_with_holdings, put_stands}
use Rattle.vx_sound.proofs.Goes.{cleared_case, Goes, Evaluates, asked, good_fresh}
use Rattle.vx_sound.proofs.Evaluate.{PartsGo, bind_ok, eval_goes, evals_goes}

-- the parts of a permission fit
part_fits : (p : Program) (m : ℕ) (c : run.State) (at : Place) (e : Expr) (f : Name) (share : Expr) (r v : Value) (k : ℕ) (x : Fraction) →
    fit_by p m c e ≡ Ok r → r ≡ RefValue k → fit_by p m c share ≡ Ok v → v ≡ PermValue x → at_most none x ≡ true → field_part p (deeper p m) c at e f share ≡ Ok (run.At (at_field k f), x)
part_fits p m c at e f share r v k x g gk h hx least =
    bind_ok (λ r. fit_by p m c share >>= λ v. rest r v) r g ∙ bind_ok (λ v. rest r v) v h ∙ ap₂ rest gk hx ∙ ap tested least
  where
    rest : Value → Value → Checked (run.Resource × Fraction)
    rest r v = or_fail at (fits.location_of f r) >>= λ l. or_fail at (fits.amount_of v) >>= λ q. guard at (at_most none q) >>= λ _. Ok (run.At l, q)

    tested : Bool → Checked (run.Resource × Fraction)
    tested b = guard at b >>= λ _. Ok (run.At (at_field k f), x)

-- the parts of an instance fit
instance_fits : (p : Program) (m : ℕ) (c : run.State) (at : Place) (i : Name) (es : Exprs) (share : Expr) (vs : List Value) (v : Value) (x : Fraction) →
    fit_all p (deeper p m) c es ≡ Ok vs → fit_by p m c share ≡ Ok v → v ≡ PermValue x → at_most none x ≡ true → instance_part p (deeper p m) c at i es share ≡ Ok (run.Folded record { predicate = i; arguments = vs }, x)
instance_fits p m c at i es share vs v x g h hx least =
    bind_ok (λ vs. fit_by p m c share >>= λ v. rest vs v) vs g ∙ bind_ok (λ v. rest vs v) v h ∙ ap (rest vs) hx ∙ ap tested least
  where
    rest : List Value → Value → Checked (run.Resource × Fraction)
    rest vs v = or_fail at (fits.amount_of v) >>= λ q. guard at (at_most none q) >>= λ _. Ok (run.Folded record { predicate = i; arguments = vs }, q)

    tested : Bool → Checked (run.Resource × Fraction)
    tested b = guard at b >>= λ _. Ok (run.Folded record { predicate = i; arguments = vs }, x)

abbrev pub IsInstance : run.Resource → Type 0
IsInstance (run.At l) = ⊥
IsInstance (run.Folded k) = Unit {0}

module _ (means : Meaning) (world : World) where
  abbrev p : Program
  p = world.program

  pub next_after_put : (new : rules.Chunk) (s : rules.State) → (put new s).next ≡ s.next
  next_after_put new s = go (same new.amount zero_amount)
    where
      go : (b : Bool) → (let r : rules.State = cond b s (rules.with_facts (put_facts (not (rules.is_quiet s)) s.bounded new s.heap) (rules.with_heap (put_over (chosen true new 0 s.heap) new s.heap) s)) in r.next) ≡ s.next
      go true = refl
      go false = next_after_facts means world (put_facts (not (rules.is_quiet s)) s.bounded new s.heap) (rules.with_heap (put_over (chosen true new 0 s.heap) new s.heap) s)

  -- a scale above none
  pub record ScaleStands (n : ℕ) (i : Interpretation) (scale : Term) (q : Fraction) : Type 0 where
    pub good : Good means n i scale RealSort
    pub is : Same (as_fraction (value i scale)) q
    pub positive : Positive q

  pub scale_later : {m n : ℕ} {i j : Interpretation} {scale : Term} {q : Fraction} → m ≤ n → Extends means m i j → ScaleStands m i scale q → ScaleStands n j scale q
  scale_later {scale = scale} {q = q} le x k = record { good = good_later means le x k.good; is = subst (λ e. Same (as_fraction e) q) (sym (value_kept means scale k.good.settled x)) k.is; positive = k.positive }

  -- the whole as a scale
  pub whole_scale : (n : ℕ) (i : Interpretation) → ScaleStands n i whole_amount full
  whole_scale n i = record { good = good_whole means; is = same-refl full; positive = full-positive }

  -- an element for what is there, where an amount of it is held
  record Found (heap : run.Heap) (r : run.Resource) (b : Sort) (a : Fraction) : Type 0 where
    pub element : Element
    pub of_sort : IsOf b element
    pub there : Positive a → IsThere p heap r element

  found : {n : ℕ} {i : Interpretation} {key : rules.Chunk} {r : run.Resource} {b : Sort} → Keys means world n i key r b → (heap : run.Heap) (hs : run.Holdings) → world.Holds heap hs → (a : Fraction) → Le a (run.amount hs r) → Found heap r b a
  found (of_field f r k g e) heap hs holds a le = record {
    element = element (run.value_at p heap (at_field k f));
    of_sort = subst (λ x. IsOf x (element (run.value_at p heap (at_field k f)))) (sym (sort_of_field p f ∙ ap rules.sort_of_type (sym (value_typed p heap (at_field k f))))) (element_is (run.value_at p heap (at_field k f)));
    there = λ h. refl;
  }
  found (of_instance x ts vs k) heap hs holds a le =
      let o : run.Instance = record { predicate = x; arguments = vs } in
      positive-or (run.amount hs (run.Folded o))
      (λ pos.
      let t = world.tree heap hs o holds (keys_typed means world (of_instance x ts vs k)) pos in
      record { element = TreeElement t.0; of_sort = tt; there = λ h. (t.0, t.1, refl) })
      (λ z. record { element = TreeElement Empty; of_sort = tt; there = λ h. absurd (not-positive h (le-trans le z)) })

  -- what is put is held
  pub gained_enough : {n : ℕ} {i : Interpretation} {chunks : rules.Heap} {heap : run.Heap} {hs : run.Holdings} (r : run.Resource) (a q : Fraction) → HeapStands means world n i chunks heap hs → Same a q → Le a (run.amount (run.gained r q hs) r)
  gained_enough {n = n} {i = i} {chunks = chunks} {heap = heap} {hs = hs} r a q st s =
      let sign : Le none (run.amount hs r) = le-trans (held_sign means world n i heap chunks r st.each) (st.sums r) in
      subst (λ b. Le a (cond b (sum q (run.amount hs r)) (run.amount hs r))) (sym (resource_same r)) (le-trans s.there (above-add q (run.amount hs r) sign))

  -- a chunk with a fresh value
  pub put_fresh : {scope : Scope} {i : Interpretation} {s : rules.State} {c : run.State} {key : rules.Chunk} {r : run.Resource} {b : Sort} (keys : Keys means world s.next i key r b) (a : Term) (q : Fraction) (inner : Bool) (on : Going) →
      Stands means world scope i s c → Good means s.next i a RealSort → Same (as_fraction (value i a)) q → Le none (as_fraction (value i a)) → world.Holds c.heap (run.gained r q c.holdings) → (inner ≡ true → InnerAt p world.marks c.heap r) →
      Cleared (on (put (record key { amount = a; value = rules.fresh b s; inner = inner }) (rules.after_fresh s))) →
      Goes means world scope i s.next on (run.with_holdings (run.gained r q c.holdings) c)
  put_fresh {scope = scope} {i = i} {s = s} {c = c} {key = key} {r = r} {b = b} keys a q inner on st ga same_q sign holds marked h =
      record {
        interp = j;
        state = put new (rules.after_fresh s);
        extends = ext;
        later = subst (λ m. s.next ≤ m) (sym (next_after_put new (rules.after_fresh s))) le;
        stands = put_stands means world new r q (stands_later means world (suc s.next) le ext st) made (subst (λ e. Same (as_fraction e) q) (sym a_kept) same_q) holds;
        cleared = h;
      }
    where
      f : Found c.heap r b (as_fraction (value i a))
      f = found keys c.heap (run.gained r q c.holdings) holds (as_fraction (value i a)) (gained_enough r (as_fraction (value i a)) q st.heap same_q)

      j : Interpretation
      j = with_symbol means i s.next f.element

      ext : Extends means s.next i j
      ext = symbol_extends means i s.next f.element

      le : s.next ≤ suc s.next
      le = le_of_lt (lt-suc_self s.next)

      new : rules.Chunk
      new = record key { amount = a; value = rules.fresh b s; inner = inner }

      a_kept : value j a ≡ value i a
      a_kept = value_kept means a ga.settled ext

      made : Keyed means world (suc s.next) j c.heap r (record key { amount = a; value = rules.fresh b s; inner = inner })
      made = keyed means world (keys_later means world le ext keys) a (rules.fresh b s) inner (good_later means le ext ga) (subst (λ e. Le none (as_fraction e)) (sym a_kept) sign) (good_fresh means world i s.next f.element b)
          (λ e. variable_written s.next b)
          (λ k. subst (IsThere p c.heap r) (sym (fresh_value means i s.next f.element b f.of_sort)) (f.there (subst (λ e. Positive (as_fraction e)) a_kept k)))
          marked

  module _ (o : Outer) (parts : PartsGo means world o) where
    -- the amount of a permission, scaled, which is at least none
    record Scaled (scope : Scope) (i : Interpretation) (n : ℕ) (scale : Term) (on : Term → Going) (c : run.State) (share : Expr) (q : Fraction) : Type 0 where
      pub interp : Interpretation
      pub state : rules.State
      pub term : Term
      pub fraction : Fraction
      pub extends : Extends means n i interp
      pub later : n ≤ state.next
      pub stands : Stands means world scope interp state c
      pub amount_good : Good means state.next interp (multiply scale term) RealSort
      pub amount_is : Same (as_fraction (value interp (multiply scale term))) (product q fraction)
      pub sign : Le none (as_fraction (value interp (multiply scale term)))
      pub fits : Eventually (λ m. fit_by p m c share ≡ Ok (PermValue fraction))
      pub least : Le none fraction
      pub cleared : Cleared (on (multiply scale term) state)

    scaled : {scope : Scope} {share : Expr} {i : Interpretation} {s : rules.State} {c : run.State} (at : Place) (scale : Term) (q : Fraction) (on : Term → Going) →
        HasType p scope share Perm → Speaks world.Held world.Applied share → ScaleStands s.next i scale q → Stands means world scope i s c →
        Cleared (eval p o share s (λ a s2. ask (less_equal zero_amount (multiply scale a)) (placed s2 at) AmountCode s2 (on (multiply scale a)))) → Scaled scope i s.next scale on c share q
    scaled {scope = scope} {share = share} {i = i} {s = s} {c = c} at scale q on ts ks sc st h =
        record {
          interp = w.interp;
          state = w.state;
          term = a.term;
          fraction = x.0;
          extends = extends-trans means a.later a.extends w.extends;
          later = le_trans a.later w.later;
          stands = w.stands;
          amount_good = good_later means w.later w.extends gm;
          amount_is = subst (λ e. Same (as_fraction e) (product q x.0)) (sym m_kept) m_is;
          sign = subst (λ e. Le none (as_fraction e)) (sym m_kept) m_sign;
          fits = eventually a.fits (λ m g. g ∙ ap Ok x.1);
          least = unscaled q x.0 sc.positive (le-trans m_sign m_is.there);
          cleared = w.cleared;
        }
      where
        a : Evaluates means world scope i s.next (λ a s2. ask (less_equal zero_amount (multiply scale a)) (placed s2 at) AmountCode s2 (on (multiply scale a))) c share Perm
        a = eval_goes means world o parts ts ks (λ a s2. ask (less_equal zero_amount (multiply scale a)) (placed s2 at) AmountCode s2 (on (multiply scale a))) st h

        sc' : ScaleStands a.state.next a.interp scale q
        sc' = scale_later a.later a.extends sc

        gm : Good means a.state.next a.interp (multiply scale a.term) RealSort
        gm = good_product means sc'.good a.good

        x : (b : Fraction) × (a.result ≡ PermValue b)
        x = perm_value_is a.result a.typed

        w' : IsTrueIn a.interp (less_equal zero_amount (multiply scale a.term)) × Goes means world scope a.interp a.state.next (on (multiply scale a.term)) c
        w' = asked means world (less_equal zero_amount (multiply scale a.term)) (placed a.state at) AmountCode (on (multiply scale a.term)) a.stands (good_at_most means (good_zero means) gm) a.cleared

        w : Goes means world scope a.interp a.state.next (on (multiply scale a.term)) c
        w = w'.1

        m_kept : value w.interp (multiply scale a.term) ≡ value a.interp (multiply scale a.term)
        m_kept = value_kept means (multiply scale a.term) gm.settled w.extends

        m_sign : Le none (as_fraction (value a.interp (multiply scale a.term)))
        m_sign = let z : Good means a.state.next a.interp zero_amount RealSort = good_zero means in true_le means (multiply scale a.term) z w'.0

        x_is : Same (as_fraction (value a.interp a.term)) x.0
        x_is = subst (λ e. Same (as_fraction e) x.0) (sym (a.value_is ∙ ap element x.1)) (same-lowest' x.0)

        m_is : Same (as_fraction (value a.interp (multiply scale a.term))) (product q x.0)
        m_is = same-trans (multiply_is means sc'.good a.good) (product_same sc'.is x_is)

    -- the location and the amount of a permission
    pub record Located (scope : Scope) (i : Interpretation) (n : ℕ) (on : Term → Term → Going) (c : run.State) (at : Place) (e : Expr) (f : Name) (share : Expr) (q : Fraction) : Type 0 where
      pub interp : Interpretation
      pub state : rules.State
      pub receiver : Term
      pub amount : Term
      pub reference : ℕ
      pub fraction : Fraction
      pub extends : Extends means n i interp
      pub later : n ≤ state.next
      pub stands : Stands means world scope interp state c
      pub keys : Keys means world state.next interp (field_key f receiver) (run.At (at_field reference f)) (field_sort p f)
      pub amount_good : Good means state.next interp amount RealSort
      pub amount_is : Same (as_fraction (value interp amount)) (product q fraction)
      pub sign : Le none (as_fraction (value interp amount))
      pub receiver_fits : Eventually (λ m. fit_by p m c e ≡ Ok (RefValue reference))
      pub share_fits : Eventually (λ m. fit_by p m c share ≡ Ok (PermValue fraction))
      pub part : Eventually (λ m. field_part p (deeper p m) c at e f share ≡ Ok (run.At (at_field reference f), fraction))
      pub cleared : Cleared (on receiver amount state)

    pub located : {scope : Scope} {e : Expr} {share : Expr} {i : Interpretation} {s : rules.State} {c : run.State} (at : Place) (f : Name) (scale : Term) (q : Fraction) (on : Term → Term → Going) →
        HasType p scope e type.Ref → Speaks world.Held world.Applied e → HasType p scope share Perm → Speaks world.Held world.Applied share → ScaleStands s.next i scale q → Stands means world scope i s c →
        Cleared (eval p o e s (λ r s1. eval p o share s1 (λ a s2. ask (less_equal zero_amount (multiply scale a)) (placed s2 at) AmountCode s2 (λ s3. on r (multiply scale a) s3)))) →
        Located scope i s.next on c at e f share q
    located {scope = scope} {e = e} {share = share} {i = i} {s = s} {c = c} at f scale q on te ke ts ks sc st h =
        let after = λ (r a : Term) (s2 : rules.State). ask (less_equal zero_amount (multiply scale a)) (placed s2 at) AmountCode s2 (on r (multiply scale a)) in
        let r = eval_goes means world o parts te ke (λ r s1. eval p o share s1 (after r)) st h in
        let k = ref_value_is r.result r.typed in
        let m = scaled at scale q (on r.term) ts ks (scale_later r.later r.extends sc) r.stands r.cleared in
        record {
          interp = m.interp;
          state = m.state;
          receiver = r.term;
          amount = multiply scale m.term;
          reference = k.0;
          fraction = m.fraction;
          extends = extends-trans means r.later r.extends m.extends;
          later = le_trans r.later m.later;
          stands = m.stands;
          keys = of_field f r.term k.0 (good_later means m.later m.extends r.good) (value_kept means r.term r.good.settled m.extends ∙ r.value_is ∙ ap element k.1);
          amount_good = m.amount_good;
          amount_is = m.amount_is;
          sign = m.sign;
          receiver_fits = eventually r.fits (λ n g. g ∙ ap Ok k.1);
          share_fits = m.fits;
          part = both_eventually r.fits m.fits (λ n g l. part_fits p n c at e f share r.result (PermValue m.fraction) k.0 m.fraction g k.1 l refl m.least.holds);
          cleared = m.cleared;
        }

    -- likewise of an instance
    pub record InstanceLocated (scope : Scope) (i : Interpretation) (n : ℕ) (on : List Term → Term → Going) (c : run.State) (at : Place) (x : Name) (es : Exprs) (share : Expr) (q : Fraction) : Type 0 where
      pub interp : Interpretation
      pub state : rules.State
      pub terms : List Term
      pub results : List Value
      pub amount : Term
      pub fraction : Fraction
      pub extends : Extends means n i interp
      pub later : n ≤ state.next
      pub stands : Stands means world scope interp state c
      pub keys : InstanceTerms means world state.next interp x terms results
      pub amount_good : Good means state.next interp amount RealSort
      pub amount_is : Same (as_fraction (value interp amount)) (product q fraction)
      pub sign : Le none (as_fraction (value interp amount))
      pub arguments_fit : Eventually (λ m. fit_all p (deeper p m) c es ≡ Ok results)
      pub share_fits : Eventually (λ m. fit_by p m c share ≡ Ok (PermValue fraction))
      pub part : Eventually (λ m. instance_part p (deeper p m) c at x es share ≡ Ok (run.Folded record { predicate = x; arguments = results }, fraction))
      pub cleared : Cleared (on terms amount state)

    pub instance_located : {scope : Scope} {es : Exprs} {share : Expr} {i : Interpretation} {s : rules.State} {c : run.State} (at : Place) (x : Name) (d : Predicate) (scale : Term) (q : Fraction) (on : List Term → Term → Going) →
        world.Held x → predicate_named p x ≡ Some d → HaveTypes p scope es d.parameters → AllSpeak world.Held world.Applied es → HasType p scope share Perm → Speaks world.Held world.Applied share → ScaleStands s.next i scale q → Stands means world scope i s c →
        Cleared (evals p o es s (λ ts s1. eval p o share s1 (λ a s2. ask (less_equal zero_amount (multiply scale a)) (placed s2 at) AmountCode s2 (λ s3. on ts (multiply scale a) s3)))) →
        InstanceLocated scope i s.next on c at x es share q
    instance_located {scope = scope} {es = es} {share = share} {i = i} {s = s} {c = c} at x d scale q on held named te ke ts ks sc st h =
        let after = λ (us : List Term) (a : Term) (s2 : rules.State). ask (less_equal zero_amount (multiply scale a)) (placed s2 at) AmountCode s2 (on us (multiply scale a)) in
        let r = evals_goes means world o parts te ke (λ us s1. eval p o share s1 (after us)) st h in
        let m = scaled at scale q (on r.terms) ts ks (scale_later r.later r.extends sc) r.stands r.cleared in
        record {
          interp = m.interp;
          state = m.state;
          terms = r.terms;
          results = r.results;
          amount = multiply scale m.term;
          fraction = m.fraction;
          extends = extends-trans means r.later r.extends m.extends;
          later = le_trans r.later m.later;
          stands = m.stands;
          keys = record { held = held; predicate = d; named = named; no_perm = world.proper x d held named; each = terms_later means world m.later m.extends d.parameters r.terms r.results r.each };
          amount_good = m.amount_good;
          amount_is = m.amount_is;
          sign = m.sign;
          arguments_fit = r.fits;
          share_fits = m.fits;
          part = both_eventually r.fits m.fits (λ n g l. instance_fits p n c at x es share r.results (PermValue m.fraction) m.fraction g l refl m.least.holds);
          cleared = m.cleared;
        }

  -- Taking

  pub record Taken (scope : Scope) (i : Interpretation) (n : ℕ) (on : rules.Chunk → Going) (c : run.State) (r : run.Resource) (b : Sort) (q : Fraction) : Type 0 where
    pub interp : Interpretation
    pub state : rules.State
    pub chunk : rules.Chunk
    pub extends : Extends means n i interp
    pub later : n ≤ state.next
    pub stands : Stands means world scope interp state (run.with_holdings (run.lost r q c.holdings) c)
    pub enough : Le q (run.amount c.holdings r)
    pub good : Good means state.next interp chunk.value b
    pub written : IsInstance r → IsWritten chunk.value
    pub there : Positive q → IsThere p c.heap r (value interp chunk.value)
    pub leads : leads_inside chunk ≡ true → LeadsAt p world.marks c.heap r
    pub cleared : Cleared (on chunk state)

  nothing_taken : {scope : Scope} {i : Interpretation} {s : rules.State} {c : run.State} {key : rules.Chunk} {r : run.Resource} {b : Sort} (keys : Keys means world s.next i key r b) (a : Term) (q : Fraction) (at : Place) (code : Code) (on : rules.Chunk → Going) →
      Stands means world scope i s c → Good means s.next i a RealSort → Same (as_fraction (value i a)) q → Le none (as_fraction (value i a)) →
      Cleared (ask (equals a zero_amount) at code s (λ s1. on (record key { amount = a; value = rules.fresh b s1 }) (rules.after_fresh s1))) →
      Taken scope i s.next on c r b q
  nothing_taken {scope = scope} {i = i} {s = s} {c = c} {key = key} {r = r} {b = b} keys a q at code on st ga same_q sign h =
      record {
        interp = with_symbol means g.interp g.state.next (IntElement (pos 0));
        state = rules.after_fresh g.state;
        chunk = record key { amount = a; value = rules.fresh b g.state };
        extends = extends-trans means g.later g.extends ext;
        later = le_trans g.later le;
        stands = stands_with_holdings means world g.state.heap (run.lost r q c.holdings) st'
            (lowered_by_none means world (suc g.state.next) (with_symbol means g.interp g.state.next (IntElement (pos 0))) c.heap r q zero st'.heap)
            (world.taken c.heap c.holdings r q (keys_typed means world keys) (le-trans sign same_q.there) enough st.holds);
        enough = enough;
        good = good_fresh means world g.interp g.state.next (IntElement (pos 0)) b;
        written = λ e. variable_written g.state.next b;
        there = λ k. absurd (not-positive k zero);
        leads = unmarked keys;
        cleared = g.cleared;
      }
    where
      w : IsTrueIn i (equals a zero_amount) × Goes means world scope i s.next (λ s1. on (record key { amount = a; value = rules.fresh b s1 }) (rules.after_fresh s1)) c
      w = asked means world (equals a zero_amount) at code (λ s1. on (record key { amount = a; value = rules.fresh b s1 }) (rules.after_fresh s1)) st (good_equals means ga (good_zero means)) h

      g : Goes means world scope i s.next (λ s1. on (record key { amount = a; value = rules.fresh b s1 }) (rules.after_fresh s1)) c
      g = w.1

      unmarked : {key : rules.Chunk} {r : run.Resource} {b : Sort} → Keys means world s.next i key r b → leads_inside key ≡ true → LeadsAt p world.marks c.heap r
      unmarked (of_field f r k g e) h = tt
      unmarked (of_instance x ts vs k) h = absurd (true≢false (sym h))

      zero : Le q none
      zero = subst (λ e. Le q (as_fraction e)) (equal_is i a zero_amount w.0) same_q.back

      enough : Le q (run.amount c.holdings r)
      enough = le-trans zero (le-trans (held_sign means world s.next i c.heap s.heap r st.heap.each) (st.heap.sums r))

      le : g.state.next ≤ suc g.state.next
      le = le_of_lt (lt-suc_self g.state.next)

      ext : Extends means g.state.next g.interp (with_symbol means g.interp g.state.next (IntElement (pos 0)))
      ext = symbol_extends means g.interp g.state.next (IntElement (pos 0))

      st' : Stands means world scope (with_symbol means g.interp g.state.next (IntElement (pos 0))) (rules.after_fresh g.state) c
      st' = stands_later means world (suc g.state.next) le ext g.stands

  take_first : {scope : Scope} {i : Interpretation} {s : rules.State} {c : run.State} {key : rules.Chunk} {r : run.Resource} {b : Sort} (keys : Keys means world s.next i key r b) (a : Term) (q : Fraction) (at : Place) (code : Code) (on : rules.Chunk → Going) →
      Stands means world scope i s c → Good means s.next i a RealSort → Same (as_fraction (value i a)) q → Le none (as_fraction (value i a)) →
      Cleared (first_with (holds_amount a key.arguments) (candidates key s.heap) at code s (λ d. on d.chunk (rules.with_heap (reduced d a s.heap) s)) (take_fresh key a b at code s on)) → Taken scope i s.next on c r b q
  take_first {scope = scope} {i = i} {s = s} {c = c} {key = key} {r = r} {b = b} keys a q at code on st ga same_q sign h =
      go (first_one means world key (holds_amount a key.arguments) at code on_taken (take_fresh key a b at code s on) st (λ d kind resource m. good_amount means world keys d kind resource m ga) h)
    where
      on_taken : Candidate → Tree
      on_taken d = on d.chunk (rules.with_heap (reduced d a s.heap) s)

      go : FirstWith means world key (holds_amount a key.arguments) i s on_taken ⊎ Cleared (take_fresh key a b at code s on) → Taken scope i s.next on c r b q
      go (inr m) = cleared_case (rules.is_quiet s) _ _ m (λ e m. absurd (true≢false (sym e ∙ st.awake))) (λ e m. nothing_taken keys a q at code on st ga same_q sign m)
      go (inl m) =
          let d = m.candidate in
          let apart = taken_apart means world s.next i c.heap m.place st.heap in
          let taken = amount_is means world keys d.chunk m.place.kind m.place.resource apart.chunk ga m.as_wanted in
          let enough : Le q (run.amount c.holdings r) = le-trans same_q.back (le-trans taken.1 (subst (λ x. Le (amount_of i d.chunk) (run.amount c.holdings x)) taken.0 (chunk_held means world s.next i c.heap m.place st.heap))) in
          record {
            interp = i;
            state = rules.with_heap (reduced d a s.heap) s;
            chunk = d.chunk;
            extends = extends-refl means s.next i;
            later = le_refl _;
            stands = stands_with_holdings means world (reduced d a s.heap) (run.lost r q c.holdings) st
                (subst (λ x. HeapStands means world s.next i (reduced d a s.heap) c.heap (run.lost x q c.holdings)) taken.0 (reduced_stands means world s.next i c.heap m.place st.heap a q ga same_q sign taken.1))
                (world.taken c.heap c.holdings r q (keys_typed means world keys) (le-trans sign same_q.there) enough st.holds);
            enough = enough;
            good = sort_is keys d.chunk m.place.kind m.place.resource apart.chunk.content;
            written = λ e. apart.chunk.written (m.place.kind ∙ kind_is keys e);
            there = λ k. subst (λ x. IsThere p c.heap x (value i d.chunk.value)) taken.0 (apart.chunk.content_is (positive-le k (le-trans same_q.back taken.1)));
            leads = λ e. subst (LeadsAt p world.marks c.heap) taken.0 (leads_at means world d.chunk apart.chunk e);
            cleared = m.cleared;
          }
        where
          kind_is : {key : rules.Chunk} {r : run.Resource} {b : Sort} → Keys means world s.next i key r b → IsInstance r → key.is_field ≡ false
          kind_is (of_field f r k g e) h = absurd h
          kind_is (of_instance x ts vs k) h = refl

          sort_is : {key : rules.Chunk} {r : run.Resource} {b : Sort} → Keys means world s.next i key r b → (d : rules.Chunk) → d.is_field ≡ key.is_field → d.resource ≡ key.resource → Good means s.next i d.value (content_sort p d.is_field d.resource) → Good means s.next i d.value b
          sort_is (of_field f r k g e) d kind resource h = subst (λ x. Good means s.next i d.value (field_sort p x)) resource (subst (λ b. Good means s.next i d.value (content_sort p b d.resource)) kind h)
          sort_is (of_instance x ts vs k) d kind resource h = subst (λ b. Good means s.next i d.value (content_sort p b d.resource)) kind h

  pub take_one : {scope : Scope} {i : Interpretation} {s : rules.State} {c : run.State} {key : rules.Chunk} {r : run.Resource} {b : Sort} (keys : Keys means world s.next i key r b) (a : Term) (q : Fraction) (at : Place) (code : Code) (on : rules.Chunk → Going) →
      Stands means world scope i s c → Good means s.next i a RealSort → Same (as_fraction (value i a)) q → Le none (as_fraction (value i a)) →
      Cleared (take_chunk key a b at code s on) → Taken scope i s.next on c r b q
  take_one (of_field f r k g e) a q at code on st ga same_q sign h =
      let z = take_location means world f r k a q at code on st g e ga same_q sign h in
      record {
        interp = z.interp;
        state = z.state;
        chunk = z.chunk;
        extends = z.extends;
        later = z.later;
        stands = z.stands;
        enough = z.enough;
        good = z.good;
        written = λ e. absurd e;
        there = z.there;
        leads = λ e. tt;
        cleared = z.cleared;
      }
  take_one (of_instance x ts vs k) a q at code on st ga same_q sign h = take_first (of_instance x ts vs k) a q at code on st ga same_q sign h
