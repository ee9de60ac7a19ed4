-- Going down from application to application ends: a group that was left isn't met again, and within a group a number falls, or the depth
-- of an instance.
use Rattle.std.proofs.Common.{◌≡◌, ◌⊎◌, inl, inr, ℕ, zero, suc, ◌≤◌, ℤ, pos, negsuc, ◌≤ℤ◌, ◌<ℤ◌, Bool, true, false, cond, List, [], ◌∷◌, ◌++◌, length, Some, refl, sym, ◌∙◌, ap, subst, arith, true≢false}
use Rattle.std.specs.Prelude.{option_and_then}
use Rattle.std.proofs.lemmas.Int.{ints}
use Rattle.std.proofs.lemmas.Option.{same_Some}
use Rattle.std.proofs.lemmas.Bool.{and_parts}
use Rattle.vx_frac.specs.Fractions.{Fraction, none, sum}
use Rattle.vx_ast.specs.Syntax.{Name, Program, Function, ByNumber, ByInstance, predicate_named, function_named}
use Rattle.vx_ast.specs.Syntax as syntax
use Rattle.vx_ast.specs.Mentions as mentions
use Rattle.vx_ast.specs.Apart.{Stands}
use Rattle.vx_types.specs.Typing.{IsTypedMeasure}
use Rattle.vx_types.specs.Premises.{IsTypedProgram}
use Rattle.vx_meaning.specs.Values.{Value, IntValue, BoolValue, RefValue, PermValue, same_value, same_values}
use Rattle.vx_meaning.specs.States.{State, Heap, Holdings, Instance, Resource, At, Folded, HaveTypes, same_resource, amount, bind, scaled, with_store}
use Rattle.vx_meaning.specs.Evaluate.{applications, values, value_by}
use Rattle.vx_meaning.specs.Flatten.{bare, body_entries, within, with_inner, flat}
use Rattle.vx_meaning.specs.Fails.{Measure, Number, Inside, number_of, HasMeasure, Lowers}
use Rattle.vx_meaning.specs.Group.{Reaches}
use Rattle.vx_amounts.proofs.Amounts.{Positive, le-refl, not-positive}
use Rattle.vx_sound_preds.specs.Bodies.{IsRigid, AreRigid}
use Rattle.vx_sound_preds.proofs.Flats.{came, flat_more, flat_single}
use Rattle.vx_sound_preds.proofs.Grouped.{resource_is}
use Rattle.vx_sound_preds.proofs.Holding.{typed_rigid}
use Rattle.vx_sound_preds.proofs.Types.{found_type}
use Rattle.vx_sound_funcs.proofs.Steps.{nothing_some}
use Rattle.vx_law.specs.Measures.{IsLesser, IsBelow, lower_group, lesser_measure, Claim, HoldsFromBelow, HoldsOfAll, MeasuresInduce, GoesDown, MeasuresEnd}
use Rattle.vx_law.specs.Measures as down
use Rattle.vx_sound.proofs.Stripped.{stripped}
use Rattle.vx_law.proofs.Stripped.{measure_stripped, one_measure}
use Rattle.vx_law.proofs.Names.{names_of, named_stands, without, stays_in, fewer_names}
use Rattle.vx_law.proofs.ToldProduce.{state_same}
use Rattle.vx_sound_preds.proofs.TypedValues.{have_types, applications_typed}

-- Ways

pub reached : {Step : Name → Name → Type 0} (n : ℕ) (x y z : Name) → mentions.ReachesBy Step n x y → mentions.Reaches Step y z → mentions.Reaches Step x z
reached zero x y z r s = absurd r
reached (suc n) x y z (inl e) s = (suc s.0, inr (y, e, s.1))
reached (suc n) x y z (inr (w, e, r)) s = let k = reached n w y z r s in (suc k.0, inr (w, e, k.1))

nothing_left : (f : Name) (ys : List Name) → Stands f ys → length ys ≤ zero → ⊥
nothing_left f [] s l = s
nothing_left f (y ∷ ys) s l = omega (arith, l)

module _ (p : Program) where
  -- the functions that f leads to, and f, are among these
  abbrev Known : List Name → Name → Type 0
  Known left f = (y : Name) (d : Function) → function_named p y ≡ Some d → (y ≡ f) ⊎ Reaches p f y → Stands y left

  known_on : (left : List Name) (f f' : Name) → Known left f → Reaches p f f' → Known left f'
  known_on left f f' k r y d named (inl e) = k y d named (inr (subst (Reaches p f) (sym e) r))
  known_on left f f' k r y d named (inr s) = k y d named (inr (reached r.0 f f' y r.1 s))

  -- without f, where f' doesn't lead back
  known_below : (left : List Name) (f f' : Name) → Known left f → Reaches p f f' → (Reaches p f' f → ⊥) → Known (without f left) f'
  known_below left f f' k r apart y d named w = stays_in f y left (known_on left f f' k r y d named w) (differs w)
    where
      differs : (y ≡ f') ⊎ Reaches p f' y → y ≡ f → ⊥
      differs (inl e) is = apart (subst (λ (z : Name). Reaches p z f) (sym is ∙ e) (subst (Reaches p f) (sym e ∙ is) r))
      differs (inr s) is = apart (subst (Reaches p f') is s)

  -- what holds of a function where it holds of all that it leads to and that don't lead back holds of all
  module _ (C : Name → Function → Type 0) (from_lower : (f : Name) (g : Function) → function_named p f ≡ Some g → ((f' : Name) (g' : Function) → function_named p f' ≡ Some g' → Reaches p f f' → (Reaches p f' f → ⊥) → C f' g') → C f g) where
    with_names : (n : ℕ) (left : List Name) → length left ≤ n → (f : Name) (g : Function) → function_named p f ≡ Some g → Known left f → C f g
    with_names zero left l f g named known = absurd (nothing_left f left (known f g named (inl refl)) l)
    with_names (suc n) left l f g named known =
        from_lower f g named (λ f' g' named' r apart. with_names n (without f left) (fewer_names f left n (known f g named (inl refl)) l) f' g' named' (known_below left f f' known r apart))

    pub groups_induce : (f : Name) (g : Function) → function_named p f ≡ Some g → C f g
    groups_induce f g named = with_names (length (names_of p)) (names_of p) (self (length (names_of p))) f g named (λ y d is w. named_stands p y d is)
      where
        self : (n : ℕ) → n ≤ n
        self n = omega arith

module _ (p : Program) (h : Heap) where
  -- Instances within an instance are flat by less fuel

  abbrev AllFlat : ℕ → Holdings → Type 0
  AllFlat n [] = Unit {0}
  AllFlat n ((At l, a) ∷ xs) = AllFlat n xs
  AllFlat n ((Folded k, a) ∷ xs) = ((y : Holdings) × (flat p n h k ≡ Some y)) × AllFlat n xs

  all_more : (n : ℕ) (xs : Holdings) → AllFlat n xs → AllFlat (suc n) xs
  all_more n [] k = tt
  all_more n ((At l, a) ∷ xs) k = all_more n xs k
  all_more n ((Folded i, a) ∷ xs) k = ((k.0.0, flat_more p n h i k.0.0 k.0.1), all_more n xs k.1)

  all_scaled : (n : ℕ) (q : Fraction) (xs : Holdings) → AllFlat n xs → AllFlat n (scaled q xs)
  all_scaled n q [] k = tt
  all_scaled n q ((At l, a) ∷ xs) k = all_scaled n q xs k
  all_scaled n q ((Folded i, a) ∷ xs) k = (k.0, all_scaled n q xs k.1)

  all_both : (n : ℕ) (xs ys : Holdings) → AllFlat n xs → AllFlat n ys → AllFlat n (xs ++ ys)
  all_both n [] ys k l = l
  all_both n ((At z, a) ∷ xs) ys k l = all_both n xs ys k l
  all_both n ((Folded i, a) ∷ xs) ys k l = (k.0, all_both n xs ys k.1 l)

  -- what flat gives by n holds instances that are flat by n
  abbrev FlatWithin : ℕ → Type 0
  FlatWithin n = (i : Instance) (y : Holdings) → flat p n h i ≡ Some y → AllFlat n y

  inner_flat : (n : ℕ) → FlatWithin n → (es y : Holdings) → with_inner (flat p n h) es ≡ Some y → AllFlat n y
  inner_flat n ih [] y e = subst (AllFlat n) (same_Some [] y e) tt
  inner_flat n ih ((At l, q) ∷ rest) y e =
      let z = came (with_inner (flat p n h) rest) (λ more. Some ((At l, q) ∷ more)) y e in
      subst (AllFlat n) (same_Some ((At l, q) ∷ z.it) y z.then) (inner_flat n ih rest z.it z.is)
  inner_flat n ih ((Folded i, q) ∷ rest) y e =
      let x = came (within (flat p n h) (Folded i) q) (λ inner. option_and_then (λ more. Some ((Folded i, q) ∷ (inner ++ more))) (with_inner (flat p n h) rest)) y e in
      let w = came (flat p n h i) (λ inner. Some (scaled q inner)) x.it x.is in
      let z = came (with_inner (flat p n h) rest) (λ more. Some ((Folded i, q) ∷ (x.it ++ more))) y x.then in
      let inside = subst (AllFlat n) (same_Some (scaled q w.it) x.it w.then) (all_scaled n q w.it (ih i w.it w.is)) in
      subst (AllFlat n) (same_Some ((Folded i, q) ∷ (x.it ++ z.it)) y z.then) ((w.it, w.is), all_both n x.it z.it inside (inner_flat n ih rest z.it z.is))

  flat_next : (n : ℕ) → FlatWithin n → (i : Instance) (y : Holdings) → flat p (suc n) h i ≡ Some y → AllFlat n y
  flat_next n ih i y e =
      let d = came (predicate_named p i.predicate) (λ d. option_and_then (with_inner (flat p n h)) (body_entries p h i.arguments d)) y e in
      let b = came (body_entries p h i.arguments d.it) (with_inner (flat p n h)) y d.then in
      inner_flat n ih b.it y b.then

  flat_within : (n : ℕ) → FlatWithin n
  flat_within zero i y e = nothing_some y e
  flat_within (suc n) i y e = all_more n y (flat_next n (flat_within n) i y e)

  rigid_like : (v w : Value) → IsRigid v → same_value v w ≡ true → IsRigid w
  rigid_like v (IntValue b) r e = tt
  rigid_like v (BoolValue b) r e = tt
  rigid_like v (RefValue b) r e = tt
  rigid_like (IntValue a) (PermValue b) r e = true≢false (sym e)
  rigid_like (BoolValue a) (PermValue b) r e = true≢false (sym e)
  rigid_like (RefValue a) (PermValue b) r e = true≢false (sym e)
  rigid_like (PermValue a) (PermValue b) r e = r

  rigid_alike : (vs ws : List Value) → AreRigid vs → same_values vs ws ≡ true → AreRigid ws
  rigid_alike vs [] r e = tt
  rigid_alike [] (w ∷ ws) r e = absurd (true≢false (sym e))
  rigid_alike (v ∷ vs) (w ∷ ws) r e = let q = and_parts _ _ e in (rigid_like v w r.0 q.0, rigid_alike vs ws r.1 q.1)

  same_instance : (j i : Instance) → ◌≡◌ {A = Resource} (Folded j) (Folded i) → i ≡ j
  same_instance j i e = cc

  found_flat : (n : ℕ) (j : Instance) → AreRigid j.arguments → (xs : Holdings) → AllFlat n xs → Positive (amount xs (Folded j)) → (y : Holdings) × (flat p n h j ≡ Some y)
  found_flat n j r [] k z = absurd (not-positive z (le-refl none))
  found_flat n j r ((At l, a) ∷ xs) k z = found_flat n j r xs k z
  found_flat n j r ((Folded i, a) ∷ xs) k z = go (same_resource (Folded j) (Folded i)) refl z (found_flat n j r xs k.1)
    where
      go : (b : Bool) → same_resource (Folded j) (Folded i) ≡ b → Positive (cond b (sum a (amount xs (Folded j))) (amount xs (Folded j))) → (Positive (amount xs (Folded j)) → (y : Holdings) × (flat p n h j ≡ Some y)) → (y : Holdings) × (flat p n h j ≡ Some y)
      go true is z f =
          let q = and_parts _ _ is in
          subst (λ (j : Instance). (y : Holdings) × (flat p n h j ≡ Some y)) (same_instance j i (resource_is (Folded j) (Folded i) (rigid_alike j.arguments i.arguments r q.1) is)) k.0
      go false is z f = f z

  -- Measures

  abbrev Bounded : ℕ → Measure → Type 0
  Bounded n (Number z) = z <ℤ pos n
  Bounded n (Inside i) = (y : Holdings) × (flat p n h i ≡ Some y)

  abbrev IsRigidMeasure : Measure → Type 0
  IsRigidMeasure (Number z) = Unit {0}
  IsRigidMeasure (Inside i) = AreRigid i.arguments

  next_below : (n : ℕ) (a b : ℤ) → b <ℤ a → a <ℤ pos (suc n) → b <ℤ pos n
  next_below n a b k l = omega (arith, ints, k, l)

  none_below : (a : ℤ) → pos 0 ≤ℤ a → a <ℤ pos 0 → ⊥
  none_below a k l = omega (arith, ints, k, l)

  some_bound : (a : ℤ) → pos 0 ≤ℤ a → (n : ℕ) × (a <ℤ pos n)
  some_bound (pos k) l = (suc k, omega (arith, ints))
  some_bound (negsuc k) l = (0, omega (arith, ints))

  lowered : (n : ℕ) (before after : Measure) → IsRigidMeasure after → Lowers p h before after → Bounded (suc n) before → Bounded n after
  lowered n (Number a) (Number b) r k bound = next_below n a b k.1 bound
  lowered n (Inside i) (Inside j) r (m, inner, e, z) bound =
      let same = flat_single p m (suc n) h i inner bound.0 e bound.1 in
      found_flat n j r bound.0 (flat_next n (flat_within n) i bound.0 bound.1) (subst (λ (xs : Holdings). Positive (amount xs (Folded j))) same (record { holds = z }))
  lowered n (Number a) (Inside j) r k bound = absurd k
  lowered n (Inside i) (Number b) r k bound = absurd k

  none_lowered : (before after : Measure) → Lowers p h before after → Bounded zero before → ⊥
  none_lowered (Number a) (Number b) k bound = none_below a k.0 bound
  none_lowered (Inside i) (Inside j) k bound = nothing_some bound.0 bound.1
  none_lowered (Number a) (Inside j) k bound = k
  none_lowered (Inside i) (Number b) k bound = k

  bound_of : (before after : Measure) → Lowers p h before after → (n : ℕ) × Bounded n before
  bound_of (Number a) (Number b) k = some_bound a k.0
  bound_of (Inside i) (Inside j) (m, inner, e, z) = (m, (inner, e))
  bound_of (Number a) (Inside j) k = absurd k
  bound_of (Inside i) (Number b) k = absurd k

same_function : (d g : Function) → Some d ≡ Some g → d ≡ g
same_function d g e = cc

module _ (p : Program) (typed : IsTypedProgram p) (h : Heap) where
  -- the measure of an application
  pub record HasAt (g : Function) (vs : List Value) (m : Measure) : Type 0 where
    measure : syntax.Measure
    of_function : g.decreases ≡ Some measure
    has : HasMeasure p (bare (bind g.parameters vs) h) measure m

  some_measure : (d e : syntax.Measure) → Some d ≡ Some e → d ≡ e
  some_measure d e k = cc

  one_at : (g : Function) (vs : List Value) (m k : Measure) → HasAt g vs m → HasAt g vs k → m ≡ k
  one_at g vs m k a b =
      let same = some_measure b.measure a.measure (sym b.of_function ∙ a.of_function) in
      one_measure p (bare (bind g.parameters vs) h) a.measure m k a.has (subst (λ (e : syntax.Measure). HasMeasure p (bare (bind g.parameters vs) h) e k) same b.has)

  -- arguments of an instance in a measure are no amounts
  measure_rigid : (g : Function) (vs : List Value) → HaveTypes g.parameters vs → (e : syntax.Measure) → IsTypedMeasure p g.parameters (Some e) → (m : Measure) → HasMeasure p (bare (bind g.parameters vs) h) e m → IsRigidMeasure p h m
  measure_rigid g vs types (ByNumber e) t m (n, is) = let x = came (value_by p n (bare (bind g.parameters vs) h) e) number_of m is in by_value x.it x.then
    where
      by_value : (v : Value) → number_of v ≡ Some m → IsRigidMeasure p h m
      by_value (IntValue z) e = subst (IsRigidMeasure p h) (same_Some (Number z) m e) tt
      by_value (BoolValue z) e = nothing_some m e
      by_value (RefValue z) e = nothing_some m e
      by_value (PermValue z) e = nothing_some m e
  measure_rigid g vs types (ByInstance at i es) t m (n, is) =
      let inside = λ (ws : List Value). let j : Instance = record { predicate = i; arguments = ws } in Some (Inside j) in
      let x = came (values p (applications p n) (bare (bind g.parameters vs) h) es) inside m is in
      let ws = have_types p typed.functions n (applications_typed p typed.functions n) (bare (bind g.parameters vs) h) (λ y t w a b. found_type y t g.parameters vs w types a b) t.2 x.it x.is in
      subst (IsRigidMeasure p h) (same_Some (Inside record { predicate = i; arguments = x.it }) m x.then) (typed_rigid t.0.parameters x.it (let y = typed.predicates i t.0 t.1 in y.parameters) ws)

  -- an application with a lesser measure, and both measures
  record Falls (g : Function) (vs : List Value) (g' : Function) (vs' : List Value) : Type 0 where
    before : Measure
    after : Measure
    has_before : HasAt g vs before
    has_after : HasAt g' vs' after
    lowers : Lowers p h before after

  falls : (f : Name) (g : Function) (vs : List Value) (f' : Name) (g' : Function) (vs' : List Value) → function_named p f ≡ Some g → function_named p f' ≡ Some g' → IsLesser p h f vs f' vs' → Falls g vs g' vs'
  falls f g vs f' g' vs' named named' l =
      let k = l.lowers in
      let s = l.start.state in
      let is_g = same_function l.caller g (sym l.named ∙ named) in
      let is_g' = same_function k.callee g' (sym k.is_callee ∙ named') in
      let old = ap (λ (s : State). s.old_heap) l.start.starts.2.3 ∙ sym (ap (λ (s : State). s.heap) l.start.starts.2.3) ∙ l.start.heap in
      let here = state_same (stripped s) (bare (bind l.caller.parameters vs) h) l.start.store l.start.heap refl old refl in
      let there = state_same (stripped (with_store (bind k.callee.parameters vs') s)) (bare (bind k.callee.parameters vs') h) refl l.start.heap refl old refl in
      let own : HasAt l.caller vs k.before = record { measure = l.measure; of_function = l.has_measure; has = measure_stripped p s (bare (bind l.caller.parameters vs) h) l.measure k.before here k.before_is } in
      let other : HasAt k.callee vs' k.after =
      record { measure = k.of_callee; of_function = k.has_measure; has = measure_stripped p (with_store (bind k.callee.parameters vs') s) (bare (bind k.callee.parameters vs') h) k.of_callee k.after there k.after_is } in
      record {
        before = k.before;
        after = k.after;
        has_before = subst (λ (g : Function). HasAt g vs k.before) is_g own;
        has_after = subst (λ (g : Function). HasAt g vs' k.after) is_g' other;
        lowers = subst (λ (h : Heap). Lowers p h k.before k.after) l.start.heap k.lowers;
      }

  module _ (C : Claim) (from_below : HoldsFromBelow p h C) where
    -- of functions of lower groups
    abbrev OfLower : Name → Type 0
    OfLower f = (f' : Name) (g' : Function) (vs' : List Value) → function_named p f' ≡ Some g' → HaveTypes g'.parameters vs' → Reaches p f f' → (Reaches p f' f → ⊥) → C f' g' vs'

    module _ (left : List Name) (lower : (f : Name) (g : Function) → function_named p f ≡ Some g → Known p left f → OfLower f) where
      -- where the measure is bounded by n
      abbrev Inner : ℕ → Type 0
      Inner n = (f : Name) (g : Function) (vs : List Value) → function_named p f ≡ Some g → HaveTypes g.parameters vs → Known p left f → (m : Measure) → HasAt g vs m → Bounded p h n m → C f g vs

      abbrev Less : ℕ → Type 0
      Less zero = Unit {0}
      Less (suc n) = Inner n

      fallen : (n : ℕ) → Less n → (g : Function) (vs : List Value) (f' : Name) (g' : Function) (vs' : List Value) → function_named p f' ≡ Some g' → HaveTypes g'.parameters vs' → Known p left f' → (k : Falls g vs g' vs') → Bounded p h n k.before → C f' g' vs'
      fallen zero u g vs f' g' vs' named' types' known' k bound = absurd (none_lowered p h k.before k.after k.lowers bound)
      fallen (suc n) u g vs f' g' vs' named' types' known' k bound =
          let a = k.has_after in
          let typed_measure = subst (IsTypedMeasure p g'.parameters) a.of_function (let y = typed.functions f' g' named' in y.measure) in
          let rigid = measure_rigid g' vs' types' a.measure typed_measure k.after a.has in
          u f' g' vs' named' types' known' k.after a (lowered p h n k.before k.after rigid k.lowers bound)

      bounded : (n : ℕ) → Less n → Inner n
      bounded n u f g vs named types known m has bound = from_below f g vs named types below
        where
          below : (f' : Name) (g' : Function) (vs' : List Value) → function_named p f' ≡ Some g' → HaveTypes g'.parameters vs' → IsBelow p h f vs f' vs' → C f' g' vs'
          below f' g' vs' named' types' (lower_group r apart) = lower f g named known f' g' vs' named' types' r apart
          below f' g' vs' named' types' (lesser_measure w l) =
              let k = falls f g vs f' g' vs' named named' l in
              fallen n u g vs f' g' vs' named' types' (known_on p left f f' known w.0) k (subst (Bounded p h n) (one_at g vs m k.before has k.has_before) bound)

      less : (n : ℕ) → Less n
      less zero = tt
      less (suc n) = bounded n (less n)

      in_group : (f : Name) (g : Function) (vs : List Value) → function_named p f ≡ Some g → HaveTypes g.parameters vs → Known p left f → C f g vs
      in_group f g vs named types known = from_below f g vs named types below
        where
          below : (f' : Name) (g' : Function) (vs' : List Value) → function_named p f' ≡ Some g' → HaveTypes g'.parameters vs' → IsBelow p h f vs f' vs' → C f' g' vs'
          below f' g' vs' named' types' (lower_group r apart) = lower f g named known f' g' vs' named' types' r apart
          below f' g' vs' named' types' (lesser_measure w l) =
              let k = falls f g vs f' g' vs' named named' l in
              let n = bound_of p h k.before k.after k.lowers in
              fallen n.0 (less n.0) g vs f' g' vs' named' types' (known_on p left f f' known w.0) k n.1

    -- with at most n names left
    outer : (n : ℕ) (left : List Name) → length left ≤ n → (f : Name) (g : Function) (vs : List Value) → function_named p f ≡ Some g → HaveTypes g.parameters vs → Known p left f → C f g vs
    outer zero left l f g vs named types known = absurd (nothing_left f left (known f g named (inl refl)) l)
    outer (suc n) left l f g vs named types known =
        in_group left
        (λ f1 g1 named1 known1 f' g' vs' named' types' r apart. outer n (without f1 left) (fewer_names f1 left n (known1 f1 g1 named1 (inl refl)) l) f' g' vs' named' types' (known_below p left f1 f' known1 r apart))
        f g vs named types known

    pub ends : HoldsOfAll p C
    ends f g vs named types = outer (length (names_of p)) (names_of p) (self (length (names_of p))) f g vs named types (λ y d is w. named_stands p y d is)
      where
        self : (n : ℕ) → n ≤ n
        self n = omega arith

pub measures_induce : (p : Program) → IsTypedProgram p → MeasuresInduce p
measures_induce p typed h C from_below f g vs named types = ends p typed h C from_below f g vs named types

pub measures_end : (p : Program) → IsTypedProgram p → MeasuresEnd p
measures_end p typed h = measures_induce p typed h (λ f g vs. GoesDown p h f vs) (λ f g vs named types below. down.ends f vs below)
