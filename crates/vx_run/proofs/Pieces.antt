-- What each form of a body leaves to be found, and what is found of it.
use Rattle.std.proofs.Common.{◌≡◌, ◌≢◌, ℕ, zero, suc, ◌-◌, Bool, true, false, List, [], ◌∷◌, ◌++◌, length, map, take, Option, Some, None, option_map, refl, sym, ◌∙◌, ap, ap₂, subst, append_assoc, true≢false, arith}
use Rattle.std.specs.Prelude.{option_and_then, is_some, if◌then◌else◌}
use Rattle.vx_ast.specs.declared.Place.{Place}
use Rattle.vx_ast.specs.Syntax.{Name, Program, Predicate, predicate_named, Expr, Exprs, Assertion, Pure, Points, Both, Implied, Chosen}
use Rattle.vx_ast.specs.Syntax as syntax
use Rattle.vx_frac.specs.declared.Frac.{Frac}
use Rattle.vx_frac.specs.Fraction.{fraction}
use Rattle.vx_frac.specs.Fractions.{Fraction, product, lowest}
use Rattle.vx_amounts.proofs.Amounts.{same-sym, same-lowest', lowest_is, product_same}
use Rattle.vx_meaning.specs.Values.{Value, IntValue, BoolValue, RefValue, PermValue, is_true}
use Rattle.vx_meaning.specs.States.{Heap, Holdings, Resource, At, Folded, Instance, Store, scaled, bind}
use Rattle.vx_meaning.specs.Fits.{amount_of}
use Rattle.vx_meaning.specs.Evaluate as plain
use Rattle.vx_meaning.specs.Flatten.{bare, no_applications, entries, body_entries, with_inner, within, flat, location_entry, instance_entry}
use Rattle.vx_run.specs.Flats.{PartOf, EntryOf, inside, and_behind, written, written_resource, all_written, as_truth, as_reference, has_truth, has_reference, has_amount, have_values}
use Rattle.vx_run.specs.Flattening.{StandsFor, AreLeft, Goes, Finds, IsFound, AreFound, found}
use Rattle.vx_run.specs.Held.{resource}
use Rattle.vx_run.specs.declared.flattening.Piece.{Piece}
use Rattle.vx_run.specs.declared.flattening.Piece.TheVariants as piece
use Rattle.vx_run.specs.declared.flattening.Found.{Found}
use Rattle.vx_run.specs.declared.resource.Resource.{Resource as Resource'}
use Rattle.vx_run.proofs.Flattened.{none_behind, behind_none, behind_on, both_inside, pure_inside, points_inside, instance_inside, implied_inside, chosen_inside, pushed}
use Rattle.vx_run.proofs.Spread.{written_append, append_nil}

some_is : {A : Type 0} {x y : A} → (let o : Option A = Some x in o) ≡ Some y → x ≡ y
some_is {A} {x} e = ap (λ o. elim o as (λ o. A) [ Some z ↦ z | None ↦ x ]) e

none_some : {A B : Type 0} {x : A} → (let o : Option A = None in o) ≡ Some x → B
none_some e = absurd (true≢false (sym (ap is_some e)))

some_none : {A B : Type 0} {x : A} → (let o : Option A = Some x in o) ≡ None → B
some_none e = absurd (true≢false (ap is_some e))

-- the value that has a truth, a reference or an amount

truth_value : (o : Option Value) (b : Bool) → option_and_then as_truth o ≡ Some b → o ≡ Some (BoolValue b)
truth_value None b e = none_some e
truth_value (Some (BoolValue a)) b e = ap (λ (x : Bool). let o : Option Value = Some (BoolValue x) in o) (some_is e)
truth_value (Some (IntValue z)) b e = none_some e
truth_value (Some (RefValue r)) b e = none_some e
truth_value (Some (PermValue q)) b e = none_some e

reference_value : (o : Option Value) (r : ℕ) → option_and_then as_reference o ≡ Some r → o ≡ Some (RefValue r)
reference_value None r e = none_some e
reference_value (Some (RefValue a)) r e = ap (λ (x : ℕ). let o : Option Value = Some (RefValue x) in o) (some_is e)
reference_value (Some (IntValue z)) r e = none_some e
reference_value (Some (BoolValue b)) r e = none_some e
reference_value (Some (PermValue q)) r e = none_some e

amount_value : (o : Option Value) (a : Fraction) → option_map lowest (option_and_then amount_of o) ≡ Some a → (q : Fraction) × (o ≡ Some (PermValue q)) × (lowest q ≡ a)
amount_value None a e = none_some e
amount_value (Some (PermValue q)) a e = (q, refl, some_is e)
amount_value (Some (IntValue z)) a e = none_some e
amount_value (Some (BoolValue b)) a e = none_some e
amount_value (Some (RefValue r)) a e = none_some e

values_there : (o : Option (List Value)) (vs : List Value) → option_map (map written) o ≡ Some vs → (us : List Value) × (o ≡ Some us) × (map written us ≡ vs)
values_there None vs e = none_some e
values_there (Some us) vs e = (us, refl, some_is e)

scaled_lowest : (z a : Fraction) → lowest (product z a) ≡ lowest (product (lowest z) (lowest a))
scaled_lowest z a = lowest_is {a = product z a} {b = product (lowest z) (lowest a)} (product_same {a = z} {b = lowest z} {c = a} {d = lowest a} (same-sym (same-lowest' z)) (same-sym (same-lowest' a)))

module _ (p : Program) (h : Heap) where
  abbrev seen : Store → Expr → Option Value
  seen y e = plain.value p no_applications (bare y h) e

  abbrev all_of : ℕ → Fraction → Option Holdings → Option Holdings
  all_of n q o = option_and_then (λ es. Some (scaled q es)) (option_and_then (with_inner (flat p n h)) o)

  -- nothing is left of it
  left_as : (ts : List Piece) (i r : Option Holdings) → i ≡ Some [] → AreLeft p h ts r → AreLeft p h ts (and_behind i r)
  left_as ts i r e l = subst (AreLeft p h ts) (none_behind r ∙ ap (λ (o : Option Holdings). and_behind o r) (sym e)) l

  module _ (n : ℕ) (z : Fraction) (y : Store) (ts : List Piece) (r : Option Holdings) where
    pub pure_goes : (e : Expr) (b : Bool) → has_truth p y h e ≡ Some b → AreLeft p h ts r →
        Goes b (inside p h (PartOf n z y (Pure e))) (AreLeft p h ts (and_behind (inside p h (PartOf n z y (Pure e))) r))
    pure_goes e true k l = left_as ts (inside p h (PartOf n z y (Pure e))) r (pure_inside p h n z y e true (truth_value (seen y e) true k)) l
    pure_goes e false k l = pure_inside p h n z y e false (truth_value (seen y e) false k)

    pub pure_none : (e : Expr) → has_truth p y h e ≡ None → inside p h (PartOf n z y (Pure e)) ≡ None
    pure_none e k = go (seen y e) k
      where
        go : (o : Option Value) → option_and_then as_truth o ≡ None → all_of n z (option_and_then (λ v. if is_true v then Some [] else None) o) ≡ None
        go None k = refl
        go (Some (BoolValue b)) k = some_none k
        go (Some (IntValue i)) k = refl
        go (Some (RefValue i)) k = refl
        go (Some (PermValue i)) k = refl

    -- a location
    pub points_left : (at : Place) (e : Expr) (f : Name) (share : Expr) (m : ℕ) (b : Fraction) (g : Frac) (x : Resource') → has_reference p y h e ≡ Some m → has_amount p y h share ≡ Some b →
        fraction g ≡ lowest (product (lowest z) b) → resource x ≡ At record { receiver = m; field = f } → AreLeft p h ts r →
        AreLeft p h (ts ++ piece.Entry n g x ∷ []) (and_behind (inside p h (PartOf n z y (Points at e f share))) r)
    points_left at e f share m b g x k j w v l =
        let a = amount_value (seen y share) b j in
        pushed p h ts (piece.Entry n g x) (inside p h (PartOf n z y (Points at e f share))) r l (
          product z a.0,
          At record { receiver = m; field = f },
          scaled_lowest z a.0 ∙ ap (λ (q : Fraction). lowest (product (lowest z) q)) a.2 ∙ sym w,
          sym v,
          points_inside p h n z y at e f share m a.0 (reference_value (seen y e) m k) a.1,
        )

    pub points_nowhere : (at : Place) (e : Expr) (f : Name) (share : Expr) → has_reference p y h e ≡ None → inside p h (PartOf n z y (Points at e f share)) ≡ None
    points_nowhere at e f share k = go (seen y e) (seen y share) k
      where
        go : (o u : Option Value) → option_and_then as_reference o ≡ None → all_of n z (option_and_then (λ v. option_and_then (location_entry f v) u) o) ≡ None
        go None u k = refl
        go (Some (RefValue m)) u k = some_none k
        go (Some (IntValue i)) None k = refl
        go (Some (IntValue i)) (Some w) k = refl
        go (Some (BoolValue i)) None k = refl
        go (Some (BoolValue i)) (Some w) k = refl
        go (Some (PermValue i)) None k = refl
        go (Some (PermValue i)) (Some w) k = refl

    pub points_nothing : (at : Place) (e : Expr) (f : Name) (share : Expr) → has_amount p y h share ≡ None → inside p h (PartOf n z y (Points at e f share)) ≡ None
    points_nothing at e f share k = go (seen y e) (seen y share) k
      where
        located : (v w : Value) → option_map lowest (amount_of w) ≡ None → location_entry f v w ≡ None
        located v (PermValue q) k = some_none k
        located (RefValue m) (IntValue i) k = refl
        located (RefValue m) (BoolValue i) k = refl
        located (RefValue m) (RefValue i) k = refl
        located (IntValue m) (IntValue i) k = refl
        located (IntValue m) (BoolValue i) k = refl
        located (IntValue m) (RefValue i) k = refl
        located (BoolValue m) (IntValue i) k = refl
        located (BoolValue m) (BoolValue i) k = refl
        located (BoolValue m) (RefValue i) k = refl
        located (PermValue m) (IntValue i) k = refl
        located (PermValue m) (BoolValue i) k = refl
        located (PermValue m) (RefValue i) k = refl

        go : (o u : Option Value) → option_map lowest (option_and_then amount_of u) ≡ None → all_of n z (option_and_then (λ v. option_and_then (location_entry f v) u) o) ≡ None
        go None u k = refl
        go (Some v) None k = refl
        go (Some v) (Some w) k = ap (all_of n z) (located v w k)

    -- an instance
    pub instance_left : (at : Place) (i : Name) (es : Exprs) (share : Expr) (vs : List Value) (b : Fraction) (g : Frac) (x : Resource') → have_values p y h es ≡ Some vs → has_amount p y h share ≡ Some b →
        fraction g ≡ lowest (product (lowest z) b) → resource x ≡ Folded record { predicate = i; arguments = vs } → AreLeft p h ts r →
        AreLeft p h (ts ++ piece.Entry n g x ∷ []) (and_behind (inside p h (PartOf n z y (syntax.Instance at i es share))) r)
    instance_left at i es share vs b g x k j w v l =
        let a = amount_value (seen y share) b j in
        let us = values_there (plain.values p no_applications (bare y h) es) vs k in
        pushed p h ts (piece.Entry n g x) (inside p h (PartOf n z y (syntax.Instance at i es share))) r l (
          product z a.0,
          Folded record { predicate = i; arguments = us.0 },
          scaled_lowest z a.0 ∙ ap (λ (q : Fraction). lowest (product (lowest z) q)) a.2 ∙ sym w,
          ap (λ (ws : List Value). Folded record { predicate = i; arguments = ws }) us.2 ∙ sym v,
          instance_inside p h n z y at i es share us.0 a.0 us.1 a.1,
        )

    pub instance_nowhere : (at : Place) (i : Name) (es : Exprs) (share : Expr) → have_values p y h es ≡ None → inside p h (PartOf n z y (syntax.Instance at i es share)) ≡ None
    instance_nowhere at i es share k = go (plain.values p no_applications (bare y h) es) k
      where
        go : (o : Option (List Value)) → option_map (map written) o ≡ None → all_of n z (option_and_then (λ vs. option_and_then (instance_entry i vs) (seen y share)) o) ≡ None
        go None k = refl
        go (Some vs) k = some_none k

    pub instance_nothing : (at : Place) (i : Name) (es : Exprs) (share : Expr) → has_amount p y h share ≡ None → inside p h (PartOf n z y (syntax.Instance at i es share)) ≡ None
    instance_nothing at i es share k = go (plain.values p no_applications (bare y h) es) (seen y share) k
      where
        go : (o : Option (List Value)) (u : Option Value) → option_map lowest (option_and_then amount_of u) ≡ None → all_of n z (option_and_then (λ vs. option_and_then (instance_entry i vs) u) o) ≡ None
        go None u k = refl
        go (Some vs) None k = refl
        go (Some vs) (Some (PermValue q)) k = some_none k
        go (Some vs) (Some (IntValue q)) k = refl
        go (Some vs) (Some (BoolValue q)) k = refl
        go (Some vs) (Some (RefValue q)) k = refl

    -- parts
    pub both_left : (a b : Assertion) (ta tb : Piece) → StandsFor p h ta (inside p h (PartOf n z y a)) → StandsFor p h tb (inside p h (PartOf n z y b)) → AreLeft p h ts r →
        AreLeft p h ((ts ++ tb ∷ []) ++ ta ∷ []) (and_behind (inside p h (PartOf n z y (Both a b))) r)
    both_left a b ta tb sa sb l =
        let ia = inside p h (PartOf n z y a) in
        let ib = inside p h (PartOf n z y b) in
        subst (AreLeft p h ((ts ++ tb ∷ []) ++ ta ∷ [])) (sym (behind_on ia ib r) ∙ ap (λ (o : Option Holdings). and_behind o r) (sym (both_inside p h n z y a b)))
        (pushed p h (ts ++ tb ∷ []) ta ia (and_behind ib r) (pushed p h ts tb ib r l sb) sa)

    part_left : (i : Option Holdings) (a : Assertion) (t : Piece) → i ≡ inside p h (PartOf n z y a) → StandsFor p h t (inside p h (PartOf n z y a)) → AreLeft p h ts r → AreLeft p h (ts ++ t ∷ []) (and_behind i r)
    part_left i a t e s l = subst (λ (o : Option Holdings). AreLeft p h (ts ++ t ∷ []) (and_behind o r)) (sym e) (pushed p h ts t (inside p h (PartOf n z y a)) r l s)

    pub implied_left : (e : Expr) (a : Assertion) (t : Piece) → has_truth p y h e ≡ Some true → StandsFor p h t (inside p h (PartOf n z y a)) → AreLeft p h ts r →
        AreLeft p h (ts ++ t ∷ []) (and_behind (inside p h (PartOf n z y (Implied e a))) r)
    implied_left e a t k s l = part_left (inside p h (PartOf n z y (Implied e a))) a t (implied_inside p h n z y e a true (truth_value (seen y e) true k)) s l

    pub implied_without : (e : Expr) (a : Assertion) → has_truth p y h e ≡ Some false → AreLeft p h ts r → AreLeft p h ts (and_behind (inside p h (PartOf n z y (Implied e a))) r)
    implied_without e a k l = left_as ts (inside p h (PartOf n z y (Implied e a))) r (implied_inside p h n z y e a false (truth_value (seen y e) false k)) l

    no_choice : (q u : Option Holdings) (v : Option Value) → option_and_then as_truth v ≡ None → all_of n z (option_and_then (λ v. plain.choose v q u) v) ≡ None
    no_choice q u None k = refl
    no_choice q u (Some (BoolValue b)) k = some_none k
    no_choice q u (Some (IntValue i)) k = refl
    no_choice q u (Some (RefValue i)) k = refl
    no_choice q u (Some (PermValue i)) k = refl

    pub implied_none : (e : Expr) (a : Assertion) → has_truth p y h e ≡ None → inside p h (PartOf n z y (Implied e a)) ≡ None
    implied_none e a k = no_choice (entries p (bare y h) a) (Some []) (seen y e) k

    pub first_left : (e : Expr) (a b : Assertion) (t : Piece) → has_truth p y h e ≡ Some true → StandsFor p h t (inside p h (PartOf n z y a)) → AreLeft p h ts r →
        AreLeft p h (ts ++ t ∷ []) (and_behind (inside p h (PartOf n z y (Chosen e a b))) r)
    first_left e a b t k s l = part_left (inside p h (PartOf n z y (Chosen e a b))) a t (chosen_inside p h n z y e a b true (truth_value (seen y e) true k)) s l

    pub second_left : (e : Expr) (a b : Assertion) (t : Piece) → has_truth p y h e ≡ Some false → StandsFor p h t (inside p h (PartOf n z y b)) → AreLeft p h ts r →
        AreLeft p h (ts ++ t ∷ []) (and_behind (inside p h (PartOf n z y (Chosen e a b))) r)
    second_left e a b t k s l = part_left (inside p h (PartOf n z y (Chosen e a b))) b t (chosen_inside p h n z y e a b false (truth_value (seen y e) false k)) s l

    pub chosen_none : (e : Expr) (a b : Assertion) → has_truth p y h e ≡ None → inside p h (PartOf n z y (Chosen e a b)) ≡ None
    chosen_none e a b k = no_choice (entries p (bare y h) a) (entries p (bare y h) b) (seen y e) k

  -- what is inside an instance
  module _ (x : Instance) (z : Fraction) where
    abbrev pub inner : ℕ → Option Holdings
    inner n = within (flat p n h) (Folded x) z

    pub inner_unknown : (n : ℕ) → predicate_named p x.predicate ≡ None → inner n ≡ None
    inner_unknown zero k = refl
    inner_unknown (suc n) k = ap (λ (o : Option Predicate). option_and_then (λ es. Some (scaled z es)) (option_and_then (λ d. option_and_then (with_inner (flat p n h)) (body_entries p h x.arguments d)) o)) k

    -- by its body, or without one
    by_body : (n : ℕ) (d : Predicate) (b : Option Assertion) → n ≢ 0 → predicate_named p x.predicate ≡ Some d → d.body ≡ b →
        inner n ≡ option_and_then (λ es. Some (scaled z es)) (option_and_then (with_inner (flat p (n - 1) h)) (body_entries p h x.arguments (record d { body = b })))
    by_body zero d b m k j = absurd (m refl)
    by_body (suc n) d b m k j =
        let e : n ≡ suc n - 1 = omega arith in
        ap (λ (o : Option Predicate). option_and_then (λ es. Some (scaled z es)) (option_and_then (λ d. option_and_then (with_inner (flat p n h)) (body_entries p h x.arguments d)) o)) k
        ∙ ap (λ (b : Option Assertion). option_and_then (λ es. Some (scaled z es)) (option_and_then (with_inner (flat p n h)) (body_entries p h x.arguments (record d { body = b })))) j
        ∙ ap (λ (m : ℕ). option_and_then (λ es. Some (scaled z es)) (option_and_then (with_inner (flat p m h)) (body_entries p h x.arguments (record d { body = b })))) e

    pub inner_empty : (n : ℕ) (d : Predicate) → n ≢ 0 → predicate_named p x.predicate ≡ Some d → d.body ≡ None → (ts : List Piece) (r : Option Holdings) → AreLeft p h ts r → AreLeft p h ts (and_behind (inner n) r)
    inner_empty n d m k j ts r l = left_as ts (inner n) r (by_body n d None m k j) l

    pub inner_body : (n : ℕ) (d : Predicate) (a : Assertion) → n ≢ 0 → predicate_named p x.predicate ≡ Some d → d.body ≡ Some a → (t : Piece) →
        StandsFor p h t (inside p h (PartOf (n - 1) z (bind d.parameters x.arguments) a)) → (ts : List Piece) (r : Option Holdings) → AreLeft p h ts r → AreLeft p h (ts ++ t ∷ []) (and_behind (inner n) r)
    inner_body n d a m k j t s ts r l =
        subst (λ (o : Option Holdings). AreLeft p h (ts ++ t ∷ []) (and_behind o r)) (sym (by_body n d (Some a) m k j)) (pushed p h ts t (inside p h (PartOf (n - 1) z (bind d.parameters x.arguments) a)) r l s)

  -- an entry is found, and what is inside it is left
  pub entry_found : (n : ℕ) (s : Fraction) (x : Resource) (ts : List Piece) (i r : Option Holdings) (old new : Holdings) → i ≡ inside p h (EntryOf n s x) →
      AreLeft p h ts (and_behind (within (flat p n h) x s) r) → new ≡ old ++ (written_resource x, lowest s) ∷ [] → (o : Option Holdings) × AreLeft p h ts o × IsFound old new (and_behind i r) o
  entry_found n s x ts i r old new e l m = (
    and_behind (within (flat p n h) x s) r,
    l,
    ((x, s) ∷ [], m, ap (λ (u : Option Holdings). and_behind u r) (e ∙ one (within (flat p n h) x s)) ∙ behind_on (Some ((x, s) ∷ [])) (within (flat p n h) x s) r),
  )
    where
      one : (w : Option Holdings) → option_and_then (λ es. Some ((x, s) ∷ es)) w ≡ and_behind (Some ((x, s) ∷ [])) w
      one None = refl
      one (Some es) = refl

  pub entry_none : (n : ℕ) (s : Fraction) (x : Resource) (i : Option Holdings) → i ≡ inside p h (EntryOf n s x) → within (flat p n h) x s ≡ None → i ≡ None
  entry_none n s x i e k = e ∙ ap (option_and_then (λ es. Some ((x, s) ∷ es))) k

  -- a part that was taken apart: nothing is found yet
  pub part_found : (ts : List Piece) (i r : Option Holdings) (old : Holdings) → AreLeft p h ts (and_behind i r) → (o : Option Holdings) × AreLeft p h ts o × IsFound old old (and_behind i r) o
  part_found ts i r old l = (and_behind i r, l, ([], sym (append_nil old), none_behind (and_behind i r)))

-- a piece that is a part, and one that is an entry
module _ (p : Program) (h : Heap) where
  pub by_part : (there : Bool) (j i r : Option Holdings) (ts : List Piece) (old : Holdings) → i ≡ j → Goes there j (AreLeft p h ts (and_behind j r)) →
      Finds there i old old ((o : Option Holdings) × AreLeft p h ts o × IsFound old old (and_behind i r) o)
  by_part true j i r ts old e g = part_found p h ts i r old (subst (λ (x : Option Holdings). AreLeft p h ts (and_behind x r)) (sym e) g)
  by_part false j i r ts old e g = (e ∙ g, refl)

  pub by_entry : (there : Bool) (n : ℕ) (s : Fraction) (x y : Resource) (q : Fraction) (i r : Option Holdings) (ts : List Piece) (old new : Holdings) → i ≡ inside p h (EntryOf n s x) →
      written_resource x ≡ y → lowest s ≡ q → Finds there (within (flat p n h) x s) old new ((new ≡ old ++ (y, q) ∷ []) × AreLeft p h ts (and_behind (within (flat p n h) x s) r)) →
      Finds there i old new ((o : Option Holdings) × AreLeft p h ts o × IsFound old new (and_behind i r) o)
  by_entry true n s x y q i r ts old new e w l (f, g) =
      entry_found p h n s x ts i r old new e g (f ∙ ap₂ (λ (z : Resource) (a : Fraction). old ++ (z, a) ∷ []) (sym w) (sym l))
  by_entry false n s x y q i r ts old new e w l (f, g) = (entry_none p h n s x i e f, g)

-- nothing is found yet
pub found_first : (old : Holdings) (all : Option Holdings) → IsFound old old all all
found_first old all = ([], sym (append_nil old), none_behind all)

-- what is found after what was found
pub found_next : (old mid new : Holdings) (all left next : Option Holdings) → IsFound old mid all left → IsFound mid new left next → IsFound old new all next
found_next old mid new all left next (es, e, f) (us, g, k) = (
  es ++ us,
  g ∙ ap (λ (l : Holdings). l ++ all_written us) e ∙ append_assoc old (all_written es) (all_written us) ∙ ap (λ (l : Holdings). old ++ l) (sym (written_append es us)),
  f ∙ ap (and_behind (Some es)) k ∙ sym (behind_on (Some es) (Some us) next),
)

pub found_all : (old new : Holdings) (all left : Option Holdings) → IsFound old new all left → left ≡ Some [] → AreFound true old new all
found_all old new all left (es, e, f) l = (es, e, f ∙ ap (and_behind (Some es)) l ∙ behind_none (Some es))

-- the same, where a part of what is left isn't there
pub found_none : (old new : Holdings) (all left i r : Option Holdings) → IsFound old new all left → left ≡ and_behind i r → i ≡ None → all ≡ None
found_none old new all left i r (es, e, f) l k = f ∙ ap (and_behind (Some es)) (l ∙ ap (λ (o : Option Holdings). and_behind o r) k)

-- what was found before is found again by its number
pub found_again : (olds news : List Found) (es : Holdings) → found news ≡ found olds ++ es → found (take (length olds) news) ≡ found olds
found_again [] news es e = refl
found_again (o ∷ olds) [] es e = e_first e
  where
    e_first : {A B : Type 0} {x : A} {xs : List A} → (let l : List A = [] in l) ≡ x ∷ xs → B
    e_first e = absurd (true≢false (ap is_nil e))
      where
        is_nil : {A : Type 0} → List A → Bool
        is_nil [] = true
        is_nil (x ∷ xs) = false
found_again (o ∷ olds) (n ∷ news) es e = ap₂ (λ (x : Resource × Fraction) (l : Holdings). x ∷ l) (first e) (found_again olds news es (rest e))
  where
    first : {A : Type 0} {x y : A} {xs ys : List A} → x ∷ xs ≡ y ∷ ys → x ≡ y
    first {A} {x} e = ap (λ l. elim l as (λ l. A) [ [] ↦ x | z ∷ zs ↦ z ]) e

    rest : {A : Type 0} {x y : A} {xs ys : List A} → x ∷ xs ≡ y ∷ ys → xs ≡ ys
    rest {A} {x} {y} {xs} e = ap (λ l. elim l as (λ l. List A) [ [] ↦ xs | z ∷ zs ↦ zs ]) e

-- the predicate and the arguments of what is written
abbrev predicate_of : Resource → Name → Name
predicate_of (At l) d = d
predicate_of (Folded i) d = i.predicate

abbrev arguments_of : Resource → List Value → List Value
arguments_of (At l) d = d
arguments_of (Folded i) d = i.arguments

pub same_predicate : (x i : Instance) → written_resource (Folded x) ≡ Folded i → x.predicate ≡ i.predicate
same_predicate x i e = ap (λ r. predicate_of r x.predicate) e

pub same_arguments : (x i : Instance) → written_resource (Folded x) ≡ Folded i → map written x.arguments ≡ i.arguments
same_arguments x i e = ap (λ r. arguments_of r (map written x.arguments)) e

-- a location has nothing inside
abbrev pub is_at : Resource → Bool
is_at (At l) = true
is_at (Folded i) = false

pub written_at : (p : Program) (h : Heap) (n : ℕ) (s : Fraction) (x y : Resource) → written_resource x ≡ y → is_at y ≡ true → within (flat p n h) x s ≡ Some []
written_at p h n s (At l) y e k = refl
written_at p h n s (Folded i) y e k = absurd (true≢false (sym k ∙ ap is_at (sym e)))

-- what is written as an instance is one
pub written_folded : (x : Resource) (i : Instance) → written_resource x ≡ Folded i → (j : Instance) × (x ≡ Folded j)
written_folded (Folded j) i e = (j, refl)
written_folded (At l) i e = absurd (true≢false (ap is_at e))
