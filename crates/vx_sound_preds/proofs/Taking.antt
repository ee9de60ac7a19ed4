-- What taking a body does, and that a fold keeps the state one that can be.
use Rattle.std.proofs.Common.{◌≡◌, Bool, true, false, cond, List, [], ◌∷◌, ◌++◌, Some, None, refl, sym, ◌∙◌, ap, ap₂, subst}
use Rattle.std.specs.Prelude.{Ok, option_and_then}
use Rattle.std.proofs.lemmas.Option.{same_Some}
use Rattle.vx_ast.specs.declared.Place.{Place}
use Rattle.vx_frac.specs.Fractions.{Fraction, none, at_most, sum, minus, product}
use Rattle.vx_ast.specs.Syntax.{Name, Program, Assertion, Pure, Points, Both, Implied, Chosen, place_of}
use Rattle.vx_ast.specs.Syntax as syntax
use Rattle.vx_meaning.specs.Values.{Value, IntValue, BoolValue, RefValue, PermValue, is_true}
use Rattle.vx_meaning.specs.States.{State, Heap, Holdings, Location, Instance, Resource, At, Folded, same_resource, amount, lost}
use Rattle.vx_meaning.specs.Evaluate as plain
use Rattle.vx_meaning.specs.Evaluate.{value}
use Rattle.vx_meaning.specs.Flatten.{no_applications, entries, location_entry, instance_entry, IsGrounded}
use Rattle.vx_meaning.specs.Fits.{Checked, ◌>>=◌, guard, Deeper, choose, location_of, amount_of, fit, field_part, instance_part, take, take_part}
use Rattle.vx_amounts.proofs.Amounts.{Le, Positive, Same, same-refl, same-sym, same-trans, le-trans, sum_same, product_same, none-sum, sum-minus, sum_comm, sum_assoc, positive-le, add-below, minus_none, difference-none}
use Rattle.vx_amounts.proofs.Products.{product_comm, product_sum, product_dist, product_assoc, product_sign, product_positive, product-none, positive_le}
use Rattle.vx_sound_preds.specs.Bodies.{Rigid, IsPlainBody}
use Rattle.vx_sound_preds.proofs.Fitting.{step, undo, guarded, Opens}
use Rattle.vx_sound_preds.proofs.Totals.{weigh, same_is}
use Rattle.vx_sound_preds.proofs.Grouped.{IsSingle, resource_is}
use Rattle.vx_sound_preds.proofs.Framing.{above_none, field_parts, instance_parts, ok_same, amount_same, failed}
use Rattle.vx_sound_preds.proofs.Adding.{Fine, IsEntry, AreEntries, value_here, values_here}
use Rattle.vx_sound_preds.proofs.Folding.{Stock}

-- the entries, scaled, taken one after the other
unfoldable pub taken : Fraction → Holdings → Holdings → Holdings
taken q [] h = h
taken q (x ∷ xs) h = taken q xs (lost x.0 (product q x.1) h)

taken_append : (q : Fraction) (xs ys h : Holdings) → taken q (xs ++ ys) h ≡ taken q ys (taken q xs h)
unfolding taken
taken_append q [] ys h = refl
taken_append q (x ∷ xs) ys h = taken_append q xs ys (lost x.0 (product q x.1) h)

-- what was taken and what is left make what was
pub weigh_taken : (w : Resource → Fraction) (q : Fraction) (es h : Holdings) → Same (sum (product q (weigh w es)) (weigh w (taken q es h))) (weigh w h)
unfolding weigh taken
weigh_taken w q [] h = same-trans (sum_same (product-none q) (same-refl (weigh w h))) (none-sum (weigh w h))
weigh_taken w q (x ∷ xs) h =
    let a = product x.1 (w x.0) in
    let b = weigh w xs in
    let c = weigh w h in
    let y = product (product q x.1) (w x.0) in
    let z = product (minus (product q x.1)) (w x.0) in
    let rest = taken q xs (lost x.0 (product q x.1) h) in
    let cancels : Same (sum y z) none = same-trans (same-sym (product_dist (product q x.1) (minus (product q x.1)) (w x.0)))
    (same-trans (product_same (sum-minus (product q x.1)) (same-refl (w x.0))) (subst (λ (u : Fraction). Same u none) (product_comm (w x.0) none) (product-none (w x.0)))) in
    same-trans (sum_same (product_sum q a b) (same-refl (weigh w rest)))
    (same-trans (sum_assoc (product q a) (product q b) (weigh w rest))
    (same-trans (sum_same (same_is (sym (product_assoc q x.1 (w x.0)))) (weigh_taken w q xs (lost x.0 (product q x.1) h)))
    (same-trans (same-sym (sum_assoc y z c)) (same-trans (sum_same cancels (same-refl c)) (none-sum c)))))

pub record Takes (p : Program) (h : Heap) (q : Fraction) (s : State) (a : Assertion) (hs rest : Holdings) : Type 0 where
  pub entries_of : Holdings
  pub entries_are : entries p s a ≡ Some entries_of
  pub can : AreEntries p h entries_of
  pub rest_is : rest ≡ taken q entries_of hs
  pub stock : Stock p h rest

module _ (p : Program) (q : Fraction) (scale : Positive q) where
  pub lost_stock : (h : Heap) (hs : Holdings) (r : Resource) (x : Fraction) → IsSingle r → Le none x → Le x (amount hs r) → Stock p h hs → Stock p h (lost r x hs)
  lost_stock h hs r x sr sign le st = record { debts = debts; single = (sr, st.single); grounded = grounded }
    where
      debts : (c : Resource) → IsSingle c → Le none (amount (lost r x hs) c)
      debts c sc = go (same_resource c r) refl
        where
          go : (b : Bool) → same_resource c r ≡ b → Le none (cond b (sum (minus x) (amount hs c)) (amount hs c))
          go true e = le-trans (difference-none (subst (λ (c : Resource). Le x (amount hs c)) (sym (resource_is c r sr e)) le)) (sum_comm (amount hs c) (minus x)).there
          go false e = st.debts c sc

      grounded : (j : Instance) → Positive (amount (lost r x hs) (Folded j)) → IsGrounded p h j
      grounded j = go (same_resource (Folded j) r)
        where
          go : (b : Bool) → Positive (cond b (sum (minus x) (amount hs (Folded j))) (amount hs (Folded j))) → IsGrounded p h j
          go true k = st.grounded j (positive-le k (add-below (amount hs (Folded j)) (minus_none sign)))
          go false k = st.grounded j k

  nothing_taken : (h : Heap) (s : State) (a : Assertion) (hs rest : Holdings) → entries p s a ≡ Some [] → Stock p h hs → hs ≡ rest → Takes p h q s a hs rest
  unfolding taken
  nothing_taken h s a hs rest e st is = record { entries_of = []; entries_are = e; can = tt; rest_is = sym is; stock = subst (Stock p h) is st }

  one_taken : (h : Heap) (s : State) (a : Assertion) (hs rest : Holdings) (r : Resource) (x : Fraction) → entries p s a ≡ Some ((r, x) ∷ []) → IsEntry p h r → Stock p h rest → lost r (product q x) hs ≡ rest → Takes p h q s a hs rest
  unfolding taken
  one_taken h s a hs rest r x e k st is = record { entries_of = (r, x) ∷ []; entries_are = e; can = (k, tt); rest_is = sym is; stock = st }

  entries_both : (h : Heap) (xs ys : Holdings) → AreEntries p h xs → AreEntries p h ys → AreEntries p h (xs ++ ys)
  entries_both h [] ys a b = b
  entries_both h (x ∷ xs) ys a b = (a.0, entries_both h xs ys a.1 b)

  -- the part of a permission that was taken
  pub record Part (hs rest : Holdings) (r : Resource) (a : Fraction) : Type 0 where
    pub below : Le (product q a) (amount hs r)
    pub rest_is : lost r (product q a) hs ≡ rest

  pub part_of : (d : Deeper) (s : State) (at : Place) (hs rest : Holdings) (r : Resource) (a : Fraction) (part : Resource × Fraction) → ◌≡◌ {A = Checked (Resource × Fraction)} (Ok (r, a)) (Ok part) → take_part p d s q at hs part ≡ Ok rest → Part hs rest r a
  part_of d s at hs rest r a part is eq =
      let e : (let y : Resource × Fraction = (r, a) in y) ≡ part = ok_same {A = Resource × Fraction} (r, a) part is in
      let x = undo (guard at (at_most (product q part.1) (amount hs part.0))) (λ _. Ok (lost part.0 (product q part.1) hs)) rest eq in
      subst (λ (y : Resource × Fraction). Part hs rest y.0 y.1) (sym e) record { below = record { holds = guarded at (at_most (product q part.1) (amount hs part.0)) x.it x.is }; rest_is = ok_same (lost part.0 (product q part.1) hs) rest x.then }

  located : (f : Name) (r v : Value) (l : Location) (a : Fraction) → location_of f r ≡ Some l → amount_of v ≡ Some a → location_entry f r v ≡ Some ((At l, a) ∷ [])
  located f (RefValue r) (PermValue x) l a e g =
      let m : Location = record { receiver = r; field = f } in
      ap₂ (λ (l : Location) (a : Fraction). let y : Holdings = (At l, a) ∷ [] in Some y) (same_Some m l e) (same_Some x a g)
  located f (RefValue r) (IntValue x) l a e g = cc
  located f (RefValue r) (BoolValue x) l a e g = cc
  located f (RefValue r) (RefValue x) l a e g = cc
  located f (IntValue r) v l a e g = cc
  located f (BoolValue r) v l a e g = cc
  located f (PermValue r) v l a e g = cc

  folded_in : (i : Name) (vs : List Value) (v : Value) (a : Fraction) → amount_of v ≡ Some a → instance_entry i vs v ≡ Some ((Folded record { predicate = i; arguments = vs }, a) ∷ [])
  folded_in i vs (PermValue x) a g =
      let j : Instance = record { predicate = i; arguments = vs } in
      ap (λ (a : Fraction). let y : Holdings = (Folded j, a) ∷ [] in Some y) (same_Some x a g)
  folded_in i vs (IntValue x) a g = cc
  folded_in i vs (BoolValue x) a g = cc
  folded_in i vs (RefValue x) a g = cc

  module _ (d : Deeper) (opens : Opens p (Fine p) d) (s : State) (fine : Fine p s) where
    moved : (a b : Assertion) (hs rest : Holdings) → entries p s a ≡ entries p s b → Takes p s.heap q s b hs rest → Takes p s.heap q s a hs rest
    moved a b hs rest e t = record { entries_of = t.entries_of; entries_are = e ∙ t.entries_are; can = t.can; rest_is = t.rest_is; stock = t.stock }

    pub take_takes : (a : Assertion) (hs rest : Holdings) → IsPlainBody p Rigid a → Stock p s.heap hs → take p d s q a hs ≡ Ok rest → Takes p s.heap q s a hs rest
    take_takes (Pure e) hs rest k st eq =
        let x = undo (fit p d s e) (λ v. guard (place_of e) (is_true v) >>= λ _. Ok hs) rest eq in
        let y = undo (guard (place_of e) (is_true x.it)) (λ _. Ok hs) rest x.then in
        let v = value_here p q (positive_le scale) d opens s e x.it fine k x.is in
        nothing_taken s.heap s (Pure e) hs rest
        (step (λ v. cond (is_true v) (Some []) None) x.it v ∙ ap (λ (b : Bool). cond b (Some []) None) (guarded (place_of e) (is_true x.it) y.it y.is))
        st (ok_same hs rest y.then)
    take_takes (Points at e f share) hs rest k st eq =
        let x = undo (field_part p d s at e f share) (take_part p d s q at hs) rest eq in
        let y = field_parts p d s at e f share x.it x.is in
        let r = value_here p q (positive_le scale) d opens s e y.receiver fine k.0 y.receiver_is in
        let w = value_here p q (positive_le scale) d opens s share y.worth fine k.1.plain y.worth_is in
        let part = part_of d s at hs rest (At y.location) y.amount x.it y.is x.then in
        let sign : Le none (product q y.amount) = product_sign (positive_le scale) (record { holds = y.sign }) in
        one_taken s.heap s (Points at e f share) hs rest (At y.location) y.amount
        (step (λ r. option_and_then (location_entry f r) (value p no_applications s share)) y.receiver r ∙ step (location_entry f y.receiver) y.worth w ∙ located f y.receiver y.worth y.location y.amount y.location_is y.amount_is)
        tt (subst (Stock p s.heap) part.rest_is (lost_stock s.heap hs (At y.location) (product q y.amount) tt sign part.below st)) part.rest_is
    take_takes (syntax.Instance at i es share) hs rest k st eq =
        let x = undo (instance_part p d s at i es share) (take_part p d s q at hs) rest eq in
        let y = instance_parts p d s at i es share x.it x.is in
        let j : Instance = record { predicate = i; arguments = y.arguments } in
        let r = values_here p q (positive_le scale) d opens s es y.arguments fine k.0 y.arguments_are in
        let w = value_here p q (positive_le scale) d opens s share y.worth fine k.1.plain y.worth_is in
        let part = part_of d s at hs rest (Folded j) y.amount x.it y.is x.then in
        let sign : Le none (product q y.amount) = product_sign (positive_le scale) (record { holds = y.sign }) in
        let am = amount_same y.worth y.amount k.1.amount y.amount_is (sym w ∙ k.1.value_is s) in
        let positive : Positive (product q y.amount) = product_positive scale (subst Positive (sym am) (above_none k.1)) in
        one_taken s.heap s (syntax.Instance at i es share) hs rest (Folded j) y.amount
        (step (λ vs. option_and_then (instance_entry i vs) (value p no_applications s share)) y.arguments r ∙ step (instance_entry i y.arguments) y.worth w ∙ folded_in i y.arguments y.worth y.amount y.amount_is)
        (st.grounded j (positive-le positive part.below))
        (subst (Stock p s.heap) part.rest_is (lost_stock s.heap hs (Folded j) (product q y.amount) (k.2 s y.arguments fine.typed r) sign part.below st)) part.rest_is
    take_takes (Both a b) hs rest k st eq =
        let x = undo (take p d s q a hs) (λ h. take p d s q b h) rest eq in
        let first = take_takes a hs x.it k.0 st x.is in
        let second = take_takes b x.it rest k.1 first.stock x.then in
        record {
          entries_of = first.entries_of ++ second.entries_of;
          entries_are = step (λ xs. option_and_then (λ ys. Some (xs ++ ys)) (entries p s b)) first.entries_of first.entries_are ∙ step (λ ys. Some (first.entries_of ++ ys)) second.entries_of second.entries_are;
          can = entries_both s.heap first.entries_of second.entries_of first.can second.can;
          rest_is = second.rest_is ∙ ap (taken q second.entries_of) first.rest_is ∙ sym (taken_append q first.entries_of second.entries_of hs);
          stock = second.stock;
        }
    take_takes (Implied c a) hs rest k st eq =
        let x = undo (fit p d s c) (λ v. choose (place_of c) v (take p d s q a hs) (Ok hs)) rest eq in
        let w = value_here p q (positive_le scale) d opens s c x.it fine k.0 x.is in
        go x.it w (λ e. take_takes a hs rest k.1 st e) x.then
      where
        go : (v : Value) → value p no_applications s c ≡ Some v → (take p d s q a hs ≡ Ok rest → Takes p s.heap q s a hs rest) → choose (place_of c) v (take p d s q a hs) (Ok hs) ≡ Ok rest → Takes p s.heap q s (Implied c a) hs rest
        go (BoolValue true) w f e = moved (Implied c a) a hs rest (step (λ v. plain.choose v (entries p s a) (Some [])) (BoolValue true) w) (f e)
        go (BoolValue false) w f e = nothing_taken s.heap s (Implied c a) hs rest (step (λ v. plain.choose v (entries p s a) (Some [])) (BoolValue false) w) st (ok_same hs rest e)
        go (IntValue z) w f e = absurd (failed (place_of c) rest e)
        go (RefValue z) w f e = absurd (failed (place_of c) rest e)
        go (PermValue z) w f e = absurd (failed (place_of c) rest e)
    take_takes (Chosen c a b) hs rest k st eq =
        let x = undo (fit p d s c) (λ v. choose (place_of c) v (take p d s q a hs) (take p d s q b hs)) rest eq in
        let w = value_here p q (positive_le scale) d opens s c x.it fine k.0 x.is in
        go x.it w (λ e. take_takes a hs rest k.1 st e) (λ e. take_takes b hs rest k.2 st e) x.then
      where
        go : (v : Value) → value p no_applications s c ≡ Some v → (take p d s q a hs ≡ Ok rest → Takes p s.heap q s a hs rest) → (take p d s q b hs ≡ Ok rest → Takes p s.heap q s b hs rest) →
            choose (place_of c) v (take p d s q a hs) (take p d s q b hs) ≡ Ok rest → Takes p s.heap q s (Chosen c a b) hs rest
        go (BoolValue true) w f g e = moved (Chosen c a b) a hs rest (step (λ v. plain.choose v (entries p s a) (entries p s b)) (BoolValue true) w) (f e)
        go (BoolValue false) w f g e = moved (Chosen c a b) b hs rest (step (λ v. plain.choose v (entries p s a) (entries p s b)) (BoolValue false) w) (g e)
        go (IntValue z) w f g e = absurd (failed (place_of c) rest e)
        go (RefValue z) w f g e = absurd (failed (place_of c) rest e)
        go (PermValue z) w f g e = absurd (failed (place_of c) rest e)
