-- What adding the parts of a body does to what is held.
use Rattle.std.proofs.Common.{◌≡◌, Bool, true, false, cond, List, [], ◌∷◌, ◌++◌, Option, Some, None, refl, sym, ◌∙◌, ap, ap₂, subst}
use Rattle.std.specs.Prelude.{Ok, option_and_then}
use Rattle.std.proofs.lemmas.Option.{same_Some}
use Rattle.vx_ast.specs.declared.Place.{Place}
use Rattle.vx_frac.specs.Fractions.{Fraction, none, sum, product}
use Rattle.vx_ast.specs.Syntax.{Name, Program, Expr, Exprs, Assertion, Pure, Points, Both, Implied, Chosen, place_of}
use Rattle.vx_ast.specs.Syntax as syntax
use Rattle.vx_meaning.specs.Values.{Value, IntValue, BoolValue, RefValue, PermValue, is_true}
use Rattle.vx_meaning.specs.States.{State, Heap, Holdings, Location, Instance, Resource, At, Folded, same_resource, amount, gained, with_holdings}
use Rattle.vx_meaning.specs.Evaluate as plain
use Rattle.vx_meaning.specs.Evaluate.{value, values}
use Rattle.vx_meaning.specs.Flatten.{no_applications, entries, location_entry, instance_entry, IsGrounded}
use Rattle.vx_meaning.specs.Fits.{Checked, Deeper, choose, location_of, amount_of, fit, fit_all, field_part, instance_part, add, add_part}
use Rattle.vx_amounts.proofs.Amounts.{Le, Positive, Same, same-refl, same-sym, same-trans, sum_same, none-sum, sum_comm, sum_assoc, none-none}
use Rattle.vx_amounts.proofs.Products.{product_sum, product_assoc, product-none, product_sign}
use Rattle.vx_sound_preds.specs.Bodies.{Rigid, IsPlain, ArePlain, IsPlainBody}
use Rattle.vx_sound_preds.proofs.Fitting.{undo, step, Opens, fit_framed, fit_all_framed}
use Rattle.vx_sound_preds.proofs.Flats.{came}
use Rattle.vx_sound_preds.proofs.Totals.{weigh, same_is}
use Rattle.vx_sound_preds.proofs.Grouped.{IsSingle, AreSingle, NoDebts, resource_is}
use Rattle.vx_sound_preds.proofs.Framing.{Known, field_parts, instance_parts, agrees_itself, entries_seen, ok_same, failed}

-- of nothing less than none is held, and no instance has an amount among its arguments
abbrev pub Sound : State → Type 0
Sound s = NoDebts s.holdings × AreSingle s.holdings

-- each instance that is held is grounded
abbrev pub Grounded : Program → State → Type 0
Grounded p s = (i : Instance) → Positive (amount s.holdings (Folded i)) → IsGrounded p s.heap i

abbrev pub Fine : Program → State → Type 0
Fine p = Known Rigid Sound (Grounded p)

-- an entry that can be added
abbrev pub IsEntry : Program → Heap → Resource → Type 0
IsEntry p h (At l) = Unit {0}
IsEntry p h (Folded i) = IsGrounded p h i

abbrev pub AreEntries : Program → Heap → Holdings → Type 0
AreEntries p h [] = Unit {0}
AreEntries p h (x ∷ xs) = IsEntry p h x.0 × AreEntries p h xs

entries_left : (p : Program) (h : Heap) (xs ys : Holdings) → AreEntries p h (xs ++ ys) → AreEntries p h xs
entries_left p h [] ys k = tt
entries_left p h (x ∷ xs) ys k = (k.0, entries_left p h xs ys k.1)

entries_right : (p : Program) (h : Heap) (xs ys : Holdings) → AreEntries p h (xs ++ ys) → AreEntries p h ys
entries_right p h [] ys k = k
entries_right p h (x ∷ xs) ys k = entries_right p h xs ys k.1

-- the entries, scaled, one after the other
unfoldable pub added : Fraction → Holdings → Holdings → Holdings
added q [] h = h
added q (x ∷ xs) h = added q xs (gained x.0 (product q x.1) h)

pub added_append : (q : Fraction) (xs ys h : Holdings) → added q (xs ++ ys) h ≡ added q ys (added q xs h)
unfolding added
added_append q [] ys h = refl
added_append q (x ∷ xs) ys h = added_append q xs ys (gained x.0 (product q x.1) h)

pub weigh_added : (w : Resource → Fraction) (q : Fraction) (es h : Holdings) → Same (weigh w (added q es h)) (sum (product q (weigh w es)) (weigh w h))
unfolding weigh added
weigh_added w q [] h = same-sym (same-trans (sum_same (product-none q) (same-refl (weigh w h))) (none-sum (weigh w h)))
weigh_added w q (x ∷ xs) h =
    let a = product x.1 (w x.0) in
    let b = weigh w xs in
    let c = weigh w h in
    same-trans (weigh_added w q xs (gained x.0 (product q x.1) h))
    (same-trans (same-sym (sum_assoc (product q b) (product (product q x.1) (w x.0)) c))
    (sum_same (same-trans (sum_comm (product q b) (product (product q x.1) (w x.0)))
    (same-trans (sum_same (same_is (product_assoc q x.1 (w x.0))) (same-refl (product q b))) (same-sym (product_sum q a b)))) (same-refl c)))

-- What is known goes on.

pub record Adds (p : Program) (q : Fraction) (es : Holdings) (s u : State) : Type 0 where
  pub store : u.store ≡ s.store
  pub heap : u.heap ≡ s.heap
  pub old_heap : u.old_heap ≡ s.old_heap
  pub old_holdings : u.old_holdings ≡ s.old_holdings
  pub holdings : u.holdings ≡ added q es s.holdings
  pub fine : Fine p u

module _ (p : Program) (q : Fraction) (scale : Le none q) where
  no_debts_gained : (r : Resource) (a : Fraction) (h : Holdings) → Le none a → NoDebts h → NoDebts (gained r (product q a) h)
  no_debts_gained r a h k n c sc = go (same_resource c r)
    where
      go : (b : Bool) → Le none (cond b (sum (product q a) (amount h c)) (amount h c))
      go true = none-none (product_sign scale k) (n c sc)
      go false = n c sc

  grounded_gained : (r : Resource) (a : Fraction) (s : State) → IsSingle r → IsEntry p s.heap r → Grounded p s → Grounded p (with_holdings (gained r (product q a) s.holdings) s)
  grounded_gained r a s sr er g i = go (same_resource (Folded i) r) refl
    where
      at : (c : Resource) → Folded i ≡ c → IsEntry p s.heap c → IsGrounded p s.heap i
      at c e k = subst (IsEntry p s.heap) (sym e) k

      go : (b : Bool) → same_resource (Folded i) r ≡ b → Positive (cond b (sum (product q a) (amount s.holdings (Folded i))) (amount s.holdings (Folded i))) → IsGrounded p s.heap i
      go true e h = at r (resource_is (Folded i) r sr e) er
      go false e h = g i h

  pub fine_gained : (r : Resource) (a : Fraction) (s : State) → IsSingle r → IsEntry p s.heap r → Le none a → Fine p s → Adds p q ((r, a) ∷ []) s (with_holdings (gained r (product q a) s.holdings) s)
  unfolding added
  fine_gained r a s sr er k f = record {
    store = refl;
    heap = refl;
    old_heap = refl;
    old_holdings = refl;
    holdings = refl;
    fine = record {
      typed = f.typed;
      forth = (no_debts_gained r a s.holdings k f.forth.0, (sr, f.forth.1));
      back = grounded_gained r a s sr er f.back;
    };
  }

  pub location_entries : (f : Name) (r v : Value) (l : Location) (a : Fraction) (es : Holdings) → location_of f r ≡ Some l → amount_of v ≡ Some a → location_entry f r v ≡ Some es → es ≡ (At l, a) ∷ []
  location_entries f (RefValue r) (PermValue x) l a es e g h =
      let m : Location = record { receiver = r; field = f } in
      sym (same_Some ((At m, x) ∷ []) es h) ∙ ap₂ (λ (l : Location) (a : Fraction). let y : Holdings = (At l, a) ∷ [] in y) (same_Some m l e) (same_Some x a g)
  location_entries f (RefValue r) (IntValue x) l a es e g h = cc
  location_entries f (RefValue r) (BoolValue x) l a es e g h = cc
  location_entries f (RefValue r) (RefValue x) l a es e g h = cc
  location_entries f (IntValue r) v l a es e g h = cc
  location_entries f (BoolValue r) v l a es e g h = cc
  location_entries f (PermValue r) v l a es e g h = cc

  pub instance_entries : (i : Name) (vs : List Value) (v : Value) (a : Fraction) (es : Holdings) → amount_of v ≡ Some a → instance_entry i vs v ≡ Some es → es ≡ (Folded record { predicate = i; arguments = vs }, a) ∷ []
  instance_entries i vs (PermValue x) a es g h =
      let j : Instance = record { predicate = i; arguments = vs } in
      sym (same_Some ((Folded j, x) ∷ []) es h) ∙ ap (λ (a : Fraction). let y : Holdings = (Folded j, a) ∷ [] in y) (same_Some x a g)
  instance_entries i vs (IntValue x) a es g h = cc
  instance_entries i vs (BoolValue x) a es g h = cc
  instance_entries i vs (RefValue x) a es g h = cc

  nothing_added : (s u : State) → Fine p s → s ≡ u → Adds p q [] s u
  unfolding added
  nothing_added s u f e = subst (Adds p q [] s) e record { store = refl; heap = refl; old_heap = refl; old_holdings = refl; holdings = refl; fine = f }

  both_added : (xs ys : Holdings) (s t u : State) → Adds p q xs s t → Adds p q ys t u → Adds p q (xs ++ ys) s u
  both_added xs ys s t u a b = record {
    store = b.store ∙ a.store;
    heap = b.heap ∙ a.heap;
    old_heap = b.old_heap ∙ a.old_heap;
    old_holdings = b.old_holdings ∙ a.old_holdings;
    holdings = b.holdings ∙ ap (added q ys) a.holdings ∙ sym (added_append q xs ys s.holdings);
    fine = b.fine;
  }

  no_entries : (v : Value) (es : Holdings) → cond (is_true v) (Some []) None ≡ Some es → es ≡ []
  no_entries v es e = go (is_true v) e
    where
      go : (b : Bool) → cond b (Some []) None ≡ Some es → es ≡ []
      go true e = sym (same_Some [] es e)
      go false e = cc

  -- the side that is picked, for the check and for the entries
  side : {R : Type 0} {B : Type 0} (at : Place) (v : Value) (x y : Checked State) (z w : Option B) (u : State) (b : B) →
      (x ≡ Ok u → z ≡ Some b → R) → (y ≡ Ok u → w ≡ Some b → R) → choose at v x y ≡ Ok u → plain.choose v z w ≡ Some b → R
  side at (BoolValue true) x y z w u b h k e f = h e f
  side at (BoolValue false) x y z w u b h k e f = k e f
  side at (IntValue n) x y z w u b h k e f = absurd (failed at u e)
  side at (RefValue r) x y z w u b h k e f = absurd (failed at u e)
  side at (PermValue n) x y z w u b h k e f = absurd (failed at u e)

  module _ (d : Deeper) (opens : Opens p (Fine p) d) where
    pub value_here : (s : State) (e : Expr) (v : Value) → Fine p s → IsPlain e → fit p d s e ≡ Ok v → value p no_applications s e ≡ Some v
    value_here s e v f k eq = fit_framed p (Fine p) d opens s s f (agrees_itself p s) e v k eq

    pub values_here : (s : State) (es : Exprs) (vs : List Value) → Fine p s → ArePlain es → fit_all p d s es ≡ Ok vs → values p no_applications s es ≡ Some vs
    values_here s es vs f k eq = fit_all_framed p (Fine p) d opens s s f (agrees_itself p s) es vs k eq

    pub add_adds : (a : Assertion) (s u : State) (es : Holdings) → IsPlainBody p Rigid a → Fine p s → entries p s a ≡ Some es → AreEntries p s.heap es → add p d q a s ≡ Ok u → Adds p q es s u
    add_adds (Pure e) s u es k f en ok eq =
        let x = undo (fit p d s e) (λ _. Ok s) u eq in
        let y = came (value p no_applications s e) (λ v. cond (is_true v) (Some []) None) es en in
        subst (λ (es : Holdings). Adds p q es s u) (sym (no_entries y.it es y.then)) (nothing_added s u f (ok_same s u x.then))
    add_adds (Points at e x share) s u es k f en ok eq =
        let b = undo (field_part p d s at e x share) (add_part p d q s) u eq in
        let y = field_parts p d s at e x share b.it b.is in
        let r = value_here s e y.receiver f k.0 y.receiver_is in
        let w = value_here s share y.worth f k.1.plain y.worth_is in
        let es_is = location_entries x y.receiver y.worth y.location y.amount es y.location_is y.amount_is
        (sym (step (location_entry x y.receiver) y.worth w) ∙ sym (step (λ r. option_and_then (location_entry x r) (value p no_applications s share)) y.receiver r) ∙ en) in
        let u_is = ap (λ (y : Resource × Fraction). with_holdings (gained y.0 (product q y.1) s.holdings) s) (ok_same {A = Resource × Fraction} (At y.location, y.amount) b.it y.is) ∙ ok_same (with_holdings (gained b.it.0 (product q b.it.1) s.holdings) s) u b.then in
        subst (λ (es : Holdings). Adds p q es s u) (sym es_is)
        (subst (Adds p q ((At y.location, y.amount) ∷ []) s) u_is (fine_gained (At y.location) y.amount s tt tt (record { holds = y.sign }) f))
    add_adds (syntax.Instance at i xs share) s u es k f en ok eq =
        let b = undo (instance_part p d s at i xs share) (add_part p d q s) u eq in
        let y = instance_parts p d s at i xs share b.it b.is in
        let j : Instance = record { predicate = i; arguments = y.arguments } in
        let r = values_here s xs y.arguments f k.0 y.arguments_are in
        let w = value_here s share y.worth f k.1.plain y.worth_is in
        let es_is = instance_entries i y.arguments y.worth y.amount es y.amount_is
        (sym (step (instance_entry i y.arguments) y.worth w) ∙ sym (step (λ vs. option_and_then (instance_entry i vs) (value p no_applications s share)) y.arguments r) ∙ en) in
        let u_is = ap (λ (y : Resource × Fraction). with_holdings (gained y.0 (product q y.1) s.holdings) s) (ok_same {A = Resource × Fraction} (Folded j, y.amount) b.it y.is) ∙ ok_same (with_holdings (gained b.it.0 (product q b.it.1) s.holdings) s) u b.then in
        let entry = subst (AreEntries p s.heap) es_is ok in
        subst (λ (es : Holdings). Adds p q es s u) (sym es_is)
        (subst (Adds p q ((Folded j, y.amount) ∷ []) s) u_is (fine_gained (Folded j) y.amount s (k.2 s y.arguments f.typed r) entry.0 (record { holds = y.sign }) f))
    add_adds (Both a b) s u es k f en ok eq =
        let x = undo (add p d q a s) (λ t. add p d q b t) u eq in
        let y = came (entries p s a) (λ xs. option_and_then (λ ys. Some (xs ++ ys)) (entries p s b)) es en in
        let z = came (entries p s b) (λ ys. Some (y.it ++ ys)) es y.then in
        let es_is : y.it ++ z.it ≡ es = same_Some (y.it ++ z.it) es z.then in
        let all = subst (AreEntries p s.heap) (sym es_is) ok in
        let first = add_adds a s x.it y.it k.0 f y.is (entries_left p s.heap y.it z.it all) x.is in
        let seen = entries_seen p Rigid s x.it (record { store = first.store; heap = first.heap }) b k.1 in
        let rest = subst (λ (h : Heap). AreEntries p h z.it) (sym first.heap) (entries_right p s.heap y.it z.it all) in
        let second = add_adds b x.it u z.it k.1 first.fine (seen ∙ z.is) rest x.then in
        subst (λ (es : Holdings). Adds p q es s u) es_is (both_added y.it z.it s x.it u first second)
    add_adds (Implied c a) s u es k f en ok eq =
        let x = undo (fit p d s c) (λ v. choose (place_of c) v (add p d q a s) (Ok s)) u eq in
        let w = value_here s c x.it f k.0 x.is in
        side {R = Adds p q es s u} (place_of c) x.it (add p d q a s) (Ok s) (entries p s a) (Some []) u es
        (λ e g. add_adds a s u es k.1 f g ok e)
        (λ e g. subst (λ (es : Holdings). Adds p q es s u) (same_Some [] es g) (nothing_added s u f (ok_same s u e)))
        x.then (sym (step (λ v. plain.choose v (entries p s a) (Some [])) x.it w) ∙ en)
    add_adds (Chosen c a b) s u es k f en ok eq =
        let x = undo (fit p d s c) (λ v. choose (place_of c) v (add p d q a s) (add p d q b s)) u eq in
        let w = value_here s c x.it f k.0 x.is in
        side {R = Adds p q es s u} (place_of c) x.it (add p d q a s) (add p d q b s) (entries p s a) (entries p s b) u es
        (λ e g. add_adds a s u es k.1 f g ok e) (λ e g. add_adds b s u es k.2 f g ok e)
        x.then (sym (step (λ v. plain.choose v (entries p s a) (entries p s b)) x.it w) ∙ en)
