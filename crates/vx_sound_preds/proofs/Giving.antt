-- What any assertion of a method gives keeps what is known of what is held.
use Rattle.std.proofs.Common.{◌≡◌, Bool, true, false, cond, inl, inr, List, sym, ◌∙◌, ap, subst}
use Rattle.std.specs.Prelude.{Ok}
use Rattle.vx_frac.specs.Fractions.{Fraction, none, sum, product}
use Rattle.vx_ast.specs.Syntax.{Program, Assertion, Pure, Points, Both, Implied, Chosen, place_of}
use Rattle.vx_ast.specs.Syntax as syntax
use Rattle.vx_meaning.specs.Values.{Value, is_true}
use Rattle.vx_meaning.specs.States.{State, Holdings, Resource, At, Folded, same_resource, amount, gained, with_holdings}
use Rattle.vx_meaning.specs.Fits.{Checked, Deeper, choose, fit, fit_all, field_part, instance_part, add, add_part}
use Rattle.vx_meaning.specs.Outcomes.{Ends, passes, refused, goes_on, is_over, ends, stops}
use Rattle.vx_meaning.specs.Give.{give, if_possible, when}
use Rattle.vx_amounts.proofs.Amounts.{Le, Positive, none-none}
use Rattle.vx_amounts.proofs.Products.{product_sign, positive_le}
use Rattle.vx_sound_preds.specs.Bodies.{AreRigid}
use Rattle.vx_sound_preds.proofs.Fitting.{undo}
use Rattle.vx_sound_preds.proofs.Grouped.{IsSingle, NoDebts}
use Rattle.vx_sound_preds.proofs.Framing.{field_parts, instance_parts, ok_same, picked}
use Rattle.vx_sound_preds.proofs.Adding.{Sound}

-- the arguments of each instance are no amounts, in the states of T
abbrev pub AlwaysRigid : Program → (State → Type 0) → Deeper → Assertion → Type 0
AlwaysRigid p T d (syntax.Instance at i es share) = (s : State) (vs : List Value) → T s → fit_all p d s es ≡ Ok vs → AreRigid vs
AlwaysRigid p T d (Both a b) = AlwaysRigid p T d a × AlwaysRigid p T d b
AlwaysRigid p T d (Implied c a) = AlwaysRigid p T d a
AlwaysRigid p T d (Chosen c a b) = AlwaysRigid p T d a × AlwaysRigid p T d b
AlwaysRigid p T d _ = Unit {0}

module _ (p : Program) (q : Fraction) (scale : Positive q) (T : State → Type 0) (keeps : (h : Holdings) (s : State) → T s → T (with_holdings h s)) (d : Deeper) where
  abbrev Kept : State → Type 0
  Kept s = Sound s × T s

  gained_sound : (s : State) (r : Resource) (a : Fraction) → IsSingle r → Le none a → Sound s → Sound (with_holdings (gained r (product q a) s.holdings) s)
  gained_sound s r a sr k so = (debts, (sr, so.1))
    where
      debts : NoDebts (gained r (product q a) s.holdings)
      debts c sc = go (same_resource c r)
        where
          go : (b : Bool) → Le none (cond b (sum (product q a) (amount s.holdings c)) (amount s.holdings c))
          go true = none-none (product_sign (positive_le scale) k) (so.0 c sc)
          go false = so.0 c sc

  part_is : (s u : State) (r : Resource) (a : Fraction) (part : Resource × Fraction) → ◌≡◌ {A = Checked (Resource × Fraction)} (Ok (r, a)) (Ok part) → add_part p d q s part ≡ Ok u → with_holdings (gained r (product q a) s.holdings) s ≡ u
  part_is s u r a part is eq =
      ap (λ (y : Resource × Fraction). with_holdings (gained y.0 (product q y.1) s.holdings) s) (ok_same {A = Resource × Fraction} (r, a) part is)
      ∙ ok_same (with_holdings (gained part.0 (product q part.1) s.holdings) s) u eq

  pub add_sound : (a : Assertion) (s u : State) → AlwaysRigid p T d a → Kept s → add p d q a s ≡ Ok u → Kept u
  add_sound (Pure e) s u k so eq =
      let x = undo (fit p d s e) (λ _. Ok s) u eq in
      subst Kept (ok_same s u x.then) so
  add_sound (Points at e f share) s u k so eq =
      let x = undo (field_part p d s at e f share) (add_part p d q s) u eq in
      let y = field_parts p d s at e f share x.it x.is in
      subst Kept (part_is s u (At y.location) y.amount x.it y.is x.then) (gained_sound s (At y.location) y.amount tt (record { holds = y.sign }) so.0, keeps (gained (At y.location) (product q y.amount) s.holdings) s so.1)
  add_sound (syntax.Instance at i es share) s u k so eq =
      let x = undo (instance_part p d s at i es share) (add_part p d q s) u eq in
      let y = instance_parts p d s at i es share x.it x.is in
      let r : Resource = Folded record { predicate = i; arguments = y.arguments } in
      subst Kept (part_is s u r y.amount x.it y.is x.then) (gained_sound s r y.amount (k s y.arguments so.1 y.arguments_are) (record { holds = y.sign }) so.0, keeps (gained r (product q y.amount) s.holdings) s so.1)
  add_sound (Both a b) s u k so eq =
      let x = undo (add p d q a s) (λ t. add p d q b t) u eq in
      add_sound b x.it u k.1 (add_sound a s x.it k.0 so x.is) x.then
  add_sound (Implied c a) s u k so eq =
      let x = undo (fit p d s c) (λ v. choose (place_of c) v (add p d q a s) (Ok s)) u eq in
      picked {R = Kept u} (place_of c) x.it (add p d q a s) (Ok s) u (λ e. add_sound a s u k so e) (λ e. subst Kept (ok_same s u e) so) x.then
  add_sound (Chosen c a b) s u k so eq =
      let x = undo (fit p d s c) (λ v. choose (place_of c) v (add p d q a s) (add p d q b s)) u eq in
      picked {R = Kept u} (place_of c) x.it (add p d q a s) (add p d q b s) u (λ e. add_sound a s u k.0 so e) (λ e. add_sound b s u k.1 so e) x.then

-- where a Give ends, the state can be
pub give_possible : (p : Program) (Possible : State → Type 0) (q : Fraction) (a : Assertion) (s t : State) → Possible s → give p Possible q a s (Ends t) → Possible t
give_possible p Possible q (Pure e) s t h (passes v ev r) = go (is_true v) r
  where
    go : (b : Bool) → when b (ends s) stops (Ends t) → Possible t
    go true r = subst Possible (sym r) h
    go false r = absurd r
give_possible p Possible q (Pure e) s t h (refused at ev r) = absurd r
give_possible p Possible q (Points at e f share) s t h (passes part ev r) = made r
  where
    made : {u : State} → if_possible p Possible q u (Ends t) → Possible t
    made (inl x) = subst Possible (sym x.1) x.0
    made (inr x) = absurd x.1
give_possible p Possible q (Points at e f share) s t h (refused place ev r) = absurd r
give_possible p Possible q (syntax.Instance at i es share) s t h (passes part ev r) = made r
  where
    made : {u : State} → if_possible p Possible q u (Ends t) → Possible t
    made (inl x) = subst Possible (sym x.1) x.0
    made (inr x) = absurd x.1
give_possible p Possible q (syntax.Instance at i es share) s t h (refused place ev r) = absurd r
give_possible p Possible q (Both a b) s t h (goes_on m x y) = give_possible p Possible q b m t (give_possible p Possible q a s m h x) y
give_possible p Possible q (Both a b) s t h (is_over o x) = absurd o
give_possible p Possible q (Implied c a) s t h (passes v ev r) = go (is_true v) (λ z. give_possible p Possible q a s t h z) r
  where
    go : (b : Bool) → (give p Possible q a s (Ends t) → Possible t) → when b (give p Possible q a s) (ends s) (Ends t) → Possible t
    go true f r = f r
    go false f r = subst Possible (sym r) h
give_possible p Possible q (Implied c a) s t h (refused place ev r) = absurd r
give_possible p Possible q (Chosen c a b) s t h (passes v ev r) = go (is_true v) (λ z. give_possible p Possible q a s t h z) (λ z. give_possible p Possible q b s t h z) r
  where
    go : (b' : Bool) → (give p Possible q a s (Ends t) → Possible t) → (give p Possible q b s (Ends t) → Possible t) → when b' (give p Possible q a s) (give p Possible q b s) (Ends t) → Possible t
    go true f g r = f r
    go false f g r = g r
give_possible p Possible q (Chosen c a b) s t h (refused place ev r) = absurd r
