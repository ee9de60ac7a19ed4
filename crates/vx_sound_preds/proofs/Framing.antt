-- The entries and the tree of a body look at no location of which nothing is held.
use Rattle.std.proofs.Common.{◌≡◌, true, false, cond, List, [], ◌++◌, Option, Some, None, refl, sym, ◌∙◌, ap, ap₂, subst}
use Rattle.std.specs.Prelude.{Ok, Err, option_and_then}
use Rattle.std.proofs.lemmas.Option.{same_Some}
use Rattle.vx_ast.specs.declared.Place.{Place}
use Rattle.vx_frac.specs.Fractions.{Fraction, none, at_most, product}
use Rattle.vx_ast.specs.Syntax.{Name, Program, Expr, Exprs, Assertion, Pure, Points, Both, Implied, Chosen, place_of}
use Rattle.vx_ast.specs.Syntax as syntax
use Rattle.vx_meaning.specs.Values.{Value, IntValue, BoolValue, RefValue, PermValue, is_true}
use Rattle.vx_meaning.specs.States.{State, Heap, Holdings, Location, Instance, Resource, At, Folded, amount, gained, value_at, with_holdings}
use Rattle.vx_meaning.specs.Evaluate as plain
use Rattle.vx_meaning.specs.Evaluate.{value}
use Rattle.vx_meaning.specs.Flatten.{no_applications, entries, location_entry, instance_entry}
use Rattle.vx_meaning.specs.Consistent.{IsHeld}
use Rattle.vx_meaning.specs.Fits.{Checked, ◌>>=◌, or_fail, guard, Deeper, choose, location_of, amount_of, fit, fit_all, field_part, instance_part, add, add_part}
use Rattle.vx_terms.specs.Interpretations.{Tree, Empty, Pair}
use Rattle.vx_amounts.proofs.Amounts.{Positive}
use Rattle.vx_sound_preds.specs.Bodies.{AreRigid, IsAmount, IsPlainBody}
use Rattle.vx_sound.specs.Snapshots.{leaf, location_leaf, truth_leaf, assertion_tree}
use Rattle.vx_sound_preds.proofs.Grouped.{IsSingle}
use Rattle.vx_sound_preds.proofs.Looks.{Sees, value_seen, values_seen}
use Rattle.vx_sound_preds.proofs.Fitting.{undo, not_failed, guarded, step, Agrees, Opens, fit_framed, fit_all_framed}

pub above_none : {p : Program} {share : Expr} (k : IsAmount p share) → Positive k.amount
above_none k = record { holds = k.above }

-- What is known of states: T of their values, F of what is held, which goes on with more, and B, which goes back to less.
pub record Known (T F B : State → Type 0) (s : State) : Type 0 where
  pub typed : T s
  pub forth : F s
  pub back : B s

-- a state with more: what is held stays held
pub record Later (p : Program) (T F : State → Type 0) (s u : State) : Type 0 where
  pub store : u.store ≡ s.store
  pub heap : u.heap ≡ s.heap
  pub held : (l : Location) → IsHeld p s.heap s.holdings l → IsHeld p u.heap u.holdings l
  pub folded : (i : Instance) → Positive (amount s.holdings (Folded i)) → Positive (amount u.holdings (Folded i))
  pub typed : T u
  pub forth : F u

pub later_same : (p : Program) (T F : State → Type 0) (s : State) → T s → F s → Later p T F s s
later_same p T F s t f = record { store = refl; heap = refl; held = λ l h. h; folded = λ i h. h; typed = t; forth = f }

pub later_both : (p : Program) (T F : State → Type 0) (s t u : State) → Later p T F s t → Later p T F t u → Later p T F s u
later_both p T F s t u a b = record {
  store = b.store ∙ a.store;
  heap = b.heap ∙ a.heap;
  held = λ l h. b.held l (a.held l h);
  folded = λ i h. b.folded i (a.folded i h);
  typed = b.typed;
  forth = b.forth;
}

pub agrees_earlier : (p : Program) (T F : State → Type 0) (s u t : State) → Later p T F s u → Agrees p u t → Agrees p s t
agrees_earlier p T F s u t k g = record {
  store = g.store ∙ k.store;
  heap = λ l h. g.heap l (k.held l h) ∙ ap (λ (x : Heap). value_at p x l) k.heap;
}

pub agrees_itself : (p : Program) (s : State) → Agrees p s s
agrees_itself p s = record { store = refl; heap = λ l h. refl }

-- what adding an amount does, and that an added amount above none is held
pub record Gains (p : Program) (T F B : State → Type 0) (q : Fraction) : Type 0 where
  pub later : (s : State) (r : Resource) (a : Fraction) → IsSingle r → at_most none a ≡ true → T s → F s → Later p T F s (with_holdings (gained r (product q a) s.holdings) s)
  pub earlier : (s : State) (r : Resource) (a : Fraction) → at_most none a ≡ true → B (with_holdings (gained r (product q a) s.holdings) s) → B s
  pub at : (s : State) (l : Location) (a : Fraction) → F s → Positive a → IsHeld p s.heap (gained (At l) (product q a) s.holdings) l
  pub in_it : (s : State) (i : Instance) (a : Fraction) → F s → AreRigid i.arguments → Positive a → Positive (amount (gained (Folded i) (product q a) s.holdings) (Folded i))

-- The parts of a permission

pub record FieldParts (p : Program) (d : Deeper) (s : State) (e : Expr) (f : Name) (share : Expr) (part : Resource × Fraction) : Type 0 where
  pub receiver : Value
  pub receiver_is : fit p d s e ≡ Ok receiver
  pub location : Location
  pub location_is : location_of f receiver ≡ Some location
  pub worth : Value
  pub worth_is : fit p d s share ≡ Ok worth
  pub amount : Fraction
  pub amount_is : amount_of worth ≡ Some amount
  pub sign : at_most none amount ≡ true
  pub is : ◌≡◌ {A = Checked (Resource × Fraction)} (Ok (At location, amount)) (Ok part)

pub field_parts : (p : Program) (d : Deeper) (s : State) (at : Place) (e : Expr) (f : Name) (share : Expr) (part : Resource × Fraction) → field_part p d s at e f share ≡ Ok part → FieldParts p d s e f share part
field_parts p d s at e f share part eq =
    let pair = λ (l : Location) (q : Fraction). let x : Resource × Fraction = (At l, q) in x in
    let last = λ (l : Location) (q : Fraction). guard at (at_most none q) >>= λ _. Ok (pair l q) in
    let x = undo (fit p d s e) (λ r. fit p d s share >>= λ v. or_fail at (location_of f r) >>= λ l. or_fail at (amount_of v) >>= λ q. last l q) part eq in
    let y = undo (fit p d s share) (λ v. or_fail at (location_of f x.it) >>= λ l. or_fail at (amount_of v) >>= λ q. last l q) part x.then in
    let z = undo (or_fail at (location_of f x.it)) (λ l. or_fail at (amount_of y.it) >>= λ q. last l q) part y.then in
    let w = undo (or_fail at (amount_of y.it)) (λ q. last z.it q) part z.then in
    let a = undo (guard at (at_most none w.it)) (λ _. Ok (pair z.it w.it)) part w.then in
    record {
      receiver = x.it;
      receiver_is = x.is;
      location = z.it;
      location_is = not_failed at (location_of f x.it) z.it z.is;
      worth = y.it;
      worth_is = y.is;
      amount = w.it;
      amount_is = not_failed at (amount_of y.it) w.it w.is;
      sign = guarded at (at_most none w.it) a.it a.is;
      is = a.then;
    }

pub record InstanceParts (p : Program) (d : Deeper) (s : State) (i : Name) (es : Exprs) (share : Expr) (part : Resource × Fraction) : Type 0 where
  pub arguments : List Value
  pub arguments_are : fit_all p d s es ≡ Ok arguments
  pub worth : Value
  pub worth_is : fit p d s share ≡ Ok worth
  pub amount : Fraction
  pub amount_is : amount_of worth ≡ Some amount
  pub sign : at_most none amount ≡ true
  pub is : ◌≡◌ {A = Checked (Resource × Fraction)} (Ok (Folded record { predicate = i; arguments = arguments }, amount)) (Ok part)

pub instance_parts : (p : Program) (d : Deeper) (s : State) (at : Place) (i : Name) (es : Exprs) (share : Expr) (part : Resource × Fraction) → instance_part p d s at i es share ≡ Ok part → InstanceParts p d s i es share part
instance_parts p d s at i es share part eq =
    let pair = λ (vs : List Value) (q : Fraction). let x : Resource × Fraction = (Folded record { predicate = i; arguments = vs }, q) in x in
    let last = λ (vs : List Value) (q : Fraction). guard at (at_most none q) >>= λ _. Ok (pair vs q) in
    let x = undo (fit_all p d s es) (λ vs. fit p d s share >>= λ v. or_fail at (amount_of v) >>= λ q. last vs q) part eq in
    let y = undo (fit p d s share) (λ v. or_fail at (amount_of v) >>= λ q. last x.it q) part x.then in
    let w = undo (or_fail at (amount_of y.it)) (λ q. last x.it q) part y.then in
    let a = undo (guard at (at_most none w.it)) (λ _. Ok (pair x.it w.it)) part w.then in
    record {
      arguments = x.it;
      arguments_are = x.is;
      worth = y.it;
      worth_is = y.is;
      amount = w.it;
      amount_is = not_failed at (amount_of y.it) w.it w.is;
      sign = guarded at (at_most none w.it) a.it a.is;
      is = a.then;
    }

pub ok_same : {A : Type 0} (a b : A) → ◌≡◌ {A = Checked A} (Ok a) (Ok b) → a ≡ b
ok_same a b e = cc

pub amount_same : (v : Value) (a b : Fraction) → amount_of v ≡ Some a → Some v ≡ Some (PermValue b) → a ≡ b
amount_same (PermValue q) a b e f = cc
amount_same (IntValue z) a b e f = cc
amount_same (BoolValue z) a b e f = cc
amount_same (RefValue z) a b e f = cc

leaf_same : (p : Program) (h g : Heap) (f : Name) (r : Value) (l : Location) → location_of f r ≡ Some l → value_at p g l ≡ value_at p h l → location_leaf p g f r ≡ location_leaf p h f r
leaf_same p h g f (RefValue r) l e same =
    let m : Location = record { receiver = r; field = f } in
    ap (λ v. Some (leaf v)) (subst (λ (l : Location). value_at p g l ≡ value_at p h l) (sym (same_Some m l e)) same)
leaf_same p h g f (IntValue z) l e same = cc
leaf_same p h g f (BoolValue z) l e same = cc
leaf_same p h g f (PermValue z) l e same = cc

pub failed : {A : Type 0} (at : Place) (b : A) → ◌≡◌ {A = Checked A} (Err at) (Ok b) → ⊥
failed at b e = cc

-- Entries and trees look at the variables and the heap alone.

module _ (p : Program) (T : State → Type 0) (s t : State) (k : Sees s t) where
  pub entries_seen : (a : Assertion) → IsPlainBody p T a → entries p t a ≡ entries p s a
  entries_seen (Pure e) h = ap (λ (o : Option Value). option_and_then (λ v. cond (is_true v) (Some []) None) o) (value_seen p s t k e h)
  entries_seen (Points at e f share) h = ap₂ (λ (o m : Option Value). option_and_then (λ r. option_and_then (location_entry f r) m) o) (value_seen p s t k e h.0) (value_seen p s t k share h.1.plain)
  entries_seen (syntax.Instance at i es share) h = ap₂ (λ (o : Option (List Value)) (m : Option Value). option_and_then (λ vs. option_and_then (instance_entry i vs) m) o) (values_seen p s t k es h.0) (value_seen p s t k share h.1.plain)
  entries_seen (Both a b) h = ap₂ (λ (o m : Option Holdings). option_and_then (λ xs. option_and_then (λ ys. Some (xs ++ ys)) m) o) (entries_seen a h.0) (entries_seen b h.1)
  entries_seen (Implied c a) h = ap₂ (λ (o : Option Value) (m : Option Holdings). option_and_then (λ v. plain.choose v m (Some [])) o) (value_seen p s t k c h.0) (entries_seen a h.1)
  entries_seen (Chosen c a b) h =
      ap₂ (λ (o : Option Value) (m : Option Holdings). option_and_then (λ v. plain.choose v m (entries p t b)) o) (value_seen p s t k c h.0) (entries_seen a h.1)
      ∙ ap (λ (m : Option Holdings). option_and_then (λ v. plain.choose v (entries p s a) m) (value p no_applications s c)) (entries_seen b h.2)

  pub tree_seen : (f : Instance → Option Tree) (a : Assertion) → IsPlainBody p T a → assertion_tree p f t a ≡ assertion_tree p f s a
  tree_seen f (Pure e) h = ap (option_and_then truth_leaf) (value_seen p s t k e h)
  tree_seen f (Points at e x share) h = ap₂ (λ (o : Option Value) (g : Heap). option_and_then (location_leaf p g x) o) (value_seen p s t k e h.0) k.heap
  tree_seen f (syntax.Instance at i es share) h = ap (option_and_then (λ vs. f record { predicate = i; arguments = vs })) (values_seen p s t k es h.0)
  tree_seen f (Both a b) h = ap₂ (λ (o m : Option Tree). option_and_then (λ t. option_and_then (λ u. Some (Pair t u)) m) o) (tree_seen f a h.0) (tree_seen f b h.1)
  tree_seen f (Implied c a) h = ap₂ (λ (o : Option Value) (m : Option Tree). option_and_then (λ v. plain.choose v m (Some Empty)) o) (value_seen p s t k c h.0) (tree_seen f a h.1)
  tree_seen f (Chosen c a b) h =
      ap₂ (λ (o : Option Value) (m : Option Tree). option_and_then (λ v. plain.choose v m (assertion_tree p f t b)) o) (value_seen p s t k c h.0) (tree_seen f a h.1)
      ∙ ap (λ (m : Option Tree). option_and_then (λ v. plain.choose v (assertion_tree p f s a) m) (value p no_applications s c)) (tree_seen f b h.2)

-- the side that a condition picks, where both checks tell the same of it
either_same : {A B : Type 0} (at : Place) (v : Value) (x y : Checked A) (a : A) (z w z' w' : Option B) → (x ≡ Ok a → z ≡ z') → (y ≡ Ok a → w ≡ w') → choose at v x y ≡ Ok a → plain.choose v z w ≡ plain.choose v z' w'
either_same at (BoolValue true) x y a z w z' w' h k e = h e
either_same at (BoolValue false) x y a z w z' w' h k e = k e
either_same at (IntValue n) x y a z w z' w' h k e = refl
either_same at (RefValue r) x y a z w z' w' h k e = refl
either_same at (PermValue q) x y a z w z' w' h k e = refl

-- what holds of either side holds of the one that is picked
pub picked : {R : Type 0} {A : Type 0} (at : Place) (v : Value) (x y : Checked A) (a : A) → (x ≡ Ok a → R) → (y ≡ Ok a → R) → choose at v x y ≡ Ok a → R
picked at (BoolValue true) x y a h k e = h e
picked at (BoolValue false) x y a h k e = k e
picked at (IntValue n) x y a h k e = absurd (failed at a e)
picked at (RefValue r) x y a h k e = absurd (failed at a e)
picked at (PermValue q) x y a h k e = absurd (failed at a e)

-- Framing of a body

pub record Framed (p : Program) (f g : Instance → Option Tree) (s t : State) (a : Assertion) : Type 0 where
  pub entries_same : entries p t a ≡ entries p s a
  pub tree_same : assertion_tree p g t a ≡ assertion_tree p f s a

module _ (p : Program) (T F B : State → Type 0) (d : Deeper) (opens : Opens p (Known T F B) d) (q : Fraction) (gains : Gains p T F B q) where
  part_is : (s u : State) (r : Resource) (a : Fraction) (part : Resource × Fraction) → ◌≡◌ {A = Checked (Resource × Fraction)} (Ok (r, a)) (Ok part) → add_part p d q s part ≡ Ok u → with_holdings (gained r (product q a) s.holdings) s ≡ u
  part_is s u r a part is eq =
      ap (λ (y : Resource × Fraction). with_holdings (gained y.0 (product q y.1) s.holdings) s) (ok_same {A = Resource × Fraction} (r, a) part is)
      ∙ ok_same (with_holdings (gained part.0 (product q part.1) s.holdings) s) u eq

  pub add_earlier : (a : Assertion) (s u : State) → add p d q a s ≡ Ok u → B u → B s
  add_earlier (Pure e) s u eq h =
      let x = undo (fit p d s e) (λ _. Ok s) u eq in
      subst B (sym (ok_same s u x.then)) h
  add_earlier (Points at e f share) s u eq h =
      let x = undo (field_part p d s at e f share) (add_part p d q s) u eq in
      let y = field_parts p d s at e f share x.it x.is in
      gains.earlier s (At y.location) y.amount y.sign (subst B (sym (part_is s u (At y.location) y.amount x.it y.is x.then)) h)
  add_earlier (syntax.Instance at i es share) s u eq h =
      let x = undo (instance_part p d s at i es share) (add_part p d q s) u eq in
      let y = instance_parts p d s at i es share x.it x.is in
      let r : Resource = Folded record { predicate = i; arguments = y.arguments } in
      gains.earlier s r y.amount y.sign (subst B (sym (part_is s u r y.amount x.it y.is x.then)) h)
  add_earlier (Both a b) s u eq h =
      let x = undo (add p d q a s) (λ t. add p d q b t) u eq in
      add_earlier a s x.it x.is (add_earlier b x.it u x.then h)
  add_earlier (Implied c a) s u eq h =
      let x = undo (fit p d s c) (λ v. choose (place_of c) v (add p d q a s) (Ok s)) u eq in
      picked {R = B s} (place_of c) x.it (add p d q a s) (Ok s) u (λ e. add_earlier a s u e h) (λ e. subst B (sym (ok_same s u e)) h) x.then
  add_earlier (Chosen c a b) s u eq h =
      let x = undo (fit p d s c) (λ v. choose (place_of c) v (add p d q a s) (add p d q b s)) u eq in
      picked {R = B s} (place_of c) x.it (add p d q a s) (add p d q b s) u (λ e. add_earlier a s u e h) (λ e. add_earlier b s u e h) x.then

  pub add_later : (a : Assertion) (s u : State) → IsPlainBody p T a → Known T F B s → B u → add p d q a s ≡ Ok u → Later p T F s u
  add_later (Pure e) s u k h hu eq =
      let x = undo (fit p d s e) (λ _. Ok s) u eq in
      subst (Later p T F s) (ok_same s u x.then) (later_same p T F s h.typed h.forth)
  add_later (Points at e f share) s u k h hu eq =
      let x = undo (field_part p d s at e f share) (add_part p d q s) u eq in
      let y = field_parts p d s at e f share x.it x.is in
      subst (Later p T F s) (part_is s u (At y.location) y.amount x.it y.is x.then) (gains.later s (At y.location) y.amount tt y.sign h.typed h.forth)
  add_later (syntax.Instance at i es share) s u k h hu eq =
      let x = undo (instance_part p d s at i es share) (add_part p d q s) u eq in
      let y = instance_parts p d s at i es share x.it x.is in
      let r : Resource = Folded record { predicate = i; arguments = y.arguments } in
      let vs = fit_all_framed p (Known T F B) d opens s s h (agrees_itself p s) es y.arguments k.0 y.arguments_are in
      subst (Later p T F s) (part_is s u r y.amount x.it y.is x.then) (gains.later s r y.amount (k.2 s y.arguments h.typed vs) y.sign h.typed h.forth)
  add_later (Both a b) s u k h hu eq =
      let x = undo (add p d q a s) (λ t. add p d q b t) u eq in
      let hm = add_earlier b x.it u x.then hu in
      let first = add_later a s x.it k.0 h hm x.is in
      later_both p T F s x.it u first (add_later b x.it u k.1 (record { typed = first.typed; forth = first.forth; back = hm }) hu x.then)
  add_later (Implied c a) s u k h hu eq =
      let x = undo (fit p d s c) (λ v. choose (place_of c) v (add p d q a s) (Ok s)) u eq in
      picked {R = Later p T F s u} (place_of c) x.it (add p d q a s) (Ok s) u (λ e. add_later a s u k.1 h hu e) (λ e. subst (Later p T F s) (ok_same s u e) (later_same p T F s h.typed h.forth)) x.then
  add_later (Chosen c a b) s u k h hu eq =
      let x = undo (fit p d s c) (λ v. choose (place_of c) v (add p d q a s) (add p d q b s)) u eq in
      picked {R = Later p T F s u} (place_of c) x.it (add p d q a s) (add p d q b s) u (λ e. add_later a s u k.1 h hu e) (λ e. add_later b s u k.2 h hu e) x.then

  -- with the same values wherever anything is held behind the body, it has the same entries and the same tree
  module _ (f g : Instance → Option Tree) where
    abbrev Alike : State → Type 0
    Alike u = (j : Instance) → Positive (amount u.holdings (Folded j)) → g j ≡ f j

    pub framed : (a : Assertion) (s u t : State) → IsPlainBody p T a → Known T F B s → B u → add p d q a s ≡ Ok u → Agrees p u t → Alike u → Framed p f g s t a
    framed (Pure e) s u t k h hu eq ag al =
        let x = undo (fit p d s e) (λ _. Ok s) u eq in
        let to = agrees_earlier p T F s u t (add_later (Pure e) s u k h hu eq) ag in
        let vs = fit_framed p (Known T F B) d opens s s h (agrees_itself p s) e x.it k x.is in
        let vt = fit_framed p (Known T F B) d opens s t h to e x.it k x.is in
        record {
          entries_same = ap (λ (o : Option Value). option_and_then (λ v. cond (is_true v) (Some []) None) o) (vt ∙ sym vs);
          tree_same = ap (option_and_then truth_leaf) (vt ∙ sym vs);
        }
    framed (Points at e x share) s u t k h hu eq ag al =
        let b = undo (field_part p d s at e x share) (add_part p d q s) u eq in
        let y = field_parts p d s at e x share b.it b.is in
        let lat = add_later (Points at e x share) s u k h hu eq in
        let to = agrees_earlier p T F s u t lat ag in
        let vs = fit_framed p (Known T F B) d opens s s h (agrees_itself p s) e y.receiver k.0 y.receiver_is in
        let vt = fit_framed p (Known T F B) d opens s t h to e y.receiver k.0 y.receiver_is in
        let ws = fit_framed p (Known T F B) d opens s s h (agrees_itself p s) share y.worth k.1.plain y.worth_is in
        let wt = fit_framed p (Known T F B) d opens s t h to share y.worth k.1.plain y.worth_is in
        let am = amount_same y.worth y.amount k.1.amount y.amount_is (sym ws ∙ k.1.value_is s) in
        let positive = subst Positive (sym am) (above_none k.1) in
        let here = gains.at s y.location y.amount h.forth positive in
        let u_is = part_is s u (At y.location) y.amount b.it y.is b.then in
        let there = subst (λ (u : State). IsHeld p u.heap u.holdings y.location) u_is here in
        record {
          entries_same =
              ap₂ (λ (o m : Option Value). option_and_then (λ r. option_and_then (location_entry x r) m) o) (vt ∙ sym vs) (wt ∙ sym ws);
          tree_same =
              step (location_leaf p t.heap x) y.receiver vt
              ∙ leaf_same p s.heap t.heap x y.receiver y.location y.location_is (ag.heap y.location there ∙ ap (λ (h : Heap). value_at p h y.location) lat.heap)
              ∙ sym (step (location_leaf p s.heap x) y.receiver vs);
        }
    framed (syntax.Instance at i es share) s u t k h hu eq ag al =
        let b = undo (instance_part p d s at i es share) (add_part p d q s) u eq in
        let y = instance_parts p d s at i es share b.it b.is in
        let inst = λ (vs : List Value). let j : Instance = record { predicate = i; arguments = vs } in j in
        let lat = add_later (syntax.Instance at i es share) s u k h hu eq in
        let to = agrees_earlier p T F s u t lat ag in
        let vs = fit_all_framed p (Known T F B) d opens s s h (agrees_itself p s) es y.arguments k.0 y.arguments_are in
        let vt = fit_all_framed p (Known T F B) d opens s t h to es y.arguments k.0 y.arguments_are in
        let ws = fit_framed p (Known T F B) d opens s s h (agrees_itself p s) share y.worth k.1.plain y.worth_is in
        let wt = fit_framed p (Known T F B) d opens s t h to share y.worth k.1.plain y.worth_is in
        let am = amount_same y.worth y.amount k.1.amount y.amount_is (sym ws ∙ k.1.value_is s) in
        let positive = subst Positive (sym am) (above_none k.1) in
        let here = gains.in_it s (inst y.arguments) y.amount h.forth (k.2 s y.arguments h.typed vs) positive in
        let u_is = part_is s u (Folded (inst y.arguments)) y.amount b.it y.is b.then in
        let there = subst (λ (u : State). Positive (amount u.holdings (Folded (inst y.arguments)))) u_is here in
        record {
          entries_same =
              ap₂ (λ (o : Option (List Value)) (m : Option Value). option_and_then (λ vs. option_and_then (instance_entry i vs) m) o) (vt ∙ sym vs) (wt ∙ sym ws);
          tree_same =
              step (λ vs. g (inst vs)) y.arguments vt
              ∙ al (inst y.arguments) there
              ∙ sym (step (λ vs. f (inst vs)) y.arguments vs);
        }
    framed (Both a b) s u t k h hu eq ag al =
        let x = undo (add p d q a s) (λ m. add p d q b m) u eq in
        let mid = x.it in
        let hm = add_earlier b mid u x.then hu in
        let same = add_later a s mid k.0 h hm x.is in
        let known : Known T F B mid = record { typed = same.typed; forth = same.forth; back = hm } in
        let later = add_later b mid u k.1 known hu x.then in
        let first = framed a s mid t k.0 h hm x.is (agrees_earlier p T F mid u t later ag) (λ j z. al j (later.folded j z)) in
        let second = framed b mid u t k.1 known hu x.then ag al in
        record {
          entries_same = ap₂ (λ (o m : Option Holdings). option_and_then (λ xs. option_and_then (λ ys. Some (xs ++ ys)) m) o) first.entries_same (second.entries_same ∙ entries_seen p T s mid (record { store = same.store; heap = same.heap }) b k.1);
          tree_same = ap₂ (λ (o m : Option Tree). option_and_then (λ t. option_and_then (λ u. Some (Pair t u)) m) o) first.tree_same (second.tree_same ∙ tree_seen p T s mid (record { store = same.store; heap = same.heap }) f b k.1);
        }
    framed (Implied c a) s u t k h hu eq ag al =
        let x = undo (fit p d s c) (λ v. choose (place_of c) v (add p d q a s) (Ok s)) u eq in
        let to = agrees_earlier p T F s u t (add_later (Implied c a) s u k h hu eq) ag in
        let vs = fit_framed p (Known T F B) d opens s s h (agrees_itself p s) c x.it k.0 x.is in
        let vt = fit_framed p (Known T F B) d opens s t h to c x.it k.0 x.is in
        record {
          entries_same =
              step (λ v. plain.choose v (entries p t a) (Some [])) x.it vt
              ∙ either_same (place_of c) x.it (add p d q a s) (Ok s) u (entries p t a) (Some []) (entries p s a) (Some []) (λ e. (framed a s u t k.1 h hu e ag al).entries_same) (λ e. refl) x.then
              ∙ sym (step (λ v. plain.choose v (entries p s a) (Some [])) x.it vs);
          tree_same =
              step (λ v. plain.choose v (assertion_tree p g t a) (Some Empty)) x.it vt
              ∙ either_same (place_of c) x.it (add p d q a s) (Ok s) u (assertion_tree p g t a) (Some Empty) (assertion_tree p f s a) (Some Empty) (λ e. (framed a s u t k.1 h hu e ag al).tree_same) (λ e. refl) x.then
              ∙ sym (step (λ v. plain.choose v (assertion_tree p f s a) (Some Empty)) x.it vs);
        }
    framed (Chosen c a b) s u t k h hu eq ag al =
        let x = undo (fit p d s c) (λ v. choose (place_of c) v (add p d q a s) (add p d q b s)) u eq in
        let to = agrees_earlier p T F s u t (add_later (Chosen c a b) s u k h hu eq) ag in
        let vs = fit_framed p (Known T F B) d opens s s h (agrees_itself p s) c x.it k.0 x.is in
        let vt = fit_framed p (Known T F B) d opens s t h to c x.it k.0 x.is in
        record {
          entries_same =
              step (λ v. plain.choose v (entries p t a) (entries p t b)) x.it vt
              ∙ either_same (place_of c) x.it (add p d q a s) (add p d q b s) u (entries p t a) (entries p t b) (entries p s a) (entries p s b)
              (λ e. (framed a s u t k.1 h hu e ag al).entries_same) (λ e. (framed b s u t k.2 h hu e ag al).entries_same) x.then
              ∙ sym (step (λ v. plain.choose v (entries p s a) (entries p s b)) x.it vs);
          tree_same =
              step (λ v. plain.choose v (assertion_tree p g t a) (assertion_tree p g t b)) x.it vt
              ∙ either_same (place_of c) x.it (add p d q a s) (add p d q b s) u (assertion_tree p g t a) (assertion_tree p g t b) (assertion_tree p f s a) (assertion_tree p f s b)
              (λ e. (framed a s u t k.1 h hu e ag al).tree_same) (λ e. (framed b s u t k.2 h hu e ag al).tree_same) x.then
              ∙ sym (step (λ v. plain.choose v (assertion_tree p f s a) (assertion_tree p f s b)) x.it vs);
        }
