-- Where a function starts, just what its precondition gives is held, firmly, if its parts fit firmly.
use Rattle.std.proofs.Common.{◌≡◌, inl, inr, ℕ, ◌+◌, ◌≤◌, Bool, true, false, List, [], ◌∷◌, Some, refl, sym, ◌∙◌, ap, ap₂, subst, arith, ◌++◌, Option}
use Rattle.std.specs.Prelude.{Ok, option_and_then, flat_map}
use Rattle.std.proofs.lemmas.Option.{same_Some}
use Rattle.vx_frac.specs.Fractions.{Fraction, none, full, at_most, is_positive, product}
use Rattle.vx_ast.specs.declared.ValueType.{ValueType}
use Rattle.vx_ast.specs.declared.ValueType.TheVariants as type
use Rattle.vx_ast.specs.declared.Place.{Place}
use Rattle.vx_ast.specs.Syntax.{Name, Declaration, Program, Predicate, Function, function_named, Expr, Exprs, Assertion, Pure, Points, Both, Implied, Chosen, place_of, Kind, member_named, predicate_named, joined, joined_with}
use Rattle.vx_ast.specs.Syntax as syntax
use Rattle.vx_types.specs.Typing.{type_in, HasType, HaveTypes, no_more, more, IsTyped, HaveNoPerm}
use Rattle.vx_types.specs.Premises.{IsTypedProgram}
use Rattle.vx_types.specs.Closure.{InClosure, mentioned_by_measure, mentioned_by_kind, further}
use Rattle.vx_meaning.specs.Values.{Value, BoolValue, type_of, is_true, IntValue, RefValue, PermValue}
use Rattle.vx_meaning.specs.States as run
use Rattle.vx_meaning.specs.States.{State, Heap, Instance, Resource, At, Folded, amount, gained, bind, from_now, with_holdings}
use Rattle.vx_meaning.specs.Evaluate.{applications, values}
use Rattle.vx_meaning.specs.Flatten.{bare, IsGrounded}
use Rattle.vx_meaning.specs.Consistent.{IsConsistent}
use Rattle.vx_meaning.specs.Fits.{◌>>=◌, or_fail, guard, choose, location_of, amount_of, fit, fit_all, field_part, instance_part, deeper, add, add_part}
use Rattle.vx_meaning.specs.Outcomes.{Outcomes, Ends, passes, refused, goes_on, is_over, ends, stops}
use Rattle.vx_meaning.specs.Give.{give, give_part, side, when, if_possible}
use Rattle.vx_amounts.proofs.Amounts.{Positive, le-refl, not-positive, none-full, full-positive}
use Rattle.vx_elements.proofs.Scopes.{joined_typed}
use Rattle.vx_sound.proofs.Stripped.{fit_worth, all_fit_worth}
use Rattle.vx_sound_preds.specs.Covered.{IsProper, IsStocked}
use Rattle.vx_sound_preds.proofs.Fitting.{undo, step}
use Rattle.vx_sound_preds.proofs.Framing.{field_parts, instance_parts, amount_same, ok_same}
use Rattle.vx_sound_preds.proofs.Adding.{fine_gained, Fine}
use Rattle.vx_sound_preds.proofs.Exchanging.{bound_rigid}
use Rattle.vx_sound_preds.proofs.Frames.{gains_fine}
use Rattle.vx_sound_preds.proofs.Folding.{Stock}
use Rattle.vx_sound_preds.proofs.Speaking.{good, no_perm}
use Rattle.vx_sound_preds.proofs.Holding.{typed_rigid, of_possible, TypedAll}
use Rattle.vx_sound_preds.proofs.Types.{found_type}
use Rattle.vx_sound_preds.proofs.Keeping.{held_typed}
use Rattle.vx_sound_preds.proofs.Walks.{held_proper}
use Rattle.vx_sound_funcs.specs.Told.{precondition_of}
use Rattle.vx_sound_funcs.specs.Firm.{firmly, FitsFirmly, HoldsFirmly}
use Rattle.vx_sound_funcs.proofs.Fits.{Stays, next, fit_more, fit_all_more, add_more}
use Rattle.vx_sound_preds.proofs.Asked.{AsksFor, above}
use Rattle.vx_sound_preds.proofs.TypedValues.{have_types, applications_typed}
use Rattle.vx_sound_funcs.proofs.Grows.{deeper_upto, firm_upto}
use Rattle.vx_sound_funcs.proofs.Stocked.{stocked}
use Rattle.vx_sound_preds.specs.Asking.{IsAsking}
use Rattle.vx_sound_funcs.specs.Laws.{EachPart, IsFirmAt, AreFirmAt, StartsHoldFirmly}
use Rattle.vx_sound_funcs.proofs.TypedFunctions.{good_functions}
use Rattle.vx_ast.specs.Mentions.{mentioned, mentioned_by, mentioned_by_function}
use Rattle.vx_ast.specs.Apart.{Stands}
use Rattle.vx_sound_preds.specs.Bodies.{GoodBodies}
use Rattle.vx_sound_preds.proofs.Typed.{on_left, on_right}
use Rattle.vx_sound_preds.proofs.Mentioning.{function_member}

pub bool_is : (v : Value) → type_of v ≡ type.Bool → (b : Bool) × (v ≡ BoolValue b)
bool_is (BoolValue b) e = (b, refl)
bool_is (IntValue z) e = cc
bool_is (RefValue r) e = cc
bool_is (PermValue q) e = cc

module _ (p : Program) (good : GoodBodies p) (Held : Name → Type 0) (no_perm : (x : Name) (d : Predicate) → predicate_named p x ≡ Some d → HaveNoPerm d.parameters) (ds : List Declaration) (vs : List Value) (typed : run.HaveTypes ds vs) (h : Heap) where
  -- what is known on the way
  pub record Given (s : State) : Type 0 where
    pub store : s.store ≡ bind ds vs
    pub heap : s.heap ≡ h
    pub fine : Fine p s
    pub held : TypedAll p Held s.holdings

  pub possible : (part : Resource × Fraction) (s t : State) → if_possible p (IsConsistent p) full (with_holdings (gained part.0 (product full part.1) s.holdings) s) (Ends t) →
      IsConsistent p (with_holdings (gained part.0 (product full part.1) s.holdings) s) × (t ≡ with_holdings (gained part.0 (product full part.1) s.holdings) s)
  possible part s t (inl x) = x
  possible part s t (inr x) = absurd x.1

-- A function leads to the predicates that its precondition names.

module _ (Held : Name → Type 0) where
  abbrev AllIn : List Name → Type 0
  AllIn ys = (y : Name) → Stands y ys → Held y

  lefts : (ys zs : List Name) → AllIn (ys ++ zs) → AllIn ys
  lefts ys zs k y s = k y (on_left y ys zs s)

  rights : (ys zs : List Name) → AllIn (ys ++ zs) → AllIn zs
  rights ys zs k y s = k y (on_right y ys zs s)

  asks_for : (a : Assertion) → AllIn (mentioned_by a) → AsksFor Held a
  asks_for (Pure e) k = tt
  asks_for (Points at e f share) k = tt
  asks_for (syntax.Instance at i es share) k = k i (inl refl)
  asks_for (Both a b) k = (asks_for a (lefts (mentioned_by a) (mentioned_by b) k), asks_for b (rights (mentioned_by a) (mentioned_by b) k))
  asks_for (Implied c a) k = asks_for a (rights (mentioned c) (mentioned_by a) k)
  asks_for (Chosen c a b) k =
      let first = lefts (mentioned c ++ mentioned_by a) (mentioned_by b) k in
      (asks_for a (rights (mentioned c) (mentioned_by a) first), asks_for b (rights (mentioned c ++ mentioned_by a) (mentioned_by b) k))

  joined_with_asks : (a : Assertion) (rest : List Assertion) → AsksFor Held a → AllIn (flat_map mentioned_by rest) → AsksFor Held (joined_with a rest)
  joined_with_asks a [] k ks = k
  joined_with_asks a (b ∷ rest) k ks = joined_with_asks (Both a b) rest (k, asks_for b (lefts (mentioned_by b) (flat_map mentioned_by rest) ks)) (rights (mentioned_by b) (flat_map mentioned_by rest) ks)

  joined_asks : (at : _) (rest : List Assertion) → AllIn (flat_map mentioned_by rest) → AsksFor Held (joined at rest)
  joined_asks at [] k = tt
  joined_asks at (a ∷ rest) k = joined_with_asks a rest (asks_for a (lefts (mentioned_by a) (flat_map mentioned_by rest) k)) (rights (mentioned_by a) (flat_map mentioned_by rest) k)

module _ (p : Program) (x : Name) (typed : IsTypedProgram p) (f : Name) (g : Function) (named : function_named p f ≡ Some g) where
  -- what the precondition names
  pub precondition_seen : InClosure p x f → AsksFor (InClosure p x) (precondition_of g)
  precondition_seen c = joined_asks (InClosure p x) g.place g.requires (λ y s. further c (mentions y (on_left y (mentioned_by_function g) (mentioned_by_measure g.decreases) (on_left y (mentioned g.body ++ flat_map mentioned_by g.requires) (flat_map mentioned g.ensures) (on_right y (mentioned g.body) (flat_map mentioned_by g.requires) s)))))
    where
      mentions : (y : Name) → Stands y (mentioned_by_function g ++ mentioned_by_measure g.decreases) → Stands y (mentioned_by_kind p (member_named p f))
      mentions y s = subst (λ (o : Option Kind). Stands y (mentioned_by_kind p o)) (sym (function_member (member_named p f) g named)) s

self : (n : ℕ) → n ≤ n
self n = omega arith

left_fuel : (a b : ℕ) → a ≤ a + b
left_fuel a b = omega arith

right_fuel : (a b : ℕ) → b ≤ a + b
right_fuel a b = omega arith

-- whatever is given, the variables and the heap stay
module _ (p : Program) (Possible : State → Type 0) (q : Fraction) where
  itself : (s t : State) → t ≡ s → Stays s t
  itself s t e = subst (Stays s) (sym e) record { store = refl; heap = refl }

  part_stays : (s t : State) (part : Resource × Fraction) → give_part p Possible q s part (Ends t) → Stays s t
  part_stays s t part (inl y) = subst (Stays s) (sym y.1) record { store = refl; heap = refl }
  part_stays s t part (inr y) = absurd y.1

  one_stays : (s t : State) (b : Bool) (y z : Outcomes) → (y (Ends t) → Stays s t) → (z (Ends t) → Stays s t) → when b y z (Ends t) → Stays s t
  one_stays s t true y z f g r = f r
  one_stays s t false y z f g r = g r

  give_stays : (a : Assertion) (s t : State) → give p Possible q a s (Ends t) → Stays s t
  give_stays (Pure e) s t (passes v ev r) = one_stays s t (is_true v) (ends s) stops (itself s t) (λ z. absurd z) r
  give_stays (Pure e) s t (refused at ev r) = absurd r
  give_stays (Points at e f share) s t (passes part ev r) = part_stays s t part r
  give_stays (Points at e f share) s t (refused place ev r) = absurd r
  give_stays (syntax.Instance at i es share) s t (passes part ev r) = part_stays s t part r
  give_stays (syntax.Instance at i es share) s t (refused place ev r) = absurd r
  give_stays (Both a b) s t (goes_on m y z) =
      let k = give_stays a s m y in
      let l = give_stays b m t z in
      record { store = l.store ∙ k.store; heap = l.heap ∙ k.heap }
  give_stays (Both a b) s t (is_over o y) = absurd o
  give_stays (Implied c a) s t (passes v ev r) = one_stays s t (is_true v) (give p Possible q a s) (ends s) (give_stays a s t) (itself s t) r
  give_stays (Implied c a) s t (refused place ev r) = absurd r
  give_stays (Chosen c a b) s t (passes v ev r) = one_stays s t (is_true v) (give p Possible q a s) (give p Possible q b s) (give_stays a s t) (give_stays b s t) r
  give_stays (Chosen c a b) s t (refused place ev r) = absurd r

module _ (p : Program) (x : Name) (typed : IsTypedProgram p) (ds : List Declaration) (vs : List Value) (types : run.HaveTypes ds vs) (h : Heap) where
  abbrev Known : State → Type 0
  Known s = Given p (good p x typed) (InClosure p x) (no_perm p x typed) ds vs types h s

  abbrev Parts : Assertion → Type 0
  Parts a = EachPart (IsFirmAt p x (bind ds vs) h) (AreFirmAt p x (bind ds vs) h) a

  -- the same is given by a firm addition
  record Gave (a : Assertion) (s t : State) : Type 0 where
    fuel : ℕ
    adds : add p (firmly p fuel) full a s ≡ Ok t
    given : Known t
    can : IsConsistent p t

  stocked_here : (s : State) → Known s → IsConsistent p s → IsStocked p x s.holdings
  stocked_here s k co = stocked p x true s.heap s.holdings (of_possible p (good p x typed) (InClosure p x) true s co k.held k.fine.forth.0)

  firm : (s : State) → Known s → IsConsistent p s → (n : ℕ) (e : Expr) (v : Value) → IsFirmAt p x (bind ds vs) h e → fit p (deeper p n) s e ≡ Ok v → FitsFirmly p s e v
  firm s k co n e v f eq = f s k.store k.heap co (stocked_here s k co) v (n, λ m le. fit_more p (deeper p n) (deeper p m) (deeper_upto p n m le) s e v eq)

  all_firm : (s : State) → Known s → IsConsistent p s → (n : ℕ) (es : Exprs) (ws : List Value) → AreFirmAt p x (bind ds vs) h es → fit_all p (deeper p n) s es ≡ Ok ws → (m : ℕ) × (fit_all p (firmly p m) s es ≡ Ok ws)
  all_firm s k co n es ws f eq = f s k.store k.heap co (stocked_here s k co) ws (n, λ m le. fit_all_more p (deeper p n) (deeper p m) (deeper_upto p n m le) s es ws eq)

  up : (n m : ℕ) → n ≤ m → (s : State) (e : Expr) (v : Value) → fit p (firmly p n) s e ≡ Ok v → fit p (firmly p m) s e ≡ Ok v
  up n m le s e v eq = fit_more p (firmly p n) (firmly p m) (firm_upto p n m le) s e v eq

  adds_up : (n m : ℕ) → n ≤ m → (a : Assertion) (s t : State) → add p (firmly p n) full a s ≡ Ok t → add p (firmly p m) full a s ≡ Ok t
  adds_up n m le a s t eq = add_more p (firmly p n) (firmly p m) (firm_upto p n m le) full a s t eq

  field_firm : (s : State) → Known s → IsConsistent p s → (n : ℕ) (at : Place) (e : Expr) (f : Name) (share : Expr) (part : Resource × Fraction) → IsFirmAt p x (bind ds vs) h e → IsFirmAt p x (bind ds vs) h share → field_part p (deeper p n) s at e f share ≡ Ok part →
      (m : ℕ) × (field_part p (firmly p m) s at e f share ≡ Ok part)
  field_firm s k co n at e f share part fe fs eq =
      let rest = λ (r v : Value). or_fail at (location_of f r) >>= λ l. or_fail at (amount_of v) >>= λ q. guard at (at_most none q) >>= λ _. Ok (At l, q) in
      let y = undo (fit p (deeper p n) s e) (λ r. fit p (deeper p n) s share >>= rest r) part eq in
      let z = undo (fit p (deeper p n) s share) (rest y.it) part y.then in
      let a = firm s k co n e y.it fe y.is in
      let b = firm s k co n share z.it fs z.is in
      let m = a.0 + b.0 in
      (m, next (λ r. fit p (firmly p m) s share >>= rest r) y.it (up a.0 m (left_fuel a.0 b.0) s e y.it a.1) ∙ next (rest y.it) z.it (up b.0 m (right_fuel a.0 b.0) s share z.it b.1) ∙ z.then)

  instance_firm : (s : State) → Known s → IsConsistent p s → (n : ℕ) (at : Place) (i : Name) (es : Exprs) (share : Expr) (part : Resource × Fraction) → AreFirmAt p x (bind ds vs) h es → IsFirmAt p x (bind ds vs) h share → instance_part p (deeper p n) s at i es share ≡ Ok part →
      (m : ℕ) × (instance_part p (firmly p m) s at i es share ≡ Ok part)
  instance_firm s k co n at i es share part fe fs eq =
      let rest = λ (ws : List Value) (v : Value). or_fail at (amount_of v) >>= λ q. guard at (at_most none q) >>= λ _. Ok (Folded record { predicate = i; arguments = ws }, q) in
      let y = undo (fit_all p (deeper p n) s es) (λ ws. fit p (deeper p n) s share >>= rest ws) part eq in
      let z = undo (fit p (deeper p n) s share) (rest y.it) part y.then in
      let a = all_firm s k co n es y.it fe y.is in
      let b = firm s k co n share z.it fs z.is in
      let m = a.0 + b.0 in (
        m,
        next (λ ws. fit p (firmly p m) s share >>= rest ws) y.it (fit_all_more p (firmly p a.0) (firmly p m) (firm_upto p a.0 m (left_fuel a.0 b.0)) s es y.it a.1)
            ∙ next (rest y.it) z.it (up b.0 m (right_fuel a.0 b.0) s share z.it b.1) ∙ z.then,
      )

  are_typed : (s : State) → Known s → (y : Name) (t : ValueType) (v : Value) → type_in y ds ≡ Some t → run.lookup y s.store ≡ Some v → type_of v ≡ t
  are_typed s k y t v a b = found_type y t ds vs v types a (ap (run.lookup y) (sym k.store) ∙ b)

  arguments_typed : (s : State) → Known s → (n : ℕ) (es : Exprs) (fs : List Declaration) (ws : List Value) → HaveTypes p ds es fs → fit_all p (deeper p n) s es ≡ Ok ws → run.HaveTypes fs ws
  arguments_typed s k n es fs ws hs eq = have_types p typed.functions n (applications_typed p typed.functions n) s (are_typed s k) hs ws (all_fit_worth p n s es ws eq)

  condition_is : (s : State) → Known s → (n : ℕ) (e : Expr) (v : Value) → HasType p ds e type.Bool → fit p (deeper p n) s e ≡ Ok v → (b : Bool) × (v ≡ BoolValue b)
  condition_is s k n e v ty eq =
      let d : Declaration = record { name = x; of = type.Bool } in
      let one : values p (applications p n) s (syntax.More e syntax.NoMore) ≡ Some (v ∷ []) = step (λ v. option_and_then (λ vs. Some (v ∷ vs)) (values p (applications p n) s syntax.NoMore)) v (fit_worth p n s e v eq) in
      let two : HaveTypes p ds (syntax.More e syntax.NoMore) (d ∷ []) = more ty no_more in
      bool_is v (have_types p typed.functions n (applications_typed p typed.functions n) s (are_typed s k) two (v ∷ []) one).0

  given_by : (a : Assertion) (s t : State) → IsTyped p ds a → IsAsking p a → AsksFor (InClosure p x) a → Parts a → Known s → IsConsistent p s → give p (IsConsistent p) full a s (Ends t) → Gave a s t
  given_by (Pure e) s t ty pl asks parts k co (passes v ev r) = go (is_true v) r
    where
      go : (b : Bool) → when b (ends s) stops (Ends t) → Gave (Pure e) s t
      go true e' =
          let f = firm s k co ev.0 e v parts (ev.1 ev.0 (self ev.0)) in
          record { fuel = f.0; adds = next (λ _. Ok s) v f.1 ∙ ap Ok (sym e'); given = subst Known (sym e') k; can = subst (IsConsistent p) (sym e') co }
      go false e' = absurd e'
  given_by (Pure e) s t ty pl asks parts k co (refused at ev r) = absurd r
  given_by (Points at e f share) s t ty pl asks parts k co (passes part ev r) =
      let z = possible p (good p x typed) (InClosure p x) (no_perm p x typed) ds vs types h part s t r in
      let y = field_parts p (deeper p ev.0) s at e f share part (ev.1 ev.0 (self ev.0)) in
      let fine = fine_gained p full none-full (At y.location) y.amount s tt tt (record { holds = y.sign }) k.fine in
      let m = field_firm s k co ev.0 at e f share part parts.0 parts.1 (ev.1 ev.0 (self ev.0)) in
      record {
        fuel = m.0;
        adds = next (add_part p (firmly p m.0) full s) part m.1 ∙ ap Ok (sym z.1);
        given = subst Known (sym z.1) (subst (λ (y : Resource × Fraction). Known (with_holdings (gained y.0 (product full y.1) s.holdings) s)) (ok_same {A = Resource × Fraction} (At y.location, y.amount) part y.is)
            record { store = k.store; heap = k.heap; fine = fine.fine; held = (tt, k.held) });
        can = subst (IsConsistent p) (sym z.1) z.0;
      }
  given_by (Points at e f share) s t ty pl asks parts k co (refused place ev r) = absurd r
  given_by (syntax.Instance at i es share) s t ty pl asks parts k co (passes part ev r) =
      let z = possible p (good p x typed) (InClosure p x) (no_perm p x typed) ds vs types h part s t r in
      let y = instance_parts p (deeper p ev.0) s at i es share part (ev.1 ev.0 (self ev.0)) in
      let j : Instance = record { predicate = i; arguments = y.arguments } in
      let is : (let z : Resource × Fraction = (Folded j, y.amount) in z) ≡ part = ok_same {A = Resource × Fraction} (Folded j, y.amount) part y.is in
      let none_perm = no_perm p x typed i ty.0.0 ty.0.1 in
      let kinds = arguments_typed s k ev.0 es ty.0.0.parameters y.arguments ty.0.2 y.arguments_are in
      let rigid = typed_rigid ty.0.0.parameters y.arguments none_perm kinds in
      let am = amount_same y.worth y.amount pl.1.amount y.amount_is (sym (fit_worth p ev.0 s share y.worth y.worth_is) ∙ pl.1.value_is (applications p ev.0) s) in
      let gains = gains_fine p (good p x typed) full full-positive in
      let positive = gains.in_it s j y.amount k.fine.forth rigid (subst Positive (sym am) (above pl.1)) in
      let there = subst (λ (z : Resource × Fraction). IsConsistent p (with_holdings (gained z.0 (product full z.1) s.holdings) s)) (sym is) z.0 in
      let fine = fine_gained p full none-full (Folded j) y.amount s rigid (there.supported.grounded j positive.holds) (record { holds = y.sign }) k.fine in
      let m = instance_firm s k co ev.0 at i es share part parts.0 parts.1 (ev.1 ev.0 (self ev.0)) in
      record {
        fuel = m.0;
        adds = next (add_part p (firmly p m.0) full s) part m.1 ∙ ap Ok (sym z.1);
        given = subst Known (sym z.1) (subst (λ (z : Resource × Fraction). Known (with_holdings (gained z.0 (product full z.1) s.holdings) s)) is
            record { store = k.store; heap = k.heap; fine = fine.fine; held = ((asks, (ty.0.0, ty.0.1, none_perm, kinds)), k.held) });
        can = subst (IsConsistent p) (sym z.1) z.0;
      }
  given_by (syntax.Instance at i es share) s t ty pl asks parts k co (refused place ev r) = absurd r
  given_by (Both a b) s t ty pl asks parts k co (goes_on m y z) =
      let one = given_by a s m ty.0 pl.0 asks.0 parts.0 k co y in
      let two = given_by b m t ty.1 pl.1 asks.1 parts.1 one.given one.can z in
      let j = one.fuel + two.fuel in
      record {
        fuel = j;
        adds = next (λ u. add p (firmly p j) full b u) m (adds_up one.fuel j (left_fuel one.fuel two.fuel) a s m one.adds) ∙ adds_up two.fuel j (right_fuel one.fuel two.fuel) b m t two.adds;
        given = two.given;
        can = two.can;
      }
  given_by (Both a b) s t ty pl asks parts k co (is_over o y) = absurd o
  given_by (Implied c a) s t ty pl asks parts k co (passes v ev r) =
      let b = condition_is s k ev.0 c v ty.0 (ev.1 ev.0 (self ev.0)) in
      let f = firm s k co ev.0 c v parts.0 (ev.1 ev.0 (self ev.0)) in
      go b.0 (f.0, f.1 ∙ ap Ok b.1) (subst (λ (v : Value). side v (give p (IsConsistent p) full a s) (ends s) (Ends t)) b.1 r) (λ g. given_by a s t ty.1 pl.1 asks parts.1 k co g)
    where
      go : (b : Bool) → FitsFirmly p s c (BoolValue b) → when b (give p (IsConsistent p) full a s) (ends s) (Ends t) → (give p (IsConsistent p) full a s (Ends t) → Gave a s t) → Gave (Implied c a) s t
      go true f r rest =
          let g = rest r in
          let j = f.0 + g.fuel in
          record {
            fuel = j;
            adds = next (λ v. choose (place_of c) v (add p (firmly p j) full a s) (Ok s)) (BoolValue true) (up f.0 j (left_fuel f.0 g.fuel) s c (BoolValue true) f.1) ∙ adds_up g.fuel j (right_fuel f.0 g.fuel) a s t g.adds;
            given = g.given;
            can = g.can;
          }
      go false f r rest = record { fuel = f.0; adds = next (λ v. choose (place_of c) v (add p (firmly p f.0) full a s) (Ok s)) (BoolValue false) f.1 ∙ ap Ok (sym r); given = subst Known (sym r) k; can = subst (IsConsistent p) (sym r) co }
  given_by (Implied c a) s t ty pl asks parts k co (refused place ev r) = absurd r
  given_by (Chosen c a b) s t ty pl asks parts k co (passes v ev r) =
      let w = condition_is s k ev.0 c v ty.0 (ev.1 ev.0 (self ev.0)) in
      let f = firm s k co ev.0 c v parts.0 (ev.1 ev.0 (self ev.0)) in
      go w.0 (f.0, f.1 ∙ ap Ok w.1) (subst (λ (v : Value). side v (give p (IsConsistent p) full a s) (give p (IsConsistent p) full b s) (Ends t)) w.1 r)
      (λ g. given_by a s t ty.1 pl.1 asks.0 parts.1 k co g) (λ g. given_by b s t ty.2 pl.2 asks.1 parts.2 k co g)
    where
      go : (w : Bool) → FitsFirmly p s c (BoolValue w) → when w (give p (IsConsistent p) full a s) (give p (IsConsistent p) full b s) (Ends t) →
          (give p (IsConsistent p) full a s (Ends t) → Gave a s t) → (give p (IsConsistent p) full b s (Ends t) → Gave b s t) → Gave (Chosen c a b) s t
      go true f r first second =
          let g = first r in
          let j = f.0 + g.fuel in
          record {
            fuel = j;
            adds = next (λ v. choose (place_of c) v (add p (firmly p j) full a s) (add p (firmly p j) full b s)) (BoolValue true) (up f.0 j (left_fuel f.0 g.fuel) s c (BoolValue true) f.1) ∙ adds_up g.fuel j (right_fuel f.0 g.fuel) a s t g.adds;
            given = g.given;
            can = g.can;
          }
      go false f r first second =
          let g = second r in
          let j = f.0 + g.fuel in
          record {
            fuel = j;
            adds = next (λ v. choose (place_of c) v (add p (firmly p j) full a s) (add p (firmly p j) full b s)) (BoolValue false) (up f.0 j (left_fuel f.0 g.fuel) s c (BoolValue false) f.1) ∙ adds_up g.fuel j (right_fuel f.0 g.fuel) b s t g.adds;
            given = g.given;
            can = g.can;
          }
  given_by (Chosen c a b) s t ty pl asks parts k co (refused place ev r) = absurd r

module _ (p : Program) (x : Name) (typed : IsTypedProgram p) (f : Name) (g : Function) (named : function_named p f ≡ Some g) (c : InClosure p x f) (vs : List Value) (types : run.HaveTypes g.parameters vs) (h : Heap) (t : State)
    (parts : EachPart (IsFirmAt p x (bind g.parameters vs) h) (AreFirmAt p x (bind g.parameters vs) h) (precondition_of g)) (ends_at : give p (IsConsistent p) full (precondition_of g) (bare (bind g.parameters vs) h) (Ends t)) where
  empty : Given p (good p x typed) (InClosure p x) (no_perm p x typed) g.parameters vs types h (bare (bind g.parameters vs) h)
  empty = record {
    store = refl;
    heap = refl;
    fine = record {
      typed = bound_rigid g.parameters vs (typed_rigid g.parameters vs (let y = typed.functions f g named in y.parameters) types);
      forth = ((λ r sc. le-refl none), tt);
      back = λ i z. absurd (not-positive z (le-refl none));
    };
    held = tt;
  }

  -- what holds nothing can be
  nothing_can_be : IsConsistent p (bare (bind g.parameters vs) h)
  nothing_can_be = record { supported = record { grounded = λ i z. absurd (not-positive (record { holds = z }) (le-refl none)); null = λ n f. refl }; bounded = λ n l. refl }

  gave : Gave p x typed g.parameters vs types h (precondition_of g) (bare (bind g.parameters vs) h) t
  gave =
      let asks = let y = good_functions p typed in y.asks f g named in
      given_by p x typed g.parameters vs types h (precondition_of g) (bare (bind g.parameters vs) h) t (joined_typed p g.parameters g.place g.requires (let y = typed.functions f g named in y.requires)) asks (precondition_seen p x typed f g named c) parts empty nothing_can_be ends_at

  good_at : (i : Instance) → is_positive (amount t.holdings (Folded i)) ≡ true → IsProper p x t.heap i × IsGrounded p t.heap i
  good_at i z =
      let stock : Stock p t.heap t.holdings = record { debts = gave.given.fine.forth.0; single = gave.given.fine.forth.1; grounded = gave.given.fine.back } in
      let k = held_typed p (InClosure p x) t.holdings gave.given.held i (record { holds = z }) in (
        held_proper p x (good p x typed) t gave.can.supported stock i (record { holds = z }) k.0 (λ d e. subst (λ (d : Predicate). run.HaveTypes d.parameters i.arguments) (same_Some k.1.0 d (sym k.1.1 ∙ e)) k.1.3),
        gave.can.supported.grounded i z,
      )

  start_holds : HoldsFirmly p (IsProper p x) (precondition_of g) (from_now t)
  start_holds = record {
    given = (gave.fuel, t, ap (add p (firmly p gave.fuel) full (precondition_of g)) (ap₂ bare gave.given.store gave.given.heap) ∙ gave.adds, refl);
    rigid = gave.given.fine.typed;
    good = good_at;
  }

pub starts_hold_firmly : (p : Program) (x : Name) → IsTypedProgram p → StartsHoldFirmly p x
starts_hold_firmly p x typed f g named c s (vs, types, (h, t, ends_at, is)) parts =
    let stays = give_stays p (IsConsistent p) full (precondition_of g) (bare (bind g.parameters vs) h) t ends_at in
    let store : s.store ≡ bind g.parameters vs = ap (λ (s : State). s.store) is ∙ stays.store in
    let heap : s.heap ≡ h = ap (λ (s : State). s.heap) is ∙ stays.heap in
    let there = subst (λ (xs : run.Store). EachPart (IsFirmAt p x xs h) (AreFirmAt p x xs h) (precondition_of g)) store (subst (λ (h : Heap). EachPart (IsFirmAt p x s.store h) (AreFirmAt p x s.store h) (precondition_of g)) heap parts) in (
      subst (HoldsFirmly p (IsProper p x) (precondition_of g)) (sym is) (start_holds p x typed f g named c vs types h t there ends_at),
      (vs, types, store),
    )
