-- Giving what was taken: surely it ends with the entries that were taken, or fails.
use Rattle.std.proofs.Common.{◌≡◌, ℕ, Bool, true, false, ◌⊎◌, inl, inr, List, [], ◌∷◌, ◌++◌, Option, Some, refl, sym, ◌∙◌, ap, subst}
use Rattle.std.specs.Prelude.{Ok, Err}
use Rattle.vx_ast.specs.declared.Place.{Place}
use Rattle.vx_ast.specs.declared.ValueType.{ValueType}
use Rattle.vx_frac.specs.Fractions.{Fraction, none, full, product, at_most}
use Rattle.vx_ast.specs.Syntax.{Name, Declaration, Program, Predicate, predicate_named, Expr, Exprs, Assertion, Pure, Points, Both, Implied, Chosen, place_of}
use Rattle.vx_ast.specs.Syntax as syntax
use Rattle.vx_meaning.specs.Values.{Value, BoolValue, IntValue, RefValue, PermValue, is_true}
use Rattle.vx_meaning.specs.States as run
use Rattle.vx_meaning.specs.States.{State, Holdings, Resource, At, Folded, amount, gained, lost, with_holdings}
use Rattle.vx_meaning.specs.Fits.{Checked, ◌>>=◌, or_fail, guard, choose, location_of, amount_of, deeper, fit, fit_all, take, take_part, field_part, instance_part, Eventually}
use Rattle.vx_meaning.specs.Outcomes.{Outcome, Ends, FailsAt, Outcomes, ends, stops, passes, refused, goes_on, is_over, checked}
use Rattle.vx_meaning.specs.Give.{give, when, side}
use Rattle.vx_types.specs.Typing.{Scope, HasType, HaveTypes, IsTyped}
use Rattle.vx_amounts.proofs.Amounts.{Le, full-positive}
use Rattle.vx_amounts.proofs.Products.{product_sign, positive_le}
use Rattle.vx_sound.proofs.World.{IsTypedResource}
use Rattle.vx_sound_preds.proofs.Fitting.{Before, undo, guarded}
use Rattle.vx_sound_preds.proofs.Framing.{ok_same, failed, field_parts, instance_parts}
use Rattle.vx_runs.proofs.Followed.{Any, AtMost}
use Rattle.vx_runs.proofs.Fewer.{at_most_both}
use Rattle.vx_runs.proofs.Taking.{take_fewer}
use Rattle.vx_runs.proofs.Surely.{Surely, surely, surely_then, surely_map}
use Rattle.vx_runs.proofs.Rising.{Refuses, after_ok, after_err}
use Rattle.vx_runs.proofs.Mirrored.{mirrored, assoc, mirrored_both}

-- surely it is this in the end, or it is refused
abbrev pub SettlesAt : {A : Type 0} → (ℕ → Checked A) → A → Type 0
SettlesAt c a = Surely (Eventually (λ n. c n ≡ Ok a) ⊎ Refuses c)

pub at_always : {A : Type 0} (x : Checked A) (a : A) → x ≡ Ok a → SettlesAt (λ n. x) a
at_always x a e = surely (inl (0, λ n le. e))

pub at_then : {A B : Type 0} (c : ℕ → Checked A) (f : ℕ → A → Checked B) (a : A) (b : B) → SettlesAt c a → SettlesAt (λ n. f n a) b → SettlesAt (λ n. c n >>= f n) b
at_then c f a b h k = surely_then h first
  where
    last : Eventually (λ n. c n ≡ Ok a) → Eventually (λ n. f n a ≡ Ok b) ⊎ Refuses (λ n. f n a) → Eventually (λ n. (c n >>= f n) ≡ Ok b) ⊎ Refuses (λ n. c n >>= f n)
    last e (inl x) = inl (after_ok c f a (Ok b) e x)
    last e (inr (at, x)) = inr (at, after_ok c f a (Err at) e x)

    first : Eventually (λ n. c n ≡ Ok a) ⊎ Refuses c → SettlesAt (λ n. c n >>= f n) b
    first (inl e) = surely_map k (last e)
    first (inr (at, e)) = surely (inr (at, after_err c f at e))

-- each expression of an assertion is as X says, and the arguments of each instance as Xs says
abbrev pub AllParts : (Expr → Type 0) → (Exprs → Type 0) → Assertion → Type 0
AllParts X Xs (Pure e) = X e
AllParts X Xs (Points at e f share) = X e × X share
AllParts X Xs (syntax.Instance at i es share) = Xs es × X share
AllParts X Xs (Both a b) = AllParts X Xs a × AllParts X Xs b
AllParts X Xs (Implied c a) = X c × AllParts X Xs a
AllParts X Xs (Chosen c a b) = X c × AllParts X Xs a × AllParts X Xs b

on_true : (v : Value) (x y : Outcomes) (o : Outcome) → is_true v ≡ true → x o → side v x y o
on_true v x y o e h = subst (λ (b : Bool). when b x y o) (sym e) h

module _ (p : Program) (Possible : State → Type 0) (ds : Scope) (X : Expr → Type 0) (Xs : Exprs → Type 0) (s : State) (floor : Holdings) (Within : Holdings → State → Type 0)
    (possible : (h : Holdings) (u : State) → Within h u → Possible u)
    (settles : (n : ℕ) (h : Holdings) (u : State) (e : Expr) (t : ValueType) (v : Value) → HasType p ds e t → X e → Within h u → fit p (deeper p n) s e ≡ Ok v → SettlesAt (λ m. fit p (deeper p m) u e) v)
    (all_settle : (n : ℕ) (h : Holdings) (u : State) (es : Exprs) (fs : List Declaration) (vs : List Value) → HaveTypes p ds es fs → Xs es → Within h u → fit_all p (deeper p n) s es ≡ Ok vs → SettlesAt (λ m. fit_all p (deeper p m) u es) vs)
    (of_type : (n : ℕ) (es : Exprs) (i : Name) (d : Predicate) (vs : List Value) → predicate_named p i ≡ Some d → HaveTypes p ds es d.parameters → fit_all p (deeper p n) s es ≡ Ok vs → IsTypedResource p Any (Folded record { predicate = i; arguments = vs }))
    (moved : (h : Holdings) (u : State) (r : Resource) (q : Fraction) → IsTypedResource p Any r → Le none q → Le q (amount h r) → AtMost floor (lost r q h) → Within h u → Within (lost r q h) (with_holdings (gained r q u.holdings) u)) where
  pub record Given (a : Assertion) (u : State) (h left : Holdings) : Type 0 where
    pub entries : Holdings
    pub is : left ≡ mirrored entries ++ h
    pub ends : give p Possible full a u (Ends (with_holdings (entries ++ u.holdings) u))
    pub within : Within left (with_holdings (entries ++ u.holdings) u)

  abbrev pub GivenOrFails : Assertion → State → Holdings → Holdings → Type 0
  GivenOrFails a u h left = Given a u h left ⊎ ((at : Place) × give p Possible full a u (FailsAt at))

  pure_again : (n : ℕ) (e : Expr) (t : ValueType) (u : State) (h left : Holdings) (v : Value) → HasType p ds e t → X e → Within h u → fit p (deeper p n) s e ≡ Ok v → is_true v ≡ true → h ≡ left → Surely (GivenOrFails (Pure e) u h left)
  pure_again n e t u h left v ty x w fits truth same = surely_map (settles n h u e t v ty x w fits) go
    where
      go : Eventually (λ m. fit p (deeper p m) u e ≡ Ok v) ⊎ Refuses (λ m. fit p (deeper p m) u e) → GivenOrFails (Pure e) u h left
      go (inl c) = inl record { entries = []; is = sym same; ends = passes v c (on_true v (ends u) stops (Ends u) truth refl); within = subst (λ (z : Holdings). Within z u) same w }
      go (inr (at, c)) = inr (at, refused at c refl)

  part_again : (u : State) (h left : Holdings) (a : Assertion) (part : Resource × Fraction) (c : ℕ → Checked (Resource × Fraction)) (at : Place) → Within h u →
      ((o : Outcome) → checked c (λ x. λ z. (let t : State = with_holdings (gained x.0 (product full x.1) u.holdings) u in (Possible t × ends t z) ⊎ ((Possible t → ⊥) × stops z))) o → give p Possible full a u o) →
      IsTypedResource p Any part.0 → Le none part.1 → SettlesAt c part → AtMost floor left → take_part p (deeper p 0) s full at h part ≡ Ok left → Surely (GivenOrFails a u h left)
  part_again u h left a part c at w rule kind sign settled above taken = surely_map settled go
    where
      b : Before (guard at (at_most (product full part.1) (amount h part.0))) (λ _. Ok (lost part.0 (product full part.1) h)) left
      b = undo (guard at (at_most (product full part.1) (amount h part.0))) (λ _. Ok (lost part.0 (product full part.1) h)) left taken

      same : lost part.0 (product full part.1) h ≡ left
      same = ok_same _ _ b.then

      now : Within (lost part.0 (product full part.1) h) (with_holdings (gained part.0 (product full part.1) u.holdings) u)
      now = moved h u part.0 (product full part.1) kind (product_sign {a = full} {b = part.1} (positive_le full-positive) sign) (record { holds = guarded at _ _ b.is }) (subst (AtMost floor) (sym same) above) w

      go : Eventually (λ m. c m ≡ Ok part) ⊎ Refuses c → GivenOrFails a u h left
      go (inr (place, refusal)) = inr (place, rule (FailsAt place) (refused place refusal refl))
      go (inl fine) = inl record {
        entries = (part.0, product full part.1) ∷ [];
        is = sym same;
        ends = rule (Ends (with_holdings (gained part.0 (product full part.1) u.holdings) u)) (passes part fine (inl (possible _ _ now, refl)));
        within = subst (λ (z : Holdings). Within z (with_holdings (gained part.0 (product full part.1) u.holdings) u)) same now;
      }

  -- what is given one after the other
  both_again : (a b : Assertion) (u : State) (h mid left : Holdings) → Given a u h mid → ((v : State) → Within mid v → Surely (GivenOrFails b v mid left)) → Surely (GivenOrFails (Both a b) u h left)
  both_again a b u h mid left x then = surely_map (then (with_holdings (x.entries ++ u.holdings) u) x.within) last
    where
      last : GivenOrFails b (with_holdings (x.entries ++ u.holdings) u) mid left → GivenOrFails (Both a b) u h left
      last (inl y) =
          let e : y.entries ++ (x.entries ++ u.holdings) ≡ (y.entries ++ x.entries) ++ u.holdings = sym (assoc y.entries x.entries u.holdings) in
          inl record {
            entries = y.entries ++ x.entries;
            is = y.is ∙ ap (λ (z : Holdings). mirrored y.entries ++ z) x.is ∙ sym (assoc (mirrored y.entries) (mirrored x.entries) h) ∙ ap (λ (z : Holdings). z ++ h) (sym (mirrored_both y.entries x.entries));
            ends = goes_on (with_holdings (x.entries ++ u.holdings) u) x.ends (subst (λ (z : Holdings). give p Possible full b (with_holdings (x.entries ++ u.holdings) u) (Ends (with_holdings z u))) e y.ends);
            within = subst (λ (z : Holdings). Within left (with_holdings z u)) e y.within;
          }
      last (inr (at, f)) = inr (at, goes_on _ x.ends f)

  -- giving it, for what is left
  abbrev Regives : ℕ → Assertion → Type 0
  Regives n a = (u : State) (h left : Holdings) → Within h u → AtMost floor left → take p (deeper p n) s full a h ≡ Ok left → Surely (GivenOrFails a u h left)

  implied_again : (n : ℕ) (c : Expr) (a : Assertion) (u : State) (h left : Holdings) → Within h u → AtMost floor left → Regives n a → (v : Value) → Eventually (λ m. fit p (deeper p m) u c ≡ Ok v) → choose (place_of c) v (take p (deeper p n) s full a h) (Ok h) ≡ Ok left → Surely (GivenOrFails (Implied c a) u h left)
  implied_again n c a u h left w above again (BoolValue true) fine e = surely_map (again u h left w above e) picked
    where
      picked : GivenOrFails a u h left → GivenOrFails (Implied c a) u h left
      picked (inl x) = inl record { entries = x.entries; is = x.is; ends = passes (BoolValue true) fine x.ends; within = x.within }
      picked (inr (at, f)) = inr (at, passes (BoolValue true) fine f)
  implied_again n c a u h left w above again (BoolValue false) fine e =
      surely (inl record { entries = []; is = sym (ok_same h left e); ends = passes (BoolValue false) fine refl; within = subst (λ (z : Holdings). Within z u) (ok_same h left e) w })
  implied_again n c a u h left w above again (IntValue z) fine e = absurd (failed _ _ e)
  implied_again n c a u h left w above again (RefValue r) fine e = absurd (failed _ _ e)
  implied_again n c a u h left w above again (PermValue q) fine e = absurd (failed _ _ e)

  chosen_again : (n : ℕ) (c : Expr) (a b : Assertion) (u : State) (h left : Holdings) → Within h u → AtMost floor left → Regives n a → Regives n b → (v : Value) → Eventually (λ m. fit p (deeper p m) u c ≡ Ok v) →
      choose (place_of c) v (take p (deeper p n) s full a h) (take p (deeper p n) s full b h) ≡ Ok left → Surely (GivenOrFails (Chosen c a b) u h left)
  chosen_again n c a b u h left w above one other (BoolValue true) fine e = surely_map (one u h left w above e) picked
    where
      picked : GivenOrFails a u h left → GivenOrFails (Chosen c a b) u h left
      picked (inl x) = inl record { entries = x.entries; is = x.is; ends = passes (BoolValue true) fine x.ends; within = x.within }
      picked (inr (at, f)) = inr (at, passes (BoolValue true) fine f)
  chosen_again n c a b u h left w above one other (BoolValue false) fine e = surely_map (other u h left w above e) picked
    where
      picked : GivenOrFails b u h left → GivenOrFails (Chosen c a b) u h left
      picked (inl x) = inl record { entries = x.entries; is = x.is; ends = passes (BoolValue false) fine x.ends; within = x.within }
      picked (inr (at, f)) = inr (at, passes (BoolValue false) fine f)
  chosen_again n c a b u h left w above one other (IntValue z) fine e = absurd (failed _ _ e)
  chosen_again n c a b u h left w above one other (RefValue r) fine e = absurd (failed _ _ e)
  chosen_again n c a b u h left w above one other (PermValue q) fine e = absurd (failed _ _ e)

  -- where the condition is settled
  by_condition : (a : Assertion) (c : Expr) (u : State) (h left : Holdings) (v : Value) → SettlesAt (λ m. fit p (deeper p m) u c) v →
      ((at : Place) → Eventually (λ m. fit p (deeper p m) u c ≡ Err at) → give p Possible full a u (FailsAt at)) → (Eventually (λ m. fit p (deeper p m) u c ≡ Ok v) → Surely (GivenOrFails a u h left)) → Surely (GivenOrFails a u h left)
  by_condition a c u h left v settled fail on = surely_then settled go
    where
      go : Eventually (λ m. fit p (deeper p m) u c ≡ Ok v) ⊎ Refuses (λ m. fit p (deeper p m) u c) → Surely (GivenOrFails a u h left)
      go (inl fine) = on fine
      go (inr (at, x)) = surely (inr (at, fail at x))

  pub given_again : (n : ℕ) (a : Assertion) → IsTyped p ds a → AllParts X Xs a → Regives n a
  given_again n (Pure e) t x u h left w above taken =
      let b = undo (fit p (deeper p n) s e) (λ v. guard (place_of e) (is_true v) >>= λ _. Ok h) left taken in
      let c = undo (guard (place_of e) (is_true b.it)) (λ _. Ok h) left b.then in
      pure_again n e _ u h left b.it t x w b.is (guarded (place_of e) (is_true b.it) c.it c.is) (ok_same h left c.then)
  given_again n (Points at e f share) t x u h left w above taken =
      let b = undo (field_part p (deeper p n) s at e f share) (take_part p (deeper p n) s full at h) left taken in
      let y = field_parts p (deeper p n) s at e f share b.it b.is in
      let same : (let z : Resource × Fraction = (At y.location, y.amount) in z) ≡ b.it = ok_same {A = Resource × Fraction} _ b.it y.is in
      let last = λ (r v : Value). or_fail at (location_of f r) >>= λ l. or_fail at (amount_of v) >>= λ q. guard at (at_most none q) >>= λ _. let part : Resource × Fraction = (At l, q) in Ok part in
      let settled : SettlesAt (λ m. field_part p (deeper p m) u at e f share) b.it =
      at_then (λ m. fit p (deeper p m) u e) (λ m r. fit p (deeper p m) u share >>= λ v. last r v) y.receiver b.it (settles n h u e _ y.receiver t.0 x.0 w y.receiver_is)
      (at_then (λ m. fit p (deeper p m) u share) (λ m v. last y.receiver v) y.worth b.it (settles n h u share _ y.worth t.2 x.1 w y.worth_is)
      (at_always (last y.receiver y.worth) b.it (part_is at f y.receiver y.worth y.location y.amount b.it y.location_is y.amount_is y.sign y.is))) in
      part_again u h left (Points at e f share) b.it (λ m. field_part p (deeper p m) u at e f share) at w (λ o k. k)
      (subst (λ (z : Resource × Fraction). IsTypedResource p Any z.0) same tt) (subst (λ (z : Resource × Fraction). Le none z.1) same (record { holds = y.sign })) settled above b.then
    where
      part_is : (at : Place) (f : Name) (r v : Value) (l : run.Location) (q : Fraction) (part : Resource × Fraction) → location_of f r ≡ Some l → amount_of v ≡ Some q → at_most none q ≡ true → ◌≡◌ {A = Checked (Resource × Fraction)} (Ok (At l, q)) (Ok part) →
          (or_fail at (location_of f r) >>= λ l. or_fail at (amount_of v) >>= λ q. guard at (at_most none q) >>= λ _. let part : Resource × Fraction = (At l, q) in Ok part) ≡ Ok part
      part_is at f r v l q part e g sign same =
          ap (λ (o : Option run.Location). or_fail at o >>= λ l. or_fail at (amount_of v) >>= λ q. guard at (at_most none q) >>= λ _. let part : Resource × Fraction = (At l, q) in Ok part) e
          ∙ ap (λ (o : Option Fraction). or_fail at o >>= λ q. guard at (at_most none q) >>= λ _. let part : Resource × Fraction = (At l, q) in Ok part) g
          ∙ ap (λ (b : Bool). guard at b >>= λ _. let part : Resource × Fraction = (At l, q) in Ok part) sign
          ∙ same
  given_again n (syntax.Instance at i es share) t x u h left w above taken =
      let b = undo (instance_part p (deeper p n) s at i es share) (take_part p (deeper p n) s full at h) left taken in
      let y = instance_parts p (deeper p n) s at i es share b.it b.is in
      let same : (let z : Resource × Fraction = (Folded record { predicate = i; arguments = y.arguments }, y.amount) in z) ≡ b.it = ok_same {A = Resource × Fraction} _ b.it y.is in
      let last = λ (vs : List Value) (v : Value). or_fail at (amount_of v) >>= λ q. guard at (at_most none q) >>= λ _. let part : Resource × Fraction = (Folded record { predicate = i; arguments = vs }, q) in Ok part in
      let settled : SettlesAt (λ m. instance_part p (deeper p m) u at i es share) b.it =
      at_then (λ m. fit_all p (deeper p m) u es) (λ m vs. fit p (deeper p m) u share >>= λ v. last vs v) y.arguments b.it (all_settle n h u es _ y.arguments t.0.2 x.0 w y.arguments_are)
      (at_then (λ m. fit p (deeper p m) u share) (λ m v. last y.arguments v) y.worth b.it (settles n h u share _ y.worth t.1 x.1 w y.worth_is)
      (at_always (last y.arguments y.worth) b.it (part_is at i y.arguments y.worth y.amount b.it y.amount_is y.sign y.is))) in
      part_again u h left (syntax.Instance at i es share) b.it (λ m. instance_part p (deeper p m) u at i es share) at w (λ o k. k)
      (subst (λ (z : Resource × Fraction). IsTypedResource p Any z.0) same (of_type n es i t.0.0 y.arguments t.0.1 t.0.2 y.arguments_are)) (subst (λ (z : Resource × Fraction). Le none z.1) same (record { holds = y.sign })) settled above b.then
    where
      part_is : (at : Place) (i : Name) (vs : List Value) (v : Value) (q : Fraction) (part : Resource × Fraction) → amount_of v ≡ Some q → at_most none q ≡ true → ◌≡◌ {A = Checked (Resource × Fraction)} (Ok (Folded record { predicate = i; arguments = vs }, q)) (Ok part) →
          (or_fail at (amount_of v) >>= λ q. guard at (at_most none q) >>= λ _. let part : Resource × Fraction = (Folded record { predicate = i; arguments = vs }, q) in Ok part) ≡ Ok part
      part_is at i vs v q part g sign same =
          ap (λ (o : Option Fraction). or_fail at o >>= λ q. guard at (at_most none q) >>= λ _. let part : Resource × Fraction = (Folded record { predicate = i; arguments = vs }, q) in Ok part) g
          ∙ ap (λ (b : Bool). guard at b >>= λ _. let part : Resource × Fraction = (Folded record { predicate = i; arguments = vs }, q) in Ok part) sign
          ∙ same
  given_again n (Both a b) t x u h left w above taken =
      let y = undo (take p (deeper p n) s full a h) (λ z. take p (deeper p n) s full b z) left taken in
      surely_then (given_again n a t.0 x.0 u h y.it w (at_most_both floor left y.it above (take_fewer p (deeper p n) s full full-positive b y.it left y.then)) y.is) (first y.it (λ v k. given_again n b t.1 x.1 v y.it left k above y.then))
    where
      first : (mid : Holdings) → ((v : State) → Within mid v → Surely (GivenOrFails b v mid left)) → GivenOrFails a u h mid → Surely (GivenOrFails (Both a b) u h left)
      first mid then (inl y) = both_again a b u h mid left y then
      first mid then (inr (at, f)) = surely (inr (at, is_over tt f))
  given_again n (Implied c a) t x u h left w above taken =
      let y = undo (fit p (deeper p n) s c) (λ v. choose (place_of c) v (take p (deeper p n) s full a h) (Ok h)) left taken in
      by_condition (Implied c a) c u h left y.it (settles n h u c _ y.it t.0 x.0 w y.is) (λ at f. refused at f refl)
      (λ fine. implied_again n c a u h left w above (λ u h left w f e. given_again n a t.1 x.1 u h left w f e) y.it fine y.then)
  given_again n (Chosen c a b) t x u h left w above taken =
      let y = undo (fit p (deeper p n) s c) (λ v. choose (place_of c) v (take p (deeper p n) s full a h) (take p (deeper p n) s full b h)) left taken in
      by_condition (Chosen c a b) c u h left y.it (settles n h u c _ y.it t.0 x.0 w y.is) (λ at f. refused at f refl)
      (λ fine. chosen_again n c a b u h left w above (λ u h left w f e. given_again n a t.1 x.1 u h left w f e) (λ u h left w f e. given_again n b t.2 x.2 u h left w f e) y.it fine y.then)
