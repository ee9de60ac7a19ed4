-- What is added in states that can be is given, where its pure parts are true.
use Rattle.std.proofs.Common.{◌≡◌, inl, ℕ, Bool, true, false, cond, [], ◌∷◌, ◌++◌, Some, None, refl, sym, ◌∙◌, ap, subst, le_refl}
use Rattle.std.specs.Prelude.{Ok, option_and_then}
use Rattle.std.proofs.lemmas.Option.{same_Some}
use Rattle.vx_frac.specs.Fractions.{Fraction, full, product}
use Rattle.vx_ast.specs.declared.Place.{Place}
use Rattle.vx_ast.specs.Syntax.{Name, Program, Expr, Exprs, place_of, Assertion, Pure, Points, Both, Implied, Chosen}
use Rattle.vx_ast.specs.Syntax as syntax
use Rattle.vx_meaning.specs.Values.{Value, IntValue, BoolValue, RefValue, PermValue, is_true}
use Rattle.vx_meaning.specs.States.{State, Holdings, Resource, At, Folded, gained, with_holdings}
use Rattle.vx_meaning.specs.Evaluate as plain
use Rattle.vx_meaning.specs.Evaluate.{HasValue, applications, value}
use Rattle.vx_meaning.specs.Flatten.{no_applications, location_entry, instance_entry}
use Rattle.vx_meaning.specs.Consistent.{IsConsistent}
use Rattle.vx_meaning.specs.Fits.{Checked, ◌>>=◌, Eventually, choose, fit_by, field_part, instance_part, deeper, add, add_part}
use Rattle.vx_meaning.specs.Outcomes.{Ends, passes, goes_on, ends, stops}
use Rattle.vx_meaning.specs.Give.{give, when}
use Rattle.vx_amounts.proofs.Amounts.{none-full, full-positive}
use Rattle.vx_sound.proofs.Fuel.{one_value}
use Rattle.vx_sound_preds.specs.Asking.{asking_entries, IsAsking}
use Rattle.vx_sound_preds.specs.Bodies.{GoodBodies}
use Rattle.vx_sound_preds.proofs.Asked.{held_entries, asking_positive}
use Rattle.vx_sound_preds.proofs.Fitting.{undo, step}
use Rattle.vx_sound_preds.proofs.Flats.{came}
use Rattle.vx_sound_preds.proofs.Framing.{ok_same, field_parts, instance_parts}
use Rattle.vx_sound_preds.proofs.Adding.{added, added_append, location_entries, instance_entries}
use Rattle.vx_sound_preds.proofs.Grouped.{NoDebts}
use Rattle.vx_sound_preds.proofs.Holding.{HoldsInstances, added_debts, fewer, consistent}
use Rattle.vx_sound_funcs.proofs.Steps.{nothing_some}
use Rattle.vx_law.proofs.Values.{deep_worth, follows_value, follow_values, share_is, added_is}

only_one : {A : Type 0} (x y : A) → x ∷ [] ≡ y ∷ [] → x ≡ y
only_one x y e = cc

is_so : (b : Bool) (es : Holdings) → cond b (Some []) None ≡ Some es → b ≡ true
is_so true es e = refl
is_so false es e = cc

module _ (p : Program) (good : GoodBodies p) (Held : Name → Type 0) (m : ℕ) where
  -- the state with these entries added
  abbrev pub with_added : Holdings → State → State
  with_added es s = with_holdings (added full es s.holdings) s

  -- it has one value by every fuel, and what follows it follows that
  settled : {B : Type 0} (s : State) (e : Expr) (v : Value) (rest : ℕ → Value → Checked B) (b : B) → HasValue p s e v → Eventually (λ n. (fit_by p n s e >>= rest n) ≡ Ok b) → Eventually (λ n. fit_by p n s e ≡ Ok v)
  settled s e v rest b is ev = (
    ev.0,
    λ n le.
        let x = undo (fit_by p n s e) (rest n) b (ev.1 n le) in
        let w = deep_worth p n in
        x.is ∙ ap Ok (one_value p s e x.it v (w.fuel, w.one s e x.it x.is) is),
  )

  after_it : {B : Type 0} (s : State) (e : Expr) (v : Value) (rest : ℕ → Value → Checked B) (b : B) → HasValue p s e v → Eventually (λ n. (fit_by p n s e >>= rest n) ≡ Ok b) → Eventually (λ n. rest n v ≡ Ok b)
  unfolding settled
  after_it s e v rest b is ev = (ev.0, λ n le. ap (λ (x : Checked Value). x >>= rest n) (sym ((settled s e v rest b is ev).1 n le)) ∙ ev.1 n le)

  abbrev Gives : Assertion → State → Holdings → Type 0
  Gives a s es =
      IsAsking p a → NoDebts s.holdings → asking_entries p (applications p m) s a ≡ Some es → HoldsInstances p Held true s.heap (added full es s.holdings) → Eventually (λ n. add p (deeper p n) full a s ≡ Ok (with_added es s)) →
      give p (IsConsistent p) full a s (Ends (with_added es s))

  -- one part of a permission
  record One (s : State) (es : Holdings) (check : ℕ → Checked (Resource × Fraction)) : Type 0 where
    part : Resource × Fraction
    comes : Eventually (λ n. check n ≡ Ok part)
    can : IsConsistent p (with_holdings (gained part.0 (product full part.1) s.holdings) s)
    is : with_added es s ≡ with_holdings (gained part.0 (product full part.1) s.holdings) s

  one_part : (s : State) (es : Holdings) (check : ℕ → Checked (Resource × Fraction)) → ((n : ℕ) (part : Resource × Fraction) → check n ≡ Ok part → es ≡ part ∷ []) → HoldsInstances p Held true s.heap (added full es s.holdings) →
      (u : State) → Eventually (λ n. (check n >>= add_part p (deeper p n) full s) ≡ Ok u) → One s es check
  unfolding added
  one_part s es check is holds u ev =
      let x = undo (check ev.0) (add_part p (deeper p ev.0) full s) u (ev.1 ev.0 (le_refl ev.0)) in
      let es_is = is ev.0 x.it x.is in
      record {
        part = x.it;
        comes = (
          ev.0,
          λ n le.
              let y = undo (check n) (add_part p (deeper p n) full s) u (ev.1 n le) in
              y.is ∙ ap Ok (only_one y.it x.it (sym (is n y.it y.is) ∙ es_is)),
        );
        can = consistent p good Held true (with_holdings (gained x.it.0 (product full x.it.1) s.holdings) s) refl (subst (λ (es : Holdings). HoldsInstances p Held true s.heap (added full es s.holdings)) es_is holds);
        is = ap (λ (es : Holdings). with_added es s) es_is;
      }

  points_part : (n : ℕ) (s : State) (es : Holdings) (at : Place) (e : Expr) (f : Name) (share : Expr) (part : Resource × Fraction) → IsAsking p (Points at e f share) → asking_entries p (applications p m) s (Points at e f share) ≡ Some es → field_part p (deeper p n) s at e f share ≡ Ok part → es ≡ part ∷ []
  points_part n s es at e f share part k listed eq =
      let y = field_parts p (deeper p n) s at e f share part eq in
      let r = follows_value p (deeper p n) (deep_worth p n) m s e y.receiver (λ r. option_and_then (location_entry f r) (value p no_applications s share)) es y.receiver_is listed in
      location_entries p full none-full f y.receiver (PermValue y.amount) y.location y.amount es y.location_is refl
      (sym (step (location_entry f y.receiver) (PermValue y.amount) (share_is p (deeper p n) (deep_worth p n) s share y.worth y.amount k.1 y.worth_is y.amount_is)) ∙ r)
      ∙ ap (λ (z : Resource × Fraction). z ∷ []) (ok_same {A = Resource × Fraction} (At y.location, y.amount) part y.is)

  folded_part : (n : ℕ) (s : State) (es : Holdings) (at : Place) (i : Name) (xs : Exprs) (share : Expr) (part : Resource × Fraction) → IsAsking p (syntax.Instance at i xs share) → asking_entries p (applications p m) s (syntax.Instance at i xs share) ≡ Some es → instance_part p (deeper p n) s at i xs share ≡ Ok part → es ≡ part ∷ []
  folded_part n s es at i xs share part k listed eq =
      let y = instance_parts p (deeper p n) s at i xs share part eq in
      let r = follow_values p (deeper p n) (deep_worth p n) m s xs y.arguments (λ vs. option_and_then (instance_entry i vs) (value p no_applications s share)) es y.arguments_are listed in
      instance_entries p full none-full i y.arguments (PermValue y.amount) y.amount es refl
      (sym (step (instance_entry i y.arguments) (PermValue y.amount) (share_is p (deeper p n) (deep_worth p n) s share y.worth y.amount k.1 y.worth_is y.amount_is)) ∙ r)
      ∙ ap (λ (z : Resource × Fraction). z ∷ []) (ok_same {A = Resource × Fraction} (Folded record { predicate = i; arguments = y.arguments }, y.amount) part y.is)

  both_give : (a b : Assertion) (s : State) (es xs ys : Holdings) → asking_entries p (applications p m) s a ≡ Some xs → asking_entries p (applications p m) s b ≡ Some ys → xs ++ ys ≡ es → IsAsking p a → IsAsking p b → NoDebts s.holdings → HoldsInstances p Held true s.heap (added full es s.holdings) →
      Eventually (λ n. add p (deeper p n) full (Both a b) s ≡ Ok (with_added es s)) → Gives a s xs → Gives b (with_added xs s) ys → give p (IsConsistent p) full (Both a b) s (Ends (with_added es s))
  both_give a b s es xs ys la lb whole ka kb none holds ev on_a on_b =
      let same = sym (added_append full xs ys s.holdings) ∙ ap (λ (zs : Holdings). added full zs s.holdings) whole in
      let holds_b = subst (HoldsInstances p Held true s.heap) (sym same) holds in
      let debts = added_debts p good Held true full xs s.holdings full-positive (asking_positive p (applications p m) s a xs ka la) none in
      let holds_a = fewer p good Held true s.heap full ys (added full xs s.holdings) full-positive (asking_positive p (applications p m) s b ys kb lb) debts holds_b in
      goes_on (with_added xs s) (on_a ka none la holds_a first)
      (subst (λ (u : State). give p (IsConsistent p) full b (with_added xs s) (Ends u)) (ap (λ (hs : Holdings). with_holdings hs s) same)
      (on_b kb debts (held_entries p m (added full xs s.holdings) s b kb ∙ lb) holds_b (second same)))
    where
      led : (n : ℕ) (u : State) → add p (deeper p n) full a s ≡ Ok u → u ≡ with_added xs s
      led n u e = added_is p (deeper p n) (deep_worth p n) full full-positive a s u m xs ka la e

      first : Eventually (λ n. add p (deeper p n) full a s ≡ Ok (with_added xs s))
      first = (
        ev.0,
        λ n le.
            let x = undo (add p (deeper p n) full a s) (λ t. add p (deeper p n) full b t) (with_added es s) (ev.1 n le) in
            x.is ∙ ap Ok (led n x.it x.is),
      )

      second : added full ys (added full xs s.holdings) ≡ added full es s.holdings → Eventually (λ n. add p (deeper p n) full b (with_added xs s) ≡ Ok (with_added ys (with_added xs s)))
      second same = (
        ev.0,
        λ n le.
            let x = undo (add p (deeper p n) full a s) (λ t. add p (deeper p n) full b t) (with_added es s) (ev.1 n le) in
            ap (λ (t : State). add p (deeper p n) full b t) (sym (led n x.it x.is)) ∙ x.then ∙ ap (λ (hs : Holdings). Ok (with_holdings hs s)) (sym same),
      )

  implied_give : (c : Expr) (a : Assertion) (s : State) (es : Holdings) (v : Value) → HasValue p s c v → plain.choose v (asking_entries p (applications p m) s a) (Some []) ≡ Some es → IsAsking p a → NoDebts s.holdings →
      HoldsInstances p Held true s.heap (added full es s.holdings) → Eventually (λ n. add p (deeper p n) full (Implied c a) s ≡ Ok (with_added es s)) → Gives a s es → give p (IsConsistent p) full (Implied c a) s (Ends (with_added es s))
  implied_give c a s es v is listed ka none holds ev on_a =
      go v listed (settled s c v (λ n v. choose (place_of c) v (add p (deeper p n) full a s) (Ok s)) (with_added es s) is ev) (after_it s c v (λ n v. choose (place_of c) v (add p (deeper p n) full a s) (Ok s)) (with_added es s) is ev)
    where
      go : (v : Value) → plain.choose v (asking_entries p (applications p m) s a) (Some []) ≡ Some es → Eventually (λ n. fit_by p n s c ≡ Ok v) → Eventually (λ n. choose (place_of c) v (add p (deeper p n) full a s) (Ok s) ≡ Ok (with_added es s)) → give p (IsConsistent p) full (Implied c a) s (Ends (with_added es s))
      go (BoolValue true) listed fits later = passes (BoolValue true) fits (on_a ka none listed holds later)
      go (BoolValue false) listed fits later = passes (BoolValue false) fits (sym (ok_same s (with_added es s) (later.1 later.0 (le_refl later.0))))
      go (IntValue z) listed fits later = nothing_some es listed
      go (RefValue z) listed fits later = nothing_some es listed
      go (PermValue z) listed fits later = nothing_some es listed

  chosen_give : (c : Expr) (a b : Assertion) (s : State) (es : Holdings) (v : Value) → HasValue p s c v → plain.choose v (asking_entries p (applications p m) s a) (asking_entries p (applications p m) s b) ≡ Some es → IsAsking p a → IsAsking p b → NoDebts s.holdings →
      HoldsInstances p Held true s.heap (added full es s.holdings) → Eventually (λ n. add p (deeper p n) full (Chosen c a b) s ≡ Ok (with_added es s)) → Gives a s es → Gives b s es → give p (IsConsistent p) full (Chosen c a b) s (Ends (with_added es s))
  chosen_give c a b s es v is listed ka kb none holds ev on_a on_b =
      go v listed (settled s c v (λ n v. choose (place_of c) v (add p (deeper p n) full a s) (add p (deeper p n) full b s)) (with_added es s) is ev)
      (after_it s c v (λ n v. choose (place_of c) v (add p (deeper p n) full a s) (add p (deeper p n) full b s)) (with_added es s) is ev)
    where
      go : (v : Value) → plain.choose v (asking_entries p (applications p m) s a) (asking_entries p (applications p m) s b) ≡ Some es → Eventually (λ n. fit_by p n s c ≡ Ok v) → Eventually (λ n. choose (place_of c) v (add p (deeper p n) full a s) (add p (deeper p n) full b s) ≡ Ok (with_added es s)) →
          give p (IsConsistent p) full (Chosen c a b) s (Ends (with_added es s))
      go (BoolValue true) listed fits later = passes (BoolValue true) fits (on_a ka none listed holds later)
      go (BoolValue false) listed fits later = passes (BoolValue false) fits (on_b kb none listed holds later)
      go (IntValue z) listed fits later = nothing_some es listed
      go (RefValue z) listed fits later = nothing_some es listed
      go (PermValue z) listed fits later = nothing_some es listed

  pure_give : (e : Expr) (s : State) (es : Holdings) (v : Value) → HasValue p s e v → is_true v ≡ true → Eventually (λ n. add p (deeper p n) full (Pure e) s ≡ Ok (with_added es s)) → give p (IsConsistent p) full (Pure e) s (Ends (with_added es s))
  pure_give e s es v is holds ev = passes v (settled s e v (λ n v. Ok s) (with_added es s) is ev) (go (is_true v) holds)
    where
      same : with_added es s ≡ s
      same = let x = undo (fit_by p ev.0 s e) (λ _. Ok s) (with_added es s) (ev.1 ev.0 (le_refl ev.0)) in sym (ok_same s (with_added es s) x.then)

      go : (b : Bool) → b ≡ true → when b (ends s) stops (Ends (with_added es s))
      go true e = same
      go false e = cc

  pub gives : (a : Assertion) (s : State) (es : Holdings) → Gives a s es
  gives (Pure e) s es k none listed holds ev =
      let y = came (value p (applications p m) s e) (λ v. cond (is_true v) (Some []) None) es listed in
      pure_give e s es y.it (m, y.is) (is_so (is_true y.it) es y.then) ev
  gives (Points at e g share) s es k none listed holds ev =
      let x = one_part s es (λ n. field_part p (deeper p n) s at e g share) (λ n part eq. points_part n s es at e g share part k listed eq) holds (with_added es s) ev in
      passes x.part x.comes (inl (x.can, x.is))
  gives (syntax.Instance at i xs share) s es k none listed holds ev =
      let x = one_part s es (λ n. instance_part p (deeper p n) s at i xs share) (λ n part eq. folded_part n s es at i xs share part k listed eq) holds (with_added es s) ev in
      passes x.part x.comes (inl (x.can, x.is))
  gives (Both a b) s es k none listed holds ev =
      let x = came (asking_entries p (applications p m) s a) (λ xs. option_and_then (λ ys. Some (xs ++ ys)) (asking_entries p (applications p m) s b)) es listed in
      let y = came (asking_entries p (applications p m) s b) (λ ys. Some (x.it ++ ys)) es x.then in
      both_give a b s es x.it y.it x.is y.is (same_Some (x.it ++ y.it) es y.then) k.0 k.1 none holds ev (gives a s x.it) (gives b (with_added x.it s) y.it)
  gives (Implied c a) s es k none listed holds ev =
      let x = came (value p (applications p m) s c) (λ v. plain.choose v (asking_entries p (applications p m) s a) (Some [])) es listed in
      implied_give c a s es x.it (m, x.is) x.then k.1 none holds ev (gives a s es)
  gives (Chosen c a b) s es k none listed holds ev =
      let x = came (value p (applications p m) s c) (λ v. plain.choose v (asking_entries p (applications p m) s a) (asking_entries p (applications p m) s b)) es listed in
      chosen_give c a b s es x.it (m, x.is) x.then k.1 k.2 none holds ev (gives a s es) (gives b s es)
