-- What taking and adding an asking assertion do, where applications have like values in states that match.
use Rattle.std.proofs.Common.{◌≡◌, ℕ, ◌≤◌, arith, Bool, true, false, cond, List, [], ◌∷◌, ◌++◌, Option, Some, None, refl, sym, ◌∙◌, ap, ap₂, subst}
use Rattle.std.specs.Prelude.{Ok, option_and_then}
use Rattle.std.proofs.lemmas.Option.{same_Some}
use Rattle.vx_ast.specs.declared.Place.{Place}
use Rattle.vx_frac.specs.Fractions.{Fraction, none, full, product}
use Rattle.vx_ast.specs.Syntax.{Name, Program, Expr, Exprs, Assertion, Pure, Points, Both, Implied, Chosen, place_of}
use Rattle.vx_ast.specs.Syntax as syntax
use Rattle.vx_meaning.specs.Values.{Value, IntValue, BoolValue, RefValue, PermValue, is_true}
use Rattle.vx_meaning.specs.States.{State, Store, Heap, Holdings, Location, Instance, Resource, At, Folded, gained, lost, value_at, with_holdings}
use Rattle.vx_meaning.specs.Evaluate as plain
use Rattle.vx_meaning.specs.Evaluate.{value, values, applications}
use Rattle.vx_meaning.specs.Flatten.{no_applications, location_entry, instance_entry}
use Rattle.vx_meaning.specs.Fits.{Checked, ◌>>=◌, guard, choose, location_of, amount_of, fit, fit_all, field_part, instance_part, take, take_part, add, add_part, deeper}
use Rattle.vx_amounts.proofs.Amounts.{Le, Positive, positive-le, none-full, full-positive}
use Rattle.vx_amounts.proofs.Products.{product_sign, product_positive}
use Rattle.vx_sound_preds.specs.Bodies.{IsRigid, AreRigid, RigidStore, Rigid, GoodBodies}
use Rattle.vx_sound_preds.proofs.Fitting.{undo, step, guarded}
use Rattle.vx_sound_preds.proofs.Flats.{came}
use Rattle.vx_sound_preds.proofs.Looks.{Sees}
use Rattle.vx_sound_preds.proofs.Framing.{Later, later_same, later_both, field_parts, instance_parts, ok_same, failed, picked, amount_same, add_earlier}
use Rattle.vx_sound_preds.proofs.Adding.{Sound, Grounded, Fine, IsEntry, AreEntries, Adds, added, added_append, fine_gained, location_entries, instance_entries}
use Rattle.vx_sound_preds.proofs.Folding.{Stock}
use Rattle.vx_sound_preds.proofs.Frames.{gains_fine}
use Rattle.vx_sound_preds.proofs.Taking.{taken, lost_stock, part_of}
use Rattle.vx_sound_preds.proofs.Asked.{above}
use Rattle.vx_sound_preds.specs.Asking.{Says, AllSay, HasRigidArguments, asking_entries, IsAskingAmount, IsAsking}
use Rattle.vx_sound_funcs.specs.Firm.{firmly}
use Rattle.vx_sound_funcs.specs.Laws.{SpeakNow}
use Rattle.vx_sound_funcs.proofs.Fits.{fit_more, firm_allows}
use Rattle.vx_sound.proofs.Stripped.{fit_worth}
use Rattle.vx_sound_funcs.proofs.Likes.{Likes, itself, rewritten, AllLike, Found}
use Rattle.vx_sound_funcs.proofs.Sees.{Matches, AppliesAlike, see, see_all}
use Rattle.vx_sound_funcs.proofs.Alike.{firm_open}

-- Values that are alike

like_rigid : (v w : Value) → IsRigid w → Likes v w → w ≡ v
like_rigid v w h (itself x) = refl
like_rigid v w h (rewritten a b s) = absurd h

-- values that are like some that are no amounts are these
pub all_like_rigid : (vs ws : List Value) → AreRigid ws → AllLike vs ws → ws ≡ vs
all_like_rigid [] [] h k = refl
all_like_rigid (v ∷ vs) (w ∷ ws) h k = ap₂ (λ (x : Value) (xs : List Value). x ∷ xs) (like_rigid v w h.0 k.0) (all_like_rigid vs ws h.1 k.1)
all_like_rigid [] (w ∷ ws) h k = absurd k
all_like_rigid (v ∷ vs) [] h k = absurd k

pub receiver_like : (f : Name) (v w : Value) (l : Location) → location_of f v ≡ Some l → Likes v w → w ≡ v
receiver_like f v w l e (itself x) = refl
receiver_like f v w l e (rewritten a b s) = cc

pub truth_like : (v w : Value) → Likes v w → is_true w ≡ is_true v
truth_like v w (itself x) = refl
truth_like v w (rewritten a b s) = refl

-- a condition that is decided is the same
pub condition_like : {A : Type 0} (at : Place) (v w : Value) (x y : Checked A) (a : A) → Likes v w → choose at v x y ≡ Ok a → w ≡ v
condition_like at v w x y a (itself z) e = refl
condition_like at v w x y a (rewritten m n s) e = absurd (failed at a e)

-- what has the same variables and the same heap matches
pub matches_seen : (p : Program) (s t : State) → Sees s t → Matches p s t
matches_seen p s t k = record { store = k.store; heap = λ l h. subst (λ (g : Heap). Likes (value_at p s.heap l) (value_at p g l)) (sym k.heap) (itself (value_at p s.heap l)) }

-- Entries

pub located : (f : Name) (r : Value) (l : Location) (a b : Fraction) → location_of f r ≡ Some l → a ≡ b → location_entry f r (PermValue a) ≡ Some ((At l, b) ∷ [])
located f (RefValue r) l a b e g =
    let m : Location = record { receiver = r; field = f } in
    ap₂ (λ (l : Location) (a : Fraction). let y : Holdings = (At l, a) ∷ [] in Some y) (same_Some m l e) g
located f (IntValue r) l a b e g = cc
located f (BoolValue r) l a b e g = cc
located f (PermValue r) l a b e g = cc

pub folded_in : (i : Name) (vs : List Value) (a b : Fraction) → a ≡ b → instance_entry i vs (PermValue a) ≡ Some ((Folded record { predicate = i; arguments = vs }, b) ∷ [])
folded_in i vs a b g =
    let j : Instance = record { predicate = i; arguments = vs } in
    ap (λ (a : Fraction). let y : Holdings = (Folded j, a) ∷ [] in Some y) g

entries_both : (p : Program) (h : Heap) (xs ys : Holdings) → AreEntries p h xs → AreEntries p h ys → AreEntries p h (xs ++ ys)
entries_both p h [] ys a b = b
entries_both p h (x ∷ xs) ys a b = (a.0, entries_both p h xs ys a.1 b)

entries_left : (p : Program) (h : Heap) (xs ys : Holdings) → AreEntries p h (xs ++ ys) → AreEntries p h xs
entries_left p h [] ys k = tt
entries_left p h (x ∷ xs) ys k = (k.0, entries_left p h xs ys k.1)

entries_right : (p : Program) (h : Heap) (xs ys : Holdings) → AreEntries p h (xs ++ ys) → AreEntries p h ys
entries_right p h [] ys k = k
entries_right p h (x ∷ xs) ys k = entries_right p h xs ys k.1

taken_append : (q : Fraction) (xs ys h : Holdings) → taken q (xs ++ ys) h ≡ taken q ys (taken q xs h)
unfolding taken
taken_append q [] ys h = refl
taken_append q (x ∷ xs) ys h = taken_append q xs ys (lost x.0 (product q x.1) h)

pub truth_entries : (b : Bool) (es : Holdings) → cond b (Some []) None ≡ Some es → es ≡ []
truth_entries true es e = sym (same_Some [] es e)
truth_entries false es e = cc

pub record Took (p : Program) (m : ℕ) (h : Heap) (s : State) (a : Assertion) (hs rest : Holdings) : Type 0 where
  pub entries_of : Holdings
  pub entries_are : asking_entries p (applications p m) s a ≡ Some entries_of
  pub can : AreEntries p h entries_of
  pub rest_is : rest ≡ taken full entries_of hs
  pub stock : Stock p h rest

module _ (p : Program) (m : ℕ) (h : Heap) (s : State) where
  nothing_taken : (a : Assertion) (hs rest : Holdings) → asking_entries p (applications p m) s a ≡ Some [] → Stock p h hs → hs ≡ rest → Took p m h s a hs rest
  unfolding taken
  nothing_taken a hs rest e st is = record { entries_of = []; entries_are = e; can = tt; rest_is = sym is; stock = subst (Stock p h) is st }

  one_taken : (a : Assertion) (hs rest : Holdings) (r : Resource) (x : Fraction) → asking_entries p (applications p m) s a ≡ Some ((r, x) ∷ []) → IsEntry p h r → Stock p h rest → lost r (product full x) hs ≡ rest → Took p m h s a hs rest
  unfolding taken
  one_taken a hs rest r x e k st is = record { entries_of = (r, x) ∷ []; entries_are = e; can = (k, tt); rest_is = sym is; stock = st }

  moved : (a b : Assertion) (hs rest : Holdings) → asking_entries p (applications p m) s a ≡ asking_entries p (applications p m) s b → Took p m h s b hs rest → Took p m h s a hs rest
  moved a b hs rest e t = record { entries_of = t.entries_of; entries_are = e ∙ t.entries_are; can = t.can; rest_is = t.rest_is; stock = t.stock }

-- what applies has like values, by n firmly and by m
module _ (p : Program) (good : GoodBodies p) (now : SpeakNow p) (n m : ℕ) (alike : AppliesAlike p (Fine p) (firmly p n) (applications p m) (HasRigidArguments p)) where
  pub found : (s t : State) (e : Expr) (v : Value) → Fine p s → Matches p s t → Says (HasRigidArguments p) e → fit p (firmly p n) s e ≡ Ok v → Found (value p (applications p m) t e) v
  found s t e v h k says eq = see p (Fine p) (firmly p n) (firm_open p good n) (applications p m) (HasRigidArguments p) alike s t h k e v says eq

  pub receiver_is : (s t : State) (e : Expr) (f : Name) (v : Value) (l : Location) → Fine p s → Matches p s t → Says (HasRigidArguments p) e → fit p (firmly p n) s e ≡ Ok v → location_of f v ≡ Some l → value p (applications p m) t e ≡ Some v
  receiver_is s t e f v l h k says eq at =
      let w = found s t e v h k says eq in
      w.is ∙ ap Some (receiver_like f v w.it l at w.like)

  -- arguments that are no amounts
  pub record Arguments (t : State) (es : Exprs) (vs : List Value) : Type 0 where
    pub are : values p (applications p m) t es ≡ Some vs
    pub rigid : AreRigid vs

  pub arguments : (s t : State) (i : Name) (es : Exprs) (vs : List Value) → Fine p s → Matches p s t → AllSay (HasRigidArguments p) es → HasRigidArguments p i es → fit_all p (firmly p n) s es ≡ Ok vs → Arguments t es vs
  arguments s t i es vs h k says ri eq =
      let a = see_all p (Fine p) (firmly p n) (firm_open p good n) (applications p m) (HasRigidArguments p) alike s t h k es vs says eq in
      let rigid = ri m t a.they (subst (λ (x : Store). RigidStore x) (sym k.store) h.typed) a.are in
      let same = all_like_rigid vs a.they rigid a.like in
      record { are = a.are ∙ ap Some same; rigid = subst AreRigid same rigid }

  pub amount_is : (s : State) (share : Expr) (v : Value) (a : Fraction) (k : IsAskingAmount p share) → fit p (firmly p n) s share ≡ Ok v → amount_of v ≡ Some a → a ≡ k.amount
  amount_is s share v a k eq am =
      let self : n ≤ n = omega arith in
      let worth = fit_worth p n s share v (fit_more p (firmly p n) (deeper p n) (firm_allows p now n n self) s share v eq) in
      amount_same v a k.amount am (sym worth ∙ k.value_is (applications p n) s)

  -- Taking, where t has the same values

  module _ (s t : State) (fine : Fine p s) (like : Matches p s t) where
    pub take_asks : (a : Assertion) (hs rest : Holdings) → IsAsking p a → Stock p s.heap hs → take p (firmly p n) s full a hs ≡ Ok rest → Took p m s.heap t a hs rest
    take_asks (Pure e) hs rest k st eq =
        let x = undo (fit p (firmly p n) s e) (λ v. guard (place_of e) (is_true v) >>= λ _. Ok hs) rest eq in
        let y = undo (guard (place_of e) (is_true x.it)) (λ _. Ok hs) rest x.then in
        let w = found s t e x.it fine like k x.is in
        nothing_taken p m s.heap t (Pure e) hs rest
        (step (λ v. cond (is_true v) (Some []) None) w.it w.is ∙ ap (λ (b : Bool). cond b (Some []) None) (truth_like x.it w.it w.like ∙ guarded (place_of e) (is_true x.it) y.it y.is))
        st (ok_same hs rest y.then)
    take_asks (Points at e f share) hs rest k st eq =
        let x = undo (field_part p (firmly p n) s at e f share) (take_part p (firmly p n) s full at hs) rest eq in
        let y = field_parts p (firmly p n) s at e f share x.it x.is in
        let r = receiver_is s t e f y.receiver y.location fine like k.0 y.receiver_is y.location_is in
        let am = amount_is s share y.worth y.amount k.1 y.worth_is y.amount_is in
        let part = part_of p full full-positive (firmly p n) s at hs rest (At y.location) y.amount x.it y.is x.then in
        let sign : Le none (product full y.amount) = product_sign {b = y.amount} none-full (record { holds = y.sign }) in
        one_taken p m s.heap t (Points at e f share) hs rest (At y.location) y.amount
        (step (λ r. option_and_then (location_entry f r) (value p no_applications t share)) y.receiver r ∙ step (location_entry f y.receiver) (PermValue k.1.amount) (k.1.value_is no_applications t) ∙ located f y.receiver y.location k.1.amount y.amount y.location_is (sym am))
        tt (subst (Stock p s.heap) part.rest_is (lost_stock p full full-positive s.heap hs (At y.location) (product full y.amount) tt sign part.below st)) part.rest_is
    take_asks (syntax.Instance at i es share) hs rest k st eq =
        let x = undo (instance_part p (firmly p n) s at i es share) (take_part p (firmly p n) s full at hs) rest eq in
        let y = instance_parts p (firmly p n) s at i es share x.it x.is in
        let j : Instance = record { predicate = i; arguments = y.arguments } in
        let r = arguments s t i es y.arguments fine like k.0 k.2 y.arguments_are in
        let am = amount_is s share y.worth y.amount k.1 y.worth_is y.amount_is in
        let part = part_of p full full-positive (firmly p n) s at hs rest (Folded j) y.amount x.it y.is x.then in
        let sign : Le none (product full y.amount) = product_sign {b = y.amount} none-full (record { holds = y.sign }) in
        let positive : Positive (product full y.amount) = product_positive {b = y.amount} full-positive (subst Positive (sym am) (above k.1)) in
        one_taken p m s.heap t (syntax.Instance at i es share) hs rest (Folded j) y.amount
        (step (λ vs. option_and_then (instance_entry i vs) (value p no_applications t share)) y.arguments r.are ∙ step (instance_entry i y.arguments) (PermValue k.1.amount) (k.1.value_is no_applications t) ∙ folded_in i y.arguments k.1.amount y.amount (sym am))
        (st.grounded j (positive-le positive part.below))
        (subst (Stock p s.heap) part.rest_is (lost_stock p full full-positive s.heap hs (Folded j) (product full y.amount) r.rigid sign part.below st)) part.rest_is
    take_asks (Both a b) hs rest k st eq =
        let x = undo (take p (firmly p n) s full a hs) (λ h. take p (firmly p n) s full b h) rest eq in
        let first = take_asks a hs x.it k.0 st x.is in
        let second = take_asks b x.it rest k.1 first.stock x.then in
        record {
          entries_of = first.entries_of ++ second.entries_of;
          entries_are = step (λ xs. option_and_then (λ ys. Some (xs ++ ys)) (asking_entries p (applications p m) t b)) first.entries_of first.entries_are ∙ step (λ ys. Some (first.entries_of ++ ys)) second.entries_of second.entries_are;
          can = entries_both p s.heap first.entries_of second.entries_of first.can second.can;
          rest_is = second.rest_is ∙ ap (taken full second.entries_of) first.rest_is ∙ sym (taken_append full first.entries_of second.entries_of hs);
          stock = second.stock;
        }
    take_asks (Implied c a) hs rest k st eq =
        let x = undo (fit p (firmly p n) s c) (λ v. choose (place_of c) v (take p (firmly p n) s full a hs) (Ok hs)) rest eq in
        let w = found s t c x.it fine like k.0 x.is in
        go x.it (w.is ∙ ap Some (condition_like (place_of c) x.it w.it (take p (firmly p n) s full a hs) (Ok hs) rest w.like x.then)) (λ e. take_asks a hs rest k.1 st e) x.then
      where
        go : (v : Value) → value p (applications p m) t c ≡ Some v → (take p (firmly p n) s full a hs ≡ Ok rest → Took p m s.heap t a hs rest) → choose (place_of c) v (take p (firmly p n) s full a hs) (Ok hs) ≡ Ok rest → Took p m s.heap t (Implied c a) hs rest
        go (BoolValue true) w f e = moved p m s.heap t (Implied c a) a hs rest (step (λ v. plain.choose v (asking_entries p (applications p m) t a) (Some [])) (BoolValue true) w) (f e)
        go (BoolValue false) w f e = nothing_taken p m s.heap t (Implied c a) hs rest (step (λ v. plain.choose v (asking_entries p (applications p m) t a) (Some [])) (BoolValue false) w) st (ok_same hs rest e)
        go (IntValue z) w f e = absurd (failed (place_of c) rest e)
        go (RefValue z) w f e = absurd (failed (place_of c) rest e)
        go (PermValue z) w f e = absurd (failed (place_of c) rest e)
    take_asks (Chosen c a b) hs rest k st eq =
        let x = undo (fit p (firmly p n) s c) (λ v. choose (place_of c) v (take p (firmly p n) s full a hs) (take p (firmly p n) s full b hs)) rest eq in
        let w = found s t c x.it fine like k.0 x.is in
        go x.it (w.is ∙ ap Some (condition_like (place_of c) x.it w.it (take p (firmly p n) s full a hs) (take p (firmly p n) s full b hs) rest w.like x.then)) (λ e. take_asks a hs rest k.1 st e) (λ e. take_asks b hs rest k.2 st e) x.then
      where
        go : (v : Value) → value p (applications p m) t c ≡ Some v → (take p (firmly p n) s full a hs ≡ Ok rest → Took p m s.heap t a hs rest) → (take p (firmly p n) s full b hs ≡ Ok rest → Took p m s.heap t b hs rest) →
            choose (place_of c) v (take p (firmly p n) s full a hs) (take p (firmly p n) s full b hs) ≡ Ok rest → Took p m s.heap t (Chosen c a b) hs rest
        go (BoolValue true) w f g e = moved p m s.heap t (Chosen c a b) a hs rest (step (λ v. plain.choose v (asking_entries p (applications p m) t a) (asking_entries p (applications p m) t b)) (BoolValue true) w) (f e)
        go (BoolValue false) w f g e = moved p m s.heap t (Chosen c a b) b hs rest (step (λ v. plain.choose v (asking_entries p (applications p m) t a) (asking_entries p (applications p m) t b)) (BoolValue false) w) (g e)
        go (IntValue z) w f g e = absurd (failed (place_of c) rest e)
        go (RefValue z) w f g e = absurd (failed (place_of c) rest e)
        go (PermValue z) w f g e = absurd (failed (place_of c) rest e)

  -- Adding

  pub part_is : (s u : State) (r : Resource) (a : Fraction) (part : Resource × Fraction) → ◌≡◌ {A = Checked (Resource × Fraction)} (Ok (r, a)) (Ok part) → add_part p (firmly p n) full s part ≡ Ok u → with_holdings (gained r (product full a) s.holdings) s ≡ u
  part_is s u r a part is eq =
      ap (λ (y : Resource × Fraction). with_holdings (gained y.0 (product full y.1) s.holdings) s) (ok_same {A = Resource × Fraction} (r, a) part is)
      ∙ ok_same (with_holdings (gained part.0 (product full part.1) s.holdings) s) u eq

  -- a state with more stays fine
  pub add_later_asks : (a : Assertion) (s u : State) → IsAsking p a → Fine p s → Grounded p u → add p (firmly p n) full a s ≡ Ok u → Later p Rigid Sound s u
  add_later_asks (Pure e) s u k h hu eq =
      let x = undo (fit p (firmly p n) s e) (λ _. Ok s) u eq in
      subst (Later p Rigid Sound s) (ok_same s u x.then) (later_same p Rigid Sound s h.typed h.forth)
  add_later_asks (Points at e f share) s u k h hu eq =
      let x = undo (field_part p (firmly p n) s at e f share) (add_part p (firmly p n) full s) u eq in
      let y = field_parts p (firmly p n) s at e f share x.it x.is in
      subst (Later p Rigid Sound s) (part_is s u (At y.location) y.amount x.it y.is x.then) ((gains_fine p good full full-positive).later s (At y.location) y.amount tt y.sign h.typed h.forth)
  add_later_asks (syntax.Instance at i es share) s u k h hu eq =
      let x = undo (instance_part p (firmly p n) s at i es share) (add_part p (firmly p n) full s) u eq in
      let y = instance_parts p (firmly p n) s at i es share x.it x.is in
      let r : Resource = Folded record { predicate = i; arguments = y.arguments } in
      let vs = arguments s s i es y.arguments h (matches_seen p s s record { store = refl; heap = refl }) k.0 k.2 y.arguments_are in
      subst (Later p Rigid Sound s) (part_is s u r y.amount x.it y.is x.then) ((gains_fine p good full full-positive).later s r y.amount vs.rigid y.sign h.typed h.forth)
  add_later_asks (Both a b) s u k h hu eq =
      let x = undo (add p (firmly p n) full a s) (λ t. add p (firmly p n) full b t) u eq in
      let hm = add_earlier p Rigid Sound (Grounded p) (firmly p n) (firm_open p good n) full (gains_fine p good full full-positive) b x.it u x.then hu in
      let first = add_later_asks a s x.it k.0 h hm x.is in
      later_both p Rigid Sound s x.it u first (add_later_asks b x.it u k.1 (record { typed = first.typed; forth = first.forth; back = hm }) hu x.then)
  add_later_asks (Implied c a) s u k h hu eq =
      let x = undo (fit p (firmly p n) s c) (λ v. choose (place_of c) v (add p (firmly p n) full a s) (Ok s)) u eq in
      picked {R = Later p Rigid Sound s u} (place_of c) x.it (add p (firmly p n) full a s) (Ok s) u (λ e. add_later_asks a s u k.1 h hu e) (λ e. subst (Later p Rigid Sound s) (ok_same s u e) (later_same p Rigid Sound s h.typed h.forth)) x.then
  add_later_asks (Chosen c a b) s u k h hu eq =
      let x = undo (fit p (firmly p n) s c) (λ v. choose (place_of c) v (add p (firmly p n) full a s) (add p (firmly p n) full b s)) u eq in
      picked {R = Later p Rigid Sound s u} (place_of c) x.it (add p (firmly p n) full a s) (add p (firmly p n) full b s) u (λ e. add_later_asks a s u k.1 h hu e) (λ e. add_later_asks b s u k.2 h hu e) x.then

  nothing_added : (s u : State) → Fine p s → s ≡ u → Adds p full [] s u
  unfolding added
  nothing_added s u f e = subst (Adds p full [] s) e record { store = refl; heap = refl; old_heap = refl; old_holdings = refl; holdings = refl; fine = f }

  both_added : (xs ys : Holdings) (s t u : State) → Adds p full xs s t → Adds p full ys t u → Adds p full (xs ++ ys) s u
  both_added xs ys s t u a b = record {
    store = b.store ∙ a.store;
    heap = b.heap ∙ a.heap;
    old_heap = b.old_heap ∙ a.old_heap;
    old_holdings = b.old_holdings ∙ a.old_holdings;
    holdings = b.holdings ∙ ap (added full ys) a.holdings ∙ sym (added_append full xs ys s.holdings);
    fine = b.fine;
  }

  -- the side that is picked, for the check and for the entries
  side : {R : Type 0} {B : Type 0} (at : Place) (v : Value) (x y : Checked State) (z w : Option B) (u : State) (b : B) →
      (x ≡ Ok u → z ≡ Some b → R) → (y ≡ Ok u → w ≡ Some b → R) → choose at v x y ≡ Ok u → plain.choose v z w ≡ Some b → R
  side at (BoolValue true) x y z w u b h k e f = h e f
  side at (BoolValue false) x y z w u b h k e f = k e f
  side at (IntValue n) x y z w u b h k e f = absurd (failed at u e)
  side at (RefValue r) x y z w u b h k e f = absurd (failed at u e)
  side at (PermValue n) x y z w u b h k e f = absurd (failed at u e)

  module _ (t : State) where
    pub add_asks : (a : Assertion) (s u : State) (es : Holdings) → IsAsking p a → Fine p s → Sees s t → asking_entries p (applications p m) t a ≡ Some es → AreEntries p s.heap es → add p (firmly p n) full a s ≡ Ok u → Adds p full es s u
    add_asks (Pure e) s u es k f sees en ok eq =
        let x = undo (fit p (firmly p n) s e) (λ _. Ok s) u eq in
        let y = came (value p (applications p m) t e) (λ v. cond (is_true v) (Some []) None) es en in
        subst (λ (es : Holdings). Adds p full es s u) (sym (truth_entries (is_true y.it) es y.then)) (nothing_added s u f (ok_same s u x.then))
    add_asks (Points at e x share) s u es k f sees en ok eq =
        let b = undo (field_part p (firmly p n) s at e x share) (add_part p (firmly p n) full s) u eq in
        let y = field_parts p (firmly p n) s at e x share b.it b.is in
        let r = receiver_is s t e x y.receiver y.location f (matches_seen p s t sees) k.0 y.receiver_is y.location_is in
        let am = amount_is s share y.worth y.amount k.1 y.worth_is y.amount_is in
        let es_is = location_entries p full none-full x y.receiver (PermValue k.1.amount) y.location y.amount es y.location_is (ap Some (sym am))
        (sym (step (location_entry x y.receiver) (PermValue k.1.amount) (k.1.value_is no_applications t)) ∙ sym (step (λ r. option_and_then (location_entry x r) (value p no_applications t share)) y.receiver r) ∙ en) in
        subst (λ (es : Holdings). Adds p full es s u) (sym es_is)
        (subst (Adds p full ((At y.location, y.amount) ∷ []) s) (part_is s u (At y.location) y.amount b.it y.is b.then) (fine_gained p full none-full (At y.location) y.amount s tt tt (record { holds = y.sign }) f))
    add_asks (syntax.Instance at i xs share) s u es k f sees en ok eq =
        let b = undo (instance_part p (firmly p n) s at i xs share) (add_part p (firmly p n) full s) u eq in
        let y = instance_parts p (firmly p n) s at i xs share b.it b.is in
        let j : Instance = record { predicate = i; arguments = y.arguments } in
        let r = arguments s t i xs y.arguments f (matches_seen p s t sees) k.0 k.2 y.arguments_are in
        let am = amount_is s share y.worth y.amount k.1 y.worth_is y.amount_is in
        let es_is = instance_entries p full none-full i y.arguments (PermValue k.1.amount) y.amount es (ap Some (sym am))
        (sym (step (instance_entry i y.arguments) (PermValue k.1.amount) (k.1.value_is no_applications t)) ∙ sym (step (λ vs. option_and_then (instance_entry i vs) (value p no_applications t share)) y.arguments r.are) ∙ en) in
        let entry = subst (AreEntries p s.heap) es_is ok in
        subst (λ (es : Holdings). Adds p full es s u) (sym es_is)
        (subst (Adds p full ((Folded j, y.amount) ∷ []) s) (part_is s u (Folded j) y.amount b.it y.is b.then) (fine_gained p full none-full (Folded j) y.amount s r.rigid entry.0 (record { holds = y.sign }) f))
    add_asks (Both a b) s u es k f sees en ok eq =
        let x = undo (add p (firmly p n) full a s) (λ t. add p (firmly p n) full b t) u eq in
        let y = came (asking_entries p (applications p m) t a) (λ xs. option_and_then (λ ys. Some (xs ++ ys)) (asking_entries p (applications p m) t b)) es en in
        let z = came (asking_entries p (applications p m) t b) (λ ys. Some (y.it ++ ys)) es y.then in
        let es_is : y.it ++ z.it ≡ es = same_Some (y.it ++ z.it) es z.then in
        let all = subst (AreEntries p s.heap) (sym es_is) ok in
        let first = add_asks a s x.it y.it k.0 f sees y.is (entries_left p s.heap y.it z.it all) x.is in
        let rest = subst (λ (h : Heap). AreEntries p h z.it) (sym first.heap) (entries_right p s.heap y.it z.it all) in
        let second = add_asks b x.it u z.it k.1 first.fine (record { store = sees.store ∙ sym first.store; heap = sees.heap ∙ sym first.heap }) z.is rest x.then in
        subst (λ (es : Holdings). Adds p full es s u) es_is (both_added y.it z.it s x.it u first second)
    add_asks (Implied c a) s u es k f sees en ok eq =
        let x = undo (fit p (firmly p n) s c) (λ v. choose (place_of c) v (add p (firmly p n) full a s) (Ok s)) u eq in
        let w = found s t c x.it f (matches_seen p s t sees) k.0 x.is in
        let v = w.is ∙ ap Some (condition_like (place_of c) x.it w.it (add p (firmly p n) full a s) (Ok s) u w.like x.then) in
        side {R = Adds p full es s u} (place_of c) x.it (add p (firmly p n) full a s) (Ok s) (asking_entries p (applications p m) t a) (Some []) u es
        (λ e g. add_asks a s u es k.1 f sees g ok e)
        (λ e g. subst (λ (es : Holdings). Adds p full es s u) (same_Some [] es g) (nothing_added s u f (ok_same s u e)))
        x.then (sym (step (λ v. plain.choose v (asking_entries p (applications p m) t a) (Some [])) x.it v) ∙ en)
    add_asks (Chosen c a b) s u es k f sees en ok eq =
        let x = undo (fit p (firmly p n) s c) (λ v. choose (place_of c) v (add p (firmly p n) full a s) (add p (firmly p n) full b s)) u eq in
        let w = found s t c x.it f (matches_seen p s t sees) k.0 x.is in
        let v = w.is ∙ ap Some (condition_like (place_of c) x.it w.it (add p (firmly p n) full a s) (add p (firmly p n) full b s) u w.like x.then) in
        side {R = Adds p full es s u} (place_of c) x.it (add p (firmly p n) full a s) (add p (firmly p n) full b s) (asking_entries p (applications p m) t a) (asking_entries p (applications p m) t b) u es
        (λ e g. add_asks a s u es k.1 f sees g ok e) (λ e g. add_asks b s u es k.2 f sees g ok e)
        x.then (sym (step (λ v. plain.choose v (asking_entries p (applications p m) t a) (asking_entries p (applications p m) t b)) x.it v) ∙ en)
