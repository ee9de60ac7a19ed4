-- The asking tree of an assertion tells what it names, and the values where it gives something.
use Rattle.std.proofs.Common.{◌≡◌, ℕ, Bool, true, false, cond, List, [], ◌∷◌, ◌++◌, Option, Some, None, refl, sym, ◌∙◌, ap, subst}
use Rattle.std.specs.Prelude.{Ok, option_and_then}
use Rattle.std.proofs.lemmas.Option.{same_Some}
use Rattle.vx_ast.specs.declared.Place.{Place}
use Rattle.vx_frac.specs.Fractions.{Fraction, full, product}
use Rattle.vx_ast.specs.Syntax.{Name, Program, Assertion, Pure, Points, Both, Implied, Chosen, place_of}
use Rattle.vx_ast.specs.Syntax as syntax
use Rattle.vx_meaning.specs.Values.{Value, IntValue, BoolValue, RefValue, PermValue, is_true}
use Rattle.vx_meaning.specs.States.{State, Heap, Holdings, Location, Instance, Resource, At, Folded, amount, gained, value_at, with_holdings}
use Rattle.vx_meaning.specs.Evaluate as plain
use Rattle.vx_meaning.specs.Evaluate.{value, applications}
use Rattle.vx_meaning.specs.Flatten.{no_applications, location_entry, instance_entry}
use Rattle.vx_meaning.specs.Fits.{Checked, choose, location_of, fit, field_part, instance_part, add, add_part}
use Rattle.vx_terms.specs.Interpretations.{Tree, Empty, Pair}
use Rattle.vx_amounts.proofs.Amounts.{Positive, none-full, full-positive}
use Rattle.vx_sound.specs.Snapshots.{leaf, location_leaf}
use Rattle.vx_sound_preds.specs.Bodies.{Rigid, GoodBodies}
use Rattle.vx_sound_preds.proofs.Fitting.{undo, step}
use Rattle.vx_sound_preds.proofs.Flats.{came}
use Rattle.vx_sound_preds.proofs.Looks.{Sees}
use Rattle.vx_sound_preds.proofs.Totals.{weight}
use Rattle.vx_sound_preds.proofs.Framing.{Later, field_parts, instance_parts, ok_same, failed, add_earlier}
use Rattle.vx_sound_preds.proofs.Adding.{Sound, Grounded, Fine, added, added_append, location_entries, instance_entries}
use Rattle.vx_sound_preds.proofs.Frames.{gains_fine}
use Rattle.vx_sound_funcs.specs.Firm.{firmly}
use Rattle.vx_sound_funcs.specs.Laws.{SpeakNow}
use Rattle.vx_sound_funcs.proofs.Likes.{Likes, likes}
use Rattle.vx_sound_funcs.proofs.Sees.{Matches}
use Rattle.vx_sound_funcs.proofs.Alike.{firm_open}
use Rattle.vx_sound_funcs.proofs.Bodies.{matches_at, matches_within, SameTrees}
use Rattle.vx_sound_preds.specs.Asking.{asking_tree, asking_entries, IsAsking}
use Rattle.vx_sound_funcs.proofs.Firm.{Alike}
use Rattle.vx_sound_preds.proofs.Asked.{above}
use Rattle.vx_sound_funcs.proofs.Taking.{truth_like, condition_like, matches_seen, truth_entries, found, receiver_is, arguments, amount_is, part_is, add_later_asks}

leaf_told : (p : Program) (h g : Heap) (f : Name) (r : Value) (l : Location) (t : Tree) → location_of f r ≡ Some l → location_leaf p h f r ≡ Some t → location_leaf p g f r ≡ Some t → Likes (value_at p h l) (value_at p g l)
leaf_told p h g f (RefValue r) l t at e k =
    let m : Location = record { receiver = r; field = f } in
    subst (λ (l : Location). Likes (value_at p h l) (value_at p g l)) (same_Some m l at) (likes (value_at p h m) (value_at p g m) (same_Some (leaf (value_at p h m)) t e ∙ sym (same_Some (leaf (value_at p g m)) t k)))
leaf_told p h g f (IntValue r) l t at e k = cc
leaf_told p h g f (BoolValue r) l t at e k = cc
leaf_told p h g f (PermValue r) l t at e k = cc

module _ (f g : Instance → Option Tree) where
  append_trees : (xs ys : Holdings) → SameTrees f g xs → SameTrees f g ys → SameTrees f g (xs ++ ys)
  append_trees [] ys a b = b
  append_trees ((At l, q) ∷ xs) ys a b = append_trees xs ys a b
  append_trees ((Folded j, q) ∷ xs) ys a b = (a.0, append_trees xs ys a.1 b)

  no_trees : (es : Holdings) → es ≡ [] → SameTrees f g es
  no_trees es e = subst (SameTrees f g) (sym e) tt

nothing_added : (q : Fraction) (hs es : Holdings) → es ≡ [] → hs ≡ added q es hs
unfolding added
nothing_added q hs es e = ap (λ (es : Holdings). added q es hs) (sym e)

one_added : (q : Fraction) (r : Resource) (a b : Fraction) → a ≡ b → (hs es : Holdings) → es ≡ (r, b) ∷ [] → gained r (product q a) hs ≡ added q es hs
unfolding added
one_added q r a b is hs es e = ap (λ (a : Fraction). gained r (product q a) hs) is ∙ ap (λ (es : Holdings). added q es hs) (sym e)

pair_first : (a b c d : Tree) → Pair a b ≡ Pair c d → a ≡ c
pair_first a b c d e = cc

pair_second : (a b c d : Tree) → Pair a b ≡ Pair c d → b ≡ d
pair_second a b c d e = cc

-- the side that is picked, in the check, in both trees and in the entries
side_told : {R : Type 0} (at : Place) (v : Value) (x y : Checked State) (u : State) (x₁ y₁ x₂ y₂ : Option Tree) (t : Tree) (a₁ b₁ a₂ b₂ : Option Holdings) (es : Holdings) →
    (x ≡ Ok u → x₁ ≡ Some t → x₂ ≡ Some t → a₁ ≡ Some es → (a₂ ≡ Some es) × R) → (y ≡ Ok u → y₁ ≡ Some t → y₂ ≡ Some t → b₁ ≡ Some es → (b₂ ≡ Some es) × R) →
    choose at v x y ≡ Ok u → plain.choose v x₁ y₁ ≡ Some t → plain.choose v x₂ y₂ ≡ Some t → plain.choose v a₁ b₁ ≡ Some es → (plain.choose v a₂ b₂ ≡ Some es) × R
side_told at (BoolValue true) x y u x₁ y₁ x₂ y₂ t a₁ b₁ a₂ b₂ es k l e f g h = k e f g h
side_told at (BoolValue false) x y u x₁ y₁ x₂ y₂ t a₁ b₁ a₂ b₂ es k l e f g h = l e f g h
side_told at (IntValue z) x y u x₁ y₁ x₂ y₂ t a₁ b₁ a₂ b₂ es k l e f g h = absurd (failed at u e)
side_told at (RefValue z) x y u x₁ y₁ x₂ y₂ t a₁ b₁ a₂ b₂ es k l e f g h = absurd (failed at u e)
side_told at (PermValue z) x y u x₁ y₁ x₂ y₂ t a₁ b₁ a₂ b₂ es k l e f g h = absurd (failed at u e)

-- The tree by f is that in a state with the same variables and heap, the tree by g that in a second state.
module _ (p : Program) (good : GoodBodies p) (now : SpeakNow p) (n m : ℕ) (alike : Alike p n m) (f g : Instance → Option Tree) (o t : State) where
  -- what lies under an instance that is held is alike, if its trees are the same
  abbrev pub TreesTell : State → Type 0
  TreesTell u = (j : Instance) → Positive (amount u.holdings (Folded j)) → (tree : Tree) → f j ≡ Some tree → g j ≡ Some tree →
      (n : ℕ) (l : Location) → Positive (weight p u.heap l n (Folded j)) → Likes (value_at p u.heap l) (value_at p t.heap l)

  -- what the assertion gives is its entries, and t names the same
  abbrev pub Told : State → State → Holdings → Assertion → Type 0
  Told s u es a = (asking_entries p (applications p m) t a ≡ Some es) × (Matches p u t × SameTrees f g es × (u.holdings ≡ added full es s.holdings))

  tell_earlier : (s u : State) → Later p Rigid Sound s u → TreesTell u → TreesTell s
  tell_earlier s u k tell j z tree e e' n l w =
      subst (λ (h : Heap). Likes (value_at p h l) (value_at p t.heap l)) k.heap
      (tell j (k.folded j z) tree e e' n l (subst (λ (h : Heap). Positive (weight p h l n (Folded j))) (sym k.heap) w))

  pub told : (a : Assertion) (s u : State) (tree : Tree) (es : Holdings) → IsAsking p a → Fine p s → Grounded p u → add p (firmly p n) full a s ≡ Ok u → Sees s o → Matches p s t → TreesTell u →
      asking_tree p (applications p m) f o a ≡ Some tree → asking_tree p (applications p m) g t a ≡ Some tree → asking_entries p (applications p m) o a ≡ Some es → Told s u es a
  told (Pure e) s u tree es k h hu eq sees like tell here there en =
      let x = undo (fit p (firmly p n) s e) (λ _. Ok s) u eq in
      let v = found p good now n m alike s o e x.it h (matches_seen p s o sees) k x.is in
      let w = found p good now n m alike s t e x.it h like k x.is in
      let on = λ (v : Value). cond (is_true v) (Some []) None in
      let truth = truth_like x.it w.it w.like ∙ sym (truth_like x.it v.it v.like) in
      let side : on v.it ≡ Some es = sym (step on v.it v.is) ∙ en in
      let empty = truth_entries (is_true v.it) es side in (
        step on w.it w.is ∙ ap (λ (b : Bool). cond b (Some []) None) truth ∙ side,
        (
          subst (λ (u : State). Matches p u t) (ok_same s u x.then) like,
          no_trees f g es empty,
          ap (λ (u : State). u.holdings) (sym (ok_same s u x.then)) ∙ nothing_added full s.holdings es empty,
        ),
      )
  told (Points at e x share) s u tree es k h hu eq sees like tell here there en =
      let b = undo (field_part p (firmly p n) s at e x share) (add_part p (firmly p n) full s) u eq in
      let y = field_parts p (firmly p n) s at e x share b.it b.is in
      let v = receiver_is p good now n m alike s o e x y.receiver y.location h (matches_seen p s o sees) k.0 y.receiver_is y.location_is in
      let w = receiver_is p good now n m alike s t e x y.receiver y.location h like k.0 y.receiver_is y.location_is in
      let here' = sym (step (location_leaf p o.heap x) y.receiver v) ∙ here in
      let alike' = subst (λ (q : Heap). Likes (value_at p q y.location) (value_at p t.heap y.location)) sees.heap (leaf_told p o.heap t.heap x y.receiver y.location tree y.location_is here' (sym (step (location_leaf p t.heap x) y.receiver w) ∙ there)) in
      let am = amount_is p good now n m alike s share y.worth y.amount k.1 y.worth_is y.amount_is in
      let u_is = part_is p good now n m alike s u (At y.location) y.amount b.it y.is b.then in
      let side : location_entry x y.receiver (PermValue k.1.amount) ≡ Some es =
      sym (step (location_entry x y.receiver) (PermValue k.1.amount) (k.1.value_is no_applications o)) ∙ sym (step (λ r. option_and_then (location_entry x r) (value p no_applications o share)) y.receiver v) ∙ en in
      let es_is = location_entries p full none-full x y.receiver (PermValue k.1.amount) y.location k.1.amount es y.location_is refl side in (
        step (λ r. option_and_then (location_entry x r) (value p no_applications t share)) y.receiver w ∙ step (location_entry x y.receiver) (PermValue k.1.amount) (k.1.value_is no_applications t) ∙ side,
        (
          subst (λ (u : State). Matches p u t) u_is (matches_at p s t y.location (product full y.amount) alike' like),
          subst (SameTrees f g) (sym es_is) tt,
          ap (λ (u : State). u.holdings) (sym u_is) ∙ one_added full (At y.location) y.amount k.1.amount am s.holdings es es_is,
        ),
      )
  told (syntax.Instance at i xs share) s u tree es k h hu eq sees like tell here there en =
      let inst = λ (vs : List Value). let j : Instance = record { predicate = i; arguments = vs } in j in
      let b = undo (instance_part p (firmly p n) s at i xs share) (add_part p (firmly p n) full s) u eq in
      let y = instance_parts p (firmly p n) s at i xs share b.it b.is in
      let vs = arguments p good now n m alike s o i xs y.arguments h (matches_seen p s o sees) k.0 k.2 y.arguments_are in
      let ws = arguments p good now n m alike s t i xs y.arguments h like k.0 k.2 y.arguments_are in
      let am = amount_is p good now n m alike s share y.worth y.amount k.1 y.worth_is y.amount_is in
      let positive = subst Positive (sym am) (above k.1) in
      let j = inst y.arguments in
      let after : State = with_holdings (gained (Folded j) (product full y.amount) s.holdings) s in
      let u_is : after ≡ u = part_is p good now n m alike s u (Folded j) y.amount b.it y.is b.then in
      let held : Positive (amount after.holdings (Folded j)) = (gains_fine p good full full-positive).in_it s j y.amount h.forth vs.rigid positive in
      let here_is : f j ≡ Some tree = sym (step (λ vs. f (inst vs)) y.arguments vs.are) ∙ here in
      let there_is : g j ≡ Some tree = sym (step (λ vs. g (inst vs)) y.arguments ws.are) ∙ there in
      let all = subst TreesTell (sym u_is) tell in
      let side : instance_entry i y.arguments (PermValue k.1.amount) ≡ Some es =
      sym (step (instance_entry i y.arguments) (PermValue k.1.amount) (k.1.value_is no_applications o)) ∙ sym (step (λ vs. option_and_then (instance_entry i vs) (value p no_applications o share)) y.arguments vs.are) ∙ en in
      let es_is = instance_entries p full none-full i y.arguments (PermValue k.1.amount) k.1.amount es refl side in (
        step (λ vs. option_and_then (instance_entry i vs) (value p no_applications t share)) y.arguments ws.are ∙ step (instance_entry i y.arguments) (PermValue k.1.amount) (k.1.value_is no_applications t) ∙ side,
        (
          subst (λ (u : State). Matches p u t) u_is (matches_within p good s t j (product full y.amount) (all j held tree here_is there_is) like),
          subst (SameTrees f g) (sym es_is) ((tree, here_is, there_is), tt),
          ap (λ (u : State). u.holdings) (sym u_is) ∙ one_added full (Folded j) y.amount k.1.amount am s.holdings es es_is,
        ),
      )
  told (Both a b) s u tree es k h hu eq sees like tell here there en =
      let x = undo (add p (firmly p n) full a s) (λ q. add p (firmly p n) full b q) u eq in
      let mid = add_earlier p Rigid Sound (Grounded p) (firmly p n) (firm_open p good n) full (gains_fine p good full full-positive) b x.it u x.then hu in
      let first_later = add_later_asks p good now n m alike a s x.it k.0 h mid x.is in
      let known : Fine p x.it = record { typed = first_later.typed; forth = first_later.forth; back = mid } in
      let later = add_later_asks p good now n m alike b x.it u k.1 known hu x.then in
      let sees' : Sees x.it o = record { store = sees.store ∙ sym first_later.store; heap = sees.heap ∙ sym first_later.heap } in
      let y = came (asking_entries p (applications p m) o a) (λ xs. option_and_then (λ ys. Some (xs ++ ys)) (asking_entries p (applications p m) o b)) es en in
      let z = came (asking_entries p (applications p m) o b) (λ ys. Some (y.it ++ ys)) es y.then in
      let l = came (asking_tree p (applications p m) f o a) (λ q. option_and_then (λ z. Some (Pair q z)) (asking_tree p (applications p m) f o b)) tree here in
      let l' = came (asking_tree p (applications p m) f o b) (λ u. Some (Pair l.it u)) tree l.then in
      let r = came (asking_tree p (applications p m) g t a) (λ q. option_and_then (λ z. Some (Pair q z)) (asking_tree p (applications p m) g t b)) tree there in
      let r' = came (asking_tree p (applications p m) g t b) (λ u. Some (Pair r.it u)) tree r.then in
      let both = same_Some (Pair l.it l'.it) tree l'.then ∙ sym (same_Some (Pair r.it r'.it) tree r'.then) in
      let one = told a s x.it l.it y.it k.0 h mid x.is sees like (tell_earlier x.it u later tell) l.is (r.is ∙ ap Some (sym (pair_first l.it l'.it r.it r'.it both))) y.is in
      let two = told b x.it u l'.it z.it k.1 known hu x.then sees' one.1.0 tell l'.is (r'.is ∙ ap Some (sym (pair_second l.it l'.it r.it r'.it both))) z.is in
      let is : y.it ++ z.it ≡ es = same_Some (y.it ++ z.it) es z.then in (
        step (λ xs. option_and_then (λ ys. Some (xs ++ ys)) (asking_entries p (applications p m) t b)) y.it one.0 ∙ step (λ ys. Some (y.it ++ ys)) z.it two.0 ∙ z.then,
        (
          two.1.0,
          subst (SameTrees f g) is (append_trees f g y.it z.it one.1.1 two.1.1),
          two.1.2 ∙ ap (added full z.it) one.1.2 ∙ sym (added_append full y.it z.it s.holdings) ∙ ap (λ (es : Holdings). added full es s.holdings) is,
        ),
      )
  told (Implied c a) s u tree es k h hu eq sees like tell here there en =
      let x = undo (fit p (firmly p n) s c) (λ v. choose (place_of c) v (add p (firmly p n) full a s) (Ok s)) u eq in
      let v₁ = found p good now n m alike s o c x.it h (matches_seen p s o sees) k.0 x.is in
      let w₁ = found p good now n m alike s t c x.it h like k.0 x.is in
      let v = v₁.is ∙ ap Some (condition_like (place_of c) x.it v₁.it (add p (firmly p n) full a s) (Ok s) u v₁.like x.then) in
      let w = w₁.is ∙ ap Some (condition_like (place_of c) x.it w₁.it (add p (firmly p n) full a s) (Ok s) u w₁.like x.then) in
      let r = side_told {R = Matches p u t × SameTrees f g es × (u.holdings ≡ added full es s.holdings)} (place_of c) x.it (add p (firmly p n) full a s) (Ok s) u
      (asking_tree p (applications p m) f o a) (Some Empty) (asking_tree p (applications p m) g t a) (Some Empty) tree (asking_entries p (applications p m) o a) (Some []) (asking_entries p (applications p m) t a) (Some []) es
      (λ e i j q. told a s u tree es k.1 h hu e sees like tell i j q)
      (λ e i j q. (q, (subst (λ (u : State). Matches p u t) (ok_same s u e) like, no_trees f g es (sym (same_Some [] es q)), ap (λ (u : State). u.holdings) (sym (ok_same s u e)) ∙ nothing_added full s.holdings es (sym (same_Some [] es q)))))
      x.then
      (sym (step (λ v. plain.choose v (asking_tree p (applications p m) f o a) (Some Empty)) x.it v) ∙ here)
      (sym (step (λ v. plain.choose v (asking_tree p (applications p m) g t a) (Some Empty)) x.it w) ∙ there)
      (sym (step (λ v. plain.choose v (asking_entries p (applications p m) o a) (Some [])) x.it v) ∙ en) in
      (step (λ v. plain.choose v (asking_entries p (applications p m) t a) (Some [])) x.it w ∙ r.0, r.1)
  told (Chosen c a b) s u tree es k h hu eq sees like tell here there en =
      let x = undo (fit p (firmly p n) s c) (λ v. choose (place_of c) v (add p (firmly p n) full a s) (add p (firmly p n) full b s)) u eq in
      let v₁ = found p good now n m alike s o c x.it h (matches_seen p s o sees) k.0 x.is in
      let w₁ = found p good now n m alike s t c x.it h like k.0 x.is in
      let v = v₁.is ∙ ap Some (condition_like (place_of c) x.it v₁.it (add p (firmly p n) full a s) (add p (firmly p n) full b s) u v₁.like x.then) in
      let w = w₁.is ∙ ap Some (condition_like (place_of c) x.it w₁.it (add p (firmly p n) full a s) (add p (firmly p n) full b s) u w₁.like x.then) in
      let r = side_told {R = Matches p u t × SameTrees f g es × (u.holdings ≡ added full es s.holdings)} (place_of c) x.it (add p (firmly p n) full a s) (add p (firmly p n) full b s) u
      (asking_tree p (applications p m) f o a) (asking_tree p (applications p m) f o b) (asking_tree p (applications p m) g t a) (asking_tree p (applications p m) g t b) tree
      (asking_entries p (applications p m) o a) (asking_entries p (applications p m) o b) (asking_entries p (applications p m) t a) (asking_entries p (applications p m) t b) es
      (λ e i j q. told a s u tree es k.1 h hu e sees like tell i j q)
      (λ e i j q. told b s u tree es k.2 h hu e sees like tell i j q)
      x.then
      (sym (step (λ v. plain.choose v (asking_tree p (applications p m) f o a) (asking_tree p (applications p m) f o b)) x.it v) ∙ here)
      (sym (step (λ v. plain.choose v (asking_tree p (applications p m) g t a) (asking_tree p (applications p m) g t b)) x.it w) ∙ there)
      (sym (step (λ v. plain.choose v (asking_entries p (applications p m) o a) (asking_entries p (applications p m) o b)) x.it v) ∙ en) in
      (step (λ v. plain.choose v (asking_entries p (applications p m) t a) (asking_entries p (applications p m) t b)) x.it w ∙ r.0, r.1)
