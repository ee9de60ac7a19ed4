-- The tree of a body tells what the body names, and the values where it gives something.
use Rattle.std.proofs.Common.{◌≡◌, ℕ, Bool, true, false, cond, List, [], ◌∷◌, ◌++◌, Option, Some, None, refl, sym, ◌∙◌, ap, subst}
use Rattle.std.specs.Prelude.{Ok, option_and_then}
use Rattle.std.proofs.lemmas.Option.{same_Some}
use Rattle.vx_ast.specs.declared.Place.{Place}
use Rattle.vx_frac.specs.Fractions.{Fraction, none, full, is_positive, sum, product}
use Rattle.vx_ast.specs.Syntax.{Name, Program, Expr, Number, Truth, Null, Part, Variable, Not, Operate, Divide, Connect, Choose, Read, Old, Apply, Unfolding, Exprs, NoMore, More, Assertion, Pure, Points, Both, Implied, Chosen, place_of}
use Rattle.vx_ast.specs.Syntax as syntax
use Rattle.vx_meaning.specs.Values.{Value, IntValue, BoolValue, RefValue, PermValue, is_true}
use Rattle.vx_meaning.specs.States.{State, Heap, Holdings, Location, Instance, Resource, At, Folded, same_location, amount, gained, value_at, with_holdings}
use Rattle.vx_meaning.specs.Evaluate as plain
use Rattle.vx_meaning.specs.Evaluate.{value, values}
use Rattle.vx_meaning.specs.Flatten.{no_applications, entries, location_entry, instance_entry}
use Rattle.vx_meaning.specs.Consistent.{total}
use Rattle.vx_meaning.specs.Fits.{Checked, choose, location_of, fit, fit_all, field_part, instance_part, add, add_part, deeper}
use Rattle.vx_terms.specs.Interpretations.{Tree, Empty, Pair}
use Rattle.vx_amounts.proofs.Amounts.{Le, Positive, Same, same-refl, same-trans, le-trans, none-sum, sum_same, product_same, positive-or, positive-le, none-full, full-positive}
use Rattle.vx_amounts.proofs.Products.{product-none}
use Rattle.vx_sound.specs.Snapshots.{leaf, location_leaf, assertion_tree}
use Rattle.vx_sound.proofs.Chunks.{location_is}
use Rattle.vx_sound_preds.specs.Bodies.{AreRigid, Rigid, IsPlain, ArePlain, IsPlainBody, GoodBodies}
use Rattle.vx_sound_preds.proofs.Fitting.{undo, step, fit_framed, fit_all_framed}
use Rattle.vx_sound_preds.proofs.Flats.{came}
use Rattle.vx_sound_preds.proofs.Looks.{Sees}
use Rattle.vx_sound_preds.proofs.Totals.{weigh, weigh_more, weight, total_weighs, weight_sign, same_is}
use Rattle.vx_sound_preds.proofs.Framing.{Later, field_parts, instance_parts, agrees_itself, entries_seen, tree_seen, ok_same, failed, above_none, amount_same, add_earlier, add_later}
use Rattle.vx_sound_preds.proofs.Adding.{Sound, Grounded, Fine, added, added_append, location_entries, instance_entries}
use Rattle.vx_sound_preds.proofs.Exchanging.{no_negatives, all_open}
use Rattle.vx_sound_preds.proofs.Frames.{gains_fine}
use Rattle.vx_sound_preds.specs.Asking.{Says, AllSay}
use Rattle.vx_sound_funcs.proofs.Likes.{Likes, itself, rewritten, likes, Found, all_rigid}
use Rattle.vx_sound_funcs.proofs.Sees.{Matches, AppliesAlike, see, see_all}

-- no application
abbrev pub Nothing : Name → Exprs → Type 0
Nothing f es = ⊥

mutual
  pub plain_says : (e : Expr) → IsPlain e → Says Nothing e
  plain_says (Number at n) k = tt
  plain_says (Truth at b) k = tt
  plain_says (Null at) k = tt
  plain_says (Part at n m) k = tt
  plain_says (Variable at x) k = tt
  plain_says (Not at e) k = plain_says e k
  plain_says (Operate at op a b) k = (plain_says a k.0, plain_says b k.1)
  plain_says (Divide at op a b) k = (plain_says a k.0, plain_says b k.1)
  plain_says (Connect at c a b) k = (plain_says a k.0, plain_says b k.1)
  plain_says (Choose at c a b) k = (plain_says c k.0, plain_says a k.1, plain_says b k.2)
  plain_says (Read at e f) k = plain_says e k
  plain_says (Old at e) k = absurd k
  plain_says (Apply at f es) k = absurd k
  plain_says (Unfolding at i es share e) k = (all_plain_say es k.0, plain_says share k.1, plain_says e k.2)

  pub all_plain_say : (es : Exprs) → ArePlain es → AllSay Nothing es
  all_plain_say NoMore k = tt
  all_plain_say (More e es) k = (plain_says e k.0, all_plain_say es k.1)

-- What is held after something is added

pub matches_at : (p : Program) (s t : State) (l : Location) (q : Fraction) → Likes (value_at p s.heap l) (value_at p t.heap l) → Matches p s t → Matches p (with_holdings (gained (At l) q s.holdings) s) t
matches_at p s t l q k m = record { store = m.store; heap = λ c h. go c h.0 (same_location c l) refl h.1 }
  where
    go : (c : Location) (n : ℕ) (b : Bool) → same_location c l ≡ b → is_positive (cond b (sum q (total p n s.heap s.holdings c)) (total p n s.heap s.holdings c)) ≡ true → Likes (value_at p s.heap c) (value_at p t.heap c)
    go c n true e z = subst (λ (l : Location). Likes (value_at p s.heap l) (value_at p t.heap l)) (sym (location_is c l e)) k
    go c n false e z = m.heap c (n, z)

-- the same of an instance, where what lies under it is alike
pub matches_within : (p : Program) (good : GoodBodies p) (s t : State) (j : Instance) (q : Fraction) → ((n : ℕ) (l : Location) → Positive (weight p s.heap l n (Folded j)) → Likes (value_at p s.heap l) (value_at p t.heap l)) → Matches p s t →
    Matches p (with_holdings (gained (Folded j) q s.holdings) s) t
matches_within p good s t j q k m = record { store = m.store; heap = λ l h. go l h.0 (record { holds = h.1 }) }
  where
    -- what weighs nothing adds nothing
    before : (l : Location) (n : ℕ) → Le (weight p s.heap l n (Folded j)) none → Positive (total p n s.heap (gained (Folded j) q s.holdings) l) → Positive (total p n s.heap s.holdings l)
    before l n le z =
        let w = weight p s.heap l n in
        let hs = s.holdings in
        let nil : Same (w (Folded j)) none = record { there = le; back = weight_sign p s.heap l (no_negatives p s.heap l good) n (Folded j) } in
        let added : Same (product q (w (Folded j))) none = same-trans (product_same (same-refl q) nil) (product-none q) in
        let less : Same (weigh w (gained (Folded j) q hs)) (weigh w hs) =
        same-trans (same_is (weigh_more w (Folded j, q) hs)) (same-trans (sum_same added (same-refl (weigh w hs))) (none-sum (weigh w hs))) in
        positive-le z (le-trans (total_weighs p s.heap l n (gained (Folded j) q hs)).there (le-trans less.there (total_weighs p s.heap l n hs).back))

    go : (l : Location) (n : ℕ) → Positive (total p n s.heap (gained (Folded j) q s.holdings) l) → Likes (value_at p s.heap l) (value_at p t.heap l)
    go l n z = positive-or (weight p s.heap l n (Folded j)) (λ pos. k n l pos) (λ le. m.heap l (n, (before l n le z).holds))

-- What two trees tell

leaf_told : (p : Program) (h g : Heap) (f : Name) (r : Value) (l : Location) (t : Tree) → location_of f r ≡ Some l → location_leaf p h f r ≡ Some t → location_leaf p g f r ≡ Some t → Likes (value_at p h l) (value_at p g l)
leaf_told p h g f (RefValue r) l t at e k =
    let m : Location = record { receiver = r; field = f } in
    subst (λ (l : Location). Likes (value_at p h l) (value_at p g l)) (same_Some m l at) (likes (value_at p h m) (value_at p g m) (same_Some (leaf (value_at p h m)) t e ∙ sym (same_Some (leaf (value_at p g m)) t k)))
leaf_told p h g f (IntValue r) l t at e k = cc
leaf_told p h g f (BoolValue r) l t at e k = cc
leaf_told p h g f (PermValue r) l t at e k = cc

receiver_like : (f : Name) (v w : Value) (l : Location) → location_of f v ≡ Some l → Likes v w → w ≡ v
receiver_like f v w l e (itself x) = refl
receiver_like f v w l e (rewritten a b s) = cc

truth_like : (v w : Value) → Likes v w → is_true w ≡ is_true v
truth_like v w (itself x) = refl
truth_like v w (rewritten a b s) = refl

-- of each instance among some entries
abbrev pub EachFolded : (Instance → Type 0) → Holdings → Type 0
EachFolded Q [] = Unit {0}
EachFolded Q ((At l, a) ∷ xs) = EachFolded Q xs
EachFolded Q ((Folded j, a) ∷ xs) = Q j × EachFolded Q xs

-- it has one tree by both
abbrev pub HasOneTree : (f g : Instance → Option Tree) → Instance → Type 0
HasOneTree f g j = (t : Tree) × (f j ≡ Some t) × (g j ≡ Some t)

abbrev pub SameTrees : (f g : Instance → Option Tree) → Holdings → Type 0
SameTrees f g = EachFolded (HasOneTree f g)

module _ (f g : Instance → Option Tree) where
  append_trees : (xs ys : Holdings) → SameTrees f g xs → SameTrees f g ys → SameTrees f g (xs ++ ys)
  append_trees [] ys a b = b
  append_trees ((At l, q) ∷ xs) ys a b = append_trees xs ys a b
  append_trees ((Folded j, q) ∷ xs) ys a b = (a.0, append_trees xs ys a.1 b)

  no_trees : (es : Holdings) → Some [] ≡ Some es → SameTrees f g es
  no_trees es e = subst (SameTrees f g) (same_Some [] es e) tt

  truth_trees : (b : Bool) (es : Holdings) → cond b (Some []) None ≡ Some es → SameTrees f g es
  truth_trees true es e = no_trees es e
  truth_trees false es e = cc

  location_trees : (x : Name) (r v : Value) (es : Holdings) → location_entry x r v ≡ Some es → SameTrees f g es
  location_trees x (RefValue r) (PermValue q) es e = subst (SameTrees f g) (same_Some ((At record { receiver = r; field = x }, q) ∷ []) es e) tt
  location_trees x (RefValue r) (IntValue q) es e = cc
  location_trees x (RefValue r) (BoolValue q) es e = cc
  location_trees x (RefValue r) (RefValue q) es e = cc
  location_trees x (IntValue r) v es e = cc
  location_trees x (BoolValue r) v es e = cc
  location_trees x (PermValue r) v es e = cc

  instance_trees : (i : Name) (vs : List Value) (v : Value) (es : Holdings) (t : Tree) → f (record { predicate = i; arguments = vs }) ≡ Some t → g (record { predicate = i; arguments = vs }) ≡ Some t → instance_entry i vs v ≡ Some es → SameTrees f g es
  instance_trees i vs (PermValue q) es t a b e = subst (SameTrees f g) (same_Some ((Folded record { predicate = i; arguments = vs }, q) ∷ []) es e) ((t, a, b), tt)
  instance_trees i vs (IntValue q) es t a b e = cc
  instance_trees i vs (BoolValue q) es t a b e = cc
  instance_trees i vs (RefValue q) es t a b e = cc

-- Entries, and what is added by them

truth_entries : (b : Bool) (es : Holdings) → cond b (Some []) None ≡ Some es → es ≡ []
truth_entries true es e = sym (same_Some [] es e)
truth_entries false es e = cc

nothing_added : (q : Fraction) (hs es : Holdings) → es ≡ [] → hs ≡ added q es hs
unfolding added
nothing_added q hs es e = ap (λ (es : Holdings). added q es hs) (sym e)

one_added : (q : Fraction) (r : Resource) (a b : Fraction) → a ≡ b → (hs es : Holdings) → es ≡ (r, b) ∷ [] → gained r (product q a) hs ≡ added q es hs
unfolding added
one_added q r a b is hs es e = ap (λ (a : Fraction). gained r (product q a) hs) is ∙ ap (λ (es : Holdings). added q es hs) (sym e)

pair_first : (a b c d : Tree) → Pair a b ≡ Pair c d → a ≡ c
pair_first a b c d e = cc

pair_second : (a b c d : Tree) → Pair a b ≡ Pair c d → b ≡ d
pair_second a b c d e = cc

-- the side that is picked, in the check, in both trees and in both lists of entries
side_told : {R : Type 0} (at : Place) (v w : Value) (x y : Checked State) (u : State) (x₁ y₁ x₂ y₂ : Option Tree) (t : Tree) (a₁ b₁ a₂ b₂ : Option Holdings) (es : Holdings) → Likes v w →
    (x ≡ Ok u → x₁ ≡ Some t → x₂ ≡ Some t → a₁ ≡ Some es → (a₂ ≡ Some es) × R) → (y ≡ Ok u → y₁ ≡ Some t → y₂ ≡ Some t → b₁ ≡ Some es → (b₂ ≡ Some es) × R) →
    choose at v x y ≡ Ok u → plain.choose v x₁ y₁ ≡ Some t → plain.choose w x₂ y₂ ≡ Some t → plain.choose v a₁ b₁ ≡ Some es → (plain.choose w a₂ b₂ ≡ Some es) × R
side_told at v w x y u x₁ y₁ x₂ y₂ t a₁ b₁ a₂ b₂ es (itself (BoolValue true)) k l e f g h = k e f g h
side_told at v w x y u x₁ y₁ x₂ y₂ t a₁ b₁ a₂ b₂ es (itself (BoolValue false)) k l e f g h = l e f g h
side_told at v w x y u x₁ y₁ x₂ y₂ t a₁ b₁ a₂ b₂ es (itself (IntValue z)) k l e f g h = absurd (failed at u e)
side_told at v w x y u x₁ y₁ x₂ y₂ t a₁ b₁ a₂ b₂ es (itself (RefValue z)) k l e f g h = absurd (failed at u e)
side_told at v w x y u x₁ y₁ x₂ y₂ t a₁ b₁ a₂ b₂ es (itself (PermValue z)) k l e f g h = absurd (failed at u e)
side_told at v w x y u x₁ y₁ x₂ y₂ t a₁ b₁ a₂ b₂ es (rewritten m n s) k l e f g h = absurd (failed at u e)

-- What fits where a body is added, and a second state that matches

module _ (p : Program) (good : GoodBodies p) (n : ℕ) where
  nothing_applied : AppliesAlike p (Fine p) (deeper p n) no_applications Nothing
  nothing_applied f es k = absurd k

  pub value_here : (s : State) (e : Expr) (v : Value) → Fine p s → IsPlain e → fit p (deeper p n) s e ≡ Ok v → value p no_applications s e ≡ Some v
  value_here s e v h k eq = fit_framed p (Fine p) (deeper p n) (all_open p good n) s s h (agrees_itself p s) e v k eq

  pub values_here : (s : State) (es : Exprs) (vs : List Value) → Fine p s → ArePlain es → fit_all p (deeper p n) s es ≡ Ok vs → values p no_applications s es ≡ Some vs
  values_here s es vs h k eq = fit_all_framed p (Fine p) (deeper p n) (all_open p good n) s s h (agrees_itself p s) es vs k eq

  pub value_there : (s t : State) (e : Expr) (v : Value) → Fine p s → Matches p s t → IsPlain e → fit p (deeper p n) s e ≡ Ok v → Found (value p no_applications t e) v
  value_there s t e v h m k eq =
      see p (Fine p) (deeper p n) (all_open p good n) no_applications Nothing nothing_applied s t h m e v (plain_says e k) eq

  -- arguments that are no fractions are the same
  arguments_there : (s t : State) (es : Exprs) (vs : List Value) → Fine p s → Matches p s t → ArePlain es → AreRigid vs → fit_all p (deeper p n) s es ≡ Ok vs → values p no_applications t es ≡ Some vs
  arguments_there s t es vs h m k ri eq =
      let a = see_all p (Fine p) (deeper p n) (all_open p good n) no_applications Nothing nothing_applied s t h m es vs (all_plain_say es k) eq in
      a.are ∙ ap Some (all_rigid vs a.they ri a.like)

  part_is : (s u : State) (r : Resource) (a : Fraction) (part : Resource × Fraction) → ◌≡◌ {A = Checked (Resource × Fraction)} (Ok (r, a)) (Ok part) → add_part p (deeper p n) full s part ≡ Ok u → with_holdings (gained r (product full a) s.holdings) s ≡ u
  part_is s u r a part is eq =
      ap (λ (y : Resource × Fraction). with_holdings (gained y.0 (product full y.1) s.holdings) s) (ok_same {A = Resource × Fraction} (r, a) part is)
      ∙ ok_same (with_holdings (gained part.0 (product full part.1) s.holdings) s) u eq

  -- with the same tree by f and by g, a body names the same, and what it gives is alike
  module _ (f g : Instance → Option Tree) where
    -- what lies under an instance that is held is alike, if its trees are the same
    abbrev pub TreesTell : State → State → Type 0
    TreesTell u t = (j : Instance) → Positive (amount u.holdings (Folded j)) → (tree : Tree) → f j ≡ Some tree → g j ≡ Some tree →
        (n : ℕ) (l : Location) → Positive (weight p u.heap l n (Folded j)) → Likes (value_at p u.heap l) (value_at p t.heap l)

    -- what the body gives is its entries, and t names the same
    abbrev pub Told : State → State → State → Holdings → Assertion → Type 0
    Told s u t es a = (entries p t a ≡ Some es) × (Matches p u t × SameTrees f g es × (u.holdings ≡ added full es s.holdings))

    tell_earlier : (s u t : State) → Later p Rigid Sound s u → TreesTell u t → TreesTell s t
    tell_earlier s u t k tell j z tree e e' n l w =
        subst (λ (h : Heap). Likes (value_at p h l) (value_at p t.heap l)) k.heap
        (tell j (k.folded j z) tree e e' n l (subst (λ (h : Heap). Positive (weight p h l n (Folded j))) (sym k.heap) w))

    pub told : (a : Assertion) (s u t : State) (tree : Tree) (es : Holdings) → IsPlainBody p Rigid a → Fine p s → Grounded p u → add p (deeper p n) full a s ≡ Ok u → Matches p s t → TreesTell u t →
        assertion_tree p f s a ≡ Some tree → assertion_tree p g t a ≡ Some tree → entries p s a ≡ Some es → Told s u t es a
    told (Pure e) s u t tree es k h hu eq m tell here there en =
        let x = undo (fit p (deeper p n) s e) (λ _. Ok s) u eq in
        let v = value_here s e x.it h k x.is in
        let w = value_there s t e x.it h m k x.is in
        let on = λ (v : Value). cond (is_true v) (Some []) None in
        let side : on x.it ≡ Some es = sym (step on x.it v) ∙ en in (
          step on w.it w.is ∙ ap (λ (b : Bool). cond b (Some []) None) (truth_like x.it w.it w.like) ∙ side,
          (
            subst (λ (u : State). Matches p u t) (ok_same s u x.then) m,
            truth_trees f g (is_true x.it) es side,
            ap (λ (u : State). u.holdings) (sym (ok_same s u x.then)) ∙ nothing_added full s.holdings es (truth_entries (is_true x.it) es side),
          ),
        )
    told (Points at e x share) s u t tree es k h hu eq m tell here there en =
        let b = undo (field_part p (deeper p n) s at e x share) (add_part p (deeper p n) full s) u eq in
        let y = field_parts p (deeper p n) s at e x share b.it b.is in
        let v = value_here s e y.receiver h k.0 y.receiver_is in
        let w = value_there s t e y.receiver h m k.0 y.receiver_is in
        let there_is : value p no_applications t e ≡ Some y.receiver = w.is ∙ ap Some (receiver_like x y.receiver w.it y.location y.location_is w.like) in
        let like = leaf_told p s.heap t.heap x y.receiver y.location tree y.location_is (sym (step (location_leaf p s.heap x) y.receiver v) ∙ here) (sym (step (location_leaf p t.heap x) y.receiver there_is) ∙ there) in
        let worth = value_here s share y.worth h k.1.plain y.worth_is in
        let am = amount_same y.worth y.amount k.1.amount y.amount_is (sym worth ∙ k.1.value_is s) in
        let u_is = part_is s u (At y.location) y.amount b.it y.is b.then in
        let side : location_entry x y.receiver (PermValue k.1.amount) ≡ Some es =
        sym (step (location_entry x y.receiver) (PermValue k.1.amount) (k.1.value_is s)) ∙ sym (step (λ r. option_and_then (location_entry x r) (value p no_applications s share)) y.receiver v) ∙ en in (
          step (λ r. option_and_then (location_entry x r) (value p no_applications t share)) y.receiver there_is ∙ step (location_entry x y.receiver) (PermValue k.1.amount) (k.1.value_is t) ∙ side,
          (
            subst (λ (u : State). Matches p u t) u_is (matches_at p s t y.location (product full y.amount) like m),
            location_trees f g x y.receiver (PermValue k.1.amount) es side,
            ap (λ (u : State). u.holdings) (sym u_is) ∙ one_added full (At y.location) y.amount k.1.amount am s.holdings es (location_entries p full none-full x y.receiver (PermValue k.1.amount) y.location k.1.amount es y.location_is refl side),
          ),
        )
    told (syntax.Instance at i xs share) s u t tree es k h hu eq m tell here there en =
        let inst = λ (vs : List Value). let j : Instance = record { predicate = i; arguments = vs } in j in
        let b = undo (instance_part p (deeper p n) s at i xs share) (add_part p (deeper p n) full s) u eq in
        let y = instance_parts p (deeper p n) s at i xs share b.it b.is in
        let vs = values_here s xs y.arguments h k.0 y.arguments_are in
        let rigid = k.2 s y.arguments h.typed vs in
        let ws = arguments_there s t xs y.arguments h m k.0 rigid y.arguments_are in
        let worth = value_here s share y.worth h k.1.plain y.worth_is in
        let am = amount_same y.worth y.amount k.1.amount y.amount_is (sym worth ∙ k.1.value_is s) in
        let positive = subst Positive (sym am) (above_none k.1) in
        let j = inst y.arguments in
        let after : State = with_holdings (gained (Folded j) (product full y.amount) s.holdings) s in
        let u_is : after ≡ u = part_is s u (Folded j) y.amount b.it y.is b.then in
        let held : Positive (amount after.holdings (Folded j)) = (gains_fine p good full full-positive).in_it s j y.amount h.forth rigid positive in
        let here_is : f j ≡ Some tree = sym (step (λ vs. f (inst vs)) y.arguments vs) ∙ here in
        let there_is : g j ≡ Some tree = sym (step (λ vs. g (inst vs)) y.arguments ws) ∙ there in
        let all = subst (λ (u : State). TreesTell u t) (sym u_is) tell in
        let side : instance_entry i y.arguments (PermValue k.1.amount) ≡ Some es =
        sym (step (instance_entry i y.arguments) (PermValue k.1.amount) (k.1.value_is s)) ∙ sym (step (λ vs. option_and_then (instance_entry i vs) (value p no_applications s share)) y.arguments vs) ∙ en in (
          step (λ vs. option_and_then (instance_entry i vs) (value p no_applications t share)) y.arguments ws ∙ step (instance_entry i y.arguments) (PermValue k.1.amount) (k.1.value_is t) ∙ side,
          (
            subst (λ (u : State). Matches p u t) u_is (matches_within p good s t j (product full y.amount) (all j held tree here_is there_is) m),
            instance_trees f g i y.arguments (PermValue k.1.amount) es tree here_is there_is side,
            ap (λ (u : State). u.holdings) (sym u_is) ∙ one_added full (Folded j) y.amount k.1.amount am s.holdings es (instance_entries p full none-full i y.arguments (PermValue k.1.amount) k.1.amount es refl side),
          ),
        )
    told (Both a b) s u t tree es k h hu eq m tell here there en =
        let x = undo (add p (deeper p n) full a s) (λ m. add p (deeper p n) full b m) u eq in
        let opens = all_open p good n in
        let gains = gains_fine p good full full-positive in
        let mid = add_earlier p Rigid Sound (Grounded p) (deeper p n) opens full gains b x.it u x.then hu in
        let first_later = add_later p Rigid Sound (Grounded p) (deeper p n) opens full gains a s x.it k.0 h mid x.is in
        let known : Fine p x.it = record { typed = first_later.typed; forth = first_later.forth; back = mid } in
        let later = add_later p Rigid Sound (Grounded p) (deeper p n) opens full gains b x.it u k.1 known hu x.then in
        let sees : Sees s x.it = record { store = first_later.store; heap = first_later.heap } in
        let y = came (entries p s a) (λ xs. option_and_then (λ ys. Some (xs ++ ys)) (entries p s b)) es en in
        let z = came (entries p s b) (λ ys. Some (y.it ++ ys)) es y.then in
        let l = came (assertion_tree p f s a) (λ q. option_and_then (λ z. Some (Pair q z)) (assertion_tree p f s b)) tree here in
        let l' = came (assertion_tree p f s b) (λ u. Some (Pair l.it u)) tree l.then in
        let r = came (assertion_tree p g t a) (λ q. option_and_then (λ z. Some (Pair q z)) (assertion_tree p g t b)) tree there in
        let r' = came (assertion_tree p g t b) (λ u. Some (Pair r.it u)) tree r.then in
        let both = same_Some (Pair l.it l'.it) tree l'.then ∙ sym (same_Some (Pair r.it r'.it) tree r'.then) in
        let one = told a s x.it t l.it y.it k.0 h mid x.is m (tell_earlier x.it u t later tell) l.is (r.is ∙ ap Some (sym (pair_first l.it l'.it r.it r'.it both))) y.is in
        let two = told b x.it u t l'.it z.it k.1 known hu x.then one.1.0 tell (tree_seen p Rigid s x.it sees f b k.1 ∙ l'.is) (r'.is ∙ ap Some (sym (pair_second l.it l'.it r.it r'.it both))) (entries_seen p Rigid s x.it sees b k.1 ∙ z.is) in
        let is : y.it ++ z.it ≡ es = same_Some (y.it ++ z.it) es z.then in (
          step (λ xs. option_and_then (λ ys. Some (xs ++ ys)) (entries p t b)) y.it one.0 ∙ step (λ ys. Some (y.it ++ ys)) z.it two.0 ∙ z.then,
          (
            two.1.0,
            subst (SameTrees f g) is (append_trees f g y.it z.it one.1.1 two.1.1),
            two.1.2 ∙ ap (added full z.it) one.1.2 ∙ sym (added_append full y.it z.it s.holdings) ∙ ap (λ (es : Holdings). added full es s.holdings) is,
          ),
        )
    told (Implied c a) s u t tree es k h hu eq m tell here there en =
        let x = undo (fit p (deeper p n) s c) (λ v. choose (place_of c) v (add p (deeper p n) full a s) (Ok s)) u eq in
        let v = value_here s c x.it h k.0 x.is in
        let w = value_there s t c x.it h m k.0 x.is in
        let r = side_told {R = Matches p u t × SameTrees f g es × (u.holdings ≡ added full es s.holdings)} (place_of c) x.it w.it (add p (deeper p n) full a s) (Ok s) u (assertion_tree p f s a) (Some Empty) (assertion_tree p g t a) (Some Empty) tree (entries p s a) (Some []) (entries p t a) (Some []) es w.like
        (λ e i j o. told a s u t tree es k.1 h hu e m tell i j o)
        (λ e i j o. (o, (subst (λ (u : State). Matches p u t) (ok_same s u e) m, no_trees f g es o, ap (λ (u : State). u.holdings) (sym (ok_same s u e)) ∙ nothing_added full s.holdings es (sym (same_Some [] es o)))))
        x.then
        (sym (step (λ v. plain.choose v (assertion_tree p f s a) (Some Empty)) x.it v) ∙ here)
        (sym (step (λ v. plain.choose v (assertion_tree p g t a) (Some Empty)) w.it w.is) ∙ there)
        (sym (step (λ v. plain.choose v (entries p s a) (Some [])) x.it v) ∙ en) in
        (step (λ v. plain.choose v (entries p t a) (Some [])) w.it w.is ∙ r.0, r.1)
    told (Chosen c a b) s u t tree es k h hu eq m tell here there en =
        let x = undo (fit p (deeper p n) s c) (λ v. choose (place_of c) v (add p (deeper p n) full a s) (add p (deeper p n) full b s)) u eq in
        let v = value_here s c x.it h k.0 x.is in
        let w = value_there s t c x.it h m k.0 x.is in
        let r = side_told {R = Matches p u t × SameTrees f g es × (u.holdings ≡ added full es s.holdings)} (place_of c) x.it w.it (add p (deeper p n) full a s) (add p (deeper p n) full b s) u
        (assertion_tree p f s a) (assertion_tree p f s b) (assertion_tree p g t a) (assertion_tree p g t b) tree (entries p s a) (entries p s b) (entries p t a) (entries p t b) es w.like
        (λ e i j o. told a s u t tree es k.1 h hu e m tell i j o)
        (λ e i j o. told b s u t tree es k.2 h hu e m tell i j o)
        x.then
        (sym (step (λ v. plain.choose v (assertion_tree p f s a) (assertion_tree p f s b)) x.it v) ∙ here)
        (sym (step (λ v. plain.choose v (assertion_tree p g t a) (assertion_tree p g t b)) w.it w.is) ∙ there)
        (sym (step (λ v. plain.choose v (entries p s a) (entries p s b)) x.it v) ∙ en) in
        (step (λ v. plain.choose v (entries p t a) (entries p t b)) w.it w.is ∙ r.0, r.1)
