-- Where giving an assertion ends, in the state of parameters and their heap: its entries were added, and it has a tree.
use Rattle.std.proofs.Common.{◌≡◌, inl, inr, ℕ, ◌+◌, Bool, true, false, cond, List, [], ◌∷◌, ◌++◌, Some, None, refl, sym, ◌∙◌, ap, subst, le_refl}
use Rattle.std.specs.Prelude.{Ok, option_and_then}
use Rattle.std.proofs.lemmas.Option.{same_Some}
use Rattle.vx_frac.specs.Fractions.{Fraction, none, full, product}
use Rattle.vx_ast.specs.declared.ValueType.TheVariants as type
use Rattle.vx_ast.specs.Syntax.{Name, Declaration, Program, Predicate, Function, predicate_named, function_named, Expr, Exprs, Assertion, Pure, Points, Both, Implied, Chosen}
use Rattle.vx_ast.specs.Syntax as syntax
use Rattle.vx_meaning.specs.Values.{Value, IntValue, BoolValue, RefValue, PermValue, type_of, is_true}
use Rattle.vx_meaning.specs.States as run
use Rattle.vx_meaning.specs.States.{State, Heap, Holdings, Location, Instance, Resource, At, Folded, gained, bind, value_at, with_holdings}
use Rattle.vx_meaning.specs.Evaluate as plain
use Rattle.vx_meaning.specs.Evaluate.{applications, value}
use Rattle.vx_meaning.specs.Flatten.{no_applications, bare, location_entry, instance_entry}
use Rattle.vx_meaning.specs.Consistent.{IsConsistent}
use Rattle.vx_meaning.specs.Fits.{location_of, amount_of, fit_by, fit_all, deeper}
use Rattle.vx_meaning.specs.Outcomes.{Ends, passes, refused, goes_on, is_over, ends, stops}
use Rattle.vx_meaning.specs.Give.{give, give_part, when, side}
use Rattle.vx_terms.specs.Interpretations.{Tree, Empty, Pair}
use Rattle.vx_types.specs.Typing.{HaveNoPerm, HasType, HaveTypes, IsTyped, IsTypedFunction}
use Rattle.vx_amounts.proofs.Amounts.{Le, Positive, full-positive}
use Rattle.vx_amounts.proofs.Products.{product_sign, positive_le}
use Rattle.vx_sound.specs.Snapshots.{leaf, location_leaf, truth_leaf, tree_by}
use Rattle.vx_sound.proofs.World.{IsTypedInstance, IsTypedResource}
use Rattle.vx_sound.proofs.Stripped.{fit_worth, all_fit_worth}
use Rattle.vx_sound_preds.specs.Bodies.{GoodBodies}
use Rattle.vx_sound_preds.specs.Asking.{asking_tree, asking_entries, IsAskingTreeOf, IsAskingAmount, IsAsking}
use Rattle.vx_sound_preds.proofs.Fitting.{step}
use Rattle.vx_sound_preds.proofs.Framing.{field_parts, instance_parts, amount_same, ok_same}
use Rattle.vx_sound_preds.proofs.Adding.{Fine, added, added_append}
use Rattle.vx_sound_preds.proofs.Exchanging.{bound_rigid}
use Rattle.vx_sound_preds.proofs.Frames.{gains_fine}
use Rattle.vx_sound_preds.proofs.Types.{found_type}
use Rattle.vx_sound_preds.proofs.TypedValues.{AreTyped, has_type, have_types, applications_typed}
use Rattle.vx_sound_preds.proofs.Holding.{typed_rigid, all_single, HoldsInstances, given, tree}
use Rattle.vx_sound_preds.proofs.Asked.{AsksFor, above, held_tree, held_entries, both_trees, condition_tree, instance_tree, both_entries, condition_entries}

bool_is : (v : Value) → type_of v ≡ type.Bool → (b : Bool) × (v ≡ BoolValue b)
bool_is (BoolValue b) e = (b, refl)
bool_is (IntValue z) e = cc
bool_is (RefValue r) e = cc
bool_is (PermValue q) e = cc

entry_is : (f : Name) (r v : Value) (l : Location) (a : Fraction) → location_of f r ≡ Some l → amount_of v ≡ Some a → location_entry f r v ≡ Some ((At l, a) ∷ [])
entry_is f (RefValue r) (PermValue x) l a e g = ap (λ (l : Location). Some ((At l, x) ∷ [])) (same_Some _ l e) ∙ ap (λ (a : Fraction). Some ((At l, a) ∷ [])) (same_Some x a g)
entry_is f (RefValue r) (IntValue x) l a e g = cc
entry_is f (RefValue r) (BoolValue x) l a e g = cc
entry_is f (RefValue r) (RefValue x) l a e g = cc
entry_is f (IntValue r) v l a e g = cc
entry_is f (BoolValue r) v l a e g = cc
entry_is f (PermValue r) v l a e g = cc

leaf_is : (p : Program) (h : Heap) (f : Name) (r : Value) (l : Location) → location_of f r ≡ Some l → location_leaf p h f r ≡ Some (leaf (value_at p h l))
leaf_is p h f (RefValue r) l e = ap (λ (l : Location). Some (leaf (value_at p h l))) (same_Some _ l e)
leaf_is p h f (IntValue r) l e = cc
leaf_is p h f (BoolValue r) l e = cc
leaf_is p h f (PermValue r) l e = cc

folded_is : (i : Name) (vs : List Value) (v : Value) (a : Fraction) → amount_of v ≡ Some a → instance_entry i vs v ≡ Some ((Folded record { predicate = i; arguments = vs }, a) ∷ [])
folded_is i vs (PermValue x) a e = ap (λ (a : Fraction). Some ((Folded record { predicate = i; arguments = vs }, a) ∷ [])) (same_Some x a e)
folded_is i vs (IntValue x) a e = cc
folded_is i vs (BoolValue x) a e = cc
folded_is i vs (RefValue x) a e = cc

module _ (p : Program) (good : GoodBodies p) (functions : (x : Name) (g : Function) → function_named p x ≡ Some g → IsTypedFunction p g) (Held : Name → Type 0) (no_perm : (x : Name) (d : Predicate) → predicate_named p x ≡ Some d → HaveNoPerm d.parameters) (ds : List Declaration) (vs : List Value) (typed : run.HaveTypes ds vs) (np : HaveNoPerm ds) (h : Heap) where
  -- the state in which these are held
  abbrev pub holding : Holdings → State
  holding hs = with_holdings hs (bare (bind ds vs) h)

  pub fine_there : (hs : Holdings) → HoldsInstances p Held true h hs → Fine p (holding hs)
  fine_there hs k = record { typed = bound_rigid ds vs (typed_rigid ds vs np typed); forth = (k.debts, all_single p Held hs k.typed); back = k.grounded }

  -- what was given: entries by some fuel, and a tree of the assertion's values
  pub record Gave (hs : Holdings) (a : Assertion) (t : State) : Type 0 where
    pub fuel : ℕ
    pub entries_of : Holdings
    pub entries_are : asking_entries p (applications p fuel) (holding hs) a ≡ Some entries_of
    pub is : t ≡ holding (added full entries_of hs)
    pub holds : HoldsInstances p Held true h (added full entries_of hs)
    pub tree : Tree
    pub tree_is : IsAskingTreeOf p (holding hs) a tree

  are_typed : (hs : Holdings) → AreTyped ds (holding hs).store
  are_typed hs x t v a b = found_type x t ds vs v typed a b

  worth : (hs : Holdings) (n : ℕ) (e : Expr) (v : Value) → fit_by p n (holding hs) e ≡ Ok v → value p (applications p n) (holding hs) e ≡ Some v
  worth hs n e v eq = fit_worth p n (holding hs) e v eq

  share_is : (hs : Holdings) (n : ℕ) (e : Expr) (v : Value) → IsAskingAmount p e → fit_by p n (holding hs) e ≡ Ok v → value p no_applications (holding hs) e ≡ Some v
  share_is hs n e v k eq = k.value_is no_applications (holding hs) ∙ sym (k.value_is (applications p n) (holding hs)) ∙ worth hs n e v eq

  arguments_typed : (hs : Holdings) (n : ℕ) (es : Exprs) (fs : List Declaration) (ws : List Value) → HaveTypes p ds es fs → fit_all p (deeper p n) (holding hs) es ≡ Ok ws → run.HaveTypes fs ws
  arguments_typed hs n es fs ws ty eq = have_types p functions n (applications_typed p functions n) (holding hs) (are_typed hs) ty ws (all_fit_worth p n (holding hs) es ws eq)

  condition : (hs : Holdings) (n : ℕ) (e : Expr) (v : Value) → HasType p ds e type.Bool → value p (applications p n) (holding hs) e ≡ Some v → (b : Bool) × (v ≡ BoolValue b)
  condition hs n e v ty eq = bool_is v (has_type p functions n (applications_typed p functions n) (holding hs) (are_typed hs) ty v eq)

  nothing_gave : (hs : Holdings) (a : Assertion) (t : State) (n : ℕ) → HoldsInstances p Held true h hs → asking_entries p (applications p n) (holding hs) a ≡ Some [] → t ≡ holding hs → IsAskingTreeOf p (holding hs) a Empty → Gave hs a t
  unfolding added
  nothing_gave hs a t n k listed is tree = record { fuel = n; entries_of = []; entries_are = listed; is = is; holds = k; tree = Empty; tree_is = tree }

  one_gave : (hs : Holdings) (a : Assertion) (t : State) (n : ℕ) (r : Resource) (x : Fraction) (part : Resource × Fraction) → (let y : Resource × Fraction = (r, x) in y) ≡ part → HoldsInstances p Held true h hs → asking_entries p (applications p n) (holding hs) a ≡ Some ((r, x) ∷ []) →
      IsTypedResource p Held r → Le none x → give_part p (IsConsistent p) full (holding hs) part (Ends t) → (HoldsInstances p Held true h (gained r (product full x) hs) → (u : Tree) × IsAskingTreeOf p (holding hs) a u) → Gave hs a t
  unfolding added
  one_gave hs a t n r x part is k listed ty sign g there = go (subst (λ (part : Resource × Fraction). give_part p (IsConsistent p) full (holding hs) part (Ends t)) (sym is) g)
    where
      go : give_part p (IsConsistent p) full (holding hs) (r, x) (Ends t) → Gave hs a t
      go (inl y) =
          let holds = given p good Held true (holding hs) r (product full x) ty (product_sign (positive_le full-positive) sign) k y.0 in
          let z = there holds in
          record { fuel = n; entries_of = (r, x) ∷ []; entries_are = listed; is = y.1; holds = holds; tree = z.0; tree_is = z.1 }
      go (inr y) = absurd y.1

  pub gave : (a : Assertion) (hs : Holdings) (t : State) → IsTyped p ds a → IsAsking p a → AsksFor Held a → HoldsInstances p Held true h hs → give p (IsConsistent p) full a (holding hs) (Ends t) → Gave hs a t
  gave (Pure e) hs t ty pl sp k (passes v ev r) = go (is_true v) refl r
    where
      w : value p (applications p ev.0) (holding hs) e ≡ Some v
      w = worth hs ev.0 e v (ev.1 ev.0 (le_refl ev.0))

      go : (b : Bool) → is_true v ≡ b → when b (ends (holding hs)) stops (Ends t) → Gave hs (Pure e) t
      go true f r = nothing_gave hs (Pure e) t ev.0 k (step (λ v. cond (is_true v) (Some []) None) v w ∙ ap (λ b. cond b (Some []) None) f) r
          (ev.0, step truth_leaf v w ∙ ap (λ b. cond b (Some Empty) None) f)
      go false f r = absurd r
  gave (Pure e) hs t ty pl sp k (refused at ev r) = absurd r
  gave (Points at e f share) hs t ty pl sp k (passes part ev r) =
      let y = field_parts p (deeper p ev.0) (holding hs) at e f share part (ev.1 ev.0 (le_refl ev.0)) in
      let u = worth hs ev.0 e y.receiver y.receiver_is in
      let w = share_is hs ev.0 share y.worth pl.1 y.worth_is in
      one_gave hs (Points at e f share) t ev.0 (At y.location) y.amount part (ok_same {A = Resource × Fraction} (At y.location, y.amount) part y.is) k
      (step (λ r. option_and_then (location_entry f r) (value p no_applications (holding hs) share)) y.receiver u ∙ step (location_entry f y.receiver) y.worth w ∙ entry_is f y.receiver y.worth y.location y.amount y.location_is y.amount_is)
      tt (record { holds = y.sign }) r
      (λ holds. (leaf (value_at p h y.location), (ev.0, step (location_leaf p h f) y.receiver u ∙ leaf_is p h f y.receiver y.location y.location_is)))
  gave (Points at e f share) hs t ty pl sp k (refused place ev r) = absurd r
  gave (syntax.Instance at i es share) hs t ty pl sp k (passes part ev r) =
      let y = instance_parts p (deeper p ev.0) (holding hs) at i es share part (ev.1 ev.0 (le_refl ev.0)) in
      let j : Instance = record { predicate = i; arguments = y.arguments } in
      let u = all_fit_worth p ev.0 (holding hs) es y.arguments y.arguments_are in
      let w = share_is hs ev.0 share y.worth pl.1 y.worth_is in
      let none_perm = no_perm i ty.0.0 ty.0.1 in
      let types = arguments_typed hs ev.0 es ty.0.0.parameters y.arguments ty.0.2 y.arguments_are in
      let rigid = typed_rigid ty.0.0.parameters y.arguments none_perm types in
      let known : IsTypedInstance p Held j = (sp, (ty.0.0, ty.0.1, none_perm, types)) in
      let am = amount_same y.worth y.amount pl.1.amount y.amount_is (sym w ∙ pl.1.value_is no_applications (holding hs)) in
      let positive = (gains_fine p good full full-positive).in_it (holding hs) j y.amount (fine_there hs k).forth rigid (subst Positive (sym am) (above pl.1)) in
      one_gave hs (syntax.Instance at i es share) t ev.0 (Folded j) y.amount part (ok_same {A = Resource × Fraction} (Folded j, y.amount) part y.is) k
      (step (λ vs. option_and_then (instance_entry i vs) (value p no_applications (holding hs) share)) y.arguments u ∙ step (instance_entry i y.arguments) y.worth w ∙ folded_is i y.arguments y.worth y.amount y.amount_is)
      known (record { holds = y.sign }) r
      (λ holds.
      let z = tree p good Held true h (gained (Folded j) (product full y.amount) hs) j holds known positive in
      (z.0, instance_tree p (holding hs) at i es share y.arguments ev.0 z.0 u z.1))
  gave (syntax.Instance at i es share) hs t ty pl sp k (refused place ev r) = absurd r
  gave (Both a b) hs t ty pl sp k (goes_on m x y) =
      let one = gave a hs m ty.0 pl.0 sp.0 k x in
      let mid = added full one.entries_of hs in
      let two = gave b mid t ty.1 pl.1 sp.1 one.holds (subst (λ (m : State). give p (IsConsistent p) full b m (Ends t)) one.is y) in
      let whole = added_append full one.entries_of two.entries_of hs in
      record {
        fuel = one.fuel + two.fuel;
        entries_of = one.entries_of ++ two.entries_of;
        entries_are = both_entries p (holding hs) a b one.fuel two.fuel one.entries_of two.entries_of one.entries_are (sym (held_entries p two.fuel mid (holding hs) b pl.1) ∙ two.entries_are);
        is = two.is ∙ ap (λ (hs : Holdings). holding hs) (sym whole);
        holds = subst (HoldsInstances p Held true h) (sym whole) two.holds;
        tree = Pair one.tree two.tree;
        tree_is = both_trees p (holding hs) a b one.tree two.tree one.tree_is (two.tree_is.0, sym (held_tree p two.tree_is.0 mid (holding hs) (tree_by p two.tree_is.0 h) b) ∙ two.tree_is.1);
      }
  gave (Both a b) hs t ty pl sp k (is_over o x) = absurd o
  gave (Implied c a) hs t ty pl sp k (passes v ev r) =
      let w = worth hs ev.0 c v (ev.1 ev.0 (le_refl ev.0)) in
      let b = condition hs ev.0 c v ty.0 w in
      go b.0 (w ∙ ap Some b.1) (subst (λ (v : Value). side v (give p (IsConsistent p) full a (holding hs)) (ends (holding hs)) (Ends t)) b.1 r) (λ g. gave a hs t ty.1 pl.1 sp k g)
    where
      lists : (b : Bool) (n : ℕ) → value p (applications p n) (holding hs) c ≡ Some (BoolValue b) → asking_entries p (applications p n) (holding hs) (Implied c a) ≡ plain.choose (BoolValue b) (asking_entries p (applications p n) (holding hs) a) (Some [])
      lists b n w = step (λ v. plain.choose v (asking_entries p (applications p n) (holding hs) a) (Some [])) (BoolValue b) w

      trees : (b : Bool) (n : ℕ) → value p (applications p n) (holding hs) c ≡ Some (BoolValue b) →
          asking_tree p (applications p n) (tree_by p n h) (holding hs) (Implied c a) ≡ plain.choose (BoolValue b) (asking_tree p (applications p n) (tree_by p n h) (holding hs) a) (Some Empty)
      trees b n w = step (λ v. plain.choose v (asking_tree p (applications p n) (tree_by p n h) (holding hs) a) (Some Empty)) (BoolValue b) w

      go : (b : Bool) → value p (applications p ev.0) (holding hs) c ≡ Some (BoolValue b) → when b (give p (IsConsistent p) full a (holding hs)) (ends (holding hs)) (Ends t) → (give p (IsConsistent p) full a (holding hs) (Ends t) → Gave hs a t) → Gave hs (Implied c a) t
      go true w r f =
          let z = f r in
          record {
            fuel = ev.0 + z.fuel;
            entries_of = z.entries_of;
            entries_are = condition_entries p (holding hs) a (Implied c a) c (BoolValue true) ev.0 z.fuel z.entries_of w (lists true) z.entries_are;
            is = z.is;
            holds = z.holds;
            tree = z.tree;
            tree_is = condition_tree p (holding hs) a (Implied c a) c (BoolValue true) ev.0 z.tree w (trees true) z.tree_is;
          }
      go false w r f = nothing_gave hs (Implied c a) t ev.0 k (lists false ev.0 w) r (ev.0, trees false ev.0 w)
  gave (Implied c a) hs t ty pl sp k (refused place ev r) = absurd r
  gave (Chosen c a b) hs t ty pl sp k (passes v ev r) =
      let w = worth hs ev.0 c v (ev.1 ev.0 (le_refl ev.0)) in
      let x = condition hs ev.0 c v ty.0 w in
      go x.0 (w ∙ ap Some x.1) (subst (λ (v : Value). side v (give p (IsConsistent p) full a (holding hs)) (give p (IsConsistent p) full b (holding hs)) (Ends t)) x.1 r)
      (λ g. gave a hs t ty.1 pl.1 sp.0 k g) (λ g. gave b hs t ty.2 pl.2 sp.1 k g)
    where
      picked : (x : Bool) (d : Assertion) → value p (applications p ev.0) (holding hs) c ≡ Some (BoolValue x) →
          ((n : ℕ) → plain.choose (BoolValue x) (asking_tree p (applications p n) (tree_by p n h) (holding hs) a) (asking_tree p (applications p n) (tree_by p n h) (holding hs) b) ≡ asking_tree p (applications p n) (tree_by p n h) (holding hs) d) →
          ((n : ℕ) → plain.choose (BoolValue x) (asking_entries p (applications p n) (holding hs) a) (asking_entries p (applications p n) (holding hs) b) ≡ asking_entries p (applications p n) (holding hs) d) → Gave hs d t → Gave hs (Chosen c a b) t
      picked x d w trees lists z = record {
        fuel = ev.0 + z.fuel;
        entries_of = z.entries_of;
        entries_are = condition_entries p (holding hs) d (Chosen c a b) c (BoolValue x) ev.0 z.fuel z.entries_of w
            (λ n w. step (λ v. plain.choose v (asking_entries p (applications p n) (holding hs) a) (asking_entries p (applications p n) (holding hs) b)) (BoolValue x) w ∙ lists n) z.entries_are;
        is = z.is;
        holds = z.holds;
        tree = z.tree;
        tree_is = condition_tree p (holding hs) d (Chosen c a b) c (BoolValue x) ev.0 z.tree w
            (λ n w. step (λ v. plain.choose v (asking_tree p (applications p n) (tree_by p n h) (holding hs) a) (asking_tree p (applications p n) (tree_by p n h) (holding hs) b)) (BoolValue x) w ∙ trees n) z.tree_is;
      }

      go : (x : Bool) → value p (applications p ev.0) (holding hs) c ≡ Some (BoolValue x) → when x (give p (IsConsistent p) full a (holding hs)) (give p (IsConsistent p) full b (holding hs)) (Ends t) →
          (give p (IsConsistent p) full a (holding hs) (Ends t) → Gave hs a t) → (give p (IsConsistent p) full b (holding hs) (Ends t) → Gave hs b t) → Gave hs (Chosen c a b) t
      go true w r f g = picked true a w (λ n. refl) (λ n. refl) (f r)
      go false w r f g = picked false b w (λ n. refl) (λ n. refl) (g r)
  gave (Chosen c a b) hs t ty pl sp k (refused place ev r) = absurd r
