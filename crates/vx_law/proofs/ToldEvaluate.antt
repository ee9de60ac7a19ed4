-- An expression that fits has a term of its value on the way of a quiet walk.
use Rattle.std.proofs.Common.{◌≡◌, ℕ, pos, Bool, true, false, not, cond, ◌&&◌, List, [], ◌∷◌, ◌++◌, Some, None, refl, sym, ◌∙◌, ap, ap₂, subst, le_refl}
use Rattle.std.specs.Prelude.{Ok, Err}
use Rattle.std.proofs.lemmas.Bool.{and_parts}
use Rattle.std.proofs.lemmas.Option.{same_Some}
use Rattle.vx_frac.specs.Fractions.{Fraction, is_positive, whole, over, product, lowest}
use Rattle.vx_frac.proofs.Lowest.{lowest-lowest}
use Rattle.vx_frac.proofs.Whole.{lowest_whole}
use Rattle.vx_ast.specs.declared.Place.{Place}
use Rattle.vx_ast.specs.declared.ValueType.{ValueType}
use Rattle.vx_ast.specs.declared.ValueType.TheVariants.{Int}
use Rattle.vx_ast.specs.declared.ValueType.TheVariants as type
use Rattle.vx_ast.specs.Syntax.{Name, Declaration, Program, Function, function_named, Multiply, Division, Connective, And, Or, Implies, Expr, Exprs}
use Rattle.vx_meaning.specs.Values.{Value, IntValue, BoolValue, RefValue, PermValue, type_of, negated, operated, divided, needs_right, without_right}
use Rattle.vx_meaning.specs.States as run
use Rattle.vx_meaning.specs.Fits as fits
use Rattle.vx_meaning.specs.Fits.{Checked, ◌>>=◌, or_fail, guard, Deeper, location_of, amount_of, readable, has_instance, fit, fit_all}
use Rattle.vx_terms.specs.Sorts as sort
use Rattle.vx_terms.specs.Sorts.{BoolSort, RealSort, same_sort}
use Rattle.vx_terms.specs.Terms.{Term}
use Rattle.vx_terms.specs.Terms as term
use Rattle.vx_terms.specs.Build.{negate, equals, less, multiply, ite, true_term, false_term, null, zero_amount}
use Rattle.vx_terms.specs.Interpretations.{Interpretation, BoolElement, RealElement, operate, as_bool, as_int, as_fraction, value}
use Rattle.vx_terms.specs.Formed.{number, truth, part as formed_part}
use Rattle.vx_terms.proofs.Values.{sort_of_formed}
use Rattle.vx_terms.proofs.Build.{negate_value, ite_value, multiply_value}
use Rattle.vx_rules.specs.States.{State, sort_of_type, with_heap}
use Rattle.vx_rules.specs.States as rules
use Rattle.vx_rules.specs.Trees.{Tree, Step, DivisorCode, AmountCode}
use Rattle.vx_rules.specs.Rules as rule
use Rattle.vx_rules.specs.Rules.{Giving, Going, GivingAll, Outer, placed, short, is_total, field_sort, read_field, applied, unfolded, eval, evals}
use Rattle.vx_types.specs.Typing.{Scope, HasType, HaveTypes, nulls, part, variable, nots, operates, scales, divides, connects, chooses, reads, olds, applies, unfoldings}
use Rattle.vx_types.specs.Typing as typed
use Rattle.vx_amounts.proofs.Amounts.{Positive, Same, same-refl, same-lowest', lowest_is, product_same}
use Rattle.vx_elements.proofs.Settled.{Meaning, Extends, extends-refl, extends-trans, value_kept}
use Rattle.vx_elements.proofs.Built.{Good, good_later, good_negate, good_ite}
use Rattle.vx_elements.proofs.Elements.{element, bool_value_is, int_value_is, operated_value, good_operated, divided_is, divided_value, good_divided, on_elements, on_division, on_bools, connected_value, good_connected}
use Rattle.vx_elements.proofs.Truth.{good_null, good_product}
use Rattle.vx_elements.proofs.Values.{ref_value_is, perm_value_is, operated_is}
use Rattle.vx_sound.proofs.World.{at_field, World}
use Rattle.vx_sound.proofs.Stands.{OwnStands, owned_old, owned_back, StoreStands, HeapStands, TermsStand, found_stands, term_later, heap_later}
use Rattle.vx_sound.proofs.Candidates.{InstanceTerms}
use Rattle.vx_sound_preds.proofs.Fitting.{undo, not_failed, guarded}
use Rattle.vx_sound_preds.proofs.Framing.{ok_same}
use Rattle.vx_live.proofs.Speaks.{Speaks, AllSpeak}
use Rattle.vx_live.specs.Quiet.{Still}
use Rattle.vx_live.proofs.Quiet.{OuterLeft, eval_left, evals_left, ask_left, short_left, fork_left, read_left, unfolded_left, applied_left}
use Rattle.vx_law.proofs.Told.{Walk, On, Off, off_still, Told, Follows, FollowsWith, FollowsAll, OffGoing, OffGiving, OffAll, on_quiet, off_quiet, step_told, ask_told, fork_told}
use Rattle.vx_law.proofs.ToldChunks.{read_told}

-- what an exchange keeps
pub record Kept (c u : run.State) : Type 0 where
  pub store : u.store ≡ c.store
  pub heap : u.heap ≡ c.heap
  pub old_heap : u.old_heap ≡ c.old_heap
  pub old_holdings : u.old_holdings ≡ c.old_holdings

-- What the outcomes tell

nothing_err : {A : Type 0} (at : Place) (v : A) → ◌≡◌ {A = Checked A} (Err at) (Ok v) → ⊥
nothing_err at v e = cc

not_divided : (at : Place) (op : Division) (x y v : Value) → type_of x ≡ Int → type_of y ≡ Int → as_int (element y) ≡ pos 0 → or_fail at (divided op x y) ≡ Ok v → ⊥
not_divided at op x y v tx ty zero e =
    let left = int_value_is x tx in
    let right = int_value_is y ty ∙ ap IntValue zero in
    nothing_err at v (sym (ap₂ (λ (a b : Value). or_fail at (divided op a b)) left right) ∙ e)

connected_outcome : (at : Place) (k : Connective) (a b : Bool) (right : Checked Value) → right ≡ Ok (BoolValue b) → (v : Value) → fits.connected at k (BoolValue a) right ≡ Ok v → ◌≡◌ {A = Checked Value} (Ok (BoolValue (on_bools k a b))) (Ok v)
connected_outcome at k a b right f v e = go (needs_right k a) e
  where
    go : (need : Bool) → cond need right (Ok (BoolValue (without_right k))) ≡ Ok v → ◌≡◌ {A = Checked Value} (Ok (BoolValue (cond need b (without_right k)))) (Ok v)
    go true e = sym f ∙ e
    go false e = e

chosen_outcome : (at : Place) (b : Bool) (r q : Value) (x y : Checked Value) → x ≡ Ok r → y ≡ Ok q → (v : Value) → fits.choose at (BoolValue b) x y ≡ Ok v → ◌≡◌ {A = Checked Value} (Ok (cond b r q)) (Ok v)
chosen_outcome at true r q x y f g v e = sym f ∙ e
chosen_outcome at false r q x y f g v e = sym g ∙ e

of_side : (b : Bool) (v u : Value) → cond b (element v) (element u) ≡ element (cond b v u)
of_side true v u = refl
of_side false v u = refl

typed_side : (b : Bool) (v u : Value) {t : ValueType} → type_of v ≡ t → type_of u ≡ t → type_of (cond b v u) ≡ t
typed_side true v u e f = e
typed_side false v u e f = f

pub on_true : (at : Place) (b : Bool) (x y : Checked Value) (v : Value) → b ≡ true → fits.choose at (BoolValue b) x y ≡ Ok v → x ≡ Ok v
on_true at true x y v z e = e
on_true at false x y v z e = cc

pub on_false : (at : Place) (b : Bool) (x y : Checked Value) (v : Value) → b ≡ false → fits.choose at (BoolValue b) x y ≡ Ok v → y ≡ Ok v
on_false at false x y v z e = e
on_false at true x y v z e = cc

pub amount_outcome : (v : Value) (a q : Fraction) → v ≡ PermValue a → amount_of v ≡ Some q → a ≡ q
amount_outcome v a q e f = same_Some a q (sym (ap amount_of e) ∙ f)

append_nil : {A : Type 0} (xs : List A) → xs ≡ xs ++ []
append_nil [] = refl
append_nil (x ∷ xs) = ap (λ ys. x ∷ ys) (append_nil xs)

pub heap_still : (h : rules.Heap) (s : State) → Still s (with_heap h s)
heap_still h s = record { next = refl; level = refl; path = ([], append_nil s.path) }

module _ (means : Meaning) (world : World) (n : ℕ) (w : Walk means n) where
  abbrev p : Program
  p = world.program

  -- what is shown of what is unfolded and applied, over rules for the parts of others
  pub record PartsTold (o : Outer) (d : Deeper) : Type 0 where
    pub unfolds : (scope : Scope) (i : Interpretation) (s : State) (c u : run.State) (at : Place) (x : Name) (ts : List Term) (vs : List Value) (a : Term) (q : Fraction) (on : Going) → InstanceTerms means world n i x ts vs →
        Good means n i a RealSort → Same (as_fraction (value i a)) q → Positive q → On means world n w scope i s c → has_instance c record { predicate = x; arguments = vs } q ≡ true → d.opened record { predicate = x; arguments = vs } q c ≡ Some u →
        Follows means world n w scope i u on → OffGoing means world n w on → Told means world n w i (unfolded world.program o at x ts a s on)
    pub applies : (scope : Scope) (i : Interpretation) (s : State) (c : run.State) (at : Place) (f : Name) (g : Function) (ts : List Term) (vs : List Value) (v : Value) (on : Giving) → world.Held f → function_named world.program f ≡ Some g →
        TermsStand means world n i g.parameters ts vs → On means world n w scope i s c → d.applied f vs c ≡ Some v → FollowsWith means world n w scope i c g.of v on → OffGiving means world n w on → Told means world n w i (applied world.program o at f ts s on)

  abbrev pub bool_is : (v : Value) → type_of v ≡ type.Bool → (b : Bool) × (v ≡ BoolValue b)
  bool_is v e = (as_bool (element v), bool_value_is v e)

  module _ (o : Outer) (d : Deeper) (left : (j : Interpretation) → OuterLeft (w.Tells j) o) (parts : PartsTold o d) where
    abbrev Here : Scope → Interpretation → State → run.State → Type 0
    Here scope i s c = On means world n w scope i s c

    -- an expression off the way
    pub off_eval : (e : Expr) (on : Giving) → OffGiving means world n w on → OffGoing means world n w (λ s. eval p o e s on)
    off_eval e on off j s x = eval_left (w.Tells j) p o (left j) e s on (off_quiet means world n w x) (λ u s1 st. off j u s1 (off_still means world n w x st))

    pub off_evals : (es : Exprs) (on : GivingAll) → OffAll means world n w on → OffGoing means world n w (λ s. evals p o es s on)
    off_evals es on off j s x = evals_left (w.Tells j) p o (left j) es s on (off_quiet means world n w x) (λ us s1 st. off j us s1 (off_still means world n w x st))

    bool_typed : (b : Bool) → type_of (BoolValue b) ≡ type.Bool
    bool_typed b = refl

    -- the right part of a connective
    connected_by : {scope : Scope} {i : Interpretation} {s : State} {c : run.State} (at : Place) (k : Connective) (t : Term) (v r : Value) (more : Going) (on : Giving) (right : Checked Value) → Here scope i s c → Good means n i t BoolSort → value i t ≡ element v → type_of v ≡ type.Bool →
        fits.connected at k v right ≡ Ok r → (right ≡ Ok r → Follows means world n w scope i c more) → FollowsWith means world n w scope i c type.Bool r on → OffGoing means world n w more → OffGiving means world n w on → Told means world n w i (short k t s more on)
    connected_by {scope = scope} {i = i} {s = s} {c = c} at k t v r more on right here g is ty e h l off_more off = go k v (bool_is v ty) is e
      where
        shown : Giving → (b : Bool) → r ≡ BoolValue b → Follows means world n w scope i c (on (term.Truth b))
        shown on' b f j s1 x on1 = l j (term.Truth b) s1 x on1 (record { formed = truth b; settled = tt }) (sym (ap element f)) (ap type_of f)

        on_value : (k : Connective) (b : Bool) → as_bool (value i t) ≡ b → cond (needs_right k b) right (Ok (BoolValue (without_right k))) ≡ Ok r → Told means world n w i (short k t s more on)
        on_value And true f e = fork_told means world n w t more (on false_term) here g true f (λ z. h e) (λ z. cc) off_more (λ j s x. off j false_term s x)
        on_value And false f e = fork_told means world n w t more (on false_term) here g false f (λ z. cc) (λ z. shown on false (sym (ok_same (BoolValue false) r e))) off_more (λ j s x. off j false_term s x)
        on_value Or true f e = fork_told means world n w t (on true_term) more here g true f (λ z. shown on true (sym (ok_same (BoolValue true) r e))) (λ z. cc) (λ j s x. off j true_term s x) off_more
        on_value Or false f e = fork_told means world n w t (on true_term) more here g false f (λ z. cc) (λ z. h e) (λ j s x. off j true_term s x) off_more
        on_value Implies true f e = fork_told means world n w t more (on true_term) here g true f (λ z. h e) (λ z. cc) off_more (λ j s x. off j true_term s x)
        on_value Implies false f e = fork_told means world n w t more (on true_term) here g false f (λ z. cc) (λ z. shown on true (sym (ok_same (BoolValue true) r e))) off_more (λ j s x. off j true_term s x)

        go : (k : Connective) (v : Value) → (b : Bool) × (v ≡ BoolValue b) → value i t ≡ element v → fits.connected at k v right ≡ Ok r → Told means world n w i (short k t s more on)
        go k v (b, f) is e = on_value k b (ap as_bool is ∙ ap (λ v. as_bool (element v)) f) (ap (λ v. fits.connected at k v right) (sym f) ∙ e)

    -- what is total fits
    record Total (c : run.State) (e : Expr) (t : ValueType) : Type 0 where
      worth : Value
      is : fit world.program d c e ≡ Ok worth
      typed : type_of worth ≡ t

    next : {A B : Type 0} (f : A → Checked B) {x : Checked A} (a : A) → x ≡ Ok a → (x >>= f) ≡ f a
    next f a e = ap (λ y. y >>= f) e

    total : {scope : Scope} {e : Expr} {t : ValueType} → HasType world.program scope e t → is_total e ≡ true → (m : ℕ) (i : Interpretation) (s : State) (c : run.State) → StoreStands means world m i scope s.store c.store → Total c e t
    total (typed.number at z) k m i s c st = record { worth = IntValue (pos z); is = refl; typed = refl }
    total (typed.truth {b = b}) k m i s c st = record { worth = BoolValue b; is = refl; typed = refl }
    total (nulls at) k m i s c st = record { worth = RefValue 0; is = refl; typed = refl }
    total (part at a b l) k m i s c st = record { worth = PermValue (over a b); is = refl; typed = refl }
    total {scope = scope} {t = t} (variable at x e) k m i s c st =
        let f = found_stands means world x t scope s.store c.store st e in
        record { worth = f.content; is = ap (or_fail at) f.is; typed = f.typed }
    total (nots {at = at} a) k m i s c st =
        let r = total a k m i s c st in
        let b = bool_is r.worth r.typed in
        record { worth = BoolValue (not b.0); is = next (λ v. or_fail at (negated v)) r.worth r.is ∙ ap (λ v. or_fail at (negated v)) b.1; typed = refl }
    total (operates {at = at} {op = op} {a = a} {b = b} {t = t} o ta tb) k m i s c st =
        let y = and_parts (is_total a) (is_total b) k in
        let r = total ta y.0 m i s c st in
        let q = total tb y.1 m i s c st in
        let z = operated_is i op r.worth q.worth t o r.typed q.typed in
        record { worth = z.result; is = next (λ v. fit p d c b >>= λ w. or_fail at (operated op v w)) r.worth r.is ∙ next (λ w. or_fail at (operated op r.worth w)) q.worth q.is ∙ ap (or_fail at) z.is; typed = z.typed }
    total (scales {at = at} place z tb) k m i s c st =
        let q = total tb k m i s c st in
        let a = perm_value_is q.worth q.typed in
        record { worth = PermValue (product (whole (pos z)) a.0); is = next (λ w. or_fail at (operated Multiply (IntValue (pos z)) w)) q.worth q.is ∙ ap (λ w. or_fail at (operated Multiply (IntValue (pos z)) w)) a.1; typed = refl }
    total (divides ta tb) k m i s c st = cc
    total (connects {at = at} {c = o} {a = a} {b = b} ta tb) k m i s c st =
        let y = and_parts (is_total a) (is_total b) k in
        let r = total ta y.0 m i s c st in
        let q = total tb y.1 m i s c st in
        let x = bool_is r.worth r.typed in
        let z = bool_is q.worth q.typed in
        record {
          worth = BoolValue (on_bools o x.0 z.0);
          is = next (λ v. fits.connected at o v (fit p d c b)) r.worth r.is ∙ ap (λ v. fits.connected at o v (fit p d c b)) x.1 ∙ both (needs_right o x.0) z.0 (without_right o) (fit p d c b) (q.is ∙ ap Ok z.1);
          typed = refl;
        }
      where
        both : (need : Bool) (z without : Bool) (x : Checked Value) → x ≡ Ok (BoolValue z) → cond need x (Ok (BoolValue without)) ≡ Ok (BoolValue (cond need z without))
        both true z without x e = e
        both false z without x e = refl
    total (chooses {at = at} {c = o} {a = a} {b = b} {t = t} to ta tb) k m i s c st =
        let y = and_parts (is_total o && is_total a) (is_total b) (regroup (is_total o) (is_total a) (is_total b) k) in
        let x = and_parts (is_total o) (is_total a) y.0 in
        let f = total to x.0 m i s c st in
        let r = total ta x.1 m i s c st in
        let q = total tb y.1 m i s c st in
        let g = bool_is f.worth f.typed in
        record {
          worth = cond g.0 r.worth q.worth;
          is = next (λ v. fits.choose at v (fit p d c a) (fit p d c b)) f.worth f.is ∙ ap (λ v. fits.choose at v (fit p d c a) (fit p d c b)) g.1 ∙ side g.0 r.worth q.worth (fit p d c a) (fit p d c b) r.is q.is;
          typed = of_side g.0 r.worth q.worth r.typed q.typed;
        }
      where
        regroup : (a b c : Bool) → (a && b && c) ≡ true → ((a && b) && c) ≡ true
        regroup true b c e = e
        regroup false b c e = cc

        side : (g : Bool) (v u : Value) (x y : Checked Value) → x ≡ Ok v → y ≡ Ok u → fits.choose at (BoolValue g) x y ≡ Ok (cond g v u)
        side true v u x y e f = e
        side false v u x y e f = f

        of_side : (g : Bool) (v u : Value) → type_of v ≡ t → type_of u ≡ t → type_of (cond g v u) ≡ t
        of_side true v u e f = e
        of_side false v u e f = f
    total (reads f e te) k m i s c st = cc
    total (olds te) k m i s c st = let r = total te k m i s (run.at_old c) st in record { worth = r.worth; is = r.is; typed = r.typed }
    total (applies f g e tes) k m i s c st = cc
    total (unfoldings x d named tes tq te) k m i s c st = cc

    either_told : (i : Interpretation) (b : Bool) (x y : Tree) → (b ≡ true → Told means world n w i x) → (b ≡ false → Told means world n w i y) → Told means world n w i (cond b x y)
    either_told i true x y h k = h refl
    either_told i false x y h k = k refl

    read_outcome : (at : Place) (c : run.State) (f : Name) (k : ℕ) (v : Value) → or_fail at (readable world.program c (at_field k f)) ≡ Ok v → run.value_at world.program c.heap (at_field k f) ≡ v
    read_outcome at c f k v e = go (is_positive (run.amount c.holdings (run.At (at_field k f)))) e
      where
        go : (b : Bool) → or_fail at (cond b (Some (run.value_at world.program c.heap (at_field k f))) None) ≡ Ok v → run.value_at world.program c.heap (at_field k f) ≡ v
        go true e = ok_same _ v e
        go false e = absurd (nothing_err at v e)

    -- a value that is the outcome
    shown : {scope : Scope} {i j : Interpretation} {s : State} {c : run.State} {t : ValueType} {v : Value} (on : Giving) (u : Term) (r : Value) → FollowsWith means world n w scope i c t v on → Extends means n i j → Here scope j s c →
        ◌≡◌ {A = Checked Value} (Ok r) (Ok v) → Good means n j u (sort_of_type t) → value j u ≡ element r → type_of r ≡ t → Told means world n w j (on u s)
    shown {j = j} {s = s} {v = v} on u r h x here e g is ty = let f = ok_same r v e in h j u s x here g (is ∙ ap element f) (sym (ap type_of f) ∙ ty)

    also : {i j k : Interpretation} → Extends means n i j → Extends means n j k → Extends means n i k
    also x y = extends-trans means (le_refl n) x y

    kept : {i j : Interpretation} {u : Term} {a : _} → Extends means n i j → Good means n i u a → value j u ≡ value i u
    kept {u = u} x g = value_kept means u g.settled x

    grown : {i j : Interpretation} {u : Term} {a : _} → Extends means n i j → Good means n i u a → Good means n j u a
    grown x g = good_later means (le_refl n) x g

    awake_old : {scope : Scope} {i : Interpretation} {s : State} {c : run.State} → Here scope i s c → Here scope i (with_heap s.old s) (run.at_old c)
    awake_old here = record {
      still = (let k = here.still in record { next = k.next; level = k.level; path = k.path });
      quietly = record { stands = (let st = here.quietly.stands in record { store = st.store; path = st.path; heap = st.old; old = st.old; awake = st.awake; bounded = st.bounded; null = st.null; standard = st.standard; owned = owned_old means world _ _ _ _ _ world.own st.owned; marked = st.marked; holds = st.old_holds; old_holds = st.old_holds }) };
    }

    -- back from the old heap
    awake_again : {scope : Scope} {i j : Interpretation} {s s1 : State} {c : run.State} → Extends means n i j → Here scope i s c → Here scope j s1 (run.at_old c) → Here scope j (with_heap s.heap s1) c
    awake_again {s = s} {c = c} x here k = record {
      still = (let z = k.still in record { next = z.next; level = z.level; path = z.path });
      quietly = record {
        stands = (let st = k.quietly.stands in record {
          store = st.store;
          path = st.path;
          heap = heap_later means world (le_refl n) x s.heap c.heap c.holdings here.quietly.stands.heap;
          old = st.old;
          awake = st.awake;
          bounded = st.bounded;
          null = st.null;
          standard = st.standard;
          owned = owned_back means world _ _ _ _ _ _ _ _ world.own st.owned here.quietly.stands.owned;
          marked = st.marked;
          holds = here.quietly.stands.holds;
          old_holds = st.old_holds;
        });
      };
    }

    -- where an instance was unfolded: back to what was held
    folded_again : {scope : Scope} {i j : Interpretation} {s s1 : State} {c u : run.State} → Extends means n i j → Here scope i s c → Here scope j s1 u → u.store ≡ c.store → u.heap ≡ c.heap → u.old_heap ≡ c.old_heap → u.old_holdings ≡ c.old_holdings → Here scope j (with_heap s.heap s1) c
    folded_again {scope = scope} {j = j} {s = s} {s1 = s1} {c = c} {u = u} x here k store heap old_heap old_holdings = record {
      still = (let z = k.still in record { next = z.next; level = z.level; path = z.path });
      quietly = record {
        stands = (let st = k.quietly.stands in record {
          store = subst (λ (ys : run.Store). StoreStands means world n j scope s1.store ys) store st.store;
          path = st.path;
          heap = heap_later means world (le_refl n) x s.heap c.heap c.holdings here.quietly.stands.heap;
          old = subst (λ (h : run.Heap). HeapStands means world n j s1.old h c.old_holdings) old_heap (subst (λ (hs : run.Holdings). HeapStands means world n j s1.old u.old_heap hs) old_holdings st.old);
          awake = st.awake;
          bounded = st.bounded;
          null = st.null;
          standard = st.standard;
          owned = subst (λ (h : run.Heap). OwnStands means world n j h c.old_heap s1.own world.own) heap (subst (λ (h : run.Heap). OwnStands means world n j u.heap h s1.own world.own) old_heap st.owned);
          marked = st.marked;
          holds = here.quietly.stands.holds;
          old_holds = subst (λ (h : run.Heap). world.Holds h c.old_holdings) old_heap (subst (λ (hs : run.Holdings). world.Holds u.old_heap hs) old_holdings st.old_holds);
        });
      };
    }

    module _ (keeps : (k : run.Instance) (q : Fraction) (c u : run.State) → d.opened k q c ≡ Some u → Kept c u) where
      mutual
        pub eval_told : {scope : Scope} {e : Expr} {t : ValueType} → HasType world.program scope e t → Speaks world.Held e → {i : Interpretation} {s : State} {c : run.State} {v : Value} (on : Giving) → Here scope i s c → fit world.program d c e ≡ Ok v →
            FollowsWith means world n w scope i c t v on → OffGiving means world n w on → Told means world n w i (eval world.program o e s on)
        eval_told (typed.number at z) k {i = i} {s = s} on here e h off = step_told means world n w _ (shown on (term.Number (pos z)) (IntValue (pos z)) h (extends-refl means n i) here e (record { formed = number (pos z); settled = tt }) refl refl)
        eval_told (typed.truth {b = b}) k {i = i} {s = s} on here e h off = step_told means world n w _ (shown on (term.Truth b) (BoolValue b) h (extends-refl means n i) here e (record { formed = truth b; settled = tt }) refl refl)
        eval_told (nulls at) k {i = i} {s = s} on here e h off = step_told means world n w _ (shown on null (RefValue 0) h (extends-refl means n i) here e (good_null means) here.quietly.stands.null refl)
        eval_told (part at a b l) k {i = i} {s = s} on here e h off =
            step_told means world n w _ (shown on (term.Part (lowest (over a b))) (PermValue (over a b)) h (extends-refl means n i) here e (record { formed = formed_part (lowest (over a b)) (lowest-lowest (over a b)); settled = tt }) refl refl)
        eval_told {scope = scope} {t = t} (variable at x named) k {i = i} {s = s} {c = c} on here e h off =
            let f = found_stands means world x t scope s.store c.store here.quietly.stands.store named in
            step_told means world n w _ (shown on (rules.found x s.store) f.content h (extends-refl means n i) here (sym (ap (or_fail at) f.is) ∙ e) f.good f.value_is f.typed)
        eval_told (nots {at = at} {e = a} ta) k {c = c} {v = v} on here e h off =
            let x = undo (fit p d c a) (λ v. or_fail at (negated v)) v e in
            step_told means world n w _ (eval_told ta k (λ t s1. Step (on (negate t) s1)) here x.is (λ j t s1 ext on1 g is ty.
            let b = bool_is x.it ty in
            step_told means world n w _ (shown on (negate t) (BoolValue (not b.0)) h ext on1 (sym (ap (λ v. or_fail at (negated v)) b.1) ∙ x.then) (good_negate means g) (negate_value j g.formed ∙ ap (λ e. BoolElement (not (as_bool e))) is) refl)) (λ j t s1 f. off j (negate t) s1 f))
        eval_told (operates {at = at} {op = op} {a = a} {b = b} {t = ty} o' ta tb) k {c = c} {v = v} on here e h off =
            let x = undo (fit p d c a) (λ v. fit p d c b >>= λ w. or_fail at (operated op v w)) v e in
            let y = undo (fit p d c b) (λ w. or_fail at (operated op x.it w)) v x.then in
            step_told means world n w _ (eval_told ta k.0 (λ t s1. Step (eval p o b s1 (λ u s2. Step (on (rule.operated op t u) s2)))) here x.is (λ j t s1 ext on1 g is t1.
            step_told means world n w _ (eval_told tb k.1 (λ u s2. Step (on (rule.operated op t u) s2)) on1 y.is (λ j2 u s2 ext2 on2 g2 is2 t2.
            let z = operated_is j2 op x.it y.it ty o' t1 t2 in
            let g1 = grown ext2 g in
            step_told means world n w _ (shown on (rule.operated op t u) z.result h (also ext ext2) on2 (sym (ap (or_fail at) z.is) ∙ y.then) (good_operated means op ty o' g1 g2)
            (operated_value means op ty o' g1 g2 ∙ ap₂ (on_elements j2 op) (kept ext2 g ∙ is) is2 ∙ z.element_of) z.typed))
            (λ j2 u s2 f. off j2 (rule.operated op t u) s2 f)))
            (λ j t s1 f. off_eval b (λ u s2. Step (on (rule.operated op t u) s2)) (λ j2 u s2 f. off j2 (rule.operated op t u) s2 f) j s1 f))
        eval_told (scales {at = at} place z {b = b} tb) k {c = c} {v = v} on here e h off =
            let y = undo (fit p d c b) (λ w. or_fail at (operated Multiply (IntValue (pos z)) w)) v e in
            step_told means world n w _ (step_told means world n w _ (step_told means world n w _ (eval_told tb k.1 (λ u s2. Step (on (rule.operated Multiply (term.Number (pos z)) u) s2)) here y.is (λ j u s2 ext on2 g2 is2 t2.
            let a = perm_value_is y.it t2 in
            let gp : Good means n j (term.Part (whole (pos z))) RealSort = record { formed = formed_part (whole (pos z)) (lowest_whole (pos z)); settled = tt } in
            let same : rule.operated Multiply (term.Number (pos z)) u ≡ multiply (term.Part (whole (pos z))) u = ap (λ s. multiply (cond (same_sort s RealSort) (term.Part (whole (pos z))) (term.Number (pos z))) u) (sort_of_formed g2.formed) in
            step_told means world n w _ (shown on (rule.operated Multiply (term.Number (pos z)) u) (PermValue (product (whole (pos z)) a.0)) h ext on2 (sym (ap (λ w. or_fail at (operated Multiply (IntValue (pos z)) w)) a.1) ∙ y.then)
            (subst (λ t. Good means n j t RealSort) (sym same) (good_product means gp g2))
            (ap (value j) same ∙ multiply_value j gp.formed g2.formed ∙ ap (λ e. operate j sort.Multiply (RealElement (whole (pos z))) e) (is2 ∙ ap element a.1) ∙ ap RealElement (lowest_is (product_same (same-refl (whole (pos z))) (same-lowest' a.0)))) refl))
            (λ j u s2 f. off j (rule.operated Multiply (term.Number (pos z)) u) s2 f))))
        eval_told (divides {at = at} {op = op} {a = a} {b = b} ta tb) k {c = c} {v = v} on here e h off =
            let x = undo (fit p d c a) (λ v. fit p d c b >>= λ w. or_fail at (divided op v w)) v e in
            let y = undo (fit p d c b) (λ w. or_fail at (divided op x.it w)) v x.then in
            let zero_test = λ (u : Term). negate (equals u (term.Number (pos 0))) in
            let asking = λ (t u : Term) (s2 : State). rule.ask (zero_test u) (placed s2 at) DivisorCode s2 (on (rule.divided op t u)) in
            let off_ask = λ (t : Term) (j : Interpretation) (u : Term) (s2 : State) (f : Off means world n w j s2).
            ask_left (w.Tells j) s2 (zero_test u) (placed s2 at) DivisorCode (on (rule.divided op t u)) (off_quiet means world n w f) (λ s3 st. off j (rule.divided op t u) s3 (off_still means world n w f st)) in
            step_told means world n w _ (eval_told ta k.0 (λ t s1. Step (eval p o b s1 (asking t))) here x.is (λ j t s1 ext on1 g is t1.
            step_told means world n w _ (eval_told tb k.1 (asking t) on1 y.is (λ j2 u s2 ext2 on2 g2 is2 t2.
            let nonzero : as_int (element y.it) ≡ pos 0 → ⊥ = λ z. not_divided at op x.it y.it v t1 t2 z y.then in
            let z = divided_is j2 op x.it y.it t1 t2 nonzero in
            ask_told means world n w s2 (zero_test u) (placed s2 at) DivisorCode (on (rule.divided op t u)) (on_quiet means world n w on2)
            (shown on (rule.divided op t u) z.result h (also ext ext2) on2 (sym (ap (or_fail at) z.is) ∙ y.then) (good_divided means op (grown ext2 g) g2)
            (divided_value j2 op t u ∙ ap₂ (on_division j2 op) (kept ext2 g ∙ is) is2 ∙ z.element_of) z.typed))
            (off_ask t)))
            (λ j t s1 f. off_eval b (asking t) (off_ask t) j s1 f))
        eval_told (connects {at = at} {c = o'} {a = a} {b = b} ta tb) k {i = i} {s = s} {c = c} {v = v} on here e h off =
            let x = undo (fit p d c a) (λ v. fits.connected at o' v (fit p d c b)) v e in
            let strict = λ (t u : Term) (s2 : State). Step (on (rule.connected o' t u) s2) in
            either_told i (is_total b) _ _
            (λ all.
            let q = total tb all n i s c here.quietly.stands.store in
            step_told means world n w _ (eval_told ta k.0 (λ t s1. Step (eval p o b s1 (strict t))) here x.is (λ j t s1 ext on1 g is t1.
            step_told means world n w _ (eval_told tb k.1 (strict t) on1 q.is (λ j2 u s2 ext2 on2 g2 is2 t2.
            let y = bool_is x.it t1 in
            let z = bool_is q.worth t2 in
            let g1 = grown ext2 g in
            step_told means world n w _ (shown on (rule.connected o' t u) (BoolValue (on_bools o' y.0 z.0)) h (also ext ext2) on2
            (connected_outcome at o' y.0 z.0 (fit p d c b) (q.is ∙ ap Ok z.1) v (sym (ap (λ v. fits.connected at o' v (fit p d c b)) y.1) ∙ x.then)) (good_connected means o' g1 g2)
            (connected_value j2 o' g1.formed g2.formed ∙ ap₂ (λ d e. BoolElement (on_bools o' (as_bool d) (as_bool e))) (kept ext2 g ∙ is) is2) refl))
            (λ j2 u s2 f. off j2 (rule.connected o' t u) s2 f)))
            (λ j t s1 f. off_eval b (strict t) (λ j2 u s2 f. off j2 (rule.connected o' t u) s2 f) j s1 f)))
            (λ some.
            step_told means world n w _ (eval_told ta k.0 (λ t s1. short o' t s1 (λ s2. eval p o b s2 on) on) here x.is (λ j t s1 ext on1 g is t1.
            connected_by at o' t x.it v (λ s2. eval p o b s2 on) on (fit p d c b) on1 g is t1 x.then
            (λ e2 j2 s2 ext2 on2. eval_told tb k.1 on on2 e2 (λ j3 u s3 ext3 on3 g3 is3 t3. h j3 u s3 (also ext (also ext2 ext3)) on3 g3 is3 t3) off)
            (λ j2 u s2 ext2 on2 g2 is2 t2. h j2 u s2 (also ext ext2) on2 g2 is2 t2)
            (off_eval b on off) off)
            (λ j t s1 f. short_left (w.Tells j) s1 o' t (λ s2. eval p o b s2 on) on (λ s2 st. off_eval b on off j s2 (off_still means world n w f st)) (λ u s2 st. off j u s2 (off_still means world n w f st)))))
        eval_told (chooses {at = at} {c = o'} {a = a} {b = b} {t = ty} to ta tb) k {i = i} {s = s} {c = c} {v = v} on here e h off =
            let x = undo (fit p d c o') (λ v. fits.choose at v (fit p d c a) (fit p d c b)) v e in
            let last = λ (t u : Term) (r : Term) (s3 : State). Step (on (ite t u r) s3) in
            let middle = λ (t u : Term) (s2 : State). Step (eval p o b s2 (last t u)) in
            let off_last = λ (t u : Term) (j : Interpretation) (r : Term) (s3 : State) (f : Off means world n w j s3). off j (ite t u r) s3 f in
            let off_middle = λ (t : Term) (j : Interpretation) (u : Term) (s2 : State) (f : Off means world n w j s2). off_eval b (last t u) (off_last t u) j s2 f in
            either_told i (is_total a && is_total b) _ _
            (λ all.
            let totals = and_parts (is_total a) (is_total b) all in
            let q = total ta totals.0 n i s c here.quietly.stands.store in
            let r = total tb totals.1 n i s c here.quietly.stands.store in
            step_told means world n w _ (eval_told to k.0 (λ t s1. Step (eval p o a s1 (middle t))) here x.is (λ j t s1 ext on1 g is t1.
            step_told means world n w _ (eval_told ta k.1 (middle t) on1 q.is (λ j2 u s2 ext2 on2 g2 is2 t2.
            step_told means world n w _ (eval_told tb k.2 (last t u) on2 r.is (λ j3 l s3 ext3 on3 g3 is3 t3.
            let y = bool_is x.it t1 in
            let gt = grown (also ext2 ext3) g in
            let gu = grown ext3 g2 in
            step_told means world n w _ (shown on (ite t u l) (cond y.0 q.worth r.worth) h (also ext (also ext2 ext3)) on3
            (chosen_outcome at y.0 q.worth r.worth (fit p d c a) (fit p d c b) q.is r.is v (sym (ap (λ v. fits.choose at v (fit p d c a) (fit p d c b)) y.1) ∙ x.then)) (good_ite means gt gu g3)
            (ite_value j3 t u l ∙ ap (λ e. cond (as_bool e) (value j3 u) (value j3 l)) (kept (also ext2 ext3) g ∙ is) ∙ ap₂ (cond y.0) (kept ext3 g2 ∙ is2) is3 ∙ of_side y.0 q.worth r.worth) (typed_side y.0 q.worth r.worth t2 t3)))
            (off_last t u)))
            (off_middle t)))
            (λ j t s1 f. off_eval a (middle t) (off_middle t) j s1 f)))
            (λ some.
            let go_left = λ (s2 : State). eval p o a s2 on in
            let go_right = λ (s2 : State). eval p o b s2 on in
            step_told means world n w _ (eval_told to k.0 (λ t s1. rule.fork t s1 go_left go_right) here x.is (λ j t s1 ext on1 g is t1.
            let y = bool_is x.it t1 in
            let outcome = sym (ap (λ v. fits.choose at v (fit p d c a) (fit p d c b)) y.1) ∙ x.then in
            fork_told means world n w t go_left go_right on1 g y.0 (ap as_bool is)
            (λ z j2 s2 ext2 on2. eval_told ta k.1 on on2 (on_true at y.0 (fit p d c a) (fit p d c b) v z outcome) (λ j3 u s3 ext3 on3 g3 is3 t3. h j3 u s3 (also ext (also ext2 ext3)) on3 g3 is3 t3) off)
            (λ z j2 s2 ext2 on2. eval_told tb k.2 on on2 (on_false at y.0 (fit p d c a) (fit p d c b) v z outcome) (λ j3 u s3 ext3 on3 g3 is3 t3. h j3 u s3 (also ext (also ext2 ext3)) on3 g3 is3 t3) off)
            (off_eval a on off) (off_eval b on off))
            (λ j t s1 f. fork_left (w.Tells j) s1 t go_left go_right (λ s2 st. off_eval a on off j s2 (off_still means world n w f st)) (λ s2 st. off_eval b on off j s2 (off_still means world n w f st)))))
        eval_told (reads {at = at} {e = a} f {t = ty} named ta) k {c = c} {v = v} on here e h off =
            let x = undo (fit p d c a) (λ r. or_fail at (location_of f r) >>= λ l. or_fail at (readable p c l)) v e in
            step_told means world n w _ (eval_told ta k (λ r s1. read_field f r (field_sort p f) (placed s1 at) s1 on) here x.is (λ j r s1 ext on1 g is t1.
            let y = ref_value_is x.it t1 in
            let worth = read_outcome at c f y.0 v (sym (ap (λ r. or_fail at (location_of f r) >>= λ l. or_fail at (readable p c l)) y.1) ∙ x.then) in
            read_told means world n w f ty r y.0 (placed s1 at) on named on1 g (is ∙ ap element y.1) (λ j2 u s2 ext2 on2 g2 is2 t2. h j2 u s2 (also ext ext2) on2 g2 (is2 ∙ ap element worth) (sym (ap type_of worth) ∙ t2)))
            (λ j r s1 f'. read_left (w.Tells j) s1 f r (field_sort p f) (placed s1 at) on (off_quiet means world n w f') (λ u s2 st. off j u s2 (off_still means world n w f' st))))
        eval_told (olds {e = a} ta) k {s = s} {c = c} on here e h off =
            step_told means world n w _ (eval_told ta k (λ t s1. Step (on t (with_heap s.heap s1))) (awake_old here) e
            (λ j t s1 ext on1 g is ty. step_told means world n w _ (h j t (with_heap s.heap s1) ext (awake_again ext here on1) g is ty))
            (λ j t s1 f. off j t (with_heap s.heap s1) (off_still means world n w f (heap_still s.heap s1))))
        eval_told {scope = scope} (applies {at = at} f {es = es} g named tes) k {c = c} {v = v} on here e h off =
            let x = undo (fit_all p d c es) (λ vs. or_fail at (d.applied f vs c)) v e in
            step_told means world n w _ (evals_told tes k.1 (λ ts s1. applied p o (placed s1 at) f ts s1 on) here x.is (λ j ts s1 ext on1 each.
            parts.applies scope j s1 c (placed s1 at) f g ts x.it v on k.0 named each on1 (not_failed at (d.applied f x.it c) v x.then) (λ j2 u s2 ext2 on2 g2 is2 t2. h j2 u s2 (also ext ext2) on2 g2 is2 t2) off)
            (λ j ts s1 f'. applied_left (w.Tells j) p o (left j) s1 (placed s1 at) f ts on (off_quiet means world n w f') (λ u s2 st. off j u s2 (off_still means world n w f' st))))
        eval_told {scope = scope} (unfoldings {at = at} i' {es = es} {share = share} {e = a} pd named tes tq ta) k {s = s} {c = c} {v = v} on here e h off =
            let inst = λ (vs : List Value). let z : run.Instance = record { predicate = i'; arguments = vs } in z in
            let last = λ (t : run.State). fit p d t a in
            let opening = λ (q : Fraction) (vs : List Value). guard at (has_instance c (inst vs) q) >>= λ _. or_fail at (d.opened (inst vs) q c) >>= last in
            let arguments = λ (q : Fraction). guard at (is_positive q) >>= λ _. fit_all p d c es >>= opening q in
            let x = undo (fit p d c share) (λ v. or_fail at (amount_of v) >>= arguments) v e in
            let y = undo (or_fail at (amount_of x.it)) arguments v x.then in
            let z = undo (guard at (is_positive y.it)) (λ _. fit_all p d c es >>= opening y.it) v y.then in
            let r = undo (fit_all p d c es) (opening y.it) v z.then in
            let b = undo (guard at (has_instance c (inst r.it) y.it)) (λ _. or_fail at (d.opened (inst r.it) y.it c) >>= last) v r.then in
            let u = undo (or_fail at (d.opened (inst r.it) y.it c)) last v b.then in
            let was_opened = not_failed at (d.opened (inst r.it) y.it c) u.it u.is in
            let ke = keeps (inst r.it) y.it c u.it was_opened in
            let back = λ (t : Term) (s5 : State). Step (on t (with_heap s.heap s5)) in
            let inside = λ (s4 : State). eval p o a s4 back in
            let exchanged = λ (m : Term) (ts : List Term) (s3 : State). unfolded p o (placed s3 at) i' ts m s3 inside in
            let off_back = λ (j : Interpretation) (t : Term) (s5 : State) (f : Off means world n w j s5). off j t (with_heap s.heap s5) (off_still means world n w f (heap_still s.heap s5)) in
            let off_exchanged = λ (m : Term) (j : Interpretation) (ts : List Term) (s3 : State) (f : Off means world n w j s3).
            unfolded_left (w.Tells j) p o (left j) s3 (placed s3 at) i' ts m inside (off_quiet means world n w f) (λ s4 st. off_eval a back off_back j s4 (off_still means world n w f st)) in
            step_told means world n w _ (eval_told tq k.2 (λ m s1. rule.ask (less zero_amount m) (placed s1 at) AmountCode s1 (λ s2. evals p o es s2 (exchanged m))) here x.is (λ j m s1 ext on1 g is t1.
            let am = perm_value_is x.it t1 in
            let same_q : am.0 ≡ y.it = amount_outcome x.it am.0 y.it am.1 (not_failed at (amount_of x.it) y.it y.is) in
            let worth : Same (as_fraction (value j m)) y.it = subst (λ q. Same (as_fraction (value j m)) q) same_q (subst (λ e. Same (as_fraction e) am.0) (sym (is ∙ ap element am.1)) (same-lowest' am.0)) in
            let above : Positive y.it = record { holds = guarded at (is_positive y.it) z.it z.is } in
            ask_told means world n w s1 (less zero_amount m) (placed s1 at) AmountCode (λ s2. evals p o es s2 (exchanged m)) (on_quiet means world n w on1)
            (evals_told tes k.1 (exchanged m) on1 r.is (λ j2 ts s2 ext2 on2 each.
            let keys = let t : InstanceTerms means world n j2 i' ts r.it = record { held = k.0; predicate = pd; named = named; no_perm = world.proper i' pd k.0 named; each = each } in t in
            parts.unfolds scope j2 s2 c u.it (placed s2 at) i' ts r.it m y.it inside keys (grown ext2 g) (subst (λ e. Same (as_fraction e) y.it) (sym (kept ext2 g)) worth) above on2 (guarded at (has_instance c (inst r.it) y.it) b.it b.is) was_opened
            (λ j3 s3 ext3 on3. eval_told ta k.3 back on3 u.then
            (λ j4 t s4 ext4 on4 g4 is4 t4. step_told means world n w _ (h j4 t (with_heap s.heap s4) (also ext (also ext2 (also ext3 ext4))) (folded_again (also ext (also ext2 (also ext3 ext4))) here on4 ke.store ke.heap ke.old_heap ke.old_holdings) g4 is4 t4)) off_back)
            (off_eval a back off_back))
            (off_exchanged m)))
            (λ j m s1 f. ask_left (w.Tells j) s1 (less zero_amount m) (placed s1 at) AmountCode (λ s2. evals p o es s2 (exchanged m)) (off_quiet means world n w f) (λ s2 st. off_evals es (exchanged m) (off_exchanged m) j s2 (off_still means world n w f st))))

        pub evals_told : {scope : Scope} {es : Exprs} {ds : List Declaration} → HaveTypes world.program scope es ds → AllSpeak world.Held es → {i : Interpretation} {s : State} {c : run.State} {vs : List Value} (on : GivingAll) → Here scope i s c → fit_all world.program d c es ≡ Ok vs →
            FollowsAll means world n w scope i c ds vs on → OffAll means world n w on → Told means world n w i (evals world.program o es s on)
        evals_told typed.no_more k {i = i} {s = s} {vs = vs} on here e h off =
            step_told means world n w _ (h i [] s (extends-refl means n i) here (subst (λ vs. TermsStand means world n i [] [] vs) (ok_same [] vs e) tt))
        evals_told (typed.more {e = a} {es = es} {d = pd} {ds = ds} ta tas) k {c = c} {vs = vs} on here e h off =
            let x = undo (fit p d c a) (λ v. fit_all p d c es >>= λ vs. Ok (v ∷ vs)) vs e in
            let y = undo (fit_all p d c es) (λ vs. Ok (x.it ∷ vs)) vs x.then in
            step_told means world n w _ (eval_told ta k.0 (λ t s1. evals p o es s1 (λ ts s2. Step (on (t ∷ ts) s2))) here x.is (λ j t s1 ext on1 g is t1.
            evals_told tas k.1 (λ ts s2. Step (on (t ∷ ts) s2)) on1 y.is (λ j2 ts s2 ext2 on2 each.
            step_told means world n w _ (h j2 (t ∷ ts) s2 (also ext ext2) on2 (subst (λ vs. TermsStand means world n j2 (pd ∷ ds) (t ∷ ts) vs) (ok_same (x.it ∷ y.it) vs y.then)
            (term_later means world (le_refl n) ext2 pd t x.it record { typed = t1; good = g; value_is = is }, each))))
            (λ j2 ts s2 f. off j2 (t ∷ ts) s2 f))
            (λ j t s1 f. off_evals es (λ ts s2. Step (on (t ∷ ts) s2)) (λ j2 ts s2 f. off j2 (t ∷ ts) s2 f) j s1 f))
