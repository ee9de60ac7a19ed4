-- Connectives and choices, step by step: the right part where it is needed, and the side that was picked.
use Rattle.std.proofs.Common.{◌≡◌, inl, inr, ℕ, ◌≤◌, Bool, true, false, not, cond, ◌&&◌, refl, sym, ◌∙◌, ap, ap₂, subst, le_refl, le_trans}
use Rattle.std.specs.Prelude.{Ok, Err}
use Rattle.vx_ast.specs.declared.Place.{Place}
use Rattle.vx_ast.specs.declared.ValueType.{ValueType}
use Rattle.vx_ast.specs.declared.ValueType.TheVariants.{Int, Perm}
use Rattle.vx_ast.specs.declared.ValueType.TheVariants as type
use Rattle.vx_ast.specs.Syntax.{Program, Connective, And, Or, Implies, Expr, Connect, Choose}
use Rattle.vx_meaning.specs.Values.{Value, BoolValue, type_of, needs_right, without_right}
use Rattle.vx_meaning.specs.States as run
use Rattle.vx_meaning.specs.Fits.{Checked, ◌>>=◌, or_fail, Fits, fit_by, deeper}
use Rattle.vx_meaning.specs.Fits as fits
use Rattle.vx_terms.specs.Sorts.{IntSort, RealSort, same_sort}
use Rattle.vx_terms.specs.Sorts as sort
use Rattle.vx_terms.specs.Terms.{Term}
use Rattle.vx_terms.specs.Terms as term
use Rattle.vx_terms.specs.Build.{ite, true_term, false_term}
use Rattle.vx_terms.specs.Interpretations.{Interpretation, BoolElement, as_bool, value}
use Rattle.vx_terms.specs.Formed.{truth}
use Rattle.vx_terms.proofs.Build.{ite_value}
use Rattle.vx_rules.specs.States as rules
use Rattle.vx_rules.specs.States.{sort_of_type}
use Rattle.vx_rules.specs.Trees.{Code, Step}
use Rattle.vx_rules.specs.Rules as rule
use Rattle.vx_rules.specs.Rules.{Giving, Going, Outer, ask, fork, short, is_total, eval, placed, read_field, field_sort}
use Rattle.vx_types.specs.Typing.{Scope}
use Rattle.vx_elements.proofs.Settled.{Meaning}
use Rattle.vx_elements.proofs.Built.{Good, good_ite}
use Rattle.vx_elements.proofs.Elements.{element, bool_value_is, on_bools, connected_value, good_connected}
use Rattle.vx_elements.proofs.Eventually.{eventually, both_eventually}
use Rattle.vx_grows.proofs.GrowSteps.{Follows, FollowsWith}
use Rattle.vx_sound.proofs.Evaluate.{bind_ok}
use Rattle.vx_real.specs.Exposed.{Exposed}
use Rattle.vx_real.proofs.Matched.{Matches}
use Rattle.vx_real.proofs.Questions.{Behind, forked}
use Rattle.vx_real.proofs.ExpressionSteps.{Has, Shown, second_misfits, good_then, left_part, right_part}

chosen_fits : (at : Place) (b : Bool) (v w : Value) (x y : Checked Value) → (b ≡ true → x ≡ Ok v) → (b ≡ false → y ≡ Ok w) → fits.choose at (BoolValue b) x y ≡ Ok (cond b v w)
chosen_fits at true v w x y h k = h refl
chosen_fits at false v w x y h k = k refl

cond_type : (b : Bool) (v w : Value) {t : ValueType} → type_of v ≡ t → type_of w ≡ t → type_of (cond b v w) ≡ t
cond_type true v w e f = e
cond_type false v w e f = f

cond_element : (b : Bool) (v w : Value) → cond b (element v) (element w) ≡ element (cond b v w)
cond_element true v w = refl
cond_element false v w = refl

connected_fits : (at : Place) (c : Connective) (a b : Bool) (right : Checked Value) → (needs_right c a ≡ true → right ≡ Ok (BoolValue b)) → fits.connected at c (BoolValue a) right ≡ Ok (BoolValue (on_bools c a b))
connected_fits at c a b right h = go (needs_right c a) h
  where
    go : (n : Bool) → (n ≡ true → right ≡ Ok (BoolValue b)) → cond n right (Ok (BoolValue (without_right c))) ≡ Ok (BoolValue (cond n b (without_right c)))
    go true h = h refl
    go false h = refl

module _ (means : Meaning) (p : Program) (i : Interpretation) (at : Place) (code : Code) where
  -- Connectives

  connect_err : (place : Place) (k : Connective) (v : Value) (right : Checked Value) {x : Place} → type_of v ≡ type.Bool → needs_right k (as_bool (element v)) ≡ true → right ≡ Err x → fits.connected place k v right ≡ Err x
  connect_err place k v right ty need e = ap (λ v. fits.connected place k v right) (bool_value_is v ty) ∙ ap (λ n. cond n right (Ok (BoolValue (without_right k)))) need ∙ e

  pub connects_real : {scope : Scope} {place : Place} {k : Connective} {a b : Expr} (s : rules.State) (c : run.State) (on first : Giving) → (r : Has means p i at code scope s c first a type.Bool) → Has means p i at code scope r.state c (λ u s2. Step (on (rule.connected k r.term u) s2)) b type.Bool →
      Has means p i at code scope s c on (Connect place k a b) type.Bool
  connects_real {place = place} {k = k} {a = a} {b = b} s c on first r q =
      let x = as_bool (element r.result) in
      let y = as_bool (element q.result) in
      let g = good_then means p i at code r q.later in
      record {
        state = q.state;
        term = rule.connected k r.term q.term;
        result = BoolValue (on_bools k x y);
        later = le_trans r.later q.later;
        at_is = q.at_is ∙ r.at_is;
        matches = q.matches;
        good = good_connected means k g q.good;
        value_is = connected_value i k g.formed q.good.formed ∙ ap₂ (λ d e. BoolElement (on_bools k (as_bool d) (as_bool e))) r.value_is q.value_is;
        typed = refl;
        fits = both_eventually r.fits q.fits (λ d e f.
            bind_ok (λ v. fits.connected place k v (fit_by p d c b)) r.result e
            ∙ ap (λ v. fits.connected place k v (fit_by p d c b)) (bool_value_is r.result r.typed)
            ∙ connected_fits place k x y (fit_by p d c b) (λ h. f ∙ ap Ok (bool_value_is q.result q.typed)));
        exposed = q.exposed;
      }

  -- the right part is evaluated where it is needed
  pub short_behind : {scope : Scope} {s : rules.State} {c : run.State} (k : Connective) (t : Term) (more : Going) (on : Giving) → Matches means p i scope s c → Good means s.next i t sort.BoolSort → Follows more → FollowsWith on →
      Exposed i at code (short k t s more on) → (b : Bool) → as_bool (value i t) ≡ b → Behind means p i at code scope s c (cond (needs_right k b) more (on (term.Truth (without_right k))))
  short_behind And t more on m g hm h x b e = forked means p i at code t more (on false_term) m g hm (h false_term) x b e
  short_behind Implies t more on m g hm h x b e = forked means p i at code t more (on true_term) m g hm (h true_term) x b e
  short_behind {scope = scope} {s = s} {c = c} Or t more on m g hm h x b e = go b (forked means p i at code t (on true_term) more m g (h true_term) hm x b e)
    where
      go : (b : Bool) → Behind means p i at code scope s c (cond b (on true_term) more) → Behind means p i at code scope s c (cond (not b) more (on true_term))
      go true r = r
      go false r = r

  right_real : {scope : Scope} {place : Place} {k : Connective} {a b : Expr} (s s1 : rules.State) (c : run.State) (on : Giving) (left : Value) → type_of left ≡ type.Bool → Fits p c a left → needs_right k (as_bool (element left)) ≡ true →
      s.next ≤ s1.next → s1.at ≡ s.at → Shown means p i at code scope s1 c on b type.Bool → Shown means p i at code scope s c on (Connect place k a b) type.Bool
  right_real {place = place} {k = k} {a = a} {b = b} s s1 c on left ty f need le same (inl m) =
      inl (second_misfits means p i at code s s1 c a b (Connect place k a b) left same f m (right_part (is_total a)) (λ n x e g. bind_ok (λ v. fits.connected place k v (fit_by p n c b)) left e ∙ connect_err place k left (fit_by p n c b) ty need g))
  right_real {place = place} {k = k} {a = a} {b = b} s s1 c on left ty f need le same (inr q) = inr record {
    state = q.state;
    term = q.term;
    result = q.result;
    later = le_trans le q.later;
    at_is = q.at_is ∙ same;
    matches = q.matches;
    good = q.good;
    value_is = q.value_is;
    typed = q.typed;
    fits = both_eventually f q.fits (λ d e g.
        bind_ok (λ v. fits.connected place k v (fit_by p d c b)) left e
        ∙ ap (λ v. fits.connected place k v (fit_by p d c b)) (bool_value_is left ty)
        ∙ ap (λ n. cond n (fit_by p d c b) (Ok (BoolValue (without_right k)))) need
        ∙ g);
    exposed = q.exposed;
  }

  left_real : {scope : Scope} {place : Place} {k : Connective} {a b : Expr} (s : rules.State) (c : run.State) (on : Giving) (left : Value) → type_of left ≡ type.Bool → Fits p c a left → needs_right k (as_bool (element left)) ≡ false →
      (r1 : rules.State) → s.next ≤ r1.next → r1.at ≡ s.at → Matches means p i scope r1 c → Exposed i at code (on (term.Truth (without_right k)) r1) → Has means p i at code scope s c on (Connect place k a b) type.Bool
  left_real {place = place} {k = k} {a = a} {b = b} s c on left ty f need r1 le same m x = record {
    state = r1;
    term = term.Truth (without_right k);
    result = BoolValue (without_right k);
    later = le;
    at_is = same;
    matches = m;
    good = record { formed = truth (without_right k); settled = tt };
    value_is = refl;
    typed = refl;
    fits = eventually f (λ d e.
        bind_ok (λ v. fits.connected place k v (fit_by p d c b)) left e
        ∙ ap (λ v. fits.connected place k v (fit_by p d c b)) (bool_value_is left ty)
        ∙ ap (λ n. cond n (fit_by p d c b) (Ok (BoolValue (without_right k)))) need);
    exposed = x;
  }

  pub short_real : {scope : Scope} {place : Place} {k : Connective} {a b : Expr} (s : rules.State) (c : run.State) (more : Going) (on first : Giving) → (r : Has means p i at code scope s c first a type.Bool) →
      (need : Bool) → needs_right k (as_bool (element r.result)) ≡ need → (g : Behind means p i at code scope r.state c (cond need more (on (term.Truth (without_right k))))) →
      ((s1 : rules.State) → Matches means p i scope s1 c → Exposed i at code (more s1) → Shown means p i at code scope s1 c on b type.Bool) → Shown means p i at code scope s c on (Connect place k a b) type.Bool
  short_real s c more on first r true e g then = right_real s g.state c on r.result r.typed r.fits e (le_trans r.later (subst (λ m. r.state.next ≤ m) (sym g.next_is) (le_refl _))) (g.at_is ∙ r.at_is) (then g.state g.matches g.exposed)
  short_real s c more on first r false e g then = inr (left_real s c on r.result r.typed r.fits e g.state (le_trans r.later (subst (λ m. r.state.next ≤ m) (sym g.next_is) (le_refl _))) (g.at_is ∙ r.at_is) g.matches g.exposed)

  -- Choices

  pub chooses_real : {scope : Scope} {place : Place} {d a b : Expr} {t : ValueType} (s : rules.State) (c : run.State) (on first second : Giving) → (r : Has means p i at code scope s c first d type.Bool) → (q : Has means p i at code scope r.state c second a t) →
      Has means p i at code scope q.state c (λ v s3. Step (on (ite r.term q.term v) s3)) b t → Has means p i at code scope s c on (Choose place d a b) t
  chooses_real {place = place} {d = d} {a = a} {b = b} s c on first second r q w =
      let x = as_bool (element r.result) in
      let g = good_then means p i at code r (le_trans q.later w.later) in
      let h = good_then means p i at code q w.later in
      record {
        state = w.state;
        term = ite r.term q.term w.term;
        result = cond x q.result w.result;
        later = le_trans r.later (le_trans q.later w.later);
        at_is = w.at_is ∙ q.at_is ∙ r.at_is;
        matches = w.matches;
        good = good_ite means g h w.good;
        value_is = ite_value i r.term q.term w.term ∙ ap (λ e. cond (as_bool e) (value i q.term) (value i w.term)) r.value_is ∙ ap₂ (cond x) q.value_is w.value_is ∙ cond_element x q.result w.result;
        typed = cond_type x q.result w.result q.typed w.typed;
        fits = both_eventually r.fits (both_eventually {R = λ m. (fit_by p m c a ≡ Ok q.result) × (fit_by p m c b ≡ Ok w.result)} q.fits w.fits (λ m e f. (e, f))) (λ m e f.
            bind_ok (λ v. fits.choose place v (fit_by p m c a) (fit_by p m c b)) r.result e
            ∙ ap (λ v. fits.choose place v (fit_by p m c a) (fit_by p m c b)) (bool_value_is r.result r.typed)
            ∙ chosen_fits place x q.result w.result (fit_by p m c a) (fit_by p m c b) (λ h. f.0) (λ h. f.1));
        exposed = w.exposed;
      }

  -- the side that was picked
  side_real : {scope : Scope} {place : Place} {d a b e : Expr} {t : ValueType} (s s1 : rules.State) (c : run.State) (on : Giving) (test : Value) → Fits p c d test → s.next ≤ s1.next → s1.at ≡ s.at → (is_total e ≡ false → (is_total d && is_total a && is_total b) ≡ false) →
      ((n : ℕ) → fits.choose place test (fit_by p n c a) (fit_by p n c b) ≡ fit_by p n c e) → Shown means p i at code scope s1 c on e t → Shown means p i at code scope s c on (Choose place d a b) t
  side_real {place = place} {d = d} {a = a} {b = b} {e = e} s s1 c on test f le same part is (inl m) =
      inl (second_misfits means p i at code s s1 c d e (Choose place d a b) test same f m part (λ n x u w. bind_ok (λ v. fits.choose place v (fit_by p n c a) (fit_by p n c b)) test u ∙ is n ∙ w))
  side_real {place = place} {d = d} {a = a} {b = b} {e = e} s s1 c on test f le same part is (inr q) = inr record {
    state = q.state;
    term = q.term;
    result = q.result;
    later = le_trans le q.later;
    at_is = q.at_is ∙ same;
    matches = q.matches;
    good = q.good;
    value_is = q.value_is;
    typed = q.typed;
    fits = both_eventually f q.fits (λ n u w. bind_ok (λ v. fits.choose place v (fit_by p n c a) (fit_by p n c b)) test u ∙ is n ∙ w);
    exposed = q.exposed;
  }

  pub picked_real : {scope : Scope} {place : Place} {d a b : Expr} {t : ValueType} (s : rules.State) (c : run.State) (left right : Going) (on first : Giving) → (r : Has means p i at code scope s c first d type.Bool) →
      (x : Bool) → as_bool (element r.result) ≡ x → (g : Behind means p i at code scope r.state c (cond x left right)) →
      ((s1 : rules.State) → Matches means p i scope s1 c → Exposed i at code (left s1) → Shown means p i at code scope s1 c on a t) → ((s1 : rules.State) → Matches means p i scope s1 c → Exposed i at code (right s1) → Shown means p i at code scope s1 c on b t) →
      Shown means p i at code scope s c on (Choose place d a b) t
  picked_real {place = place} {d = d} {a = a} {b = b} s c left right on first r true e g then other =
      side_real {e = a} s g.state c on r.result r.fits (le_trans r.later (subst (λ m. r.state.next ≤ m) (sym g.next_is) (le_refl _))) (g.at_is ∙ r.at_is) (λ z. left_part (is_total b) (right_part (is_total d) z))
      (λ n. ap (λ v. fits.choose place v (fit_by p n c a) (fit_by p n c b)) (bool_value_is r.result r.typed ∙ ap BoolValue e)) (then g.state g.matches g.exposed)
  picked_real {place = place} {d = d} {a = a} {b = b} s c left right on first r false e g then other =
      side_real {e = b} s g.state c on r.result r.fits (le_trans r.later (subst (λ m. r.state.next ≤ m) (sym g.next_is) (le_refl _))) (g.at_is ∙ r.at_is) (λ z. right_part (is_total d && is_total a) z)
      (λ n. ap (λ v. fits.choose place v (fit_by p n c a) (fit_by p n c b)) (bool_value_is r.result r.typed ∙ ap BoolValue e)) (other g.state g.matches g.exposed)
