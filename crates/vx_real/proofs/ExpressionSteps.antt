-- Expressions, step by step: from what was shown of the parts, either the whole doesn't fit at the place, or it has the value of its term.
use Rattle.std.proofs.Common.{◌≡◌, ◌⊎◌, inl, inr, ℕ, ◌≤◌, Bool, true, false, not, cond, ◌&&◌, pos, Option, Some, None, refl, sym, ◌∙◌, ap, ap₂, subst, le_refl, le_trans, true≢false}
use Rattle.std.specs.Prelude.{Ok, Err}
use Rattle.vx_frac.specs.Fractions.{whole, product}
use Rattle.vx_frac.proofs.Whole.{lowest_whole}
use Rattle.vx_ast.specs.declared.Place.{Place}
use Rattle.vx_ast.specs.declared.ValueType.{ValueType}
use Rattle.vx_ast.specs.declared.ValueType.TheVariants.{Int, Perm}
use Rattle.vx_ast.specs.declared.ValueType.TheVariants as type
use Rattle.vx_ast.specs.Syntax.{Program, Operator, Multiply, Division, Expr, Number, Not, Operate, Divide}
use Rattle.vx_meaning.specs.Values.{Value, IntValue, BoolValue, PermValue, type_of, negated, operated, divided}
use Rattle.vx_meaning.specs.States as run
use Rattle.vx_meaning.specs.Fits.{Checked, ◌>>=◌, or_fail, Fits, fit_by}
use Rattle.vx_terms.specs.Sorts.{IntSort, RealSort, same_sort}
use Rattle.vx_terms.specs.Sorts as sort
use Rattle.vx_terms.specs.Terms.{Term}
use Rattle.vx_terms.specs.Terms as term
use Rattle.vx_terms.specs.Build.{negate, equals, multiply}
use Rattle.vx_terms.specs.Interpretations.{Interpretation, BoolElement, IntElement, RealElement, operate, as_bool, as_int, same_element, value, IsTrueIn}
use Rattle.vx_terms.specs.Formed.{number, part as formed_part}
use Rattle.vx_terms.proofs.Values.{element_same, sort_of_formed}
use Rattle.vx_terms.proofs.Build.{negate_value, equals_value, multiply_value}
use Rattle.vx_rules.specs.States as rules
use Rattle.vx_rules.specs.States.{sort_of_type}
use Rattle.vx_rules.specs.Trees.{Code, Step}
use Rattle.vx_rules.specs.Rules as rule
use Rattle.vx_rules.specs.Rules.{Giving, Going, Outer, ask, fork, short, is_total, eval, placed, read_field, field_sort}
use Rattle.vx_types.specs.Typing.{Scope, TakesType, gives_type}
use Rattle.vx_elements.proofs.Settled.{Meaning, extends-refl}
use Rattle.vx_elements.proofs.Built.{Good, good_later, good_negate, good_equals}
use Rattle.vx_elements.proofs.Elements.{element, bool_value_is, int_value_is, on_elements, operated_value, good_operated, divided_is, on_division, divided_value, good_divided}
use Rattle.vx_elements.proofs.Values.{perm_value_is, operated_is}
use Rattle.vx_elements.proofs.Truth.{equal_is, good_product}
use Rattle.vx_elements.proofs.Eventually.{eventually, both_eventually}
use Rattle.vx_amounts.proofs.Amounts.{same-refl, same-lowest', lowest_is, product_same}
use Rattle.vx_sound.proofs.World.{World}
use Rattle.vx_sound.proofs.Fields.{fields_world}
use Rattle.vx_sound.proofs.Evaluate.{bind_ok}
use Rattle.vx_real.proofs.SumReads.{not_true}
use Rattle.vx_real.proofs.Matched.{Misfits, Evaluates}
use Rattle.vx_real.proofs.Questions.{Behind}

pub bind_err : {A B : Type 0} (f : A → Checked B) {x : Checked A} {at : Place} → x ≡ Err at → (x >>= f) ≡ Err at
bind_err f e = ap (λ y. y >>= f) e

pub left_part : (b : Bool) {a : Bool} → a ≡ false → (a && b) ≡ false
left_part b e = ap (λ a. a && b) e

pub right_part : (a : Bool) {b : Bool} → b ≡ false → (a && b) ≡ false
right_part true e = e
right_part false e = refl

module _ (means : Meaning) (p : Program) (i : Interpretation) (at : Place) (code : Code) where
  abbrev world : World
  world = fields_world p

  -- it doesn't fit at the place, and so isn't total
  abbrev pub Misfit : rules.State → run.State → Expr → Type 0
  Misfit s c e = Misfits means p i at code s c e × (is_total e ≡ false)

  abbrev pub Has : Scope → rules.State → run.State → Giving → Expr → ValueType → Type 0
  Has scope s c on e t = Evaluates means p i at code scope s c on e t

  abbrev pub Shown : Scope → rules.State → run.State → Giving → Expr → ValueType → Type 0
  Shown scope s c on e t = Misfit s c e ⊎ Has scope s c on e t

  -- a part that doesn't fit
  pub part_misfits : (s : rules.State) (c : run.State) (a e : Expr) → Misfit s c a → (is_total a ≡ false → is_total e ≡ false) → ((n : ℕ) (x : Place) → fit_by p n c a ≡ Err x → fit_by p n c e ≡ Err x) → Misfit s c e
  part_misfits s c a e m part h = ((m.0.0, m.0.1, eventually m.0.2 (λ n f. h n m.0.0 f)), part m.1)

  pub placed_is : (s s1 : rules.State) (x : Place) → s1.at ≡ s.at → placed s1 x ≡ placed s x
  placed_is s s1 x e = ap (λ (o : Option Place). elim o as (λ o. Place) [ Some outer ↦ outer | None ↦ x ]) e

  pub is_at : (s s1 : rules.State) (x : Place) → s1.at ≡ s.at → placed s1 x ≡ at → placed s x ≡ at
  is_at s s1 x e h = sym (placed_is s s1 x e) ∙ h

  -- a second part that doesn't fit
  pub second_misfits : (s s1 : rules.State) (c : run.State) (a b e : Expr) (v : Value) → s1.at ≡ s.at → Fits p c a v → Misfit s1 c b → (is_total b ≡ false → is_total e ≡ false) →
      ((n : ℕ) (x : Place) → fit_by p n c a ≡ Ok v → fit_by p n c b ≡ Err x → fit_by p n c e ≡ Err x) → Misfit s c e
  second_misfits s s1 c a b e v same f m part h = ((m.0.0, is_at s s1 m.0.0 same m.0.1, both_eventually f m.0.2 (λ n u w. h n m.0.0 u w)), part m.1)

  pub good_then : {scope : Scope} {s : rules.State} {c : run.State} {on : Giving} {e : Expr} {t : ValueType} (r : Has scope s c on e t) {m : ℕ} → r.state.next ≤ m → Good means m i r.term (sort_of_type t)
  good_then r le = good_later means le (extends-refl means r.state.next i) r.good

  pub nots_real : {scope : Scope} {place : Place} {a : Expr} (s : rules.State) (c : run.State) (on : Giving) → Shown scope s c (λ t s1. Step (on (negate t) s1)) a type.Bool → Shown scope s c on (Not place a) type.Bool
  nots_real {place = place} {a = a} s c on (inl m) = inl (part_misfits s c a (Not place a) m (λ z. z) (λ n x f. bind_err (λ v. or_fail place (negated v)) f))
  nots_real {place = place} s c on (inr r) = inr record {
    state = r.state;
    term = negate r.term;
    result = BoolValue (not (as_bool (element r.result)));
    later = r.later;
    at_is = r.at_is;
    matches = r.matches;
    good = good_negate means r.good;
    value_is = negate_value i r.good.formed ∙ ap (λ e. BoolElement (not (as_bool e))) r.value_is;
    typed = refl;
    fits = eventually r.fits (λ d e. bind_ok (λ v. or_fail place (negated v)) r.result e ∙ ap (λ v. or_fail place (negated v)) (bool_value_is r.result r.typed));
    exposed = r.exposed;
  }

  pub operates_real : {scope : Scope} {place : Place} {op : Operator} {a b : Expr} {t : ValueType} (s : rules.State) (c : run.State) (on first : Giving) → TakesType op t → (r : Has scope s c first a t) →
      Shown scope r.state c (λ u s2. Step (on (rule.operated op r.term u) s2)) b t → Shown scope s c on (Operate place op a b) (gives_type op t)
  operates_real {place = place} {op = op} {a = a} {b = b} s c on first k r (inl m) =
      inl (second_misfits s r.state c a b (Operate place op a b) r.result r.at_is r.fits m (right_part (is_total a)) (λ n x e f. bind_ok (λ v. fit_by p n c b >>= λ w. or_fail place (operated op v w)) r.result e ∙ bind_err (λ w. or_fail place (operated op r.result w)) f))
  operates_real {place = place} {op = op} {a = a} {b = b} {t = t} s c on first k r (inr q) =
      let z = operated_is i op r.result q.result t k r.typed q.typed in
      let g = good_then r q.later in
      inr record {
        state = q.state;
        term = rule.operated op r.term q.term;
        result = z.result;
        later = le_trans r.later q.later;
        at_is = q.at_is ∙ r.at_is;
        matches = q.matches;
        good = good_operated means op t k g q.good;
        value_is = operated_value means op t k g q.good ∙ ap₂ (on_elements i op) r.value_is q.value_is ∙ z.element_of;
        typed = z.typed;
        fits = both_eventually r.fits q.fits (λ d e f.
            bind_ok (λ v. fit_by p d c b >>= λ w. or_fail place (operated op v w)) r.result e ∙ bind_ok (λ w. or_fail place (operated op r.result w)) q.result f ∙ ap (or_fail place) z.is);
        exposed = q.exposed;
      }

  -- a numeral times a Perm
  pub scales_real : {scope : Scope} {place : Place} {b : Expr} (inner : Place) (z : ℕ) (s : rules.State) (c : run.State) (on : Giving) → Shown scope s c (λ u s2. Step (on (rule.operated Multiply (term.Number (pos z)) u) s2)) b Perm →
      Shown scope s c on (Operate place Multiply (Number inner z) b) Perm
  scales_real {place = place} {b = b} inner z s c on (inl m) = inl (part_misfits s c b (Operate place Multiply (Number inner z) b) m (λ z. z) (λ n x f. bind_err (λ w. or_fail place (operated Multiply (IntValue (pos z)) w)) f))
  scales_real {place = place} {b = b} inner z s c on (inr q) =
      let a = perm_value_is q.result q.typed in
      let u = q.term in
      let gp : Good means q.state.next i (term.Part (whole (pos z))) RealSort = record { formed = formed_part (whole (pos z)) (lowest_whole (pos z)); settled = tt } in
      let is : rule.operated Multiply (term.Number (pos z)) u ≡ multiply (term.Part (whole (pos z))) u =
      ap (λ s. multiply (cond (same_sort s RealSort) (term.Part (whole (pos z))) (term.Number (pos z))) u) (sort_of_formed q.good.formed) in
      inr record {
        state = q.state;
        term = rule.operated Multiply (term.Number (pos z)) u;
        result = PermValue (product (whole (pos z)) a.0);
        later = q.later;
        at_is = q.at_is;
        matches = q.matches;
        good = subst (λ t. Good means q.state.next i t RealSort) (sym is) (good_product means gp q.good);
        value_is = ap (value i) is ∙ multiply_value i gp.formed q.good.formed
            ∙ ap (λ e. operate i sort.Multiply (RealElement (whole (pos z))) e) (q.value_is ∙ ap element a.1)
            ∙ ap RealElement (lowest_is (product_same (same-refl (whole (pos z))) (same-lowest' a.0)));
        typed = refl;
        fits = eventually q.fits (λ d e. bind_ok (λ w. or_fail place (operated Multiply (IntValue (pos z)) w)) q.result e ∙ ap (λ w. or_fail place (operated Multiply (IntValue (pos z)) w)) a.1);
        exposed = q.exposed;
      }

  -- Division: a divisor 0 is at the place

  abbrev pub zero_test : Term → Term
  zero_test u = negate (equals u (term.Number (pos 0)))

  pub good_test : {n : ℕ} {u : Term} → Good means n i u IntSort → Good means n i (zero_test u) sort.BoolSort
  good_test g = good_negate means (good_equals means g record { formed = number (pos 0); settled = tt })

  zero_term : {n : ℕ} {u : Term} (w : Value) → Good means n i u IntSort → value i u ≡ element w → type_of w ≡ Int → as_int (element w) ≡ pos 0 → IsTrueIn i (zero_test u) → ⊥
  zero_term {u = u} w g v ty z h =
      let zero : Good means _ i (term.Number (pos 0)) IntSort = record { formed = number (pos 0); settled = tt } in
      let is : value i u ≡ IntElement (pos 0) = v ∙ ap element (int_value_is w ty) ∙ ap IntElement z in
      not_true i (good_equals means g zero) h (ap as_bool (equals_value i u (term.Number (pos 0))) ∙ ap (λ x. as_bool (BoolElement (same_element x (IntElement (pos 0))))) is ∙ element_same (IntElement (pos 0)))

  is_zero : {n : ℕ} {u : Term} (w : Value) → Good means n i u IntSort → value i u ≡ element w → type_of w ≡ Int → IsTrueIn i (negate (zero_test u)) → w ≡ IntValue (pos 0)
  is_zero {n = n} {u = u} w g v ty h = int_value_is w ty ∙ ap (λ e. IntValue (as_int e)) (sym v ∙ equal_is i u (term.Number (pos 0)) (go (as_bool (value i (equals u (term.Number (pos 0))))) refl))
    where
      zero : Good means n i (term.Number (pos 0)) IntSort
      zero = record { formed = number (pos 0); settled = tt }

      twice : as_bool (value i (negate (zero_test u))) ≡ not (not (as_bool (value i (equals u (term.Number (pos 0))))))
      twice = ap as_bool (negate_value i (good_test g).formed) ∙ ap (λ e. not (as_bool e)) (negate_value i (good_equals means g zero).formed)

      go : (b : Bool) → as_bool (value i (equals u (term.Number (pos 0)))) ≡ b → IsTrueIn i (equals u (term.Number (pos 0)))
      go true e = e
      go false e = absurd (true≢false (sym h ∙ twice ∙ ap (λ b. not (not b)) e))

  by_zero : (op : Division) (v : Value) → type_of v ≡ Int → divided op v (IntValue (pos 0)) ≡ None
  by_zero op v ty = ap (λ x. divided op x (IntValue (pos 0))) (int_value_is v ty) ∙ none op (as_int (element v))
    where
      none : (op : Division) (z : _) → divided op (IntValue z) (IntValue (pos 0)) ≡ None
      none op z = refl

  pub divides_real : {scope : Scope} {place : Place} {op : Division} {a b : Expr} (s : rules.State) (c : run.State) (on first second : Giving) → (r : Has scope s c first a Int) → (q : Has scope r.state c second b Int) →
      ((placed q.state place ≡ at) × IsTrueIn i (negate (zero_test q.term))) ⊎ (IsTrueIn i (zero_test q.term) × Behind means p i at code scope q.state c (on (rule.divided op r.term q.term))) → Shown scope s c on (Divide place op a b) Int
  divides_real {place = place} {op = op} {a = a} {b = b} s c on first second r q (inl m) =
      let w = is_zero q.result q.good q.value_is q.typed m.1 in
      inl (
        (
          place,
          is_at s q.state place (q.at_is ∙ r.at_is) m.0,
          both_eventually r.fits q.fits (λ d e f.
              bind_ok (λ v. fit_by p d c b >>= λ w. or_fail place (divided op v w)) r.result e ∙ bind_ok (λ w. or_fail place (divided op r.result w)) q.result f
              ∙ ap (λ w. or_fail place (divided op r.result w)) w ∙ ap (or_fail place) (by_zero op r.result r.typed)),
        ),
        refl,
      )
  divides_real {place = place} {op = op} {a = a} {b = b} s c on first second r q (inr (told, w)) =
      let z = divided_is i op r.result q.result r.typed q.typed (λ e. zero_term q.result q.good q.value_is q.typed e told) in
      let le = subst (λ m. q.state.next ≤ m) (sym w.next_is) (le_refl _) in
      let g = good_then r (le_trans q.later le) in
      let f = good_then q le in
      inr record {
        state = w.state;
        term = rule.divided op r.term q.term;
        result = z.result;
        later = le_trans r.later (le_trans q.later le);
        at_is = w.at_is ∙ q.at_is ∙ r.at_is;
        matches = w.matches;
        good = good_divided means op g f;
        value_is = divided_value i op r.term q.term ∙ ap₂ (on_division i op) r.value_is q.value_is ∙ z.element_of;
        typed = z.typed;
        fits = both_eventually r.fits q.fits (λ d e f.
            bind_ok (λ v. fit_by p d c b >>= λ w. or_fail place (divided op v w)) r.result e ∙ bind_ok (λ w. or_fail place (divided op r.result w)) q.result f ∙ ap (or_fail place) z.is);
        exposed = w.exposed;
      }
