-- The elements that values stand for, and what operators make of them.
use Rattle.std.specs.Bool.{beq}
use Rattle.std.proofs.Common.{◌≡◌, ℕ, zero, suc, Bool, true, false, not, cond, ◌⊎◌, inl, inr, ℤ, pos, negsuc, Some, refl, sym, ◌∙◌, ap, subst}
use Rattle.std.specs.Int.{int_div_euclid, int_rem_euclid}
use Rattle.vx_frac.specs.Fractions.{lowest, whole}
use Rattle.vx_frac.proofs.Lowest.{lowest-lowest}
use Rattle.vx_ast.specs.declared.ValueType.{ValueType}
use Rattle.vx_ast.specs.declared.ValueType.TheVariants.{Int, Perm}
use Rattle.vx_ast.specs.declared.ValueType.TheVariants as type
use Rattle.vx_ast.specs.Syntax.{Operator, Equal, Less, LessEqual, Greater, GreaterEqual, Add, Subtract, Multiply, Division, Quotient, Remainder, Connective, And, Or, Implies}
use Rattle.vx_meaning.specs.Values.{Value, IntValue, BoolValue, RefValue, PermValue, type_of, on_ints, operated, divided, needs_right, without_right}
use Rattle.vx_terms.specs.Sorts.{Sort, IntSort, BoolSort, RealSort}
use Rattle.vx_terms.specs.Sorts as sort
use Rattle.vx_terms.specs.Terms.{Term, Number, sort_of}
use Rattle.vx_terms.specs.Terms as term
use Rattle.vx_terms.specs.Build.{multiply}
use Rattle.vx_terms.specs.Interpretations.{Element, IntElement, BoolElement, RealElement, TreeElement, RefLeaf, as_bool, as_int, IsOf, Interpretation, operate, value}
use Rattle.vx_terms.specs.Formed.{Formed}
use Rattle.vx_terms.proofs.Values.{sort_of_formed}
use Rattle.vx_terms.proofs.Build.{and_value, or_value, implies_value, equals_value, less_value, less_equal_value, add_value, subtract_value, multiply_value, div_value, modulo_value}
use Rattle.vx_rules.specs.States.{sort_of_type}
use Rattle.vx_rules.specs.Rules as rules
use Rattle.vx_types.specs.Typing.{TakesType, gives_type}
use Rattle.vx_types.specs.StoreLanguage.{IsSmall}
use Rattle.vx_elements.proofs.Settled.{Meaning}
use Rattle.vx_elements.proofs.Built.{Good, good_equals, good_less, good_less_equal, good_add, good_subtract, good_multiply, good_div, good_modulo, good_and, good_or, good_implies}

-- a Perm stands for the Real in lowest terms, a reference for the tree with it
abbrev pub element : Value → Element
element (IntValue z) = IntElement z
element (BoolValue b) = BoolElement b
element (RefValue r) = TreeElement (RefLeaf r)
element (PermValue a) = RealElement (lowest a)

pub element_is : (v : Value) → IsOf (sort_of_type (type_of v)) (element v)
element_is (IntValue z) = tt
element_is (BoolValue b) = tt
element_is (RefValue r) = tt
element_is (PermValue a) = lowest-lowest a

pub bool_value_is : (v : Value) → type_of v ≡ type.Bool → v ≡ BoolValue (as_bool (element v))
bool_value_is (BoolValue b) e = refl
bool_value_is (IntValue z) e = cc
bool_value_is (RefValue r) e = cc
bool_value_is (PermValue a) e = cc

pub int_value_is : (v : Value) → type_of v ≡ Int → v ≡ IntValue (as_int (element v))
int_value_is (IntValue z) e = refl
int_value_is (BoolValue b) e = cc
int_value_is (RefValue r) e = cc
int_value_is (PermValue a) e = cc

-- what the rules' operator makes of two elements
abbrev pub on_elements : Interpretation → Operator → Element → Element → Element
on_elements i Equal d e = operate i sort.Equal d e
on_elements i Less d e = operate i sort.Less d e
on_elements i LessEqual d e = operate i sort.LessEqual d e
on_elements i Greater d e = operate i sort.Less e d
on_elements i GreaterEqual d e = operate i sort.LessEqual e d
on_elements i Add d e = operate i sort.Add d e
on_elements i Subtract d e = operate i sort.Subtract d e
on_elements i Multiply d e = operate i sort.Multiply d e

-- a numeral that is not times a Perm stays
pub as_amount_is : (t u : Term) → sort_of u ≡ IntSort → rules.as_amount t u ≡ t
as_amount_is (Number n) u e = ap (λ s. cond (same_sort' s) (term.Part (whole n)) (Number n)) e
  where
    same_sort' : Sort → Bool
    same_sort' s = sort.same_sort s RealSort
as_amount_is t u e = refl

pub numeric : {a : ValueType} → (a ≡ Int) ⊎ (a ≡ Perm) → (sort_of_type a ≡ IntSort) ⊎ (sort_of_type a ≡ RealSort)
numeric (inl e) = inl (ap sort_of_type e)
numeric (inr e) = inr (ap sort_of_type e)

module _ (means : Meaning) where
  module _ {n : ℕ} {i : Interpretation} {t u : Term} where
    pub operated_value : (op : Operator) (a : ValueType) → TakesType op a → Good means n i t (sort_of_type a) → Good means n i u (sort_of_type a) →
        value i (rules.operated op t u) ≡ on_elements i op (value i t) (value i u)
    operated_value Equal a k f g = equals_value i t u
    operated_value Less a k f g = less_value i t u
    operated_value LessEqual a k f g = less_equal_value i t u
    operated_value Greater a k f g = less_value i u t
    operated_value GreaterEqual a k f g = less_equal_value i u t
    operated_value Add a k f g = add_value i f.formed g.formed
    operated_value Subtract a k f g = subtract_value i f.formed g.formed
    operated_value Multiply a k f g =
        ap (λ s. value i (multiply s u)) (as_amount_is t u (sort_of_formed g.formed ∙ ap sort_of_type k)) ∙ multiply_value i f.formed g.formed

    pub good_operated : (op : Operator) (a : ValueType) → TakesType op a → Good means n i t (sort_of_type a) → Good means n i u (sort_of_type a) →
        Good means n i (rules.operated op t u) (sort_of_type (gives_type op a))
    good_operated Equal a k f g = good_equals means f g
    good_operated Less a k f g = good_less means (numeric k) f g
    good_operated LessEqual a k f g = good_less_equal means (numeric k) f g
    good_operated Greater a k f g = good_less means (numeric k) g f
    good_operated GreaterEqual a k f g = good_less_equal means (numeric k) g f
    good_operated Add a k f g = good_add means (numeric k) f g
    good_operated Subtract a k f g = good_subtract means (numeric k) f g
    good_operated Multiply a k f g =
        subst (λ s. Good means n i (multiply s u) (sort_of_type a)) (sym (as_amount_is t u (sort_of_formed g.formed ∙ ap sort_of_type k))) (good_multiply means (inl (ap sort_of_type k)) f g)

-- an operator on two values of its operand type has a value, which the element is that of
pub record IsOperated (i : Interpretation) (op : Operator) (v w : Value) (t : ValueType) : Type 0 where
  pub result : Value
  pub is : operated op v w ≡ Some result
  pub typed : type_of result ≡ gives_type op t
  pub element_of : on_elements i op (element v) (element w) ≡ element result

on_two_ints : (i : Interpretation) (op : Operator) (a b : ℤ) → IsOperated i op (IntValue a) (IntValue b) Int
on_two_ints i Equal a b = record { result = on_ints Equal a b; is = refl; typed = refl; element_of = refl }
on_two_ints i Less a b = record { result = on_ints Less a b; is = refl; typed = refl; element_of = refl }
on_two_ints i LessEqual a b = record { result = on_ints LessEqual a b; is = refl; typed = refl; element_of = refl }
on_two_ints i Greater a b = record { result = on_ints Greater a b; is = refl; typed = refl; element_of = refl }
on_two_ints i GreaterEqual a b = record { result = on_ints GreaterEqual a b; is = refl; typed = refl; element_of = refl }
on_two_ints i Add a b = record { result = on_ints Add a b; is = refl; typed = refl; element_of = refl }
on_two_ints i Subtract a b = record { result = on_ints Subtract a b; is = refl; typed = refl; element_of = refl }
on_two_ints i Multiply a b = record { result = on_ints Multiply a b; is = refl; typed = refl; element_of = refl }

same_bools : (a b : Bool) → term.same_bool a b ≡ beq a b
same_bools true true = refl
same_bools true false = refl
same_bools false true = refl
same_bools false false = refl

not_numeric : {R : Type 0} → (type.Bool ≡ Int) ⊎ (type.Bool ≡ Perm) → R
not_numeric (inl e) = cc
not_numeric (inr e) = cc

on_two_bools : (i : Interpretation) (op : Operator) (a b : Bool) → TakesType op type.Bool → IsOperated i op (BoolValue a) (BoolValue b) type.Bool
on_two_bools i Equal a b k = record { result = BoolValue (beq a b); is = refl; typed = refl; element_of = ap BoolElement (same_bools a b) }
on_two_bools i Less a b k = not_numeric k
on_two_bools i LessEqual a b k = not_numeric k
on_two_bools i Greater a b k = not_numeric k
on_two_bools i GreaterEqual a b k = not_numeric k
on_two_bools i Add a b k = not_numeric k
on_two_bools i Subtract a b k = not_numeric k
on_two_bools i Multiply a b k = cc

pub operated_small : (i : Interpretation) (op : Operator) (v w : Value) (t : ValueType) → IsSmall t → TakesType op t → type_of v ≡ t → type_of w ≡ t → IsOperated i op v w t
operated_small i op v w Int s k e f =
    subst (λ x. IsOperated i op x w Int) (sym (int_value_is v e)) (subst (λ y. IsOperated i op (IntValue (as_int (element v))) y Int) (sym (int_value_is w f)) (on_two_ints i op _ _))
operated_small i op v w type.Bool s k e f =
    subst (λ x. IsOperated i op x w type.Bool) (sym (bool_value_is v e)) (subst (λ y. IsOperated i op (BoolValue (as_bool (element v))) y type.Bool) (sym (bool_value_is w f)) (on_two_bools i op _ _ k))
operated_small i op v w type.Ref s k e f = absurd s
operated_small i op v w Perm s k e f = absurd s

abbrev pub on_division : Interpretation → Division → Element → Element → Element
on_division i Quotient d e = operate i sort.Div d e
on_division i Remainder d e = operate i sort.Mod d e

-- a quotient or remainder by what isn't 0
pub record IsDivided (i : Interpretation) (op : Division) (v w : Value) : Type 0 where
  pub result : Value
  pub is : divided op v w ≡ Some result
  pub typed : type_of result ≡ Int
  pub element_of : on_division i op (element v) (element w) ≡ element result

on_two_parts : (i : Interpretation) (op : Division) (a b : ℤ) → (b ≡ pos 0 → ⊥) → IsDivided i op (IntValue a) (IntValue b)
on_two_parts i op a (pos zero) h = absurd (h refl)
on_two_parts i Quotient a (pos (suc b)) h = record { result = IntValue (int_div_euclid a (pos (suc b))); is = refl; typed = refl; element_of = refl }
on_two_parts i Quotient a (negsuc b) h = record { result = IntValue (int_div_euclid a (negsuc b)); is = refl; typed = refl; element_of = refl }
on_two_parts i Remainder a (pos (suc b)) h = record { result = IntValue (int_rem_euclid a (pos (suc b))); is = refl; typed = refl; element_of = refl }
on_two_parts i Remainder a (negsuc b) h = record { result = IntValue (int_rem_euclid a (negsuc b)); is = refl; typed = refl; element_of = refl }

pub divided_is : (i : Interpretation) (op : Division) (v w : Value) → type_of v ≡ Int → type_of w ≡ Int → (as_int (element w) ≡ pos 0 → ⊥) → IsDivided i op v w
divided_is i op v w e f h =
    subst (λ x. IsDivided i op x w) (sym (int_value_is v e)) (subst (λ y. IsDivided i op (IntValue (as_int (element v))) y) (sym (int_value_is w f)) (on_two_parts i op (as_int (element v)) (as_int (element w)) h))

pub divided_value : (i : Interpretation) (op : Division) (t u : Term) → value i (rules.divided op t u) ≡ on_division i op (value i t) (value i u)
divided_value i Quotient t u = div_value i t u
divided_value i Remainder t u = modulo_value i t u

pub good_divided : (means : Meaning) {n : ℕ} {i : Interpretation} {t u : Term} (op : Division) → Good means n i t IntSort → Good means n i u IntSort → Good means n i (rules.divided op t u) IntSort
good_divided means Quotient f g = good_div means f g
good_divided means Remainder f g = good_modulo means f g

-- connectives
abbrev pub on_bools : Connective → Bool → Bool → Bool
on_bools c a b = cond (needs_right c a) b (without_right c)

pub connected_value : {n : ℕ} {t u : Term} (i : Interpretation) (c : Connective) → Formed n t BoolSort → Formed n u BoolSort →
    value i (rules.connected c t u) ≡ BoolElement (on_bools c (as_bool (value i t)) (as_bool (value i u)))
connected_value {t = t} {u = u} i And f g = and_value i f g
connected_value {t = t} {u = u} i Or f g = or_value i f g ∙ ap BoolElement (go (as_bool (value i t)) (as_bool (value i u)))
  where
    go : (a b : Bool) → cond a true b ≡ cond (not a) b true
    go true b = refl
    go false b = refl
connected_value {t = t} {u = u} i Implies f g = implies_value i f g

pub good_connected : (means : Meaning) {n : ℕ} {i : Interpretation} {t u : Term} (c : Connective) → Good means n i t BoolSort → Good means n i u BoolSort → Good means n i (rules.connected c t u) BoolSort
good_connected means And f g = good_and means f g
good_connected means Or f g = good_or means f g
good_connected means Implies f g = good_implies means f g
