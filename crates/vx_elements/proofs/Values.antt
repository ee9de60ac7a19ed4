-- Operators on values of all types, and the values and sorts of fields.
use Rattle.std.proofs.Common.{◌≡◌, ℕ, Bool, true, false, not, cond, ◌&&◌, ◌⊎◌, inl, inr, [], ◌∷◌, Option, Some, None, refl, sym, ◌∙◌, ap, subst, true≢false}
use Rattle.vx_frac.specs.Fractions.{Fraction, same_fraction, at_most, is_below, lowest}
use Rattle.vx_ast.specs.declared.ValueType.{ValueType}
use Rattle.vx_ast.specs.declared.ValueType.TheVariants.{Int, Perm}
use Rattle.vx_ast.specs.declared.ValueType.TheVariants as type
use Rattle.vx_ast.specs.Syntax.{Name, Program, field_named, Operator, Equal, Less, LessEqual, Greater, GreaterEqual, Add, Subtract, Multiply}
use Rattle.vx_ast.specs.Types.{same_type}
use Rattle.vx_meaning.specs.Values.{Value, IntValue, BoolValue, RefValue, PermValue, type_of, on_fractions}
use Rattle.vx_meaning.specs.States as run
use Rattle.vx_terms.specs.Sorts.{Sort, IntSort}
use Rattle.vx_terms.specs.Terms.{identical}
use Rattle.vx_terms.specs.Interpretations.{BoolElement, RealElement, Interpretation}
use Rattle.vx_terms.proofs.Same.{fraction_is}
use Rattle.vx_terms.proofs.Values.{fraction_same}
use Rattle.vx_rules.specs.States.{sort_of_type}
use Rattle.vx_rules.specs.Rules.{field_sort}
use Rattle.vx_types.specs.Typing.{TakesType}
use Rattle.vx_elements.proofs.Elements.{IsOperated, operated_small}
use Rattle.vx_amounts.proofs.Amounts.{Le, Same, le-trans, same-sym, same-trans, same_is, same-of, same-lowest', lowest_is, below_is, sum_same, difference_same}

pub ref_value_is : (v : Value) → type_of v ≡ type.Ref → (r : ℕ) × (v ≡ RefValue r)
ref_value_is (RefValue r) e = (r, refl)
ref_value_is (IntValue z) e = cc
ref_value_is (BoolValue b) e = cc
ref_value_is (PermValue a) e = cc

pub perm_value_is : (v : Value) → type_of v ≡ Perm → (a : Fraction) × (v ≡ PermValue a)
perm_value_is (PermValue a) e = (a, refl)
perm_value_is (IntValue z) e = cc
perm_value_is (BoolValue b) e = cc
perm_value_is (RefValue r) e = cc

same_bools : (a b : Bool) → (a ≡ true → b ≡ true) → (b ≡ true → a ≡ true) → a ≡ b
same_bools true b f g = sym (f refl)
same_bools false true f g = g refl
same_bools false false f g = refl

-- tests of fractions in lowest terms
identical_is : (a b : Fraction) → identical (lowest a) (lowest b) ≡ same_fraction a b
identical_is a b = same_bools _ _
    (λ e. same_is (same-trans (same-sym (same-lowest' a)) (subst (λ x. Same x b) (sym (fraction_is (lowest a) (lowest b) e)) (same-lowest' b))))
    (λ e. subst (λ x. identical (lowest a) x ≡ true) (lowest_is (same-of {a = a} {b = b} e)) (fraction_same (lowest a)))

at_most_is : (a b : Fraction) → at_most (lowest a) (lowest b) ≡ at_most a b
at_most_is a b = same_bools _ _ (λ e. go (same-lowest' a) (same-lowest' b) e) (λ e. go (same-sym (same-lowest' a)) (same-sym (same-lowest' b)) e)
  where
    go : {x y z w : Fraction} → Same x y → Same z w → at_most x z ≡ true → at_most y w ≡ true
    go {x = x} {y = y} {z = z} {w = w} s t e = let r : Le y w = le-trans s.back (le-trans {b = z} (record { holds = e }) t.there) in r.holds

is_below_is : (a b : Fraction) → is_below (lowest a) (lowest b) ≡ is_below a b
is_below_is a b = below_is (lowest a) (lowest b) ∙ ap not (at_most_is b a) ∙ sym (below_is a b)

on_two_perms : (i : Interpretation) (op : Operator) (a b : Fraction) → TakesType op Perm → IsOperated i op (PermValue a) (PermValue b) Perm
on_two_perms i Equal a b k = record { result = on_fractions Equal a b; is = refl; typed = refl; element_of = ap BoolElement (identical_is a b) }
on_two_perms i Less a b k = record { result = on_fractions Less a b; is = refl; typed = refl; element_of = ap BoolElement (is_below_is a b) }
on_two_perms i LessEqual a b k = record { result = on_fractions LessEqual a b; is = refl; typed = refl; element_of = ap BoolElement (at_most_is a b) }
on_two_perms i Greater a b k = record { result = on_fractions Greater a b; is = refl; typed = refl; element_of = ap BoolElement (is_below_is b a) }
on_two_perms i GreaterEqual a b k = record { result = on_fractions GreaterEqual a b; is = refl; typed = refl; element_of = ap BoolElement (at_most_is b a) }
on_two_perms i Add a b k = record { result = on_fractions Add a b; is = refl; typed = refl; element_of = ap RealElement (lowest_is (sum_same (same-lowest' a) (same-lowest' b))) }
on_two_perms i Subtract a b k = record { result = on_fractions Subtract a b; is = refl; typed = refl; element_of = ap RealElement (lowest_is (difference_same (same-lowest' a) (same-lowest' b))) }
on_two_perms i Multiply a b k = cc

not_numeric : {R : Type 0} → (type.Ref ≡ Int) ⊎ (type.Ref ≡ Perm) → R
not_numeric (inl e) = cc
not_numeric (inr e) = cc

on_two_refs : (i : Interpretation) (op : Operator) (a b : ℕ) → TakesType op type.Ref → IsOperated i op (RefValue a) (RefValue b) type.Ref
on_two_refs i Equal a b k = record { result = _; is = refl; typed = refl; element_of = refl }
on_two_refs i Less a b k = not_numeric k
on_two_refs i LessEqual a b k = not_numeric k
on_two_refs i Greater a b k = not_numeric k
on_two_refs i GreaterEqual a b k = not_numeric k
on_two_refs i Add a b k = not_numeric k
on_two_refs i Subtract a b k = not_numeric k
on_two_refs i Multiply a b k = cc

pub operated_is : (i : Interpretation) (op : Operator) (v w : Value) (t : ValueType) → TakesType op t → type_of v ≡ t → type_of w ≡ t → IsOperated i op v w t
operated_is i op v w Int k e f = operated_small i op v w Int tt k e f
operated_is i op v w type.Bool k e f = operated_small i op v w type.Bool tt k e f
operated_is i op v w type.Ref k e f =
    let a = ref_value_is v e in
    let b = ref_value_is w f in
    subst (λ x. IsOperated i op x w type.Ref) (sym a.1) (subst (λ y. IsOperated i op (RefValue a.0) y type.Ref) (sym b.1) (on_two_refs i op a.0 b.0 k))
operated_is i op v w Perm k e f =
    let a = perm_value_is v e in
    let b = perm_value_is w f in
    subst (λ x. IsOperated i op x w Perm) (sym a.1) (subst (λ y. IsOperated i op (PermValue a.0) y Perm) (sym b.1) (on_two_perms i op a.0 b.0 k))

-- Fields

type_is : (a b : ValueType) → same_type a b ≡ true → a ≡ b
type_is Int Int e = refl
type_is type.Bool type.Bool e = refl
type_is type.Ref type.Ref e = refl
type_is Perm Perm e = refl
type_is a b e = absurd (true≢false (sym e))

pub found_type : (t : ValueType) (h : run.Heap) (l : run.Location) → type_of (run.find_value t h l) ≡ t
found_type Int [] l = refl
found_type type.Bool [] l = refl
found_type type.Ref [] l = refl
found_type Perm [] l = refl
found_type t (e ∷ rest) l = go (run.same_location l e.0) (same_type (type_of e.1) t) refl (found_type t rest l)
  where
    go : (a b : Bool) → same_type (type_of e.1) t ≡ b → type_of (run.find_value t rest l) ≡ t → type_of (cond (a && b) e.1 (run.find_value t rest l)) ≡ t
    go true true k r = type_is (type_of e.1) t k
    go true false k r = r
    go false b k r = r

-- a value at a location has the type of its field
pub value_typed : (p : Program) (h : run.Heap) (l : run.Location) → type_of (run.value_at p h l) ≡ run.field_type p l.field
value_typed p h l = found_type (run.field_type p l.field) h l

pub sort_of_field : (p : Program) (f : Name) → field_sort p f ≡ sort_of_type (run.field_type p f)
sort_of_field p f = go (field_named p f)
  where
    go : (o : Option ValueType) → elim o as (λ o. Sort) [ Some t ↦ sort_of_type t | None ↦ IntSort ] ≡ sort_of_type (run.type_or_int o)
    go None = refl
    go (Some t) = refl

pub field_type_is : (p : Program) (f : Name) {t : ValueType} → field_named p f ≡ Some t → run.field_type p f ≡ t
field_type_is p f e = ap run.type_or_int e
