-- Interpretations in which the symbols of the preamble mean the parts of trees, and one to begin with.
use Rattle.std.proofs.Common.{◌≡◌, ℕ, ◌+◌, Bool, true, false, cond, ◌||◌, nat_eq, ℤ, pos, List, [], ◌∷◌, Option, Some, None, refl, sym, ◌∙◌, ap, ap₂, subst, true≢false}
use Rattle.std.specs.Prelude.{if◌then◌else◌}
use Rattle.vx_frac.specs.Fractions.{Fraction, none}
use Rattle.vx_ast.specs.declared.ValueType.{ValueType}
use Rattle.vx_ast.specs.declared.ValueType.TheVariants.{Int, Perm}
use Rattle.vx_ast.specs.declared.ValueType.TheVariants as type
use Rattle.vx_meaning.specs.Values.{Value, IntValue, BoolValue, RefValue, PermValue}
use Rattle.vx_terms.specs.Formed.{constant, applies, binary, no_terms, more_terms}
use Rattle.vx_terms.proofs.Values.{element_same}
use Rattle.vx_terms.specs.Sorts as sort
use Rattle.vx_terms.specs.Sorts.{Sort, BoolSort, SnapSort, Symbol, Standard, Function, Variable, Named}
use Rattle.vx_terms.specs.Terms as term
use Rattle.vx_terms.specs.Terms.{Term, Truth, Number, Part, Constant, Ite, same, sort_of, is_name}
use Rattle.vx_terms.specs.Build.{truth_of, null, unit, pair, wrap, wrap_number, written_first, written_second, written_unwrap, first, second, unwrap, ite, ite_by, variable}
use Rattle.vx_terms.specs.Interpretations.{Element, IntElement, BoolElement, RealElement, TreeElement, Interpretation, Tree, Empty, IntLeaf, BoolLeaf, RefLeaf, PermLeaf, Pair, IsOf, as_sort, as_tree, same_element, value, IsTrueIn}
use Rattle.vx_rules.specs.States.{State, sort_of_type, is_quiet, fresh, name_of}
use Rattle.vx_elements.proofs.Settled.{Meaning, Extends, as_sort_same}
use Rattle.vx_elements.proofs.Built.{Good}
use Rattle.vx_elements.proofs.Elements.{element}
use Rattle.vx_sound.specs.Snapshots.{leaf}

-- an element as a tree: what a wrap makes of it
abbrev pub leaf_of : Element → Tree
leaf_of (IntElement z) = IntLeaf z
leaf_of (BoolElement b) = BoolLeaf b
leaf_of (RealElement a) = PermLeaf a
leaf_of (TreeElement t) = t

pub leaf_is : (v : Value) → leaf_of (element v) ≡ leaf v
leaf_is (IntValue z) = refl
leaf_is (BoolValue b) = refl
leaf_is (RefValue r) = refl
leaf_is (PermValue a) = refl

abbrev pub wrap_of : ValueType → ℕ
wrap_of t = wrap_number (sort_of_type t)

pub record IsStandard (i : Interpretation) : Type 0 where
  pub units : i.functions (Standard 1) SnapSort [] ≡ TreeElement Empty
  pub pairs : (t u : Tree) → i.functions (Standard 2) SnapSort (TreeElement t ∷ TreeElement u ∷ []) ≡ TreeElement (Pair t u)
  pub firsts : (t u : Tree) → i.functions (Standard 3) SnapSort (TreeElement (Pair t u) ∷ []) ≡ TreeElement t
  pub seconds : (t u : Tree) → i.functions (Standard 4) SnapSort (TreeElement (Pair t u) ∷ []) ≡ TreeElement u
  pub wraps : (t : ValueType) (e : Element) → IsOf (sort_of_type t) e → i.functions (Standard (5 + wrap_of t)) SnapSort (e ∷ []) ≡ TreeElement (leaf_of e)
  pub unwraps : (t : ValueType) (e : Element) → IsOf (sort_of_type t) e → i.functions (Standard (9 + wrap_of t)) (sort_of_type t) (TreeElement (leaf_of e) ∷ []) ≡ e

pub standard_later : (means : Meaning) {n : ℕ} {i j : Interpretation} → Extends means n i j → IsStandard i → IsStandard j
standard_later means x st = record {
  units = x.functions (Standard 1) SnapSort [] tt ∙ st.units;
  pairs = λ t u. x.functions (Standard 2) SnapSort (TreeElement t ∷ TreeElement u ∷ []) tt ∙ st.pairs t u;
  firsts = λ t u. x.functions (Standard 3) SnapSort (TreeElement (Pair t u) ∷ []) tt ∙ st.firsts t u;
  seconds = λ t u. x.functions (Standard 4) SnapSort (TreeElement (Pair t u) ∷ []) tt ∙ st.seconds t u;
  wraps = λ t e h. x.functions (Standard (5 + wrap_of t)) SnapSort (e ∷ []) tt ∙ st.wraps t e h;
  unwraps = λ t e h. x.functions (Standard (9 + wrap_of t)) (sort_of_type t) (TreeElement (leaf_of e) ∷ []) tt ∙ st.unwraps t e h;
}

module _ (i : Interpretation) (st : IsStandard i) where
  pub unit_value : value i unit ≡ TreeElement Empty
  unit_value = ap (as_sort SnapSort) st.units

  pub pair_value : (t u : Term) (a b : Tree) → value i t ≡ TreeElement a → value i u ≡ TreeElement b → value i (pair t u) ≡ TreeElement (Pair a b)
  pair_value t u a b e f = ap₂ (λ (x y : Element). as_sort SnapSort (i.functions (Standard 2) SnapSort (x ∷ y ∷ []))) e f ∙ ap (as_sort SnapSort) (st.pairs a b)

  pub first_value : (t : Term) (a b : Tree) → value i t ≡ TreeElement (Pair a b) → value i (written_first t) ≡ TreeElement a
  first_value t a b e = ap (λ (x : Element). as_sort SnapSort (i.functions (Standard 3) SnapSort (x ∷ []))) e ∙ ap (as_sort SnapSort) (st.firsts a b)

  pub second_value : (t : Term) (a b : Tree) → value i t ≡ TreeElement (Pair a b) → value i (written_second t) ≡ TreeElement b
  second_value t a b e = ap (λ (x : Element). as_sort SnapSort (i.functions (Standard 4) SnapSort (x ∷ []))) e ∙ ap (as_sort SnapSort) (st.seconds a b)

  pub wrap_value : (t : ValueType) (u : Term) → IsOf (sort_of_type t) (value i u) → value i (wrap (sort_of_type t) u) ≡ TreeElement (leaf_of (value i u))
  wrap_value t u h = ap (as_sort SnapSort) (st.wraps t (value i u) h)

  pub unwrap_value : (t : ValueType) (u : Term) (e : Element) → IsOf (sort_of_type t) e → value i u ≡ TreeElement (leaf_of e) → value i (written_unwrap (sort_of_type t) u) ≡ e
  unwrap_value t u e h f =
      ap (λ (x : Element). as_sort (sort_of_type t) (i.functions (Standard (9 + wrap_of t)) (sort_of_type t) (x ∷ []))) f
      ∙ ap (as_sort (sort_of_type t)) (st.unwraps t e h) ∙ as_sort_same (sort_of_type t) e h

  -- what a consume says of what it builds
  pub wrapped_back : (t : ValueType) (u : Term) → IsOf (sort_of_type t) (value i u) → value i (written_unwrap (sort_of_type t) (wrap (sort_of_type t) u)) ≡ value i u
  wrapped_back t u h = unwrap_value t (wrap (sort_of_type t) u) (value i u) h (wrap_value t u h)

-- Terms that aren't built of parts: what is said of their parts is written out.

pub record IsWritten (t : Term) : Type 0 where
  pub first_is : first t ≡ written_first t
  pub second_is : second t ≡ written_second t
  pub unwrap_is : (a : ValueType) → unwrap (sort_of_type a) t ≡ written_unwrap (sort_of_type a) t

pub first_written : (t : Term) → IsWritten (written_first t)
first_written t = record { first_is = refl; second_is = refl; unwrap_is = go }
  where
    go : (a : ValueType) → unwrap (sort_of_type a) (written_first t) ≡ written_unwrap (sort_of_type a) (written_first t)
    go Int = refl
    go type.Bool = refl
    go type.Ref = refl
    go Perm = refl

pub second_written : (t : Term) → IsWritten (written_second t)
second_written t = record { first_is = refl; second_is = refl; unwrap_is = go }
  where
    go : (a : ValueType) → unwrap (sort_of_type a) (written_second t) ≡ written_unwrap (sort_of_type a) (written_second t)
    go Int = refl
    go type.Bool = refl
    go type.Ref = refl
    go Perm = refl

pub variable_written : (n : ℕ) (a : Sort) → IsWritten (variable n a)
variable_written n a = record { first_is = refl; second_is = refl; unwrap_is = λ a. refl }

pub ite_written : (c s t : Term) → IsWritten s → IsWritten t → IsWritten (ite c s t)
ite_written c s t f g = go (truth_of c)
  where
    either : (b : Bool) → IsWritten (cond b s t)
    either true = f
    either false = g

    unless : (b : Bool) → IsWritten (cond b s (Ite c s t))
    unless true = f
    unless false = record { first_is = refl; second_is = refl; unwrap_is = λ a. refl }

    go : (o : Option Bool) → IsWritten (ite_by o c s t)
    go (Some b) = either b
    go None = unless (same s t)

-- a name for a value is a symbol or a literal
pub name_written : (t : Term) (s : State) → is_quiet s ≡ false → IsWritten (name_of t s)
name_written t s awake = go (is_name t) refl (is_quiet s) awake
  where
    named : (t : Term) → is_name t ≡ true → IsWritten t
    named (Truth b) e = record { first_is = refl; second_is = refl; unwrap_is = λ a. refl }
    named (Number n) e = record { first_is = refl; second_is = refl; unwrap_is = λ a. refl }
    named (Part q) e = record { first_is = refl; second_is = refl; unwrap_is = λ a. refl }
    named (Constant f a) e = record { first_is = refl; second_is = refl; unwrap_is = λ a. refl }
    named (term.Apply f a ts) e = absurd (true≢false (sym e))
    named (term.Not t) e = absurd (true≢false (sym e))
    named (term.Binary o t u) e = absurd (true≢false (sym e))
    named (Ite c t u) e = absurd (true≢false (sym e))
    named (term.AllOf ts) e = absurd (true≢false (sym e))
    named (term.SomeOf ts) e = absurd (true≢false (sym e))

    go : (b : Bool) → is_name t ≡ b → (q : Bool) → q ≡ false → IsWritten (cond (b || q) t (fresh (sort_of t) s))
    go true e q h = named t e
    go false e true h = absurd (true≢false h)
    go false e false h = variable_written s.next (sort_of t)

-- An interpretation to begin with.

abbrev int_leaf : Tree → ℤ
int_leaf (IntLeaf z) = z
int_leaf _ = pos 0

abbrev bool_leaf : Tree → Bool
bool_leaf (BoolLeaf b) = b
bool_leaf _ = false

abbrev amount_leaf : Tree → Fraction
amount_leaf (PermLeaf a) = a
amount_leaf _ = none

abbrev left_of : Tree → Tree
left_of (Pair t u) = t
left_of _ = Empty

abbrev right_of : Tree → Tree
right_of (Pair t u) = u
right_of _ = Empty

abbrev first_of : List Element → Element
first_of [] = TreeElement Empty
first_of (e ∷ es) = e

abbrev second_of : List Element → Element
second_of [] = TreeElement Empty
second_of (e ∷ es) = first_of es

-- null, then unit, pair, first, second, and a wrap for each type
abbrev parts : ℕ → List Element → Element
parts n es =
    if nat_eq n 0 then TreeElement (RefLeaf 0) else
    if nat_eq n 1 then TreeElement Empty else
    if nat_eq n 2 then TreeElement (Pair (as_tree (first_of es)) (as_tree (second_of es))) else
    if nat_eq n 3 then TreeElement (left_of (as_tree (first_of es))) else
    if nat_eq n 4 then TreeElement (right_of (as_tree (first_of es))) else
    if nat_eq n 9 then IntElement (int_leaf (as_tree (first_of es))) else
    if nat_eq n 10 then BoolElement (bool_leaf (as_tree (first_of es))) else
    if nat_eq n 11 then RealElement (amount_leaf (as_tree (first_of es))) else
    if nat_eq n 12 then first_of es else
    TreeElement (leaf_of (first_of es))

abbrev entry : Symbol → List Element → Element
entry (Standard n) es = parts n es
entry (Function n) es = TreeElement Empty
entry (Variable n) es = TreeElement Empty
entry (Named x) es = TreeElement Empty

unfoldable pub start : Interpretation
start = record { functions = λ f a es. entry f es; quotients = λ z. pos 0; remainders = λ z. pos 0 }

pub start_standard : IsStandard start
unfolding start
start_standard = record { units = refl; pairs = λ t u. refl; firsts = λ t u. refl; seconds = λ t u. refl; wraps = wraps; unwraps = unwraps }
  where
    wraps : (t : ValueType) (e : Element) → IsOf (sort_of_type t) e → start.functions (Standard (5 + wrap_of t)) SnapSort (e ∷ []) ≡ TreeElement (leaf_of e)
    wraps Int e h = refl
    wraps type.Bool e h = refl
    wraps type.Ref e h = refl
    wraps Perm e h = refl

    unwraps : (t : ValueType) (e : Element) → IsOf (sort_of_type t) e → start.functions (Standard (9 + wrap_of t)) (sort_of_type t) (TreeElement (leaf_of e) ∷ []) ≡ e
    unwraps Int (IntElement z) h = refl
    unwraps type.Bool (BoolElement b) h = refl
    unwraps type.Ref (TreeElement t) h = refl
    unwraps Perm (RealElement a) h = refl
    unwraps t e h = absurd h

pub start_null : value start null ≡ element (RefValue 0)
unfolding start
start_null = refl

-- Terms of snapshots are well-sorted and settled.
module _ (means : Meaning) {n : ℕ} {i : Interpretation} where
  pub good_unit : Good means n i unit SnapSort
  good_unit = record { formed = constant (Standard 1) SnapSort tt; settled = tt }

  pub good_pair : {t u : Term} → Good means n i t SnapSort → Good means n i u SnapSort → Good means n i (pair t u) SnapSort
  good_pair g h = record { formed = applies (Standard 2) SnapSort tt (more_terms SnapSort g.formed (more_terms SnapSort h.formed no_terms)); settled = ((g.settled, (h.settled, tt)), tt) }

  pub good_first : {t : Term} → Good means n i t SnapSort → Good means n i (written_first t) SnapSort
  good_first g = record { formed = applies (Standard 3) SnapSort tt (more_terms SnapSort g.formed no_terms); settled = ((g.settled, tt), tt) }

  pub good_second : {t : Term} → Good means n i t SnapSort → Good means n i (written_second t) SnapSort
  good_second g = record { formed = applies (Standard 4) SnapSort tt (more_terms SnapSort g.formed no_terms); settled = ((g.settled, tt), tt) }

  pub good_wrap : {t : Term} {a : Sort} → Good means n i t a → Good means n i (wrap a t) SnapSort
  good_wrap {a = a} g = record { formed = applies (Standard (5 + wrap_number a)) SnapSort tt (more_terms a g.formed no_terms); settled = ((g.settled, tt), tt) }

  pub good_unwrap : {t : Term} (a : Sort) → Good means n i t SnapSort → Good means n i (written_unwrap a t) a
  good_unwrap a g = record { formed = applies (Standard (9 + wrap_number a)) a tt (more_terms SnapSort g.formed no_terms); settled = ((g.settled, tt), tt) }

  -- an equation that is written as it is
  pub written_equal : {t u : Term} {a : Sort} → Good means n i t a → Good means n i u a → value i t ≡ value i u → Good means n i (term.Binary sort.Equal t u) BoolSort × IsTrueIn i (term.Binary sort.Equal t u)
  written_equal {t = t} {u = u} g h e = (
    record { formed = binary tt g.formed h.formed; settled = (g.settled, λ k. h.settled) },
    subst (λ x. same_element (value i t) x ≡ true) e (element_same (value i t)),
  )
