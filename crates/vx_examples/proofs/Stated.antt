-- Stores that differ, references that are not new, and groups of functions.
use Rattle.std.proofs.Common.{◌≡◌, ℕ, zero, suc, pos, true, false, IsTrue, [], ◌∷◌, refl, sym, subst, inl, inr, ◌⊎◌, arith, Some, Option}
use Rattle.std.specs.Prelude.{Contains}
use Rattle.vx_ast.specs.declared.ValueType.TheVariants.{Int}
use Rattle.vx_ast.specs.declared.ValueType.TheVariants as type
use Rattle.vx_ast.specs.Syntax.{Name, Function}
use Rattle.vx_ast.specs.Mentions.{mentioned_by_function}
use Rattle.vx_meaning.specs.Values.{IntValue, BoolValue, RefValue}
use Rattle.vx_meaning.specs.States.{HaveTypes}
use Rattle.vx_meaning.specs.Run.{IsFresh, DiffersAt}
use Rattle.vx_meaning.specs.Group.{Mentions, ReachesBy, Reaches, InGroup}
use Rattle.vx_examples.specs.Cells.{x, y, cells, cells_read}
use Rattle.vx_examples.specs.Scenes.{with_y, owner}
use Rattle.vx_examples.specs.Applications.{applications, even, odd, double, get, applications_even, applications_odd, applications_double, applications_get}

int_no_ref : Int ≡ type.Ref → ⊥
int_no_ref e = cc

int_no_bool : Int ≡ type.Bool → ⊥
int_no_bool e = cc

three_no_four : IntValue (pos 3) ≡ IntValue (pos 4) → ⊥
three_no_four e = cc

not_true : IsTrue false → ⊥
not_true h = cc

pub variables_by_name_of_other_type : HaveTypes cells_read.parameters (IntValue (pos 7) ∷ []) → ⊥
variables_by_name_of_other_type h = int_no_ref h.0

pub variables_by_name_too_many : HaveTypes cells_read.parameters (RefValue 7 ∷ RefValue 8 ∷ []) → ⊥
variables_by_name_too_many h = h.1

pub variables_by_name_differs : DiffersAt (y ∷ []) (with_y (pos 3)) (with_y (pos 4))
variables_by_name_differs = (refl, refl, inr refl, (refl, refl, inl refl, tt))

neither : IsTrue false ⊎ (IntValue (pos 3) ≡ IntValue (pos 4)) → ⊥
neither (inl h) = not_true h
neither (inr e) = three_no_four e

pub variables_by_name_differs_elsewhere : DiffersAt (x ∷ []) (with_y (pos 3)) (with_y (pos 4)) → ⊥
variables_by_name_differs_elsewhere d = neither d.3.2

pub variables_by_name_differs_in_type : DiffersAt (y ∷ []) (with_y (pos 3)) ((x, RefValue 1) ∷ (y, BoolValue true) ∷ []) → ⊥
variables_by_name_differs_in_type d = int_no_bool d.3.1

pub variables_by_name_differs_in_number : DiffersAt (y ∷ []) (with_y (pos 3)) ((x, RefValue 1) ∷ []) → ⊥
variables_by_name_differs_in_number d = d.3

pub heaps_and_holdings_not_fresh : IsFresh cells owner 1 → ⊥
heaps_and_holdings_not_fresh r = r.not_stored x refl

pub heaps_and_holdings_null_not_fresh : IsFresh cells owner 0 → ⊥
heaps_and_holdings_null_not_fresh r = r.not_null refl

-- Groups

pub function_groups_mutual : InGroup applications even odd
function_groups_mutual = ((1, inl (applications_even, refl, (0, omega arith, refl))), (1, inl (applications_odd, refl, (0, omega arith, refl))))

pub function_groups_reaches : Reaches applications double get
function_groups_reaches = (1, inl (applications_double, refl, (0, omega arith, refl)))

some_is : (a b : Function) → (let o : Option Function = Some a in o) ≡ Some b → a ≡ b
some_is a b e = cc

none_in : {A : Type 0} (a : A) → Contains [] a → ⊥
none_in a (k, less, e) = absurd (omega arith)

get_mentions_none : (g : Name) → Mentions applications get g → ⊥
get_mentions_none g (d, named, has) = none_in g (subst (λ z. Contains (mentioned_by_function z) g) (sym (some_is applications_get d named)) has)

get_reaches_none : (n : ℕ) (g : Name) → ReachesBy applications n get g → ⊥
get_reaches_none zero g r = r
get_reaches_none (suc n) g (inl m) = get_mentions_none g m
get_reaches_none (suc n) g (inr (between, m, r)) = get_mentions_none between m

pub function_groups_not_back : Reaches applications get double → ⊥
function_groups_not_back r = get_reaches_none r.0 double r.1

only_get : (g : Name) → Contains (get ∷ get ∷ []) g → g ≡ get
only_get g (zero, less, e) = sym e
only_get g (suc zero, less, e) = sym e
only_get g (suc (suc k), less, e) = absurd (omega arith)

double_mentions_get : (g : Name) → Mentions applications double g → g ≡ get
double_mentions_get g (d, named, has) = only_get g (subst (λ z. Contains (mentioned_by_function z) g) (sym (some_is applications_double d named)) has)

get_is_not_double : double ≡ get → ⊥
get_is_not_double e = cc

double_not_itself : (n : ℕ) → ReachesBy applications n double double → ⊥
double_not_itself zero r = r
double_not_itself (suc n) (inl m) = get_is_not_double (double_mentions_get double m)
double_not_itself (suc n) (inr (between, m, r)) = get_reaches_none n double (subst (λ z. ReachesBy applications n z double) (double_mentions_get between m) r)

pub function_groups_not_itself : InGroup applications double double → ⊥
function_groups_not_itself g = double_not_itself g.0.0 g.0.1
