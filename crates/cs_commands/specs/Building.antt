-- The term that a word and its parts make, where it is well-sorted.
use Rattle.std.specs.Prelude.{Bool, true, false, not, ◌&&◌, ◌||◌, List, [], ◌∷◌, Ok, Err}
use Rattle.std.specs.List.{list_all}
use Rattle.std.specs.declared.result.Result.{Result}
use Rattle.vx_frac.specs.Fractions.{Fraction}
use Rattle.vx_sexp.specs.Tokens.{is_empty}
use Rattle.vx_terms.specs.Sorts.{Sort, IntSort, BoolSort, RealSort, Operator, And, Or, Implies, Equal, Less, LessEqual, Add, Subtract, Multiply, Div, Mod, same_sort}
use Rattle.vx_terms.specs.Terms.{Term, Part, Constant, Apply, Not, Binary, Ite, AllOf, SomeOf, sort_of}
use Rattle.vx_smt_meaning.specs.Commands.{Declared}
use Rattle.cs_reader.specs.Spelling.{negative, inverse, multiplied, listed}
use Rattle.cs_commands.specs.declared.fault.CommandFault.{CommandFault}
use Rattle.cs_commands.specs.declared.fault.CommandFault.TheVariants as faults
use Rattle.cs_commands.specs.Outcomes.{◌>>=◌, or_fault, where_so}
use Rattle.cs_commands.specs.Heads.{Head, NotHead, IteHead, MinusHead, SlashHead, OperatorHead, SymbolHead}

-- ---- sorts

abbrev pub is_bool : Term → Bool
is_bool t = same_sort (sort_of t) BoolSort

abbrev pub is_number_sort : Sort → Bool
is_number_sort a = same_sort a IntSort || same_sort a RealSort

-- whether an operator takes operands of this sort
abbrev pub takes : Operator → Sort → Bool
takes And a = same_sort a BoolSort
takes Or a = same_sort a BoolSort
takes Implies a = same_sort a BoolSort
takes Equal a = true
takes Less a = is_number_sort a
takes LessEqual a = is_number_sort a
takes Add a = is_number_sort a
takes Subtract a = is_number_sort a
takes Multiply a = is_number_sort a
takes Div a = same_sort a IntSort
takes Mod a = same_sort a IntSort

abbrev pub have_sorts : List Term → List Sort → Bool
have_sorts [] [] = true
have_sorts (t ∷ ts) (a ∷ as') = same_sort (sort_of t) a && have_sorts ts as'
have_sorts [] (a ∷ as') = false
have_sorts (t ∷ ts) [] = false

abbrev pub if_sorted : Bool → Term → Result Term CommandFault
if_sorted = where_so faults.Sort

-- ---- terms

abbrev pub negation : List Term → Result Term CommandFault
negation (t ∷ []) = if_sorted (is_bool t) (Not t)
negation ts = Err faults.Sort

abbrev pub choice : List Term → Result Term CommandFault
choice (c ∷ t ∷ u ∷ []) = if_sorted (is_bool c && same_sort (sort_of u) (sort_of t)) (Ite c t u)
choice ts = Err faults.Sort

abbrev pub operation_of_two : Operator → Term → Term → Result Term CommandFault
operation_of_two o t u = if_sorted (takes o (sort_of t) && same_sort (sort_of u) (sort_of t)) (Binary o t u)

-- `and` and `or` alone have three parts or more
abbrev pub operation_of_many : Operator → List Term → Result Term CommandFault
operation_of_many And ts = if_sorted (list_all is_bool ts) (AllOf (listed ts))
operation_of_many Or ts = if_sorted (list_all is_bool ts) (SomeOf (listed ts))
operation_of_many o ts = Err faults.Sort

abbrev pub operation : Operator → List Term → Result Term CommandFault
operation o [] = Err faults.Sort
operation o (t ∷ []) = Err faults.Sort
operation o (t ∷ u ∷ []) = operation_of_two o t u
operation o (t ∷ u ∷ v ∷ ts) = operation_of_many o (t ∷ u ∷ v ∷ ts)

-- of one part the number below 0
abbrev pub difference : List Term → Result Term CommandFault
difference [] = Err faults.Sort
difference (t ∷ []) = or_fault faults.Sort (negative t)
difference (t ∷ u ∷ []) = operation_of_two Subtract t u
difference (t ∷ u ∷ v ∷ ts) = Err faults.Sort

abbrev pub quotient_of : Fraction → Fraction → Result Term CommandFault
quotient_of a b =
    or_fault faults.Sort (inverse b) >>= λ i.
    or_fault faults.Wide (multiplied a i) >>= λ q.
    Ok (Part q)

-- the second is above 0
abbrev pub quotient_of_two : Term → Term → Result Term CommandFault
quotient_of_two (Part a) (Part b) = quotient_of a b
quotient_of_two t u = Err faults.Sort

-- of two parts, each of them a decimal
abbrev pub quotient : Bool → List Term → Result Term CommandFault
quotient true (t ∷ u ∷ []) = quotient_of_two t u
quotient decimals ts = Err faults.Sort

-- a symbol without arguments stands alone
abbrev pub application : Declared → List Term → Result Term CommandFault
application d ts = if_sorted (not (is_empty ts) && have_sorts ts d.takes) (Apply d.symbol d.gives (listed ts))

abbrev pub constant : Declared → Result Term CommandFault
constant d = if_sorted (is_empty d.takes) (Constant d.symbol d.gives)

-- of a head and its parts; whether each part is a decimal matters to a quotient alone
abbrev pub built : Head → Bool → List Term → Result Term CommandFault
built NotHead decimals ts = negation ts
built IteHead decimals ts = choice ts
built MinusHead decimals ts = difference ts
built SlashHead decimals ts = quotient decimals ts
built (OperatorHead o) decimals ts = operation o ts
built (SymbolHead d) decimals ts = application d ts
