-- What the types of src/ stand for, and what their functions return beside what is computed.
use Rattle.std.specs.Prelude.{◌≡◌, ℕ, map, length, replicate, Ok, Err}
use Rattle.std.specs.declared.result.Result.{Result}
use Rattle.vx_frac.specs.Fraction.{fraction}
use Rattle.vx_frac.specs.Fractions.{none}
use Rattle.vx_frac.specs.declared.Over.{Over as Over'}
use Rattle.vx_terms.specs.Sorts.{Sort, IntSort, RealSort}
use Rattle.cs_certificate.specs.Linear.{Relation, AtMostZero, BelowZero, IsZero}
use Rattle.cs_farkas.specs.Sums.{Over, Outcome, Done, Leaves, Misses, Sums, Reading, Literal, Sum, Difference, Multiple, Column}
use Rattle.cs_farkas.specs.Rows.{Bound, Part, Combination}
use Rattle.cs_farkas.specs.declared.calls.Break.{Break}
use Rattle.cs_farkas.specs.declared.calls.Break.TheVariants as breaks
use Rattle.cs_farkas.specs.declared.sums.Sums.{Sums as Sums'}
use Rattle.cs_farkas.specs.declared.reading.Reading.{Reading as Reading'}
use Rattle.cs_farkas.specs.declared.reading.Reading.TheVariants as readings'
use Rattle.cs_farkas.specs.declared.rows.Relation.{Relation as Relation'}
use Rattle.cs_farkas.specs.declared.rows.Relation.TheVariants as relations'
use Rattle.cs_farkas.specs.declared.rows.Numbers.{Numbers}
use Rattle.cs_farkas.specs.declared.rows.Numbers.TheVariants as numbers'
use Rattle.cs_farkas.specs.declared.rows.Bound.{Bound as Bound'}
use Rattle.cs_farkas.specs.declared.rows.Part.{Part as Part'}
use Rattle.cs_farkas.specs.declared.rows.Combination.{Combination as Combination'}

abbrev pub over : Over' → Over
over o = record { call = o.op; left = fraction o.a; right = fraction o.b }

abbrev pub sums : Sums' → Sums
sums s = record { constant = fraction s.constant; columns = map fraction s.columns.items }

abbrev pub reading : Reading' → Reading
reading (readings'.Literal a) = Literal (fraction a)
reading (readings'.Sum a b) = Sum a b
reading (readings'.Difference a b) = Difference a b
reading (readings'.Multiple z a) = Multiple (fraction z) a
reading readings'.Column = Column

abbrev pub relation : Relation' → Relation
relation relations'.AtMostZero = AtMostZero
relation relations'.BelowZero = BelowZero
relation relations'.IsZero = IsZero

abbrev pub sort_of : Numbers → Sort
sort_of numbers'.Int = IntSort
sort_of numbers'.Real = RealSort

abbrev pub bound : Bound' → Bound
bound b = record { left = b.left; right = b.right; relation = relation b.relation }

abbrev pub part : Part' → Part
part p = record { bound = bound p.bound; multiplier = fraction p.multiplier }

abbrev pub combination : Combination' → Combination
combination c = record { sort = sort_of c.numbers; parts = map part c.parts.items }

-- why a sum ends, beside what is computed
abbrev pub Breaks : {Y : Type 0} → Break → Outcome Y → Type 0
Breaks breaks.Miss computed = computed ≡ Misses
Breaks (breaks.Over o) computed = computed ≡ Leaves (over o)

-- what was returned, seen by view, is what is computed
abbrev pub Ends : {X Y : Type 0} → (X → Y) → Result X Break → Outcome Y → Type 0
Ends view (Ok x) computed = computed ≡ Done (view x)
Ends view (Err e) computed = Breaks e computed

abbrev pub width : Sums' → ℕ
width s = length s.columns.items

-- each column is 0
abbrev pub IsClear : Sums' → Type 0
IsClear s = map fraction s.columns.items ≡ replicate (width s) none
