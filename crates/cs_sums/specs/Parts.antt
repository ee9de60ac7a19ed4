-- The terms that make a column, with their factors.
use Rattle.std.specs.Prelude.{◌≡◌, ℕ, ℤ, pos, List, [], ◌∷◌, map, Option, Some, None, slice_get}
use Rattle.vx_frac.specs.Fraction.{fraction}
use Rattle.cs_linear.specs.declared.rows.Entry.{Entry}
use Rattle.cs_sums.specs.declared.columns.Column.{Column}
use Rattle.cs_sums.specs.declared.columns.Origin.{Origin}
use Rattle.cs_sums.specs.declared.columns.Origin.TheVariants.{Term, Sum}
use Rattle.cs_sums.specs.declared.columns.Named.{Named}

-- the term that the column of an entry stands for, with the numerator of the factor
abbrev pub part_of_origin : Origin → Entry → Option (ℕ × ℤ)
part_of_origin (Term term) e = Some (term, (fraction e.factor).numerator)
part_of_origin (Sum place) e = None

-- none where there is no such column
abbrev pub part_of : Option Column → Entry → Option (ℕ × ℤ)
part_of (Some column) e = part_of_origin column.origin e
part_of None e = None

-- the columns of the entries are those of terms, and these are the parts
abbrev pub AreParts : List Column → List Entry → List (ℕ × ℤ) → Type 0
AreParts columns entries parts = map (λ e. part_of (slice_get columns e.column) e) entries ≡ map Some parts

-- the column is that of a term, which is the only part
pub record IsAlone (columns : List Column) (at : ℕ) (parts : List (ℕ × ℤ)) : Type 0 where
  pub column : Column
  pub found : slice_get columns at ≡ Some column
  pub term : ℕ
  pub origin : column.origin ≡ Term term
  pub only : parts ≡ (term, pos 1) ∷ []

-- the column is that of a sum of the parts
pub record IsSumOf (columns : List Column) (sums : List Named) (at : ℕ) (parts : List (ℕ × ℤ)) : Type 0 where
  pub place : ℕ
  pub named : Named
  pub found : slice_get sums place ≡ Some named
  pub column : named.column ≡ at
  pub terms : AreParts columns named.entries.items parts
