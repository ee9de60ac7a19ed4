-- The parts of a column by itself.
use Rattle.std.proofs.Common.{◌≡◌, ℕ, ℤ, pos, List, [], ◌∷◌, map, Option, Some, None, slice_get, refl, sym, ◌∙◌, ap}
use Rattle.vx_frac.specs.Fraction.{fraction}
use Rattle.vx_frac.specs.Fractions.{whole}
use Rattle.cs_linear.specs.declared.rows.Entry.{Entry}
use Rattle.cs_sums.specs.declared.columns.Column.{Column}
use Rattle.cs_sums.specs.declared.columns.Origin.{Origin}
use Rattle.cs_sums.specs.declared.columns.Origin.TheVariants.{Term, Sum}
use Rattle.cs_sums.specs.Parts.{part_of, part_of_origin, AreParts, IsAlone}

by_origin : (columns : List Column) (e : Entry) (column : Column) (o : Origin) (parts : List (ℕ × ℤ)) → slice_get columns e.column ≡ Some column → column.origin ≡ o →
    fraction e.factor ≡ whole (pos 1) → part_of_origin o e ∷ [] ≡ map Some parts → IsAlone columns e.column parts
by_origin columns e column (Term term) (p ∷ []) found is one same = record {
  column = column;
  found = found;
  term = term;
  origin = is;
  only = ap (λ q. q ∷ []) (let own : (term, (fraction e.factor).numerator) ≡ p = search same in sym own ∙ ap (λ f. (term, f.numerator)) one);
}
by_origin columns e column (Term term) [] found is one same = absurd (cc)
by_origin columns e column (Term term) (p ∷ q ∷ rest) found is one same = absurd (cc)
by_origin columns e column (Sum place) [] found is one same = absurd (cc)
by_origin columns e column (Sum place) (p ∷ rest) found is one same = absurd (cc)

by_column : (columns : List Column) (e : Entry) (o : Option Column) (parts : List (ℕ × ℤ)) → slice_get columns e.column ≡ o → fraction e.factor ≡ whole (pos 1) →
    part_of o e ∷ [] ≡ map Some parts → IsAlone columns e.column parts
by_column columns e (Some column) parts found one same = by_origin columns e column column.origin parts found refl one same
by_column columns e None [] found one same = absurd (cc)
by_column columns e None (p ∷ rest) found one same = absurd (cc)

pub alone : (columns : List Column) (e : Entry) (parts : List (ℕ × ℤ)) → fraction e.factor ≡ whole (pos 1) → AreParts columns (e ∷ []) parts → IsAlone columns e.column parts
alone columns e parts one same = by_column columns e (slice_get columns e.column) parts refl one same
