-- A column that moves by what its value lacks comes to the limit; and what the units of a check are spent on.
use Rattle.std.proofs.Common.{◌≡◌, ℕ, ◌+◌, Vec, Global, subst, true, nat_eq, List, Option, Some, None, Ok, Err, OnOk, length, slice_get, refl, ◌∙◌, ap, ap₂, arith}
use Rattle.std.specs.declared.result.Result.{Result}
use Rattle.std.proofs.lemmas.Bool.{eq-eqb}
use Rattle.vx_frac.specs.Fractions.{Fraction, full, minus, lowest}
use Rattle.vx_frac.specs.Fraction.{fraction}
use Rattle.vx_frac.specs.declared.Frac.{Frac}
use Rattle.vx_frac.proofs.Reduced.{lowest_fraction}
use Rattle.cs_linear.specs.Numbers.{plus, times}
use Rattle.cs_linear.specs.Amounts.{Amount, pair, amount}
use Rattle.cs_linear.specs.Rows.{Assignment, Homes, IsFree, factor_at}
use Rattle.cs_linear.specs.Values.{values, AreMoved, entries_of}
use Rattle.cs_linear.specs.Contradictions.{amount_at}
use Rattle.cs_linear.specs.Results.{IsUndecided}
use Rattle.cs_linear.specs.Turns.{IsAtLimit, Standing, standing, Mends, none, IsMended, IsEnded, IsStopped, Pays, HasPaid}
use Rattle.cs_linear.specs.Views.{bounds_of}
use Rattle.cs_linear.specs.declared.bounds.Bound.{Bound}
use Rattle.cs_linear.specs.declared.bounds.Value.{Value}
use Rattle.cs_linear.specs.declared.rows.Entry.{Entry}
use Rattle.cs_linear.specs.declared.rows.Row.{Row}
use Rattle.cs_linear.specs.declared.tableau.Tableau.{Tableau}
use Rattle.cs_linear.specs.declared.mend.Checked.{Checked}
use Rattle.cs_linear.specs.declared.mend.Checked.TheVariants as answers
use Rattle.cs_linear.specs.declared.mend.Undecided.{Undecided}
use Rattle.cs_linear.specs.declared.mend.Undecided.TheVariants as causes
use Rattle.cs_linear.proofs.Arithmetic.{plus_left, plus_none, plus_opposite, times_comm, times_full, times_left, lowest_of_plus}
use Rattle.cs_linear.proofs.Found.{choice}
use Rattle.cs_linear.proofs.Moves.{moved_at}

reached : (v l : Fraction) → plus v (plus l (minus v)) ≡ lowest l
reached v l = plus_left v l (minus v) ∙ ap (plus l) (plus_opposite v) ∙ plus_none l

scaled : (v l f inverse : Fraction) → times inverse f ≡ full → plus v (times f (times (plus l (minus v)) inverse)) ≡ lowest l
scaled v l f inverse one =
    ap (plus v)
    (times_left f (plus l (minus v)) inverse
    ∙ ap (times (plus l (minus v))) (times_comm f inverse ∙ one)
    ∙ times_full (plus l (minus v))
    ∙ lowest_of_plus l (minus v))
    ∙ reached v l

-- a free column that moves by what it lacks
pub free_reached : (rows : List Row) (homes : Homes) (b : ℕ) (by : Fraction) (old new : List Frac) (l : Frac) → length old ≡ length homes → AreMoved rows homes b by old new → IsFree homes b →
    by ≡ plus (fraction l) (minus (values old b)) → values new b ≡ fraction l
free_reached rows homes b by old new l len m free is =
    moved_at rows homes b by old new l len m b None free
    ∙ choice (nat_eq b b) true _ _ (eq-eqb b b refl)
    ∙ ap (plus (values old b)) is
    ∙ reached (values old b) (fraction l)
    ∙ lowest_fraction l

-- a basic column, where a free one of its row moves by what it lacks over the factor
pub basic_reached : (rows : List Row) (homes : Homes) (j : ℕ) (by : Fraction) (old new : List Frac) (l : Frac) → length old ≡ length homes → AreMoved rows homes j by old new →
    (b at : ℕ) (r : Row) (inverse : Fraction) → slice_get homes b ≡ Some (Some at) → slice_get rows at ≡ Some r → times inverse (factor_at r.entries.items j) ≡ full →
    by ≡ times (plus (fraction l) (minus (values old b))) inverse → values new b ≡ fraction l
basic_reached rows homes j by old new l len m b at r inverse home here one is =
    moved_at rows homes j by old new l len m b (Some at) home
    ∙ ap (λ (es : List Entry). plus (values old b) (times (factor_at es j) by)) (ap entries_of here)
    ∙ ap (λ (y : Fraction). plus (values old b) (times (factor_at r.entries.items j) y)) is
    ∙ scaled (values old b) (fraction l) (factor_at r.entries.items j) inverse one
    ∙ lowest_fraction l

pub main_is : (v : Value) (a d : Assignment) (k : ℕ) → amount v ≡ amount_at a d k → fraction v.main ≡ a k
main_is v a d k e = ap (λ (x : Amount). x.main) e

pub delta_is : (v : Value) (a d : Assignment) (k : ℕ) → amount v ≡ amount_at a d k → fraction v.delta ≡ d k
delta_is v a d k e = ap (λ (x : Amount). x.delta) e

pub at_limit : (a d : Assignment) (b : Bound) → a b.column ≡ fraction b.limit.main → d b.column ≡ fraction b.limit.delta → IsAtLimit a d b
at_limit a d b m e = ap₂ pair m e

-- no cause that is so whatever is spent says that all units are
pub stops_with : (before after : ℕ) (u : Undecided) → ((spent : ℕ) → IsUndecided spent u) → after ≡ before + 1 → IsStopped before after u
stops_with before after causes.Budget h e = absurd (let z : 0 ≡ 100000 = h 0 in omega arith)
stops_with before after (causes.Over o) h e = e
stops_with before after causes.Want h e = e

pub paid_at_once : (t : Tableau) (before : ℕ) (u : Undecided) → HasPaid t before before u
paid_at_once t before causes.Budget = (0, standing t, none, omega arith)
paid_at_once t before (causes.Over o) = (0, standing t, none, omega arith)
paid_at_once t before causes.Want = (0, standing t, none, omega arith)

pub mended_over : {bs cs : Vec Bound Global} {s t : Standing} → bs ≡ cs → IsMended bs.items s t → IsMended cs.items s t
mended_over {s = s} {t = t} e m = subst (λ (bs : Vec Bound Global). IsMended bs.items s t) e m

-- the last turn
module _ (t : Tableau) (u : Standing) (before between after n : ℕ) (mends : Mends (bounds_of t) (standing t) n u) (is : between ≡ before + n) where
  pub ended_paid : (c : Checked) → IsEnded between after c → Pays t before after c
  ended_paid answers.Feasible e = (n, u, mends, e ∙ is)
  ended_paid (answers.Conflict c) e = (n, u, mends, omega arith)

  pub stopped_paid : (c : Undecided) → IsStopped between after c → HasPaid t before after c
  stopped_paid causes.Budget e = (n, u, mends, e ∙ is)
  stopped_paid (causes.Over o) e = (n, u, mends, omega arith)
  stopped_paid causes.Want e = (n, u, mends, omega arith)

-- what holds in any case holds where it succeeds
pub on_any : {A E : Type 0} {P : Type 0} (r : Result A E) → P → OnOk r P
on_any (Ok x) p = p
on_any (Err e) p = tt

pub on_both : {A E : Type 0} {P Q R : Type 0} (r : Result A E) → (P → Q → R) → OnOk r P → OnOk r Q → OnOk r R
on_both (Ok x) f p q = f p q
on_both (Err e) f p q = tt
