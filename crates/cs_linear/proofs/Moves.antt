-- A free column that moves takes the basic columns with it, so that all rows go on to hold.
use Rattle.std.proofs.Common.{◌≡◌, ℕ, ◌<◌, Bool, true, false, nat_eq, if◌then◌else◌, List, [], ◌∷◌, Option, Some, None, length, slice_get, get_or, refl, sym, ◌∙◌, ap, ap₂, subst, All}
use Rattle.std.proofs.lemmas.List.Elements.{All-head, All-tail, All-weaker}
use Rattle.std.proofs.lemmas.Option.{slice_get_within, slice_get-get_or}
use Rattle.vx_frac.specs.Fractions.{Fraction, none, lowest}
use Rattle.vx_frac.specs.Fraction.{fraction}
use Rattle.vx_frac.specs.declared.Frac.{Frac}
use Rattle.cs_linear.specs.Numbers.{plus, times}
use Rattle.cs_linear.specs.declared.rows.Entry.{Entry}
use Rattle.cs_linear.specs.declared.rows.Row.{Row}
use Rattle.cs_linear.specs.Rows.{Assignment, Homes, IsFree, IsTableau, Solves, total, factor_at}
use Rattle.cs_linear.specs.Values.{value, values, moved, AreMoved, entries_of}
use Rattle.cs_linear.proofs.Arithmetic.{linear, plus_assoc, lowest_plus, lowest_of_plus}

first_step : (f F x y T : Fraction) → plus (times f (plus x y)) (plus T (times F y)) ≡ plus (plus (times f x) T) (times (plus f F) y)
first_step f F x y T = simp linear refl

nothing_moves : (y : Fraction) → none ≡ plus none (times none y)
nothing_moves y = simp linear refl

step_by : (b : Bool) (f F x y T : Fraction) → plus (times f (if b then plus x y else x)) (plus T (times F y)) ≡ plus (plus (times f x) T) (times (if b then plus f F else F) y)
step_by true f F x y T = first_step f F x y T
step_by false f F x y T = sym (plus_assoc _ _ _)

shifted : Assignment → ℕ → Fraction → ℕ → Fraction
shifted a j y k = if nat_eq k j then plus (a k) y else a k

pub moved_total : (es : List Entry) (a other : Assignment) (j : ℕ) (y : Fraction) → All (λ e. other e.column ≡ (if nat_eq e.column j then plus (a e.column) y else a e.column)) es → total es other ≡ plus (total es a) (times (factor_at es j) y)
moved_total [] a other j y h = nothing_moves y
moved_total (e ∷ es) a other j y h =
    ap₂ (λ x t. plus (times (fraction e.factor) x) t) (All-head (λ (e : Entry). other e.column ≡ (if nat_eq e.column j then plus (a e.column) y else a e.column)) e es h)
    (moved_total es a other j y (All-tail (λ (e : Entry). other e.column ≡ (if nat_eq e.column j then plus (a e.column) y else a e.column)) e es h))
    ∙ step_by (nat_eq e.column j) (fraction e.factor) (factor_at es j) (a e.column) y (total es a)

value_at : (vs : List Frac) (k : ℕ) (v : Frac) → slice_get vs k ≡ Some v → values vs k ≡ fraction v
value_at vs k v e = ap value e

item_at : {A : Type 0} {B : Type 0} (xs : List A) (ys : List B) (k : ℕ) (x : A) (y : B) → length ys ≡ length xs → slice_get xs k ≡ Some x → slice_get ys k ≡ Some (get_or ys k y)
item_at xs ys k x y e h = slice_get-get_or ys k y (subst (λ n. k < n) (sym e) (slice_get_within xs k x h))

pub moved_at : (rows : List Row) (homes : Homes) (j : ℕ) (y : Fraction) (old new : List Frac) (d : Frac) → length old ≡ length homes → AreMoved rows homes j y old new → (k : ℕ) (home : Option ℕ) → slice_get homes k ≡ Some home → values new k ≡ moved rows j y home k (values old k)
moved_at rows homes j y old new d len m k home h =
    let eo = item_at homes old k home d len h in
    let en = item_at homes new k home d (m.count ∙ len) h in
    value_at new k _ en ∙ m.each k home _ _ h eo en ∙ ap (moved rows j y home k) (sym (value_at old k _ eo))

pub moved_solves : (rows : List Row) (homes : Homes) (j : ℕ) (y : Fraction) (old new : List Frac) (d : Frac) → IsTableau rows homes → length old ≡ length homes → AreMoved rows homes j y old new → Solves rows (values old) → Solves rows (values new)
moved_solves rows homes j y old new d t len m s i r er =
    ap lowest (moved_at rows homes j y old new d len m r.basic (Some i) (t.basic i r er) ∙ ap (λ (es : List Entry). plus (values old r.basic) (times (factor_at es j) y)) (ap entries_of er))
    ∙ lowest_of_plus _ _
    ∙ sym (lowest_plus (values old r.basic) _)
    ∙ ap (λ x. plus x (times (factor_at r.entries.items j) y)) (s i r er)
    ∙ sym (moved_total r.entries.items (values old) (values new) j y
    (All-weaker (λ (e : Entry). IsFree homes e.column) (λ (e : Entry). values new e.column ≡ (if nat_eq e.column j then plus (values old e.column) y else values old e.column)) (λ e f. moved_at rows homes j y old new d len m e.column None f) r.entries.items (t.free i r er)))
