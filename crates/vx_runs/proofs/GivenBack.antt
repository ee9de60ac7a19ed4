-- Amounts of what is given back: it makes up for what was taken.
use Rattle.std.proofs.Common.{◌++◌}
use Rattle.vx_frac.specs.Fractions.{none, sum}
use Rattle.vx_meaning.specs.States.{Holdings, Resource, amount}
use Rattle.vx_amounts.proofs.Amounts.{Le, Same, same-refl, same-sym, same-trans, le-trans, sum_same, none-sum, sum_comm, sum_assoc, add-left, cancel-left}
use Rattle.vx_sound_preds.proofs.Totals.{amount_append}
use Rattle.vx_sound_preds.proofs.Grouped.{IsSingle, NoDebts}
use Rattle.vx_runs.specs.Whole.{given_back}
use Rattle.vx_runs.proofs.Followed.{AtMost}
use Rattle.vx_runs.proofs.Together.{amount_back}

-- of what is left of s by these entries, and what was there besides, at most what is given back was given
pub given_at_most : (es base all given left : Holdings) → ((r : Resource) → IsSingle r → Le (sum (amount given r) (amount left r)) (sum (amount base r) (amount all r))) → AtMost (es ++ all) left → AtMost given (given_back es ++ base)
given_at_most es base all given left total above r si =
    let g = amount given r in
    let e = amount es r in
    let b = amount base r in
    let s = amount all r in
    let back = amount (given_back es) r in
    -- g + (e + s) <= b + s
    let one : Le (sum g (sum e s)) (sum b s) = le-trans (add-left g (le-trans (amount_append es all r).back (above r si))) (total r si) in
    let two : Le (sum s (sum g e)) (sum s b) = le-trans (le-trans (sum_comm s (sum g e)).there (sum_assoc g e s).there) (le-trans one (sum_comm b s).there) in
    let three : Le (sum g e) b = cancel-left s two in
    -- g = back + (g + e)
    let four : Same g (sum back (sum g e)) =
    same-sym (same-trans (sum_same (same-refl back) (sum_comm g e)) (same-trans (same-sym (sum_assoc back e g)) (same-trans (sum_same (amount_back es r) (same-refl g)) (none-sum g)))) in
    le-trans four.there (le-trans (add-left back three) (amount_append (given_back es) base r).back)

-- what is given back is at least none where less is left
pub given_back_debts : (es h : Holdings) → AtMost (es ++ h) h → NoDebts (given_back es)
given_back_debts es h less r si =
    let e = amount es r in
    let back = amount (given_back es) r in
    let s = amount h r in
    let one : Le (sum s e) (sum s none) = le-trans (sum_comm s e).there (le-trans (amount_append es h r).back (le-trans (less r si) (same-trans (same-sym (none-sum s)) (sum_comm none s)).there)) in
    let two : Le e none = cancel-left s one in
    le-trans (amount_back es r).back (le-trans (add-left back two) (same-trans (sum_comm back none) (none-sum back)).there)

-- with what was there besides it is no more than there was
pub given_back_at_most : (es base all : Holdings) → AtMost base (es ++ all) → AtMost (given_back es ++ base) all
given_back_at_most es base all above r si =
    let back = amount (given_back es) r in
    let e = amount es r in
    let s = amount all r in
    le-trans (amount_append (given_back es) base r).there
    (le-trans (add-left back (le-trans (above r si) (amount_append es all r).there))
    (same-trans (same-sym (sum_assoc back e s)) (same-trans (sum_same (amount_back es r) (same-refl s)) (none-sum s))).there)
