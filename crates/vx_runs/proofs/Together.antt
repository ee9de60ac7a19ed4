-- What stands one behind the other is held together: how amounts add up.
use Rattle.std.proofs.Common.{Bool, true, false, cond, [], ◌∷◌, ◌++◌}
use Rattle.vx_frac.specs.Fractions.{Fraction, none, sum, minus}
use Rattle.vx_ast.specs.Syntax.{Program}
use Rattle.vx_meaning.specs.States.{Holdings, Resource, same_resource, amount}
use Rattle.vx_amounts.proofs.Amounts.{Le, Same, same-refl, same-sym, same-trans, le-refl, le-trans, sum_comm, sum_assoc, none-sum, sum-minus, sum_same, add-left, add-right, below-add, add-below, cancel-left, none-none}
use Rattle.vx_sound_preds.proofs.Grouped.{IsSingle, NoDebts}
use Rattle.vx_sound_preds.proofs.Holding.{TypedAll}
use Rattle.vx_runs.specs.Whole.{given_back}
use Rattle.vx_runs.proofs.Followed.{Any, AtMost}

swapped : (a b c : Fraction) → Same (sum a (sum b c)) (sum b (sum a c))
swapped a b c = same-trans (same-sym (sum_assoc a b c)) (same-trans (sum_same (sum_comm a b) (same-refl c)) (sum_assoc b a c))

pub amount_both : (xs ys : Holdings) (r : Resource) → Same (amount (xs ++ ys) r) (sum (amount xs r) (amount ys r))
amount_both [] ys r = same-sym (none-sum (amount ys r))
amount_both (x ∷ xs) ys r = go (same_resource r x.0) (amount_both xs ys r)
  where
    go : (b : Bool) → Same (amount (xs ++ ys) r) (sum (amount xs r) (amount ys r)) → Same (cond b (sum x.1 (amount (xs ++ ys) r)) (amount (xs ++ ys) r)) (sum (cond b (sum x.1 (amount xs r)) (amount xs r)) (amount ys r))
    go true k = same-trans (sum_same (same-refl x.1) k) (same-sym (sum_assoc x.1 (amount xs r) (amount ys r)))
    go false k = k

pub amount_back : (xs : Holdings) (r : Resource) → Same (sum (amount (given_back xs) r) (amount xs r)) none
amount_back [] r = none-sum none
amount_back (x ∷ xs) r = go (same_resource r x.0) (amount_back xs r)
  where
    go : (b : Bool) → Same (sum (amount (given_back xs) r) (amount xs r)) none → Same (sum (cond b (sum (minus x.1) (amount (given_back xs) r)) (amount (given_back xs) r)) (cond b (sum x.1 (amount xs r)) (amount xs r))) none
    go true k =
        let a = amount (given_back xs) r in
        let b = amount xs r in
        same-trans (sum_assoc (minus x.1) a (sum x.1 b))
        (same-trans (sum_same (same-refl (minus x.1)) (swapped a x.1 b))
        (same-trans (same-sym (sum_assoc (minus x.1) x.1 (sum a b)))
        (same-trans (sum_same (same-trans (sum_comm (minus x.1) x.1) (sum-minus x.1)) k) (none-sum none))))
    go false k = k

pub front : (xs ys zs : Holdings) → AtMost ys zs → AtMost (xs ++ ys) (xs ++ zs)
front xs ys zs le r si = le-trans (amount_both xs ys r).there (le-trans (add-left (amount xs r) (le r si)) (amount_both xs zs r).back)

pub behind_front : (xs ys zs : Holdings) → AtMost xs ys → AtMost (xs ++ zs) (ys ++ zs)
behind_front xs ys zs le r si = le-trans (amount_both xs zs r).there (le-trans (add-right (amount zs r) (le r si)) (amount_both ys zs r).back)

pub cancel : (xs ys zs : Holdings) → AtMost (xs ++ ys) (xs ++ zs) → AtMost ys zs
cancel xs ys zs le r si = cancel-left (amount xs r) (le-trans (amount_both xs ys r).back (le-trans (le r si) (amount_both xs zs r).there))

pub swap : (xs ys zs : Holdings) → AtMost (xs ++ (ys ++ zs)) (ys ++ (xs ++ zs))
swap xs ys zs r si =
    let in_two = λ (a b : Holdings). same-trans (amount_both a (b ++ zs) r) (sum_same (same-refl (amount a r)) (amount_both b zs r)) in
    let first = in_two xs ys in
    let last = in_two ys xs in
    le-trans first.there (le-trans (swapped (amount xs r) (amount ys r) (amount zs r)).there last.back)

pub turn : (xs ys : Holdings) → AtMost (xs ++ ys) (ys ++ xs)
turn xs ys r si = le-trans (amount_both xs ys r).there (le-trans (sum_comm (amount xs r) (amount ys r)).there (amount_both ys xs r).back)

-- more is held with what is not owed
pub more_with : (xs ys : Holdings) → NoDebts xs → AtMost ys (xs ++ ys)
more_with xs ys up r si = le-trans (below-add (amount ys r) (up r si)) (amount_both xs ys r).back

pub less_with : (xs ys : Holdings) → NoDebts ys → AtMost xs (xs ++ ys)
less_with xs ys up r si = le-trans (more_with ys xs up r si) (turn ys xs r si)

pub debts_both : (xs ys : Holdings) → NoDebts xs → NoDebts ys → NoDebts (xs ++ ys)
debts_both xs ys a b r si = le-trans (none-none (a r si) (b r si)) (amount_both xs ys r).back

pub debts_more : (xs ys : Holdings) → NoDebts xs → AtMost xs ys → NoDebts ys
debts_more xs ys a le r si = le-trans (a r si) (le r si)

-- what is none or less
abbrev pub Takes : Holdings → Type 0
Takes xs = (r : Resource) → IsSingle r → Le (amount xs r) none

pub takes_by : (xs ys : Holdings) → AtMost (xs ++ ys) ys → Takes xs
takes_by xs ys le r si =
    let a = amount ys r in
    cancel-left a (le-trans (sum_comm a (amount xs r)).there (le-trans (amount_both xs ys r).back (le-trans (le r si) (le-trans (none-sum a).back (sum_comm none a).there))))

pub less_by : (xs ys : Holdings) → Takes xs → AtMost (xs ++ ys) ys
less_by xs ys le r si = le-trans (amount_both xs ys r).there (add-below (amount ys r) (le r si))

pub back_again : (xs ys : Holdings) → AtMost (given_back xs ++ (xs ++ ys)) ys
back_again xs ys r si =
    le-trans (same-trans (amount_both (given_back xs) (xs ++ ys) r) (same-trans (sum_same (same-refl (amount (given_back xs) r)) (amount_both xs ys r)) (same-trans (same-sym (sum_assoc (amount (given_back xs) r) (amount xs r) (amount ys r)))
    (same-trans (sum_same (amount_back xs r) (same-refl (amount ys r))) (none-sum (amount ys r)))))).there (le-refl (amount ys r))

pub there_again : (xs ys : Holdings) → AtMost ys (given_back xs ++ (xs ++ ys))
there_again xs ys r si =
    (same-trans (amount_both (given_back xs) (xs ++ ys) r) (same-trans (sum_same (same-refl (amount (given_back xs) r)) (amount_both xs ys r)) (same-trans (same-sym (sum_assoc (amount (given_back xs) r) (amount xs r) (amount ys r)))
    (same-trans (sum_same (amount_back xs r) (same-refl (amount ys r))) (none-sum (amount ys r)))))).back

-- what was taken is no debt
pub back_debts : (xs : Holdings) → Takes xs → NoDebts (given_back xs)
back_debts xs le r si =
    let g = amount (given_back xs) r in
    cancel-left (amount xs r) (le-trans (sum_comm (amount xs r) none).there (le-trans (none-sum (amount xs r)).there (le-trans (le r si) (le-trans (amount_back xs r).back (sum_comm g (amount xs r)).there))))

pub typed_left : (p : Program) (xs ys : Holdings) → TypedAll p Any (xs ++ ys) → TypedAll p Any xs
typed_left p [] ys k = tt
typed_left p (x ∷ xs) ys k = (k.0, typed_left p xs ys k.1)

pub typed_right : (p : Program) (xs ys : Holdings) → TypedAll p Any (xs ++ ys) → TypedAll p Any ys
typed_right p [] ys k = k
typed_right p (x ∷ xs) ys k = typed_right p xs ys k.1

pub typed_back : (p : Program) (xs : Holdings) → TypedAll p Any xs → TypedAll p Any (given_back xs)
typed_back p [] k = tt
typed_back p (x ∷ xs) k = (k.0, typed_back p xs k.1)
