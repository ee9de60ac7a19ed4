-- What an application of `length` tells, by the rules of quiet evaluation, and one of a function that reads a field.
use Rattle.std.specs.Prelude.{ℕ, zero, suc, true, List, [], ◌∷◌, ◌++◌}
use Rattle.vx_terms.specs.Sorts as sort
use Rattle.vx_terms.specs.Sorts.{Sort, IntSort, BoolSort}
use Rattle.vx_terms.specs.Terms as term
use Rattle.vx_terms.specs.Terms.{Term, NoTerms, MoreTerms}
use Rattle.vx_examples.specs.Words.{int, ref, null, unit, number, falsity, denied, equal, differ, less, at_most, plus, minus, both, implied, pair, first, second, wrapped_ref, as_ref}

-- the function's symbol on a snapshot of `list(x)` and x
abbrev pub length_at : Term → Term → Term
length_at s x = term.Apply (sort.Function 0) IntSort (MoreTerms s (MoreTerms x NoTerms))

-- the value of `x.next` by a snapshot of `list(x)`
abbrev pub next_in : Term → Term
next_in s = as_ref (first s)

abbrev pub all_after : Term → List Term → Term
all_after t [] = t
all_after t (u ∷ us) = all_after (both t u) us

-- of one fact and more
abbrev pub all_told : List Term → Term
all_told [] = term.Truth true
all_told (t ∷ ts) = all_after t ts

-- the facts of the body's first part, by a snapshot
abbrev pub whole_of : Term → Term
whole_of s = equal s (pair (first s) (second s))

abbrev pub part_of : Term → Term
part_of s = equal (first s) (wrapped_ref (next_in s))

-- by so many levels: the side with a next node, the side without, and the postcondition; with what the sides say of x
abbrev pub told : ℕ → List Term → Term → Term → List Term
told zero known s x = []
told (suc n) known s x =
    implied (differ (next_in s) null)
    (both (all_after (whole_of s) (part_of s ∷ known ++ told n [] (second s) (next_in s)))
    (equal (length_at s x) (plus (number 1) (length_at (second s) (next_in s)))))
    ∷ implied (equal (next_in s) null)
    (both (all_after (whole_of s) (part_of s ∷ known ++ equal (second s) unit ∷ [])) (equal (length_at s x) (number 1)))
    ∷ less (number 0) (length_at s x) ∷ []

-- a function's symbol on an Int, where its precondition has no permission
abbrev pub int_at : ℕ → Term → Term
int_at f n = term.Apply (sort.Function f) IntSort (MoreTerms unit (MoreTerms n NoTerms))

-- of the chain f, g, h and k of v0: that h is 3 more than k and more than v0, that g is 2 more than h, and f 1 more than g
abbrev pub chain_told : Term
chain_told =
    let v0 = int 0 in
    both
    (both (both (equal (int_at 2 v0) (plus (int_at 3 v0) (number 3))) (less v0 (int_at 2 v0))) (equal (int_at 1 v0) (plus (int_at 2 v0) (number 2))))
    (equal (int_at 0 v0) (plus (int_at 1 v0) (number 1)))

-- a function's symbol on v0 - 1 - 1 .., so many times, where it gives a Bool
abbrev pub lowered : ℕ → Term
lowered zero = int 0
lowered (suc n) = minus (lowered n) (number 1)

abbrev pub bool_at : ℕ → ℕ → Term
bool_at f n = term.Apply (sort.Function f) BoolSort (MoreTerms unit (MoreTerms (lowered n) NoTerms))

-- what odd, the function 1, tells three times down, and even, the function 0, with its promise and this in it twice down: on the side
-- of 0, on the other side, and behind these the precondition again
abbrev pub odd_told : List Term
odd_told =
    let allowed = at_most (number 0) (lowered 3) in
    implied (equal (lowered 3) (number 0)) (both allowed (equal (bool_at 1 3) falsity))
    ∷ implied (differ (lowered 3) (number 0)) (both allowed (equal (bool_at 1 3) (bool_at 0 4)))
    ∷ allowed ∷ []

abbrev pub even_told : List Term
even_told =
    let allowed = at_most (number 0) (lowered 2) in
    implied (equal (lowered 2) (number 0)) (both allowed (equal (bool_at 0 2) (term.Truth true)))
    ∷ implied (differ (lowered 2) (number 0)) (both (all_after allowed odd_told) (equal (bool_at 0 2) (bool_at 1 3)))
    ∷ both allowed (implied (equal (lowered 2) (number 1)) (denied (bool_at 0 2))) ∷ []

-- the first function's symbol on a snapshot and v0, of this sort
abbrev pub read_at : Sort → Term → Term
read_at a s = term.Apply (sort.Function 0) a (MoreTerms s (MoreTerms (ref 0) NoTerms))

-- that a snapshot wraps what is in it
abbrev pub rewrapped : (wrapped inside : Term → Term) → Term → Term
rewrapped wrapped inside s = equal s (wrapped (inside s))

-- an application of a function that reads `x.f`, whose value is t: the name of its snapshot, what its body tells, and what its
-- postcondition tells, which is the snapshot again
abbrev pub told_read : Sort → (wrapped inside : Term → Term) → (s t : Term) → List Term
told_read a wrapped inside s t =
    equal s (wrapped t)
    ∷ both (rewrapped wrapped inside s) (equal (read_at a s) (inside s))
    ∷ rewrapped wrapped inside s ∷ []
