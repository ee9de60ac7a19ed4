-- Where no more was taken from the chunks than is lost, they have all that is left; and what is lost in two steps.
use Rattle.std.proofs.Common.{◌≡◌, ◌⊎◌, inl, inr, Bool, true, false, cond, [], ◌∷◌, ◌++◌, slice_set, refl, sym, ap, subst}
use Rattle.vx_frac.specs.Fractions.{Fraction, none, sum, minus, difference}
use Rattle.vx_meaning.specs.States as run
use Rattle.vx_terms.specs.Terms.{Term, same}
use Rattle.vx_terms.specs.Build.{subtract, zero_amount}
use Rattle.vx_terms.specs.Interpretations.{Interpretation, as_fraction, value}
use Rattle.vx_terms.proofs.Same.{term_is}
use Rattle.vx_rules.specs.States as rules
use Rattle.vx_rules.specs.Chunks.{Candidate, without, reduced, without_empty}
use Rattle.vx_elements.proofs.Settled.{Meaning}
use Rattle.vx_elements.proofs.Places.{IsPlace}
use Rattle.vx_amounts.proofs.Amounts.{Le, Same, le-refl, le-trans, le-is, same-refl, same-trans, difference_same, minus_same, minus_none, add-mono, add-right, add-left, add-below, none-sum, sum_comm, sum_assoc, sum-minus}
use Rattle.vx_sound.proofs.Stands.{resource_of, amount_of, own, held}
use Rattle.vx_sound.proofs.SumTakes.{no_less}
use Rattle.vx_real.proofs.SumTakes.{less_one, held_out}

-- where no more was taken from the chunks than is lost, they have all that is left
pub lost_held : (i : Interpretation) (l x : run.Resource) (w q : Fraction) (hs : run.Holdings) (g h : rules.Heap) → Le w q → Le (run.amount hs x) (held i g x) → Le (held i g x) (sum (cond (run.same_resource x l) w none) (held i h x)) →
    Le (run.amount (run.lost l q hs) x) (held i h x)
lost_held i l x w q hs g h most all less = go (run.same_resource x l) (le-trans all less)
  where
    gone : Le (sum (minus q) (sum w (held i h x))) (held i h x)
    gone =
        le-trans (sum_assoc (minus q) w (held i h x)).back
        (le-trans (add-right (held i h x) (le-trans (add-left (minus q) most) (le-trans (sum_comm (minus q) q).there (sum-minus q).there))) (none-sum (held i h x)).there)

    go : (b : Bool) → Le (run.amount hs x) (sum (cond b w none) (held i h x)) → Le (cond b (sum (minus q) (run.amount hs x)) (run.amount hs x)) (held i h x)
    go true e = le-trans (add-left (minus q) e) gone
    go false e = le-trans e (none-sum (held i h x)).there

-- what is lost in two steps, of which the first is at the place or takes nothing
lost_twice : (w q m x : Fraction) → Same m (difference w q) → Le (sum (minus m) (sum (minus q) x)) (sum (minus w) x)
lost_twice w q m x s = le-trans (sum_assoc (minus m) (minus q) x).back (add-right x (added back))
  where
    back : Le w (sum m q)
    back = le-trans (none-sum w).back (le-trans (sum_comm none w).there (le-trans (add-left w (le-trans (sum-minus q).back (sum_comm q (minus q)).there)) (le-trans (sum_assoc w (minus q) q).back (add-right q s.back))))

    none_left : Le (sum (sum m q) (sum (minus m) (minus q))) none
    none_left =
        le-trans (sum_assoc m q (sum (minus m) (minus q))).there
        (le-trans (add-left m (le-trans (add-left q (sum_comm (minus m) (minus q)).there) (le-trans (sum_assoc q (minus q) (minus m)).back (le-trans (add-right (minus m) (sum-minus q).there) (none-sum (minus m)).there)))) (sum-minus m).there)

    added : Le w (sum m q) → Le (sum (minus m) (minus q)) (minus w)
    added e =
        le-trans (none-sum (sum (minus m) (minus q))).back
        (le-trans (add-right (sum (minus m) (minus q)) (le-trans (sum-minus w).back (sum_comm w (minus w)).there))
        (le-trans (sum_assoc (minus w) w (sum (minus m) (minus q))).there
        (le-trans (add-left (minus w) (le-trans (add-right (sum (minus m) (minus q)) e) none_left)) (le-trans (sum_comm (minus w) none).there (none-sum (minus w)).there))))

-- the same amount is lost
pub lost_same : (l x : run.Resource) (a q : Fraction) (hs : run.Holdings) → Same a q → Le (run.amount (run.lost l a hs) x) (run.amount (run.lost l q hs) x)
lost_same l x a q hs s = go (run.same_resource x l)
  where
    go : (b : Bool) → Le (cond b (sum (minus a) (run.amount hs x)) (run.amount hs x)) (cond b (sum (minus q) (run.amount hs x)) (run.amount hs x))
    go true = add-right (run.amount hs x) (minus_same s).there
    go false = le-refl _

pub lost_chain : (l res x : run.Resource) (w m q : Fraction) (hs : run.Holdings) → Same m (difference w q) → Le none q → (res ≡ l) ⊎ Le q none → Le (run.amount (run.lost l m (run.lost res q hs)) x) (run.amount (run.lost l w hs) x)
lost_chain l res x w m q hs s sign (inl at) = subst (λ (y : run.Resource). Le (run.amount (run.lost l m (run.lost y q hs)) x) (run.amount (run.lost l w hs) x)) (sym at) (go (run.same_resource x l))
  where
    go : (b : Bool) → Le (cond b (sum (minus m) (cond b (sum (minus q) (run.amount hs x)) (run.amount hs x))) (cond b (sum (minus q) (run.amount hs x)) (run.amount hs x))) (cond b (sum (minus w) (run.amount hs x)) (run.amount hs x))
    go true = lost_twice w q m (run.amount hs x) s
    go false = le-refl _
lost_chain l res x w m q hs s sign (inr z) = go (run.same_resource x l) (inner (run.same_resource x res))
  where
    same_w : Same m w
    same_w = same-trans s (same-trans (difference_same (same-refl w) record { there = z; back = sign }) (no_less w))

    inner : (b : Bool) → Le (cond b (sum (minus q) (run.amount hs x)) (run.amount hs x)) (run.amount hs x)
    inner true = add-below (run.amount hs x) (minus_none sign)
    inner false = le-refl _

    go : (b : Bool) → Le (run.amount (run.lost res q hs) x) (run.amount hs x) → Le (cond b (sum (minus m) (run.amount (run.lost res q hs) x)) (run.amount (run.lost res q hs) x)) (cond b (sum (minus w) (run.amount hs x)) (run.amount hs x))
    go true h = add-mono (minus_same same_w).there h
    go false h = h

-- a chunk that has none is no loss
pub full_held : (i : Interpretation) (h : rules.Heap) (x : run.Resource) → Le (held i h x) (held i (without_empty h) x)
full_held i [] x = le-refl none
full_held i (c ∷ cs) x = go (same c.amount zero_amount) refl (full_held i cs x)
  where
    nothing : (b : Bool) → as_fraction (value i c.amount) ≡ none → Le (cond b (as_fraction (value i c.amount)) none) none
    nothing true e = le-is e
    nothing false e = le-refl none

    go : (b : Bool) → same c.amount zero_amount ≡ b → Le (held i cs x) (held i (without_empty cs) x) → Le (sum (own i c x) (held i cs x)) (held i (cond b (without_empty cs) (c ∷ without_empty cs)) x)
    go true e r = le-trans (add-below (held i cs x) (nothing (run.same_resource x (resource_of i c)) (ap (λ t. as_fraction (value i t)) (term_is c.amount zero_amount e)))) r
    go false e r = add-left (own i c x) r

pub reduced_held : {key : rules.Chunk} {h : rules.Heap} {c : Candidate} (means : Meaning) (i : Interpretation) (pl : IsPlace key h c) (a : Term) (q : Fraction) → Same (as_fraction (value i (subtract c.chunk.amount a))) (difference (amount_of i c.chunk) q) → (x : run.Resource) →
    Le (held i h x) (sum (cond (run.same_resource x (resource_of i c.chunk)) q none) (held i (reduced c a h) x))
reduced_held {h = h} {c = c} means i pl a q s x = go (same (subtract c.chunk.amount a) zero_amount) refl
  where
    rest : rules.Chunk
    rest = record c.chunk { amount = subtract c.chunk.amount a }

    part : Fraction
    part = cond (run.same_resource x (resource_of i c.chunk)) q none

    in_place : Le (held i h x) (sum (cond (run.same_resource x (resource_of i c.chunk)) q none) (held i (slice_set h c.number (record c.chunk { amount = subtract c.chunk.amount a })) x))
    in_place = less_one means i pl (subtract c.chunk.amount a) q s x

    nothing : (b : Bool) → as_fraction (value i (subtract c.chunk.amount a)) ≡ none → Le (cond b (as_fraction (value i (subtract c.chunk.amount a))) none) none
    nothing true e = le-is e
    nothing false e = le-refl none

    empty : same (subtract c.chunk.amount a) zero_amount ≡ true → Le (held i (slice_set h c.number (record c.chunk { amount = subtract c.chunk.amount a })) x) (held i (without c.number h) x)
    empty e =
        le-trans (le-is (ap (λ (y : rules.Heap). held i y x) (pl.set_is rest)))
        (le-trans (held_out means i pl.front rest pl.back x)
        (le-trans (add-below (held i (pl.front ++ pl.back) x) (nothing (run.same_resource x (resource_of i c.chunk)) (ap (λ t. as_fraction (value i t)) (term_is (subtract c.chunk.amount a) zero_amount e))))
        (le-is (ap (λ (y : rules.Heap). held i y x) (sym pl.without_is)))))

    go : (b : Bool) → same (subtract c.chunk.amount a) zero_amount ≡ b → Le (held i h x) (sum (cond (run.same_resource x (resource_of i c.chunk)) q none) (held i (cond b (without c.number h) (slice_set h c.number (record c.chunk { amount = subtract c.chunk.amount a }))) x))
    go true e = le-trans in_place (add-left (cond (run.same_resource x (resource_of i c.chunk)) q none) (empty e))
    go false e = in_place
