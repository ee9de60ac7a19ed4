-- The order of amounts: what sums and multiples keep of it.
use Rattle.std.proofs.Common.{◌≡◌, ℕ, suc, ℤ, pos, negsuc, ◌*ℤ◌, neg_ℤ, arith, Bool, true, false, true≢false, not, if◌then◌else◌, refl, sym, ◌∙◌, ap}
use Rattle.vx_frac.specs.Fractions.{Fraction, none, minus, sum, difference, product, at_most, is_below}
use Rattle.vx_amounts.proofs.Amounts.{Le, Positive, Same, le-refl, le-trans, le-is, le-total, below_is, same-lowest', same-sym, same-trans, add-mono, add-right, add-left, cancel-left, sum_comm, none-sum, sum-minus, sum_assoc, sum_same, same-refl, product_same, unscaled}
use Rattle.vx_amounts.proofs.Products.{product_mono, product_sum, positive_le}
use Rattle.cs_linear.specs.Numbers.{plus, times}
use Rattle.cs_linear.specs.Amounts.{Amount, pair, is_less, has_sign, has_room_by, is_broken_by}
use Rattle.cs_linear.specs.declared.bounds.Side.{Side}
use Rattle.cs_linear.specs.declared.bounds.Side.TheVariants.{AtLeast, AtMost}
use Rattle.std.specs.Prelude.{int_lt}
use Rattle.std.proofs.lemmas.Int.{ints}
use Rattle.std.proofs.lemmas.Bool.{not-false}
use Rattle.cs_linear.proofs.Arithmetic.{plus_comm, plus_left, plus_none, plus_times, none_times, plus_opposite, lowest_of_times}

-- below or tied, in the number and then in the multiple
pub record AtMostOf (x y : Amount) : Type 0 where
  pub main : Le x.main y.main
  pub delta : Le y.main x.main → Le x.delta y.delta

pub record LessOf (x y : Amount) : Type 0 where
  pub main : Le x.main y.main
  pub delta : Le y.main x.main → Le y.delta x.delta → ⊥

-- Amounts as tests

not_le_below : {a b : Fraction} → is_below a b ≡ true → Le b a → ⊥
not_le_below {a = a} {b = b} h k = both (at_most b a) (sym (below_is a b) ∙ h) k.holds where
  both : (t : Bool) → not t ≡ true → t ≡ true → ⊥
  both true e f = true≢false (sym e)
  both false e f = true≢false (sym f)

pub le_not_below : (a b : Fraction) → is_below a b ≡ false → Le b a
le_not_below a b h = record { holds = not-false (at_most b a) (sym (below_is a b) ∙ h) }

le_below : (a b : Fraction) → is_below a b ≡ true → Le a b
le_below a b h = by_total (at_most a b) refl where
  by_total : (t : Bool) → at_most a b ≡ t → Le a b
  by_total true e = record { holds = e }
  by_total false e = absurd (not_le_below h (le-total a b e))

below_of_not_le : (a b : Fraction) → (Le b a → ⊥) → is_below a b ≡ true
below_of_not_le a b h = by_test (is_below a b) refl where
  by_test : (t : Bool) → is_below a b ≡ t → t ≡ true
  by_test true e = refl
  by_test false e = absurd (h (le_not_below a b e))

pub less_out : (x y : Amount) → is_less x y ≡ true → LessOf x y
less_out x y h = go (is_below x.main y.main) (is_below y.main x.main) (is_below x.delta y.delta) refl refl refl h where
  go : (s t u : Bool) → is_below x.main y.main ≡ s → is_below y.main x.main ≡ t → is_below x.delta y.delta ≡ u → (if s then true else if t then false else u) ≡ true → LessOf x y
  go true t u e f g h = record { main = le_below _ _ e; delta = λ k l. not_le_below e k }
  go false false true e f g h = record { main = le_not_below _ _ f; delta = λ k l. not_le_below g l }
  go false false false e f g h = absurd (true≢false (sym h))
  go false true u e f g h = absurd (true≢false (sym h))

pub less_in : (x y : Amount) → LessOf x y → is_less x y ≡ true
less_in x y h = go (is_below x.main y.main) (is_below y.main x.main) (is_below x.delta y.delta) refl refl refl where
  go : (s t u : Bool) → is_below x.main y.main ≡ s → is_below y.main x.main ≡ t → is_below x.delta y.delta ≡ u → (if s then true else if t then false else u) ≡ true
  go true t u e f g = refl
  go false false true e f g = refl
  go false false false e f g = absurd (h.delta (le_not_below _ _ e) (le_not_below _ _ g))
  go false true u e f g = absurd (not_le_below f h.main)

pub most_out : (x y : Amount) → is_less y x ≡ false → AtMostOf x y
most_out x y h = go (is_below y.main x.main) (is_below x.main y.main) (is_below y.delta x.delta) refl refl refl h where
  go : (s t u : Bool) → is_below y.main x.main ≡ s → is_below x.main y.main ≡ t → is_below y.delta x.delta ≡ u → (if s then true else if t then false else u) ≡ false → AtMostOf x y
  go true t u e f g h = absurd (true≢false h)
  go false true u e f g h = record { main = le_not_below _ _ e; delta = λ k. absurd (not_le_below f k) }
  go false false true e f g h = absurd (true≢false h)
  go false false false e f g h = record { main = le_not_below _ _ e; delta = λ k. le_not_below _ _ g }

pub most_in : (x y : Amount) → AtMostOf x y → is_less y x ≡ false
most_in x y h = go (is_below y.main x.main) (is_below x.main y.main) (is_below y.delta x.delta) refl refl refl where
  go : (s t u : Bool) → is_below y.main x.main ≡ s → is_below x.main y.main ≡ t → is_below y.delta x.delta ≡ u → (if s then true else if t then false else u) ≡ false
  go true t u e f g = absurd (not_le_below e h.main)
  go false true u e f g = refl
  go false false true e f g = absurd (not_le_below g (h.delta (le_not_below _ _ f)))
  go false false false e f g = refl

pub most_trans : {x y z : Amount} → AtMostOf x y → AtMostOf y z → AtMostOf x z
most_trans h k = record {
  main = le-trans h.main k.main;
  delta = λ t. le-trans (h.delta (le-trans k.main t)) (k.delta (le-trans t h.main));
}

pub less_most : {x y : Amount} → LessOf x y → AtMostOf x y
less_most {x = x} {y = y} h = record {
  main = h.main;
  delta = λ t. by_total (at_most x.delta y.delta) refl t;
} where
  by_total : (b : Bool) → at_most x.delta y.delta ≡ b → Le y.main x.main → Le x.delta y.delta
  by_total true e t = record { holds = e }
  by_total false e t = absurd (h.delta t (le-total x.delta y.delta e))

-- a limit that has no room for another says at least as much, and one that has room says no more

pub tells_lesser : (side : Side) (limit other value : Amount) → has_room_by side limit other ≡ false → is_broken_by side limit value ≡ false → is_broken_by side other value ≡ false
tells_lesser AtLeast limit other value h b = most_in other value (most_trans (most_out other limit h) (most_out limit value b))
tells_lesser AtMost limit other value h b = most_in value other (most_trans (most_out value limit b) (most_out limit other h))

pub tells_greater : (side : Side) (limit other value : Amount) → has_room_by side limit other ≡ true → is_broken_by side other value ≡ false → is_broken_by side limit value ≡ false
tells_greater AtLeast limit other value h b = most_in limit value (most_trans (less_most (less_out limit other h)) (most_out other value b))
tells_greater AtMost limit other value h b = most_in value limit (most_trans (most_out value other b) (less_most (less_out other limit h)))

pub not_less : (x : Amount) → LessOf x x → ⊥
not_less x h = h.delta (le-refl x.main) (le-refl x.delta)

-- Sums

pub plus_same : (a b : Fraction) → Same (plus a b) (sum a b)
unfolding plus
plus_same a b = same-lowest' (sum a b)

pub times_same : (a b : Fraction) → Same (times a b) (product a b)
unfolding times
times_same a b = same-lowest' (product a b)

pub plus_mono : {a b c d : Fraction} → Le a b → Le c d → Le (plus a c) (plus b d)
plus_mono {a = a} {b = b} {c = c} {d = d} h k = le-trans (plus_same a c).there (le-trans (add-mono h k) (plus_same b d).back)

-- where the sums are the other way, so are the parts
turned_left : {a b c d : Fraction} → Le c d → Le (plus b d) (plus a c) → Le b a
turned_left {a = a} {b = b} {c = c} {d = d} k h =
    let e : Le (sum b d) (sum a d) = le-trans (plus_same b d).back (le-trans h (le-trans (plus_same a c).there (add-left a k))) in
    cancel-left d (le-trans (sum_comm d b).there (le-trans e (sum_comm a d).there))

turned_right : {a b c d : Fraction} → Le a b → Le (plus b d) (plus a c) → Le d c
turned_right {a = a} {b = b} {c = c} {d = d} k h =
    let e : Le (sum b d) (sum b c) = le-trans (plus_same b d).back (le-trans h (le-trans (plus_same a c).there (add-right c k))) in
    cancel-left b e

abbrev pub more : Amount → Amount → Amount
more x y = pair (plus x.main y.main) (plus x.delta y.delta)

pub most_more : {x y z w : Amount} → AtMostOf x y → AtMostOf z w → AtMostOf (more x z) (more y w)
most_more h k = record {
  main = plus_mono h.main k.main;
  delta = λ t. plus_mono (h.delta (turned_left k.main t)) (k.delta (turned_right h.main t));
}

pub less_more : {x y z w : Amount} → LessOf x y → AtMostOf z w → LessOf (more x z) (more y w)
less_more h k = record {
  main = plus_mono h.main k.main;
  delta = λ t u. h.delta (turned_left k.main t) (turned_left (k.delta (turned_right h.main t)) u);
}

pub most_less : {x y z w : Amount} → AtMostOf x y → LessOf z w → LessOf (more x z) (more y w)
most_less h k = record {
  main = plus_mono h.main k.main;
  delta = λ t u. k.delta (turned_right h.main t) (turned_right (h.delta (turned_left k.main t)) u);
}

-- Multiples

times_mono : {a b : Fraction} (q : Fraction) → Le none q → Le a b → Le (times q a) (times q b)
times_mono {a = a} {b = b} q h k = le-trans (times_same q a).there (le-trans (product_mono q h k) (times_same q b).back)

positive_of : (q : Fraction) → is_below none q ≡ true → Positive q
positive_of q h = record { holds = h }

none_back : {a b : Fraction} → Le none (difference b a) → Le a b
none_back {a = a} {b = b} h =
    cancel-left (minus a) (le-trans (sum_comm (minus a) a).there (le-trans (sum-minus a).there (le-trans h (sum_comm b (minus a)).there)))

unscale : {a b : Fraction} (q : Fraction) → Positive q → Le (product q a) (product q b) → Le a b
unscale {a = a} {b = b} q p h =
    let d = difference b a in
    let e : Le (sum (product q a) none) (sum (product q a) (product q d)) =
    le-trans (sum_comm (product q a) none).there (le-trans (none-sum (product q a)).there (le-trans h (le-trans (product_same (same-refl q) (same-sym (add_back a b))).there (product_sum q a d).there))) in
    none_back (unscaled q d p (cancel-left (product q a) e))
  where
    add_back : (b c : Fraction) → Same (sum b (difference c b)) c
    add_back b c = same-trans (sum_comm b (sum c (minus b))) (same-trans (sum_assoc c (minus b) b) (same-trans (sum_same (same-refl c) (same-trans (sum_comm (minus b) b) (sum-minus b))) (same-trans (sum_comm c none) (none-sum c))))

untimes : {a b : Fraction} (q : Fraction) → Positive q → Le (times q a) (times q b) → Le a b
untimes {a = a} {b = b} q p h = unscale q p (le-trans (times_same q a).back (le-trans h (times_same q b).there))

abbrev pub scaled : Fraction → Amount → Amount
scaled q x = pair (times q x.main) (times q x.delta)

pub most_scaled : {x y : Amount} (q : Fraction) → is_below none q ≡ true → AtMostOf x y → AtMostOf (scaled q x) (scaled q y)
most_scaled q p h = record {
  main = times_mono q (positive_le (positive_of q p)) h.main;
  delta = λ t. times_mono q (positive_le (positive_of q p)) (h.delta (untimes q (positive_of q p) t));
}

pub less_scaled : {x y : Amount} (q : Fraction) → is_below none q ≡ true → LessOf x y → LessOf (scaled q x) (scaled q y)
less_scaled q p h = record {
  main = times_mono q (positive_le (positive_of q p)) h.main;
  delta = λ t u. h.delta (untimes q (positive_of q p) t) (untimes q (positive_of q p) u);
}

-- Multiples below 0

number_turns : (z : ℤ) (k : ℕ) → int_lt (z *ℤ pos 1) (pos 0 *ℤ pos (suc k)) ≡ true → int_lt (pos 0 *ℤ pos (suc k)) (neg_ℤ z *ℤ pos 1) ≡ true
number_turns (pos n) k e = absurd (grind (arith, ints))
number_turns (negsuc n) k e = grind (arith, ints)

turned_sign : (q : Fraction) → is_below q none ≡ true → is_below none (minus q) ≡ true
turned_sign q h = number_turns q.numerator q.below h

opposites : (q a : Fraction) → plus (times q a) (times (minus q) a) ≡ none
opposites q a = sym (plus_times q (minus q) a) ∙ ap (λ x. times x a) (plus_opposite q) ∙ none_times a

-- what is the one way by one multiplier is the other way by its opposite
flips : (a b p q : Fraction) → ((a : Fraction) → plus (times q a) (times p a) ≡ none) → Le (times p a) (times p b) → Le (times q b) (times q a)
flips a b p q e h =
    le-trans (le-is (sym (ap (plus (times q b)) (e a) ∙ plus_none (times q b) ∙ lowest_of_times q b)))
    (le-trans (plus_mono (le-refl (times q b)) (plus_mono (le-refl (times q a)) h))
    (le-is (plus_left (times q b) (times q a) (times p b) ∙ ap (plus (times q a)) (e b) ∙ plus_none (times q a) ∙ lowest_of_times q a)))

turns : {a b : Fraction} (q : Fraction) → is_below q none ≡ true → Le a b → Le (times q b) (times q a)
turns {a = a} {b = b} q h k = flips a b (minus q) q (opposites q) (times_mono (minus q) (positive_le (positive_of (minus q) (turned_sign q h))) k)

unturns : {a b : Fraction} (q : Fraction) → is_below q none ≡ true → Le (times q b) (times q a) → Le a b
unturns {a = a} {b = b} q h k = untimes (minus q) (positive_of (minus q) (turned_sign q h)) (flips b a q (minus q) (λ a. plus_comm _ _ ∙ opposites q a) k)

pub most_turned : {x y : Amount} (q : Fraction) → is_below q none ≡ true → AtMostOf x y → AtMostOf (scaled q y) (scaled q x)
most_turned q p h = record {
  main = turns q p h.main;
  delta = λ t. turns q p (h.delta (unturns q p t));
}

pub less_turned : {x y : Amount} (q : Fraction) → is_below q none ≡ true → LessOf x y → LessOf (scaled q y) (scaled q x)
less_turned q p h = record {
  main = turns q p h.main;
  delta = λ t u. h.delta (unturns q p t) (unturns q p u);
}

-- Limits and values, each times a multiplier of the side's sign

pub met_scaled : (side : Side) (q : Fraction) (limit value : Amount) → has_sign side q ≡ true → is_broken_by side limit value ≡ false → AtMostOf (scaled q limit) (scaled q value)
met_scaled AtLeast q limit value p h = most_scaled q p (most_out limit value h)
met_scaled AtMost q limit value p h = most_turned q p (most_out value limit h)

pub full_scaled : (side : Side) (q : Fraction) (limit value : Amount) → has_sign side q ≡ true → has_room_by side limit value ≡ false → AtMostOf (scaled q value) (scaled q limit)
full_scaled AtLeast q limit value p h = most_scaled q p (most_out value limit h)
full_scaled AtMost q limit value p h = most_turned q p (most_out limit value h)

pub broken_scaled : (side : Side) (q : Fraction) (limit value : Amount) → has_sign side q ≡ true → is_broken_by side limit value ≡ true → LessOf (scaled q value) (scaled q limit)
broken_scaled AtLeast q limit value p h = less_scaled q p (less_out value limit h)
broken_scaled AtMost q limit value p h = less_turned q p (less_out limit value h)
