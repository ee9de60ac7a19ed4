-- The bytes between two places of a buffer: more behind them, and fewer in front.
use Rattle.std.proofs.Common.{◌≡◌, ℕ, suc, ◌+◌, ◌-◌, ◌≤◌, List, [], ◌∷◌, ◌++◌, length, take, drop, refl, sym, ap, ◌∙◌, arith}
use Rattle.std.proofs.lemmas.List.{take-append-drop, take-append-le, drop-append-le, length-drop, length-take-le, drop-take}
use Rattle.vx_edge.specs.Ahead.{Grows}

none_more : (xs : List ℕ) → xs ≡ xs ++ []
none_more [] = refl
none_more (x ∷ xs) = ap (λ l. x ∷ l) (none_more xs)

joined : (xs ys zs : List ℕ) → (xs ++ ys) ++ zs ≡ xs ++ (ys ++ zs)
joined [] ys zs = refl
joined (x ∷ xs) ys zs = ap (λ l. x ∷ l) (joined xs ys zs)

-- ---- growing

pub grows_none : (xs : List ℕ) → Grows xs xs
grows_none xs = ([], none_more xs)

pub grows_on : (xs ys zs : List ℕ) → Grows xs ys → Grows ys zs → Grows xs zs
grows_on xs ys zs first then = (first.0 ++ then.0, then.1 ∙ ap (λ l. l ++ then.0) first.1 ∙ joined xs first.0 then.0)

-- ---- bytes of a buffer

take_over : (xs rest : List ℕ) (n : ℕ) → take (length xs + n) (xs ++ rest) ≡ xs ++ take n rest
take_over [] rest n = let on : 0 + n ≡ n = omega arith in ap (λ k. take k rest) on
take_over (x ∷ xs) rest n =
    let on : suc (length xs) + n ≡ suc (length xs + n) = omega arith in ap (λ k. take k (x ∷ xs ++ rest)) on ∙ ap (λ l. x ∷ l) (take_over xs rest n)

-- more behind a front that stays
pub reads_on : (from to count : ℕ) (before now : List ℕ) → from ≤ to → to ≤ length before → take to now ≡ take to before
    → Grows (drop from (take to before)) (drop from (take (to + count) now))
reads_on from to count before now order within same =
    let rest : List ℕ = take count (drop to now) in
    let long : length (take to now) ≡ to = ap length same ∙ length-take-le to before within in
    let over : take (to + count) now ≡ take to before ++ rest =
    ap (take (to + count)) (sym (take-append-drop to now)) ∙ ap (λ n. take (n + count) (take to now ++ drop to now)) (sym long) ∙ take_over (take to now) (drop to now) count
    ∙ ap (λ l. l ++ rest) same in
    let enough : from ≤ length (take to before) = rw (length-take-le to before within) order in
    (rest, ap (drop from) over ∙ drop-append-le from (take to before) rest enough)

-- how many there are
pub how_many : (from to : ℕ) (buffer : List ℕ) → to ≤ length buffer → length (drop from (take to buffer)) ≡ to - from
how_many from to buffer within = rw (length-drop from (take to buffer), length-take-le to buffer within) refl

-- the buffer is turned, so that they stand in front
pub turned : (from to : ℕ) (buffer : List ℕ) → from ≤ to → to ≤ length buffer
    → drop 0 (take (to - from) (drop from buffer ++ take from buffer)) ≡ drop from (take to buffer)
turned from to buffer order within =
    let short : to - from ≤ length (drop from buffer) = rw (length-drop from buffer) (omega arith) in
    let whole : from + (to - from) ≡ to = omega arith in
    take-append-le (to - from) (drop from buffer) (take from buffer) short ∙ sym (drop-take from (to - from) buffer) ∙ ap (λ n. drop from (take n buffer)) whole

-- more room behind them
pub roomier : (from to : ℕ) (buffer rest : List ℕ) → to ≤ length buffer → drop from (take to (buffer ++ rest)) ≡ drop from (take to buffer)
roomier from to buffer rest within = ap (λ l. drop from l) (take-append-le to buffer rest within)
