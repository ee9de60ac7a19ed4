-- What holds of each item, and lists with the newest item first.
use Rattle.std.proofs.Common.{◌≡◌, ℕ, zero, suc, Bool, true, false, leb, ◌+◌, ◌-◌, ◌≤◌, List, [], ◌∷◌, ◌++◌, length, map, reverse, take, drop, refl, sym, ap, ap₂, subst, arith, ◌∙◌, length-append, length-drop}
use Rattle.std.proofs.Math.Nat.{le_of_lt}
use Rattle.std.proofs.lemmas.Bool.{leb-true, leb-false}
use Rattle.std.proofs.lemmas.List.{map-append, reverse-append, length-reverse, length-map, length-take-le, take-append-drop, take-map, take-take, take_all}
use Rattle.std.proofs.Math.Seq.{drop-append_seam}
use Rattle.std.proofs.Math.ListN.{drop_of_length-le}
use Rattle.std.proofs.lemmas.Option.{same_Some}
use Rattle.vx_terms.specs.Interpretations.{Each}
use Rattle.cs_certificate.specs.Certificate.{Contains}

-- ---- each

pub each_take : {A : Type 0} (P : A → Type 0) (n : ℕ) (xs : List A) → Each P xs → Each P (take n xs)
each_take P zero xs h = tt
each_take P (suc n) [] h = tt
each_take P (suc n) (x ∷ xs) h = (h.0, each_take P n xs h.1)

pub each_push : {A : Type 0} (P : A → Type 0) (xs : List A) (x : A) → Each P xs → P x → Each P (xs ++ x ∷ [])
each_push P [] x h p = (p, tt)
each_push P (y ∷ ys) x h p = (h.0, each_push P ys x h.1 p)

pub each_reverse : {A : Type 0} (P : A → Type 0) (xs : List A) → Each P xs → Each P (reverse xs)
each_reverse P [] h = tt
each_reverse P (x ∷ xs) h = subst (Each P) (sym (reverse-append (x ∷ []) xs)) (each_push P (reverse xs) x (each_reverse P xs h.1) h.0)

-- ---- what a list contains

contains_more : {A : Type 0} (xs ys : List A) (x : A) → Contains xs x → Contains (xs ++ ys) x
contains_more [] ys x (n, e) = cc
contains_more (y ∷ xs) ys x (zero, e) = (0, e)
contains_more (y ∷ xs) ys x (suc n, e) = let w = contains_more xs ys x (n, e) in (suc w.0, w.1)

contains_last : {A : Type 0} (xs : List A) (x : A) → Contains (xs ++ x ∷ []) x
contains_last [] x = (0, refl)
contains_last (y ∷ xs) x = let w = contains_last xs x in (suc w.0, w.1)

pub contains_reverse : {A : Type 0} (xs : List A) {x : A} → Contains xs x → Contains (reverse xs) x
contains_reverse [] (n, e) = cc
contains_reverse (y ∷ xs) {x = x} (zero, e) = subst (λ zs. Contains zs x) (sym (reverse-append (y ∷ []) xs)) (subst (Contains (reverse xs ++ y ∷ [])) (same_Some _ _ e) (contains_last (reverse xs) y))
contains_reverse (y ∷ xs) {x = x} (suc n, e) = subst (λ zs. Contains zs x) (sym (reverse-append (y ∷ []) xs)) (contains_more (reverse xs) (y ∷ []) x (contains_reverse xs (n, e)))

-- ---- one more, and fewer

pub newer : {A B : Type 0} (f : A → B) (xs : List A) (x : A) → reverse (map f (xs ++ x ∷ [])) ≡ f x ∷ reverse (map f xs)
newer f xs x = ap reverse (map-append f xs (x ∷ [])) ∙ reverse-append (map f xs) (f x ∷ [])

-- the first k and so many behind them, the other way round
parted : {A : Type 0} (k n : ℕ) (xs : List A) → length (drop k xs) ≡ n → drop n (reverse xs) ≡ reverse (take k xs)
parted k n xs e =
    let whole : reverse xs ≡ reverse (drop k xs) ++ reverse (take k xs) = ap reverse (sym (take-append-drop k xs)) ∙ reverse-append (take k xs) (drop k xs) in
    let long : length (reverse (drop k xs)) ≡ n = length-reverse (drop k xs) ∙ e in
    ap (drop n) whole ∙ (ap (λ m. drop m (reverse (drop k xs) ++ reverse (take k xs))) (sym long) ∙ drop-append_seam (reverse (drop k xs)) (reverse (take k xs)))

within : {A : Type 0} (n : ℕ) (xs : List A) → n ≤ length xs → reverse (take (length xs - n) xs) ≡ drop n (reverse xs)
within n xs h =
    let e : length (drop (length xs - n) xs) ≡ n = length-drop (length xs - n) xs ∙ omega arith in
    sym (parted (length xs - n) n xs e)

beyond : {A : Type 0} (n : ℕ) (xs : List A) → length xs ≤ n → reverse (take (length xs - n) xs) ≡ drop n (reverse xs)
beyond n xs h =
    let none : length xs - n ≡ 0 = omega arith in
    let few : length (reverse xs) ≤ n = rw (length-reverse xs) h in
    ap (λ k. reverse (take k xs)) none ∙ sym (drop_of_length-le (reverse xs) few)

by_size : {A : Type 0} (n : ℕ) (xs : List A) (b : Bool) → leb n (length xs) ≡ b → reverse (take (length xs - n) xs) ≡ drop n (reverse xs)
by_size n xs true e = within n xs (leb-true n (length xs) e)
by_size n xs false e = beyond n xs (le_of_lt (leb-false n (length xs) e))

pub left_out : {A : Type 0} (n : ℕ) (xs : List A) → reverse (take (length xs - n) xs) ≡ drop n (reverse xs)
left_out n xs = by_size n xs (leb n (length xs)) refl

-- of what the items stand for
pub fewer : {A B : Type 0} (f : A → B) (n : ℕ) (xs : List A) → reverse (map f (take (length xs - n) xs)) ≡ drop n (reverse (map f xs))
fewer f n xs =
    ap reverse (sym (take-map f (length xs - n) xs)) ∙ (ap (λ k. reverse (take (k - n) (map f xs))) (sym (length-map xs f)) ∙ left_out n (map f xs))

-- ---- one by one

one_fewer : {A : Type 0} (m : ℕ) (xs : List A) → m ≤ length xs → take (length (take m xs) - 1) (take m xs) ≡ take (m - 1) xs
one_fewer m xs h = ap (λ k. take (k - 1) (take m xs)) (length-take-le m xs h) ∙ take-take (m - 1) m xs (omega arith)

-- so many are gone, and then one more
pub gone_more : {A : Type 0} (n : ℕ) (xs ys zs : List A) → ys ≡ take (length xs - n) xs → zs ≡ take (length ys - 1) ys → zs ≡ take (length xs - (n + 1)) xs
gone_more n xs ys zs e f =
    let less : length xs - n - 1 ≡ length xs - (n + 1) = omega arith in
    f ∙ (ap (λ us. take (length us - 1) us) e ∙ (one_fewer (length xs - n) xs (omega arith) ∙ ap (λ k. take k xs) less))

pub none_gone : {A : Type 0} (xs : List A) → xs ≡ take (length xs - 0) xs
none_gone xs = sym (take_all (length xs - 0) xs (omega arith))

front : {A : Type 0} (xs : List A) (x : A) → take (length xs) (xs ++ x ∷ []) ≡ xs
front [] x = refl
front (y ∷ xs) x = ap (λ ys. y ∷ ys) (front xs x)

pub last_gone : {A : Type 0} (xs ys : List A) (y : A) → xs ≡ ys ++ y ∷ [] → ys ≡ take (length xs - 1) xs
last_gone xs ys y e =
    let long : length xs ≡ length ys + 1 = ap length e ∙ length-append ys (y ∷ []) in
    let less : length xs - 1 ≡ length ys = omega arith in
    sym (ap₂ take less e ∙ front ys y)
