-- Congruent terms have one key, and congruence is an equivalence.
use Rattle.std.proofs.Common.{◌≡◌, ℕ, ◌<◌, true, false, nat_eq, ◌&&◌, List, [], ◌∷◌, length, get_or, Option, Some, None, sym, ◌∙◌, ap, ap₂, eq-eqb}
use Rattle.std.proofs.lemmas.Bool.{eqb-true, and_parts}
use Rattle.std.proofs.lemmas.Option.{slice_get-get_or}
use Rattle.cs_index.specs.Keys.{mixed}
use Rattle.cs_cong.specs.declared.congruent.Applied.{Applied}
use Rattle.cs_cong.specs.Joined.{all_same, alike}
use Rattle.cs_cong.specs.Signatures.{with_parts, signature_key, key_at}

-- ---- keys

same_parts : (f : ℕ → ℕ) (k l : ℕ) → k ≡ l → (xs ys : List ℕ) → all_same f xs ys ≡ true → with_parts k f xs ≡ with_parts l f ys
same_parts f k l e [] [] h = e
same_parts f k l e [] (y ∷ ys) h = absurd (let g : false ≡ true = h in cc)
same_parts f k l e (x ∷ xs) [] h = absurd (let g : false ≡ true = h in cc)
same_parts f k l e (x ∷ xs) (y ∷ ys) h =
    let p = and_parts (nat_eq (f x) (f y)) (all_same f xs ys) h in
    same_parts f (mixed k (f x)) (mixed l (f y)) (ap₂ mixed e (eqb-true _ _ p.0)) xs ys p.1

abbrev pub key_of : (ℕ → ℕ) → Option Applied → ℕ
key_of f o = elim o [ Some t ↦ signature_key f t | None ↦ 0 ]

pub same_key : (f : ℕ → ℕ) (s t : Option Applied) → alike f s t ≡ true → key_of f s ≡ key_of f t
same_key f (Some s) (Some t) h =
    let p = and_parts (nat_eq s.head t.head) (all_same f s.parts.items t.parts.items) h in
    same_parts f s.head t.head (eqb-true _ _ p.0) s.parts.items t.parts.items p.1
same_key f None t h = absurd (let g : false ≡ true = h in cc)
same_key f (Some s) None h = absurd (let g : false ≡ true = h in cc)

-- ---- congruence is an equivalence
chained : (f : ℕ → ℕ) (xs ys zs : List ℕ) → all_same f xs ys ≡ true → all_same f ys zs ≡ true → all_same f xs zs ≡ true
chained f [] [] zs g h = h
chained f [] (y ∷ ys) zs g h = absurd (let e : false ≡ true = g in cc)
chained f (x ∷ xs) [] zs g h = absurd (let e : false ≡ true = g in cc)
chained f (x ∷ xs) (y ∷ ys) [] g h = absurd (let e : false ≡ true = h in cc)
chained f (x ∷ xs) (y ∷ ys) (z ∷ zs) g h =
    let p = and_parts (nat_eq (f x) (f y)) (all_same f xs ys) g in
    let q = and_parts (nat_eq (f y) (f z)) (all_same f ys zs) h in
    ap₂ (λ a b. a && b) (eq-eqb _ _ (eqb-true _ _ p.0 ∙ eqb-true _ _ q.0)) (chained f xs ys zs p.1 q.1)

pub alike_on : (f : ℕ → ℕ) (s t u : Option Applied) → alike f s t ≡ true → alike f t u ≡ true → alike f s u ≡ true
alike_on f (Some s) (Some t) (Some u) g h =
    let p = and_parts (nat_eq s.head t.head) (all_same f s.parts.items t.parts.items) g in
    let q = and_parts (nat_eq t.head u.head) (all_same f t.parts.items u.parts.items) h in
    ap₂ (λ a b. a && b) (eq-eqb _ _ (eqb-true _ _ p.0 ∙ eqb-true _ _ q.0)) (chained f s.parts.items t.parts.items u.parts.items p.1 q.1)
alike_on f None t u g h = absurd (let e : false ≡ true = g in cc)
alike_on f (Some s) None u g h = absurd (let e : false ≡ true = g in cc)
alike_on f (Some s) (Some t) None g h = absurd (let e : false ≡ true = h in cc)

-- ---- terms by number

pub key_read : (terms : List Applied) (f : ℕ → ℕ) (a : ℕ) (t : Applied) → a < length terms → t ≡ get_or terms a t → key_at terms f a ≡ signature_key f t
key_read terms f a t lt e = ap (key_of f) (slice_get-get_or terms a t lt) ∙ ap (signature_key f) (sym e)
