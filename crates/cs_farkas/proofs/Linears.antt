-- A term that is read by number adds what it adds by term.
use Rattle.std.proofs.Common.{◌≡◌, ℕ, zero, suc, ◌+◌, ◌<◌, ◌≤◌, Bool, true, false, cond, List, [], ◌∷◌, ◌++◌, length, Option, Some, None, refl, sym, ◌∙◌, ap, ap₂, subst, arith}
use Rattle.std.specs.Prelude.{nat_lt}
use Rattle.std.proofs.lemmas.Bool.{lt-ltb, ltb-true}
use Rattle.std.proofs.lemmas.Option.{same_Some}
use Rattle.vx_frac.specs.Fractions.{Fraction, whole, product}
use Rattle.vx_terms.specs.Sorts.{Operator, And, Or, Implies, Equal, Less, LessEqual, Add, Subtract, Multiply, Div, Mod}
use Rattle.vx_terms.specs.Terms.{Term, Truth, Number, Part, Constant, Apply, Not, Binary, Ite, AllOf, SomeOf}
use Rattle.cs_certificate.specs.Terms.{head, parts}
use Rattle.cs_certificate.specs.Certificate.{At, AllAt, no-terms, one-term}
use Rattle.cs_certificate.specs.Linear.{minus_one, Multiple, Total, literal, multiple_by, linear, of_column, add_part, add_parts}
use Rattle.cs_certificate.proofs.Fractions.{Eq, eq_refl, eq_trans, product_eq}
use Rattle.cs_certificate.specs.Nodes.{Node, Represents}
use Rattle.cs_certificate.proofs.Find.{one_at}
use Rattle.cs_farkas.specs.Sums.{Sums, ◌>>=◌, times, add_constant, add_column, literal_of, literal_at, multiple, of_head, read_as, read_node, read_term}
use Rattle.cs_farkas.specs.Sums as by_number
use Rattle.cs_farkas.proofs.Amounts.{Fine, fine_then, times_fine, Agrees, constant_fine, column_fine, to_constant, to_column}

-- a part is smaller than the whole
abbrev pub size : Term → ℕ
size (Binary o a b) = suc (size a + size b)
size t = 0

-- how many terms are smaller
abbrev pub below : ℕ → List Term → ℕ
below n [] = 0
below n (t ∷ ts) = cond (nat_lt (size t) n) 1 0 + below n ts

counted : (b : Bool) → cond b 1 0 ≤ 1
counted true = omega arith
counted false = omega arith

pub below_all : (n : ℕ) (ts : List Term) → below n ts ≤ length ts
below_all n [] = omega arith
below_all n (t ∷ ts) = go (cond (nat_lt (size t) n) 1 0) (below n ts) (length ts) (counted (nat_lt (size t) n)) (below_all n ts)
  where
    go : (a b m : ℕ) → a ≤ 1 → b ≤ m → a + b ≤ suc m
    go a b m x y = omega arith

one_more : (s m n : ℕ) → m ≤ n → cond (nat_lt s m) 1 0 ≤ cond (nat_lt s n) 1 0
one_more s m n le = go (nat_lt s m) (nat_lt s n) refl refl
  where
    go : (a b : Bool) → nat_lt s m ≡ a → nat_lt s n ≡ b → cond a 1 0 ≤ cond b 1 0
    go false b e f = zero_least (cond b 1 0)
      where
        zero_least : (k : ℕ) → 0 ≤ k
        zero_least k = omega arith
    go true true e f = omega arith
    go true false e f =
        let l : s < m = ltb-true s m e in
        let k : nat_lt s n ≡ true = lt-ltb s n (omega arith) in
        absurd (let g : true ≡ false = sym k ∙ f in cc)

below_more : (m n : ℕ) (ts : List Term) → m ≤ n → below m ts ≤ below n ts
below_more m n [] le = omega arith
below_more m n (t ∷ ts) le = go _ _ _ _ (one_more (size t) m n le) (below_more m n ts le)
  where
    go : (a b c d : ℕ) → a ≤ b → c ≤ d → a + c ≤ b + d
    go a b c d x y = omega arith

pub fewer : (m n : ℕ) (ts : List Term) (k : ℕ) (t : Term) → At ts k t → m ≤ size t → size t < n → below m ts < below n ts
fewer m n [] k t e l g = cc
fewer m n (u ∷ us) zero t e l g =
    let is : u ≡ t = same_Some _ _ e in
    let low : nat_lt (size u) m ≡ false = not_below (size u) m (subst (λ x. m ≤ size x) (sym is) l) in
    let high : nat_lt (size u) n ≡ true = lt-ltb (size u) n (subst (λ x. size x < n) (sym is) g) in
    let le : m ≤ n = between m (size t) n l g in
    go (nat_lt (size u) m) (nat_lt (size u) n) low high (below m us) (below n us) (below_more m n us le)
  where
    between : (a b c : ℕ) → a ≤ b → b < c → a ≤ c
    between a b c x y = omega arith

    not_below : (s b : ℕ) → b ≤ s → nat_lt s b ≡ false
    not_below s b h = pick (nat_lt s b) refl
      where
        pick : (d : Bool) → nat_lt s b ≡ d → d ≡ false
        pick true e = absurd (let x : s < b = ltb-true s b e in omega arith)
        pick false e = refl

    go : (a b : Bool) → a ≡ false → b ≡ true → (c d : ℕ) → c ≤ d → cond a 1 0 + c < cond b 1 0 + d
    go true b e f c d h = absurd (cc)
    go false true e f c d h = omega arith
    go false false e f c d h = absurd (cc)
fewer m n (u ∷ us) (suc k) t e l g = go _ _ _ _ (one_more (size u) m n (between m (size t) n l g)) (fewer m n us k t e l g)
  where
    between : (a b c : ℕ) → a ≤ b → b < c → a ≤ c
    between a b c x y = omega arith

    go : (a b c d : ℕ) → a ≤ b → c < d → a + c < b + d
    go a b c d x y = omega arith

-- as many layers as there are smaller terms and itself
abbrev pub layers : List Term → Term → ℕ
layers terms t = below (suc (size t)) terms

pub append_parts : (m : Fraction) (total : Total) (xs ys : List Multiple) → add_parts m total (xs ++ ys) ≡ add_parts m (add_parts m total xs) ys
append_parts m total [] ys = refl
append_parts m total (x ∷ xs) ys = append_parts m (add_part m total x) xs ys

at_below : {A : Type 0} (xs : List A) (k : ℕ) (x : A) → At xs k x → k < length xs
at_below [] k x e = cc
at_below (y ∷ ys) zero x e = omega arith
at_below (y ∷ ys) (suc k) x e = let h = at_below ys k x e in omega arith

literal_heads : (t : Term) → literal_of (head t) ≡ literal t
literal_heads (Truth b) = refl
literal_heads (Number z) = refl
literal_heads (Part a) = refl
literal_heads (Constant f a) = refl
literal_heads (Apply f a ts) = refl
literal_heads (Not t) = refl
literal_heads (Binary o t u) = refl
literal_heads (Ite c t u) = refl
literal_heads (AllOf ts) = refl
literal_heads (SomeOf ts) = refl

module _ (nodes : List Node) (terms : List Term) (r : Represents nodes terms) (m : Fraction) where
  -- a node's head is its term's
  pub head_at : (k : ℕ) (t : Term) → At terms k t → (n : Node) × At nodes k n × (n.head ≡ head t) × AllAt terms n.parts (parts t)
  head_at k t at =
      let n = r.every k t at in
      let v = r.each k n.0 n.1 in
      let is : v.0 ≡ t = one_at terms k v.0 t v.1 at in
      (n.0, n.1, sym (v.2).same_head ∙ ap head is, subst (λ x. AllAt terms (n.0).parts (parts x)) is (v.2).same_parts)

  literal_is : (k : ℕ) (t : Term) → At terms k t → literal_at nodes k ≡ literal t
  literal_is k t at =
      let n = head_at k t at in
      ap (λ o. elim o [ Some x ↦ literal_of x.head | None ↦ None ]) n.1 ∙ ap literal_of n.2 ∙ literal_heads t

  -- what is read with so many layers
  abbrev Reads : ℕ → Type 0
  Reads n = (t : Term) (k : ℕ) (q q' : Fraction) (s : Sums) (total : Total) → At terms k t → Agrees terms s total → Eq q q' → layers terms t ≤ n → Fine (λ s'. Agrees terms s' (add_parts m total (linear q' t))) (read_term nodes n m q k s)

  module _ (n : ℕ) (deeper : Reads n) (k : ℕ) (q q' : Fraction) (s : Sums) (total : Total) (a : Agrees terms s total) (e : Eq q q') where
    literal_fine : (z : Fraction) → Fine (λ s'. Agrees terms s' (add_part m total (to_constant (product q' z)))) (times q z >>= λ p. add_constant m p s)
    literal_fine z =
        fine_then (λ p. Eq p (product q z)) (λ s'. Agrees terms s' (add_part m total (to_constant (product q' z)))) (times q z) _ (times_fine q z)
        (λ p h. constant_fine terms m p (product q' z) s total (eq_trans h (product_eq e (eq_refl z))) a)

    own_fine : (t : Term) → At terms k t → Fine (λ s'. Agrees terms s' (add_part m total (to_column q' t))) (add_column m q k s)
    own_fine t at = column_fine terms m r.distinct k t at (at_below terms k t at) q q' s total e a

    fits : (o : Operator) (t u x : Term) → At terms k (Binary o t u) → layers terms (Binary o t u) ≤ suc n → size x < size (Binary o t u) → layers terms x ≤ n
    fits o t u x at l g =
        let f = fewer (suc (size x)) (suc (size (Binary o t u))) terms k (Binary o t u) at (omega arith) (omega arith) in
        less_one (layers terms x) (layers terms (Binary o t u)) n f l
      where
        less_one : (a b c : ℕ) → a < b → b ≤ suc c → a ≤ c
        less_one a b c x y = omega arith

    left_small : (o : Operator) (t u : Term) → size t < size (Binary o t u)
    left_small o t u = go (size t) (size u)
      where
        go : (a b : ℕ) → a < suc (a + b)
        go a b = omega arith

    right_small : (o : Operator) (t u : Term) → size u < size (Binary o t u)
    right_small o t u = go (size t) (size u)
      where
        go : (a b : ℕ) → b < suc (a + b)
        go a b = omega arith

    sum_fine : (t u : Term) (i j : ℕ) → At terms k (Binary Add t u) → At terms i t → At terms j u → layers terms (Binary Add t u) ≤ suc n →
        Fine (λ s'. Agrees terms s' (add_parts m total (linear q' t ++ linear q' u))) (read_term nodes n m q i s >>= read_term nodes n m q j)
    sum_fine t u i j at p w l =
        subst (λ x. Fine (λ s'. Agrees terms s' x) (read_term nodes n m q i s >>= read_term nodes n m q j)) (sym (append_parts m total (linear q' t) (linear q' u)))
        (fine_then (λ s'. Agrees terms s' (add_parts m total (linear q' t))) (λ s'. Agrees terms s' (add_parts m (add_parts m total (linear q' t)) (linear q' u))) (read_term nodes n m q i s) (read_term nodes n m q j)
        (deeper t i q q' s total p a e (fits Add t u t at l (left_small Add t u)))
        (λ x h. deeper u j q q' x (add_parts m total (linear q' t)) w h e (fits Add t u u at l (right_small Add t u))))

    difference_fine : (t u : Term) (i j : ℕ) → At terms k (Binary Subtract t u) → At terms i t → At terms j u → layers terms (Binary Subtract t u) ≤ suc n →
        Fine (λ s'. Agrees terms s' (add_parts m total (linear q' t ++ linear (product q' minus_one) u))) (read_term nodes n m q i s >>= λ left. (times q minus_one >>= λ r. read_term nodes n m r j left))
    difference_fine t u i j at p w l =
        subst (λ x. Fine (λ s'. Agrees terms s' x) (read_term nodes n m q i s >>= λ left. (times q minus_one >>= λ r. read_term nodes n m r j left))) (sym (append_parts m total (linear q' t) (linear (product q' minus_one) u)))
        (fine_then (λ s'. Agrees terms s' (add_parts m total (linear q' t))) (λ s'. Agrees terms s' (add_parts m (add_parts m total (linear q' t)) (linear (product q' minus_one) u))) (read_term nodes n m q i s) (λ left. (times q minus_one >>= λ r. read_term nodes n m r j left))
        (deeper t i q q' s total p a e (fits Subtract t u t at l (left_small Subtract t u)))
        (λ x h. fine_then (λ p. Eq p (product q minus_one)) (λ s'. Agrees terms s' (add_parts m (add_parts m total (linear q' t)) (linear (product q' minus_one) u))) (times q minus_one) (λ r. read_term nodes n m r j x) (times_fine q minus_one)
        (λ f g. deeper u j f (product q' minus_one) x (add_parts m total (linear q' t)) w h (eq_trans g (product_eq e (eq_refl minus_one))) (fits Subtract t u u at l (right_small Subtract t u)))))

    scaled_fine : (t u x : Term) (z : Fraction) (i : ℕ) → At terms k (Binary Multiply t u) → At terms i x → layers terms (Binary Multiply t u) ≤ suc n → size x < size (Binary Multiply t u) →
        Fine (λ s'. Agrees terms s' (add_parts m total (linear (product q' z) x))) (times q z >>= λ f. read_term nodes n m f i s)
    scaled_fine t u x z i at w l g =
        fine_then (λ p. Eq p (product q z)) (λ s'. Agrees terms s' (add_parts m total (linear (product q' z) x))) (times q z) (λ f. read_term nodes n m f i s) (times_fine q z)
        (λ f h. deeper x i f (product q' z) s total w a (eq_trans h (product_eq e (eq_refl z))) (fits Multiply t u x at l g))

    product_fine : (t u : Term) (i j : ℕ) → At terms k (Binary Multiply t u) → At terms i t → At terms j u → layers terms (Binary Multiply t u) ≤ suc n → (x y : Option Fraction) →
        Fine (λ s'. Agrees terms s' (add_parts m total (multiple_by x y (λ z. linear (product q' z) u) (λ z. linear (product q' z) t) (of_column q' (Binary Multiply t u))))) (read_as (read_term nodes n m) m q k s (multiple x y i j))
    product_fine t u i j at p w l (Some z) y = scaled_fine t u u z j at w l (right_small Multiply t u)
    product_fine t u i j at p w l None (Some z) = scaled_fine t u t z i at p l (left_small Multiply t u)
    product_fine t u i j at p w l None None = own_fine (Binary Multiply t u) at

    operator_fine : (o : Operator) (t u : Term) (i j : ℕ) → At terms k (Binary o t u) → At terms i t → At terms j u → layers terms (Binary o t u) ≤ suc n →
        Fine (λ s'. Agrees terms s' (add_parts m total (linear q' (Binary o t u)))) (read_as (read_term nodes n m) m q k s (by_number.of_operator nodes o i j))
    operator_fine Add t u i j at p w l = sum_fine t u i j at p w l
    operator_fine Subtract t u i j at p w l = difference_fine t u i j at p w l
    operator_fine Multiply t u i j at p w l =
        subst (λ x. Fine (λ s'. Agrees terms s' (add_parts m total (linear q' (Binary Multiply t u)))) (read_as (read_term nodes n m) m q k s x)) (sym (ap₂ (λ x y. multiple x y i j) (literal_is i t p) (literal_is j u w)))
        (product_fine t u i j at p w l (literal t) (literal u))
    operator_fine And t u i j at p w l = own_fine (Binary And t u) at
    operator_fine Or t u i j at p w l = own_fine (Binary Or t u) at
    operator_fine Implies t u i j at p w l = own_fine (Binary Implies t u) at
    operator_fine Equal t u i j at p w l = own_fine (Binary Equal t u) at
    operator_fine Less t u i j at p w l = own_fine (Binary Less t u) at
    operator_fine LessEqual t u i j at p w l = own_fine (Binary LessEqual t u) at
    operator_fine Div t u i j at p w l = own_fine (Binary Div t u) at
    operator_fine Mod t u i j at p w l = own_fine (Binary Mod t u) at

    head_fine : (t : Term) (ps : List ℕ) → At terms k t → AllAt terms ps (parts t) → layers terms t ≤ suc n →
        Fine (λ s'. Agrees terms s' (add_parts m total (linear q' t))) (read_as (read_term nodes n m) m q k s (of_head nodes (head t) ps))
    head_fine (Truth b) ps at p l = own_fine (Truth b) at
    head_fine (Number z) ps at p l = literal_fine (whole z)
    head_fine (Part z) ps at p l = literal_fine z
    head_fine (Constant f b) ps at p l = own_fine (Constant f b) at
    head_fine (Apply f b ts) ps at p l = own_fine (Apply f b ts) at
    head_fine (Not t) ps at p l = own_fine (Not t) at
    head_fine (Binary o t u) _ at (one-term {n = i} p (one-term {n = j} w no-terms)) l = operator_fine o t u i j at p w l
    head_fine (Ite c t u) ps at p l = own_fine (Ite c t u) at
    head_fine (AllOf ts) ps at p l = own_fine (AllOf ts) at
    head_fine (SomeOf ts) ps at p l = own_fine (SomeOf ts) at

  one_layer : (t : Term) (k : ℕ) → At terms k t → layers terms t ≤ 0 → ⊥
  one_layer t k at l = let f = fewer 0 (suc (size t)) terms k t at (omega arith) (omega arith) in omega (arith, f, l)

  pub reads : (n : ℕ) → Reads n
  reads zero t k q q' s total at a e l = absurd (one_layer t k at l)
  reads (suc n) t k q q' s total at a e l =
      let x = head_at k t at in
      subst (λ o. Fine (λ s'. Agrees terms s' (add_parts m total (linear q' t))) (read_node nodes (read_term nodes n m) m q k s o)) (sym x.1)
      (subst (λ h. Fine (λ s'. Agrees terms s' (add_parts m total (linear q' t))) (read_as (read_term nodes n m) m q k s (of_head nodes h (x.0).parts))) (sym x.2)
      (head_fine n (reads n) k q q' s total a e t (x.0).parts at x.3 l))
