-- The sums of columns, by number and by term.
use Rattle.std.proofs.Common.{◌≡◌, ℕ, ◌<◌, ◌≤◌, ◌≢◌, pos, Bool, true, false, ◌&&◌, cond, List, [], ◌∷◌, length, get_or, set, Option, Some, None, refl, sym, ◌∙◌, ap, subst, arith}
use Rattle.std.specs.Prelude.{slice_get, slice_index_or, if◌then◌else◌}
use Rattle.std.proofs.lemmas.List.{get_or-set_same, get_or-set_other, length-set}
use Rattle.vx_frac.specs.Fractions.{Fraction, none, whole, lowest, sum, product, sum_fits, product_fits}
use Rattle.vx_frac.specs.declared.Op.TheVariants.{Add, Mul}
use Rattle.vx_frac.proofs.Lowest.{same-lowest}
use Rattle.vx_terms.specs.Sorts.{Symbol, Standard, Function, Variable, Named, same_text, same_symbol, operator_number}
use Rattle.vx_terms.specs.Terms.{Term, Truth, Number, Part, Constant, Apply, Not, Binary, Ite, AllOf, SomeOf, Terms, NoTerms, MoreTerms, same, same_all}
use Rattle.vx_terms.specs.Interpretations.{Each}
use Rattle.vx_terms.proofs.Same.{int_is, int_same, term_is}
use Rattle.vx_terms.proofs.Values.{bool_same, fraction_same}
use Rattle.cs_certificate.specs.Certificate.{At, Contains}
use Rattle.cs_certificate.specs.Linear.{Multiple, Column, Total, add_column, add_part}
use Rattle.cs_certificate.proofs.Fractions.{Eq, eq_refl, eq_trans, sum_eq, product_eq}
use Rattle.cs_certificate.proofs.Heads.{sort_same}
use Rattle.std.proofs.Common.{eq-eqb, eqb, ◌⊎◌, inl, inr}
use Rattle.std.proofs.lemmas.Bool.Decides.{eqb_tells}
use Rattle.std.proofs.lemmas.Bool.{and_from}
use Rattle.cs_farkas.specs.Sums.{Over, Outcome, Done, Leaves, Misses, ◌>>=◌, times, plus, Sums, add_constant}
use Rattle.cs_farkas.specs.Sums as by_number

-- what is done is so, and nothing misses
abbrev pub Fine : {A : Type 0} → (A → Type 0) → Outcome A → Type 0
Fine P (Done x) = P x
Fine P (Leaves o) = Unit {0}
Fine P Misses = ⊥

pub fine_then : {A B : Type 0} (P : A → Type 0) (Q : B → Type 0) (o : Outcome A) (f : A → Outcome B) → Fine P o → ((x : A) → P x → Fine Q (f x)) → Fine Q (o >>= f)
fine_then P Q (Done x) f h k = k x h
fine_then P Q (Leaves o) f h k = tt
fine_then P Q Misses f h k = absurd h

-- a fraction in lowest terms is the same
pub lowest_eq : (a : Fraction) → Eq (lowest a) a
lowest_eq a = record { cross = int_is _ _ (same-lowest a) }

pub times_fine : (a b : Fraction) → Fine (λ p. Eq p (product a b)) (times a b)
times_fine a b = go (product_fits a b) record { call = Mul; left = a; right = b }
  where
    go : (fits : Bool) (o : Over) → Fine (λ p. Eq p (product a b)) (if fits then Done (lowest (product a b)) else Leaves o)
    go true o = lowest_eq (product a b)
    go false o = tt

pub plus_fine : (a b : Fraction) → Fine (λ p. Eq p (sum a b)) (plus a b)
plus_fine a b = go (sum_fits a b) record { call = Add; left = a; right = b }
  where
    go : (fits : Bool) (o : Over) → Fine (λ p. Eq p (sum a b)) (if fits then Done (lowest (sum a b)) else Leaves o)
    go true o = lowest_eq (sum a b)
    go false o = tt

text_same : (x : List ℕ) → same_text x x ≡ true
text_same [] = refl
text_same (a ∷ x) = and_from _ _ (eq-eqb a a refl) (text_same x)

symbol_same : (f : Symbol) → same_symbol f f ≡ true
symbol_same (Standard n) = eq-eqb n n refl
symbol_same (Function n) = eq-eqb n n refl
symbol_same (Variable n) = eq-eqb n n refl
symbol_same (Named x) = text_same x

mutual
  pub term_same : (t : Term) → same t t ≡ true
  term_same (Truth b) = bool_same b
  term_same (Number z) = int_same z
  term_same (Part a) = fraction_same a
  term_same (Constant f a) = and_from _ _ (symbol_same f) (sort_same a)
  term_same (Apply f a ts) = and_from _ _ (symbol_same f) (and_from _ _ (sort_same a) (terms_same ts))
  term_same (Not t) = term_same t
  term_same (Binary o t u) = and_from _ _ (eq-eqb (operator_number o) (operator_number o) refl) (and_from _ _ (term_same t) (term_same u))
  term_same (Ite c t u) = and_from _ _ (term_same c) (and_from _ _ (term_same t) (term_same u))
  term_same (AllOf ts) = terms_same ts
  term_same (SomeOf ts) = terms_same ts

  terms_same : (ts : Terms) → same_all ts ts ≡ true
  terms_same NoTerms = refl
  terms_same (MoreTerms t ts) = and_from _ _ (term_same t) (terms_same ts)

pub other_term : (t u : Term) → (t ≡ u → ⊥) → same t u ≡ false
other_term t u h = go (same t u) refl
  where
    go : (b : Bool) → same t u ≡ b → b ≡ false
    go true e = absurd (h (term_is t u e))
    go false e = refl

-- the sum of a column
abbrev pub amount_of : Term → List Column → Fraction
amount_of t [] = none
amount_of t (c ∷ cs) = cond (same t c.term) c.amount (amount_of t cs)

abbrev pub by_term : List Column → Option Term → Fraction
by_term cs None = none
by_term cs (Some t) = amount_of t cs

pub amount_here : (t : Term) (q : Fraction) (cs : List Column) → amount_of t (add_column t q cs) ≡ sum (amount_of t cs) q
amount_here t q [] = ap (λ b. cond b (sum (whole (pos 0)) q) none) (term_same t)
amount_here t q (c ∷ cs) = go (same t c.term) refl (amount_here t q cs)
  where
    go : (b : Bool) → same t c.term ≡ b → amount_of t (add_column t q cs) ≡ sum (amount_of t cs) q →
        amount_of t (cond (same t c.term) (record { term = c.term; amount = sum c.amount q } ∷ cs) (c ∷ add_column t q cs)) ≡ sum (cond (same t c.term) c.amount (amount_of t cs)) q
    go true e h =
        ap (λ b. amount_of t (cond b (record { term = c.term; amount = sum c.amount q } ∷ cs) (c ∷ add_column t q cs))) e
        ∙ ap (λ b. cond b (sum c.amount q) (amount_of t cs)) e
        ∙ sym (ap (λ b. sum (cond b c.amount (amount_of t cs)) q) e)
    go false e h =
        ap (λ b. amount_of t (cond b (record { term = c.term; amount = sum c.amount q } ∷ cs) (c ∷ add_column t q cs))) e
        ∙ ap (λ b. cond b c.amount (amount_of t (add_column t q cs))) e
        ∙ h ∙ sym (ap (λ b. sum (cond b c.amount (amount_of t cs)) q) e)

pub amount_elsewhere : (t u : Term) (q : Fraction) (cs : List Column) → same u t ≡ false → amount_of u (add_column t q cs) ≡ amount_of u cs
amount_elsewhere t u q [] n = ap (λ b. cond b (sum (whole (pos 0)) q) none) n
amount_elsewhere t u q (c ∷ cs) n = go (same t c.term) refl (amount_elsewhere t u q cs n)
  where
    go : (b : Bool) → same t c.term ≡ b → amount_of u (add_column t q cs) ≡ amount_of u cs →
        amount_of u (cond (same t c.term) (record { term = c.term; amount = sum c.amount q } ∷ cs) (c ∷ add_column t q cs)) ≡ cond (same u c.term) c.amount (amount_of u cs)
    go true e h =
        let not_it : same u c.term ≡ false = ap (same u) (sym (term_is t c.term e)) ∙ n in
        ap (λ b. amount_of u (cond b (record { term = c.term; amount = sum c.amount q } ∷ cs) (c ∷ add_column t q cs))) e
        ∙ ap (λ b. cond b (sum c.amount q) (amount_of u cs)) not_it
        ∙ sym (ap (λ b. cond b c.amount (amount_of u cs)) not_it)
    go false e h =
        ap (λ b. amount_of u (cond b (record { term = c.term; amount = sum c.amount q } ∷ cs) (c ∷ add_column t q cs))) e
        ∙ ap (λ x. cond (same u c.term) c.amount x) h

-- each term has one column
abbrev pub Unique : List Column → Type 0
Unique [] = Unit {0}
Unique (c ∷ cs) = Each (λ d. same d.term c.term ≡ false) cs × Unique cs

each_added : (P : Term → Type 0) (t : Term) (q : Fraction) (cs : List Column) → P t → Each (λ d. P d.term) cs → Each (λ d. P d.term) (add_column t q cs)
each_added P t q [] p h = (p, tt)
each_added P t q (c ∷ cs) p h = go (same t c.term) (each_added P t q cs p h.1)
  where
    go : (b : Bool) → Each (λ d. P d.term) (add_column t q cs) → Each (λ d. P d.term) (cond b (record { term = c.term; amount = sum c.amount q } ∷ cs) (c ∷ add_column t q cs))
    go true k = (h.0, h.1)
    go false k = (h.0, k)

unique_added : (t : Term) (q : Fraction) (cs : List Column) → Unique cs → Unique (add_column t q cs)
unique_added t q [] h = (tt, tt)
unique_added t q (c ∷ cs) h = go (same t c.term) refl (unique_added t q cs h.1)
  where
    go : (b : Bool) → same t c.term ≡ b → Unique (add_column t q cs) → Unique (cond b (record { term = c.term; amount = sum c.amount q } ∷ cs) (c ∷ add_column t q cs))
    go true e k = (h.0, h.1)
    go false e k = (each_added (λ u. same u c.term ≡ false) t q cs e h.0, k)

-- the sums by number are those by term
pub record Agrees (terms : List Term) (s : Sums) (total : Total) : Type 0 where
  pub wide : length terms ≤ length s.columns
  pub constant : Eq s.constant total.constant
  pub each : (k : ℕ) → Eq (slice_index_or s.columns k none) (by_term total.columns (slice_get terms k))
  pub numbered : Each (λ c. Contains terms c.term) total.columns
  pub unique : Unique total.columns

abbrev pub to_constant : Fraction → Multiple
to_constant q = record { amount = q; column = None }

abbrev pub to_column : Fraction → Term → Multiple
to_column q t = record { amount = q; column = Some t }

module _ (terms : List Term) (m : Fraction) where
  pub constant_fine : (q q' : Fraction) (s : Sums) (total : Total) → Eq q q' → Agrees terms s total → Fine (λ s'. Agrees terms s' (add_part m total (to_constant q'))) (add_constant m q s)
  constant_fine q q' s total e a =
      fine_then (λ p. Eq p (product q m)) (λ s'. Agrees terms s' (add_part m total (to_constant q'))) (times q m) _ (times_fine q m)
      (λ p h. fine_then (λ c. Eq c (sum s.constant p)) (λ s'. Agrees terms s' (add_part m total (to_constant q'))) (plus s.constant p) _ (plus_fine s.constant p)
      (λ c k. record {
        wide = a.wide;
        constant = eq_trans k (sum_eq a.constant (eq_trans h (product_eq e (eq_refl m))));
        each = a.each;
        numbered = a.numbered;
        unique = a.unique;
      }))

  pub column_fine : ((i j : ℕ) (t : Term) → At terms i t → At terms j t → i ≡ j) → (k : ℕ) (t : Term) → At terms k t → k < length terms → (q q' : Fraction) (s : Sums) (total : Total) → Eq q q' → Agrees terms s total →
      Fine (λ s'. Agrees terms s' (add_part m total (to_column q' t))) (by_number.add_column m q k s)
  column_fine distinct k t at lt q q' s total e a =
      fine_then (λ p. Eq p (product q m)) (λ s'. Agrees terms s' (add_part m total (to_column q' t))) (times q m) _ (times_fine q m)
      (λ p h. fine_then (λ c. Eq c (sum (slice_index_or s.columns k none) p)) (λ s'. Agrees terms s' (add_part m total (to_column q' t))) (plus (slice_index_or s.columns k none) p) _ (plus_fine (slice_index_or s.columns k none) p)
      (λ c f. record {
        wide = subst (λ n. length terms ≤ n) (sym (length-set s.columns k c)) a.wide;
        constant = a.constant;
        each = written p c h f;
        numbered = each_added (Contains terms) t (product q' m) total.columns (k, at) a.numbered;
        unique = unique_added t (product q' m) total.columns a.unique;
      }))
    where
      after : List Column
      after = add_column t (product q' m) total.columns

      elsewhere : (j : ℕ) → j ≢ k → (o : Option Term) → slice_get terms j ≡ o → by_term (add_column t (product q' m) total.columns) o ≡ by_term total.columns o
      elsewhere j n None g = refl
      elsewhere j n (Some u) g = amount_elsewhere t u (product q' m) total.columns (other_term u t (λ same. n (distinct j k t (subst (At terms j) same g) at)))

      written : (p c : Fraction) → Eq p (product q m) → Eq c (sum (slice_index_or s.columns k none) p) → (j : ℕ) →
          Eq (slice_index_or (set s.columns k c) j none) (by_term (add_column t (product q' m) total.columns) (slice_get terms j))
      written p c h f j = go (eqb_tells j k)
        where
          go : (((eqb j k ≡ true) × (j ≡ k)) ⊎ ((eqb j k ≡ false) × (j ≢ k))) → Eq (slice_index_or (set s.columns k c) j none) (by_term (add_column t (product q' m) total.columns) (slice_get terms j))
          go (inl (t1, is)) =
              let here : slice_index_or (set s.columns k c) j none ≡ c = ap (λ i. get_or (set s.columns k c) i none) is ∙ get_or-set_same s.columns k c none (omega (arith, a.wide)) in
              let found : slice_get terms j ≡ Some t = ap (slice_get terms) is ∙ at in
              let before : Eq (slice_index_or s.columns k none) (amount_of t total.columns) = subst (λ o. Eq (slice_index_or s.columns k none) (by_term total.columns o)) at (a.each k) in
              let summed : Eq c (sum (amount_of t total.columns) (product q' m)) = eq_trans f (sum_eq before (eq_trans h (product_eq e (eq_refl m)))) in
              subst (λ x. Eq x (by_term (add_column t (product q' m) total.columns) (slice_get terms j))) (sym here)
              (subst (λ o. Eq c (by_term (add_column t (product q' m) total.columns) o)) (sym found)
              (subst (Eq c) (sym (amount_here t (product q' m) total.columns)) summed))
          go (inr (t1, n)) =
              subst (λ x. Eq x (by_term (add_column t (product q' m) total.columns) (slice_get terms j))) (sym (get_or-set_other s.columns k j c none n))
              (subst (Eq (slice_index_or s.columns j none)) (sym (elsewhere j n (slice_get terms j) refl)) (a.each j))
