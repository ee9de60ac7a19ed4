-- The clause of each kind of step, by numbers that are cut to 32 bits.
use Rattle.std.proofs.Common.{◌≡◌, ℕ, ◌<◌, ◌^◌, List, Option, Some, None, length, refl, sym, ◌∙◌, subst, arith}
use Rattle.std.proofs.lemmas.Option.{slice_get_within}
use Rattle.vx_terms.specs.Terms.{Term}
use Rattle.cs_certificate.specs.Certificate.{AllAt, one-term, Contains, Clause, Stack, State, Input, Define, Pick, Chain, Congruence, Split, Trichotomy, Divide, IsAnd, and-of-two, and-of-more, IsOr, or-of-two, or-of-more, Defines, true-is, false-is, not-0, not-1, and-part, and-all, or-part, or-all, implies-0, implies-1, implies-2, ite-0, ite-1, ite-2, ite-3, equal-0, equal-1, equal-2, equal-3, Derives, input, define, pick-then, pick-else, chain, congruence, split, trichotomy, divide-0, divide-1, divide-2}
use Rattle.cs_certificate.specs.Nodes.{Node}
use Rattle.cs_certificate.specs.Steps.{◌>>=◌, Computes, ComputesSteps, define_clause, pick_clause, chain_clause, congruence_clause, split_clause, trichotomy_clause, divide_clause}
use Rattle.cs_numbers.specs.Numbering.{input_clause}
use Rattle.cs_numbers.specs.Parts.{HasFewParts}
use Rattle.cs_numbers.proofs.Tables.{input_by_number}
use Rattle.cs_proof.specs.Prepared.{narrow, narrow_all, clause_by}
use Rattle.cs_proof.proofs.Narrowed.{small_at, all_narrow, narrowed_all, by_narrow}

and_small : (t : Term) (xs : List Term) → HasFewParts t → IsAnd t xs → length xs < 2 ^ 32
and_small t xs b (and-of-two x y) = omega arith
and_small t xs b (and-of-more ts) = b

or_small : (t : Term) (xs : List Term) → HasFewParts t → IsOr t xs → length xs < 2 ^ 32
or_small t xs b (or-of-two x y) = omega arith
or_small t xs b (or-of-more ts) = b

row_small : (t : Term) (k : ℕ) (c : Clause) → HasFewParts t → Defines t k c → k < 2 ^ 32
row_small t k c b true-is = omega arith
row_small t k c b false-is = omega arith
row_small t k c b (not-0 x) = omega arith
row_small t k c b (not-1 x) = omega arith
row_small t k c b (and-part {xs = xs} a at) = let l = slice_get_within xs k _ at in let m = and_small t xs b a in omega arith
row_small t k c b (and-all {xs = xs} a) = and_small t xs b a
row_small t k c b (or-part {xs = xs} a at) = let l = slice_get_within xs k _ at in let m = or_small t xs b a in omega arith
row_small t k c b (or-all {xs = xs} a) = or_small t xs b a
row_small t k c b (implies-0 x y) = omega arith
row_small t k c b (implies-1 x y) = omega arith
row_small t k c b (implies-2 x y) = omega arith
row_small t k c b (ite-0 d x y s) = omega arith
row_small t k c b (ite-1 d x y s) = omega arith
row_small t k c b (ite-2 d x y s) = omega arith
row_small t k c b (ite-3 d x y s) = omega arith
row_small t k c b (equal-0 x y s u) = omega arith
row_small t k c b (equal-1 x y s u) = omega arith
row_small t k c b (equal-2 x y s u) = omega arith
row_small t k c b (equal-3 x y s u) = omega arith

module _ (stack : Stack) (s : State) (small : length s.terms < 2 ^ 32) (few : length stack.assertions < 2 ^ 32) (few_parts : (t : Term) → Contains s.terms t → HasFewParts t) where
  input_small : {n : ℕ} (c : Clause) → Derives stack s (Input n) c → n < 2 ^ 32
  input_small {n} c (input at) = let k = slice_get_within stack.assertions n _ at in omega arith

  define_small : {n k : ℕ} (c : Clause) → Derives stack s (Define n k) c → n < 2 ^ 32
  define_small {n} c (define at d) = small_at s.terms n _ small at

  define_row : {n k : ℕ} (c : Clause) → Derives stack s (Define n k) c → k < 2 ^ 32
  define_row {n} {k} c (define {t = t} at d) = row_small t k c (few_parts t (n, at)) d

  pick_small : {n k : ℕ} (c : Clause) → Derives stack s (Pick n k) c → n < 2 ^ 32
  pick_small {n} c (pick-then at h e) = small_at s.terms n _ small at
  pick_small {n} c (pick-else at h e) = small_at s.terms n _ small at

  pick_row : {n k : ℕ} (c : Clause) → Derives stack s (Pick n k) c → k < 2 ^ 32
  pick_row c (pick-then at h e) = omega arith
  pick_row c (pick-else at h e) = omega arith

  chain_narrow : {ns : List ℕ} (c : Clause) → Derives stack s (Chain ns) c → narrow_all ns ≡ Some ns
  chain_narrow c (chain at all l e) = all_narrow s.terms small (one-term at all)

  left_small : {m n : ℕ} (c : Clause) → Derives stack s (Congruence m n) c → m < 2 ^ 32
  left_small {m} {n} c (congruence at at' h p e) = small_at s.terms m _ small at

  right_small : {m n : ℕ} (c : Clause) → Derives stack s (Congruence m n) c → n < 2 ^ 32
  right_small {m} {n} c (congruence at at' h p e) = small_at s.terms n _ small at'

  split_small : {n : ℕ} {z : _} (c : Clause) → Derives stack s (Split n z) c → n < 2 ^ 32
  split_small {n} c (split at h a b) = small_at s.terms n _ small at

  first_small : {m n : ℕ} (c : Clause) → Derives stack s (Trichotomy m n) c → m < 2 ^ 32
  first_small {m} {n} c (trichotomy at at' i h k a e b) = small_at s.terms m _ small at

  second_small : {m n : ℕ} (c : Clause) → Derives stack s (Trichotomy m n) c → n < 2 ^ 32
  second_small {m} {n} c (trichotomy at at' i h k a e b) = small_at s.terms n _ small at'

  dividend_small : {m n k : ℕ} (c : Clause) → Derives stack s (Divide m n k) c → m < 2 ^ 32
  dividend_small {m} {n} c (divide-0 at at' h i e) = small_at s.terms m _ small at
  dividend_small {m} {n} c (divide-1 at at' h i e) = small_at s.terms m _ small at
  dividend_small {m} {n} c (divide-2 at at' h i e) = small_at s.terms m _ small at

  divisor_small : {m n k : ℕ} (c : Clause) → Derives stack s (Divide m n k) c → n < 2 ^ 32
  divisor_small {m} {n} c (divide-0 at at' h i e) = small_at s.terms n _ small at'
  divisor_small {m} {n} c (divide-1 at at' h i e) = small_at s.terms n _ small at'
  divisor_small {m} {n} c (divide-2 at at' h i e) = small_at s.terms n _ small at'

  division_row : {m n k : ℕ} (c : Clause) → Derives stack s (Divide m n k) c → k < 2 ^ 32
  division_row c (divide-0 at at' h i e) = omega arith
  division_row c (divide-1 at at' h i e) = omega arith
  division_row c (divide-2 at at' h i e) = omega arith

  module _ (nodes : List Node) (roots : List ℕ) (by : ComputesSteps nodes s stack) (at_roots : AllAt s.terms roots stack.assertions) where
    pub by_input : (n : ℕ) → Computes nodes s stack (Input n) (clause_by nodes roots (Input n))
    by_input n = by_narrow s stack nodes (Input n) n (input_clause roots) input_small (input_by_number nodes s stack roots at_roots n)

    pub by_define : (t k : ℕ) → Computes nodes s stack (Define t k) (clause_by nodes roots (Define t k))
    by_define t k = by_narrow s stack nodes (Define t k) t (λ t. narrow k >>= define_clause nodes t) define_small (by_narrow s stack nodes (Define t k) k (define_clause nodes t) define_row (by.define t k))

    pub by_pick : (t k : ℕ) → Computes nodes s stack (Pick t k) (clause_by nodes roots (Pick t k))
    by_pick t k = by_narrow s stack nodes (Pick t k) t (λ t. narrow k >>= pick_clause nodes t) pick_small (by_narrow s stack nodes (Pick t k) k (pick_clause nodes t) pick_row (by.pick t k))

    pub by_chain : (ns : List ℕ) → Computes nodes s stack (Chain ns) (clause_by nodes roots (Chain ns))
    by_chain ns = go (narrow_all ns) refl
      where
        go : (o : Option (List ℕ)) → narrow_all ns ≡ o → Computes nodes s stack (Chain ns) (o >>= chain_clause nodes)
        go (Some ms) e = subst (λ l. Computes nodes s stack (Chain ns) (chain_clause nodes l)) (sym (narrowed_all ns ms e)) (by.chain ns)
        go None e = record {
          sound = λ ls f. cc;
          complete = λ c d. absurd (let f : Some ns ≡ None = sym (chain_narrow c d) ∙ e in cc);
        }

    pub by_congruence : (m n : ℕ) → Computes nodes s stack (Congruence m n) (clause_by nodes roots (Congruence m n))
    by_congruence m n = by_narrow s stack nodes (Congruence m n) m (λ m. narrow n >>= congruence_clause nodes m) left_small (by_narrow s stack nodes (Congruence m n) n (congruence_clause nodes m) right_small (by.congruence m n))

    pub by_split : (t : ℕ) (z : _) → Computes nodes s stack (Split t z) (clause_by nodes roots (Split t z))
    by_split t z = by_narrow s stack nodes (Split t z) t (λ t. split_clause nodes t z) split_small (by.split t z)

    pub by_trichotomy : (m n : ℕ) → Computes nodes s stack (Trichotomy m n) (clause_by nodes roots (Trichotomy m n))
    by_trichotomy m n = by_narrow s stack nodes (Trichotomy m n) m (λ m. narrow n >>= trichotomy_clause nodes m) first_small (by_narrow s stack nodes (Trichotomy m n) n (trichotomy_clause nodes m) second_small (by.trichotomy m n))

    pub by_divide : (m n k : ℕ) → Computes nodes s stack (Divide m n k) (clause_by nodes roots (Divide m n k))
    by_divide m n k =
        by_narrow s stack nodes (Divide m n k) m (λ m. narrow n >>= λ n. (narrow k >>= divide_clause nodes m n)) dividend_small
        (by_narrow s stack nodes (Divide m n k) n (λ n. narrow k >>= divide_clause nodes m n) divisor_small
        (by_narrow s stack nodes (Divide m n k) k (divide_clause nodes m n) division_row (by.divide m n k)))
