-- Sums over more columns than there are terms: those beyond stay 0.
use Rattle.std.proofs.Common.{◌≡◌, ℕ, zero, suc, ◌+◌, ◌-◌, ◌<◌, ◌≤◌, Bool, true, false, ◌&&◌, ◌||◌, List, [], ◌∷◌, ◌++◌, Option, Some, None, length, replicate, refl, sym, ◌∙◌, ap, subst, arith}
use Rattle.std.specs.Prelude.{slice_get, slice_set, slice_index_or, if◌then◌else◌}
use Rattle.std.specs.List.{list_all, list_any}
use Rattle.std.proofs.lemmas.Option.{slice_get_within}
use Rattle.vx_frac.specs.Fractions.{Fraction, none, full}
use Rattle.vx_terms.specs.Sorts.{Sort}
use Rattle.cs_certificate.specs.Certificate.{NumberedLiteral}
use Rattle.cs_certificate.specs.Linear.{minus_one}
use Rattle.cs_certificate.specs.Nodes.{Node}
use Rattle.cs_farkas.specs.Sums.{Outcome, Done, Leaves, Misses, ◌>>=◌, times, plus, Sums, add_constant, add_column, Reading, Literal, Sum, Difference, Multiple, Column, of_head, read_as, read_node, read_term}
use Rattle.cs_farkas.specs.Rows.{Part, is_raised, one_more, add_part, add_all, is_zero, is_above, is_strict, may_multiply, contradicts, decided, cleared, Combination, combination_of, refutes, if_combined, farkas_clause}

abbrev widened : List Fraction → Sums → Sums
widened zs s = record { constant = s.constant; columns = s.columns ++ zs }

-- the second outcome is the first, over these further columns
abbrev Wide : ℕ → List Fraction → Outcome Sums → Outcome Sums → Type 0
Wide n zs (Done s) o = (length s.columns ≡ n) × (o ≡ Done (widened zs s))
Wide n zs (Leaves x) o = o ≡ Leaves x
Wide n zs Misses o = o ≡ Misses

index_front : (xs ys : List Fraction) (k : ℕ) → k < length xs → slice_index_or (xs ++ ys) k none ≡ slice_index_or xs k none
index_front [] ys k lt = absurd (omega arith)
index_front (x ∷ xs) ys zero lt = refl
index_front (x ∷ xs) ys (suc k) lt = index_front xs ys k (omega arith)

set_front : (xs ys : List Fraction) (k : ℕ) (c : Fraction) → k < length xs → slice_set (xs ++ ys) k c ≡ slice_set xs k c ++ ys
set_front [] ys k c lt = absurd (omega arith)
set_front (x ∷ xs) ys zero c lt = refl
set_front (x ∷ xs) ys (suc k) c lt = ap (λ zs. x ∷ zs) (set_front xs ys k c (omega arith))

as_long : (xs : List Fraction) (k : ℕ) (c : Fraction) → length (slice_set xs k c) ≡ length xs
as_long [] k c = refl
as_long (x ∷ xs) zero c = refl
as_long (x ∷ xs) (suc k) c = ap suc (as_long xs k c)

module _ (n : ℕ) (zs : List Fraction) where
  on : (o p : Outcome Sums) (f g : Sums → Outcome Sums) → Wide n zs o p → ((s : Sums) → length s.columns ≡ n → Wide n zs (f s) (g (widened zs s))) → Wide n zs (o >>= f) (p >>= g)
  on (Done s) p f g e h = subst (λ x. Wide n zs (f s) (x >>= g)) (sym e.1) (h s e.0)
  on (Leaves x) p f g e h = ap (λ y. y >>= g) e
  on Misses p f g e h = ap (λ y. y >>= g) e

  by : (o : Outcome Fraction) (f g : Fraction → Outcome Sums) → ((a : Fraction) → Wide n zs (f a) (g a)) → Wide n zs (o >>= f) (o >>= g)
  by (Done a) f g h = h a
  by (Leaves x) f g h = refl
  by Misses f g h = refl

  constant : (m q : Fraction) (s : Sums) → length s.columns ≡ n → Wide n zs (add_constant m q s) (add_constant m q (widened zs s))
  constant m q s l =
      by (times q m) (λ p. plus s.constant p >>= λ c. Done record s { constant = c }) (λ p. plus s.constant p >>= λ c. Done record (widened zs s) { constant = c })
      (λ p. by (plus s.constant p) (λ c. Done record s { constant = c }) (λ c. Done record (widened zs s) { constant = c }) (λ c. (l, refl)))

  column : (m q : Fraction) (k : ℕ) (s : Sums) → length s.columns ≡ n → k < n → Wide n zs (add_column m q k s) (add_column m q k (widened zs s))
  column m q k s l lt =
      by (times q m) (λ p. plus (slice_index_or s.columns k none) p >>= λ c. Done record s { columns = slice_set s.columns k c })
      (λ p. plus (slice_index_or (s.columns ++ zs) k none) p >>= λ c. Done record (widened zs s) { columns = slice_set (s.columns ++ zs) k c })
      (λ p. subst (λ a. Wide n zs (plus (slice_index_or s.columns k none) p >>= λ c. Done record s { columns = slice_set s.columns k c }) (plus a p >>= λ c. Done record (widened zs s) { columns = slice_set (s.columns ++ zs) k c }))
      (sym (index_front s.columns zs k (let e = l in omega arith)))
      (by (plus (slice_index_or s.columns k none) p) (λ c. Done record s { columns = slice_set s.columns k c }) (λ c. Done record (widened zs s) { columns = slice_set (s.columns ++ zs) k c })
      (λ c. (as_long s.columns k c ∙ l, ap (λ cs. Done record { constant = s.constant; columns = cs }) (set_front s.columns zs k c (let e = l in omega arith))))))

  reading : (deeper : Fraction → ℕ → Sums → Outcome Sums) → ((q : Fraction) (k : ℕ) (s : Sums) → length s.columns ≡ n → Wide n zs (deeper q k s) (deeper q k (widened zs s))) →
      (m q : Fraction) (t : ℕ) (s : Sums) → length s.columns ≡ n → t < n → (r : Reading) → Wide n zs (read_as deeper m q t s r) (read_as deeper m q t (widened zs s) r)
  reading deeper h m q t s l lt (Literal a) = by (times q a) (λ p. add_constant m p s) (λ p. add_constant m p (widened zs s)) (λ p. constant m p s l)
  reading deeper h m q t s l lt (Sum a b) = on (deeper q a s) (deeper q a (widened zs s)) (deeper q b) (deeper q b) (h q a s l) (λ u k. h q b u k)
  reading deeper h m q t s l lt (Difference a b) =
      on (deeper q a s) (deeper q a (widened zs s)) (λ u. times q minus_one >>= λ r. deeper r b u) (λ u. times q minus_one >>= λ r. deeper r b u) (h q a s l)
      (λ u k. by (times q minus_one) (λ r. deeper r b u) (λ r. deeper r b (widened zs u)) (λ r. h r b u k))
  reading deeper h m q t s l lt (Multiple z a) = by (times q z) (λ r. deeper r a s) (λ r. deeper r a (widened zs s)) (λ r. h r a s l)
  reading deeper h m q t s l lt Column = column m q t s l lt

  term : (nodes : List Node) → length nodes ≡ n → (layers : ℕ) (m q : Fraction) (t : ℕ) (s : Sums) → length s.columns ≡ n → Wide n zs (read_term nodes layers m q t s) (read_term nodes layers m q t (widened zs s))
  term nodes e zero m q t s l = refl
  term nodes e (suc layers) m q t s l = go (slice_get nodes t) refl (term nodes e layers m)
    where
      go : (o : Option Node) → slice_get nodes t ≡ o → ((q : Fraction) (k : ℕ) (s : Sums) → length s.columns ≡ n → Wide n zs (read_term nodes layers m q k s) (read_term nodes layers m q k (widened zs s))) →
          Wide n zs (read_node nodes (read_term nodes layers m) m q t s o) (read_node nodes (read_term nodes layers m) m q t (widened zs s) o)
      go None f h = refl
      go (Some x) f h = reading (read_term nodes layers m) h m q t s l (let a = slice_get_within nodes t x f in let b = e in omega arith) (of_head nodes x.head x.parts)

  more : (a : Sort) (p : Part) (s : Sums) → length s.columns ≡ n → Wide n zs (one_more a p s) (one_more a p (widened zs s))
  more a p s l = go (is_raised a p.bound.relation)
    where
      go : (b : Bool) → Wide n zs (if b then add_constant p.multiplier full s else Done s) (if b then add_constant p.multiplier full (widened zs s) else Done (widened zs s))
      go true = constant p.multiplier full s l
      go false = (l, refl)

  module _ (nodes : List Node) (e : length nodes ≡ n) (a : Sort) where
    part : (p : Part) (s : Sums) → length s.columns ≡ n → Wide n zs (add_part nodes a p s) (add_part nodes a p (widened zs s))
    part p s l =
        on (read_term nodes (length nodes) p.multiplier full p.bound.left s) (read_term nodes (length nodes) p.multiplier full p.bound.left (widened zs s))
        (λ left. read_term nodes (length nodes) p.multiplier minus_one p.bound.right left >>= one_more a p) (λ left. read_term nodes (length nodes) p.multiplier minus_one p.bound.right left >>= one_more a p)
        (term nodes e (length nodes) p.multiplier full p.bound.left s l)
        (λ u k. on (read_term nodes (length nodes) p.multiplier minus_one p.bound.right u) (read_term nodes (length nodes) p.multiplier minus_one p.bound.right (widened zs u)) (one_more a p) (one_more a p)
        (term nodes e (length nodes) p.multiplier minus_one p.bound.right u k) (more a p))

    parts : (ps : List Part) (s : Sums) → length s.columns ≡ n → Wide n zs (add_all nodes a ps s) (add_all nodes a ps (widened zs s))
    parts [] s l = (l, refl)
    parts (p ∷ ps) s l = on (add_part nodes a p s) (add_part nodes a p (widened zs s)) (add_all nodes a ps) (add_all nodes a ps) (part p s l) (parts ps)

zeros : (cs : List Fraction) (k : ℕ) → list_all is_zero (cs ++ replicate k none) ≡ list_all is_zero cs
zeros [] zero = refl
zeros [] (suc k) = zeros [] k
zeros (c ∷ cs) k = ap (λ b. is_zero c && b) (zeros cs k)

decision : (n k : ℕ) (a : Sort) (ps : List Part) (s : Sums) → length s.columns ≡ n → Wide n (replicate k none) (decided a ps s) (decided a ps (widened (replicate k none) s))
decision n k a ps s l =
    subst (λ b. Wide n (replicate k none) (decided a ps s) (if list_all may_multiply ps && (b && (is_above s.constant || (is_zero s.constant && list_any (is_strict a) ps))) then Done (widened (replicate k none) s) else Misses))
    (sym (zeros s.columns k)) (go (list_all may_multiply ps && contradicts a ps s))
  where
    go : (b : Bool) → Wide n (replicate k none) (if b then Done s else Misses) (if b then Done (widened (replicate k none) s) else Misses)
    go true = (l, refl)
    go false = refl

more_zeros : (n k : ℕ) → replicate (n + k) none ≡ replicate n none ++ replicate k none
more_zeros zero k = let e : 0 + k ≡ k = omega arith in ap (λ n. replicate n none) e
more_zeros (suc n) k = let e : suc n + k ≡ suc (n + k) = omega arith in ap (λ n. replicate n none) e ∙ ap (λ zs. none ∷ zs) (more_zeros n k)

so_long : (n : ℕ) → length (replicate n none) ≡ n
so_long zero = refl
so_long (suc n) = ap suc (so_long n)

-- the same literals are done
same_end : (n : ℕ) (zs : List Fraction) (ls : List NumberedLiteral) (o p : Outcome Sums) → Wide n zs o p → (p >>= λ s. Done ls) ≡ (o >>= λ s. Done ls)
same_end n zs ls (Done s) p e = ap (λ x. x >>= λ s. Done ls) e.1
same_end n zs ls (Leaves x) p e = ap (λ x. x >>= λ s. Done ls) e
same_end n zs ls Misses p e = ap (λ x. x >>= λ s. Done ls) e

refutation : (nodes : List Node) (k : ℕ) (c : Combination) → Wide (length nodes) (replicate k none) (refutes nodes (length nodes) c) (refutes nodes (length nodes + k) c)
refutation nodes k c =
    subst (λ zs. Wide (length nodes) (replicate k none) (refutes nodes (length nodes) c) (add_all nodes c.sort c.parts record { constant = none; columns = zs } >>= decided c.sort c.parts))
    (sym (more_zeros (length nodes) k))
    (on (length nodes) (replicate k none) (add_all nodes c.sort c.parts (cleared (length nodes))) (add_all nodes c.sort c.parts (widened (replicate k none) (cleared (length nodes)))) (decided c.sort c.parts) (decided c.sort c.parts)
    (parts (length nodes) (replicate k none) nodes refl c.sort c.parts (cleared (length nodes)) (so_long (length nodes)))
    (λ s l. decision (length nodes) k c.sort c.parts s l))

combined : (nodes : List Node) (k : ℕ) (ls : List NumberedLiteral) (o : Option Combination) → if_combined nodes (length nodes + k) ls o ≡ if_combined nodes (length nodes) ls o
combined nodes k ls None = refl
combined nodes k ls (Some c) = same_end (length nodes) (replicate k none) ls (refutes nodes (length nodes) c) (refutes nodes (length nodes + k) c) (refutation nodes k c)

pub any_width : (nodes : List Node) (width : ℕ) → length nodes ≤ width → (ls : List NumberedLiteral) (ms : List Fraction) → farkas_clause nodes width ls ms ≡ farkas_clause nodes (length nodes) ls ms
any_width nodes width le ls ms =
    let e : width ≡ length nodes + (width - length nodes) = omega arith in
    ap (λ w. farkas_clause nodes w ls ms) e ∙ combined nodes (width - length nodes) ls (combination_of nodes ls ms)
