-- The sums by number are a contradiction exactly where those by term are.
use Rattle.std.proofs.Common.{◌≡◌, ℕ, zero, suc, ◌+◌, ◌<◌, ◌≤◌, ℤ, pos, negsuc, ◌*ℤ◌, Bool, true, false, ◌&&◌, ◌||◌, List, [], ◌∷◌, ◌++◌, length, get_or, Option, Some, None, ◌⊎◌, inl, inr, refl, sym, ◌∙◌, ap, ap₂, subst, cond, arith}
use Rattle.std.specs.Prelude.{slice_get, slice_index_or, replicate, int_lt}
use Rattle.std.specs.List.{list_all, list_any}
use Rattle.std.proofs.lemmas.Int.{ints}
use Rattle.std.proofs.lemmas.List.{length-replicate}
use Rattle.std.proofs.lemmas.Option.{same_Some}
use Rattle.std.proofs.lemmas.Bool.{and_parts}
use borrow.Author.Differences.{up, down, lt-true, lt_in}
use Rattle.vx_frac.specs.Fractions.{Fraction, none, full, whole}
use Rattle.vx_frac.proofs.Sums.{equal_ints}
use Rattle.vx_terms.specs.Sorts.{Sort, IntSort, BoolSort, RealSort, RefSort, SnapSort, OtherSort, same_sort}
use Rattle.vx_terms.specs.Terms.{Term, same}
use Rattle.vx_terms.specs.Interpretations.{Each}
use Rattle.vx_terms.proofs.Same.{int_is, sort_is}
use Rattle.cs_certificate.specs.Certificate.{At, Contains, IsStrict, IsContradiction}
use Rattle.cs_certificate.specs.Linear.{minus_one, Relation, AtMostZero, BelowZero, IsZero, Multiple, Row, Column, Total, linear, read, add_rows, add_parts, combination}
use Rattle.cs_certificate.specs.Linear as linear
use Rattle.cs_certificate.proofs.Fractions.{Eq, eq_refl}
use Rattle.cs_certificate.proofs.Numbers.{from_T}
use Rattle.cs_certificate.specs.Nodes.{Node, Represents}
use Rattle.cs_farkas.specs.Sums.{Sums, read_term}
use Rattle.cs_farkas.specs.Rows.{bound, Part, add_part, add_all, one_more, cleared, is_zero, is_above, is_below, is_strict, contradicts}
use Rattle.cs_farkas.proofs.Amounts.{Fine, fine_then, Agrees, constant_fine, amount_of, by_term, Unique, term_same}
use Rattle.cs_farkas.proofs.Linears.{size, layers, below_all, append_parts, reads}

-- the constraints by number are the rows by term
pub data StandBy (terms : List Term) : List Part → List Row → Type 0 where
  none_stand : StandBy terms [] []
  one_stands : {i j : ℕ} {t u : Term} {g : Relation} {m : Fraction} {ps : List Part} {rs : List Row} → At terms i t → At terms j u → StandBy terms ps rs →
      StandBy terms (record { bound = bound i j g; multiplier = m } ∷ ps) (record { multiplier = m; constraint = record { left = t; right = u; relation = g } } ∷ rs)

-- ---- the sums agree
module _ (nodes : List Node) (terms : List Term) (r : Represents nodes terms) (many : length terms ≤ length nodes) where
  enough : (t : Term) → layers terms t ≤ length nodes
  enough t = go (layers terms t) (length terms) (length nodes) (below_all (suc (size t)) terms) many
    where
      go : (a b c : ℕ) → a ≤ b → b ≤ c → a ≤ c
      go a b c x y = omega arith

  raised_fine : (a : Sort) (i j : ℕ) (g : Relation) (m : Fraction) (s : Sums) (total : Total) → Agrees terms s total →
      Fine (λ s'. Agrees terms s' (add_parts m total (linear.one_more a g))) (one_more a record { bound = bound i j g; multiplier = m } s)
  raised_fine IntSort i j AtMostZero m s total h = h
  raised_fine IntSort i j BelowZero m s total h = constant_fine terms m full full s total (eq_refl full) h
  raised_fine IntSort i j IsZero m s total h = h
  raised_fine BoolSort i j g m s total h = h
  raised_fine RealSort i j g m s total h = h
  raised_fine RefSort i j g m s total h = h
  raised_fine SnapSort i j g m s total h = h
  raised_fine (OtherSort x) i j g m s total h = h

  part_fine : (a : Sort) (i j : ℕ) (t u : Term) (g : Relation) (m : Fraction) (s : Sums) (total : Total) → At terms i t → At terms j u → Agrees terms s total →
      Fine (λ s'. Agrees terms s' (add_parts m total (read a record { left = t; right = u; relation = g }))) (add_part nodes a record { bound = bound i j g; multiplier = m } s)
  part_fine a i j t u g m s total p w h =
      let left : List Multiple = linear full t in
      let right : List Multiple = linear minus_one u in
      let rest : List Multiple = linear.one_more a g in
      let whole_is : add_parts m total (read a record { left = t; right = u; relation = g }) ≡ add_parts m (add_parts m (add_parts m total left) right) rest =
      append_parts m total (left ++ right) rest ∙ ap (λ x. add_parts m x rest) (append_parts m total left right) in
      subst (λ x. Fine (λ s'. Agrees terms s' x) (add_part nodes a record { bound = bound i j g; multiplier = m } s)) (sym whole_is)
      (fine_then (λ s'. Agrees terms s' (add_parts m total left)) (λ s'. Agrees terms s' (add_parts m (add_parts m (add_parts m total left) right) rest)) (read_term nodes (length nodes) m full i s) _
      (reads nodes terms r m (length nodes) t i full full s total p h (eq_refl full) (enough t))
      (λ x k. fine_then (λ s'. Agrees terms s' (add_parts m (add_parts m total left) right)) (λ s'. Agrees terms s' (add_parts m (add_parts m (add_parts m total left) right) rest)) (read_term nodes (length nodes) m minus_one j x) _
      (reads nodes terms r m (length nodes) u j minus_one minus_one x (add_parts m total left) w k (eq_refl minus_one) (enough u))
      (λ y l. raised_fine a i j g m y (add_parts m (add_parts m total left) right) l)))

  pub all_fine : (a : Sort) (ps : List Part) (rs : List Row) → StandBy terms ps rs → (s : Sums) (total : Total) → Agrees terms s total → Fine (λ s'. Agrees terms s' (add_rows a total rs)) (add_all nodes a ps s)
  all_fine a _ _ none_stand s total h = h
  all_fine a _ _ (one_stands {i = i} {j = j} {t = t} {u = u} {g = g} {m = m} {ps = ps} {rs = rs} p w more) s total h =
      fine_then (λ s'. Agrees terms s' (add_parts m total (read a record { left = t; right = u; relation = g }))) (λ s'. Agrees terms s' (add_rows a (add_parts m total (read a record { left = t; right = u; relation = g })) rs))
      (add_part nodes a record { bound = bound i j g; multiplier = m } s) (add_all nodes a ps) (part_fine a i j t u g m s total p w h)
      (λ x k. all_fine a ps rs more x (add_parts m total (read a record { left = t; right = u; relation = g })) k)

none_at : (n k : ℕ) → get_or (replicate n none) k none ≡ none
none_at zero k = refl
none_at (suc n) zero = refl
none_at (suc n) (suc k) = none_at n k

none_by : (o : Option Term) → by_term [] o ≡ none
none_by None = refl
none_by (Some t) = refl

pub cleared_agrees : (terms : List Term) (width : ℕ) → length terms ≤ width → Agrees terms (cleared width) record { constant = whole (pos 0); columns = [] }
cleared_agrees terms width wide = record {
  wide = subst (λ n. length terms ≤ n) (sym (length-replicate width none)) wide;
  constant = eq_refl none;
  each = λ k. subst (λ x. Eq x (by_term [] (slice_get terms k))) (sym (none_at width k)) (subst (Eq none) (sym (none_by (slice_get terms k))) (eq_refl none));
  numbered = tt;
  unique = tt;
}

-- ---- signs
same_by : (a b : Bool) → (a ≡ true → b ≡ true) → (b ≡ true → a ≡ true) → a ≡ b
same_by true b f g = sym (f refl)
same_by false true f g = g refl
same_by false false f g = refl

zero_cross : (x y : ℤ) (d e : ℕ) → x *ℤ pos (suc d) ≡ y *ℤ pos (suc e) → x ≡ pos 0 → y ≡ pos 0
zero_cross x (pos zero) d e h z = refl
zero_cross x (pos (suc n)) d e h z = absurd (let k : pos 0 *ℤ pos (suc d) ≡ pos (suc n) *ℤ pos (suc e) = ap (λ w. w *ℤ pos (suc d)) (sym z) ∙ h in omega (arith, ints))
zero_cross x (negsuc n) d e h z = absurd (let k : pos 0 *ℤ pos (suc d) ≡ negsuc n *ℤ pos (suc e) = ap (λ w. w *ℤ pos (suc d)) (sym z) ∙ h in omega (arith, ints))

above_cross : (x y : ℤ) (d e : ℕ) → x *ℤ pos (suc d) ≡ y *ℤ pos (suc e) → int_lt (pos 0) x ≡ true → int_lt (pos 0) y ≡ true
above_cross x y d e h z = from_T _ (lt_in (pos 0) y (go x y h (lt-true (pos 0) x z)))
  where
    go : (x y : ℤ) → x *ℤ pos (suc d) ≡ y *ℤ pos (suc e) → up (pos 0) + down x < up x + down (pos 0) → up (pos 0) + down y < up y + down (pos 0)
    go (pos zero) y h l = absurd (omega arith)
    go (pos (suc m)) (pos zero) h l = absurd (omega (arith, ints))
    go (pos (suc m)) (pos (suc n)) h l = omega arith
    go (pos (suc m)) (negsuc n) h l = absurd (omega (arith, ints))
    go (negsuc m) y h l = absurd (omega arith)

pub zero_same : {a b : Fraction} → Eq a b → is_zero a ≡ is_zero b
zero_same {a = a} {b = b} e =
    same_by _ _ (λ h. equal_ints _ _ (zero_cross a.numerator b.numerator b.below a.below e.cross (int_is _ _ h)))
    (λ h. equal_ints _ _ (zero_cross b.numerator a.numerator a.below b.below (sym e.cross) (int_is _ _ h)))

pub above_same : {a b : Fraction} → Eq a b → is_above a ≡ is_above b
above_same {a = a} {b = b} e =
    same_by _ _ (above_cross a.numerator b.numerator b.below a.below e.cross) (above_cross b.numerator a.numerator a.below b.below (sym e.cross))

-- ---- columns of 0
zero_at : (cols : List Fraction) → list_all is_zero cols ≡ true → (k : ℕ) → is_zero (get_or cols k none) ≡ true
zero_at [] h k = refl
zero_at (c ∷ cs) h zero = (and_parts (is_zero c) (list_all is_zero cs) h).0
zero_at (c ∷ cs) h (suc k) = zero_at cs (and_parts (is_zero c) (list_all is_zero cs) h).1 k

all_by_index : (cols : List Fraction) → ((k : ℕ) → is_zero (get_or cols k none) ≡ true) → list_all is_zero cols ≡ true
all_by_index [] h = refl
all_by_index (c ∷ cs) h = and_true (is_zero c) _ (h 0) (all_by_index cs (λ k. h (suc k)))
  where
    and_true : (a b : Bool) → a ≡ true → b ≡ true → (a && b) ≡ true
    and_true true b e f = f
    and_true false b e f = e

amount_zero : (t : Term) (cs : List Column) → Each (λ c. c.amount.numerator ≡ pos 0) cs → is_zero (amount_of t cs) ≡ true
amount_zero t [] h = refl
amount_zero t (c ∷ cs) h = go (same t c.term) (equal_ints _ _ h.0) (amount_zero t cs h.1)
  where
    go : (b : Bool) → is_zero c.amount ≡ true → is_zero (amount_of t cs) ≡ true → is_zero (cond b c.amount (amount_of t cs)) ≡ true
    go true e f = e
    go false e f = f

-- each column has its own amount
pub record OwnAmount (cs : List Column) (d : Column) : Type 0 where
  pub own : amount_of d.term cs ≡ d.amount

each_map : (P Q R : Column → Type 0) (cs : List Column) → ((c : Column) → P c → Q c → R c) → Each P cs → Each Q cs → Each R cs
each_map P Q R [] f g h = tt
each_map P Q R (c ∷ cs) f g h = (f c g.0 h.0, each_map P Q R cs f g.1 h.1)

own_amounts : (cs : List Column) → Unique cs → Each (OwnAmount cs) cs
own_amounts [] u = tt
own_amounts (c ∷ cs) u = (
  record { own = ap (λ b. cond b c.amount (amount_of c.term cs)) (term_same c.term) },
  each_map (λ d. same d.term c.term ≡ false) (OwnAmount cs) (OwnAmount (c ∷ cs)) cs (λ d n o. record { own = ap (λ b. cond b c.amount (amount_of d.term cs)) n ∙ o.own }) u.0 (own_amounts cs u.1),
)

module _ (terms : List Term) (s : Sums) (total : Total) (a : Agrees terms s total) where
  pub columns_zero : list_all is_zero s.columns ≡ true → Each (λ c. c.amount.numerator ≡ pos 0) total.columns
  columns_zero h =
      each_map (λ c. Contains terms c.term) (OwnAmount total.columns) (λ c. c.amount.numerator ≡ pos 0) total.columns
      (λ c n o. int_is _ _ (ap is_zero (sym o.own) ∙ sym (zero_same (found c.term n.0 n.1)) ∙ zero_at s.columns h n.0))
      a.numbered (own_amounts total.columns a.unique)
    where
      found : (t : Term) (k : ℕ) → At terms k t → Eq (slice_index_or s.columns k none) (amount_of t total.columns)
      found t k at = subst (λ o. Eq (slice_index_or s.columns k none) (by_term total.columns o)) at (a.each k)

  pub zero_columns : Each (λ c. c.amount.numerator ≡ pos 0) total.columns → list_all is_zero s.columns ≡ true
  zero_columns h = all_by_index s.columns (λ k. zero_same (a.each k) ∙ go (slice_get terms k))
    where
      go : (o : Option Term) → is_zero (by_term total.columns o) ≡ true
      go None = refl
      go (Some t) = amount_zero t total.columns h

-- ---- strict parts
strict_to : (a : Sort) (m : Fraction) (g : Relation) (i j : ℕ) (t u : Term) → is_strict a record { bound = bound i j g; multiplier = m } ≡ true → IsStrict a record { multiplier = m; constraint = record { left = t; right = u; relation = g } }
strict_to a m g i j t u e =
    let p = and_parts (same_sort a RealSort) (is_below g && is_above m) e in
    let q = and_parts (is_below g) (is_above m) p.1 in
    (sort_is a RealSort p.0, below g q.0, q.1)
  where
    below : (g : Relation) → is_below g ≡ true → g ≡ BelowZero
    below BelowZero e = refl
    below AtMostZero e = cc
    below IsZero e = cc

strict_from : (a : Sort) (m : Fraction) (g : Relation) (i j : ℕ) → a ≡ RealSort → g ≡ BelowZero → int_lt (pos 0) m.numerator ≡ true → is_strict a record { bound = bound i j g; multiplier = m } ≡ true
strict_from a m g i j e f h = ap₂ (λ x y. same_sort x RealSort && (is_below y && is_above m)) e f ∙ h

pub has_strict : (terms : List Term) (a : Sort) (ps : List Part) (rs : List Row) → StandBy terms ps rs → list_any (is_strict a) ps ≡ true → (r : Row) × Contains rs r × IsStrict a r
has_strict terms a _ _ none_stand e = cc
has_strict terms a _ _ (one_stands {i = i} {j = j} {t = t} {u = u} {g = g} {m = m} {ps = ps} {rs = rs} p w more) e =
    go (is_strict a record { bound = bound i j g; multiplier = m }) refl e (has_strict terms a ps rs more)
  where
    go : (b : Bool) → is_strict a record { bound = bound i j g; multiplier = m } ≡ b → (b || list_any (is_strict a) ps) ≡ true → (list_any (is_strict a) ps ≡ true → (r : Row) × Contains rs r × IsStrict a r) →
        (r : Row) × Contains (record { multiplier = m; constraint = record { left = t; right = u; relation = g } } ∷ rs) r × IsStrict a r
    go true f e k = (record { multiplier = m; constraint = record { left = t; right = u; relation = g } }, (0, refl), strict_to a m g i j t u f)
    go false f e k = let x = k e in (x.0, (suc (x.1).0, (x.1).1), x.2)

pub strict_has : (terms : List Term) (a : Sort) (ps : List Part) (rs : List Row) → StandBy terms ps rs → (r : Row) (n : ℕ) → At rs n r → IsStrict a r → list_any (is_strict a) ps ≡ true
strict_has terms a _ _ none_stand r n at h = cc
strict_has terms a _ _ (one_stands {i = i} {j = j} {t = t} {u = u} {g = g} {m = m} {ps = ps} {rs = rs} p w more) r zero at h =
    let is : record { multiplier = m; constraint = record { left = t; right = u; relation = g } } ≡ r = same_Some _ _ at in
    let here : is_strict a record { bound = bound i j g; multiplier = m } ≡ true = strict_from a m g i j h.0 (ap (λ x. x.constraint.relation) is ∙ h.1) (ap (λ x. int_lt (pos 0) x.multiplier.numerator) is ∙ h.2) in
    ap (λ b. b || list_any (is_strict a) ps) here
strict_has terms a _ _ (one_stands {i = i} {j = j} {g = g} {m = m} {ps = ps} {rs = rs} p w more) r (suc n) at h =
    or_right (is_strict a record { bound = bound i j g; multiplier = m }) _ (strict_has terms a ps rs more r n at h)
  where
    or_right : (x y : Bool) → y ≡ true → (x || y) ≡ true
    or_right true y e = refl
    or_right false y e = e

-- ---- the contradiction
module _ (terms : List Term) (a : Sort) (ps : List Part) (rs : List Row) (st : StandBy terms ps rs) (s : Sums) (h : Agrees terms s (combination a rs)) where
  pub contradicts_to : contradicts a ps s ≡ true → IsContradiction a rs
  contradicts_to e =
      let p = and_parts (list_all is_zero s.columns) _ e in
      record { columns = columns_zero terms s (combination a rs) h p.0; constant = go (is_above s.constant) refl p.1 }
    where
      go : (b : Bool) → is_above s.constant ≡ b → (b || (is_zero s.constant && list_any (is_strict a) ps)) ≡ true →
          (int_lt (pos 0) (combination a rs).constant.numerator ≡ true) ⊎ (((combination a rs).constant.numerator ≡ pos 0) × (r : Row) × Contains rs r × IsStrict a r)
      go true f e = inl (sym (above_same h.constant) ∙ f)
      go false f e =
          let q = and_parts (is_zero s.constant) (list_any (is_strict a) ps) e in
          let x = has_strict terms a ps rs st q.1 in
          inr (int_is _ _ (sym (zero_same h.constant) ∙ q.0), x.0, x.1, x.2)

  pub contradicts_from : IsContradiction a rs → contradicts a ps s ≡ true
  contradicts_from c = and_true (list_all is_zero s.columns) _ (zero_columns terms s (combination a rs) h c.columns) (go c.constant)
    where
      and_true : (a b : Bool) → a ≡ true → b ≡ true → (a && b) ≡ true
      and_true true b e f = f
      and_true false b e f = e

      or_right : (x y : Bool) → y ≡ true → (x || y) ≡ true
      or_right true y e = refl
      or_right false y e = e

      go : (int_lt (pos 0) (combination a rs).constant.numerator ≡ true) ⊎ (((combination a rs).constant.numerator ≡ pos 0) × (r : Row) × Contains rs r × IsStrict a r) →
          (is_above s.constant || (is_zero s.constant && list_any (is_strict a) ps)) ≡ true
      go (inl f) = ap (λ b. b || (is_zero s.constant && list_any (is_strict a) ps)) (above_same h.constant ∙ f)
      go (inr (z, r, (n, at), k)) =
          or_right (is_above s.constant) _ (and_true (is_zero s.constant) _ (zero_same h.constant ∙ equal_ints _ _ z) (strict_has terms a ps rs st r n at k))
