-- Sums of columns: their factors, their rests, and how two are merged.
use Rattle.std.proofs.Common.{◌≡◌, ℕ, zero, suc, ◌+◌, ◌<◌, ◌≤◌, Bool, true, false, ◌&&◌, nat_eq, if◌then◌else◌, List, [], ◌∷◌, ◌++◌, Some, length, drop, get_or, slice_get, refl, sym, ◌∙◌, ap, ap₂, subst, arith, add-one, drop-cons, pos, append_assoc}
use Rattle.vx_frac.specs.Fractions.{Fraction, none, lowest}
use Rattle.vx_frac.specs.Fraction.{fraction}
use Rattle.vx_frac.proofs.Reduced.{lowest_fraction}
use Rattle.cs_linear.specs.Numbers.{plus, times}
use Rattle.vx_frac.specs.declared.Frac.{Frac}
use Rattle.std.proofs.lemmas.List.Elements.{All-append, All-get_or, All-cons, All-nil, All-head, All-tail, All-weaker}
use Rattle.std.proofs.lemmas.List.{drop_all, append-nil}
use Rattle.std.proofs.lemmas.Bool.{ltb-true, lt-ltb, and_parts, and_from}
use Rattle.std.proofs.lemmas.Option.{slice_get_read}
use Rattle.cs_linear.specs.declared.rows.First.{First}
use Rattle.cs_linear.specs.declared.rows.Entry.{Entry}
use Rattle.cs_linear.specs.Rows.{Assignment, Homes, AreFree, IsFree, total, multiple, Ascends, ascends}
use Rattle.cs_linear.specs.Merged.{rest_of, kept, Goes, IsNext, AreBefore, AreBelow, IsAscent, IsMerging}
use Rattle.cs_linear.proofs.Arithmetic.{linear, plus_assoc, none_plus, plus_none, lowest_none, lowest_of_plus, lowest_of_times, none_times, lowest_zero, times_none}

pub lowest_of_total : (es : List Entry) (a : Assignment) → lowest (total es a) ≡ total es a
lowest_of_total [] a = lowest_none
lowest_of_total (e ∷ es) a = lowest_of_plus _ _

-- the rest without a column

kept_by : (b : Bool) (rest : List Entry) (e : Entry) (xs : List Entry) → (if b then rest else rest ++ e ∷ []) ++ xs ≡ rest ++ (if b then xs else e ∷ xs)
kept_by true rest e xs = refl
kept_by false rest e xs = append_assoc rest (e ∷ []) xs

pub rest_goes : (es : List Entry) (i j : ℕ) (e : Entry) (rest : List Entry) → i < length es → kept rest (get_or es i e) j ++ rest_of (drop (i + 1) es) j ≡ rest ++ rest_of (drop i es) j
rest_goes es i j e rest lt =
    ap (λ k. kept rest (get_or es i e) j ++ rest_of (drop k es) j) (add-one i)
    ∙ kept_by (nat_eq (get_or es i e).column j) rest (get_or es i e) (rest_of (drop (suc i) es) j)
    ∙ ap (λ xs. rest ++ rest_of xs j) (sym (drop-cons es i e lt))

-- merging

right_step : (t q f x u : Fraction) → plus t (times q (plus (times f x) u)) ≡ plus (times (times q f) x) (plus t (times q u))
right_step t q f x u = simp linear refl

both_step : (q f g x t u : Fraction) → plus (plus (times f x) t) (times q (plus (times g x) u)) ≡ plus (times (plus f (times q g)) x) (plus t (times q u))
both_step q f g x t u = simp linear refl

pub goes_step : (s m t w : Fraction) → plus s (plus m t) ≡ w → plus (plus s m) t ≡ w
goes_step s m t w e = plus_assoc s m t ∙ e

pub read_at : (es : List Entry) (i : ℕ) (e : Entry) → i < length es → e ≡ get_or es i e → slice_get es i ≡ Some e
read_at es i e lt is = slice_get_read es (length es) i e refl lt is

get_drop : (es : List Entry) (i : ℕ) → slice_get es i ≡ slice_get (drop i es) 0
get_drop es zero = refl
get_drop [] (suc i) = refl
get_drop (e ∷ es) (suc i) = get_drop es i

raise : (m c : ℕ) (es : List Entry) → ((e : Entry) → slice_get es 0 ≡ Some e → c < e.column) → Ascends m es → Ascends (suc c) es
raise m c [] h a = tt
raise m c (e ∷ es) h a = (let lt = h e refl in omega arith, a.1)

pub whole_drop : (es : List Entry) (i : ℕ) (e : Entry) → i < length es → e ≡ get_or es i e → drop i es ≡ e ∷ drop (i + 1) es
whole_drop es i e lt is = drop-cons es i e lt ∙ ap₂ (λ (x : Entry) (k : ℕ). x ∷ drop k es) (sym is) (sym (add-one i))

free_at : (homes : Homes) (es : List Entry) (i : ℕ) (e : Entry) → i < length es → e ≡ get_or es i e → AreFree homes es → IsFree homes e.column
free_at homes es i e lt is h = subst (λ (e : Entry). IsFree homes e.column) (sym is) (All-get_or (λ (e : Entry). IsFree homes e.column) es i e lt h)

pub left_next : (left right : List Entry) (i j : ℕ) (q : Fraction) (e : Entry) → i < length left → j ≤ length right → e ≡ get_or left i e → AreBefore left i right j → IsNext left i q right j (record { entry = e; left = i + 1; right = j })
left_next left right i j q e lt le is before = record {
  some = omega arith;
  left_within = omega arith;
  right_within = le;
  total = λ a. ap (λ xs. plus (total xs a) (times q (total (drop j right) a))) (whole_drop left i e lt is) ∙ plus_assoc (multiple e a) (total (drop (i + 1) left) a) (times q (total (drop j right) a));
  free = λ homes l r. free_at homes left i e lt is l;
  ascends = λ m l r.
      let l' = subst (Ascends m) (whole_drop left i e lt is) l in
      record { here = l'.0; left = l'.1; right = raise m e.column (drop j right) (λ x f. before e x (read_at left i e lt is) (get_drop right j ∙ f)) r };
}

pub right_next : (left right : List Entry) (i j : ℕ) (q : Fraction) (r e : Entry) → i ≤ length left → j < length right → r ≡ get_or right j r → AreBefore right j left i → e.column ≡ r.column → fraction e.factor ≡ times q (fraction r.factor) → IsNext left i q right j (record { entry = e; left = i; right = j + 1 })
right_next left right i j q r e le lt is before column factor = record {
  some = omega arith;
  left_within = le;
  right_within = omega arith;
  total = λ a. ap (λ xs. plus (total (drop i left) a) (times q (total xs a))) (whole_drop right j r lt is)
      ∙ right_step (total (drop i left) a) q (fraction r.factor) (a r.column) (total (drop (j + 1) right) a)
      ∙ ap₂ (λ (f : Fraction) (k : ℕ). plus (times f (a k)) (plus (total (drop i left) a) (times q (total (drop (j + 1) right) a)))) (sym factor) (sym column);
  free = λ homes l f. subst (IsFree homes) (sym column) (free_at homes right j r lt is f);
  ascends = λ m l f.
      let f' = subst (Ascends m) (whole_drop right j r lt is) f in
      let back = λ (P : ℕ → Type 0) (p : P r.column). subst P (sym column) p in
      record { here = back (λ k. m ≤ k) f'.0; left = back (λ k. Ascends (suc k) (drop i left)) (raise m r.column (drop i left) (λ x g. before r x (read_at right j r lt is) (get_drop left i ∙ g)) l); right = back (λ k. Ascends (suc k) (drop (j + 1) right)) f'.1 };
}

pub both_next : (left right : List Entry) (i j : ℕ) (q : Fraction) (l r e : Entry) (sum : Frac) → i < length left → j < length right → l ≡ get_or left i l → r ≡ get_or right j r → l.column ≡ r.column →
    e.column ≡ r.column → fraction e.factor ≡ times q (fraction r.factor) → fraction sum ≡ plus (fraction l.factor) (fraction e.factor) →
    IsNext left i q right j (record { entry = record { column = e.column; factor = sum }; left = i + 1; right = j + 1 })
both_next left right i j q l r e sum lt lt' is is' same column factor added = record {
  some = omega arith;
  left_within = omega arith;
  right_within = omega arith;
  total = λ a. ap₂ (λ xs ys. plus (total xs a) (times q (total ys a))) (whole_drop left i l lt is) (whole_drop right j r lt' is')
      ∙ ap (λ (k : ℕ). plus (plus (times (fraction l.factor) (a k)) (total (drop (i + 1) left) a)) (times q (plus (times (fraction r.factor) (a r.column)) (total (drop (j + 1) right) a)))) same
      ∙ both_step q (fraction l.factor) (fraction r.factor) (a r.column) (total (drop (i + 1) left) a) (total (drop (j + 1) right) a)
      ∙ ap₂ (λ (f : Fraction) (k : ℕ). plus (times f (a k)) (plus (total (drop (i + 1) left) a) (times q (total (drop (j + 1) right) a)))) (ap (λ x. plus (fraction l.factor) x) (sym factor) ∙ sym added) (sym column);
  free = λ homes f g. subst (IsFree homes) (sym column) (free_at homes right j r lt' is' g);
  ascends = λ m f g.
      let f' = subst (Ascends m) (whole_drop left i l lt is) f in
      let g' = subst (Ascends m) (whole_drop right j r lt' is') g in
      let back = λ (P : ℕ → Type 0) (p : P r.column). subst P (sym column) p in
      record { here = back (λ k. m ≤ k) g'.0; left = back (λ k. Ascends (suc k) (drop (i + 1) left)) (subst (λ k. Ascends (suc k) (drop (i + 1) left)) same f'.1); right = back (λ k. Ascends (suc k) (drop (j + 1) right)) g'.1 };
}

-- one entry more

total_append : (es : List Entry) (e : Entry) (a : Assignment) → total (es ++ e ∷ []) a ≡ plus (total es a) (multiple e a)
total_append [] e a = plus_none (multiple e a) ∙ lowest_of_times _ _ ∙ sym (none_plus (multiple e a) ∙ lowest_of_times _ _)
total_append (x ∷ es) e a = ap (λ t. plus (multiple x a) t) (total_append es e a) ∙ sym (plus_assoc _ _ _)

below_more : (n : ℕ) (es : List Entry) → AreBelow n es → AreBelow (suc n) es
below_more n es h = All-weaker (λ (e : Entry). e.column < n) (λ (e : Entry). e.column < suc n) (λ e lt. omega arith) es h

ascends_append : (m : ℕ) (es : List Entry) (e : Entry) → m ≤ e.column → Ascends m es → AreBelow e.column es → Ascends m (es ++ e ∷ [])
ascends_append m [] e le h b = (le, tt)
ascends_append m (x ∷ es) e le h b =
    (h.0, ascends_append (suc x.column) es e (let lt = All-head (λ (x : Entry). x.column < e.column) x es b in omega arith) h.1 (All-tail (λ (x : Entry). x.column < e.column) x es b))

pub goes_on : (es new : List Entry) (e : Entry) → new ≡ es ++ e ∷ [] → Goes es e new
goes_on es new e is = record {
  total = λ a. ap (λ xs. total xs a) is ∙ total_append es e a;
  free = λ homes h f. subst (AreFree homes) (sym is) (All-append (λ (e : Entry). IsFree homes e.column) es (e ∷ []) h (All-cons (λ (e : Entry). IsFree homes e.column) e [] f (All-nil (λ (e : Entry). IsFree homes e.column))));
  ascends = λ h b. subst (Ascends 0) (sym is) (ascends_append 0 es e (omega arith) h b);
  below = λ b. subst (AreBelow (suc e.column)) (sym is) (All-append (λ (x : Entry). x.column < suc e.column) es (e ∷ []) (below_more e.column es b) (All-cons (λ (x : Entry). x.column < suc e.column) e [] (omega arith) (All-nil (λ (x : Entry). x.column < suc e.column))));
}

pub zero_goes : (es : List Entry) (e : Entry) → (fraction e.factor).numerator ≡ pos 0 → Goes es e es
zero_goes es e is = record {
  total = λ a.
      let f : fraction e.factor ≡ none = sym (lowest_fraction e.factor) ∙ lowest_zero (fraction e.factor) is in
      sym (ap (λ q. plus (total es a) (times q (a e.column))) f ∙ ap (λ x. plus (total es a) x) (none_times _) ∙ plus_none (total es a) ∙ lowest_of_total es a);
  free = λ homes h f. h;
  ascends = λ h b. h;
  below = λ b. below_more e.column es b;
}

-- merging, to the end

pub none_free : (homes : Homes) (es : List Entry) → es ≡ [] → AreFree homes es
none_free homes es is = subst (AreFree homes) (sym is) (All-nil (λ (e : Entry). IsFree homes e.column))

lowest_of_both : (left right : List Entry) (q : Fraction) (a : Assignment) → lowest (plus (total left a) (times q (total right a))) ≡ plus (total left a) (times q (total right a))
lowest_of_both left right q a = lowest_of_plus _ _

pub merge_begins : (es left right : List Entry) (q : Fraction) (a : Assignment) → es ≡ [] → plus (total es a) (plus (total (drop 0 left) a) (times q (total (drop 0 right) a))) ≡ plus (total left a) (times q (total right a))
merge_begins es left right q a is = ap (λ xs. plus (total xs a) (plus (total left a) (times q (total right a)))) is ∙ none_plus _ ∙ lowest_of_both left right q a

pub merge_goes : (es new left right : List Entry) (i j : ℕ) (q : Fraction) (n : First) (a : Assignment) → Goes es n.entry new → IsNext left i q right j n →
    plus (total new a) (plus (total (drop n.left left) a) (times q (total (drop n.right right) a))) ≡ plus (total es a) (plus (total (drop i left) a) (times q (total (drop j right) a)))
merge_goes es new left right i j q n a g h = ap (λ t. plus t (plus (total (drop n.left left) a) (times q (total (drop n.right right) a)))) (g.total a) ∙ plus_assoc _ _ _ ∙ ap (λ t. plus (total es a) t) (sym (h.total a))

pub merge_ends : (es left right : List Entry) (i j : ℕ) (q : Fraction) (a : Assignment) → length left ≤ i → length right ≤ j → total es a ≡ plus (total es a) (plus (total (drop i left) a) (times q (total (drop j right) a)))
merge_ends es left right i j q a l r =
    sym (ap₂ (λ xs ys. plus (total es a) (plus (total xs a) (times q (total ys a)))) (drop_all i left l) (drop_all j right r)
    ∙ ap (λ x. plus (total es a) x) (ap (λ x. plus none x) (times_none q) ∙ none_plus none ∙ lowest_none) ∙ plus_none (total es a) ∙ lowest_of_total es a)

pub merging : (es new left right rest other : List Entry) (e : Entry) → Goes es e new → ((m : ℕ) → Ascends m left → Ascends m right → IsAscent m e rest other) → IsMerging es left right → IsMerging new rest other
merging es new left right rest other e g next h =
    let n = next h.from h.left h.right in
    let b = All-weaker (λ (x : Entry). x.column < h.from) (λ (x : Entry). x.column < e.column) (λ x lt. let le = n.here in omega arith) es h.below in
    record { from = suc e.column; ascends = g.ascends h.ascends b; below = g.below b; left = n.left; right = n.right }

pub merging_begins : (es left right : List Entry) → es ≡ [] → Ascends 0 left → Ascends 0 right → IsMerging es left right
merging_begins es left right is l r = record { from = 0; ascends = subst (Ascends 0) (sym is) tt; below = subst (AreBelow 0) (sym is) (All-nil (λ (x : Entry). x.column < 0)); left = l; right = r }

-- what is left ascends without a column too

pub ascends_less : (m n : ℕ) (es : List Entry) → m ≤ n → Ascends n es → Ascends m es
ascends_less m n [] le h = tt
ascends_less m n (e ∷ es) le h = (let lt = h.0 in omega arith, h.1)

ascends_by : (b : Bool) (n : ℕ) (e : Entry) (rest : List Entry) → n ≤ e.column → Ascends (suc e.column) rest → Ascends n (if b then rest else e ∷ rest)
ascends_by true n e rest le h = ascends_less n (suc e.column) rest (omega arith) h
ascends_by false n e rest le h = (le, h)

pub rest_ascends : (n : ℕ) (es : List Entry) (j : ℕ) → Ascends n es → Ascends n (rest_of es j)
rest_ascends n [] j h = tt
rest_ascends n (e ∷ es) j h = ascends_by (nat_eq e.column j) n e (rest_of es j) h.0 (rest_ascends (suc e.column) es j h.1)

pub ascends_out : (n : ℕ) (es : List Entry) → ascends n es ≡ true → Ascends n es
ascends_out n [] h = tt
ascends_out n (e ∷ es) h = (let lt = ltb-true n (suc e.column) (and_parts _ _ h).0 in omega arith, ascends_out (suc e.column) es (and_parts _ _ h).1)

pub ascends_in : (n : ℕ) (es : List Entry) → Ascends n es → ascends n es ≡ true
ascends_in n [] h = refl
ascends_in n (e ∷ es) h = and_from _ _ (lt-ltb n (suc e.column) (let le = h.0 in omega arith)) (ascends_in (suc e.column) es h.1)

pub none_ascends : (es : List Entry) → es ≡ [] → Ascends 0 es
none_ascends es is = subst (Ascends 0) (sym is) tt

-- ---- a sum without a column, entry by entry
module _ (rest : List Entry) (es : List Entry) (i j : ℕ) where
  one_kept : (e : Entry) (fs : List Entry) → kept rest e j ++ rest_of fs j ≡ rest ++ rest_of (e ∷ fs) j
  one_kept e fs = go (nat_eq e.column j)
    where
      go : (b : Bool) → (if b then rest else (rest ++ e ∷ [])) ++ rest_of fs j ≡ rest ++ (if b then rest_of fs j else (e ∷ rest_of fs j))
      go true = refl
      go false = append_assoc rest (e ∷ []) (rest_of fs j)

  pub rest_more : (new : List Entry) (d : Entry) → i < length es → d ≡ get_or es i d → new ≡ kept rest d j → rest ++ rest_of (drop i es) j ≡ rest_of es j → new ++ rest_of (drop (i + 1) es) j ≡ rest_of es j
  rest_more new d lt here is all =
      ap (λ l. l ++ rest_of (drop (i + 1) es) j) is ∙ one_kept d (drop (i + 1) es)
      ∙ ap (λ l. rest ++ rest_of l j) (sym (drop-cons es i d lt ∙ ap₂ (λ (x : Entry) k. x ∷ drop k es) (sym here) (sym (add-one i)))) ∙ all

  pub rest_end : length es ≤ i → rest ++ rest_of (drop i es) j ≡ rest_of es j → rest ≡ rest_of es j
  rest_end le all = sym (append-nil rest) ∙ ap (λ l. rest ++ rest_of l j) (sym (drop_all i es le)) ∙ all
