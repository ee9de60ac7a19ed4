-- The factor of a column in a sum whose columns ascend is found before the first greater column.
use Rattle.std.proofs.Common.{◌≡◌, ℕ, suc, ◌+◌, ◌<◌, ◌≤◌, Bool, true, false, nat_eq, if◌then◌else◌, List, [], ◌∷◌, length, drop, get_or, refl, sym, ◌∙◌, ap, subst, arith}
use Rattle.std.proofs.lemmas.List.{drop_all}
use Rattle.std.proofs.lemmas.Bool.{eqb-true, eq-eqb}
use Rattle.vx_frac.specs.Fractions.{Fraction, none}
use Rattle.vx_frac.specs.Fraction.{fraction}
use Rattle.vx_frac.proofs.Reduced.{lowest_fraction}
use Rattle.cs_linear.specs.Numbers.{plus}
use Rattle.cs_linear.specs.declared.rows.Entry.{Entry}
use Rattle.cs_linear.specs.Rows.{Ascends, factor_at}
use Rattle.cs_linear.specs.Merged.{rest_of, IsLooked}
use Rattle.cs_linear.proofs.Arithmetic.{plus_none}
use Rattle.cs_linear.proofs.Sums.{whole_drop}

pub unequal : (a b : ℕ) → ¬ (a ≡ b) → nat_eq a b ≡ false
unequal a b ne = go (nat_eq a b) refl where
  go : (t : Bool) → nat_eq a b ≡ t → t ≡ false
  go true e = absurd (ne (eqb-true a b e))
  go false e = refl

pub choice : {A : Type 0} (t b : Bool) (x y : A) → t ≡ b → (if t then x else y) ≡ (if b then x else y)
choice t b x y e = ap (λ (b : Bool). if b then x else y) e

-- columns from n on have no factor of a lesser one

pub none_before : (es : List Entry) (n j : ℕ) → j < n → Ascends n es → factor_at es j ≡ none
none_before [] n j lt h = refl
none_before (e ∷ es) n j lt h = choice (nat_eq e.column j) false _ _ (unequal e.column j (λ same. let le = h.0 in omega arith)) ∙ none_before es (suc e.column) j (let le = h.0 in omega arith) h.1

pub all_before : (es : List Entry) (n j : ℕ) → j < n → Ascends n es → rest_of es j ≡ es
all_before [] n j lt h = refl
all_before (e ∷ es) n j lt h =
    choice (nat_eq e.column j) false _ _ (unequal e.column j (λ same. let le = h.0 in omega arith)) ∙ ap (λ (xs : List Entry). e ∷ xs) (all_before es (suc e.column) j (let le = h.0 in omega arith) h.1)

-- one entry more is looked at

pub looking : (es : List Entry) (j : ℕ) → Ascends 0 es → IsLooked es j 0
looking es j h = record { from = 0; ascends = h; factor = refl; rest = λ e. e }

module _ (es : List Entry) (j i : ℕ) (e : Entry) (lt : i < length es) (is : e ≡ get_or es i e) (h : IsLooked es j i) where
  here : drop i es ≡ e ∷ drop (i + 1) es
  here = whole_drop es i e lt is

  on : Ascends h.from (e ∷ drop (i + 1) es)
  on = subst (Ascends h.from) here h.ascends

  pub looked : ¬ (e.column ≡ j) → IsLooked es j (i + 1)
  looked ne = record {
    from = suc e.column;
    ascends = on.1;
    factor = sym (choice (nat_eq e.column j) false _ _ (unequal e.column j ne)) ∙ ap (λ (xs : List Entry). factor_at xs j) (sym here) ∙ h.factor;
    rest = λ r. h.rest (ap (λ (xs : List Entry). rest_of xs j) here ∙ choice (nat_eq e.column j) false _ _ (unequal e.column j ne) ∙ ap (λ (xs : List Entry). e ∷ xs) r ∙ sym here);
  }

  pub found_here : e.column ≡ j → fraction e.factor ≡ factor_at es j
  found_here same =
      sym (lowest_fraction e.factor) ∙ sym (plus_none (fraction e.factor))
      ∙ ap (λ (f : Fraction). plus (fraction e.factor) f) (sym (none_before (drop (i + 1) es) (suc e.column) j (omega arith) on.1))
      ∙ sym (choice (nat_eq e.column j) true _ _ (eq-eqb e.column j same))
      ∙ ap (λ (xs : List Entry). factor_at xs j) (sym here) ∙ h.factor

  past : j < e.column → Ascends e.column (drop i es)
  past less = subst (Ascends e.column) (sym here) (omega arith, on.1)

  pub none_here : j < e.column → factor_at es j ≡ none
  none_here less = sym h.factor ∙ none_before (drop i es) e.column j less (past less)

  pub rest_here : j < e.column → rest_of es j ≡ es
  rest_here less = h.rest (all_before (drop i es) e.column j less (past less))

pub none_left : (es : List Entry) (j i : ℕ) → length es ≤ i → IsLooked es j i → factor_at es j ≡ none
none_left es j i le h = sym h.factor ∙ ap (λ (xs : List Entry). factor_at xs j) (drop_all i es le)

pub rest_left : (es : List Entry) (j i : ℕ) → length es ≤ i → IsLooked es j i → rest_of es j ≡ es
rest_left es j i le h = h.rest (ap (λ (xs : List Entry). rest_of xs j) (drop_all i es le) ∙ sym (drop_all i es le))
