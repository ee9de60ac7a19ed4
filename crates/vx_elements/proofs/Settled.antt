-- Which entries of its tables an interpretation must keep, what keeping them keeps, and a fresh symbol of any value.
use Rattle.std.proofs.Common.{◌≡◌, ℕ, zero, suc, ◌<◌, ◌≤◌, Bool, true, false, not, cond, nat_eq, ℤ, pos, negsuc, List, [], ◌∷◌, refl, sym, ◌∙◌, ap, ap₂, subst, lt_of_lt_of_le, ne_eqb, eq-eqb, lt_irrefl}
use Rattle.vx_terms.specs.Sorts.{Sort, IntSort, BoolSort, RealSort, RefSort, SnapSort, OtherSort, Symbol, Standard, Function, Variable, Named, Operator, And, Or, Implies, Equal, Less, LessEqual, Add, Subtract, Multiply, Div, Mod}
use Rattle.vx_terms.specs.Terms.{Term, Truth, Number, Part, Constant, Apply, Not, Binary, Ite, AllOf, SomeOf, Terms, NoTerms, MoreTerms}
use Rattle.vx_terms.specs.Build.{variable}
use Rattle.vx_terms.specs.Interpretations.{Element, IntElement, BoolElement, RealElement, TreeElement, IsOf, as_int, as_bool, as_sort, Interpretation, quotient_in, remainder_in, operate, all_true, some_true, value, values}

-- what a function's symbol means: it has this element at these
abbrev pub Meaning : Type 1
Meaning = ℕ → List Element → Element → Type 0

pub as_sort_same : (a : Sort) (e : Element) → IsOf a e → as_sort a e ≡ e
as_sort_same IntSort (IntElement z) h = refl
as_sort_same BoolSort (BoolElement b) h = refl
as_sort_same RealSort (RealElement x) h = ap RealElement h
as_sort_same RefSort (TreeElement t) h = refl
as_sort_same SnapSort (TreeElement t) h = refl
as_sort_same (OtherSort x) (TreeElement t) h = refl
as_sort_same a e h = absurd h

module _ (means : Meaning) where
  -- an entry that later symbols and applications leave as it is: a symbol below n, or a function's where it has its meaning
  abbrev pub IsSettled : ℕ → Symbol → List Element → Element → Type 0
  IsSettled n (Variable k) es e = k < n
  IsSettled n (Function g) es e = means g es e
  IsSettled n (Standard k) es e = Unit {0}
  IsSettled n (Named x) es e = Unit {0}

  -- j agrees with i wherever i is settled
  pub record Extends (n : ℕ) (i j : Interpretation) : Type 0 where
    pub functions : (f : Symbol) (a : Sort) (es : List Element) → IsSettled n f es (i.functions f a es) → j.functions f a es ≡ i.functions f a es
    pub quotients : (z : ℤ) → j.quotients z ≡ i.quotients z
    pub remainders : (z : ℤ) → j.remainders z ≡ i.remainders z

  -- is the right operand looked at, after this left one
  abbrev pub IsNeeded : Operator → Bool → Type 0
  IsNeeded And b = b ≡ true
  IsNeeded Or b = b ≡ false
  IsNeeded Implies b = b ≡ true
  IsNeeded _ b = Unit {0}

  -- each entry that the term's value rests on is settled
  abbrev mutual
    pub Settles : ℕ → Interpretation → Term → Type 0
    Settles n i (Truth b) = Unit {0}
    Settles n i (Number z) = Unit {0}
    Settles n i (Part a) = Unit {0}
    Settles n i (Constant f a) = IsSettled n f [] (i.functions f a [])
    Settles n i (Apply f a ts) = SettlesAll n i ts × IsSettled n f (values i ts) (i.functions f a (values i ts))
    Settles n i (Not t) = Settles n i t
    Settles n i (Binary o t u) = Settles n i t × (IsNeeded o (as_bool (value i t)) → Settles n i u)
    Settles n i (Ite c t u) = Settles n i c × (as_bool (value i c) ≡ true → Settles n i t) × (as_bool (value i c) ≡ false → Settles n i u)
    Settles n i (AllOf ts) = SettlesAll n i ts
    Settles n i (SomeOf ts) = SettlesAll n i ts

    pub SettlesAll : ℕ → Interpretation → Terms → Type 0
    SettlesAll n i NoTerms = Unit {0}
    SettlesAll n i (MoreTerms t ts) = Settles n i t × SettlesAll n i ts

  pub extends-refl : (n : ℕ) (i : Interpretation) → Extends n i i
  extends-refl n i = record { functions = λ f a es h. refl; quotients = λ z. refl; remainders = λ z. refl }

  settled_le : {m n : ℕ} (f : Symbol) (es : List Element) (e : Element) → m ≤ n → IsSettled m f es e → IsSettled n f es e
  settled_le (Variable k) es e le h = lt_of_lt_of_le h le
  settled_le (Function g) es e le h = h
  settled_le (Standard k) es e le h = tt
  settled_le (Named x) es e le h = tt

  pub extends-trans : {m n : ℕ} {i j k : Interpretation} → m ≤ n → Extends m i j → Extends n j k → Extends m i k
  extends-trans {m = m} {n = n} {i = i} {j = j} le x y = record {
    functions = λ f a es h.
        let e = x.functions f a es h in
        y.functions f a es (settled_le f es _ le (subst (IsSettled m f es) (sym e) h)) ∙ e;
    quotients = λ z. y.quotients z ∙ x.quotients z;
    remainders = λ z. y.remainders z ∙ x.remainders z;
  }

  quotient_kept : {n : ℕ} {i j : Interpretation} → Extends n i j → (a d : ℤ) → quotient_in j a d ≡ quotient_in i a d
  quotient_kept x a (pos zero) = x.quotients a
  quotient_kept x a (pos (suc d)) = refl
  quotient_kept x a (negsuc d) = refl

  remainder_kept : {n : ℕ} {i j : Interpretation} → Extends n i j → (a d : ℤ) → remainder_in j a d ≡ remainder_in i a d
  remainder_kept x a (pos zero) = x.remainders a
  remainder_kept x a (pos (suc d)) = refl
  remainder_kept x a (negsuc d) = refl

  operate_kept : {n : ℕ} {i j : Interpretation} (o : Operator) (d e : Element) → Extends n i j → operate j o d e ≡ operate i o d e
  operate_kept And d e x = refl
  operate_kept Or d e x = refl
  operate_kept Implies d e x = refl
  operate_kept Equal d e x = refl
  operate_kept Less d e x = refl
  operate_kept LessEqual d e x = refl
  operate_kept Add d e x = refl
  operate_kept Subtract d e x = refl
  operate_kept Multiply d e x = refl
  operate_kept Div d e x = ap IntElement (quotient_kept x (as_int d) (as_int e))
  operate_kept Mod d e x = ap IntElement (remainder_kept x (as_int d) (as_int e))

  by_need : (f : Bool → Element → Bool) (b : Bool) (x y : Element) → (b ≡ true → x ≡ y) → ((x y : Element) → f false x ≡ f false y) → f b x ≡ f b y
  by_need f true x y h k = ap (f true) (h refl)
  by_need f false x y h k = k x y

  -- only what is needed of the right operand matters
  operate_needed : (i : Interpretation) (o : Operator) (d e e' : Element) → (IsNeeded o (as_bool d) → e' ≡ e) → operate i o d e' ≡ operate i o d e
  operate_needed i And d e e' h = ap BoolElement (by_need (λ b x. cond b (as_bool x) false) (as_bool d) e' e h (λ x y. refl))
  operate_needed i Or d e e' h = ap BoolElement (go (as_bool d) h)
    where
      go : (b : Bool) → (b ≡ false → e' ≡ e) → cond b true (as_bool e') ≡ cond b true (as_bool e)
      go true h = refl
      go false h = ap as_bool (h refl)
  operate_needed i Implies d e e' h = ap BoolElement (by_need (λ b x. cond b (as_bool x) true) (as_bool d) e' e h (λ x y. refl))
  operate_needed i Equal d e e' h = ap (operate i Equal d) (h tt)
  operate_needed i Less d e e' h = ap (operate i Less d) (h tt)
  operate_needed i LessEqual d e e' h = ap (operate i LessEqual d) (h tt)
  operate_needed i Add d e e' h = ap (operate i Add d) (h tt)
  operate_needed i Subtract d e e' h = ap (operate i Subtract d) (h tt)
  operate_needed i Multiply d e e' h = ap (operate i Multiply d) (h tt)
  operate_needed i Div d e e' h = ap (operate i Div d) (h tt)
  operate_needed i Mod d e e' h = ap (operate i Mod d) (h tt)

  cond_needed : (b : Bool) (x y x' y' : Element) → (b ≡ true → x' ≡ x) → (b ≡ false → y' ≡ y) → cond b x' y' ≡ cond b x y
  cond_needed true x y x' y' h k = h refl
  cond_needed false x y x' y' h k = k refl

  -- a term has one value in both
  mutual
    pub value_kept : {n : ℕ} {i j : Interpretation} (t : Term) → Settles n i t → Extends n i j → value j t ≡ value i t
    value_kept (Truth b) s x = refl
    value_kept (Number z) s x = refl
    value_kept (Part a) s x = refl
    value_kept (Constant f a) s x = ap (as_sort a) (x.functions f a [] s)
    value_kept {i = i} {j = j} (Apply f a ts) s x =
        ap (λ es. as_sort a (j.functions f a es)) (values_kept ts s.0 x) ∙ ap (as_sort a) (x.functions f a (values i ts) s.1)
    value_kept (Not t) s x = ap (λ v. BoolElement (not (as_bool v))) (value_kept t s x)
    value_kept {i = i} {j = j} (Binary o t u) s x =
        ap (λ d. operate j o d (value j u)) (value_kept t s.0 x)
        ∙ operate_needed j o (value i t) (value i u) (value j u) (λ h. value_kept u (s.1 h) x)
        ∙ operate_kept o (value i t) (value i u) x
    value_kept {i = i} {j = j} (Ite c t u) s x =
        ap (λ v. cond (as_bool v) (value j t) (value j u)) (value_kept c s.0 x)
        ∙ cond_needed (as_bool (value i c)) (value i t) (value i u) (value j t) (value j u) (λ h. value_kept t (s.1 h) x) (λ h. value_kept u (s.2 h) x)
    value_kept (AllOf ts) s x = ap (λ es. BoolElement (all_true es)) (values_kept ts s x)
    value_kept (SomeOf ts) s x = ap (λ es. BoolElement (some_true es)) (values_kept ts s x)

    pub values_kept : {n : ℕ} {i j : Interpretation} (ts : Terms) → SettlesAll n i ts → Extends n i j → values j ts ≡ values i ts
    values_kept NoTerms s x = refl
    values_kept (MoreTerms t ts) s x = ap₂ (λ e es. e ∷ es) (value_kept t s.0 x) (values_kept ts s.1 x)

  -- and it stays settled
  mutual
    pub settles_later : {m n : ℕ} {i j : Interpretation} (t : Term) → m ≤ n → Extends m i j → Settles m i t → Settles n j t
    settles_later (Truth b) le x s = tt
    settles_later (Number z) le x s = tt
    settles_later (Part a) le x s = tt
    settles_later {m = m} (Constant f a) le x s = settled_le f [] _ le (subst (IsSettled m f []) (sym (x.functions f a [] s)) s)
    settles_later {m = m} {i = i} {j = j} (Apply f a ts) le x s =
        let e : j.functions f a (values j ts) ≡ i.functions f a (values i ts) = ap (j.functions f a) (values_kept ts s.0 x) ∙ x.functions f a (values i ts) s.1 in (
          all_settle_later ts le x s.0,
          settled_le f _ _ le (subst (λ es. IsSettled m f es (j.functions f a (values j ts))) (sym (values_kept ts s.0 x)) (subst (IsSettled m f (values i ts)) (sym e) s.1)),
        )
    settles_later (Not t) le x s = settles_later t le x s
    settles_later (Binary o t u) le x s = (settles_later t le x s.0, λ h. settles_later u le x (s.1 (subst (λ v. IsNeeded o (as_bool v)) (value_kept t s.0 x) h)))
    settles_later (Ite c t u) le x s =
        let e = ap as_bool (value_kept c s.0 x) in
        (settles_later c le x s.0, (λ h. settles_later t le x (s.1 (sym e ∙ h))), (λ h. settles_later u le x (s.2 (sym e ∙ h))))
    settles_later (AllOf ts) le x s = all_settle_later ts le x s
    settles_later (SomeOf ts) le x s = all_settle_later ts le x s

    pub all_settle_later : {m n : ℕ} {i j : Interpretation} (ts : Terms) → m ≤ n → Extends m i j → SettlesAll m i ts → SettlesAll n j ts
    all_settle_later NoTerms le x s = tt
    all_settle_later (MoreTerms t ts) le x s = (settles_later t le x s.0, all_settle_later ts le x s.1)

  -- the interpretation with this element for v and the number n
  abbrev pub with_symbol : Interpretation → ℕ → Element → Interpretation
  with_symbol i n e = record i { functions = λ f a es. entry f (i.functions f a es) } where
    entry : Symbol → Element → Element
    entry (Variable k) old = cond (nat_eq k n) e old
    entry (Standard k) old = old
    entry (Function g) old = old
    entry (Named x) old = old

  pub symbol_extends : (i : Interpretation) (n : ℕ) (e : Element) → Extends n i (with_symbol i n e)
  symbol_extends i n e = record { functions = kept; quotients = λ z. refl; remainders = λ z. refl }
    where
      kept : (f : Symbol) (a : Sort) (es : List Element) → IsSettled n f es (i.functions f a es) → (with_symbol i n e).functions f a es ≡ i.functions f a es
      kept (Variable k) a es h = ap (λ b. cond b e (i.functions (Variable k) a es)) (ne_eqb k n (λ m. absurd (lt_irrefl n (subst (λ k. k < n) m h))))
      kept (Standard k) a es h = refl
      kept (Function g) a es h = refl
      kept (Named x) a es h = refl

  pub symbol_is : (i : Interpretation) (n : ℕ) (e : Element) (a : Sort) → (with_symbol i n e).functions (Variable n) a [] ≡ e
  symbol_is i n e a = ap (λ b. cond b e (i.functions (Variable n) a [])) (eq-eqb n n refl)

  pub fresh_value : (i : Interpretation) (n : ℕ) (e : Element) (a : Sort) → IsOf a e → value (with_symbol i n e) (variable n a) ≡ e
  fresh_value i n e a h = ap (as_sort a) (symbol_is i n e a) ∙ as_sort_same a e h
