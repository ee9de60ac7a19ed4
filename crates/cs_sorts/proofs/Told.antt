-- The computed sort is the sort, and live symbols are told.
use Rattle.std.proofs.Common.{◌≡◌, ℕ, zero, suc, ◌+◌, ◌≤◌, Bool, true, false, ◌&&◌, ◌||◌, List, [], ◌∷◌, map, Option, Some, None, ◌⊎◌, inl, inr, refl, sym, ◌∙◌, ap, ap₂, subst, arith, eq-eqb}
use Rattle.std.specs.Prelude.{if◌then◌else◌}
use Rattle.std.proofs.lemmas.Option.{same_Some}
use Rattle.std.proofs.lemmas.Bool.{and_from, and_parts}
use Rattle.vx_frac.specs.Fractions.{lowest}
use Rattle.vx_terms.specs.Sorts.{Sort, IntSort, BoolSort, RealSort, Symbol, Standard, Function, Variable, Named, Operator, And, Or, Implies, Equal, Less, LessEqual, Add, Subtract, Multiply, Div, Mod, same_text, same_sort, same_symbol, Takes, gives}
use Rattle.vx_terms.specs.Terms.{Term, Truth, Number, Part, Constant, Apply, Not, Binary, Ite, AllOf, SomeOf, Terms, NoTerms, MoreTerms, identical, sort_of}
use Rattle.vx_terms.specs.Formed.{IsKnown, Formed, truth, number, part, constant, applies, nots, binary, ites, all_of, some_of, FormedAll, no_terms, more_terms, FormedBools, no_bools, more_bools}
use Rattle.vx_terms.proofs.Same.{fraction_is, sort_is, symbol_is}
use Rattle.vx_terms.proofs.Values.{fraction_same, formed_le, all_formed_le}
use Rattle.vx_smt_meaning.specs.Commands.{Declared}
use Rattle.cs_certificate.specs.Terms.{items, HasSort}
use Rattle.cs_certificate.specs.Certificate.{Contains, Stack, AreLive, AllLive}
use Rattle.cs_certificate.specs.Steps.{◌>>=◌, is_number_sort}
use Rattle.cs_certificate.proofs.Heads.{sort_same}
use Rattle.cs_sorts.specs.Sorting.{takes, of_operands, of_choice, of_bool, sort_in, are_sorted, are_bools, same_sorts, is_declaration, declares, is_live, are_live}
use Rattle.cs_sorts.specs.Laws.{TellsSorts, TellsLive}

bound : {A B : Type 0} (o : Option A) (f : A → Option B) (y : B) → (o >>= f) ≡ Some y → (x : A) × (o ≡ Some x) × (f x ≡ Some y)
bound None f y e = cc
bound (Some x) f y e = (x, refl, e)

chosen : {A : Type 0} (b : Bool) (x y : A) → (if b then Some x else None) ≡ Some y → (b ≡ true) × (x ≡ y)
chosen true x y e = (refl, same_Some _ _ e)
chosen false x y e = cc

-- ---- operators
number_to : (a : Sort) → is_number_sort a ≡ true → (a ≡ IntSort) ⊎ (a ≡ RealSort)
number_to a e = go (same_sort a IntSort) refl e
  where
    go : (d : Bool) → same_sort a IntSort ≡ d → (d || same_sort a RealSort) ≡ true → (a ≡ IntSort) ⊎ (a ≡ RealSort)
    go true z e = inl (sort_is a IntSort z)
    go false z e = inr (sort_is a RealSort e)

number_from : (a : Sort) → (a ≡ IntSort) ⊎ (a ≡ RealSort) → is_number_sort a ≡ true
number_from a h = elim h [ inl e ↦ ap is_number_sort e | inr e ↦ ap is_number_sort e ]

takes_to : (o : Operator) (a : Sort) → takes o a ≡ true → Takes o a
takes_to And a e = sort_is a BoolSort e
takes_to Or a e = sort_is a BoolSort e
takes_to Implies a e = sort_is a BoolSort e
takes_to Equal a e = tt
takes_to Less a e = number_to a e
takes_to LessEqual a e = number_to a e
takes_to Add a e = number_to a e
takes_to Subtract a e = number_to a e
takes_to Multiply a e = number_to a e
takes_to Div a e = sort_is a IntSort e
takes_to Mod a e = sort_is a IntSort e

takes_from : (o : Operator) (a : Sort) → Takes o a → takes o a ≡ true
takes_from And a h = ap (λ x. same_sort x BoolSort) h
takes_from Or a h = ap (λ x. same_sort x BoolSort) h
takes_from Implies a h = ap (λ x. same_sort x BoolSort) h
takes_from Equal a h = refl
takes_from Less a h = number_from a h
takes_from LessEqual a h = number_from a h
takes_from Add a h = number_from a h
takes_from Subtract a h = number_from a h
takes_from Multiply a h = number_from a h
takes_from Div a h = ap (λ x. same_sort x IntSort) h
takes_from Mod a h = ap (λ x. same_sort x IntSort) h

left_most : (m n : ℕ) → m ≤ m + n
left_most m n = omega arith

right_most : (m n : ℕ) → n ≤ m + n
right_most m n = omega arith

known : (f : Symbol) → (n : ℕ) × IsKnown n f
known (Standard k) = (0, tt)
known (Function k) = (0, tt)
known (Variable k) = (suc k, omega arith)
known (Named x) = (0, tt)

known_le : (m n : ℕ) (f : Symbol) → m ≤ n → IsKnown m f → IsKnown n f
known_le m n (Standard k) le h = tt
known_le m n (Function k) le h = tt
known_le m n (Variable k) le h = omega arith
known_le m n (Named x) le h = tt

bools_formed_le : {m n : ℕ} {ts : Terms} → m ≤ n → FormedBools m ts → FormedBools n ts
bools_formed_le le no_bools = no_bools
bools_formed_le le (more_bools f fs) = more_bools (formed_le le f) (bools_formed_le le fs)

-- ---- from the computed sort
mutual
  to_sort : (t : Term) (a : Sort) → sort_in t ≡ Some a → HasSort t a
  to_sort (Truth b) a e = subst (HasSort (Truth b)) (same_Some _ _ e) (0, truth b)
  to_sort (Number z) a e = subst (HasSort (Number z)) (same_Some _ _ e) (0, number z)
  to_sort (Part q) a e = let c = chosen (identical (lowest q) q) RealSort a e in subst (HasSort (Part q)) c.1 (0, part q (fraction_is (lowest q) q c.0))
  to_sort (Constant f b) a e = let k = known f in subst (HasSort (Constant f b)) (same_Some _ _ e) (k.0, constant f b k.1)
  to_sort (Apply f b ts) a e =
      let x = bound (are_sorted ts) _ a e in
      let k = known f in
      let h = to_sorted ts x.0 x.1 in
      subst (HasSort (Apply f b ts)) (same_Some _ _ x.2) (k.0 + h.0, applies f b (known_le k.0 (k.0 + h.0) f (left_most k.0 h.0) k.1) (all_formed_le (right_most k.0 h.0) h.1))
  to_sort (Not t) a e =
      let x = bound (sort_in t) of_bool a e in
      let c = chosen (same_sort x.0 BoolSort) BoolSort a x.2 in
      let h = to_sort t x.0 x.1 in
      subst (HasSort (Not t)) c.1 (h.0, nots (subst (Formed h.0 t) (sort_is x.0 BoolSort c.0) h.1))
  to_sort (Binary o t u) a e =
      let x = bound (sort_in t) _ a e in
      let y = bound (sort_in u) _ a x.2 in
      let c = chosen (takes o x.0 && same_sort y.0 x.0) (gives o x.0) a y.2 in
      let p = and_parts (takes o x.0) (same_sort y.0 x.0) c.0 in
      let h = to_sort t x.0 x.1 in
      let k = to_sort u y.0 y.1 in
      let right : Formed k.0 u x.0 = subst (Formed k.0 u) (sort_is y.0 x.0 p.1) k.1 in
      subst (HasSort (Binary o t u)) c.1 (h.0 + k.0, binary (takes_to o x.0 p.0) (formed_le (left_most h.0 k.0) h.1) (formed_le (right_most h.0 k.0) right))
  to_sort (Ite d t u) a e =
      let w = bound (sort_in d) _ a e in
      let x = bound (sort_in t) _ a w.2 in
      let y = bound (sort_in u) _ a x.2 in
      let c = chosen (same_sort w.0 BoolSort && same_sort y.0 x.0) x.0 a y.2 in
      let p = and_parts (same_sort w.0 BoolSort) (same_sort y.0 x.0) c.0 in
      let g = to_sort d w.0 w.1 in
      let h = to_sort t x.0 x.1 in
      let k = to_sort u y.0 y.1 in
      let test : Formed g.0 d BoolSort = subst (Formed g.0 d) (sort_is w.0 BoolSort p.0) g.1 in
      let right : Formed k.0 u x.0 = subst (Formed k.0 u) (sort_is y.0 x.0 p.1) k.1 in
      subst (HasSort (Ite d t u)) c.1 (
        g.0 + (h.0 + k.0),
        ites (formed_le (left_most g.0 (h.0 + k.0)) test) (formed_le (right_most g.0 (h.0 + k.0)) (formed_le (left_most h.0 k.0) h.1))
            (formed_le (right_most g.0 (h.0 + k.0)) (formed_le (right_most h.0 k.0) right)),
      )
  to_sort (AllOf ts) a e = let x = bound (are_bools ts) _ a e in let h = to_bools ts x.0 x.1 in subst (HasSort (AllOf ts)) (same_Some _ _ x.2) (h.0, all_of h.1)
  to_sort (SomeOf ts) a e = let x = bound (are_bools ts) _ a e in let h = to_bools ts x.0 x.1 in subst (HasSort (SomeOf ts)) (same_Some _ _ x.2) (h.0, some_of h.1)

  to_sorted : (ts : Terms) (v : Unit {0}) → are_sorted ts ≡ Some v → (n : ℕ) × FormedAll n ts
  to_sorted NoTerms v e = (0, no_terms)
  to_sorted (MoreTerms t ts) v e =
      let x = bound (sort_in t) _ v e in
      let h = to_sort t x.0 x.1 in
      let k = to_sorted ts v x.2 in
      (h.0 + k.0, more_terms x.0 (formed_le (left_most h.0 k.0) h.1) (all_formed_le (right_most h.0 k.0) k.1))

  to_bools : (ts : Terms) (v : Unit {0}) → are_bools ts ≡ Some v → (n : ℕ) × FormedBools n ts
  to_bools NoTerms v e = (0, no_bools)
  to_bools (MoreTerms t ts) v e =
      let x = bound (sort_in t) _ v e in
      let y = bound (of_bool x.0) _ v x.2 in
      let c = chosen (same_sort x.0 BoolSort) BoolSort y.0 y.1 in
      let h = to_sort t x.0 x.1 in
      let k = to_bools ts v y.2 in
      (h.0 + k.0, more_bools (formed_le (left_most h.0 k.0) (subst (Formed h.0 t) (sort_is x.0 BoolSort c.0) h.1)) (bools_formed_le (right_most h.0 k.0) k.1))

-- ---- to it
mutual
  from_sort : {n : ℕ} {t : Term} {a : Sort} → Formed n t a → sort_in t ≡ Some a
  from_sort (truth b) = refl
  from_sort (number z) = refl
  from_sort (part q g) = ap (λ b. if b then Some RealSort else None) (ap (λ x. identical x q) g ∙ fraction_same q)
  from_sort (constant f a g) = refl
  from_sort (applies f a g h) = ap (λ o. o >>= λ u. Some a) (from_sorted h)
  from_sort (nots h) = ap (λ o. o >>= of_bool) (from_sort h)
  from_sort (binary {o = o} {t = t} {u = u} {a = a} g h i) =
      ap (λ x. x >>= λ p. (sort_in u >>= of_operands o p)) (from_sort h) ∙ ap (λ x. x >>= of_operands o a) (from_sort i)
      ∙ ap (λ b. if b then Some (gives o a) else None) (and_from _ _ (takes_from o a g) (sort_same a))
  from_sort (ites {c = c} {t = t} {u = u} {a = a} g h i) =
      ap (λ x. x >>= λ w. (sort_in t >>= λ p. (sort_in u >>= of_choice w p))) (from_sort g)
      ∙ ap (λ x. x >>= λ p. (sort_in u >>= of_choice BoolSort p)) (from_sort h) ∙ ap (λ x. x >>= of_choice BoolSort a) (from_sort i)
      ∙ ap (λ b. if b then Some a else None) (sort_same a)
  from_sort (all_of h) = ap (λ o. o >>= λ u. Some BoolSort) (from_bools h)
  from_sort (some_of h) = ap (λ o. o >>= λ u. Some BoolSort) (from_bools h)

  from_sorted : {n : ℕ} {ts : Terms} → FormedAll n ts → are_sorted ts ≡ Some tt
  from_sorted no_terms = refl
  from_sorted (more_terms {t = t} {ts = ts} a h more) = ap (λ o. o >>= λ x. are_sorted ts) (from_sort h) ∙ from_sorted more

  from_bools : {n : ℕ} {ts : Terms} → FormedBools n ts → are_bools ts ≡ Some tt
  from_bools no_bools = refl
  from_bools (more_bools {t = t} {ts = ts} h more) = ap (λ o. o >>= λ x. (of_bool x >>= λ b. are_bools ts)) (from_sort h) ∙ from_bools more

pub tells_sorts : TellsSorts
tells_sorts t a = (to_sort t a, λ h. from_sort h.1)

-- ---- declarations
text_same : (x : List ℕ) → same_text x x ≡ true
text_same [] = refl
text_same (a ∷ x) = and_from _ _ (eq-eqb a a refl) (text_same x)

symbol_same : (f : Symbol) → same_symbol f f ≡ true
symbol_same (Standard n) = eq-eqb n n refl
symbol_same (Function n) = eq-eqb n n refl
symbol_same (Variable n) = eq-eqb n n refl
symbol_same (Named x) = text_same x

sorts_same : (ss : List Sort) → same_sorts ss ss ≡ true
sorts_same [] = refl
sorts_same (a ∷ as') = and_from _ _ (sort_same a) (sorts_same as')

sorts_are : (ss rs : List Sort) → same_sorts ss rs ≡ true → ss ≡ rs
sorts_are [] [] e = refl
sorts_are [] (b ∷ bs) e = cc
sorts_are (a ∷ as') [] e = cc
sorts_are (a ∷ as') (b ∷ bs) e = let p = and_parts (same_sort a b) (same_sorts as' bs) e in ap₂ (λ x xs. x ∷ xs) (sort_is a b p.0) (sorts_are as' bs p.1)

abbrev declaration : Symbol → List Sort → Sort → Declared
declaration f ss a = record { symbol = f; takes = ss; gives = a }

declaration_is : (f : Symbol) (ss : List Sort) (a : Sort) (d : Declared) → is_declaration f ss a d ≡ true → d ≡ declaration f ss a
declaration_is f ss a d e =
    let p = and_parts (same_symbol f d.symbol) (same_sorts ss d.takes && same_sort a d.gives) e in
    let q = and_parts (same_sorts ss d.takes) (same_sort a d.gives) p.1 in
    ap₂ (λ x y. record { symbol = x; takes = y; gives = d.gives }) (sym (symbol_is f d.symbol p.0)) (sym (sorts_are ss d.takes q.0))
    ∙ ap (declaration f ss) (sym (sort_is a d.gives q.1))

declares_to : (ds : List Declared) (f : Symbol) (ss : List Sort) (a : Sort) → declares ds f ss a ≡ true → Contains ds (declaration f ss a)
declares_to [] f ss a e = cc
declares_to (d ∷ ds) f ss a e = go (is_declaration f ss a d) refl e (declares_to ds f ss a)
  where
    go : (b : Bool) → is_declaration f ss a d ≡ b → (b || declares ds f ss a) ≡ true → (declares ds f ss a ≡ true → Contains ds (declaration f ss a)) → Contains (d ∷ ds) (declaration f ss a)
    go true g e k = (0, ap Some (declaration_is f ss a d g))
    go false g e k = let h = k e in (suc h.0, h.1)

declares_from : (ds : List Declared) (f : Symbol) (ss : List Sort) (a : Sort) → Contains ds (declaration f ss a) → declares ds f ss a ≡ true
declares_from [] f ss a (n, e) = cc
declares_from (d ∷ ds) f ss a (zero, e) =
    ap (λ b. b || declares ds f ss a) (ap (is_declaration f ss a) (same_Some _ _ e) ∙ and_from _ _ (symbol_same f) (and_from _ _ (sorts_same ss) (sort_same a)))
declares_from (d ∷ ds) f ss a (suc n, e) = go (is_declaration f ss a d) (declares_from ds f ss a (n, e))
  where
    go : (b : Bool) → declares ds f ss a ≡ true → (b || declares ds f ss a) ≡ true
    go true h = refl
    go false h = h

module _ (stack : Stack) where
  mutual
    to_live : (t : Term) → is_live stack.symbols t ≡ true → AreLive stack t
    to_live (Truth b) e = tt
    to_live (Number z) e = tt
    to_live (Part q) e = tt
    to_live (Constant f a) e = declares_to stack.symbols f [] a e
    to_live (Apply f a ts) e = let p = and_parts (declares stack.symbols f (map sort_of (items ts)) a) (are_live stack.symbols ts) e in (declares_to stack.symbols f (map sort_of (items ts)) a p.0, to_all_live ts p.1)
    to_live (Not t) e = to_live t e
    to_live (Binary o t u) e = let p = and_parts (is_live stack.symbols t) (is_live stack.symbols u) e in (to_live t p.0, to_live u p.1)
    to_live (Ite c t u) e =
        let p = and_parts (is_live stack.symbols c) (is_live stack.symbols t && is_live stack.symbols u) e in
        let q = and_parts (is_live stack.symbols t) (is_live stack.symbols u) p.1 in
        (to_live c p.0, to_live t q.0, to_live u q.1)
    to_live (AllOf ts) e = to_all_live ts e
    to_live (SomeOf ts) e = to_all_live ts e

    to_all_live : (ts : Terms) → are_live stack.symbols ts ≡ true → AllLive stack ts
    to_all_live NoTerms e = tt
    to_all_live (MoreTerms t ts) e = let p = and_parts (is_live stack.symbols t) (are_live stack.symbols ts) e in (to_live t p.0, to_all_live ts p.1)

  mutual
    from_live : (t : Term) → AreLive stack t → is_live stack.symbols t ≡ true
    from_live (Truth b) h = refl
    from_live (Number z) h = refl
    from_live (Part q) h = refl
    from_live (Constant f a) h = declares_from stack.symbols f [] a h
    from_live (Apply f a ts) h = and_from _ _ (declares_from stack.symbols f (map sort_of (items ts)) a h.0) (from_all_live ts h.1)
    from_live (Not t) h = from_live t h
    from_live (Binary o t u) h = and_from _ _ (from_live t h.0) (from_live u h.1)
    from_live (Ite c t u) h = and_from _ _ (from_live c h.0) (and_from _ _ (from_live t h.1) (from_live u h.2))
    from_live (AllOf ts) h = from_all_live ts h
    from_live (SomeOf ts) h = from_all_live ts h

    from_all_live : (ts : Terms) → AllLive stack ts → are_live stack.symbols ts ≡ true
    from_all_live NoTerms h = refl
    from_all_live (MoreTerms t ts) h = and_from _ _ (from_live t h.0) (from_all_live ts h.1)

pub tells_live : TellsLive
tells_live stack t = (to_live stack t, from_live stack t)
