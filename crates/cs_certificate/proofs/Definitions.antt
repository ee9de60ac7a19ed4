-- The table of definitions by numbers.
use Rattle.std.proofs.Common.{◌≡◌, ℕ, zero, suc, true, false, List, [], ◌∷◌, map, length, Option, Some, None, slice_get, refl, sym, ◌∙◌, ap, subst, eqb-true, eq-eqb}
use Rattle.std.specs.Prelude.{nat_eq, if◌then◌else◌}
use Rattle.vx_terms.specs.Sorts.{BoolSort, Operator, And, Or, Implies, Equal, Less, LessEqual, Add, Subtract, Multiply, Div, Mod, same_sort}
use Rattle.vx_terms.specs.Terms.{Term, Truth, Number, Part, Constant, Apply, Not, Binary, Ite, AllOf, SomeOf}
use Rattle.vx_terms.proofs.Same.{sort_is}
use Rattle.cs_certificate.specs.Terms.{head, items, parts, HasSort}
use Rattle.cs_certificate.specs.Certificate.{At, AllAt, no-terms, one-term, Clause, Yes, No, NumberedLiteral, Stack, State, IsAnd, and-of-two, and-of-more, IsOr, or-of-two, or-of-more, Defines, true-is, false-is, not-0, not-1, and-part, and-all, or-part, or-all, implies-0, implies-1, implies-2, ite-0, ite-1, ite-2, ite-3, equal-0, equal-1, equal-2, equal-3, Define, Derives, define}
use Rattle.cs_certificate.specs.Nodes.{Node, Represents}
use Rattle.cs_certificate.specs.Steps.{plain, denial, Names, names-none, names-yes, names-no, if_bool, and_row, or_row, ite_row, equal_row, define_by, define_clause, Computes}
use Rattle.cs_certificate.proofs.Find.{one_at}
use Rattle.cs_certificate.proofs.Chains.{bind_some, bind_to}
use Rattle.cs_certificate.proofs.Comparisons.{chosen, if_sort_to}

some_is : {x y : List NumberedLiteral} → Some x ≡ Some y → x ≡ y
some_is e = cc

-- parts and their numbers, place by place
part_at : (terms : List Term) {ps : List ℕ} {xs : List Term} (k p : ℕ) → AllAt terms ps xs → slice_get ps k ≡ Some p → (x : Term) × At xs k x × At terms p x
part_at terms k p no-terms e = cc
part_at terms zero p (one-term {n = n} {t = t} a all) e = let f : n ≡ p = cc in (t, refl, subst (λ m. At terms m t) f a)
part_at terms (suc k) p (one-term a all) e = part_at terms k p all e

number_at_part : (terms : List Term) {ps : List ℕ} {xs : List Term} (k : ℕ) (x : Term) → AllAt terms ps xs → At xs k x → (p : ℕ) × (slice_get ps k ≡ Some p) × At terms p x
number_at_part terms k x no-terms e = cc
number_at_part terms zero x (one-term {n = n} {t = t} a all) e = let f : t ≡ x = cc in (n, refl, subst (At terms n) f a)
number_at_part terms (suc k) x (one-term a all) e = number_at_part terms k x all e

same_length : (terms : List Term) {ps : List ℕ} {xs : List Term} → AllAt terms ps xs → length ps ≡ length xs
same_length terms no-terms = refl
same_length terms (one-term a all) = ap suc (same_length terms all)

past_end : {A : Type 0} (xs : List A) → slice_get xs (length xs) ≡ None
past_end [] = refl
past_end (x ∷ xs) = past_end xs

all_denied : (terms : List Term) {ps : List ℕ} {xs : List Term} → AllAt terms ps xs → Names terms (map denial ps) (map No xs)
all_denied terms no-terms = names-none
all_denied terms (one-term a all) = names-no a (all_denied terms all)

all_plain : (terms : List Term) {ps : List ℕ} {xs : List Term} → AllAt terms ps xs → Names terms (map plain ps) (map Yes xs)
all_plain terms no-terms = names-none
all_plain terms (one-term a all) = names-yes a (all_plain terms all)

module _ (nodes : List Node) (s : State) (r : Represents nodes s.terms) where
  -- what a row says of a term
  Row : Term → ℕ → List NumberedLiteral → Type 0
  Row t k ls = (c : Clause) × Names s.terms ls c × Defines t k c

  row : {t : Term} {k : ℕ} {xs ls : List NumberedLiteral} {c : Clause} → Names s.terms xs c → Defines t k c → Some xs ≡ Some ls → Row t k ls
  unfolding Row
  row {c = c} n d e = (c, subst (λ l. Names s.terms l c) (some_is e) n, d)

  bool_known : (p : ℕ) (x : Term) (o : Option (List NumberedLiteral)) (ls : List NumberedLiteral) → At s.terms p x → if_bool nodes p o ≡ Some ls → HasSort x BoolSort × (o ≡ Some ls)
  bool_known p x o ls at e =
      let n = bind_some (slice_get nodes p) _ ls e in
      let d = chosen (same_sort (n.0).sort BoolSort) o ls n.2 in
      let v = r.each p n.0 n.1 in
      (subst (λ t. HasSort t BoolSort) (one_at s.terms p v.0 x v.1 at) (subst (HasSort v.0) (sort_is (n.0).sort BoolSort d.0) (v.2).sorted), d.1)

  known_bool : (p : ℕ) (x : Term) (o : Option (List NumberedLiteral)) (ls : List NumberedLiteral) → At s.terms p x → HasSort x BoolSort → o ≡ Some ls → if_bool nodes p o ≡ Some ls
  known_bool p x o ls at h e =
      let n = r.every p x at in
      bind_to (slice_get nodes p) _ n.0 ls n.1 (if_sort_to nodes s r p n.0 x BoolSort o n.1 at h ∙ e)

  module _ (t : Term) (n : ℕ) (at : At s.terms n t) where
    and_sound : (xs : List Term) (ps : List ℕ) → IsAnd t xs → AllAt s.terms ps xs → (k : ℕ) (ls : List NumberedLiteral) (o : Option ℕ) → slice_get ps k ≡ o → and_row o n ps k ≡ Some ls → Row t k ls
    and_sound xs ps i all k ls (Some p) f e = let x = part_at s.terms k p all f in row (names-no at (names-yes x.2 names-none)) (and-part i x.1) e
    and_sound xs ps i all k ls None f e =
        let d = chosen (nat_eq k (length ps)) (Some (plain n ∷ map denial ps)) ls e in
        let whole : k ≡ length xs = eqb-true k (length ps) d.0 ∙ same_length s.terms all in
        subst (λ j. Row t j ls) (sym whole) (row (names-yes at (all_denied s.terms all)) (and-all i) d.1)

    or_sound : (xs : List Term) (ps : List ℕ) → IsOr t xs → AllAt s.terms ps xs → (k : ℕ) (ls : List NumberedLiteral) (o : Option ℕ) → slice_get ps k ≡ o → or_row o n ps k ≡ Some ls → Row t k ls
    or_sound xs ps i all k ls (Some p) f e = let x = part_at s.terms k p all f in row (names-yes at (names-no x.2 names-none)) (or-part i x.1) e
    or_sound xs ps i all k ls None f e =
        let d = chosen (nat_eq k (length ps)) (Some (denial n ∷ map plain ps)) ls e in
        let whole : k ≡ length xs = eqb-true k (length ps) d.0 ∙ same_length s.terms all in
        subst (λ j. Row t j ls) (sym whole) (row (names-no at (all_plain s.terms all)) (or-all i) d.1)

  binary_sound : (o : Operator) (x y : Term) (n a b : ℕ) → At s.terms n (Binary o x y) → At s.terms a x → At s.terms b y → (k : ℕ) (ls : List NumberedLiteral) →
      define_by nodes n (head (Binary o x y)) (a ∷ b ∷ []) k ≡ Some ls → Row (Binary o x y) k ls
  binary_sound And x y n a b at p q k ls e = and_sound (Binary And x y) n at (x ∷ y ∷ []) (a ∷ b ∷ []) (and-of-two x y) (one-term p (one-term q no-terms)) k ls _ refl e
  binary_sound Or x y n a b at p q k ls e = or_sound (Binary Or x y) n at (x ∷ y ∷ []) (a ∷ b ∷ []) (or-of-two x y) (one-term p (one-term q no-terms)) k ls _ refl e
  binary_sound Implies x y n a b at p q zero ls e = row (names-no at (names-no p (names-yes q names-none))) (implies-0 x y) e
  binary_sound Implies x y n a b at p q (suc zero) ls e = row (names-yes at (names-yes p names-none)) (implies-1 x y) e
  binary_sound Implies x y n a b at p q (suc (suc zero)) ls e = row (names-yes at (names-no q names-none)) (implies-2 x y) e
  binary_sound Implies x y n a b at p q (suc (suc (suc k))) ls e = cc
  binary_sound Equal x y n a b at p q k ls e =
      let f = bool_known a x (if_bool nodes b (equal_row n a b k)) ls p e in
      let g = bool_known b y (equal_row n a b k) ls q f.1 in
      go k f.0 g.0 g.1
    where
      go : (k : ℕ) → HasSort x BoolSort → HasSort y BoolSort → equal_row n a b k ≡ Some ls → Row (Binary Equal x y) k ls
      go zero f g e = row (names-no at (names-no p (names-yes q names-none))) (equal-0 x y f g) e
      go (suc zero) f g e = row (names-no at (names-yes p (names-no q names-none))) (equal-1 x y f g) e
      go (suc (suc zero)) f g e = row (names-yes at (names-yes p (names-yes q names-none))) (equal-2 x y f g) e
      go (suc (suc (suc zero))) f g e = row (names-yes at (names-no p (names-no q names-none))) (equal-3 x y f g) e
      go (suc (suc (suc (suc k)))) f g e = cc
  binary_sound Less x y n a b at p q k ls e = cc
  binary_sound LessEqual x y n a b at p q k ls e = cc
  binary_sound Add x y n a b at p q k ls e = cc
  binary_sound Subtract x y n a b at p q k ls e = cc
  binary_sound Multiply x y n a b at p q k ls e = cc
  binary_sound Div x y n a b at p q k ls e = cc
  binary_sound Mod x y n a b at p q k ls e = cc

  by_sound : (t : Term) (n : ℕ) (ps : List ℕ) → At s.terms n t → AllAt s.terms ps (parts t) → (k : ℕ) (ls : List NumberedLiteral) → define_by nodes n (head t) ps k ≡ Some ls → Row t k ls
  by_sound (Truth true) n ps at all zero ls e = row (names-yes at names-none) true-is e
  by_sound (Truth true) n ps at all (suc k) ls e = cc
  by_sound (Truth false) n ps at all zero ls e = row (names-no at names-none) false-is e
  by_sound (Truth false) n ps at all (suc k) ls e = cc
  by_sound (Number z) n ps at all k ls e = cc
  by_sound (Part a) n ps at all k ls e = cc
  by_sound (Constant f a) n ps at all k ls e = cc
  by_sound (Apply f a ts) n ps at all k ls e = cc
  by_sound (Not x) n _ at (one-term p no-terms) zero ls e = row (names-no at (names-no p names-none)) (not-0 x) e
  by_sound (Not x) n _ at (one-term p no-terms) (suc zero) ls e = row (names-yes at (names-yes p names-none)) (not-1 x) e
  by_sound (Not x) n _ at (one-term p no-terms) (suc (suc k)) ls e = cc
  by_sound (Binary o x y) n _ at (one-term {n = a} p (one-term {n = b} q no-terms)) k ls e = binary_sound o x y n a b at p q k ls e
  by_sound (Ite c x y) n _ at (one-term {n = i} p (one-term {n = a} q (one-term {n = b} w no-terms))) k ls e =
      let f = bool_known a x (ite_row n i a b k) ls q e in
      go k f.0 f.1
    where
      go : (k : ℕ) → HasSort x BoolSort → ite_row n i a b k ≡ Some ls → Row (Ite c x y) k ls
      go zero f e = row (names-no at (names-no p (names-yes q names-none))) (ite-0 c x y f) e
      go (suc zero) f e = row (names-yes at (names-no p (names-no q names-none))) (ite-1 c x y f) e
      go (suc (suc zero)) f e = row (names-no at (names-yes p (names-yes w names-none))) (ite-2 c x y f) e
      go (suc (suc (suc zero))) f e = row (names-yes at (names-yes p (names-no w names-none))) (ite-3 c x y f) e
      go (suc (suc (suc (suc k)))) f e = cc
  by_sound (AllOf ts) n ps at all k ls e = and_sound (AllOf ts) n at (items ts) ps (and-of-more ts) all k ls _ refl e
  by_sound (SomeOf ts) n ps at all k ls e = or_sound (SomeOf ts) n at (items ts) ps (or-of-more ts) all k ls _ refl e

  -- and the other way round
  Found : ℕ → Term → List ℕ → ℕ → Clause → Type 0
  Found n t ps k c = (ls : List NumberedLiteral) × Names s.terms ls c × (define_by nodes n (head t) ps k ≡ Some ls)

  and_found : (t : Term) (n : ℕ) (xs : List Term) (ps : List ℕ) → IsAnd t xs → AllAt s.terms ps (parts t) → (k : ℕ) → define_by nodes n (head t) ps k ≡ and_row (slice_get ps k) n ps k
  and_found t n xs ps (and-of-two x y) all k = refl
  and_found t n xs ps (and-of-more ts) all k = refl

  and_parts : {t : Term} {xs : List Term} → IsAnd t xs → parts t ≡ xs
  and_parts (and-of-two x y) = refl
  and_parts (and-of-more ts) = refl

  or_found : (t : Term) (n : ℕ) (xs : List Term) (ps : List ℕ) → IsOr t xs → AllAt s.terms ps (parts t) → (k : ℕ) → define_by nodes n (head t) ps k ≡ or_row (slice_get ps k) n ps k
  or_found t n xs ps (or-of-two x y) all k = refl
  or_found t n xs ps (or-of-more ts) all k = refl

  or_parts : {t : Term} {xs : List Term} → IsOr t xs → parts t ≡ xs
  or_parts (or-of-two x y) = refl
  or_parts (or-of-more ts) = refl

  by_complete : {t : Term} {k : ℕ} {c : Clause} (n : ℕ) (ps : List ℕ) → At s.terms n t → AllAt s.terms ps (parts t) → Defines t k c → Found n t ps k c
  unfolding Found
  by_complete n ps at all true-is = (plain n ∷ [], names-yes at names-none, refl)
  by_complete n ps at all false-is = (denial n ∷ [], names-no at names-none, refl)
  by_complete n _ at (one-term p no-terms) (not-0 x) = (_, names-no at (names-no p names-none), refl)
  by_complete n _ at (one-term p no-terms) (not-1 x) = (_, names-yes at (names-yes p names-none), refl)
  by_complete {t = t} n ps at all (and-part {xs = xs} {k = k} i h) =
      let p = number_at_part s.terms k _ (subst (AllAt s.terms ps) (and_parts i) all) h in
      (_, names-no at (names-yes p.2 names-none), and_found t n xs ps i all k ∙ ap (λ o. and_row o n ps k) p.1)
  by_complete {t = t} n ps at all (and-all {xs = xs} i) =
      let every = subst (AllAt s.terms ps) (and_parts i) all in
      let l : length ps ≡ length xs = same_length s.terms every in (
        plain n ∷ map denial ps,
        names-yes at (all_denied s.terms every),
        and_found t n xs ps i all (length xs) ∙ ap (λ o. and_row o n ps (length xs)) (ap (slice_get ps) (sym l) ∙ past_end ps)
            ∙ ap (λ d. if d then Some (plain n ∷ map denial ps) else None) (eq-eqb (length xs) (length ps) (sym l)),
      )
  by_complete {t = t} n ps at all (or-part {xs = xs} {k = k} i h) =
      let p = number_at_part s.terms k _ (subst (AllAt s.terms ps) (or_parts i) all) h in
      (_, names-yes at (names-no p.2 names-none), or_found t n xs ps i all k ∙ ap (λ o. or_row o n ps k) p.1)
  by_complete {t = t} n ps at all (or-all {xs = xs} i) =
      let every = subst (AllAt s.terms ps) (or_parts i) all in
      let l : length ps ≡ length xs = same_length s.terms every in (
        denial n ∷ map plain ps,
        names-no at (all_plain s.terms every),
        or_found t n xs ps i all (length xs) ∙ ap (λ o. or_row o n ps (length xs)) (ap (slice_get ps) (sym l) ∙ past_end ps)
            ∙ ap (λ d. if d then Some (denial n ∷ map plain ps) else None) (eq-eqb (length xs) (length ps) (sym l)),
      )
  by_complete n _ at (one-term p (one-term q no-terms)) (implies-0 x y) = (_, names-no at (names-no p (names-yes q names-none)), refl)
  by_complete n _ at (one-term p (one-term q no-terms)) (implies-1 x y) = (_, names-yes at (names-yes p names-none), refl)
  by_complete n _ at (one-term p (one-term q no-terms)) (implies-2 x y) = (_, names-yes at (names-no q names-none), refl)
  by_complete n _ at (one-term {n = i} p (one-term {n = a} q (one-term {n = b} w no-terms))) (ite-0 c x y f) = (_, names-no at (names-no p (names-yes q names-none)), known_bool a x (ite_row n i a b 0) _ q f refl)
  by_complete n _ at (one-term {n = i} p (one-term {n = a} q (one-term {n = b} w no-terms))) (ite-1 c x y f) = (_, names-yes at (names-no p (names-no q names-none)), known_bool a x (ite_row n i a b 1) _ q f refl)
  by_complete n _ at (one-term {n = i} p (one-term {n = a} q (one-term {n = b} w no-terms))) (ite-2 c x y f) = (_, names-no at (names-yes p (names-yes w names-none)), known_bool a x (ite_row n i a b 2) _ q f refl)
  by_complete n _ at (one-term {n = i} p (one-term {n = a} q (one-term {n = b} w no-terms))) (ite-3 c x y f) = (_, names-yes at (names-yes p (names-no w names-none)), known_bool a x (ite_row n i a b 3) _ q f refl)
  by_complete n _ at (one-term {n = a} p (one-term {n = b} q no-terms)) (equal-0 x y f g) = (_, names-no at (names-no p (names-yes q names-none)), known_bool a x _ _ p f (known_bool b y (equal_row n a b 0) _ q g refl))
  by_complete n _ at (one-term {n = a} p (one-term {n = b} q no-terms)) (equal-1 x y f g) = (_, names-no at (names-yes p (names-no q names-none)), known_bool a x _ _ p f (known_bool b y (equal_row n a b 1) _ q g refl))
  by_complete n _ at (one-term {n = a} p (one-term {n = b} q no-terms)) (equal-2 x y f g) = (_, names-yes at (names-yes p (names-yes q names-none)), known_bool a x _ _ p f (known_bool b y (equal_row n a b 2) _ q g refl))
  by_complete n _ at (one-term {n = a} p (one-term {n = b} q no-terms)) (equal-3 x y f g) = (_, names-yes at (names-no p (names-no q names-none)), known_bool a x _ _ p f (known_bool b y (equal_row n a b 3) _ q g refl))

  pub define_computes : (stack : Stack) (n k : ℕ) → Computes nodes s stack (Define n k) (define_clause nodes n k)
  unfolding Row Found
  define_computes stack n k = record { sound = sound; complete = complete }
    where
      sound : (ns : List NumberedLiteral) → define_clause nodes n k ≡ Some ns → (c : Clause) × Names s.terms ns c × Derives stack s (Define n k) c
      sound ns e =
          let x = bind_some (slice_get nodes n) _ ns e in
          let t = r.each n x.0 x.1 in
          let d = by_sound t.0 n (x.0).parts t.1 (t.2).same_parts k ns (ap (λ h. define_by nodes n h (x.0).parts k) (t.2).same_head ∙ x.2) in
          (d.0, d.1, define t.1 d.2)

      complete : (c : Clause) → Derives stack s (Define n k) c → (ns : List NumberedLiteral) × Names s.terms ns c × (define_clause nodes n k ≡ Some ns)
      complete c (define {t = t} at d) =
          let x = r.every n t at in
          let v = r.each n x.0 x.1 in
          let is : v.0 ≡ t = one_at s.terms n v.0 t v.1 at in
          let h : head t ≡ (x.0).head = sym (ap head is) ∙ (v.2).same_head in
          let f = by_complete n (x.0).parts at (subst (λ u. AllAt s.terms (x.0).parts (parts u)) is (v.2).same_parts) d in
          (f.0, f.1, bind_to (slice_get nodes n) _ x.0 f.0 x.1 (ap (λ g. define_by nodes n g (x.0).parts k) (sym h) ∙ f.2))
