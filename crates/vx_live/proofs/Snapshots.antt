-- What the constructors of snapshots build is well-sorted, and over the standard symbols, where its parts are.
use Rattle.std.proofs.Common.{◌≡◌, ◌⊎◌, ◌∙◌, inl, inr, refl, sym, subst, List, [], ◌∷◌, ◌++◌, ℕ, suc, zero, ◌+◌, Bool, true, false, cond}
use Rattle.vx_ast.specs.declared.ValueType.{ValueType}
use Rattle.vx_ast.specs.declared.ValueType.TheVariants as type
use Rattle.vx_terms.specs.Sorts.{Sort, BoolSort, SnapSort, Symbol, Standard, Function, Variable, Named, Equal, same_symbol}
use Rattle.vx_terms.specs.Terms.{Term, Binary, Apply, Terms, NoTerms, MoreTerms, same, sort_of}
use Rattle.vx_terms.specs.Build.{unit, one, two, pair, written_first, written_second, first, second, wrap, wrap_number, written_unwrap, unwrap}
use Rattle.vx_terms.specs.Formed.{Formed, constant, applies, binary, FormedAll, no_terms, more_terms}
use Rattle.vx_terms.proofs.Same.{term_is}
use Rattle.vx_terms.proofs.Values.{sort_of_formed}
use Rattle.vx_smt_meaning.specs.Commands.{Declared}
use Rattle.vx_smt_meaning.specs.Symbols.{declaration, Declares}
use Rattle.vx_smt_meaning.specs.Standard.{standard, standard_symbols}
use Rattle.vx_rules.specs.States.{sort_of_type}
use Rattle.vx_terms.specs.Interpretations.{Each}
use Rattle.vx_live.proofs.Over.{IsF, IsOfFunction, Sorts, Fine, declared_one}

-- What is taken apart

-- the sorts that a symbol takes, by the first of its declarations
abbrev takes_in : List Declared → Symbol → List Sort
takes_in [] f = []
takes_in (d ∷ ds) f = cond (same_symbol d.symbol f) d.takes (takes_in ds f)

abbrev IsS : Symbol → Type 0
IsS (Standard n) = Unit {0}
IsS _ = ⊥

f_is_no_s : (f : Symbol) → IsF f → IsS f → ⊥
f_is_no_s (Standard n) h k = h
f_is_no_s (Function n) h k = k
f_is_no_s (Variable n) h k = k
f_is_no_s (Named x) h k = k

abbrev TakesItsOwn : Declared → Type 0
TakesItsOwn c = IsS c.symbol → c.takes ≡ takes_in standard_symbols c.symbol

functions_take : (fs : List Declared) → Each IsOfFunction fs → Each TakesItsOwn fs
functions_take [] h = tt
functions_take (c ∷ fs) h = (λ k. absurd (f_is_no_s c.symbol h.0.symbol k), functions_take fs h.1)

standard_takes : (fs : List Declared) → Each IsOfFunction fs → (e : Declared) → Declares (standard_symbols ++ fs) e → IsS e.symbol → e.takes ≡ takes_in standard_symbols e.symbol
standard_takes fs g e k =
    declared_one TakesItsOwn (standard_symbols ++ fs) e (λ s. refl, (λ s. refl, (λ s. refl, (λ s. refl, (λ s. refl, (λ s. refl, (λ s. refl, (λ s. refl, (λ s. refl, (λ s. refl, (λ s. refl, (λ s. refl, (λ s. refl, functions_take fs g))))))))))))) k

one_sort : (a b : Sort) → a ∷ [] ≡ b ∷ [] → a ≡ b
one_sort a b e = cc

two_sorts : (a b c d : Sort) → a ∷ b ∷ [] ≡ c ∷ d ∷ [] → (a ≡ c) × (b ≡ d)
two_sorts a b c d e = (cc, cc)

applied : {n : ℕ} {f : Symbol} {a b : Sort} {ts : Terms} → Formed n (Apply f a ts) b → FormedAll n ts
applied (applies f a k fs) = fs

head_formed : {n : ℕ} {t : Term} {ts : Terms} → FormedAll n (MoreTerms t ts) → Formed n t (sort_of t)
head_formed {n = n} (more_terms {t = t} a f fs) = subst (λ b. Formed n t b) (sym (sort_of_formed f)) f

rest_formed : {n : ℕ} {t : Term} {ts : Terms} → FormedAll n (MoreTerms t ts) → FormedAll n ts
rest_formed (more_terms a f fs) = fs

-- a pair as it is written, of which the parts are known
record IsPair (t : Term) : Type 0 where
  pub sort : Sort
  pub left : Term
  pub right : Term
  pub is : t ≡ Apply (Standard 2) sort (two left right)

abbrev ByParts : Term → Type 0
ByParts t = IsPair t ⊎ ((first t ≡ written_first t) × (second t ≡ written_second t))

by_parts : (t : Term) → ByParts t
by_parts (Apply (Standard (suc (suc zero))) a (MoreTerms s (MoreTerms t NoTerms))) = inl record { sort = a; left = s; right = t; is = refl }
by_parts t = inr (refl, refl)

-- The wraps, and what takes them apart

wraps : (fs : List Declared) (t : ValueType) → Declares (standard_symbols ++ fs) (standard (5 + wrap_number (sort_of_type t)) (sort_of_type t ∷ []) SnapSort)
wraps fs type.Int = inr (inr (inr (inr (inr (inl refl)))))
wraps fs type.Bool = inr (inr (inr (inr (inr (inr (inl refl))))))
wraps fs type.Perm = inr (inr (inr (inr (inr (inr (inr (inl refl)))))))
wraps fs type.Ref = inr (inr (inr (inr (inr (inr (inr (inr (inl refl))))))))

unwraps : (fs : List Declared) (t : ValueType) → Declares (standard_symbols ++ fs) (standard (9 + wrap_number (sort_of_type t)) (SnapSort ∷ []) (sort_of_type t))
unwraps fs type.Int = inr (inr (inr (inr (inr (inr (inr (inr (inr (inl refl)))))))))
unwraps fs type.Bool = inr (inr (inr (inr (inr (inr (inr (inr (inr (inr (inl refl))))))))))
unwraps fs type.Perm = inr (inr (inr (inr (inr (inr (inr (inr (inr (inr (inr (inl refl)))))))))))
unwraps fs type.Ref = inr (inr (inr (inr (inr (inr (inr (inr (inr (inr (inr (inr (inl refl))))))))))))

wrapped_takes : (t : ValueType) → takes_in standard_symbols (Standard (5 + wrap_number (sort_of_type t))) ≡ sort_of_type t ∷ []
wrapped_takes type.Int = refl
wrapped_takes type.Bool = refl
wrapped_takes type.Perm = refl
wrapped_takes type.Ref = refl

module _ {fs : List Declared} {d : Sorts fs} {n : ℕ} where
  pub unit_fine : Fine d n unit SnapSort
  unit_fine = record { formed = constant (Standard 1) SnapSort tt; over = inr (inl refl) }

  -- an equation that is written as it is
  pub written_equal_fine : {t u : Term} {a : Sort} → Fine d n t a → Fine d n u a → Fine d n (Binary Equal t u) BoolSort
  written_equal_fine f g = record { formed = binary tt f.formed g.formed; over = (f.over, g.over) }

  -- a standard symbol of one term
  of_one : (k : ℕ) (a b : Sort) {t : Term} → Declares (standard_symbols ++ fs) (standard k (a ∷ []) b) → Fine d n t a → Fine d n (Apply (Standard k) b (one t)) b
  of_one k a b declared f = record {
    formed = applies (Standard k) b tt (more_terms a f.formed no_terms);
    over = (subst (λ s. Declares (standard_symbols ++ fs) (declaration (Standard k) (s ∷ []) b)) (sym (sort_of_formed f.formed)) declared, (f.over, tt));
  }

  pub pair_fine : {t u : Term} → Fine d n t SnapSort → Fine d n u SnapSort → Fine d n (pair t u) SnapSort
  pair_fine {t = t} {u = u} f g = record {
    formed = applies (Standard 2) SnapSort tt (more_terms SnapSort f.formed (more_terms SnapSort g.formed no_terms));
    over = (
      subst (λ s. Declares (standard_symbols ++ fs) (declaration (Standard 2) (s ∷ sort_of u ∷ []) SnapSort)) (sym (sort_of_formed f.formed))
          (subst (λ s. Declares (standard_symbols ++ fs) (declaration (Standard 2) (SnapSort ∷ s ∷ []) SnapSort)) (sym (sort_of_formed g.formed)) (inr (inr (inl refl)))),
      (f.over, (g.over, tt)),
    );
  }

  pub written_first_fine : {t : Term} → Fine d n t SnapSort → Fine d n (written_first t) SnapSort
  written_first_fine f = of_one 3 SnapSort SnapSort (inr (inr (inr (inl refl)))) f

  pub written_second_fine : {t : Term} → Fine d n t SnapSort → Fine d n (written_second t) SnapSort
  written_second_fine f = of_one 4 SnapSort SnapSort (inr (inr (inr (inr (inl refl))))) f

  -- Both parts of a pair are snapshots.
  parts_fine : {s t : Term} {a b : Sort} → Fine d n (Apply (Standard 2) a (two s t)) b → Fine d n s SnapSort × Fine d n t SnapSort
  parts_fine {s = s} {t = t} {a = a} f =
      let sorts = two_sorts (sort_of s) (sort_of t) SnapSort SnapSort (standard_takes fs d.functions (declaration (Standard 2) (sort_of s ∷ sort_of t ∷ []) a) f.over.0 tt) in
      let all = applied f.formed in (
        record { formed = subst (λ b. Formed n s b) sorts.0 (head_formed all); over = f.over.1.0 },
        record { formed = subst (λ b. Formed n t b) sorts.1 (head_formed (rest_formed all)); over = f.over.1.1.0 },
      )

  pub first_fine : {t : Term} → Fine d n t SnapSort → Fine d n (first t) SnapSort
  first_fine {t = t} f = go (by_parts t)
    where
      go : ByParts t → Fine d n (first t) SnapSort
      go (inl k) = subst (λ u. Fine d n (first u) SnapSort) (sym k.is) (parts_fine (subst (λ u. Fine d n u SnapSort) k.is f)).0
      go (inr k) = subst (λ u. Fine d n u SnapSort) (sym k.0) (written_first_fine f)

  pub second_fine : {t : Term} → Fine d n t SnapSort → Fine d n (second t) SnapSort
  second_fine {t = t} f = go (by_parts t)
    where
      go : ByParts t → Fine d n (second t) SnapSort
      go (inl k) = subst (λ u. Fine d n (second u) SnapSort) (sym k.is) (parts_fine (subst (λ u. Fine d n u SnapSort) k.is f)).1
      go (inr k) = subst (λ u. Fine d n u SnapSort) (sym k.1) (written_second_fine f)

  -- Values as snapshots, and back

  pub wrap_fine : (t : ValueType) {u : Term} → Fine d n u (sort_of_type t) → Fine d n (wrap (sort_of_type t) u) SnapSort
  wrap_fine t f = of_one (5 + wrap_number (sort_of_type t)) (sort_of_type t) SnapSort (wraps fs t) f

  pub written_unwrap_fine : (t : ValueType) {u : Term} → Fine d n u SnapSort → Fine d n (written_unwrap (sort_of_type t) u) (sort_of_type t)
  written_unwrap_fine t f = of_one (9 + wrap_number (sort_of_type t)) SnapSort (sort_of_type t) (unwraps fs t) f

  -- What is wrapped is of the type.
  wrapped_fine : (t : ValueType) {u : Term} {b : Sort} → Fine d n (wrap (sort_of_type t) u) b → Fine d n u (sort_of_type t)
  wrapped_fine t {u = u} f =
      let e = standard_takes fs d.functions (declaration (Standard (5 + wrap_number (sort_of_type t))) (sort_of u ∷ []) SnapSort) f.over.0 tt ∙ wrapped_takes t in
      record { formed = subst (λ b. Formed n u b) (one_sort (sort_of u) (sort_of_type t) e) (head_formed (applied f.formed)); over = f.over.1.0 }

  pub unwrap_fine : (t : ValueType) (u : Term) → Fine d n u SnapSort → Fine d n (unwrap (sort_of_type t) u) (sort_of_type t)
  unwrap_fine t (Apply f b (MoreTerms s NoTerms)) g = go (same (wrap (sort_of_type t) s) (Apply f b (one s))) refl
    where
      go : (q : Bool) → same (wrap (sort_of_type t) s) (Apply f b (one s)) ≡ q → Fine d n (cond q s (written_unwrap (sort_of_type t) (Apply f b (one s)))) (sort_of_type t)
      go true e = wrapped_fine t (subst (λ x. Fine d n x SnapSort) (sym (term_is (wrap (sort_of_type t) s) (Apply f b (one s)) e)) g)
      go false e = written_unwrap_fine t g
  unwrap_fine t u g = written_unwrap_fine t g
