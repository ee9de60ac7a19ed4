-- Assertions on levels, each over the symbols of its level and those below it, make a stack that is formed.
use Rattle.std.proofs.Common.{◌≡◌, inl, inr, ℕ, zero, suc, List, [], ◌∷◌, ◌++◌, map, drop, reverse, refl, sym, ap, subst}
use Rattle.std.specs.Prelude.{⊤}
use Rattle.std.proofs.lemmas.List.{reverse-append}
use Rattle.vx_terms.specs.Sorts.{BoolSort}
use Rattle.vx_terms.specs.Terms.{Term, Truth, Number, Part, Constant, Apply, Not, Binary, Ite, AllOf, SomeOf, Terms, NoTerms, MoreTerms, sort_of}
use Rattle.vx_terms.specs.Interpretations.{Each}
use Rattle.vx_smt_meaning.specs.Commands.{Assert, DeclareFun, DeclareSort, Declared, Level, opened, assertions_of, declared_in, stack_after}
use Rattle.vx_smt_meaning.specs.Symbols.{declaration, Declares, sorts_of, UsesDeclared, AllUseDeclared}
use Rattle.cs_certificate.specs.Terms.{HasSort, items}
use Rattle.cs_certificate.specs.Certificate.{Contains, AreLive, AllLive}
use Rattle.cs_writable.specs.Writable.{IsWritableTerm}
use Rattle.cs_ground.specs.Ground.{IsFormed}
use Rattle.cs_session.specs.Views.{standing}
use Rattle.cs_session.proofs.Lists.{each_reverse}

-- ---- each

each_more : {A : Type 0} (P Q : A → Type 0) (xs : List A) → ((x : A) → P x → Q x) → Each P xs → Each Q xs
each_more P Q [] f h = tt
each_more P Q (x ∷ xs) f h = (f x h.0, each_more P Q xs f h.1)

each_both : {A : Type 0} (P : A → Type 0) (xs ys : List A) → Each P xs → Each P ys → Each P (xs ++ ys)
each_both P [] ys h g = g
each_both P (x ∷ xs) ys h g = (h.0, each_both P xs ys h.1 g)

-- ---- over more symbols

mutual
  uses_later : (ds : List Declared) (d : Declared) (t : Term) → UsesDeclared ds t → UsesDeclared (d ∷ ds) t
  uses_later ds d (Truth b) h = tt
  uses_later ds d (Number z) h = tt
  uses_later ds d (Part a) h = tt
  uses_later ds d (Constant f a) h = inr h
  uses_later ds d (Apply f a ts) h = (inr h.0, all_later ds d ts h.1)
  uses_later ds d (Not t) h = uses_later ds d t h
  uses_later ds d (Binary o t u) h = (uses_later ds d t h.0, uses_later ds d u h.1)
  uses_later ds d (Ite c t u) h = (uses_later ds d c h.0, uses_later ds d t h.1, uses_later ds d u h.2)
  uses_later ds d (AllOf ts) h = all_later ds d ts h
  uses_later ds d (SomeOf ts) h = all_later ds d ts h

  all_later : (ds : List Declared) (d : Declared) (ts : Terms) → AllUseDeclared ds ts → AllUseDeclared (d ∷ ds) ts
  all_later ds d NoTerms h = tt
  all_later ds d (MoreTerms t ts) h = (uses_later ds d t h.0, all_later ds d ts h.1)

-- a writable Bool term over these symbols
pub record IsFit (ds : List Declared) (t : Term) : Type 0 where
  pub bool : HasSort t BoolSort
  pub uses : UsesDeclared ds t
  pub writable : IsWritableTerm t

fit_later : (ds : List Declared) (d : Declared) (t : Term) → IsFit ds t → IsFit (d ∷ ds) t
fit_later ds d t h = record { bool = h.bool; uses = uses_later ds d t h.uses; writable = h.writable }

fit_behind : (es ds : List Declared) (t : Term) → IsFit ds t → IsFit (es ++ ds) t
fit_behind [] ds t h = h
fit_behind (e ∷ es) ds t h = fit_later (es ++ ds) e t (fit_behind es ds t h)

-- ---- levels

-- the assertions of each level are over its symbols and those below it
abbrev pub AreFit : List Level → Type 0
AreFit [] = ⊤
AreFit (l ∷ levels) = Each (IsFit (declared_in (l ∷ levels))) l.assertions × AreFit levels

pub asserted_fit : (levels : List Level) (t : Term) → IsFit (declared_in levels) t → AreFit levels → AreFit (stack_after (Assert t) levels)
asserted_fit [] t fit h = h
asserted_fit (l ∷ levels) t fit h = ((fit, h.0), h.1)

pub declared_fit : (levels : List Level) (d : Declared) → AreFit levels → AreFit (stack_after (DeclareFun d) levels)
declared_fit [] d h = h
declared_fit (l ∷ levels) d h =
    let ds = declared_in (l ∷ levels) in
    (each_more (IsFit ds) (IsFit (d ∷ ds)) l.assertions (fit_later ds d) h.0, h.1)

pub sort_fit : (levels : List Level) (x : List ℕ) → AreFit levels → AreFit (stack_after (DeclareSort x) levels)
sort_fit [] x h = h
sort_fit (l ∷ levels) x h = h

pub opened_fit : (n : ℕ) (levels : List Level) → AreFit levels → AreFit (opened n levels)
opened_fit zero levels h = h
opened_fit (suc n) levels h = (tt, opened_fit n levels h)

pub dropped_fit : (n : ℕ) (levels : List Level) → AreFit levels → AreFit (drop n levels)
dropped_fit zero levels h = h
dropped_fit (suc n) [] h = h
dropped_fit (suc n) (l ∷ levels) h = dropped_fit n levels h.1

all_fit : (levels : List Level) → AreFit levels → Each (IsFit (declared_in levels)) (assertions_of levels)
all_fit [] h = tt
all_fit (l ∷ levels) h =
    let ds = declared_in levels in
    each_both (IsFit (l.symbols ++ ds)) l.assertions (assertions_of levels) h.0 (each_more (IsFit ds) (IsFit (l.symbols ++ ds)) (assertions_of levels) (fit_behind l.symbols ds) (all_fit levels h.1))

-- ---- what is declared is live

contains_front : {A : Type 0} (xs ys : List A) (x : A) → Contains xs x → Contains (xs ++ ys) x
contains_front [] ys x (n, at) = cc
contains_front (y ∷ xs) ys x (zero, at) = (0, at)
contains_front (y ∷ xs) ys x (suc n, at) = let c = contains_front xs ys x (n, at) in (suc c.0, c.1)

contains_last : {A : Type 0} (xs : List A) (x : A) → Contains (xs ++ x ∷ []) x
contains_last [] x = (0, refl)
contains_last (y ∷ xs) x = let c = contains_last xs x in (suc c.0, c.1)

declared_turned : (ds : List Declared) (d : Declared) → Declares ds d → Contains (reverse ds) d
declared_turned [] d h = absurd h
declared_turned (e ∷ ds) d (inl is) = subst (λ xs. Contains xs d) (sym (reverse-append (e ∷ []) ds)) (subst (Contains (reverse ds ++ e ∷ [])) is (contains_last (reverse ds) e))
declared_turned (e ∷ ds) d (inr more) = subst (λ xs. Contains xs d) (sym (reverse-append (e ∷ []) ds)) (contains_front (reverse ds) (e ∷ []) d (declared_turned ds d more))

sorts_are : (ts : Terms) → sorts_of ts ≡ map sort_of (items ts)
sorts_are NoTerms = refl
sorts_are (MoreTerms t ts) = ap (λ ss. sort_of t ∷ ss) (sorts_are ts)

module _ (levels : List Level) where
  mutual
    live : (t : Term) → UsesDeclared (declared_in levels) t → AreLive (standing levels) t
    live (Truth b) h = tt
    live (Number z) h = tt
    live (Part a) h = tt
    live (Constant f a) h = declared_turned (declared_in levels) (declaration f [] a) h
    live (Apply f a ts) h =
        (declared_turned (declared_in levels) (declaration f (map sort_of (items ts)) a) (subst (λ ss. Declares (declared_in levels) (declaration f ss a)) (sorts_are ts) h.0), all_live ts h.1)
    live (Not t) h = live t h
    live (Binary o t u) h = (live t h.0, live u h.1)
    live (Ite c t u) h = (live c h.0, live t h.1, live u h.2)
    live (AllOf ts) h = all_live ts h
    live (SomeOf ts) h = all_live ts h

    all_live : (ts : Terms) → AllUseDeclared (declared_in levels) ts → AllLive (standing levels) ts
    all_live NoTerms h = tt
    all_live (MoreTerms t ts) h = (live t h.0, all_live ts h.1)

  -- ---- the stack

  -- what holds of each assertion that fits holds of those of the stack
  each_standing : (P : Term → Type 0) → ((t : Term) → IsFit (declared_in levels) t → P t) → AreFit levels → Each P (standing levels).assertions
  each_standing P f h = each_reverse P (assertions_of levels) (each_more (IsFit (declared_in levels)) P (assertions_of levels) f (all_fit levels h))

  pub standing_formed : AreFit levels → IsFormed (standing levels)
  standing_formed h = record {
    sorted = each_standing (λ t. HasSort t BoolSort) (λ t fit. fit.bool) h;
    live = each_standing (AreLive (standing levels)) (λ t fit. live t fit.uses) h;
    writable = each_standing IsWritableTerm (λ t fit. fit.writable) h;
  }
