-- Each v that a question declares is new, and is declared once.
use Rattle.std.proofs.Common.{◌≡◌, ◌++◌, ℕ, Bool, true, false, List, [], ◌∷◌, refl, if◌then◌else◌}
use Rattle.vx_terms.specs.Sorts.{Sort, BoolSort, Symbol, Standard, Function, Variable, Named, same_symbol}
use Rattle.vx_terms.specs.Terms.{Term, Truth, Number, Part, Constant, Apply, Not, Binary, Ite, AllOf, SomeOf, Terms, NoTerms, MoreTerms, sort_of}
use Rattle.vx_terms.specs.Interpretations.{Each}
use Rattle.vx_smt_meaning.specs.Commands.{Declared, Level, declared_in}
use Rattle.vx_smt_meaning.specs.Symbols.{UsesDeclared}
use Rattle.vx_smt_meaning.specs.WellFormed.{names, AllMayFollow}
use Rattle.vx_dialogue.specs.Symbols.{variable, declares, with_variable, with_symbol, with_variables, with_all_variables, with_listed}
use Rattle.vx_dialogue.proofs.Whole.{assertions}

-- none is among those before it
abbrev pub AreNew : List Declared → List Declared → Type 0
AreNew seen [] = Unit {0}
AreNew seen (d ∷ ds) = (names seen d.symbol ≡ false) × AreNew (d ∷ seen) ds

pub if_none : (a b : Bool) → (if a then true else b) ≡ false → (a ≡ false) × (b ≡ false)
if_none true b e = absurd (cc)
if_none false b e = (refl, e)

pub new_more : (seen ds : List Declared) (n : ℕ) (a : Sort) → names seen (Variable n) ≡ false → declares ds n ≡ false → AreNew seen ds → AreNew seen (ds ++ variable n a ∷ [])
new_more seen [] n a unseen none new = (unseen, tt)
new_more seen (d ∷ ds) n a unseen none new =
    let parts = if_none (same_symbol d.symbol (Variable n)) (declares ds n) none in
    (new.0, new_more (d ∷ seen) ds n a (rw parts.0 unseen) parts.1 new.1)

module _ (seen : List Declared) (unseen : (n : ℕ) → names seen (Variable n) ≡ false) where
  pub new_variable : (ds : List Declared) (n : ℕ) (a : Sort) → AreNew seen ds → AreNew seen (with_variable ds n a)
  new_variable ds n a new = by_case (declares ds n) refl
    where
      by_case : (b : Bool) → declares ds n ≡ b → AreNew seen (if b then ds else (ds ++ variable n a ∷ []))
      by_case true e = new
      by_case false e = new_more seen ds n a (unseen n) e new

  pub new_symbol : (ds : List Declared) (f : Symbol) (a : Sort) → AreNew seen ds → AreNew seen (with_symbol ds f a)
  new_symbol ds (Standard n) a new = new
  new_symbol ds (Function n) a new = new
  new_symbol ds (Variable n) a new = new_variable ds n a new
  new_symbol ds (Named x) a new = new

  mutual
    pub new_term : (t : Term) (ds : List Declared) → AreNew seen ds → AreNew seen (with_variables ds t)
    new_term (Truth b) ds new = new
    new_term (Number z) ds new = new
    new_term (Part a) ds new = new
    new_term (Constant f a) ds new = new_symbol ds f a new
    new_term (Apply f a ts) ds new = new_terms ts ds new
    new_term (Not t) ds new = new_term t ds new
    new_term (Binary o t u) ds new = new_term u (with_variables ds t) (new_term t ds new)
    new_term (Ite c t u) ds new = new_term u (with_variables (with_variables ds c) t) (new_term t (with_variables ds c) (new_term c ds new))
    new_term (AllOf ts) ds new = new_terms ts ds new
    new_term (SomeOf ts) ds new = new_terms ts ds new

    pub new_terms : (ts : Terms) (ds : List Declared) → AreNew seen ds → AreNew seen (with_all_variables ds ts)
    new_terms NoTerms ds new = new
    new_terms (MoreTerms t ts) ds new = new_terms ts (with_variables ds t) (new_term t ds new)

  pub new_path : (path : List Term) (ds : List Declared) → AreNew seen ds → AreNew seen (with_listed ds path)
  new_path [] ds new = new
  new_path (t ∷ path) ds new = new_path path (with_variables ds t) (new_term t ds new)

-- assertions over what is declared may follow one another
pub assertions_follow : (l : Level) (levels : List Level) (ts : List Term) → Each (λ (t : Term). sort_of t ≡ BoolSort) ts → Each (UsesDeclared (declared_in (l ∷ levels))) ts
    → AllMayFollow (l ∷ levels) (assertions ts)
assertions_follow l levels [] bools declared = tt
assertions_follow l levels (t ∷ ts) bools declared =
    (record { bool = bools.0; declared = declared.0 }, assertions_follow (record l { assertions = t ∷ l.assertions }) levels ts bools.1 declared.1)
