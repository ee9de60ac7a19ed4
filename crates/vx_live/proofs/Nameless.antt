-- No symbol or sort in a live question has a name of its own.
use Rattle.std.proofs.Common.{sym, subst}
use Rattle.std.specs.Prelude.{⊤, List, [], ◌∷◌, ◌++◌}
use Rattle.vx_terms.specs.Sorts.{Sort, Symbol, Standard, Function, Variable, Named}
use Rattle.vx_terms.specs.Terms.{Term, Truth, Number, Part, Constant, Apply, Not, Binary, Ite, AllOf, SomeOf, Terms, NoTerms, MoreTerms}
use Rattle.vx_terms.specs.Build.{negate}
use Rattle.vx_terms.specs.Interpretations.{Each}
use Rattle.vx_smt_meaning.specs.Commands.{Declared}
use Rattle.vx_smt_meaning.specs.Symbols.{Declares}
use Rattle.vx_smt_meaning.specs.Over.{AreOver}
use Rattle.vx_smt_meaning.specs.Standard.{standard_symbols}
use Rattle.vx_rules.specs.Trees.{Question}
use Rattle.vx_live.specs.Live.{IsBuiltIn, IsLive}
use Rattle.vx_live.proofs.Over.{Over, IsF, IsOfFunction, Sorts, declared_one, symbol_given}
use Rattle.vx_elements.proofs.Lists.{each_map}

-- s, f or v with its number
abbrev pub IsNumbered : Symbol → Type 0
IsNumbered (Named x) = ⊥
IsNumbered f = ⊤

-- No symbol or sort in the term has a name of its own.
abbrev mutual
  pub IsNameless : Term → Type 0
  IsNameless (Truth b) = ⊤
  IsNameless (Number z) = ⊤
  IsNameless (Part a) = ⊤
  IsNameless (Constant f a) = IsNumbered f × IsBuiltIn a
  IsNameless (Apply f a ts) = IsNumbered f × IsBuiltIn a × AreNameless ts
  IsNameless (Not t) = IsNameless t
  IsNameless (Binary o t u) = IsNameless t × IsNameless u
  IsNameless (Ite c t u) = IsNameless c × IsNameless t × IsNameless u
  IsNameless (AllOf ts) = AreNameless ts
  IsNameless (SomeOf ts) = AreNameless ts

  pub AreNameless : Terms → Type 0
  AreNameless NoTerms = ⊤
  AreNameless (MoreTerms t ts) = IsNameless t × AreNameless ts

pub negate_nameless : (t : Term) → IsNameless t → IsNameless (negate t)
negate_nameless (Truth b) h = tt
negate_nameless (Number z) h = h
negate_nameless (Part a) h = h
negate_nameless (Constant f a) h = h
negate_nameless (Apply f a ts) h = h
negate_nameless (Not t) h = h
negate_nameless (Binary o t u) h = h
negate_nameless (Ite c t u) h = h
negate_nameless (AllOf ts) h = h
negate_nameless (SomeOf ts) h = h

f_numbered : (f : Symbol) → IsF f → IsNumbered f
f_numbered (Standard n) h = tt
f_numbered (Function n) h = tt
f_numbered (Variable n) h = tt
f_numbered (Named x) h = h

functions_numbered : (fs : List Declared) → Each IsOfFunction fs → Each (λ (c : Declared). IsNumbered c.symbol) fs
functions_numbered [] h = tt
functions_numbered (c ∷ fs) h = (f_numbered c.symbol h.0.symbol, functions_numbered fs h.1)

symbol_numbered : (fs : List Declared) → Each IsOfFunction fs → (e : Declared) → Declares (standard_symbols ++ fs) e → IsNumbered e.symbol
symbol_numbered fs g e k = declared_one (λ (c : Declared). IsNumbered c.symbol) (standard_symbols ++ fs) e (tt, (tt, (tt, (tt, (tt, (tt, (tt, (tt, (tt, (tt, (tt, (tt, (tt, functions_numbered fs g))))))))))))) k

constant_nameless : {fs : List Declared} (d : Sorts fs) (f : Symbol) (a : Sort) → Over fs d.of (Constant f a) → IsNumbered f × IsBuiltIn a
constant_nameless {fs = fs} d (Standard n) a h = (tt, symbol_given fs d.functions _ h)
constant_nameless {fs = fs} d (Function n) a h = (tt, symbol_given fs d.functions _ h)
constant_nameless d (Variable n) a h = (tt, subst IsBuiltIn (sym h) (d.built_in n))
constant_nameless {fs = fs} d (Named x) a h = (symbol_numbered fs d.functions _ h, symbol_given fs d.functions _ h)

mutual
  over_nameless : {fs : List Declared} (d : Sorts fs) (t : Term) → Over fs d.of t → IsNameless t
  over_nameless d (Truth b) h = tt
  over_nameless d (Number z) h = tt
  over_nameless d (Part a) h = tt
  over_nameless d (Constant f a) h = constant_nameless d f a h
  over_nameless {fs = fs} d (Apply f a ts) h = (symbol_numbered fs d.functions _ h.0, symbol_given fs d.functions _ h.0, all_nameless d ts h.1)
  over_nameless d (Not t) h = over_nameless d t h
  over_nameless d (Binary o t u) h = (over_nameless d t h.0, over_nameless d u h.1)
  over_nameless d (Ite c t u) h = (over_nameless d c h.0, over_nameless d t h.1, over_nameless d u h.2)
  over_nameless d (AllOf ts) h = all_nameless d ts h
  over_nameless d (SomeOf ts) h = all_nameless d ts h

  all_nameless : {fs : List Declared} (d : Sorts fs) (ts : Terms) → AreOver (standard_symbols ++ fs) d.of ts → AreNameless ts
  all_nameless d NoTerms h = tt
  all_nameless d (MoreTerms t ts) h = (over_nameless d t h.0, all_nameless d ts h.1)

-- where the symbols beside the standard ones are those of functions
module _ (fs : List Declared) (functions : Each IsOfFunction fs) where
  abbrev sorts_of : {q : Question} → IsLive fs q → Sorts fs
  sorts_of live = record { of = live.sorts; built_in = live.built_in; functions = functions }

  pub condition_nameless : (q : Question) → IsLive fs q → IsNameless q.condition
  condition_nameless q live = over_nameless (sorts_of live) q.condition live.condition_over

  pub path_nameless : (q : Question) → IsLive fs q → Each IsNameless q.path
  path_nameless q live = each_map (Over fs live.sorts) IsNameless (over_nameless (sorts_of live)) q.path live.path_over
