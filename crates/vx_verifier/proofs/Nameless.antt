-- Where no symbol has a name of its own, each name in a question is spelled.
use Rattle.std.proofs.Common.{ℕ, Bool, true, false, List, [], ◌∷◌, ◌++◌, if◌then◌else◌}
use Rattle.vx_terms.specs.Sorts.{Sort, Symbol, Standard, Function, Variable, Named}
use Rattle.vx_terms.specs.Terms.{Term, Truth, Number, Part, Constant, Apply, Not, Binary, Ite, AllOf, SomeOf, Terms, NoTerms, MoreTerms}
use Rattle.vx_terms.specs.Interpretations.{Each}
use Rattle.vx_elements.proofs.Lists.{each_map}
use Rattle.vx_smt_meaning.specs.Commands.{Declared}
use Rattle.vx_smt_meaning.specs.Names.{IsName, AreNames, AllAreNames, AreCommands}
use Rattle.vx_dialogue.specs.Preamble.{declarations}
use Rattle.vx_dialogue.specs.Symbols.{variable, declares, with_variable, with_symbol, with_variables, with_all_variables, with_listed, symbols_of}
use Rattle.vx_live.specs.Live.{IsBuiltIn}
use Rattle.vx_live.proofs.Nameless.{IsNumbered, IsNameless, AreNameless}
use Rattle.vx_verifier.proofs.FunctionSymbols.{built_name}

numbered_name : (f : Symbol) → IsNumbered f → IsName f
numbered_name (Standard n) h = tt
numbered_name (Function n) h = tt
numbered_name (Variable n) h = tt
numbered_name (Named x) h = absurd h

mutual
  pub nameless_names : (t : Term) → IsNameless t → AreNames t
  nameless_names (Truth b) h = tt
  nameless_names (Number z) h = tt
  nameless_names (Part a) h = tt
  nameless_names (Constant f a) h = numbered_name f h.0
  nameless_names (Apply f a ts) h = (numbered_name f h.0, all_names ts h.2)
  nameless_names (Not t) h = nameless_names t h
  nameless_names (Binary o t u) h = (nameless_names t h.0, nameless_names u h.1)
  nameless_names (Ite c t u) h = (nameless_names c h.0, nameless_names t h.1, nameless_names u h.2)
  nameless_names (AllOf ts) h = all_names ts h
  nameless_names (SomeOf ts) h = all_names ts h

  all_names : (ts : Terms) → AreNameless ts → AllAreNames ts
  all_names NoTerms h = tt
  all_names (MoreTerms t ts) h = (nameless_names t h.0, all_names ts h.1)

-- ---- the declarations of a question

declared_more : (ds : List Declared) (n : ℕ) (a : Sort) → IsBuiltIn a → AreCommands (declarations ds) → AreCommands (declarations (ds ++ variable n a ∷ []))
declared_more [] n a built h = ((tt, tt, built_name a built), tt)
declared_more (d ∷ ds) n a built h = (h.0, declared_more ds n a built h.1)

declared_variable : (ds : List Declared) (n : ℕ) (a : Sort) → IsBuiltIn a → AreCommands (declarations ds) → AreCommands (declarations (with_variable ds n a))
declared_variable ds n a built h = by_case (declares ds n)
  where
    by_case : (b : Bool) → AreCommands (declarations (if b then ds else (ds ++ variable n a ∷ [])))
    by_case true = h
    by_case false = declared_more ds n a built h

declared_symbol : (ds : List Declared) (f : Symbol) (a : Sort) → IsBuiltIn a → AreCommands (declarations ds) → AreCommands (declarations (with_symbol ds f a))
declared_symbol ds (Standard n) a built h = h
declared_symbol ds (Function n) a built h = h
declared_symbol ds (Variable n) a built h = declared_variable ds n a built h
declared_symbol ds (Named x) a built h = h

mutual
  declared_term : (t : Term) (ds : List Declared) → IsNameless t → AreCommands (declarations ds) → AreCommands (declarations (with_variables ds t))
  declared_term (Truth b) ds n h = h
  declared_term (Number z) ds n h = h
  declared_term (Part a) ds n h = h
  declared_term (Constant f a) ds n h = declared_symbol ds f a n.1 h
  declared_term (Apply f a ts) ds n h = declared_terms ts ds n.2 h
  declared_term (Not t) ds n h = declared_term t ds n h
  declared_term (Binary o t u) ds n h = declared_term u (with_variables ds t) n.1 (declared_term t ds n.0 h)
  declared_term (Ite c t u) ds n h = declared_term u (with_variables (with_variables ds c) t) n.2 (declared_term t (with_variables ds c) n.1 (declared_term c ds n.0 h))
  declared_term (AllOf ts) ds n h = declared_terms ts ds n h
  declared_term (SomeOf ts) ds n h = declared_terms ts ds n h

  declared_terms : (ts : Terms) (ds : List Declared) → AreNameless ts → AreCommands (declarations ds) → AreCommands (declarations (with_all_variables ds ts))
  declared_terms NoTerms ds n h = h
  declared_terms (MoreTerms t ts) ds n h = declared_terms ts (with_variables ds t) n.1 (declared_term t ds n.0 h)

declared_path : (path : List Term) (ds : List Declared) → Each IsNameless path → AreCommands (declarations ds) → AreCommands (declarations (with_listed ds path))
declared_path [] ds n h = h
declared_path (t ∷ path) ds n h = declared_path path (with_variables ds t) n.1 (declared_term t ds n.0 h)

-- ---- a question

pub path_names : (path : List Term) → Each IsNameless path → Each AreNames path
path_names path n = each_map IsNameless AreNames nameless_names path n

pub declared_question : (path : List Term) (negated : Term) → Each IsNameless path → IsNameless negated → AreCommands (declarations (symbols_of path negated))
declared_question path negated along last = declared_term negated (with_listed [] path) last (declared_path path [] along tt)
