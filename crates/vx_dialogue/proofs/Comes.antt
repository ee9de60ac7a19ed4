-- Where the whole question is well formed, and so is each beginning of its path, each term of its path may come, and then its negated condition.
use Rattle.std.proofs.Common.{◌≡◌, ℕ, Bool, true, List, [], ◌∷◌, ◌++◌, drop, take, refl, sym, ◌∙◌, ap, subst, append_assoc}
use Rattle.vx_terms.specs.Terms.{Term, Truth}
use Rattle.vx_terms.specs.Build.{negate}
use Rattle.vx_terms.specs.Interpretations.{Each}
use Rattle.vx_smt_meaning.specs.Commands.{Command, Declared, Assert, Push, Level, empty_level, stack_from, declared_in}
use Rattle.vx_smt_meaning.specs.Names.{AreNames, AreCommands}
use Rattle.vx_smt_meaning.specs.Symbols.{UsesDeclared}
use Rattle.vx_smt_meaning.specs.WellFormed.{AllMayFollow, MayAssert, IsWellFormed}
use Rattle.vx_segments.specs.Segments.{Entry, terms}
use Rattle.vx_dialogue.specs.Symbols.{with_variables, with_listed, symbols_of}
use Rattle.vx_dialogue.specs.Preamble.{declarations, preamble}
use Rattle.vx_dialogue.specs.Segments.{missing}
use Rattle.vx_dialogue.specs.Dialogue.{pushed, base_of}
use Rattle.vx_dialogue.proofs.Whole.{assertions, question}
use Rattle.vx_dialogue.proofs.Lists.{stack_append}
use Rattle.vx_dialogue.proofs.Levels.{declared_level, asserted_level}
use Rattle.vx_dialogue.proofs.Steady.{commands_front}
use Rattle.vx_dialogue.proofs.Extends.{with_missing}
use Rattle.vx_dialogue.proofs.Follows.{follow_front, follow_back, MayCome, AllMayCome}
use Rattle.vx_dialogue.proofs.Spelled.{both_parts}

commands_back : (xs ys : List Command) → AreCommands (xs ++ ys) → AreCommands ys
commands_back [] ys e = e
commands_back (x ∷ xs) ys e = commands_back xs ys e.1

asserted_names : (ts : List Term) → AreCommands (assertions ts) → Each AreNames ts
asserted_names [] e = tt
asserted_names (t ∷ ts) e = (e.0, asserted_names ts e.1)

-- ---- a question that is sent whole

-- what opens its level and declares its symbols
abbrev beginning : List Term → Term → List Command
beginning p t = Push 1 ∷ Push 1 ∷ declarations (symbols_of p (negate t))

-- its level, once its symbols are declared
abbrev fresh : List Declared → Level
fresh symbols = record empty_level { symbols = pushed symbols [] }

module _ (c : Bool) (fs : List Declared) (p : List Term) (t : Term) (fits : IsWellFormed (preamble c fs ++ question p t)) where
  abbrev base : List Level
  base = base_of c fs

  in_order : AllMayFollow base ((beginning p t ++ assertions p) ++ Assert (negate t) ∷ [])
  in_order = follow_back (empty_level ∷ []) (preamble c fs) (question p t) fits.in_order

  are_spelled : AreCommands ((beginning p t ++ assertions p) ++ Assert (negate t) ∷ [])
  are_spelled = commands_back (preamble c fs) (question p t) fits.spelled

  whole_declares : AllMayFollow (empty_level ∷ empty_level ∷ base) (declarations (symbols_of p (negate t)))
  whole_declares = (follow_front base (beginning p t) (assertions p) (follow_front base (beginning p t ++ assertions p) (Assert (negate t) ∷ []) in_order)).1.1

  whole_asserts : AllMayFollow (fresh (symbols_of p (negate t)) ∷ empty_level ∷ base) (assertions p)
  whole_asserts =
      subst (λ x. AllMayFollow x (assertions p)) (declared_level empty_level (empty_level ∷ base) (symbols_of p (negate t)))
      (follow_back base (beginning p t) (assertions p) (follow_front base (beginning p t ++ assertions p) (Assert (negate t) ∷ []) in_order))

  whole_last : MayAssert (record (fresh (symbols_of p (negate t))) { assertions = pushed p [] } ∷ empty_level ∷ base) (negate t)
  whole_last =
      let levels : stack_from base (beginning p t ++ assertions p) ≡ record (fresh (symbols_of p (negate t))) { assertions = pushed p [] } ∷ empty_level ∷ base =
      stack_append base (beginning p t) (assertions p)
      ∙ ap (λ x. stack_from x (assertions p)) (declared_level empty_level (empty_level ∷ base) (symbols_of p (negate t)))
      ∙ asserted_level (fresh (symbols_of p (negate t))) (empty_level ∷ base) p in
      subst (λ x. MayAssert x (negate t)) levels (follow_back base (beginning p t ++ assertions p) (Assert (negate t) ∷ []) in_order).0

  pub whole_named : AreCommands (declarations (symbols_of p (negate t)))
  whole_named = (commands_front (beginning p t) (assertions p) (commands_front (beginning p t ++ assertions p) (Assert (negate t) ∷ []) are_spelled)).1.1

  pub whole_path : Each AreNames p
  whole_path = asserted_names p (commands_back (beginning p t) (assertions p) (commands_front (beginning p t ++ assertions p) (Assert (negate t) ∷ []) are_spelled))

  pub whole_negated : AreNames (negate t)
  whole_negated = (commands_back (beginning p t ++ assertions p) (Assert (negate t) ∷ []) are_spelled).0

-- ---- the last part of it

declares_back : (l : Level) (levels : List Level) (xs ys : List Declared) → AllMayFollow (l ∷ levels) (declarations (xs ++ ys))
    → AllMayFollow (record l { symbols = pushed xs l.symbols } ∷ levels) (declarations ys)
declares_back l levels [] ys e = e
declares_back l levels (x ∷ xs) ys e = declares_back (record l { symbols = x ∷ l.symbols }) levels xs ys e.1

last_asserts : (l : Level) (levels : List Level) (p : List Term) (t : Term) → AllMayFollow (l ∷ levels) (assertions (p ++ t ∷ [])) → MayAssert (l ∷ levels) t
last_asserts l levels [] t e = e.0
last_asserts l levels (x ∷ p) t e = let may = last_asserts (record l { assertions = x ∷ l.assertions }) levels p t e.1 in record { bool = may.bool; declared = may.declared }

listed_end : (ds : List Declared) (p : List Term) (t : Term) → with_listed ds (p ++ t ∷ []) ≡ with_variables (with_listed ds p) t
listed_end ds [] t = refl
listed_end ds (x ∷ p) t = listed_end (with_variables ds x) p t

-- the negated condition behind its path
pub negated_comes : (c : Bool) (fs : List Declared) (p : List Term) (t : Term) → IsWellFormed (preamble c fs ++ question p t) → MayCome (base_of c fs) (with_listed [] p) (negate t)
negated_comes c fs p t fits =
    let ds = with_listed [] p in
    let last = whole_last c fs p t fits in
    record {
      declares = declares_back empty_level (empty_level ∷ base_of c fs) ds (missing ds (negate t))
          (subst (λ x. AllMayFollow (empty_level ∷ empty_level ∷ base_of c fs) (declarations x)) (with_missing ds (negate t)) (whole_declares c fs p t fits));
      bool = last.bool;
      uses = last.declared;
    }

-- a term behind those before it: of a path that ends with it
term_comes : (c : Bool) (fs : List Declared) (p : List Term) (t : Term) → IsWellFormed (preamble c fs ++ question (p ++ t ∷ []) (Truth true)) → MayCome (base_of c fs) (with_listed [] p) t
term_comes c fs p t fits =
    let ds = with_listed [] p in
    let is = listed_end [] p t ∙ with_missing ds t in
    let last = last_asserts (fresh (with_listed [] (p ++ t ∷ []))) (empty_level ∷ base_of c fs) p t (whole_asserts c fs (p ++ t ∷ []) (Truth true) fits) in
    record {
      declares = declares_back empty_level (empty_level ∷ base_of c fs) ds (missing ds t)
          (subst (λ x. AllMayFollow (empty_level ∷ empty_level ∷ base_of c fs) (declarations x)) is (whole_declares c fs (p ++ t ∷ []) (Truth true) fits));
      bool = last.bool;
      uses = subst (λ x. UsesDeclared (pushed x [] ++ declared_in (base_of c fs)) t) (listed_end [] p t) last.declared;
    }

-- ---- the entries of a path

module _ (c : Bool) (fs : List Declared) (P : List Term → Term → Type 0) (fits : (p : List Term) (t : Term) → P p t → IsWellFormed (preamble c fs ++ question p t))
    (begins : (xs ys : List Term) (t : Term) → P (xs ++ ys) t → P xs (Truth true)) where
  rest_comes : (t : Term) (es : List Entry) (front : List Term) (ds : List Declared) → ds ≡ with_listed [] front → P (front ++ terms es) t → AllMayCome (base_of c fs) ds es
  rest_comes t [] front ds is q = tt
  rest_comes t (e ∷ es) front ds is q =
      let q' : P ((front ++ e.term ∷ []) ++ terms es) t = subst (λ x. P x t) (sym (append_assoc front (e.term ∷ []) (terms es))) q in (
        subst (λ x. MayCome (base_of c fs) x e.term) (sym is) (term_comes c fs front e.term (fits (front ++ e.term ∷ []) (Truth true) (begins (front ++ e.term ∷ []) (terms es) t q'))),
        rest_comes t es (front ++ e.term ∷ []) (with_variables ds e.term) (ap (λ x. with_variables x e.term) is ∙ sym (listed_end [] front e.term)) q',
      )

  -- those behind the first k
  pub entries_come : (t : Term) (path : List Entry) (k : ℕ) → P (terms path) t → AllMayCome (base_of c fs) (with_listed [] (terms (take k path))) (drop k path)
  entries_come t path k q = rest_comes t (drop k path) (terms (take k path)) _ refl (subst (λ x. P x t) (both_parts k path) q)
