-- The names of a question are spelled, wherever it is asked.
use Rattle.std.proofs.Common.{◌≡◌, ℕ, zero, suc, ◌+◌, Bool, true, false, nat_eq, if◌then◌else◌, List, [], ◌∷◌, ◌++◌, drop, take, Option, Some, None, refl, sym, ◌∙◌, ap, subst}
use Rattle.std.specs.Prelude.{⊤}
use Rattle.std.proofs.lemmas.List.{take-append-drop, map-append}
use Rattle.vx_terms.specs.Terms.{Term}
use Rattle.vx_terms.specs.Build.{negate}
use Rattle.vx_terms.specs.Interpretations.{Each}
use Rattle.vx_smt_meaning.specs.Commands.{Declared, Assert, Push, CheckSat}
use Rattle.vx_smt_meaning.specs.Names.{AreNames, AreCommands}
use Rattle.vx_segments.specs.Segments.{Entry, terms}
use Rattle.vx_dialogue.specs.Symbols.{with_variables, with_listed, symbols_of}
use Rattle.vx_dialogue.specs.Preamble.{declarations}
use Rattle.vx_dialogue.specs.Segments.{last_of, missing, opening, sent, depth, pops}
use Rattle.vx_dialogue.specs.Kept.{kept}
use Rattle.vx_dialogue.specs.Scripts.{Scope, Outside, Inside, Left, all_pops, from_outside, onto, said_before, asked, question, posted}
use Rattle.vx_dialogue.proofs.Steady.{commands_join}
use Rattle.vx_dialogue.proofs.Extends.{with_missing}
use Rattle.vx_dialogue.proofs.Entries.{added, listed}
use Rattle.vx_dialogue.proofs.Kept.{kept_is}

-- ---- parts of lists

named_front : (xs ys : List Declared) → AreCommands (declarations (xs ++ ys)) → AreCommands (declarations xs)
named_front [] ys e = tt
named_front (x ∷ xs) ys e = (e.0, named_front xs ys e.1)

named_back : (xs ys : List Declared) → AreCommands (declarations (xs ++ ys)) → AreCommands (declarations ys)
named_back [] ys e = e
named_back (x ∷ xs) ys e = named_back xs ys e.1

names_back : (xs ys : List Term) → Each AreNames (xs ++ ys) → Each AreNames ys
names_back [] ys e = e
names_back (x ∷ xs) ys e = names_back xs ys e.1

pub listed_join : (ds : List Declared) (xs ys : List Term) → with_listed ds (xs ++ ys) ≡ with_listed (with_listed ds xs) ys
listed_join ds [] ys = refl
listed_join ds (x ∷ xs) ys = listed_join (with_variables ds x) xs ys

pub both_parts : (k : ℕ) (p : List Entry) → terms p ≡ terms (take k p) ++ terms (drop k p)
both_parts k p = ap terms (sym (take-append-drop k p)) ∙ map-append (λ e. e.term) (take k p) (drop k p)

-- ---- entries

-- The names of each term are spelled, and those of the symbols that are missing where it comes.
abbrev AreSpelled : List Declared → List Entry → Type 0
AreSpelled ds [] = ⊤
AreSpelled ds (e ∷ es) = AreCommands (declarations (missing ds e.term)) × AreNames e.term × AreSpelled (with_variables ds e.term) es

all_spelled : (es : List Entry) (ds : List Declared) → AreCommands (declarations (with_listed ds (terms es))) → Each AreNames (terms es) → AreSpelled ds es
all_spelled [] ds named names = tt
all_spelled (e ∷ es) ds named names =
    let on = with_variables ds e.term in
    let here : AreCommands (declarations on) = named_front on (added on es) (subst (λ x. AreCommands (declarations x)) (listed on es) named) in
    (named_back ds (missing ds e.term) (subst (λ x. AreCommands (declarations x)) (with_missing ds e.term) here), names.0, all_spelled es on named names.1)

-- those behind the first k
rest_spelled : (k : ℕ) (p : List Entry) → AreCommands (declarations (with_listed [] (terms p))) → Each AreNames (terms p) → AreSpelled (with_listed [] (terms (take k p))) (drop k p)
rest_spelled k p named names =
    all_spelled (drop k p) (with_listed [] (terms (take k p)))
    (subst (λ x. AreCommands (declarations x)) (ap (with_listed []) (both_parts k p) ∙ listed_join [] (terms (take k p)) (terms (drop k p))) named)
    (names_back (terms (take k p)) (terms (drop k p)) (subst (Each AreNames) (both_parts k p) names))

opening_spelled : (b : Bool) → AreCommands (if b then [] else (Push 1 ∷ []))
opening_spelled true = tt
opening_spelled false = (tt, tt)

sent_spelled : (es : List Entry) (last : ℕ) (ds : List Declared) → AreSpelled ds es → AreCommands (sent last ds es)
sent_spelled [] last ds h = tt
sent_spelled (e ∷ es) last ds h =
    let declared = declarations (missing ds e.term) in
    commands_join ((opening last e ++ declared) ++ Assert e.term ∷ []) (sent e.segment (with_variables ds e.term) es)
    (commands_join (opening last e ++ declared) (Assert e.term ∷ []) (commands_join (opening last e) declared (opening_spelled (nat_eq e.segment last)) h.0) (h.1, tt))
    (sent_spelled es e.segment (with_variables ds e.term) h.2)

pops_spelled : (n : ℕ) → AreCommands (pops n)
pops_spelled zero = tt
pops_spelled (suc n) = (tt, pops_spelled n)

-- ---- a question

module _ (p : List Entry) (t : Term) (named : AreCommands (declarations (symbols_of (terms p) (negate t)))) (names : Each AreNames (terms p)) (last : AreNames (negate t)) where
  along : AreCommands (declarations (with_listed [] (terms p) ++ missing (with_listed [] (terms p)) (negate t)))
  along = subst (λ x. AreCommands (declarations x)) (with_missing (with_listed [] (terms p)) (negate t)) named

  path_spelled : AreCommands (declarations (with_listed [] (terms p)))
  path_spelled = named_front (with_listed [] (terms p)) (missing (with_listed [] (terms p)) (negate t)) along

  outside_spelled : AreCommands (from_outside p)
  outside_spelled = (tt, sent_spelled p 0 [] (all_spelled p [] path_spelled names))

  all_again : (old : List Entry) → AreCommands (all_pops old ++ from_outside p)
  all_again old = commands_join (all_pops old) (from_outside p) (pops_spelled (suc (depth 0 old + 1))) outside_spelled

  onto_spelled : (old : List Entry) (o : Option ℕ) → kept old p ≡ o → AreCommands (onto old p o)
  onto_spelled old None e = all_again old
  onto_spelled old (Some k) e =
      let n = suc (depth (last_of 0 (take k old)) (drop k old)) in
      commands_join (pops n) (sent (last_of 0 (take k old)) (with_listed [] (terms (take k old))) (drop k p)) (pops_spelled n)
      (subst (λ x. AreCommands (sent (last_of 0 x) (with_listed [] (terms x)) (drop k p))) (sym (kept_is old p k e).common)
      (sent_spelled (drop k p) (last_of 0 (take k p)) (with_listed [] (terms (take k p))) (rest_spelled k p path_spelled names)))

  before_spelled : (scope : Scope) → AreCommands (said_before scope p)
  before_spelled Outside = outside_spelled
  before_spelled (Inside old) = onto_spelled old (kept old p) refl
  before_spelled (Left old) = all_again old

  here_spelled : (scope : Scope) → AreCommands (posted scope p t)
  here_spelled scope =
      let symbols = missing (with_listed [] (terms p)) (negate t) in
      commands_join (question scope p t) (CheckSat ∷ [])
      (commands_join (said_before scope p) (asked p t) (before_spelled scope)
      (commands_join (Push 1 ∷ declarations symbols) (Assert (negate t) ∷ []) (tt, named_back (with_listed [] (terms p)) symbols along) (last, tt))) (tt, tt)

-- a question over a path whose terms are these
pub posted_spelled : (scope : Scope) (p' : List Entry) (p : List Term) (t : Term) → terms p' ≡ p
    → AreCommands (declarations (symbols_of p (negate t))) → Each AreNames p → AreNames (negate t) → AreCommands (posted scope p' t)
posted_spelled scope p' p t is named names last =
    here_spelled p' t (subst (λ x. AreCommands (declarations (symbols_of x (negate t)))) (sym is) named) (subst (Each AreNames) (sym is) names) last scope
