-- The preamble is well formed, and each askable question that is sent whole behind it.
use Rattle.std.proofs.Common.{◌≡◌, ◌++◌, ℕ, Bool, true, false, List, [], ◌∷◌, refl, ap, ◌∙◌, sym, subst, inl, inr}
use Rattle.vx_terms.specs.Sorts.{Sort, IntSort, BoolSort, RealSort, RefSort, SnapSort, OtherSort, Symbol, Standard, Function, Variable, Named}
use Rattle.vx_terms.specs.Terms.{Term, Truth, Number, Part, Constant, Apply, Not, Binary, Ite, AllOf, SomeOf, Terms, NoTerms, MoreTerms}
use Rattle.vx_terms.specs.Interpretations.{Each}
use Rattle.vx_terms.specs.Build.{negate}
use Rattle.vx_smt_meaning.specs.Commands.{Declared, DeclareFun, Assert, Push, Level, empty_level, stack_from, declared_in}
use Rattle.vx_smt_meaning.specs.Names.{IsName, IsSortName, AreNames, AllAreNames, IsCommand, AreCommands}
use Rattle.vx_smt_meaning.specs.Symbols.{declaration, Declares}
use Rattle.vx_smt_meaning.specs.Standard.{standard_symbols}
use Rattle.vx_smt_meaning.specs.Over.{IsConstantOver, IsOver, AreOver}
use Rattle.vx_smt_meaning.specs.WellFormed.{names, sorts_in, knows_sort, AllMayFollow, IsWellFormed}
use Rattle.vx_dialogue.specs.Askable.{IsOfFive, IsAskable}
use Rattle.vx_dialogue.specs.Symbols.{with_listed, symbols_of}
use Rattle.vx_dialogue.specs.Preamble.{declarations, produce_proofs, preamble}
use Rattle.vx_dialogue.specs.Dialogue.{pushed, base_of}
use Rattle.vx_sexp.specs.Characters.{is_symbol_byte, is_digit}
use Rattle.vx_dialogue.proofs.Whole.{assertions, question}
use Rattle.vx_dialogue.proofs.Lists.{stack_append}
use Rattle.vx_dialogue.proofs.Levels.{declared_level, asserted_level}
use Rattle.vx_dialogue.proofs.Follows.{follow_join}
use Rattle.vx_dialogue.proofs.Declared.{Includes, AreVariables, in_pushed, over_includes, negated_over, question_declared, question_variables}
use Rattle.vx_dialogue.proofs.NewNames.{AreNew, new_term, new_path, assertions_follow}
use Rattle.vx_dialogue.proofs.Steady.{commands_join, preamble_named}

-- ---- the preamble

preamble_follows : (c : Bool) → AllMayFollow (empty_level ∷ []) (preamble c [])
preamble_follows true = (tt, (tt, (tt, (refl, (refl, (record { new = refl; takes = tt; gives = refl }, (record { new = refl; takes = tt; gives = refl }, (record { new = refl; takes = (refl, (refl, tt)); gives = refl }, (record { new = refl; takes = (refl, tt); gives = refl }, (record { new = refl; takes = (refl, tt); gives = refl }, (record { new = refl; takes = (refl, tt); gives = refl }, (record { new = refl; takes = (refl, tt); gives = refl }, (record { new = refl; takes = (refl, tt); gives = refl }, (record { new = refl; takes = (refl, tt); gives = refl }, (record { new = refl; takes = (refl, tt); gives = refl }, (record { new = refl; takes = (refl, tt); gives = refl }, (record { new = refl; takes = (refl, tt); gives = refl }, (record { new = refl; takes = (refl, tt); gives = refl }, tt))))))))))))))))))
preamble_follows false = (tt, (tt, (refl, (refl, (record { new = refl; takes = tt; gives = refl }, (record { new = refl; takes = tt; gives = refl }, (record { new = refl; takes = (refl, (refl, tt)); gives = refl }, (record { new = refl; takes = (refl, tt); gives = refl }, (record { new = refl; takes = (refl, tt); gives = refl }, (record { new = refl; takes = (refl, tt); gives = refl }, (record { new = refl; takes = (refl, tt); gives = refl }, (record { new = refl; takes = (refl, tt); gives = refl }, (record { new = refl; takes = (refl, tt); gives = refl }, (record { new = refl; takes = (refl, tt); gives = refl }, (record { new = refl; takes = (refl, tt); gives = refl }, (record { new = refl; takes = (refl, tt); gives = refl }, (record { new = refl; takes = (refl, tt); gives = refl }, tt)))))))))))))))))

-- ---- what the preamble leaves

-- No v is declared, the five sorts are known, and the standard symbols are declared.
record IsBase (base : List Level) : Type 0 where
  unseen : (n : ℕ) → names (declared_in base) (Variable n) ≡ false
  five : (a : Sort) → IsOfFive a → knows_sort (sorts_in base) a ≡ true
  standard : Includes standard_symbols (declared_in base)

base_is : (c : Bool) → IsBase (base_of c [])
base_is true = record { unseen = λ n. refl; five = five_true; standard = λ d e. in_pushed standard_symbols [] d e }
  where
    five_true : (a : Sort) → IsOfFive a → knows_sort (sorts_in (base_of true [])) a ≡ true
    five_true IntSort h = refl
    five_true BoolSort h = refl
    five_true RealSort h = refl
    five_true RefSort h = refl
    five_true SnapSort h = refl
    five_true (OtherSort x) h = absurd h
base_is false = record { unseen = λ n. refl; five = five_false; standard = λ d e. in_pushed standard_symbols [] d e }
  where
    five_false : (a : Sort) → IsOfFive a → knows_sort (sorts_in (base_of false [])) a ≡ true
    five_false IntSort h = refl
    five_false BoolSort h = refl
    five_false RealSort h = refl
    five_false RefSort h = refl
    five_false SnapSort h = refl
    five_false (OtherSort x) h = absurd h

-- ---- a question

five_name : (a : Sort) → IsOfFive a → IsSortName a
five_name IntSort h = tt
five_name BoolSort h = tt
five_name RealSort h = tt
five_name RefSort h = tt
five_name SnapSort h = tt
five_name (OtherSort x) h = absurd h

declarations_follow : (sorts : ℕ → Sort) (l : Level) (levels : List Level) (ds : List Declared) → AreVariables sorts ds → ((n : ℕ) → IsOfFive (sorts n))
    → AreNew (declared_in (l ∷ levels)) ds → ((a : Sort) → IsOfFive a → knows_sort (sorts_in (l ∷ levels)) a ≡ true) → AllMayFollow (l ∷ levels) (declarations ds)
declarations_follow sorts l levels [] variables five new known = tt
declarations_follow sorts l levels (d ∷ ds) variables five new known = (
  record {
    new = new.0;
    takes = subst (λ (x : Declared). Each (λ (a : Sort). knows_sort (sorts_in (l ∷ levels)) a ≡ true) x.takes) (sym variables.0.1) tt;
    gives = known d.gives (subst (λ (x : Declared). IsOfFive x.gives) (sym variables.0.1) (five variables.0.0));
  },
  declarations_follow sorts (record l { symbols = d ∷ l.symbols }) levels ds variables.1 five new.1 known,
)

question_follows : (base : List Level) (p : List Term) (t : Term) → IsBase base → IsAskable p t → AllMayFollow base (question p t)
question_follows base p t is q =
    let negated = negate t in
    let symbols = symbols_of p negated in
    let inside = empty_level ∷ base in
    let fresh = record empty_level { symbols = pushed symbols [] } in
    let over : Each (IsOver (declared_in base) q.sorts) p = path_includes q.sorts p is.standard q.path_over in
    let over_last : IsOver (declared_in base) q.sorts t = over_includes standard_symbols (declared_in base) q.sorts t is.standard q.over in
    let variables : AreVariables q.sorts symbols = question_variables (declared_in base) q.sorts p t over over_last in
    let declared = question_declared (declared_in base) q.sorts p t over over_last in
    let new : AreNew (declared_in base) symbols = new_term (declared_in base) is.unseen negated (with_listed [] p) (new_path (declared_in base) is.unseen p [] tt) in
    let beginning = Push 1 ∷ Push 1 ∷ declarations symbols in
    let declared_stack : stack_from base beginning ≡ fresh ∷ inside = declared_level empty_level inside symbols in
    let asserted_stack : stack_from base (beginning ++ assertions p) ≡ record fresh { assertions = pushed p [] } ∷ inside =
    stack_append base beginning (assertions p) ∙ (ap (λ x. stack_from x (assertions p)) declared_stack ∙ asserted_level fresh inside p) in
    follow_join base (beginning ++ assertions p) (Assert negated ∷ [])
    (follow_join base beginning (assertions p) (tt, (tt, declarations_follow q.sorts empty_level inside symbols variables q.five new is.five))
    (subst (λ x. AllMayFollow x (assertions p)) (sym declared_stack) (assertions_follow fresh inside p q.path_bool declared.0)))
    (subst (λ x. AllMayFollow x (Assert negated ∷ [])) (sym asserted_stack) (record { bool = q.bool; declared = declared.1 }, tt))
  where
    path_includes : (sorts : ℕ → Sort) (path : List Term) → Includes standard_symbols (declared_in base) → Each (IsOver standard_symbols sorts) path → Each (IsOver (declared_in base) sorts) path
    path_includes sorts [] includes over = tt
    path_includes sorts (u ∷ path) includes over = (over_includes standard_symbols (declared_in base) sorts u includes over.0, path_includes sorts path includes over.1)

-- ---- the names

names_in : (ds : List Declared) (d : Declared) → Each (λ (e : Declared). IsName e.symbol) ds → Declares ds d → IsName d.symbol
names_in [] d all h = absurd h
names_in (e ∷ ds) d all (inl is) = subst (λ (x : Declared). IsName x.symbol) is all.0
names_in (e ∷ ds) d all (inr h) = names_in ds d all.1 h

standard_names : Each (λ (e : Declared). IsName e.symbol) standard_symbols
standard_names = (tt, (tt, (tt, (tt, (tt, (tt, (tt, (tt, (tt, (tt, (tt, (tt, (tt, tt)))))))))))))

constant_name : (sorts : ℕ → Sort) (f : Symbol) (a : Sort) → IsConstantOver standard_symbols sorts f a → IsName f
constant_name sorts (Standard n) a e = tt
constant_name sorts (Function n) a e = tt
constant_name sorts (Variable n) a e = tt
constant_name sorts (Named x) a e = names_in standard_symbols (declaration (Named x) [] a) standard_names e

mutual
  over_names : (sorts : ℕ → Sort) (t : Term) → IsOver standard_symbols sorts t → AreNames t
  over_names sorts (Truth b) e = tt
  over_names sorts (Number z) e = tt
  over_names sorts (Part a) e = tt
  over_names sorts (Constant f a) e = constant_name sorts f a e
  over_names sorts (Apply f a ts) e = (names_in standard_symbols _ standard_names e.0, all_over_names sorts ts e.1)
  over_names sorts (Not t) e = over_names sorts t e
  over_names sorts (Binary o t u) e = (over_names sorts t e.0, over_names sorts u e.1)
  over_names sorts (Ite c t u) e = (over_names sorts c e.0, over_names sorts t e.1, over_names sorts u e.2)
  over_names sorts (AllOf ts) e = all_over_names sorts ts e
  over_names sorts (SomeOf ts) e = all_over_names sorts ts e

  all_over_names : (sorts : ℕ → Sort) (ts : Terms) → AreOver standard_symbols sorts ts → AllAreNames ts
  all_over_names sorts NoTerms e = tt
  all_over_names sorts (MoreTerms t ts) e = (over_names sorts t e.0, all_over_names sorts ts e.1)

declared_named : (sorts : ℕ → Sort) (ds : List Declared) → AreVariables sorts ds → ((n : ℕ) → IsOfFive (sorts n)) → AreCommands (declarations ds)
declared_named sorts [] variables five = tt
declared_named sorts (d ∷ ds) variables five =
    let n = variables.0.0 in
    (subst (λ (x : Declared). IsCommand (DeclareFun x)) (sym variables.0.1) (tt, tt, five_name (sorts n) (five n)), declared_named sorts ds variables.1 five)

asserted_named : (sorts : ℕ → Sort) (path : List Term) → Each (IsOver standard_symbols sorts) path → AreCommands (assertions path)
asserted_named sorts [] over = tt
asserted_named sorts (t ∷ path) over = (over_names sorts t over.0, asserted_named sorts path over.1)

question_named : (p : List Term) (t : Term) → IsAskable p t → AreCommands (question p t)
question_named p t q =
    let symbols = symbols_of p (negate t) in
    let declared = declared_named q.sorts symbols (question_variables standard_symbols q.sorts p t q.path_over q.over) q.five in
    commands_join ((Push 1 ∷ Push 1 ∷ declarations symbols) ++ assertions p) (Assert (negate t) ∷ [])
    (commands_join (Push 1 ∷ Push 1 ∷ declarations symbols) (assertions p) (tt, (tt, declared)) (asserted_named q.sorts p q.path_over))
    (over_names q.sorts (negate t) (negated_over standard_symbols q.sorts t q.over), tt)

certified_named : AreCommands (preamble true [])
unfolding produce_proofs is_symbol_byte is_digit
certified_named = (preamble_named.0, (refl, preamble_named.1))

said_first : (c : Bool) → AreCommands (preamble c [])
said_first true = certified_named
said_first false = preamble_named

-- ---- all of it

pub preamble_fits : (c : Bool) → IsWellFormed (preamble c [])
preamble_fits c = record { spelled = said_first c; in_order = preamble_follows c }

pub question_fits : (c : Bool) (p : List Term) (t : Term) → IsAskable p t → IsWellFormed (preamble c [] ++ question p t)
question_fits c p t q = record {
  spelled = commands_join (preamble c []) (question p t) (said_first c) (question_named p t q);
  in_order = follow_join (empty_level ∷ []) (preamble c []) (question p t) (preamble_follows c) (question_follows (base_of c []) p t (base_is c) q);
}
