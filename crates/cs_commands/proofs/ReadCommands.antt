-- What holds of each command that is understood: it holds of commands over what is declared.
use Rattle.std.proofs.Common.{◌≡◌, ℕ, zero, suc, ◌^◌, Bool, true, false, List, [], ◌∷◌, Option, Some, None, Ok, Err, refl, ap, ◌∙◌, sym, subst}
use Rattle.std.specs.Prelude.{if◌then◌else◌}
use Rattle.std.specs.declared.result.Result.{Result}
use Rattle.vx_sexp.specs.declared.token.Token.{Token}
use Rattle.vx_sexp.specs.declared.token.Token.TheVariants.{Open, Close, Atom}
use Rattle.vx_terms.specs.Sorts.{Sort, Symbol}
use Rattle.vx_terms.specs.Terms.{Term}
use Rattle.vx_terms.specs.Interpretations.{Each}
use Rattle.vx_smt_meaning.specs.Commands.{Command, SetOption, SetLogic, DeclareSort, DeclareFun, Assert, Push, Pop, CheckSat, GetProof, Exit, Declared}
use Rattle.vx_smt_meaning.specs.WellFormed.{knows_sort}
use Rattle.cs_reader.specs.Spelling.{symbol_in}
use Rattle.cs_commands.specs.declared.fault.CommandFault.{CommandFault}
use Rattle.cs_commands.specs.declared.fault.CommandFault.TheVariants as faults
use Rattle.cs_commands.specs.declared.word.Word.{Word}
use Rattle.cs_commands.specs.declared.word.Word.TheVariants as words
use Rattle.cs_commands.specs.declared.word.Verb.{Verb}
use Rattle.cs_commands.specs.declared.word.Verb.TheVariants as verbs
use Rattle.cs_commands.specs.Outcomes.{◌>>=◌, or_fault, with_front}
use Rattle.cs_commands.specs.Words.{term_word}
use Rattle.cs_commands.specs.Names.{text, number_below, symbol_named, sort_named}
use Rattle.cs_commands.specs.Live.{Scope, declared_as, sort_at, new_sort, if_new, if_free, new_symbol}
use Rattle.cs_commands.specs.Building.{is_bool, if_sorted}
use Rattle.cs_commands.specs.Terms.{term_from}
use Rattle.cs_commands.specs.Commands as reading
use Rattle.cs_commands.proofs.Passed.{ok_is, not_ok, bound, passed}

-- it holds of each command of declared symbols and known sorts
pub record KeepsCommands (scope : Scope) (Q : Command → Type 0) : Type 0 where
  pub options : (x : List ℕ) (b : Bool) → Q (SetOption x b)
  pub logics : (x : List ℕ) → Q (SetLogic x)
  pub sorts : (x : List ℕ) → knows_sort scope.sorts (sort_named x) ≡ false → Q (DeclareSort x)
  pub functions : (d : Declared) → declared_as scope.symbols d.symbol ≡ None → Each (λ (a : Sort). knows_sort scope.sorts a ≡ true) d.takes → knows_sort scope.sorts d.gives ≡ true → Q (DeclareFun d)
  pub asserts : (ts : List Token) (r : Term × List Token) → term_from scope [] ts ≡ Ok r → is_bool r.0 ≡ true → Q (Assert r.0)
  pub pushes : (n : ℕ) → Q (Push n)
  pub pops : (n : ℕ) → Q (Pop n)
  pub checks : Q CheckSat
  pub proofs : Q GetProof
  pub exits : Q Exit

-- ---- names

sort_is_known : (scope : Scope) (x : List ℕ) (a : Sort) → sort_at scope x ≡ Ok a → knows_sort scope.sorts a ≡ true
sort_is_known scope x a e =
    let b = bound (text x) _ a e in
    let p = passed faults.Name (knows_sort scope.sorts (sort_named b.0)) (sort_named b.0) a b.2 in
    ap (knows_sort scope.sorts) (sym p.1) ∙ p.0

sort_in_known : (scope : Scope) (t : Token) (a : Sort) → reading.sort_in scope t ≡ Ok a → knows_sort scope.sorts a ≡ true
sort_in_known scope t a e = let b = bound (or_fault faults.Sort (symbol_in t)) (sort_at scope) a e in sort_is_known scope b.0 a b.2

sort_is_new : (scope : Scope) (x name : List ℕ) → new_sort scope x ≡ Ok name → knows_sort scope.sorts (sort_named name) ≡ false
sort_is_new scope x name e = let b = bound (text x) _ name e in go b.0 (knows_sort scope.sorts (sort_named b.0)) refl b.2
  where
    go : (y : List ℕ) (b : Bool) → knows_sort scope.sorts (sort_named y) ≡ b → ◌≡◌ {A = Result (List ℕ) CommandFault} (if b then Err faults.Name else Ok y) (Ok name) → knows_sort scope.sorts (sort_named name) ≡ false
    go y true is h = not_ok h
    go y false is h = ap (λ z. knows_sort scope.sorts (sort_named z)) (sym (ok_is h)) ∙ is

new_is_none : (f g : Symbol) (o : Option Declared) → if_new f o ≡ Ok g → (f ≡ g) × (o ≡ None)
new_is_none f g None e = (ok_is e, refl)
new_is_none f g (Some d) e = not_ok e

free_is_none : (w : Word) (f g : Symbol) (o : Option Declared) → if_free w f o ≡ Ok g → (f ≡ g) × (o ≡ None)
free_is_none words.Name f g o e = new_is_none f g o e
free_is_none w f g o e = not_ok e

symbol_is_new : (scope : Scope) (x : List ℕ) (f : Symbol) → new_symbol scope x ≡ Ok f → declared_as scope.symbols f ≡ None
symbol_is_new scope x f e =
    let b = bound (text x) _ f e in
    let p = free_is_none (term_word b.0) (symbol_named b.0) f (declared_as scope.symbols (symbol_named b.0)) b.2 in
    ap (declared_as scope.symbols) (sym p.0) ∙ p.1

-- ---- parts

pub ended_is : (c d : Command) (ts : List Token) → reading.ended c ts ≡ Ok d → c ≡ d
ended_is c d [] e = not_ok e
ended_is c d (Close ∷ []) e = ok_is e
ended_is c d (Close ∷ t ∷ ts) e = not_ok e
ended_is c d (Open ∷ ts) e = not_ok e
ended_is c d (Atom kind x ∷ ts) e = not_ok e

abbrev AreKnown : Scope → List Sort × List Token → Type 0
AreKnown scope r = Each (λ (a : Sort). knows_sort scope.sorts a ≡ true) r.0

more_known : (scope : Scope) (t : Token) (ts : List Token) (r : List Sort × List Token) → ((q : List Sort × List Token) → reading.sorts_at scope ts ≡ Ok q → AreKnown scope q)
    → (reading.sort_in scope t >>= λ a. with_front (a ∷ []) (reading.sorts_at scope ts)) ≡ Ok r → AreKnown scope r
more_known scope t ts r more e =
    let a = bound (reading.sort_in scope t) (λ x. with_front (x ∷ []) (reading.sorts_at scope ts)) r e in
    let q = bound (reading.sorts_at scope ts) (λ x. Ok (a.0 ∷ x.0, x.1)) r a.2 in
    let known : AreKnown scope (a.0 ∷ q.0.0, q.0.1) = (sort_in_known scope t a.0 a.1, more q.0 q.1) in
    subst (AreKnown scope) (ok_is q.2) known

sorts_are_known : (scope : Scope) (ts : List Token) (r : List Sort × List Token) → reading.sorts_at scope ts ≡ Ok r → AreKnown scope r
sorts_are_known scope [] r e = not_ok e
sorts_are_known scope (Close ∷ ts) r e = subst (AreKnown scope) (ok_is e) tt
sorts_are_known scope (Open ∷ ts) r e = more_known scope Open ts r (sorts_are_known scope ts) e
sorts_are_known scope (Atom kind x ∷ ts) r e = more_known scope (Atom kind x) ts r (sorts_are_known scope ts) e

module _ (scope : Scope) (Q : Command → Type 0) (k : KeepsCommands scope Q) where
  option_keeps : (ts : List Token) (c : Command) → reading.set_option ts ≡ Ok c → Q c
  option_keeps ts c e =
      let x = bound (reading.keyword_at ts) _ c e in
      let keyword = bound (text x.0.0) _ c x.2 in
      let value = bound (reading.value_at x.0.1) _ c keyword.2 in
      subst Q (ended_is (SetOption keyword.0 value.0.0) c value.0.1 value.2) (k.options keyword.0 value.0.0)

  logic_keeps : (ts : List Token) (c : Command) → reading.set_logic ts ≡ Ok c → Q c
  logic_keeps ts c e =
      let x = bound (reading.symbol_at ts) _ c e in
      let name = bound (text x.0.0) _ c x.2 in
      subst Q (ended_is (SetLogic name.0) c x.0.1 name.2) (k.logics name.0)

  none_keeps : (n : ℕ) (name : List ℕ) (ts : List Token) (made c : Command) → Q (DeclareSort name) → reading.ended (DeclareSort name) ts ≡ Ok made → reading.if_none n made ≡ Ok c → Q c
  none_keeps zero name ts made c h is e = subst Q (ended_is (DeclareSort name) made ts is ∙ ok_is e) h
  none_keeps (suc n) name ts made c h is e = not_ok e

  sort_keeps : (ts : List Token) (c : Command) → reading.declare_sort scope ts ≡ Ok c → Q c
  sort_keeps ts c e =
      let x = bound (reading.symbol_at ts) _ c e in
      let name = bound (new_sort scope x.0.0) _ c x.2 in
      let last = bound (reading.numeral_at x.0.1) _ c name.2 in
      let arity = bound (or_fault faults.Wide (number_below (2 ^ 127) last.0.0)) _ c last.2 in
      let made = bound (reading.ended (DeclareSort name.0) last.0.1) _ c arity.2 in
      none_keeps arity.0 name.0 last.0.1 made.0 c (k.sorts name.0 (sort_is_new scope x.0.0 name.0 name.1)) made.1 made.2

  function_keeps : (ts : List Token) (c : Command) → reading.declare_fun scope ts ≡ Ok c → Q c
  function_keeps ts c e =
      let name = bound (reading.symbol_at ts) _ c e in
      let f = bound (new_symbol scope name.0.0) _ c name.2 in
      let within = bound (reading.open_at name.0.1) _ c f.2 in
      let takes = bound (reading.sorts_at scope within.0) _ c within.2 in
      let last = bound (reading.symbol_at takes.0.1) _ c takes.2 in
      let gives = bound (sort_at scope last.0.0) _ c last.2 in
      subst Q (ended_is (reading.declared f.0 takes.0.0 gives.0) c last.0.1 gives.2)
      (k.functions (record { symbol = f.0; takes = takes.0.0; gives = gives.0 }) (symbol_is_new scope name.0.0 f.0 f.1) (sorts_are_known scope within.0 takes.0 takes.1) (sort_is_known scope last.0.0 gives.0 gives.1))

  assertion_keeps : (ts : List Token) (c : Command) → reading.assertion scope ts ≡ Ok c → Q c
  assertion_keeps ts c e =
      let t = bound (term_from scope [] ts) _ c e in
      let u = bound (if_sorted (is_bool t.0.0) t.0.0) _ c t.2 in
      let p = passed faults.Sort (is_bool t.0.0) t.0.0 u.0 u.1 in
      subst Q (ap Assert p.1 ∙ ended_is (Assert u.0) c t.0.1 u.2) (k.asserts ts t.0 t.1 p.0)

  levels_keep : (make : ℕ → Command) (ts : List Token) (c : Command) → ((n : ℕ) → Q (make n)) → reading.levels make ts ≡ Ok c → Q c
  levels_keep make ts c h e =
      let x = bound (reading.numeral_at ts) _ c e in
      let n = bound (or_fault faults.Levels (number_below (2 ^ 32) x.0.0)) _ c x.2 in
      subst Q (ended_is (make n.0) c x.0.1 n.2) (h n.0)

  command_keeps : (v : Verb) (ts : List Token) (c : Command) → reading.command_of scope v ts ≡ Ok c → Q c
  command_keeps verbs.SetOption ts c e = option_keeps ts c e
  command_keeps verbs.SetLogic ts c e = logic_keeps ts c e
  command_keeps verbs.DeclareSort ts c e = sort_keeps ts c e
  command_keeps verbs.DeclareFun ts c e = function_keeps ts c e
  command_keeps verbs.Assert ts c e = assertion_keeps ts c e
  command_keeps verbs.Push ts c e = levels_keep Push ts c k.pushes e
  command_keeps verbs.Pop ts c e = levels_keep Pop ts c k.pops e
  command_keeps verbs.CheckSat ts c e = subst Q (ended_is CheckSat c ts e) k.checks
  command_keeps verbs.GetProof ts c e = subst Q (ended_is GetProof c ts e) k.proofs
  command_keeps verbs.Exit ts c e = subst Q (ended_is Exit c ts e) k.exits
  command_keeps verbs.Other ts c e = not_ok e

  pub understood_keeps : (ts : List Token) (c : Command) → reading.understood scope ts ≡ Ok c → Q c
  understood_keeps ts c e = let verb = bound (reading.verb_at ts) _ c e in command_keeps verb.0.0 verb.0.1 c verb.2
