-- A symbol that is declared has a word of its own.
use Rattle.std.proofs.Common.{◌≡◌, ℕ, zero, suc, ◌<◌, ◌^◌, nat_eq, Bool, true, false, List, [], ◌∷◌, Option, Some, None, Ok, refl, ap, ap₂, ◌∙◌, sym, subst, eqb-true, arith}
use Rattle.std.specs.Prelude.{if◌then◌else◌}
use Rattle.std.specs.Str.{is_utf8}
use Rattle.vx_sexp.specs.declared.token.Kind.TheVariants as kinds
use Rattle.vx_sexp.specs.declared.token.Token.{Token}
use Rattle.vx_sexp.specs.declared.token.Token.TheVariants.{Open, Close, Atom}
use Rattle.vx_sexp.specs.Tokens.{Lexes, is_symbol}
use Rattle.vx_terms.specs.Sorts.{Symbol, Standard, Function, Variable, Named}
use Rattle.vx_smt_meaning.specs.Commands.{Command, SetOption, SetLogic, DeclareSort, DeclareFun, Assert, Push, Pop, CheckSat, GetProof, Exit, Declared}
use Rattle.vx_smt_meaning.specs.Words as written
use Rattle.vx_smt_meaning.specs.Words.{symbol_word}
use Rattle.cs_reader.specs.Spelling.{symbol_in}
use Rattle.cs_commands.specs.declared.fault.CommandFault.TheVariants as faults
use Rattle.cs_commands.specs.declared.word.Word.{Word}
use Rattle.cs_commands.specs.declared.word.Word.TheVariants as words
use Rattle.cs_commands.specs.declared.word.Verb.{Verb}
use Rattle.cs_commands.specs.declared.word.Verb.TheVariants as verbs
use Rattle.cs_commands.specs.Outcomes.{or_fault}
use Rattle.cs_commands.specs.Words.{term_word}
use Rattle.cs_commands.specs.Names.{number_below, numbered, symbol_named, text}
use Rattle.cs_commands.specs.Live.{Scope, declared_as, new_sort, if_free, new_symbol, sort_at}
use Rattle.cs_commands.specs.Building.{is_bool, if_sorted}
use Rattle.cs_commands.specs.Terms.{term_from}
use Rattle.cs_commands.specs.Commands as reading
use Rattle.cs_commands.specs.Laws.{IsSmallSymbol}
use Rattle.cs_commands.specs.Following.{HasWord, UnderstoodHasWord}
use Rattle.cs_commands.proofs.Passed.{ok_is, not_ok, bound, passed}
use Rattle.cs_commands.proofs.Numerals.{number_is}
use Rattle.cs_commands.proofs.Small.{number_small}
use Rattle.cs_commands.proofs.ReadCommands.{ended_is}

-- ---- what a word names has this word

-- what is named by it has this word and a number in its bits
record IsOf (x : List ℕ) (f : Symbol) : Type 0 where
  has : symbol_word f ≡ x
  small : IsSmallSymbol f

own : (x : List ℕ) → IsOf x (Named x)
own x = record { has = refl; small = tt }

lettered_own : (make : ℕ → Symbol) (b letter limit : ℕ) (bs : List ℕ) → 0 < limit → b ≡ letter → ((n : ℕ) → n < limit → IsOf (letter ∷ written.numeral n) (make n)) → IsOf (b ∷ bs) (numbered make (b ∷ bs) (number_below limit bs))
lettered_own make b letter limit bs some is made = go (number_below limit bs) refl
  where
    go : (o : Option ℕ) → number_below limit bs ≡ o → IsOf (b ∷ bs) (numbered make (b ∷ bs) o)
    go None e = own (b ∷ bs)
    go (Some n) e = subst (λ x. IsOf x (make n)) (sym (ap₂ (λ z zs. z ∷ zs) is (number_is limit bs n e))) (made n (number_small limit bs n some e))

named_own : (x : List ℕ) → IsOf x (symbol_named x)
named_own [] = own []
named_own (b ∷ bs) = on_s (nat_eq b 115) refl
  where
    on_v : (c : Bool) → nat_eq b 118 ≡ c → IsOf (b ∷ bs) (if c then numbered Variable (b ∷ bs) (number_below (2 ^ 64) bs) else Named (b ∷ bs))
    on_v true e = lettered_own Variable b 118 (2 ^ 64) bs (omega arith) (eqb-true b 118 e) (λ n h. record { has = refl; small = h })
    on_v false e = own (b ∷ bs)

    on_f : (c : Bool) → nat_eq b 102 ≡ c → IsOf (b ∷ bs) (if c then numbered Function (b ∷ bs) (number_below (2 ^ 32) bs) else (if nat_eq b 118 then numbered Variable (b ∷ bs) (number_below (2 ^ 64) bs) else Named (b ∷ bs)))
    on_f true e = lettered_own Function b 102 (2 ^ 32) bs (omega arith) (eqb-true b 102 e) (λ n h. record { has = refl; small = h })
    on_f false e = on_v (nat_eq b 118) refl

    on_s : (c : Bool) → nat_eq b 115 ≡ c
        → IsOf (b ∷ bs) (if c then numbered Standard (b ∷ bs) (number_below (2 ^ 32) bs) else (if nat_eq b 102 then numbered Function (b ∷ bs) (number_below (2 ^ 32) bs) else (if nat_eq b 118 then numbered Variable (b ∷ bs) (number_below (2 ^ 64) bs) else Named (b ∷ bs))))
    on_s true e = lettered_own Standard b 115 (2 ^ 32) bs (omega arith) (eqb-true b 115 e) (λ n h. record { has = refl; small = h })
    on_s false e = on_f (nat_eq b 102) refl

free_name : (w : Word) (f g : Symbol) (o : Option Declared) → if_free w f o ≡ Ok g → (w ≡ words.Name) × (f ≡ g)
free_name words.Name f g None e = (refl, ok_is e)
free_name words.Name f g (Some d) e = not_ok e
free_name (words.Truth b) f g o e = not_ok e
free_name words.Not f g o e = not_ok e
free_name words.Ite f g o e = not_ok e
free_name words.Minus f g o e = not_ok e
free_name words.Slash f g o e = not_ok e
free_name (words.Operator p) f g o e = not_ok e

new_has_word : (scope : Scope) (x : List ℕ) (f : Symbol) → is_symbol x ≡ true → new_symbol scope x ≡ Ok f → HasWord f
new_has_word scope x f spelled e =
    let b = bound (text x) _ f e in
    let same : x ≡ b.0 = (passed faults.Name (is_utf8 x) x b.0 b.1).1 in
    let p = free_name (term_word b.0) (symbol_named b.0) f (declared_as scope.symbols (symbol_named b.0)) b.2 in
    let given = subst (IsOf b.0) p.1 (named_own b.0) in
    let word : symbol_word f ≡ x = given.has ∙ sym same in
    record {
      spelled = ap is_symbol word ∙ spelled;
      free = ap term_word given.has ∙ p.0;
      back = ap symbol_named given.has ∙ p.1;
      small = given.small;
    }

-- ---- a declaration among tokens

-- a word is a symbol
abbrev IsWord : List ℕ → List ℕ × List Token → Type 0
IsWord rest r = (is_symbol r.0 ≡ true) × (between : List ℕ) × Lexes between r.1 rest

symbol_lexed : (ts : List Token) (r : List ℕ × List Token) (bytes rest : List ℕ) → Lexes bytes ts rest → reading.symbol_at ts ≡ Ok r → IsWord rest r
symbol_lexed [] r bytes rest lexed e = not_ok e
symbol_lexed (Open ∷ ts) r bytes rest lexed e = not_ok e
symbol_lexed (Close ∷ ts) r bytes rest lexed e = not_ok e
symbol_lexed (Atom kinds.Symbol x ∷ ts) r bytes rest lexed e = subst (IsWord rest) (ok_is e) (lexed.1.spelled.1, lexed.0, lexed.2)
symbol_lexed (Atom kinds.Numeral x ∷ ts) r bytes rest lexed e = not_ok e
symbol_lexed (Atom kinds.Decimal x ∷ ts) r bytes rest lexed e = not_ok e
symbol_lexed (Atom kinds.Hexadecimal x ∷ ts) r bytes rest lexed e = not_ok e
symbol_lexed (Atom kinds.Binary x ∷ ts) r bytes rest lexed e = not_ok e
symbol_lexed (Atom kinds.Keyword x ∷ ts) r bytes rest lexed e = not_ok e
symbol_lexed (Atom kinds.Quoted x ∷ ts) r bytes rest lexed e = not_ok e
symbol_lexed (Atom kinds.Text x ∷ ts) r bytes rest lexed e = not_ok e

-- what stands behind a command's word are tokens of these bytes too
verb_lexed : (ts : List Token) (r : Verb × List Token) (bytes rest : List ℕ) → Lexes bytes ts rest → reading.verb_at ts ≡ Ok r → (between : List ℕ) × Lexes between r.1 rest
verb_lexed [] r bytes rest lexed e = not_ok e
verb_lexed (Open ∷ []) r bytes rest lexed e = not_ok e
verb_lexed (Open ∷ t ∷ ts) r bytes rest lexed e =
    let x = bound (or_fault faults.Unsupported (symbol_in t)) _ r e in
    (lexed.2.0, subst (λ q. Lexes lexed.2.0 q rest) (ap (λ (q : Verb × List Token). q.1) (ok_is x.2)) lexed.2.2)
verb_lexed (Close ∷ ts) r bytes rest lexed e = not_ok e
verb_lexed (Atom k x ∷ ts) r bytes rest lexed e = not_ok e

abbrev symbol_of : Command → Symbol
symbol_of (DeclareFun d) = d.symbol
symbol_of c = Named []

function_has_word : (scope : Scope) (ts : List Token) (d : Declared) (bytes rest : List ℕ) → Lexes bytes ts rest → reading.declare_fun scope ts ≡ Ok (DeclareFun d) → HasWord d.symbol
function_has_word scope ts d bytes rest lexed e =
    let name = bound (reading.symbol_at ts) _ (DeclareFun d) e in
    let f = bound (new_symbol scope name.0.0) _ (DeclareFun d) name.2 in
    let within = bound (reading.open_at name.0.1) _ (DeclareFun d) f.2 in
    let takes = bound (reading.sorts_at scope within.0) _ (DeclareFun d) within.2 in
    let last = bound (reading.symbol_at takes.0.1) _ (DeclareFun d) takes.2 in
    let gives = bound (sort_at scope last.0.0) _ (DeclareFun d) last.2 in
    let same : f.0 ≡ d.symbol = ap symbol_of (ended_is (reading.declared f.0 takes.0.0 gives.0) (DeclareFun d) last.0.1 gives.2) in
    subst HasWord same (new_has_word scope name.0.0 f.0 (symbol_lexed ts name.0 bytes rest lexed name.1).0 f.1)

-- ---- no other command declares a symbol

abbrev declares : Command → Bool
declares (DeclareFun d) = true
declares c = false

none_declared : {R : Type 0} (c : Command) (d : Declared) → declares c ≡ false → c ≡ DeclareFun d → R
none_declared c d e is = let same : false ≡ true = sym e ∙ ap declares is in cc

option_none : {R : Type 0} (ts : List Token) (d : Declared) → reading.set_option ts ≡ Ok (DeclareFun d) → R
option_none ts d e =
    let x = bound (reading.keyword_at ts) _ (DeclareFun d) e in
    let keyword = bound (text x.0.0) _ (DeclareFun d) x.2 in
    let value = bound (reading.value_at x.0.1) _ (DeclareFun d) keyword.2 in
    none_declared (SetOption keyword.0 value.0.0) d refl (ended_is (SetOption keyword.0 value.0.0) (DeclareFun d) value.0.1 value.2)

logic_none : {R : Type 0} (ts : List Token) (d : Declared) → reading.set_logic ts ≡ Ok (DeclareFun d) → R
logic_none ts d e =
    let x = bound (reading.symbol_at ts) _ (DeclareFun d) e in
    let name = bound (text x.0.0) _ (DeclareFun d) x.2 in
    none_declared (SetLogic name.0) d refl (ended_is (SetLogic name.0) (DeclareFun d) x.0.1 name.2)

arity_none : {R : Type 0} (n : ℕ) (name : List ℕ) (ts : List Token) (made : Command) (d : Declared) → reading.ended (DeclareSort name) ts ≡ Ok made → reading.if_none n made ≡ Ok (DeclareFun d) → R
arity_none zero name ts made d is e = none_declared (DeclareSort name) d refl (ended_is (DeclareSort name) made ts is ∙ ok_is e)
arity_none (suc n) name ts made d is e = not_ok e

sort_none : {R : Type 0} (scope : Scope) (ts : List Token) (d : Declared) → reading.declare_sort scope ts ≡ Ok (DeclareFun d) → R
sort_none scope ts d e =
    let x = bound (reading.symbol_at ts) _ (DeclareFun d) e in
    let name = bound (new_sort scope x.0.0) _ (DeclareFun d) x.2 in
    let last = bound (reading.numeral_at x.0.1) _ (DeclareFun d) name.2 in
    let arity = bound (or_fault faults.Wide (number_below (2 ^ 127) last.0.0)) _ (DeclareFun d) last.2 in
    let made = bound (reading.ended (DeclareSort name.0) last.0.1) _ (DeclareFun d) arity.2 in
    arity_none arity.0 name.0 last.0.1 made.0 d made.1 made.2

assertion_none : {R : Type 0} (scope : Scope) (ts : List Token) (d : Declared) → reading.assertion scope ts ≡ Ok (DeclareFun d) → R
assertion_none scope ts d e =
    let t = bound (term_from scope [] ts) _ (DeclareFun d) e in
    let u = bound (if_sorted (is_bool t.0.0) t.0.0) _ (DeclareFun d) t.2 in
    none_declared (Assert u.0) d refl (ended_is (Assert u.0) (DeclareFun d) t.0.1 u.2)

levels_none : {R : Type 0} (make : ℕ → Command) (ts : List Token) (d : Declared) → ((n : ℕ) → declares (make n) ≡ false) → reading.levels make ts ≡ Ok (DeclareFun d) → R
levels_none make ts d other e =
    let x = bound (reading.numeral_at ts) _ (DeclareFun d) e in
    let n = bound (or_fault faults.Levels (number_below (2 ^ 32) x.0.0)) _ (DeclareFun d) x.2 in
    none_declared (make n.0) d (other n.0) (ended_is (make n.0) (DeclareFun d) x.0.1 n.2)

command_has_word : (scope : Scope) (v : Verb) (ts : List Token) (d : Declared) (bytes rest : List ℕ) → Lexes bytes ts rest → reading.command_of scope v ts ≡ Ok (DeclareFun d) → HasWord d.symbol
command_has_word scope verbs.SetOption ts d bytes rest lexed e = option_none ts d e
command_has_word scope verbs.SetLogic ts d bytes rest lexed e = logic_none ts d e
command_has_word scope verbs.DeclareSort ts d bytes rest lexed e = sort_none scope ts d e
command_has_word scope verbs.DeclareFun ts d bytes rest lexed e = function_has_word scope ts d bytes rest lexed e
command_has_word scope verbs.Assert ts d bytes rest lexed e = assertion_none scope ts d e
command_has_word scope verbs.Push ts d bytes rest lexed e = levels_none Push ts d (λ n. refl) e
command_has_word scope verbs.Pop ts d bytes rest lexed e = levels_none Pop ts d (λ n. refl) e
command_has_word scope verbs.CheckSat ts d bytes rest lexed e = none_declared CheckSat d refl (ended_is CheckSat (DeclareFun d) ts e)
command_has_word scope verbs.GetProof ts d bytes rest lexed e = none_declared GetProof d refl (ended_is GetProof (DeclareFun d) ts e)
command_has_word scope verbs.Exit ts d bytes rest lexed e = none_declared Exit d refl (ended_is Exit (DeclareFun d) ts e)
command_has_word scope verbs.Other ts d bytes rest lexed e = not_ok e

pub understood_named : UnderstoodHasWord
understood_named scope bytes rest tokens d lexed e =
    let verb = bound (reading.verb_at tokens) _ (DeclareFun d) e in
    let behind = verb_lexed tokens verb.0 bytes rest lexed verb.1 in
    command_has_word scope verb.0.0 verb.0.1 d behind.0 rest behind.1 verb.2
