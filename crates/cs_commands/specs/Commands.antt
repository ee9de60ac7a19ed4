-- Which command the tokens of an s-expression are, or their first fault from left to right.
use Rattle.std.specs.Prelude.{ℕ, zero, suc, ◌^◌, Bool, false, List, [], ◌∷◌, codes, Option, Some, None, Ok, Err}
use Rattle.std.specs.Str.{bytes_eq}
use Rattle.std.specs.declared.result.Result.{Result}
use Rattle.vx_sexp.specs.declared.token.Kind.{Kind}
use Rattle.vx_sexp.specs.declared.token.Kind.TheVariants as kinds
use Rattle.vx_sexp.specs.declared.token.Token.{Token}
use Rattle.vx_sexp.specs.declared.token.Token.TheVariants.{Open, Close, Atom}
use Rattle.vx_sexp.specs.First.{after}
use Rattle.vx_terms.specs.Sorts.{Sort, Symbol}
use Rattle.vx_smt_meaning.specs.Commands.{Command, SetOption, SetLogic, DeclareSort, DeclareFun, Assert, Push, Pop, CheckSat, GetProof, Exit}
use Rattle.cs_reader.specs.Spelling.{symbol_in}
use Rattle.cs_commands.specs.declared.fault.CommandFault.{CommandFault}
use Rattle.cs_commands.specs.declared.fault.CommandFault.TheVariants as faults
use Rattle.cs_commands.specs.declared.word.Verb.{Verb}
use Rattle.cs_commands.specs.declared.word.Verb.TheVariants as verbs
use Rattle.cs_commands.specs.Outcomes.{◌>>=◌, or_fault, with_front}
use Rattle.cs_commands.specs.Words.{command_word}
use Rattle.cs_commands.specs.Names.{text, number_below}
use Rattle.cs_commands.specs.Live.{Scope, sort_at, new_sort, new_symbol}
use Rattle.cs_commands.specs.Building.{is_bool, if_sorted}
use Rattle.cs_commands.specs.Terms.{term_from}

-- ---- single tokens

-- in a command that is known, what stands in another's place is a wrong form
abbrev pub symbol_at : List Token → Result (List ℕ × List Token) CommandFault
symbol_at [] = Err faults.Sort
symbol_at (t ∷ ts) = or_fault faults.Sort (symbol_in t) >>= λ x. Ok (x, ts)

abbrev pub keyword_in : Token → Option (List ℕ)
keyword_in (Atom kinds.Keyword x) = Some x
keyword_in t = None

abbrev pub keyword_at : List Token → Result (List ℕ × List Token) CommandFault
keyword_at [] = Err faults.Sort
keyword_at (t ∷ ts) = or_fault faults.Sort (keyword_in t) >>= λ x. Ok (x, ts)

abbrev pub numeral_in : Token → Option (List ℕ)
numeral_in (Atom kinds.Numeral x) = Some x
numeral_in t = None

abbrev pub numeral_at : List Token → Result (List ℕ × List Token) CommandFault
numeral_at [] = Err faults.Sort
numeral_at (t ∷ ts) = or_fault faults.Sort (numeral_in t) >>= λ x. Ok (x, ts)

abbrev pub open_at : List Token → Result (List Token) CommandFault
open_at (Open ∷ ts) = Ok ts
open_at ts = Err faults.Sort

-- the parenthesis that closes the command
abbrev pub ended : Command → List Token → Result Command CommandFault
ended c (Close ∷ []) = Ok c
ended c ts = Err faults.Sort

-- ---- declarations

abbrev pub sort_in : Scope → Token → Result Sort CommandFault
sort_in scope t = or_fault faults.Sort (symbol_in t) >>= sort_at scope

-- the sorts to a closing parenthesis
abbrev pub sorts_at : Scope → List Token → Result (List Sort × List Token) CommandFault
sorts_at scope [] = Err faults.Sort
sorts_at scope (Close ∷ ts) = Ok ([], ts)
sorts_at scope (t ∷ ts) = sort_in scope t >>= λ a. with_front (a ∷ []) (sorts_at scope ts)

abbrev pub declared : Symbol → List Sort → Sort → Command
declared f takes gives = DeclareFun (record { symbol = f; takes = takes; gives = gives })

abbrev pub declare_fun : Scope → List Token → Result Command CommandFault
declare_fun scope ts =
    symbol_at ts >>= λ name.
    new_symbol scope name.0 >>= λ f.
    open_at name.1 >>= λ within.
    sorts_at scope within >>= λ takes.
    symbol_at takes.1 >>= λ last.
    sort_at scope last.0 >>= λ gives.
    ended (declared f takes.0 gives) last.1

-- a sort with parameters is declared by another command
abbrev pub if_none : ℕ → Command → Result Command CommandFault
if_none zero c = Ok c
if_none (suc n) c = Err faults.Unsupported

abbrev pub declare_sort : Scope → List Token → Result Command CommandFault
declare_sort scope ts =
    symbol_at ts >>= λ x.
    new_sort scope x.0 >>= λ name.
    numeral_at x.1 >>= λ last.
    or_fault faults.Wide (number_below (2 ^ 127) last.0) >>= λ arity.
    ended (DeclareSort name) last.1 >>= λ c.
    if_none arity c

-- ---- the other commands

-- what stands behind some lists, of which so many are open
abbrev pub behind_lists : ℕ → List Token → Result (List Token) CommandFault
behind_lists zero ts = Ok ts
behind_lists (suc n) [] = Err faults.Sort
behind_lists (suc n) (t ∷ ts) = behind_lists (after (suc n) t) ts

abbrev pub is_true : Kind → List ℕ → Bool
is_true kinds.Symbol x = bytes_eq x (codes "true")
is_true kind x = false

-- an option's value, whether it is the word true: any atom but a keyword, or any list
abbrev pub value_at : List Token → Result (Bool × List Token) CommandFault
value_at [] = Err faults.Sort
value_at (Open ∷ ts) = behind_lists 1 ts >>= λ rest. Ok (false, rest)
value_at (Close ∷ ts) = Err faults.Sort
value_at (Atom kinds.Keyword x ∷ ts) = Err faults.Sort
value_at (Atom kind x ∷ ts) = Ok (is_true kind x, ts)

-- any option
abbrev pub set_option : List Token → Result Command CommandFault
set_option ts =
    keyword_at ts >>= λ x.
    text x.0 >>= λ keyword.
    value_at x.1 >>= λ value.
    ended (SetOption keyword value.0) value.1

abbrev pub set_logic : List Token → Result Command CommandFault
set_logic ts =
    symbol_at ts >>= λ x.
    text x.0 >>= λ name.
    ended (SetLogic name) x.1

-- a term of sort Bool
abbrev pub assertion : Scope → List Token → Result Command CommandFault
assertion scope ts =
    term_from scope [] ts >>= λ t.
    if_sorted (is_bool t.0) t.0 >>= λ u.
    ended (Assert u) t.1

-- a count of levels
abbrev pub levels : (ℕ → Command) → List Token → Result Command CommandFault
levels make ts =
    numeral_at ts >>= λ x.
    or_fault faults.Levels (number_below (2 ^ 32) x.0) >>= λ n.
    ended (make n) x.1

abbrev pub command_of : Scope → Verb → List Token → Result Command CommandFault
command_of scope verbs.SetOption ts = set_option ts
command_of scope verbs.SetLogic ts = set_logic ts
command_of scope verbs.DeclareSort ts = declare_sort scope ts
command_of scope verbs.DeclareFun ts = declare_fun scope ts
command_of scope verbs.Assert ts = assertion scope ts
command_of scope verbs.Push ts = levels Push ts
command_of scope verbs.Pop ts = levels Pop ts
command_of scope verbs.CheckSat ts = ended CheckSat ts
command_of scope verbs.GetProof ts = ended GetProof ts
command_of scope verbs.Exit ts = ended Exit ts
command_of scope verbs.Other ts = Err faults.Unsupported

-- what begins with no word is no command that is known
abbrev pub verb_at : List Token → Result (Verb × List Token) CommandFault
verb_at (Open ∷ t ∷ ts) = or_fault faults.Unsupported (symbol_in t) >>= λ x. Ok (command_word x, ts)
verb_at ts = Err faults.Unsupported

-- the command that the tokens are
abbrev pub understood : Scope → List Token → Result Command CommandFault
understood scope ts = verb_at ts >>= λ verb. command_of scope verb.0 verb.1
