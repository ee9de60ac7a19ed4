-- Where each symbol and each sort is looked up alike, the same is understood.
use Rattle.std.proofs.Common.{◌≡◌, ℕ, ◌^◌, List, [], ◌∷◌, Ok, Err, refl}
use Rattle.std.specs.Prelude.{if◌then◌else◌}
use Rattle.vx_sexp.specs.declared.token.Kind.{Kind}
use Rattle.vx_sexp.specs.declared.token.Kind.TheVariants as kinds
use Rattle.vx_sexp.specs.declared.token.Token.{Token}
use Rattle.vx_sexp.specs.declared.token.Token.TheVariants.{Open, Close, Atom}
use Rattle.vx_terms.specs.Sorts.{Sort}
use Rattle.vx_smt_meaning.specs.Commands.{DeclareSort, Assert}
use Rattle.cs_reader.specs.Spelling.{symbol_in}
use Rattle.cs_commands.specs.declared.fault.CommandFault.TheVariants as faults
use Rattle.cs_commands.specs.declared.word.Word.{Word}
use Rattle.cs_commands.specs.declared.word.Word.TheVariants as words
use Rattle.cs_commands.specs.declared.word.Verb.{Verb}
use Rattle.cs_commands.specs.declared.word.Verb.TheVariants as verbs
use Rattle.cs_commands.specs.Outcomes.{◌>>=◌, or_fault, where_so, with_front}
use Rattle.cs_commands.specs.Words.{term_word}
use Rattle.cs_commands.specs.Names.{text, number_below, symbol_named, sort_named}
use Rattle.cs_commands.specs.Live.{Scope, declaration, known_sort, sort_at, new_sort, if_free, new_symbol}
use Rattle.cs_commands.specs.Heads.{symbol_head, head_of, head_at}
use Rattle.cs_commands.specs.Building.{is_bool, if_sorted}
use Rattle.cs_commands.specs.Terms.{if_declared, alone, leaf, is_decimal, Frame, opened, placed, closed, go_on, term_from}
use Rattle.cs_commands.specs.Commands.{symbol_at, numeral_at, open_at, ended, sort_in, sorts_at, declared, declare_fun, if_none, declare_sort, assertion, command_of, verb_at, understood}
use Rattle.cs_commands.specs.Following.{LooksAlike, UnderstoodAlike}

module _ (s u : Scope) (same : LooksAlike s u) where
  -- ---- names

  declaration_alike : (x : List ℕ) → declaration s x ≡ declaration u x
  declaration_alike x = λ i. text x >>= λ name. Ok (same.symbols (symbol_named name) i)

  known_alike : (a : Sort) → known_sort s a ≡ known_sort u a
  known_alike a = λ i. where_so faults.Name (same.sorts a i) a

  sort_alike : (x : List ℕ) → sort_at s x ≡ sort_at u x
  sort_alike x = λ i. text x >>= λ name. known_alike (sort_named name) i

  new_sort_alike : (x : List ℕ) → new_sort s x ≡ new_sort u x
  new_sort_alike x = λ i. text x >>= λ name. (if same.sorts (sort_named name) i then Err faults.Name else Ok name)

  new_symbol_alike : (x : List ℕ) → new_symbol s x ≡ new_symbol u x
  new_symbol_alike x = λ i. text x >>= λ name. if_free (term_word name) (symbol_named name) (same.symbols (symbol_named name) i)

  -- ---- terms

  head_of_alike : (x : List ℕ) (w : Word) → head_of s x w ≡ head_of u x w
  head_of_alike x words.Name = λ i. declaration_alike x i >>= symbol_head
  head_of_alike x w = refl

  head_alike : (t : Token) → head_at s t ≡ head_at u t
  head_alike t = λ i. or_fault faults.Name (symbol_in t) >>= λ x. head_of_alike x (term_word x) i

  alone_alike : (x : List ℕ) (w : Word) → alone s x w ≡ alone u x w
  alone_alike x words.Name = λ i. declaration_alike x i >>= if_declared
  alone_alike x w = refl

  leaf_alike : (kind : Kind) (x : List ℕ) → leaf s kind x ≡ leaf u kind x
  leaf_alike kinds.Symbol x = alone_alike x (term_word x)
  leaf_alike kind x = refl

  term_alike : (fs : List Frame) (ts : List Token) → term_from s fs ts ≡ term_from u fs ts
  term_alike fs [] = refl
  term_alike fs (Open ∷ []) = refl
  term_alike fs (Open ∷ t ∷ ts) = λ i. head_alike t i >>= λ h. term_alike (opened h ∷ fs) ts i
  term_alike fs (Close ∷ ts) = λ i. closed fs >>= λ p. go_on p ts (λ gs. term_alike gs ts i)
  term_alike fs (Atom kind x ∷ ts) = λ i. leaf_alike kind x i >>= λ t. go_on (placed (is_decimal kind) t fs) ts (λ gs. term_alike gs ts i)

  -- ---- commands

  sort_in_alike : (t : Token) → sort_in s t ≡ sort_in u t
  sort_in_alike t = λ i. or_fault faults.Sort (symbol_in t) >>= λ x. sort_alike x i

  sorts_alike : (ts : List Token) → sorts_at s ts ≡ sorts_at u ts
  sorts_alike [] = refl
  sorts_alike (Close ∷ ts) = refl
  sorts_alike (t ∷ ts) = λ i. sort_in_alike t i >>= λ a. with_front (a ∷ []) (sorts_alike ts i)

  function_alike : (ts : List Token) → declare_fun s ts ≡ declare_fun u ts
  function_alike ts = λ i.
      symbol_at ts >>= λ name. new_symbol_alike name.0 i >>= λ f. open_at name.1 >>= λ within. sorts_alike within i >>= λ takes.
      symbol_at takes.1 >>= λ last. sort_alike last.0 i >>= λ gives. ended (declared f takes.0 gives) last.1

  new_alike : (ts : List Token) → declare_sort s ts ≡ declare_sort u ts
  new_alike ts = λ i.
      symbol_at ts >>= λ x. new_sort_alike x.0 i >>= λ name. numeral_at x.1 >>= λ last. or_fault faults.Wide (number_below (2 ^ 127) last.0) >>= λ arity.
      ended (DeclareSort name) last.1 >>= λ c. if_none arity c

  assertion_alike : (ts : List Token) → assertion s ts ≡ assertion u ts
  assertion_alike ts = λ i. term_alike [] ts i >>= λ t. if_sorted (is_bool t.0) t.0 >>= λ v. ended (Assert v) t.1

  command_alike : (v : Verb) (ts : List Token) → command_of s v ts ≡ command_of u v ts
  command_alike verbs.DeclareSort ts = new_alike ts
  command_alike verbs.DeclareFun ts = function_alike ts
  command_alike verbs.Assert ts = assertion_alike ts
  command_alike v ts = refl

  understood_same : (ts : List Token) → understood s ts ≡ understood u ts
  understood_same ts = λ i. verb_at ts >>= λ verb. command_alike verb.0 verb.1 i

pub understood_alike : UnderstoodAlike
understood_alike s u tokens same = understood_same s u same tokens
