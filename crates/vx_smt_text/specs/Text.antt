-- The text of a command.
use Rattle.std.specs.Prelude.{ℕ, zero, suc, ◌+◌, ℤ, pos, negsuc, true, false, List, [], ◌∷◌, ◌++◌, codes}
use Rattle.vx_terms.specs.Sorts.{Sort}
use Rattle.vx_terms.specs.Terms.{Term, Truth, Number, Part, Constant, Apply, Not, Binary, Ite, AllOf, SomeOf, Terms, NoTerms, MoreTerms}
use Rattle.vx_smt_meaning.specs.Commands.{Command, SetOption, SetLogic, DeclareSort, DeclareFun, Assert, Push, Pop, CheckSat, GetProof, Exit}
use Rattle.vx_smt_meaning.specs.Words.{numeral, decimal, sort_word, symbol_word, operator_word, truth_word}

abbrev pub signed_text : ℤ → (ℕ → List ℕ) → List ℕ
signed_text (pos n) f = f n
signed_text (negsuc n) f = codes "(- " ++ f (n + 1) ++ codes ")"

abbrev pub quotient_text : ℕ → ℕ → List ℕ
quotient_text p zero = decimal p
quotient_text p (suc d) = codes "(/ " ++ decimal p ++ codes " " ++ decimal (suc d + 1) ++ codes ")"

abbrev mutual
  pub term_text : Term → List ℕ
  term_text (Truth true) = codes "true"
  term_text (Truth false) = codes "false"
  term_text (Number z) = signed_text z numeral
  term_text (Part a) = signed_text a.numerator (λ p. quotient_text p a.below)
  term_text (Constant f a) = symbol_word f
  term_text (Apply f a ts) = codes "(" ++ symbol_word f ++ terms_text ts ++ codes ")"
  term_text (Not t) = codes "(not " ++ term_text t ++ codes ")"
  term_text (Binary o t u) = codes "(" ++ operator_word o ++ codes " " ++ term_text t ++ codes " " ++ term_text u ++ codes ")"
  term_text (Ite c t u) = codes "(ite " ++ term_text c ++ codes " " ++ term_text t ++ codes " " ++ term_text u ++ codes ")"
  term_text (AllOf ts) = codes "(and" ++ terms_text ts ++ codes ")"
  term_text (SomeOf ts) = codes "(or" ++ terms_text ts ++ codes ")"

  pub terms_text : Terms → List ℕ
  terms_text NoTerms = []
  terms_text (MoreTerms t ts) = codes " " ++ term_text t ++ terms_text ts

abbrev pub more_sorts : List Sort → List ℕ
more_sorts [] = []
more_sorts (a ∷ rest) = codes " " ++ sort_word a ++ more_sorts rest

-- with a blank between two
abbrev pub sorts_text : List Sort → List ℕ
sorts_text [] = []
sorts_text (a ∷ rest) = sort_word a ++ more_sorts rest

unfoldable pub set_option_head : List ℕ
set_option_head = codes "(set-option "

unfoldable pub set_logic_head : List ℕ
set_logic_head = codes "(set-logic "

unfoldable pub declare_sort_head : List ℕ
declare_sort_head = codes "(declare-sort "

unfoldable pub declare_fun_head : List ℕ
declare_fun_head = codes "(declare-fun "

-- a command up to its last parenthesis
abbrev pub front_text : Command → List ℕ
front_text (SetOption x b) = set_option_head ++ x ++ codes " " ++ truth_word b
front_text (SetLogic x) = set_logic_head ++ x
front_text (DeclareSort x) = declare_sort_head ++ x ++ codes " 0"
front_text (DeclareFun d) = declare_fun_head ++ symbol_word d.symbol ++ codes " (" ++ sorts_text d.takes ++ codes ") " ++ sort_word d.gives
front_text (Assert t) = codes "(assert " ++ term_text t
front_text (Push n) = codes "(push " ++ numeral n
front_text (Pop n) = codes "(pop " ++ numeral n
front_text CheckSat = codes "(check-sat"
front_text GetProof = codes "(get-proof"
front_text Exit = codes "(exit"

-- one command, and a line feed
abbrev pub command_text : Command → List ℕ
command_text c = front_text c ++ (41 ∷ 10 ∷ [])

abbrev pub commands_text : List Command → List ℕ
commands_text [] = []
commands_text (c ∷ cs) = command_text c ++ commands_text cs
