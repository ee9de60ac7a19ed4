-- S-expressions that are commands, and first faults of others.
use Rattle.std.specs.Prelude.{◌≡◌, ℕ, pos, negsuc, true, false, List, [], ◌∷◌, ◌++◌, codes, Ok, Err}
use Rattle.vx_sexp.specs.declared.token.Kind.TheVariants as kinds
use Rattle.vx_sexp.specs.declared.token.Token.{Token}
use Rattle.vx_sexp.specs.declared.token.Token.TheVariants.{Atom}
use Rattle.vx_terms.specs.Sorts.{IntSort, Named, Subtract, Equal}
use Rattle.vx_terms.specs.Terms.{Truth, Number, Constant, Binary, AllOf, NoTerms, MoreTerms}
use Rattle.vx_smt_meaning.specs.Commands.{SetOption, Assert, Push}
use Rattle.vx_smt_meaning.specs.Symbols.{declaration}
use Rattle.vx_smt_meaning.specs.Words.{word, listed}
use Rattle.cs_commands.specs.declared.fault.CommandFault.TheVariants as faults
use Rattle.cs_commands.specs.Live.{Scope}
use Rattle.cs_commands.specs.Commands.{understood}

abbrev none_declared : Scope
none_declared = record { symbols = []; sorts = [] }

-- a of sort Int
abbrev one_declared : Scope
one_declared = record { symbols = declaration (Named (codes "a")) [] IntSort ∷ []; sorts = [] }

abbrev digits : List ℕ → List Token
digits x = Atom kinds.Numeral x ∷ []

abbrev keyword : List ℕ → Token
keyword x = Atom kinds.Keyword x

abbrev asserted : List Token → List Token
asserted ts = listed (word (codes "assert") ∷ ts)

abbrev true_word : List Token
true_word = word (codes "true") ∷ []

pub record Examples : Type 0 where
  -- (push 2)
  pub push : understood none_declared (listed (word (codes "push") ∷ digits (codes "2"))) ≡ Ok (Push 2)
  -- (assert (and true true true))
  pub conjunction : understood none_declared (asserted (listed (word (codes "and") ∷ true_word ++ true_word ++ true_word)))
      ≡ Ok (Assert (AllOf (MoreTerms (Truth true) (MoreTerms (Truth true) (MoreTerms (Truth true) NoTerms)))))
  -- (assert (= (- 1) (- a 1))), where a is of sort Int
  pub equation : understood one_declared (asserted (listed (word (codes "=") ∷ listed (word (codes "-") ∷ digits (codes "1")) ++ listed (word (codes "-") ∷ word (codes "a") ∷ digits (codes "1")))))
      ≡ Ok (Assert (Binary Equal (Number (negsuc 0)) (Binary Subtract (Constant (Named (codes "a")) IntSort) (Number (pos 1)))))
  -- (assert 1)
  pub no_bool : understood none_declared (asserted (digits (codes "1"))) ≡ Err faults.Sort
  -- (assert zz)
  pub unknown_name : understood none_declared (asserted (word (codes "zz") ∷ [])) ≡ Err faults.Name
  -- (assert (xor true true))
  pub unknown_operator : understood none_declared (asserted (listed (word (codes "xor") ∷ true_word ++ true_word))) ≡ Err faults.Name
  -- (assert (< 170141183460469231731687303715884105728 0))
  pub wide : understood none_declared (asserted (listed (word (codes "<") ∷ digits (codes "170141183460469231731687303715884105728") ++ digits (codes "0")))) ≡ Err faults.Wide
  -- (assert (not 1 zz)): the list is read to its end before it is sorted
  pub name_before_sort : understood none_declared (asserted (listed (word (codes "not") ∷ digits (codes "1") ++ word (codes "zz") ∷ []))) ≡ Err faults.Name
  -- (assert (and (not 1) zz))
  pub sort_before_name : understood none_declared (asserted (listed (word (codes "and") ∷ listed (word (codes "not") ∷ digits (codes "1")) ++ word (codes "zz") ∷ []))) ≡ Err faults.Sort
  -- (declare-sort Int 0)
  pub taken_sort : understood none_declared (listed (word (codes "declare-sort") ∷ word (codes "Int") ∷ digits (codes "0"))) ≡ Err faults.Name
  -- (push 4294967296)
  pub levels : understood none_declared (listed (word (codes "push") ∷ digits (codes "4294967296"))) ≡ Err faults.Levels
  -- (set-option :seed 7): any option, with any value
  pub option : understood none_declared (listed (word (codes "set-option") ∷ keyword (codes ":seed") ∷ digits (codes "7"))) ≡ Ok (SetOption (codes ":seed") false)
  -- (set-option :note (a (b) c))
  pub option_of_list : understood none_declared (listed (word (codes "set-option") ∷ keyword (codes ":note") ∷ listed (word (codes "a") ∷ listed (word (codes "b") ∷ []) ++ word (codes "c") ∷ [])))
      ≡ Ok (SetOption (codes ":note") false)
  -- wrong forms: (set-option :note), (assert), (assert true true), (check-sat 1), (push), (push x), (declare-sort S), (declare-fun f Int)
  pub no_value : understood none_declared (listed (word (codes "set-option") ∷ keyword (codes ":note") ∷ [])) ≡ Err faults.Sort
  pub nothing_asserted : understood none_declared (asserted []) ≡ Err faults.Sort
  pub two_asserted : understood none_declared (asserted (true_word ++ true_word)) ≡ Err faults.Sort
  pub check_of_one : understood none_declared (listed (word (codes "check-sat") ∷ digits (codes "1"))) ≡ Err faults.Sort
  pub no_count : understood none_declared (listed (word (codes "push") ∷ [])) ≡ Err faults.Sort
  pub count_by_name : understood none_declared (listed (word (codes "push") ∷ word (codes "x") ∷ [])) ≡ Err faults.Sort
  pub no_arity : understood none_declared (listed (word (codes "declare-sort") ∷ word (codes "S") ∷ [])) ≡ Err faults.Sort
  pub no_list_of_sorts : understood none_declared (listed (word (codes "declare-fun") ∷ word (codes "f") ∷ word (codes "Int") ∷ [])) ≡ Err faults.Sort
  -- other commands: (declare-sort S 4294967296), (frobnicate), ()
  pub sort_of_arity : understood none_declared (listed (word (codes "declare-sort") ∷ word (codes "S") ∷ digits (codes "4294967296"))) ≡ Err faults.Unsupported
  pub other_command : understood none_declared (listed (word (codes "frobnicate") ∷ [])) ≡ Err faults.Unsupported
  pub no_word : understood none_declared (listed []) ≡ Err faults.Unsupported
