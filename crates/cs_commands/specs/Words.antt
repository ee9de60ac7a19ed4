-- The words of terms and of commands.
use Rattle.std.specs.Prelude.{ℕ, Bool, true, false, if◌then◌else◌, List, codes}
use Rattle.std.specs.Str.{bytes_eq}
use Rattle.vx_terms.specs.declared.term.Operator.TheVariants as operators
use Rattle.cs_commands.specs.declared.word.Word.{Word}
use Rattle.cs_commands.specs.declared.word.Word.TheVariants as words
use Rattle.cs_commands.specs.declared.word.Verb.{Verb}
use Rattle.cs_commands.specs.declared.word.Verb.TheVariants as verbs

abbrev pub operator_word : List ℕ → Word
operator_word text =
    if bytes_eq text (codes "and") then words.Operator operators.And else (
    if bytes_eq text (codes "or") then words.Operator operators.Or else (
    if bytes_eq text (codes "=>") then words.Operator operators.Implies else (
    if bytes_eq text (codes "=") then words.Operator operators.Equal else (
    if bytes_eq text (codes "<") then words.Operator operators.Less else (
    if bytes_eq text (codes "<=") then words.Operator operators.LessEqual else (
    if bytes_eq text (codes "+") then words.Operator operators.Add else (
    if bytes_eq text (codes "*") then words.Operator operators.Multiply else (
    if bytes_eq text (codes "div") then words.Operator operators.Div else (
    if bytes_eq text (codes "mod") then words.Operator operators.Mod else (
    words.Name))))))))))

-- what a word of a term is
abbrev pub term_word : List ℕ → Word
term_word text =
    if bytes_eq text (codes "true") then words.Truth true else (
    if bytes_eq text (codes "false") then words.Truth false else (
    if bytes_eq text (codes "not") then words.Not else (
    if bytes_eq text (codes "ite") then words.Ite else (
    if bytes_eq text (codes "-") then words.Minus else (
    if bytes_eq text (codes "/") then words.Slash else (
    operator_word text))))))

-- which command a word begins
abbrev pub command_word : List ℕ → Verb
command_word text =
    if bytes_eq text (codes "set-option") then verbs.SetOption else (
    if bytes_eq text (codes "set-logic") then verbs.SetLogic else (
    if bytes_eq text (codes "declare-sort") then verbs.DeclareSort else (
    if bytes_eq text (codes "declare-fun") then verbs.DeclareFun else (
    if bytes_eq text (codes "assert") then verbs.Assert else (
    if bytes_eq text (codes "push") then verbs.Push else (
    if bytes_eq text (codes "pop") then verbs.Pop else (
    if bytes_eq text (codes "check-sat") then verbs.CheckSat else (
    if bytes_eq text (codes "get-proof") then verbs.GetProof else (
    if bytes_eq text (codes "exit") then verbs.Exit else (
    verbs.Other))))))))))
