-- That names are spelled.
use Rattle.std.specs.Prelude.{ℕ, ⊤, List}
use Rattle.vx_ast.specs.Syntax.{Program}
use Rattle.vx_terms.specs.Build.{negate}
use Rattle.vx_terms.specs.Interpretations.{Each}
use Rattle.vx_smt_meaning.specs.Commands.{Declared}
use Rattle.vx_smt_meaning.specs.Names.{AreNames, AreCommands}
use Rattle.vx_dialogue.specs.Preamble.{declarations}
use Rattle.vx_dialogue.specs.Symbols.{symbols_of}
use Rattle.vx_rules.specs.Trees.{Question, Tree, End, Impossible, On, Step, Ask, Probe, Fork}
use Rattle.vx_machine.specs.Runs.{member_tree}

-- each name in the declarations of these symbols is spelled as a symbol
abbrev pub AreSpelled : List Declared → Type 0
AreSpelled functions = AreCommands (declarations functions)

-- each name in a question is spelled as a symbol: in the declarations of its symbols, in its path and in its negated condition
pub record IsSpelled (q : Question) : Type 0 where
  pub declared : AreCommands (declarations (symbols_of q.path (negate q.condition)))
  pub path : Each AreNames q.path
  pub negated : AreNames (negate q.condition)

abbrev pub AllSpelled : Tree → Type 0
AllSpelled End = ⊤
AllSpelled (Impossible s) = ⊤
AllSpelled (On t s) = ⊤
AllSpelled (Step t) = AllSpelled t
AllSpelled (Ask q t) = IsSpelled q × AllSpelled t
AllSpelled (Probe q a b) = IsSpelled q × AllSpelled a × AllSpelled b
AllSpelled (Fork a b) = AllSpelled a × AllSpelled b

-- so it is with the questions of each member
abbrev pub AsksSpelled : Program → Type 0
AsksSpelled p = (n : ℕ) → AllSpelled (member_tree p n)
