-- Turns whose script is well formed.
use Rattle.std.specs.Prelude.{◌≡◌, ⊤, ℕ, List, [], ◌∷◌}
use Rattle.vx_terms.specs.Sorts.{Sort, IntSort, BoolSort, RealSort, RefSort, SnapSort, OtherSort}
use Rattle.vx_terms.specs.Terms.{Term, sort_of}
use Rattle.vx_terms.specs.Build.{negate}
use Rattle.vx_terms.specs.Interpretations.{Each}
use Rattle.vx_smt_meaning.specs.Over.{IsOver}
use Rattle.vx_smt_meaning.specs.Standard.{standard_symbols}
use Rattle.vx_dialogue.specs.Turns.{Turn, Asks, Posts, Leaves}

-- one of the five sorts that every dialogue knows
abbrev pub IsOfFive : Sort → Type 0
IsOfFive IntSort = ⊤
IsOfFive BoolSort = ⊤
IsOfFive RealSort = ⊤
IsOfFive RefSort = ⊤
IsOfFive SnapSort = ⊤
IsOfFive (OtherSort x) = ⊥

-- A question over the standard symbols and symbols v, each v at one sort, which is one of the five; and what it asserts is of sort Bool.
pub record IsAskable (path : List Term) (condition : Term) : Type 0 where
  pub sorts : ℕ → Sort
  pub five : (n : ℕ) → IsOfFive (sorts n)
  pub path_over : Each (IsOver standard_symbols sorts) path
  pub over : IsOver standard_symbols sorts condition
  pub path_bool : Each (λ (t : Term). sort_of t ≡ BoolSort) path
  pub bool : sort_of (negate condition) ≡ BoolSort

-- Each question of these turns is so; one without a reply is the last.
abbrev pub AreTurns : (List Term → Term → Type 0) → List Turn → Type 0
AreTurns P [] = ⊤
AreTurns P (Asks path condition ∷ turns) = P path condition × AreTurns P turns
AreTurns P (Posts path condition ∷ turns) = P path condition × (turns ≡ [])
AreTurns P (Leaves ∷ turns) = AreTurns P turns

-- all questions of these turns are askable
abbrev pub AreAskable : List Turn → Type 0
AreAskable = AreTurns IsAskable
