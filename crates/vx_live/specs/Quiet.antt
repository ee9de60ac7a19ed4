-- What a quiet evaluation leaves.
use Rattle.std.specs.Prelude.{◌≡◌, ℕ, true, List, ◌++◌, Some}
use Rattle.vx_ast.specs.Syntax.{Program, Expr, Assertion}
use Rattle.vx_terms.specs.Terms.{Term}
use Rattle.vx_terms.specs.Interpretations.{Each}
use Rattle.vx_rules.specs.States.{State, Entry, is_quiet}
use Rattle.vx_rules.specs.Trees.{On, Left, leaves}
use Rattle.vx_rules.specs.Rules.{outer}

-- no symbol and no level more, and only further entries of the path
pub record Still (s t : State) : Type 0 where
  pub next : t.next ≡ s.next
  pub level : t.level ≡ s.level
  pub path : (added : List Entry) × (t.path ≡ s.path ++ added)

-- so each side of an expression is left, under an assertion that is produced with a snapshot
abbrev pub QuietLaw : Type 0
QuietLaw =
    (p : Program) (n : ℕ) (a : Assertion) (e : Expr) (scale snapshot : Term) (s : State) → is_quiet s ≡ true →
    Each (λ (l : Left). Still s l.state) (leaves ((outer p n).produce a scale (Some snapshot) s (λ t. (outer p n).eval e t On)))
