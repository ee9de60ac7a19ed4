-- Both blocks of an `if`, by their parts.
use Rattle.std.proofs.Common.{◌≡◌, ℕ, ap, ◌∙◌}
use Rattle.vx_ast.specs.Syntax.{Program, Block}
use Rattle.vx_rules.specs.States.{leave}
use Rattle.vx_rules.specs.Rules.{Giving, Going, fork}
use Rattle.vx_rules.specs.Members.{exec_all, rules}

-- both blocks of an if, and what is behind it
abbrev pub branched : Program → Block → Block → ℕ → Going → Giving
branched p a b kept on t s =
    fork t s (λ s1. exec_all p (rules p) a s1 (λ s2. on (leave kept s2))) (λ s1. exec_all p (rules p) b s1 (λ s2. on (leave kept s2)))

pub branches : (p : Program) (a b d e : Block) (j k : ℕ) (n on : Going) → a ≡ d → b ≡ e → j ≡ k → n ≡ on → ◌≡◌ {A = Giving} (branched p a b j n) (branched p d e k on)
branches p a b d e j k n on f g h i =
    ap {B = Giving} (λ (y : Block). branched p y b j n) f ∙ ap {B = Giving} (λ (y : Block). branched p d y j n) g
    ∙ ap {B = Giving} (λ (y : ℕ). branched p d e y n) h ∙ ap {B = Giving} (λ (y : Going). branched p d e k y) i
