-- What a loop leads to, by its parts.
use Rattle.std.proofs.Common.{◌≡◌, ℕ, None, [], ap, ◌∙◌}
use Rattle.vx_ast.specs.Syntax.{Program, Expr, Assertion, Block, assigned_in}
use Rattle.vx_resolved.specs.Resolved.{expr, assertion, block}
use Rattle.vx_terms.specs.Build.{negate, whole_amount}
use Rattle.vx_rules.specs.States.{State, leave, with_branch, with_heap}
use Rattle.vx_rules.specs.Trees.{EntryCode, KeptCode, Tree, End, Step, Fork}
use Rattle.vx_rules.specs.Rules.{Giving, Going, eval, produce, consume}
use Rattle.vx_rules.specs.Members.{codes, exec_all, forget, rules}
use Rattle.vx_stack.specs.declared.waiting.Loop.{Loop}
use Rattle.vx_stack.specs.Stack.{forgotten, from_invariant, iterated}

-- both sides, once the invariant was taken
abbrev pub entered : Program → Loop → ℕ → Going → Giving
entered p l kept on t s =
    Fork
    (from_invariant p l (with_heap [] (forgotten p l s)) (iterated p l kept))
    (from_invariant p l (forgotten p l s) (λ u s1. Step (on (with_branch (negate u) s1))))

abbrev pub looped : Program → Expr → Assertion → Block → ℕ → State → Going → Tree
looped p c a b kept s on =
    Step (consume p (rules p) a (codes EntryCode EntryCode) whole_amount s.heap s (λ t s1.
    Fork
    (produce p (rules p) a whole_amount None (with_heap [] (forget [] (assigned_in b) s1)) (λ s2. eval p (rules p) c s2 (λ u s3.
    exec_all p (rules p) b (with_branch u s3) (λ s4.
    let s5 = leave kept s4 in
    consume p (rules p) a (codes KeptCode KeptCode) whole_amount s5.heap s5 (λ v s6. End)))))
    (produce p (rules p) a whole_amount None (forget [] (assigned_in b) s1) (λ s2. eval p (rules p) c s2 (λ u s3. Step (on (with_branch (negate u) s3)))))))

pub loops : (p : Program) (l : Loop) (c : Expr) (a : Assertion) (b : Block) (n kept : ℕ) (s : State) (on : Going) → expr l.condition.value ≡ c → assertion l.invariant.value ≡ a → block l.body.value ≡ b → n ≡ kept →
    looped p (expr l.condition.value) (assertion l.invariant.value) (block l.body.value) n s on ≡ looped p c a b kept s on
loops p l c a b n kept s on e f g h =
    ap (λ x. looped p x (assertion l.invariant.value) (block l.body.value) n s on) e ∙ ap (λ x. looped p c x (block l.body.value) n s on) f
    ∙ ap (λ x. looped p c a x n s on) g ∙ ap (λ x. looped p c a b x s on) h
