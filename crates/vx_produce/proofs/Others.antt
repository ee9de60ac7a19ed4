-- What stands in another member is produced as by the rules over themselves.
use Rattle.std.proofs.Common.{◌≡◌, Option, refl, sym, ap, ◌∙◌}
use Rattle.vx_ast.specs.Syntax.{Program, Assertion}
use Rattle.vx_terms.specs.Terms.{Term}
use Rattle.vx_heap.specs.Views.{held_term}
use Rattle.vx_rules.specs.States.{State}
use Rattle.vx_rules.specs.Rules.{Going, produce}
use Rattle.vx_rules.specs.Members.{rules}
use Rattle.vx_depth.specs.Depths.{ReadsItself}
use Rattle.vx_states.specs.SymStates.{optional_term}
use Rattle.vx_stack.specs.declared.waiting.Production.{Production}
use Rattle.vx_stack.specs.Stack.{producing}

pub part_produced : (p : Program) (a b : Assertion) (scale : Term) (snapshot : Option Term) (z y : State) (x : Production) (on other : Going) → ReadsItself p z.level →
    b ≡ a → held_term x.scale ≡ scale → optional_term x.snapshot ≡ snapshot → y ≡ z → ((w : State) → on w ≡ other w) → (rules p).produce a scale snapshot z on ≡ producing p b x y other
part_produced p a b scale snapshot z y x on other reads e f g h same =
    reads.produce a scale snapshot z refl on other (λ w l. same w)
    ∙ sym (ap (λ k. produce p (rules p) k (held_term x.scale) (optional_term x.snapshot) y other) e
    ∙ ap (λ k. produce p (rules p) a k (optional_term x.snapshot) y other) f
    ∙ ap (λ k. produce p (rules p) a scale k y other) g
    ∙ ap (λ k. produce p (rules p) a scale snapshot k other) h)
