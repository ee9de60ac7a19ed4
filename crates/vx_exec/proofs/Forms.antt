-- What was made, by what it stands for, and a step from what has one form.
use Rattle.std.proofs.Common.{◌≡◌, Result, IfOk, List, ap, subst}
use Rattle.vx_ast.specs.Syntax.{Program}
use Rattle.vx_resolved.specs.declared.Block as block'
use Rattle.vx_resolved.specs.declared.Stmt as stmt'
use Rattle.vx_resolved.specs.Resolved.{block, stmt}
use Rattle.vx_terms.specs.Terms.{Term}
use Rattle.vx_rules.specs.States.{State}
use Rattle.vx_rules.specs.Rules.{Giving, Going}
use Rattle.vx_rules.specs.Members.{exec, exec_all, rules}
use Rattle.vx_stack.specs.declared.waiting.Executed.{Executed}
use Rattle.vx_stack.specs.declared.frame.Hole.{Hole}
use Rattle.vx_stack.specs.declared.frame.Next.{Next}
use Rattle.vx_stack.specs.declared.frame.Side.{Side}
use Rattle.vx_stack.specs.declared.conts.Move.{Move}
use Rattle.vx_stack.specs.Stack.{executed, giving, going, Stepped}
use Rattle.vx_stack.proofs.Steps.{stepped_as}

pub gives_as : {E : Type 0} (p : Program) (r : Result Hole E) (k on : Giving) → k ≡ on → IfOk r (λ x. giving p x ≡ k) → IfOk r (λ x. giving p x ≡ on)
gives_as p r k on e h = subst (λ g. IfOk r (λ x. giving p x ≡ g)) e h

pub goes_as : {E : Type 0} (p : Program) (r : Result Next E) (k on : Going) → k ≡ on → IfOk r (λ x. going p x ≡ k) → IfOk r (λ x. going p x ≡ on)
goes_as p r k on e h = subst (λ g. IfOk r (λ x. going p x ≡ g)) e h

pub stmt_is : {E : Type 0} (p : Program) (r : Result Move E) (c d : stmt'.Stmt) (s : State) (on : Going) (old new : List Side) → c ≡ d →
    IfOk r (λ m. Stepped p (exec p (rules p) (stmt d) s on) old m new) → IfOk r (λ m. Stepped p (exec p (rules p) (stmt c) s on) old m new)
stmt_is p r c d s on old new e h = stepped_as p r _ _ old new (ap (λ y. exec p (rules p) (stmt y) s on) e) h

pub block_is : {E : Type 0} (p : Program) (r : Result Move E) (b d : block'.Block) (s : State) (on : Going) (old new : List Side) → b ≡ d →
    IfOk r (λ m. Stepped p (exec_all p (rules p) (block d) s on) old m new) → IfOk r (λ m. Stepped p (exec_all p (rules p) (block b) s on) old m new)
block_is p r b d s on old new e h = stepped_as p r _ _ old new (ap (λ y. exec_all p (rules p) (block y) s on) e) h

pub executed_is : {E : Type 0} (p : Program) (r : Result Move E) (x y : Executed) (on : Going) (t : Term) (s : State) (old new : List Side) → x ≡ y →
    IfOk r (λ m. Stepped p (executed p y on t s) old m new) → IfOk r (λ m. Stepped p (executed p x on t s) old m new)
executed_is p r x y on t s old new e h = stepped_as p r _ _ old new (ap (λ z. executed p z on t s) e) h
