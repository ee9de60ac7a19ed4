-- The variables that a block leaves.
use Rattle.std.proofs.Common.{◌≡◌, ◌∙◌, ap, sym, refl, subst, ℕ, List, [], ◌++◌, take, length, append_assoc, append-nil, Bor}
use Rattle.std.proofs.Math.Seq.{take-append_seam}
use Rattle.std.proofs.lemmas.List.{take-map, length-map}
use Rattle.vx_ast.specs.Written.{Name, Stmt, Declare, Assign, Write, Invoke, Inhale, Exhale, Assert, Assume, Fold, Unfold, If, While}
use Rattle.vx_expressions.specs.Scopes.{Scope}
use Rattle.vx_expressions.specs.declared.setting.Variable.{Variable}
use Rattle.vx_expressions.specs.Views.{known}
use Rattle.vx_statements.specs.Blocks.{Extends}
use Rattle.vx_statements.specs.Statements.{scope_after}

-- the first ones are those that were there
pub left : (before after : List (Bor Name × Variable)) (n : ℕ) → n ≡ length before → Extends (known before) (known after) → known (take n after) ≡ known before
left before after n is (added, h) =
    sym (take-map (λ (e : Bor Name × Variable). (e.0.now, e.1)) n after) ∙ ap (λ vs. take n vs) h
    ∙ ap (λ k. take k (known before ++ added)) (is ∙ sym (length-map before (λ (e : Bor Name × Variable). (e.0.now, e.1)))) ∙ take-append_seam (known before) added

stays : (scope : Scope) → Extends scope scope
stays scope = ([], sym (append-nil scope))

stays_after : (st : Stmt) (scope : Scope) → Extends scope (scope_after st scope)
stays_after (Declare at d r) scope = (_, refl)
stays_after (Assign at x r) scope = stays scope
stays_after (Write at e f e') scope = stays scope
stays_after (Invoke at xs m es) scope = stays scope
stays_after (Inhale at e) scope = stays scope
stays_after (Exhale at e) scope = stays scope
stays_after (Assert at e) scope = stays scope
stays_after (Assume at e) scope = stays scope
stays_after (Fold at i es share) scope = stays scope
stays_after (Unfold at i es share) scope = stays scope
stays_after (If at c a b) scope = stays scope
stays_after (While at c is b) scope = stays scope

over_both : (first before after : Scope) → Extends first before → Extends before after → Extends first after
over_both first before after (more, h) (last, k) = (more ++ last, k ∙ ap (λ scope. scope ++ last) h ∙ append_assoc first more last)

-- the first ones stay behind one more statement
pub grows : (st : Stmt) (first before after : Scope) → Extends first before → after ≡ scope_after st before → Extends first after
grows st first before after kept is = subst (Extends first) (sym is) (over_both first before (scope_after st before) kept (stays_after st before))
