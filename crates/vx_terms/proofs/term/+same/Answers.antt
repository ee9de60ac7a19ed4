use Rattle.std.proofs.Common.{sym, ap, ap₂, ◌∙◌, arith}
use Rattle.vx_terms.specs.declared.term.Term.{size-Term}
use Rattle.vx_terms.specs.Terms.{same, same_all}
use Rattle.vx_terms.specs.Views.{term, terms}
use Rattle.vx_terms.proofs.Firsts.{below_apply, below_binary, below_ite, apply_on, binary_on, ite_on, and_false, condition_below, branch_below, other_below, item_below, rest_below, falls, both_fall, stays, more_on}
use Rattle.vx_terms.proofs.term.+same.Goals as goal

pub Term::is_same-loop-left-preserved-in-Apply-right-5 : goal.Term::is_same-loop-left-preserved-in-Apply-right-5
Term::is_same-loop-left-preserved-in-Apply-right-5 t c =
    let ts = sym c.deref.ensures ∙ c.in-More-More.is-0 in
    let us = sym c.deref-in-Apply-Apply.ensures ∙ c.in-More-More.is-1 in
    let others = ap₂ (λ x y. same_all (terms x) (terms y)) (sym c.deref-in-More-More.ensures) (sym c.deref-in-More-More-2.ensures) ∙ sym c.is_same-in-More-More-3.ensures ∙ c.if-not-is_same-3.false in (
      omega (arith, ap size-Term c.deref-left.ensures, below_apply _ _ _ _ _ _ c.in-Apply-Apply.is-0 ts, c.loop-left.invariant.0),
      ap₂ (λ x y. same (term x) (term y)) c.deref-left.ensures c.deref-right.ensures
          ∙ apply_on _ _ _ _ _ _ _ _ _ _ _ _ c.in-Apply-Apply.is-0 c.in-Apply-Apply.is-1 ts us
          (sym c.is_same-in-More-More.ensures ∙ c.if-not-is_same.false) (sym c.is_same-in-More-More-2.ensures ∙ c.if-not-is_same-2.false) others
          ∙ c.loop-left.invariant.1,
    )

pub Term::is_same-loop-left-preserved-in-Binary-right-7 : goal.Term::is_same-loop-left-preserved-in-Binary-right-7
Term::is_same-loop-left-preserved-in-Binary-right-7 t c =
    let seconds = ap₂ (λ x y. same (term x) (term y)) (sym c.deref-in-Binary-Binary.ensures) (sym c.deref-in-Binary-Binary-2.ensures) ∙ sym c.is_same-in-Binary-Binary.ensures ∙ c.if-not-is_same-4.false in (
      omega (arith, ap size-Term c.deref-left-in-Binary-Binary.ensures, below_binary _ _ _ _ c.in-Binary-Binary.is-0, c.loop-left.invariant.0),
      ap₂ (λ x y. same (term x) (term y)) c.deref-left-in-Binary-Binary.ensures c.deref-right-in-Binary-Binary.ensures
          ∙ binary_on _ _ _ _ _ _ _ _ c.in-Binary-Binary.is-0 c.in-Binary-Binary.is-1 (sym c.is_same_operator.ensures ∙ c.if-not-is_same_operator.false) seconds
          ∙ c.loop-left.invariant.1,
    )

pub Term::is_same-loop-left-preserved : goal.Term::is_same-loop-left-preserved
Term::is_same-loop-left-preserved t c =
    let conditions = ap₂ (λ x y. same (term x) (term y)) (sym c.deref-in-Ite-Ite.ensures) (sym c.deref-in-Ite-Ite-2.ensures) ∙ sym c.is_same-in-Ite-Ite.ensures ∙ c.if-not-is_same-5.false in
    let others = ap₂ (λ x y. same (term x) (term y)) (sym c.deref-in-Ite-Ite-3.ensures) (sym c.deref-in-Ite-Ite-4.ensures) ∙ sym c.is_same-in-Ite-Ite-2.ensures ∙ c.if-not-is_same-6.false in (
      omega (arith, ap size-Term c.deref-left-in-Ite-Ite.ensures, below_ite _ _ _ _ c.in-Ite-Ite.is-0, c.loop-left.invariant.0),
      ap₂ (λ x y. same (term x) (term y)) c.deref-left-in-Ite-Ite.ensures c.deref-right-in-Ite-Ite.ensures
          ∙ ite_on _ _ _ _ _ _ _ _ c.in-Ite-Ite.is-0 c.in-Ite-Ite.is-1 conditions others
          ∙ c.loop-left.invariant.1,
    )

pub Term::is_same-returns-then-not-is_same-3 : goal.Term::is_same-returns-then-not-is_same-3
Term::is_same-returns-then-not-is_same-3 t c = grind (arith, and_false, c.loop-left.invariant)

pub Term::is_same-returns-in_default-2 : goal.Term::is_same-returns-in_default-2
Term::is_same-returns-in_default-2 t c = grind (arith, and_false, c.loop-left.invariant)

pub Term::is_same-returns-in_default-2-2 : goal.Term::is_same-returns-in_default-2-2
Term::is_same-returns-in_default-2-2 t c = grind (arith, and_false, c.loop-left.invariant)

pub Term::is_same-returns-then-not-is_same-4 : goal.Term::is_same-returns-then-not-is_same-4
Term::is_same-returns-then-not-is_same-4 t c = grind (arith, and_false, c.loop-left.invariant)

pub Term::is_same-returns-then-not-is_same-6 : goal.Term::is_same-returns-then-not-is_same-6
Term::is_same-returns-then-not-is_same-6 t c = grind (arith, and_false, c.loop-left.invariant)

pub Term::is_same-is_same-requires-in-Ite-Ite : goal.Term::is_same-is_same-requires-in-Ite-Ite
Term::is_same-is_same-requires-in-Ite-Ite t c = (falls _ _ _ _ (condition_below c.loop-left.left.now c.in-Ite-Ite.c c.in-Ite-Ite.t c.in-Ite-Ite.v c.deref-in-Ite-Ite.result.now c.in-Ite-Ite.is-0 c.deref-in-Ite-Ite.ensures) c.loop-left.invariant.0 c.decreases, tt)

pub Term::is_same-is_same-requires-in-Ite-Ite-2 : goal.Term::is_same-is_same-requires-in-Ite-Ite-2
Term::is_same-is_same-requires-in-Ite-Ite-2 t c = (falls _ _ _ _ (other_below c.loop-left.left.now c.in-Ite-Ite.c c.in-Ite-Ite.t c.in-Ite-Ite.v c.deref-in-Ite-Ite-3.result.now c.in-Ite-Ite.is-0 c.deref-in-Ite-Ite-3.ensures) c.loop-left.invariant.0 c.decreases, tt)

pub Terms::is_same-is_same-requires : goal.Terms::is_same-is_same-requires
Terms::is_same-is_same-requires t c = (falls _ _ _ _ (item_below c.loop-left.left.now c.in-More-More.t c.in-More-More.ts c.deref.result.now c.in-More-More.is-0 c.deref.ensures) c.loop-left.invariant.0 c.decreases, tt)

pub Term::is_same-loop-left-smaller : goal.Term::is_same-loop-left-smaller
Term::is_same-loop-left-smaller t c =
    let a = c.in-Ite-Ite in
    both_fall _ _ _ _ (branch_below c.loop-left.left.now a.c a.t a.v c.deref-left-in-Ite-Ite.result.now a.is-0 c.deref-left-in-Ite-Ite.ensures)
    (branch_below c.loop-left.right.now a.d a.u a.w c.deref-right-in-Ite-Ite.result.now a.is-1 c.deref-right-in-Ite-Ite.ensures)

pub Terms::is_same-loop-left-smaller : goal.Terms::is_same-loop-left-smaller
Terms::is_same-loop-left-smaller t c =
    let a = c.in-More-More in
    both_fall _ _ _ _ (rest_below c.loop-left.left.now a.t a.ts c.deref-left.result.now a.is-0 c.deref-left.ensures)
    (rest_below c.loop-left.right.now a.u a.us c.deref-right.result.now a.is-1 c.deref-right.ensures)

pub Terms::is_same-loop-left-preserved : goal.Terms::is_same-loop-left-preserved
Terms::is_same-loop-left-preserved t c =
    let a = c.in-More-More in
    let first = ap₂ (λ x y. same (term x) (term y)) (sym c.deref.ensures) (sym c.deref-in-More-More.ensures) ∙ sym c.is_same.ensures ∙ c.if-not-is_same.false in (
      stays _ _ _ (rest_below c.loop-left.left.now a.t a.ts c.deref-left.result.now a.is-0 c.deref-left.ensures) c.loop-left.invariant.0,
      more_on c.loop-left.left.now c.loop-left.right.now c.deref-left.result.now c.deref-right.result.now a.t a.u a.ts a.us a.is-0 a.is-1 c.deref-left.ensures c.deref-right.ensures first ∙ c.loop-left.invariant.1,
    )
