use Rattle.std.proofs.Common.{ℕ, List, [], sym, subst, arith, refl, ◌≡◌}
use Rattle.cs_cong.specs.declared.congruent.Applied.{Applied}
use Rattle.cs_cong.specs.declared.merges.Merge.{Merge}
use Rattle.cs_cong.specs.Joined.{AreJustified, IsClosed}
use Rattle.cs_cong.specs.Merged.{current}
use Rattle.cs_cong.specs.Settled.{IsSettled}
use Rattle.cs_cong.proofs.Settles.{known_some}
use Rattle.cs_cong.proofs.Stages.{history_none, history_again}
use Rattle.cs_cong.proofs.classes.Classes.new.Goals as goal

nothing_justified : (terms : List Applied) (log : List Merge) → log ≡ [] → AreJustified terms [] log
nothing_justified terms log e = subst (AreJustified terms []) (sym e) (λ k lt. absurd (omega arith))

pub invariant_of-result-clause-history : goal.invariant_of-result-clause-history
invariant_of-result-clause-history c =
    let terms = c.args.terms.items in
    let log = c.close.new.merges.log.items in
    let begun = c.in_ok-merges.merges.log.items in
    let justified = c.in_ok-close.ensures.grown.justified [] (nothing_justified c.deref-2.result.now begun c.in_ok-merges.ensures.log) in
    history_again terms [] c.new-3.result.items [] c.new-4.result.items log log c.new-3.ensures.items c.new-4.ensures.items refl
    (history_none terms log (subst (λ (ts : List Applied). AreJustified ts [] log) c.deref-2.ensures.value justified) (subst (λ (ts : List Applied). IsClosed ts log) c.deref-2.ensures.value c.in_ok-close.ensures.closed))

pub invariant_of-result-clause-settled : goal.invariant_of-result-clause-settled
invariant_of-result-clause-settled c w e =
    let f : ℕ → ℕ = current c.close.new.merges.log.items in
    known_some c.args.terms.items f c.close.new.self w e
    (subst (λ (ts : List Applied). IsSettled ts (current c.close.new.merges.log.items) c.close.new.self) c.deref-2.ensures.value c.in_ok-close.ensures.settled)
