use Rattle.std.proofs.Common.{ℕ, ◌<◌, ◌≡◌, ◌+◌, List, sym, subst, true}
use Rattle.std.specs.Prelude.{All}
use Rattle.std.proofs.lemmas.List.Elements.{All-push}
use Rattle.cs_cong.specs.Signatures.{has}
use Rattle.cs_cong.proofs.Queues.{numbers_more}
use Rattle.cs_cong.proofs.queue.numbers_to.Goals as goal

pub loop-at-preserved : goal.loop-at-preserved
loop-at-preserved c =
    let ns = c.loop-at.numbers.items in
    let at = c.loop-at.at in
    let e = sym c.in_ok-push.ensures.items in
    record {
      within = subst (λ (l : List ℕ). All (λ a. a < c.args.count) l) e (All-push (λ a. a < c.args.count) ns at c.loop-at.invariant.within c.loop-at-test.true);
      all = subst (λ (l : List ℕ). (a : ℕ) → a < at + 1 → has l a ≡ true) e (numbers_more ns at c.loop-at.invariant.all);
    }
