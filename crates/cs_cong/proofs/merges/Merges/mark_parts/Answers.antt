use Rattle.std.proofs.Common.{◌≡◌, inl, inr, length, get_or, min, sym, subst, arith, ◌∙◌}
use Rattle.std.proofs.lemmas.Bool.{cases_eq}
use Rattle.cs_cong.specs.Merged.{representative}
use Rattle.cs_cong.specs.Walks.{walk}
use Rattle.cs_cong.specs.Needed.{AreMarked}
use Rattle.cs_cong.proofs.Explaining.{same_length, same_at}
use Rattle.cs_cong.proofs.Marks.{marked_on, still_marked}
use Rattle.cs_cong.proofs.merges.Merges.mark_parts.Goals as goal

pub loop-at-preserved : goal.loop-at-preserved
loop-at-preserved c =
    let log = c.args.self.now.log.items in
    let t = c.args.time in
    let xs = c.args.xs.now in
    let ys = c.args.ys.now in
    let old = c.loop-at.needs.all in
    let new = c.mark_walk.new.needs.all in
    let end : c.min-at-end.result ≡ min (length xs) (length ys) = c.min-at-end.ensures in
    record {
      time = c.mark_walk.ensures.time ∙ c.loop-at.invariant.time;
      more = marked_on t c.args.needs.now.all old new c.loop-at.invariant.more c.in_ok-mark_walk.ensures.marks;
      done = λ same k below. elim (cases_eq k c.loop-at.at) [
        | inl is ↦
            subst (λ j. AreMarked new (walk log t (get_or xs j 0) (get_or ys j 0))) (sym is)
            (c.in_ok-mark_walk.ensures.marked (same_at (representative log t) xs ys same c.loop-at.at (omega (arith, end, c.loop-at-test.true))))
        | inr other ↦ still_marked t old new c.in_ok-mark_walk.ensures.marks (walk log t (get_or xs k 0) (get_or ys k 0)) (c.loop-at.invariant.done same k (omega arith))
      ];
    }

pub returns-clause-marked : goal.returns-clause-marked
returns-clause-marked c same k lt =
    let end : c.min-at-end.result ≡ min (length c.args.xs.now) (length c.args.ys.now) = c.min-at-end.ensures in
    let long = same_length (representative c.args.self.now.log.items c.args.time) c.args.xs.now c.args.ys.now same in
    c.loop-at.invariant.done same k (omega (arith, end, c.loop-at-test.false, long, lt))
