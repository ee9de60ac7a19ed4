use Rattle.std.proofs.Common.{◌≡◌, ◌<◌, ◌∙◌, ℕ, length, sym, subst, arith, rules}
use Rattle.std.specs.BTreeSet.{BTreeSet}
use Rattle.cs_cong.specs.Merged.{representative}
use Rattle.cs_cong.specs.Walks.{walk}
use Rattle.cs_cong.specs.Marked.{Marked}
use Rattle.cs_cong.specs.Needed.{AreMarked, AreBacked}
use Rattle.cs_cong.proofs.Marks.{still_marked, backed_next, backed_end}
use Rattle.cs_cong.proofs.classes.Classes.needed.Goals as goal

pub back-init : goal.back-init
back-init c =
    let s = c.args.self.now in
    let log = s.merges.log.items in
    let len : c.len-len.result ≡ length log = search (rules, c.len-len.ensures) in
    let time : c.mark_walk.new.needs.time ≡ length log = c.mark_walk.ensures.time ∙ c.new-needs.ensures.time ∙ len in
    record {
      time = omega arith;
      within = λ k le. c.in_ok-mark_walk.ensures.marks.later k (omega arith) ∙ c.new-needs.ensures.none k;
      backed = λ k le lt e. absurd (omega (arith, time, le, lt));
      marked = λ same.
          subst (λ n. AreMarked c.mark_walk.new.needs.all (walk s.merges.log.items n c.args.a c.args.b)) len
          (c.in_ok-mark_walk.ensures.marked (subst (λ n. representative s.merges.log.items n c.args.a ≡ representative s.merges.log.items n c.args.b) (sym len) same));
    }

pub back-preserved : goal.back-preserved
back-preserved c =
    let s = c.args.self.now in
    let log = s.merges.log.items in
    let at = c.in-Some.at in
    let old = c.back.needs.all in
    let new = c.mark_needs.new.needs.all in
    let i = c.back.invariant in
    let within = i.time in
    let sooner : c.in-Some.at < c.back.needs.time = c.in-Some.ensures.taken in
    let time : c.mark_needs.new.needs.time ≡ c.in-Some.at = c.mark_needs.ensures.time ∙ c.in-Some.ensures.time in
    let m : Marked at old new = subst (λ (x : BTreeSet ℕ). Marked c.in-Some.at x c.mark_needs.new.needs.all) c.in-Some.ensures.all c.in_ok-mark_needs.ensures.marks in
    record {
      time = omega (arith, within, sooner, time);
      within = λ k le. m.later k (omega (arith, within, sooner, le)) ∙ i.within k le;
      backed = subst (AreBacked s.terms.items s.merges.log.items c.mark_needs.new.needs.all) (sym time) (backed_next s.terms.items log old new at c.back.needs.time m c.in_ok-mark_needs.ensures.backed c.in-Some.ensures.last i.backed);
      marked = λ e. still_marked at old new m (walk log (length log) c.args.a c.args.b) (i.marked e);
    }

pub returns-clause-backed : goal.returns-clause-backed
returns-clause-backed c =
    let s = c.args.self.now in
    subst (λ (x : BTreeSet ℕ). AreBacked s.terms.items s.merges.log.items x 0) (sym (c.found.ensures ∙ c.next.ensures.all))
    (backed_end s.terms.items s.merges.log.items c.back.needs.all c.back.needs.time c.in_default.ensures.taken c.back.invariant.backed)

pub returns-clause-marked : goal.returns-clause-marked
returns-clause-marked c same =
    let s = c.args.self.now in
    subst (λ (x : BTreeSet ℕ). AreMarked x (walk s.merges.log.items (length s.merges.log.items) c.args.a c.args.b)) (sym (c.found.ensures ∙ c.next.ensures.all)) (c.back.invariant.marked same)
