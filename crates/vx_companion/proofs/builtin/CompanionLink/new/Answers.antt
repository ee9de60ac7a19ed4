use Rattle.std.proofs.Common.{◌≤◌, [], arith}
use Rattle.vx_sexp.specs.Finished.{finished}
use Rattle.vx_sexp.proofs.Counts.{none_finished}
use Rattle.cs_session.specs.Answering.{start, begun}
use Rattle.vx_companion.specs.Companion.{HasReplied}
use Rattle.vx_companion.proofs.Replies.{none_kept, by_companion}
use Rattle.vx_companion.proofs.builtin.CompanionLink.new.Goals as goal

pub invariant_of-result : goal.invariant_of-result
invariant_of-result c =
    let none : finished [] ≤ finished [] = omega arith in
    let first : HasReplied [] [] [] [] start = record { answering = begun; none_left = none_finished } in
    record {
      owed = λ fresh. rw (c.new-5.ensures, c.new-3.ensures.items) none;
      keeps_up = λ fresh. rw (c.new-5.ensures, c.new-3.ensures.items, c.new-2.ensures.items) none_kept;
      replied = λ fresh. rw (c.new-5.ensures, c.new-4.ensures.items, c.new-3.ensures.items, c.new-2.ensures.items, c.new.ensures.state) (∣ first ∣₁);
      right = rw (c.new-5.ensures, c.new-4.ensures.items) (∣ by_companion first ∣₁);
    }
