use Rattle.std.proofs.Common.{◌≡◌, ◌≤◌, ◌+◌, ◌∙◌, ◌∷◌, [], length, length-append, ap, sym, List, ℕ, arith}
use Rattle.std.proofs.lemmas.List.{nil_from_length}
use Rattle.cs_linear.specs.declared.rows.Row.{Row}
use Rattle.cs_linear.specs.Pivots.{carried, written}
use Rattle.cs_linear.proofs.Lists.{long}
use Rattle.cs_linear.proofs.Carried.{carried_last, carried_all, written_count}
use Rattle.cs_linear.proofs.pivot.carry_out.Goals as goal

still_room : (m n k l : ℕ) → l ≡ m + 1 → l ≤ n → k ≡ n → m ≤ k
still_room m n k l e h f = omega arith

pub loop-plan-preserved : goal.loop-plan-preserved
loop-plan-preserved c =
    let rows = c.loop-plan.rows.items in
    let left = c.pop.new.self.items in
    let at : c.len-i.result ≡ length left = c.len-i.ensures ∙ long c.pop.new.self in
    let is = c.write.ensures ∙ ap (λ (k : ℕ). written rows k c.in-Some.plan) at in
    record {
      count = still_room (length left) (length rows) (length c.write.new.rows.items) (length c.loop-plan.left.items) (ap length c.in-Some.ensures.items ∙ length-append left (c.in-Some.plan ∷ [])) c.loop-plan.invariant.count (ap length is ∙ written_count rows (length left) c.in-Some.plan);
      carries = ap (λ (rs : List Row). carried rs left) is ∙ sym (carried_last rows left c.in-Some.plan) ∙ ap (carried rows) (sym c.in-Some.ensures.items) ∙ c.loop-plan.invariant.carries;
    }

pub returns : goal.returns
returns c = sym (carried_all c.loop-plan.rows.items c.loop-plan.left.items (nil_from_length c.loop-plan.left.items (sym (long c.loop-plan.left) ∙ c.in_default.ensures.cases.0))) ∙ c.loop-plan.invariant.carries
