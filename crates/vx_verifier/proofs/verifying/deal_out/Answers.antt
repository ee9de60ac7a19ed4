use Rattle.std.proofs.Common.{◌≡◌, ◌<◌, ◌+◌, length, slice_set, get_or, refl, inl, inr, ◌∙◌, sym, subst, arith}
use Rattle.std.proofs.lemmas.List.{length-set, nil_from_length}
use Rattle.std.proofs.lemmas.Option.{slice_get-get_or}
use Rattle.std.specs.declared.vec.Vec.{Vec}
use Rattle.std.specs.declared.alloc.Global.{Global}
use Rattle.vx_report.specs.declared.run.MemberRun.{MemberRun}
use Rattle.vx_verifier.proofs.Deal.{Deals, IsBehind, deals_first, deals_on, deals_end, popped_less}
use Rattle.vx_verifier.proofs.Taking.{total_less}
use Rattle.vx_verifier.proofs.verifying.deal_out.Goals as goal

pub piles-init : goal.piles-init
piles-init c = record {
  each = refl;
  within = c.requires;
  deals = λ ns are. subst (λ rs. Deals ns c.args.piles.now c.args.piles.now rs 0) (sym c.new-runs.ensures.items) (deals_first ns c.args.piles.now c.requires are);
}

pub returns-in_default : goal.returns-in_default
returns-in_default c = λ ns are.
    let pile = get_or c.piles.piles c.piles.at c.index-piles-at.result in
    deals_end ns c.args.piles.now c.piles.piles c.piles.runs.items c.piles.at pile (c.piles.invariant.deals ns are) (slice_get-get_or c.piles.piles c.piles.at c.index-piles-at.result c.piles.invariant.within)
    (nil_from_length pile.items (sym pile.ok.0 ∙ c.in_default.ensures.cases.0)) c.piles.invariant.each

pub piles-smaller-then-at-piles : goal.piles-smaller-then-at-piles
piles-smaller-then-at-piles c =
    let pile = get_or c.piles.piles c.piles.at c.index-piles-at.result in
    total_less (λ (x : Vec MemberRun Global). length x.items) c.piles.piles c.piles.at pile c.pop.new.self (slice_get-get_or c.piles.piles c.piles.at c.index-piles-at.result c.piles.invariant.within)
    (popped_less pile c.pop.new.self c.in-Some.run' c.in-Some.ensures.items)

-- the next pile is the first one
pub piles-preserved-then-at-piles : goal.piles-preserved-then-at-piles
piles-preserved-then-at-piles c =
    let pile = get_or c.piles.piles c.piles.at c.index-piles-at.result in
    let new = slice_set c.piles.piles c.piles.at c.pop.new.self in
    let same : length new ≡ length c.piles.piles = length-set c.piles.piles c.piles.at c.pop.new.self in
    let each : length c.piles.piles ≡ length c.args.piles.now = c.piles.invariant.each in
    let within : c.piles.at < length c.piles.piles = c.piles.invariant.within in
    let last : c.piles.at + 1 ≡ length c.args.piles.now = omega (arith, c.if-at-piles.true, same, each) in
    let behind : IsBehind (length c.args.piles.now) c.piles.at 0 = record { within = omega (arith, within, each); on = inr (last, refl) } in
    record {
      each = same ∙ each;
      within = omega (arith, same, within);
      deals = λ ns are. subst (λ rs. Deals ns c.args.piles.now new rs 0) (sym c.in_ok-push.ensures.items)
          (deals_on ns c.args.piles.now c.piles.piles c.piles.runs.items c.piles.at 0 pile c.pop.new.self c.in-Some.run' (c.piles.invariant.deals ns are)
          (slice_get-get_or c.piles.piles c.piles.at c.index-piles-at.result within) c.in-Some.ensures.items behind each);
    }

pub piles-smaller : goal.piles-smaller
piles-smaller c =
    let pile = get_or c.piles.piles c.piles.at c.index-piles-at.result in
    total_less (λ (x : Vec MemberRun Global). length x.items) c.piles.piles c.piles.at pile c.pop.new.self (slice_get-get_or c.piles.piles c.piles.at c.index-piles-at.result c.piles.invariant.within)
    (popped_less pile c.pop.new.self c.in-Some.run' c.in-Some.ensures.items)

pub piles-preserved : goal.piles-preserved
piles-preserved c =
    let pile = get_or c.piles.piles c.piles.at c.index-piles-at.result in
    let new = slice_set c.piles.piles c.piles.at c.pop.new.self in
    let same : length new ≡ length c.piles.piles = length-set c.piles.piles c.piles.at c.pop.new.self in
    let each : length c.piles.piles ≡ length c.args.piles.now = c.piles.invariant.each in
    let within : c.piles.at < length c.piles.piles = c.piles.invariant.within in
    let next : c.piles.at + 1 < length new = omega (arith, c.if-at-piles.false, same, within) in
    let behind : IsBehind (length c.args.piles.now) c.piles.at (c.piles.at + 1) = record { within = omega (arith, next, same, each); on = inl refl } in
    record {
      each = same ∙ each;
      within = next;
      deals = λ ns are. subst (λ rs. Deals ns c.args.piles.now new rs (c.piles.at + 1)) (sym c.in_ok-push.ensures.items)
          (deals_on ns c.args.piles.now c.piles.piles c.piles.runs.items c.piles.at (c.piles.at + 1) pile c.pop.new.self c.in-Some.run' (c.piles.invariant.deals ns are)
          (slice_get-get_or c.piles.piles c.piles.at c.index-piles-at.result within) c.in-Some.ensures.items behind each);
    }
