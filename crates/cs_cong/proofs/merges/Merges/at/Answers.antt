use Rattle.std.proofs.Common.{◌<◌, ◌∙◌, ap, subst, sym, arith, length}
use Rattle.cs_cong.specs.declared.merges.Link.{Link}
use Rattle.cs_cong.specs.Merged.{representative}
use Rattle.cs_cong.specs.Trees.{link_at}
use Rattle.cs_cong.proofs.Trees.{climbs, climbs_within, at_link}
use Rattle.cs_cong.proofs.merges.Merges.at.Goals as goal

pub climb-preserved : goal.climb-preserved
climb-preserved c =
    let s = c.args.self.now in
    let l = c.index-link.result.now in
    let is = at_link s.links.items c.climb.here l c.climb.invariant.0 c.index-link.ensures in
    let below : (link_at s.links.items c.climb.here).time < c.args.time = subst (λ (x : Link). x.time < c.args.time) is c.if-link-time.false in (
      subst (λ (x : Link). x.to < length s.links.items) (sym is) (climbs_within s.log.items s.links.items s.tree c.climb.here c.args.time c.climb.invariant.0 below (omega (arith, c.ranges.time.fits))),
      ap (λ (x : Link). representative s.log.items c.args.time x.to) is ∙ climbs s.log.items s.links.items s.tree c.climb.here c.args.time c.climb.invariant.0 below (omega (arith, c.ranges.time.fits)) ∙ c.climb.invariant.1,
    )
