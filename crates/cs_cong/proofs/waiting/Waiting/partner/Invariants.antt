use Rattle.std.proofs.Common.{◌≡◌, drop}
use Rattle.std.specs.List.{list_any}
use Rattle.cs_cong.specs.Merged.{current}
use Rattle.cs_cong.specs.Settled.{is_partner, has_partner}
use Rattle.cs_cong.proofs.waiting.Waiting.partner.Given as goal

abbrev pub invariant-loop-n : goal.invariant-loop-n
invariant-loop-n l =
    list_any (λ n. is_partner l.terms (current l.merges.log.items) l.self.queue n l.a) (drop l.n-index l.n-items)
    ≡ has_partner l.terms (current l.merges.log.items) l.self.queue l.self.index l.a
