use Rattle.std.proofs.Common.{rules, ◌≡◌, ◌++◌, ◌∷◌, [], ◌+◌, ◌-◌, length, take, min, arith, sym, subst, ◌∙◌, ap}
use Rattle.vx_ends.specs.Cuts.{pieces_of, total}
use Rattle.vx_ends.proofs.Cuts.{cut_down, cut_off, counts_on, counts_before}
use Rattle.vx_ends.proofs.record.Record.cut_last.Goals as goal

pub invariant_of-self-then-count-eq0 : goal.invariant_of-self-then-count-eq0
invariant_of-self-then-count-eq0 c =
    let last = c.in-Some.last in
    let bytes = c.self.inside.bytes.items in
    let counts : total (c.pop.new.self.items ++ last ∷ []) ≡ length bytes = subst (λ x. total x ≡ length bytes) c.in-Some.ensures.items c.self.invariant in
    let least : c.min-len.result ≡ min last.len 0 = c.min-len.ensures ∙ ap (min last.len) c.if-count-eq0.true in
    let left : c.truncate.new.self.items ≡ take (length bytes - last.len + c.min-len.result) bytes = search rules in
    rw left (counts_before c.pop.new.self.items last bytes counts c.min-len.result least)

pub returns-then-count-eq0 : goal.returns-then-count-eq0
returns-then-count-eq0 c =
    let last = c.in-Some.last in
    let bytes = c.self.inside.bytes.items in
    let counts : total (c.pop.new.self.items ++ last ∷ []) ≡ length bytes = subst (λ x. total x ≡ length bytes) c.in-Some.ensures.items c.self.invariant in
    let left : c.truncate.new.self.items ≡ take (length bytes - last.len + c.min-len.result) bytes = search rules in
    let old : c.args.self.now ≡ pieces_of (c.pop.new.self.items ++ last ∷ []) bytes = sym c.self.view_is ∙ ap (λ x. pieces_of x bytes) c.in-Some.ensures.items in
    rw (left, old, c.if-count-eq0.true) (cut_off c.pop.new.self.items last bytes counts c.min-len.result)

pub invariant_of-self-2 : goal.invariant_of-self-2
invariant_of-self-2 c =
    let last = c.in-Some.last in
    let bytes = c.self.inside.bytes.items in
    let counts : total (c.pop.new.self.items ++ last ∷ []) ≡ length bytes = subst (λ x. total x ≡ length bytes) c.in-Some.ensures.items c.self.invariant in
    let left : c.truncate.new.self.items ≡ take (length bytes - last.len + c.min-len.result) bytes = search rules in
    let least : c.min-len.result ≡ min last.len c.args.count = c.min-len.ensures in
    rw (c.in-Ok.ensures.items, left) (counts_on c.pop.new.self.items last bytes counts c.min-len.result (rw least (omega arith)))

pub returns : goal.returns
returns c =
    let last = c.in-Some.last in
    let bytes = c.self.inside.bytes.items in
    let counts : total (c.pop.new.self.items ++ last ∷ []) ≡ length bytes = subst (λ x. total x ≡ length bytes) c.in-Some.ensures.items c.self.invariant in
    let left : c.truncate.new.self.items ≡ take (length bytes - last.len + c.min-len.result) bytes = search rules in
    let old : c.args.self.now ≡ pieces_of (c.pop.new.self.items ++ last ∷ []) bytes = sym c.self.view_is ∙ ap (λ x. pieces_of x bytes) c.in-Some.ensures.items in
    rw (c.in-Ok.ensures.items, left, old) (cut_down c.pop.new.self.items last bytes counts c.args.count c.min-len.result c.min-len.ensures c.if-count-eq0.false)
