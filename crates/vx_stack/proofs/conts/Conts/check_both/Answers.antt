use Rattle.std.proofs.Common.{◌≡◌, ◌++◌, ◌∷◌, [], refl, append_assoc}
use Rattle.vx_stack.proofs.Steps.{checked_probe}
use Rattle.vx_stack.proofs.conts.Conts.check_both.Goals as goal

pub returns : goal.returns
returns c = λ p.
    let n : c.push-2.new.self.items ≡ c.args.self.now.sides.items ++ c.args.otherwise ∷ c.args.refuted ∷ [] = rw (c.in_ok-push-2.ensures.items, c.in_ok-push.ensures.items, append_assoc) refl in
    checked_probe p c.args.query _ _ _ c.args.refuted c.args.otherwise c.requires n refl
