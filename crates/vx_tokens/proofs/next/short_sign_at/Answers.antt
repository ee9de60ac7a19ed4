use Rattle.std.proofs.Common.{◌≡◌, ◌∷◌, sym, drop, ap, ◌∙◌, rules}
use Rattle.vx_tokens.specs.Scanning.{sign_in, all_signs}
use Rattle.vx_tokens.proofs.next.short_sign_at.Goals as goal

pub returns-in-Some : goal.returns-in-Some
returns-in-Some c =
    let split : c.args.bytes.now ≡ c.in-Some.first.now ∷ c.in-Some.field-0-1.now = search rules in
    c.short_sign.ensures c.in-Some.field-0-1.now ∙ ap (sign_in (drop 9 all_signs)) (sym split)
