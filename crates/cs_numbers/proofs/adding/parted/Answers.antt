use Rattle.std.proofs.Common.{◌≡◌, ◌++◌, ◌∷◌, [], ◌-◌, rules, length}
use Rattle.cs_numbers.proofs.Forest.{others_seen, within_seen, turn_seen, first_seen}
use Rattle.cs_numbers.proofs.adding.parted.Goals as goal

pub returns-clause-within : goal.returns-clause-within
returns-clause-within c =
    let split : c.args.left.now ≡ c.in-Some.before.now ++ c.in-Some.last.now ∷ [] = search rules in
    let at : c.saturating_sub-at.result ≡ length c.in-Some.before.now - c.in-Some.last.now.within = search rules in
    within_seen c.args.left.now c.in-Some.before.now c.split_at.result.0.now c.split_at.result.1.now c.in-Some.last.now c.saturating_sub-at.result split c.requires at c.split_at.ensures.front c.split_at.ensures.back

pub returns-clause-others : goal.returns-clause-others
returns-clause-others c =
    let split : c.args.left.now ≡ c.in-Some.before.now ++ c.in-Some.last.now ∷ [] = search rules in
    let at : c.saturating_sub-at.result ≡ length c.in-Some.before.now - c.in-Some.last.now.within = search rules in
    others_seen c.args.left.now c.in-Some.before.now c.split_at.result.0.now c.split_at.result.1.now c.in-Some.last.now c.saturating_sub-at.result split c.requires at c.split_at.ensures.front c.split_at.ensures.back

pub returns-clause-same : goal.returns-clause-same
returns-clause-same c =
    let split : c.args.left.now ≡ c.in-Some.before.now ++ c.in-Some.last.now ∷ [] = search rules in
    let at : c.saturating_sub-at.result ≡ length c.in-Some.before.now - c.in-Some.last.now.within = search rules in
    turn_seen c.args.left.now c.in-Some.before.now c.split_at.result.0.now c.split_at.result.1.now c.in-Some.last.now c.saturating_sub-at.result split c.requires at c.split_at.ensures.front c.split_at.ensures.back

pub returns-clause-first : goal.returns-clause-first
returns-clause-first c =
    let split : c.args.left.now ≡ c.in-Some.before.now ++ c.in-Some.last.now ∷ [] = search rules in
    let at : c.saturating_sub-at.result ≡ length c.in-Some.before.now - c.in-Some.last.now.within = search rules in
    first_seen c.args.left.now c.in-Some.before.now c.split_at.result.0.now c.split_at.result.1.now c.in-Some.last.now c.saturating_sub-at.result split c.requires at c.split_at.ensures.front c.split_at.ensures.back
