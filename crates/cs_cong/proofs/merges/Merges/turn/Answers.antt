use Rattle.cs_cong.proofs.Longer.{same_log}
use Rattle.std.proofs.Common.{◌≡◌, ◌<◌, ◌^◌, ℕ, List, length, sym, subst, set, arith, rules, ◌++◌, ◌∷◌, [], ◌∙◌, refl}
use Rattle.cs_cong.specs.declared.merges.Merge.{Merge}
use Rattle.cs_cong.specs.declared.merges.Link.{Link}
use Rattle.cs_cong.specs.Merged.{AreWithin, with_merge}
use Rattle.cs_cong.specs.Trees.{IsTree}
use Rattle.cs_cong.proofs.Trees.{grown_tree, within_more, width}
use Rattle.cs_cong.proofs.merges.Merges.turn.Goals as goal

pub invariant_of-self-2-clause-tree : goal.invariant_of-self-2-clause-tree
invariant_of-self-2-clause-tree c =
    let s = c.args.self.now in
    let time : c.len-time.result ≡ length s.log.items = search (rules, c.len-time.ensures) in
    let few : length s.log.items < 4294967295 = omega (arith, c.if-time-ge4294967294.false, time) in
    let m : Merge = record { left = c.args.left; right = c.args.right; reason = c.args.reason; moved = c.now-moved.result } in
    subst (λ (log : List Merge). IsTree log (set s.links.items c.now-moved.result record { to = c.now-to.result; time = c.len-time.result })) (sym c.in_ok-push.ensures.items)
    (subst (λ (n : ℕ). IsTree (s.log.items ++ m ∷ []) (set s.links.items c.now-moved.result record { to = c.now-to.result; time = n })) (sym time)
    (grown_tree s.log.items s.links.items s.tree m c.now-to.result c.now-moved.ensures.value c.now-to.ensures.value c.now-moved.ensures.within c.now-to.ensures.within c.now-moved.ensures.rests c.now-to.ensures.rests c.if-moved-to.false few))

pub invariant_of-self-2-clause-few : goal.invariant_of-self-2-clause-few
invariant_of-self-2-clause-few c =
    let s = c.args.self.now in
    subst (λ (n : ℕ). n < 2 ^ 32) (sym (width s.links.items c.now-moved.result record { to = c.now-to.result; time = c.len-time.result })) s.few

pub invariant_of-self-2-clause-within : goal.invariant_of-self-2-clause-within
invariant_of-self-2-clause-within c =
    let s = c.args.self.now in
    let l : Link = record { to = c.now-to.result; time = c.len-time.result } in
    let m : Merge = record { left = c.args.left; right = c.args.right; reason = c.args.reason; moved = c.now-moved.result } in
    subst (λ (n : ℕ). AreWithin n c.push.new.self.items) (sym (width s.links.items c.now-moved.result l))
    (subst (AreWithin (length s.links.items)) (sym c.in_ok-push.ensures.items)
    (within_more (length s.links.items) s.log.items m s.within record { left = c.requires.left; right = c.requires.right; moved = c.now-moved.ensures.within }))

pub returns-then-moved-to-clause-log : goal.returns-then-moved-to-clause-log
returns-then-moved-to-clause-log c =
    let s = c.args.self.now in
    sym (same_log s.log.items (with_merge s.log.items c.args.left c.args.right c.args.reason) c.args.left c.args.right c.args.reason refl (sym c.now-moved.ensures.value ∙ c.if-moved-to.true ∙ c.now-to.ensures.value))
