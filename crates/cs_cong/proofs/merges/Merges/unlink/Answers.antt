use Rattle.std.proofs.Common.{◌<◌, ◌^◌, ℕ, List, length, sym, subst}
use Rattle.cs_cong.specs.declared.merges.Merge.{Merge}
use Rattle.cs_cong.specs.declared.merges.Link.{Link}
use Rattle.cs_cong.specs.Merged.{AreWithin}
use Rattle.cs_cong.specs.Trees.{IsTree}
use Rattle.cs_cong.proofs.Trees.{shorter_tree, within_less, within_last, width}
use Rattle.cs_cong.proofs.merges.Merges.unlink.Goals as goal

pub invariant_of-self-clause-tree : goal.invariant_of-self-clause-tree
invariant_of-self-clause-tree c =
    let s = c.args.self.now in
    shorter_tree c.pop.new.self.items s.links.items c.in-Some.merge (subst (λ (log : List Merge). IsTree log s.links.items) c.in-Some.ensures.items s.tree)
    (within_last (length s.links.items) c.pop.new.self.items c.in-Some.merge (subst (AreWithin (length s.links.items)) c.in-Some.ensures.items s.within)).moved

pub invariant_of-self-clause-few : goal.invariant_of-self-clause-few
invariant_of-self-clause-few c =
    let s = c.args.self.now in
    subst (λ (n : ℕ). n < 2 ^ 32) (sym (width s.links.items c.in-Some.merge.moved record { to = c.in-Some.merge.moved; time = 4294967295 })) s.few

pub invariant_of-self-clause-within : goal.invariant_of-self-clause-within
invariant_of-self-clause-within c =
    let s = c.args.self.now in
    let l : Link = record { to = c.in-Some.merge.moved; time = 4294967295 } in
    subst (λ (n : ℕ). AreWithin n c.pop.new.self.items) (sym (width s.links.items c.in-Some.merge.moved l))
    (within_less (length s.links.items) c.pop.new.self.items c.in-Some.merge (subst (AreWithin (length s.links.items)) c.in-Some.ensures.items s.within))
