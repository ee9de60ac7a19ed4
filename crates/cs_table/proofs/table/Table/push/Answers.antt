use Rattle.std.proofs.Common.{◌≡◌, rules, [], ◌∷◌, ◌++◌, Vec, Global, vec_len, length, nat_eq, sym, ◌∙◌, ap, ap₂, subst}
use Rattle.std.proofs.lemmas.List.{map-append, length-map}
use Rattle.cs_index.specs.Under.{under, with_number}
use Rattle.cs_index.specs.Found.{IsIndexed}
use Rattle.cs_index.proofs.Indexed.{indexed_more}
use Rattle.cs_table.specs.Keys.{node_key}
use Rattle.cs_table.specs.Views.{node, nodes}
use Rattle.cs_table.specs.declared.node.Node.{Node}
use Rattle.cs_table.proofs.table.Table.push.Goals as goal

long : (v : Vec Node Global) → vec_len v ≡ length v.items
long v = search rules

pub invariant_of-self-in-Ok-clause-indexed : goal.invariant_of-self-in-Ok-clause-indexed
invariant_of-self-in-Ok-clause-indexed c =
    let old = c.args.self.now in
    let parts : c.deref.result.now ≡ c.args.node.parts.items = search rules in
    let number : c.len-number.result ≡ length (nodes old.nodes.items) = c.len-number.ensures ∙ long old.nodes ∙ sym (length-map old.nodes.items node) in
    let whole : nodes c.push.new.self.items ≡ nodes old.nodes.items ++ node c.args.node ∷ [] = ap nodes c.in_ok-push.ensures.items ∙ map-append node old.nodes.items (c.args.node ∷ []) in
    let key : c.key_over-key.result ≡ node_key (node c.args.node) = search rules in
    subst (λ ns. IsIndexed node_key ns c.add.new.self) (sym whole)
    (indexed_more node_key (nodes old.nodes.items) (node c.args.node) old.index c.add.new.self old.indexed
    (λ k. c.in-Ok.ensures.added k ∙ ap₂ (λ key n. with_number (nat_eq key k) (under old.index k) n) key number))
