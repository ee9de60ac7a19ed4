use Rattle.std.proofs.Common.{◌≡◌, ◌+◌, ◌∷◌, ◌++◌, [], length, vec_len, take, sym, ◌∙◌, ap, subst, arith}
use Rattle.std.proofs.lemmas.List.{length-append}
use Rattle.cs_table.specs.Views.{nodes}
use Rattle.cs_ground.specs.Atoms.{AreAtoms}
use Rattle.cs_ground.proofs.Numbers.{bool_step, other_step}
use Rattle.cs_ground.proofs.atoms.numbers_of.Goals as goal
use Rattle.cs_ground.proofs.atoms.numbers_of.Goals.{then-is_same+in_ok-push-2, else-is_same}

pub loop-number-preserved : goal.loop-number-preserved
loop-number-preserved c =
    let was = c.loop-number.invariant in
    let n = c.loop-number.number in
    let terms = c.loop-number.terms.items in
    let places = c.loop-number.places.items in
    let put : c.push.new.self.items ≡ places ++ length terms ∷ [] =
    c.in_ok-push.ensures.items ∙ ap (λ k. places ++ k ∷ []) (c.len.ensures ∙ (let v : vec_len c.loop-number.terms ≡ length terms = omega (arith, c.loop-number.terms.ok.0) in v)) in
    let count : length c.push.new.self.items ≡ n + 1 = ap length put ∙ length-append places (length terms ∷ []) ∙ ap (λ k. k + 1) was.count in
    elim c.if-is_same.branch [
      | then-is_same+in_ok-push-2 w ↦ (
          let end : c.if-is_same.terms.items ≡ terms ++ n ∷ [] = ap (λ v. v.items) w.terms-is ∙ w.in_ok-push-2.ensures.items in
          record {
            few = (let l : length c.if-is_same.terms.items ≡ length terms + 1 = ap length end ∙ length-append terms (n ∷ []) in let few = was.few in omega arith);
            count = count;
            atoms = subst (λ ts. AreAtoms (nodes (take (n + 1) c.args.nodes.now)) ts c.push.new.self.items) (sym end) (subst (AreAtoms (nodes (take (n + 1) c.args.nodes.now)) (terms ++ n ∷ [])) (sym put)
                (bool_step c.args.nodes.now n c.index-nodes-number.result c.loop-number-test.true c.index-nodes-number.is terms places was.atoms was.count (sym c.is_same.ensures ∙ w.if-is_same.true)));
          })
      | else-is_same w ↦ (
          let end : c.if-is_same.terms.items ≡ terms = ap (λ v. v.items) w.terms-is in
          record {
            few = (let l : length c.if-is_same.terms.items ≡ length terms = ap length end in let few = was.few in omega arith);
            count = count;
            atoms = subst (λ ts. AreAtoms (nodes (take (n + 1) c.args.nodes.now)) ts c.push.new.self.items) (sym end) (subst (AreAtoms (nodes (take (n + 1) c.args.nodes.now)) terms) (sym put)
                (other_step c.args.nodes.now n c.index-nodes-number.result c.loop-number-test.true c.index-nodes-number.is terms places was.atoms was.count (sym c.is_same.ensures ∙ w.if-is_same.false)));
          })
    ]
