use Rattle.std.proofs.Common.{◌≡◌, [], ◌∷◌, ◌++◌, map, reverse, sym, ap, subst, ◌∙◌}
use Rattle.std.proofs.Math.Logic.{∥∥₁_map}
use Rattle.std.proofs.lemmas.List.{map-append}
use Rattle.vx_terms.specs.Views.{term}
use Rattle.vx_terms.specs.Interpretations.{Each}
use Rattle.cs_numbers.specs.Laws.{IsSorted}
use Rattle.cs_session.specs.Views.{all_of}
use Rattle.cs_session.proofs.Lists.{each_push, newer}
use Rattle.cs_session.proofs.Spread.{with_assertion}
use Rattle.cs_session.proofs.levels.Levels.assert.Goals as goal

pub invariant_of-self-2 : goal.invariant_of-self-2
invariant_of-self-2 c =
    let s = c.args.self.now in
    let t = c.args.t in
    let xs = s.stack.assertions.items in
    let assertions : map (λ x. term x.value) c.push.new.self.items ≡ map (λ x. term x.value) xs ++ term t.value ∷ [] =
    ap (map (λ x. term x.value)) c.in_ok-push.ensures.items ∙ map-append (λ x. term x.value) xs (t ∷ []) in
    record {
      apart = s.apart;
      indexed = s.indexed;
      sorted = ∥∥₁_map s.sorted (λ h. subst (Each IsSorted) (sym assertions) (each_push IsSorted (map (λ x. term x.value) xs) (term t.value) h c.requires));
    }

pub returns : goal.returns
returns c =
    let s = c.args.self.now in
    let t = c.args.t in
    let assertions : reverse (map (λ x. term x.value) c.push.new.self.items) ≡ term t.value ∷ (all_of s).assertions =
    ap (λ x. reverse (map (λ y. term y.value) x)) c.in_ok-push.ensures.items ∙ newer (λ x. term x.value) s.stack.assertions.items t in
    with_assertion (reverse s.counts.items) _ (all_of s) _ (term t.value) c.in_ok-count_one.ensures (λ i. record { sorts = (all_of s).sorts; symbols = (all_of s).symbols; assertions = assertions i })
