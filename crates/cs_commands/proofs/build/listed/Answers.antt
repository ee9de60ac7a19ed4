use Rattle.std.proofs.Common.{◌≡◌, rules, [], ◌∷◌, ◌++◌, map, ap, sym, ◌∙◌}
use Rattle.std.proofs.lemmas.List.{map-append}
use Rattle.vx_terms.specs.Terms.{MoreTerms}
use Rattle.vx_terms.specs.Views.{term, terms}
use Rattle.cs_reader.proofs.Lists.{listed_onto, listed_last}
use Rattle.cs_commands.proofs.build.listed.Goals as goal

pub loop-last-preserved : goal.loop-last-preserved
loop-last-preserved c =
    let split : c.loop-last.rest.now ≡ c.in-Some.front.now ++ c.in-Some.last.now ∷ [] = search rules in
    let value : terms c.in_ok-all-2.all.value ≡ MoreTerms (term c.in-Some.last.now.value) (terms c.loop-last.all.value) = search rules in
    ap (listed_onto (map (λ x. term x.value) c.in-Some.front.now)) value
    ∙ sym (listed_last (map (λ x. term x.value) c.in-Some.front.now) (term c.in-Some.last.now.value) (terms c.loop-last.all.value))
    ∙ ap (λ ts. listed_onto ts (terms c.loop-last.all.value)) (sym (ap (map (λ x. term x.value)) split ∙ map-append (λ x. term x.value) c.in-Some.front.now (c.in-Some.last.now ∷ [])))
    ∙ c.loop-last.invariant
