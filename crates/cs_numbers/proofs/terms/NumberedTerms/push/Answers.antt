use Rattle.std.proofs.Common.{◌≡◌, rules, [], ◌∷◌, ◌++◌, length, map, nat_eq, All, refl, sym, ◌∙◌, ap, ap₂, subst}
use Rattle.std.proofs.lemmas.List.Elements.{All-push}
use Rattle.std.proofs.lemmas.List.{map-append, length-map}
use Rattle.vx_terms.specs.Views.{term}
use Rattle.cs_index.specs.Under.{under, with_number}
use Rattle.cs_index.specs.Found.{IsIndexed}
use Rattle.cs_index.proofs.Indexed.{indexed_more}
use Rattle.cs_numbers.specs.Keys.{term_key}
use Rattle.cs_numbers.specs.Kept.{AreKept}
use Rattle.cs_numbers.specs.Parts.{HasFewParts}
use Rattle.cs_numbers.specs.Listed.{terms_in}
use Rattle.cs_numbers.proofs.Kept.{kept_more}
use Rattle.cs_numbers.proofs.terms.NumberedTerms.push.Goals as goal

pub invariant_of-self-in-Ok-clause-indexed : goal.invariant_of-self-in-Ok-clause-indexed
invariant_of-self-in-Ok-clause-indexed c =
    let old = c.args.self.now in
    let length_is : c.len-number.result ≡ length old.terms.items = search rules in
    let number : c.len-number.result ≡ length (terms_in old) = length_is ∙ sym (length-map old.terms.items (λ x. term x.value)) in
    let whole : map (λ x. term x.value) c.push.new.self.items ≡ terms_in old ++ term c.args.t.value ∷ [] = ap (map (λ x. term x.value)) c.in_ok-push.ensures.items ∙ map-append (λ x. term x.value) old.terms.items (c.args.t ∷ []) in
    let key : c.args.key ≡ term_key (term c.args.t.value) = c.requires in
    subst (λ ts. IsIndexed term_key ts c.add.new.self) (sym whole)
    (indexed_more term_key (terms_in old) (term c.args.t.value) old.index c.add.new.self old.indexed
    (λ k. c.in-Ok.ensures.added k ∙ ap₂ (λ key n. with_number (nat_eq key k) (under old.index k) n) key number))

pub invariant_of-self-in-Ok-clause-few_parts : goal.invariant_of-self-in-Ok-clause-few_parts
invariant_of-self-in-Ok-clause-few_parts c =
    let old = c.args.self.now in
    subst (All (λ x. HasFewParts (term x.value))) (sym c.in_ok-push.ensures.items)
    (All-push (λ x. HasFewParts (term x.value)) old.terms.items c.args.t old.few_parts (subst (λ x. HasFewParts (term x)) c.deref.ensures (c.if-not-has_few_parts.ensures refl)))

pub invariant_of-self-in-Ok-clause-parts : goal.invariant_of-self-in-Ok-clause-parts
invariant_of-self-in-Ok-clause-parts c =
    let old = c.args.self.now in
    let whole : map (λ x. term x.value) c.push.new.self.items ≡ terms_in old ++ term c.args.t.value ∷ [] = ap (map (λ x. term x.value)) c.in_ok-push.ensures.items ∙ map-append (λ x. term x.value) old.terms.items (c.args.t ∷ []) in
    subst (λ ts. AreKept ts old.kept.items) (sym whole) (kept_more (terms_in old) (term c.args.t.value ∷ []) old.kept.items old.parts)
