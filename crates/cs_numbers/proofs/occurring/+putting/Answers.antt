use Rattle.std.proofs.Common.{◌≡◌, ◌++◌, rules, length, reverse, sym, ◌∙◌, ap, ap₂, ◌-◌}
use Rattle.std.proofs.lemmas.List.{length-map}
use Rattle.vx_terms.specs.Views.{term}
use Rattle.cs_numbers.specs.Inner.{inner}
use Rattle.cs_numbers.specs.Forest.{seen}
use Rattle.cs_numbers.proofs.Backwards.{counted}
use Rattle.cs_numbers.proofs.occurring.+putting.Goals as goal

pub put-invariant_of-push-clause-counted : goal.put-invariant_of-push-clause-counted
put-invariant_of-push-clause-counted t c =
    let u = term c.args.t.now.value in
    let old = c.args.all.now.items in
    let mid = c.put_inner.new.all.items in
    let now : seen mid ≡ seen old ++ reverse (inner u) = search rules in
    let of : term c.in_ok-of.of.value ≡ u = search rules in
    let first : c.len-before.result ≡ length old = search rules in
    let last : c.len.result ≡ length mid = search rules in
    let before : c.len-before.result ≡ length (seen old) = first ∙ sym (length-map old (λ x. term x.of.value)) in
    let after : c.len.result ≡ length (seen mid) = last ∙ sym (length-map mid (λ x. term x.of.value)) in
    ap₂ (λ m n. m - n) after before ∙ counted (seen old) (seen mid) u now ∙ ap (λ x. length (inner x)) (sym of)
