use Rattle.std.proofs.Common.{◌≡◌, [], rules, map, reverse, Some, sym, ◌∙◌, ap, arith}
use Rattle.std.proofs.lemmas.List.{reverse-reverse}
use Rattle.vx_terms.specs.Views.{term}
use Rattle.cs_certificate.specs.Terms.{parts}
use Rattle.cs_numbers.specs.Listed.{terms_in}
use Rattle.cs_numbers.specs.Inner.{inner}
use Rattle.cs_numbers.specs.Forest.{seen}
use Rattle.cs_numbers.specs.Kept.{parts_at}
use Rattle.cs_numbers.specs.Numbering.{places, added}
use Rattle.cs_numbers.proofs.Forest.{inner_parts}
use Rattle.cs_numbers.proofs.Kept.{opened, known, kept_now, placed_now}
use Rattle.cs_numbers.proofs.Roots.{walked_one, walked_all}
use Rattle.cs_numbers.proofs.adding.+adding.Goals as goal

pub add_all-loop-last-preserved : goal.add_all-loop-last-preserved
add_all-loop-last-preserved t c = record {
  fewer = (let a = c.loop-last.invariant.fewer in let b = c.in-Some.ensures.fewer in omega (arith, a, b));
  forest = c.in-Some.ensures.others;
  same = ap (λ ts. added ts (reverse (seen c.in-Some.others.now))) c.in_ok-number.ensures.terms ∙ sym (c.in-Some.ensures.same (terms_in c.loop-last.all)) ∙ c.loop-last.invariant.same;
  numbers = λ us e. walked_one us (terms_in c.loop-last.all) (terms_in c.add_with.new.all) (seen c.loop-last.left.now) (seen c.in-Some.others.now) c.loop-last.numbers.items c.push.new.self.items (term c.in-Some.last.now.of.value) c.in_ok-number.number (c.loop-last.invariant.numbers us e) c.in-Some.ensures.first c.in_ok-number.ensures.terms c.in_ok-number.ensures.number c.in_ok-push.ensures.items;
}

pub add_all-returns-clause-numbers : goal.add_all-returns-clause-numbers
add_all-returns-clause-numbers t c =
    let none : c.loop-last.left.now ≡ [] = search rules in
    λ us e. walked_all us (terms_in c.loop-last.all) (seen c.loop-last.left.now) c.loop-last.numbers.items (c.loop-last.invariant.numbers us e) (ap seen none)

pub add_with-returns-then-is_some-clause-terms : goal.add_with-returns-then-is_some-clause-terms
add_with-returns-then-is_some-clause-terms t c =
    let k = opened c.parts_at.result (λ ns. parts_at (terms_in c.add_one.new.all) c.in_ok-number.number ≡ Some ns.now) (sym c.is_some.ensures ∙ c.if-is_some.true) c.parts_at.ensures in
    known (terms_in c.args.all.now) (terms_in c.add_one.new.all) (term c.args.t.now.of.value) c.in_ok-number.number k.0.now c.in_ok-number.ensures.terms c.in_ok-number.ensures.number k.1

pub add_with-keep-requires : goal.add_with-keep-requires
add_with-keep-requires t c =
    let u = term c.args.t.now.of.value in
    let end : terms_in c.add_all.new.all ≡ added (terms_in c.add_one.new.all) (inner u) = c.in_ok-parts.ensures.terms ∙ ap (λ xs. added (terms_in c.add_one.new.all) (reverse xs)) c.requires ∙ ap (added (terms_in c.add_one.new.all)) (reverse-reverse (inner u)) in
    let found : places (terms_in c.add_all.new.all) (parts u) ≡ Some c.in_ok-parts.parts.items = c.in_ok-parts.ensures.numbers (parts u) (c.requires ∙ ap reverse (inner_parts u)) in
    kept_now (terms_in c.args.all.now) (terms_in c.add_one.new.all) (terms_in c.add_all.new.all) u c.in_ok-number.number c.in_ok-parts.parts.items c.in_ok-number.ensures.terms c.in_ok-number.ensures.number end found

pub add_with-returns-clause-number : goal.add_with-returns-clause-number
add_with-returns-clause-number t c =
    let u = term c.args.t.now.of.value in
    let end : terms_in c.add_all.new.all ≡ added (terms_in c.add_one.new.all) (inner u) = c.in_ok-parts.ensures.terms ∙ ap (λ xs. added (terms_in c.add_one.new.all) (reverse xs)) c.requires ∙ ap (added (terms_in c.add_one.new.all)) (reverse-reverse (inner u)) in
    let same : terms_in c.keep.new.self ≡ terms_in c.add_all.new.all = ap (map (λ x. term x.value)) c.keep.ensures in
    placed_now (terms_in c.add_one.new.all) (terms_in c.keep.new.self) u c.in_ok-number.number c.in_ok-number.ensures.number (same ∙ end)
