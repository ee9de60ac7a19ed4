use Rattle.std.proofs.Common.{◌≡◌, ◌+◌, ◌<◌, ◌≤◌, [], ◌∷◌, ◌++◌, length, drop, map, false, sym, ◌∙◌, ap, ap₂, arith}
use Rattle.std.proofs.lemmas.List.{map-append, drop_all, length-map}
use Rattle.vx_frac.specs.Fraction.{fraction}
use Rattle.cs_table.specs.Views.{nodes}
use Rattle.cs_table.specs.Gives.{clause, numbered}
use Rattle.cs_table.specs.declared.steps.Literal.{Literal}
use Rattle.cs_farkas.specs.Rows.{parts_of, Part}
use Rattle.cs_farkas.specs.Views as views
use Rattle.cs_farkas.proofs.Parts.{joined, no_parts, at_first, at_end, missing, further}
use Rattle.cs_farkas.proofs.combine.parts_of.Goals as goal

abbrev none_yet : Literal
none_yet = record { positive = false; number = 0 }

pub returns-then-literals-multipliers : goal.returns-then-literals-multipliers
returns-then-literals-multipliers c =
    no_parts (nodes c.args.all.now) (clause c.args.literals.now) (map fraction c.args.multipliers.now)
    (λ e. c.if-literals-multipliers.true (sym (length-map c.args.literals.now numbered) ∙ e ∙ length-map c.args.multipliers.now fraction))

pub loop-at-init : goal.loop-at-init
loop-at-init c =
    at_first (parts_of (nodes c.args.all.now) (clause c.args.literals.now) (map fraction c.args.multipliers.now))
    ∙ ap (λ ps. joined (map views.part ps) (parts_of (nodes c.args.all.now) (clause c.args.literals.now) (map fraction c.args.multipliers.now))) (sym c.new-parts.ensures.items)

pub returns-in-None : goal.returns-in-None
returns-in-None c =
    let lm : c.loop-at.at < length c.args.multipliers.now = omega arith in
    c.loop-at.invariant ∙ missing (nodes c.args.all.now) c.args.literals.now c.args.multipliers.now c.loop-at.at (map views.part c.loop-at.parts.items) none_yet c.index-multipliers-at.result c.loop-at-test.true lm c.index-multipliers-at.is (sym c.in-None.ensures)

pub loop-at-preserved : goal.loop-at-preserved
loop-at-preserved c =
    let lm : c.loop-at.at < length c.args.multipliers.now = omega arith in
    let more : Part = record { bound = views.bound c.in-Some.bound; multiplier = fraction c.index-multipliers-at.result } in
    let items : map views.part c.push.new.self.items ≡ map views.part c.loop-at.parts.items ++ more ∷ [] = ap (map views.part) c.in_ok-push-in-Some.ensures.items ∙ map-append views.part c.loop-at.parts.items _ in
    c.loop-at.invariant
    ∙ further (nodes c.args.all.now) c.args.literals.now c.args.multipliers.now c.loop-at.at (map views.part c.loop-at.parts.items) none_yet c.index-multipliers-at.result c.loop-at-test.true lm c.index-multipliers-at.is (views.bound c.in-Some.bound) (sym c.in-Some.ensures)
    ∙ ap (λ ps. joined ps (parts_of (nodes c.args.all.now) (clause (drop (c.loop-at.at + 1) c.args.literals.now)) (map fraction (drop (c.loop-at.at + 1) c.args.multipliers.now)))) (sym items)

pub returns : goal.returns
returns c =
    let lm : length c.args.multipliers.now ≤ c.loop-at.at = omega arith in
    c.loop-at.invariant
    ∙ ap (joined (map views.part c.loop-at.parts.items)) (ap₂ (λ x y. parts_of (nodes c.args.all.now) (clause x) (map fraction y)) (drop_all _ c.args.literals.now c.loop-at-test.false) (drop_all _ c.args.multipliers.now lm))
    ∙ at_end (map views.part c.loop-at.parts.items)
