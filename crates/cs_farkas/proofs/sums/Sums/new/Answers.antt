use Rattle.std.proofs.Common.{pos, map, length, sym, ◌∙◌, ap}
use Rattle.std.specs.Prelude.{replicate}
use Rattle.std.specs.Ordering.{int_eq}
use Rattle.std.proofs.lemmas.List.{length-replicate}
use Rattle.vx_frac.specs.Fraction.{fraction}
use Rattle.vx_frac.specs.Fractions.{Fraction, none}
use Rattle.cs_farkas.specs.Columns.{others_in}
use Rattle.cs_farkas.proofs.Cleared.{replicated, none_counted}
use Rattle.cs_farkas.proofs.sums.Sums.new.Goals as goal

pub invariant_of-result : goal.invariant_of-result
invariant_of-result c = record {
  counted =
      none_counted c.args.columns c.whole-2.result (ap (λ (a : Fraction). int_eq a.numerator (pos 0)) c.whole-2.ensures)
      ∙ ap others_in (sym (c.in_ok-vec.ensures.items_if_clones_equal (λ y e. e)));
}

pub returns-clause-clear : goal.returns-clause-clear
returns-clause-clear c =
    let items = c.in_ok-vec.ensures.items_if_clones_equal (λ y e. e) in
    ap (map fraction) items ∙ replicated c.args.columns c.whole-2.result c.whole-2.ensures
    ∙ ap (λ n. replicate n none) (sym (ap length items ∙ length-replicate c.args.columns c.whole-2.result))
