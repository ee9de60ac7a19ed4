use Rattle.std.proofs.Common.{rules, ◌∙◌, ◌<◌, ◌++◌, ◌∷◌, [], List, length, ap, sym, refl, subst}
use Rattle.cs_linear.specs.declared.values.Move.{Move}
use Rattle.vx_frac.specs.Fraction.{fraction}
use Rattle.cs_linear.specs.Numbers.{plus}
use Rattle.cs_linear.specs.Values.{value}
use Rattle.cs_linear.specs.declared.rows.Row.{Row}
use Rattle.cs_linear.proofs.Lists.{read_as}
use Rattle.cs_linear.proofs.Following.{all_unmoved, first_moves, row_follows, all_follow, one_within, row_within}
use Rattle.cs_linear.proofs.values.moves.Goals as goal

pub returns-then-num-eq0-clause-value : goal.returns-then-num-eq0-clause-value
returns-then-num-eq0-clause-value c homes t f =
    all_unmoved c.args.rows.now homes c.args.column c.args.by c.args.values.now c.new-moves.result.items (search rules) c.new-moves.ensures.items

pub loop-row-init : goal.loop-row-init
loop-row-init c =
    let at = ap value (read_as c.args.values.now c.args.column c.index-values-column.result c.requires.column c.index-values-column.is) in
    record {
      following = λ homes t f.
          first_moves c.args.rows.now homes c.args.column (fraction c.args.by) c.args.values.now c.push.new.self.items (record { column = c.args.column; value = c.in_ok-value.value }) f c.requires.column
          (c.in_ok-push.ensures.items ∙ ap (λ (ms : List Move). ms ++ record { column = c.args.column; value = c.in_ok-value.value } ∷ []) c.new-moves.ensures.items) refl
          (c.in_ok-value.ensures.value ∙ ap (λ v. plus v (fraction c.args.by)) (sym at));
      within = one_within c.push.new.self.items (record { column = c.args.column; value = c.in_ok-value.value }) (length c.args.values.now)
          (c.in_ok-push.ensures.items ∙ ap (λ (ms : List Move). ms ++ record { column = c.args.column; value = c.in_ok-value.value } ∷ []) c.new-moves.ensures.items) c.requires.column;
    }

pub follow-requires-clause-ascends : goal.follow-requires-clause-ascends
follow-requires-clause-ascends c = c.requires.ascend c.loop-row.row-index c.row-item.result (read_as c.args.rows.now c.loop-row.row-index c.row-item.result c.loop-row-test.true c.row-item.is)

pub loop-row-preserved : goal.loop-row-preserved
loop-row-preserved c =
    let i = c.loop-row.row-index in
    let r = c.row-item.result in
    let known = subst (λ (r : Row). r.basic < length c.args.values.now) (sym c.row-item.is) (c.requires.known i r c.loop-row-test.true) in
    record {
      following = λ homes t f.
          row_follows c.args.rows.now homes c.args.column (fraction c.args.by) c.args.values.now i r (read_as c.args.rows.now i r c.loop-row-test.true c.row-item.is) t
          c.loop-row.moves.items c.follow.new.moves.items known c.in_ok-follow.ensures.value (c.loop-row.invariant.following homes t f);
      within = row_within r c.args.column (fraction c.args.by) c.args.values.now c.loop-row.moves.items c.follow.new.moves.items known c.in_ok-follow.ensures.value c.loop-row.invariant.within;
    }

pub returns-clause-value : goal.returns-clause-value
returns-clause-value c homes t f = all_follow c.args.rows.now homes c.args.column (fraction c.args.by) c.args.values.now _ c.loop-row.row-index c.loop-row-test.false t (c.loop-row.invariant.following homes t f)
