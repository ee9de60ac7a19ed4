use Rattle.std.proofs.Common.{◌≡◌, ℕ, suc, ◌-◌, ◌≤◌, arith, Some, sym, ap, ◌∙◌}
use Rattle.std.specs.Prelude.{slice_get}
use Rattle.vx_frac.specs.Fraction.{fraction}
use Rattle.cs_table.specs.Views.{node, nodes}
use Rattle.cs_farkas.specs.Sums.{read_term, read_node, read_as}
use Rattle.cs_farkas.specs.Views.{sums}
use Rattle.cs_farkas.proofs.Along.{along, node_here, none_here}
use Rattle.cs_farkas.proofs.read.+terms.Goals as goal

less_one : (n m : ℕ) → 1 ≤ n → m ≡ n - 1 → n ≡ suc m
less_one n m h e = omega arith

pub read_term-returns-clause-value : goal.read_term-returns-clause-value
read_term-returns-clause-value t c =
    let ns = nodes c.args.all.now in
    let m = fraction c.args.multiplier in
    let q = fraction c.args.factor in
    let s = sums c.args.to.now in
    let k = c.in-Some.ensures in
    let l = c.in-Some-get.ensures.lookup in
    let fewer : c.args.layers ≡ suc c.in-Some.layers = less_one c.args.layers c.in-Some.layers k.0 k.1 in
    let here : slice_get ns c.args.term ≡ Some (node c.in-Some-get.node.now) = node_here c.args.all.now c.args.term c.in-Some-get.node.now (l.3).0 l.1 in
    along _ _ _ _
    (ap (λ n. read_term ns n m q c.args.term s) fewer
    ∙ ap (read_node ns (read_term ns c.in-Some.layers m) m q c.args.term s) here
    ∙ ap (read_as (read_term ns c.in-Some.layers m) m q c.args.term s) (sym c.reading_of-reading.ensures))
    c.read_as.ensures.value

pub read_term-returns-in_default-get-clause-value : goal.read_term-returns-in_default-get-clause-value
read_term-returns-in_default-get-clause-value t c =
    let ns = nodes c.args.all.now in
    let m = fraction c.args.multiplier in
    let q = fraction c.args.factor in
    let s = sums c.args.to.now in
    let k = c.in-Some.ensures in
    ap (λ n. read_term ns n m q c.args.term s) (less_one c.args.layers c.in-Some.layers k.0 k.1)
    ∙ ap (read_node ns (read_term ns c.in-Some.layers m) m q c.args.term s)
    (none_here c.args.all.now c.args.term (c.in_default-get.ensures.lookup).0)
