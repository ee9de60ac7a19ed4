use Rattle.cs_linear.specs.declared.rows.Entry.{Entry}
use Rattle.cs_linear.proofs.Lists.{past_none, here_is}
use Rattle.std.proofs.Common.{◌≡◌, ap, get_or, sym, ◌∙◌, arith}
use Rattle.cs_linear.proofs.rows.next.Goals as goal

pub next_left-requires-clause-before : goal.next_left-requires-clause-before
next_left-requires-clause-before c l r el er = past_none c.args.right.now c.args.j r c.if-j-right.true er

pub next_right-requires-clause-before : goal.next_right-requires-clause-before
next_right-requires-clause-before c l r el er = past_none c.args.left.now c.args.i r c.if-i-left.true er

pub next_both-requires-clause-same : goal.next_both-requires-clause-same
next_both-requires-clause-same c l r el er =
    let p : (get_or c.args.left.now c.args.i c.index-left-i.result).column ≡ l.column = ap (λ (e : Entry). e.column) (here_is c.args.left.now c.args.i c.index-left-i.result l c.if-i-left.false el) in
    let q : (get_or c.args.right.now c.args.j c.index-right-j.result).column ≡ r.column = ap (λ (e : Entry). e.column) (here_is c.args.right.now c.args.j c.index-right-j.result r c.if-j-right.false er) in
    sym p ∙ c.if-l-r.true ∙ q

pub next_left-requires-then-l-r-2-clause-before : goal.next_left-requires-then-l-r-2-clause-before
next_left-requires-then-l-r-2-clause-before c l r el er =
    let p : (get_or c.args.left.now c.args.i c.index-left-i.result).column ≡ l.column = ap (λ (e : Entry). e.column) (here_is c.args.left.now c.args.i c.index-left-i.result l c.if-i-left.false el) in
    let q : (get_or c.args.right.now c.args.j c.index-right-j.result).column ≡ r.column = ap (λ (e : Entry). e.column) (here_is c.args.right.now c.args.j c.index-right-j.result r c.if-j-right.false er) in
    omega (arith, p, q, c.if-l-r-2.true)

pub next_right-requires-2-clause-before : goal.next_right-requires-2-clause-before
next_right-requires-2-clause-before c r l er el =
    let p : (get_or c.args.left.now c.args.i c.index-left-i.result).column ≡ l.column = ap (λ (e : Entry). e.column) (here_is c.args.left.now c.args.i c.index-left-i.result l c.if-i-left.false el) in
    let q : (get_or c.args.right.now c.args.j c.index-right-j.result).column ≡ r.column = ap (λ (e : Entry). e.column) (here_is c.args.right.now c.args.j c.index-right-j.result r c.if-j-right.false er) in
    omega (arith, p, q, c.if-l-r.false, c.if-l-r-2.false)
