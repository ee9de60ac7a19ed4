use Rattle.std.proofs.Common.{◌≡◌, ◌∙◌, ◌++◌, ap, sym, append_assoc, ◌<◌, subst, arith, rules}
use Rattle.std.specs.declared.alloc.Global.{Global}
use Rattle.std.specs.declared.rc.Rc.{Rc}
use Rattle.vx_ast.specs.Mentions.{mentioned, mentioned_in}
use Rattle.vx_ast.specs.Syntax.{More}
use Rattle.vx_resolved.specs.Resolved.{expr, exprs}
use Rattle.vx_resolved.specs.declared.Expr.{Expr}
use Rattle.vx_resolved.specs.declared.Expr.TheViews.{the_lemmas}
use Rattle.vx_resolved.specs.declared.Exprs.{Exprs, size-Exprs, More as More_}
use Rattle.vx_settling.specs.Found.{found}
use Rattle.vx_settling.specs.Tables.{listed}
use Rattle.vx_settling.proofs.mentions.+exprs.Goals as goal

under : (es : Exprs) (e : Rc Expr Global) (r : Rc Exprs Global) → es ≡ More_ e r → size-Exprs r.value < size-Exprs es
under es e r is = subst (λ y. size-Exprs r.value < size-Exprs y) (sym is) (search (rules, the_lemmas))

pub add_exprs-loop-left-preserved : goal.add_exprs-loop-left-preserved
add_exprs-loop-left-preserved t c =
    let p = listed c.args.table.now in
    let row = c.loop-left.row.items in
    let first = c.deref.result.now in
    let left = c.deref-left.result.now in
    let e : More (expr first) (exprs left) ≡ exprs c.loop-left.left.now =
    ap (λ y. More (expr y) (exprs left)) c.deref.ensures ∙ ap (λ y. More (expr c.in-More.first.value) (exprs y)) c.deref-left.ensures ∙ sym (ap exprs c.in-More.is) in
    record {
      smaller = omega (arith, under c.loop-left.left.now c.in-More.first c.in-More.others c.in-More.is, c.loop-left.invariant.smaller, ap size-Exprs c.deref-left.ensures);
      added = λ rest.
          c.in_ok-add_expr-in-More.ensures (mentioned_in (exprs left) ++ rest)
          ∙ ap (found p row) (sym (append_assoc (mentioned (expr first)) (mentioned_in (exprs left)) rest))
          ∙ ap (λ es. found p row (mentioned_in es ++ rest)) e
          ∙ c.loop-left.invariant.added rest;
    }
