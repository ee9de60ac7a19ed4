use Rattle.std.proofs.Common.{◌≡◌, ◌∙◌, ◌++◌, ap, sym, append_assoc, ◌<◌, subst, arith, rules}
use Rattle.std.specs.declared.alloc.Global.{Global}
use Rattle.std.specs.declared.rc.Rc.{Rc}
use Rattle.vx_ast.specs.Syntax.{Then}
use Rattle.vx_resolved.specs.Resolved.{block, stmt}
use Rattle.vx_resolved.specs.Settled.{settled}
use Rattle.vx_resolved.specs.declared.Stmt.{Stmt}
use Rattle.vx_resolved.specs.declared.Block.TheViews.{the_lemmas}
use Rattle.vx_resolved.specs.declared.Block.{Block, size-Block, Then as Then_}
use Rattle.vx_types.specs.Closure.{mentioned_by_stmt, mentioned_by_block}
use Rattle.vx_closure.specs.Known.{known}
use Rattle.vx_closure.proofs.mentions.+blocks.Goals as goal

under : (b : Block) (s : Rc Stmt Global) (r : Rc Block Global) → b ≡ Then_ s r → size-Block r.value < size-Block b
under b s r is = subst (λ y. size-Block r.value < size-Block y) (sym is) (search (rules, the_lemmas))

pub add_block-loop-left-preserved : goal.add_block-loop-left-preserved
add_block-loop-left-preserved t c =
    let p = settled c.args.program.now in
    let rows = c.loop-left.rows.items in
    let a = c.args.by.0 in
    let first = c.deref.result.now in
    let left = c.deref-left.result.now in
    let e : Then (stmt first) (block left) ≡ block c.loop-left.left.now =
    ap (λ y. Then (stmt y) (block left)) c.deref.ensures ∙ ap (λ y. Then (stmt c.in-Then.first.value) (block y)) c.deref-left.ensures ∙ sym (ap block c.in-Then.is) in
    record {
      smaller = omega (arith, under c.loop-left.left.now c.in-Then.first c.in-Then.others c.in-Then.is, c.loop-left.invariant.smaller, ap size-Block c.deref-left.ensures);
      members = c.in_ok-add_stmt-in-Then.ensures.members ∙ c.loop-left.invariant.members;
      added = λ rest.
          c.in_ok-add_stmt-in-Then.ensures.added (mentioned_by_block p (block left) ++ rest)
          ∙ ap (known p rows a) (sym (append_assoc (mentioned_by_stmt p (stmt first)) (mentioned_by_block p (block left)) rest))
          ∙ ap (λ b. known p rows a (mentioned_by_block p b ++ rest)) e
          ∙ c.loop-left.invariant.added rest;
    }
