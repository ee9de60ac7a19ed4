use Rattle.std.proofs.Common.{◌≡◌, ◌∙◌, ◌++◌, ap, sym, append_assoc, ◌<◌, subst, arith, rules}
use Rattle.std.specs.declared.alloc.Global.{Global}
use Rattle.std.specs.declared.rc.Rc.{Rc}
use Rattle.vx_resolved.specs.declared.Stmt.{Stmt}
use Rattle.vx_resolved.specs.declared.Block.TheViews.{the_lemmas}
use Rattle.vx_resolved.specs.declared.Block.{Block as Block', size-Block, Then as Then_}
use Rattle.vx_ast.specs.Syntax.{Then, assigned, assigned_in}
use Rattle.vx_resolved.specs.Resolved.{block, stmt, names_of}
use Rattle.vx_rules.specs.Members.{forget}
use Rattle.vx_states.specs.SymStates.{state}
use Rattle.vx_states.proofs.state.SymState.+forgetting.Goals as goal

under : (b : Block') (s : Rc Stmt Global) (r : Rc Block' Global) → b ≡ Then_ s r → size-Block r.value < size-Block b
under b s r e = subst (λ y. size-Block r.value < size-Block y) (sym e) (search (rules, the_lemmas))

pub forget_block-loop-left-preserved : goal.forget_block-loop-left-preserved
forget_block-loop-left-preserved t c =
    let d = names_of c.loop-left.done.items in
    let s = state c.loop-left.self in
    let first = c.deref.result.now in
    let left = c.deref-left.result.now in
    let e : Then (stmt first) (block left) ≡ block c.loop-left.left.now =
    ap (λ y. Then (stmt y) (block left)) c.deref.ensures ∙ ap (λ y. Then (stmt c.in-Then.first.value) (block y)) c.deref-left.ensures ∙ sym (ap block c.in-Then.is) in (
      omega (arith, under c.loop-left.left.now c.in-Then.first c.in-Then.others c.in-Then.is, c.loop-left.invariant.0, ap size-Block c.deref-left.ensures),
      λ rest. c.in_ok-forget_stmt-in-Then.ensures (assigned_in (block left) ++ rest)
          ∙ ap (λ l. forget d l s) (sym (append_assoc (assigned (stmt first)) (assigned_in (block left)) rest))
          ∙ ap (λ b. forget d (assigned_in b ++ rest) s) e
          ∙ c.loop-left.invariant.1 rest,
    )
