-- Of what applies no function nothing changes: it is asking, and its asking tree is its tree with nothing applied.
use Rattle.vx_ast.specs.Syntax.{Program}
use Rattle.vx_sound_preds.proofs.Same.{same_tree, same_entries, plain_asks}
use Rattle.vx_sound_funcs.specs.Laws.{PlainIsAsking}

module _ (p : Program) where
  pub plain_is_asking : PlainIsAsking p
  plain_is_asking a k = (
    plain_asks p a k,
    λ f s ap'. (same_tree p ap' f s a k, same_entries p ap' s a k),
  )
