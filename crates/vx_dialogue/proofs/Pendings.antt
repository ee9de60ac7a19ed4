-- One more that is pending.
use Rattle.std.proofs.Common.{◌≡◌, ◌+◌, List, [], ◌∷◌, ◌++◌, refl, ap, arith}
use Rattle.vx_smt_meaning.specs.Commands.{Declared}
use Rattle.vx_dialogue.specs.declared.pending.Pending.{Pending}
use Rattle.vx_dialogue.specs.Pending.{with_one, with_pending, load_of, load}

pub pending_more : (ds : List Declared) (ps : List Pending) (p : Pending) → with_pending ds (ps ++ p ∷ []) ≡ with_pending (with_one ds p) ps
pending_more ds [] p = refl
pending_more ds (q ∷ ps) p = ap (λ es. with_one es q) (pending_more ds ps p)

pub load_more : (ps : List Pending) (p : Pending) → load (ps ++ p ∷ []) ≡ load_of p + load ps
load_more [] p = refl
load_more (q ∷ ps) p = let h = load_more ps p in omega (arith, h)
