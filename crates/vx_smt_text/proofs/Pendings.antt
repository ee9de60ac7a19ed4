-- One more to be written.
use Rattle.std.proofs.Common.{◌≡◌, ◌+◌, List, [], ◌∷◌, ◌++◌, refl, sym, ap, ◌∙◌, append_assoc, arith}
use Rattle.std.proofs.lemmas.List.{append-nil}
use Rattle.vx_smt_text.specs.declared.terms.Pending.{Pending}
use Rattle.vx_smt_text.specs.Pending.{pending_text, texts, load_of, load, IsSmallPending, ArePendingSmall}

pub texts_more : (ps : List Pending) (p : Pending) → texts (ps ++ p ∷ []) ≡ pending_text p ++ texts ps
texts_more [] p = sym (append-nil (pending_text p))
texts_more (q ∷ ps) p = ap (λ x. x ++ pending_text q) (texts_more ps p) ∙ append_assoc (pending_text p) (texts ps) (pending_text q)

pub load_more : (ps : List Pending) (p : Pending) → load (ps ++ p ∷ []) ≡ load_of p + load ps
load_more [] p = refl
load_more (q ∷ ps) p = let h = load_more ps p in omega (arith, h)

pub small_more : (ps : List Pending) (p : Pending) → ArePendingSmall (ps ++ p ∷ []) → IsSmallPending p × ArePendingSmall ps
small_more [] p h = (h.0, tt)
small_more (q ∷ ps) p h = let more = small_more ps p h.1 in (more.0, (h.0, more.1))

pub small_join : (ps : List Pending) (p : Pending) → IsSmallPending p → ArePendingSmall ps → ArePendingSmall (ps ++ p ∷ [])
small_join [] p h k = (h, tt)
small_join (q ∷ ps) p h k = (k.0, small_join ps p h k.1)
