-- One more that is pending.
use Rattle.std.proofs.Common.{◌≡◌, ◌+◌, Bool, true, false, ◌&&◌, List, [], ◌∷◌, ◌++◌, refl, sym, ap, ◌∙◌, arith}
use Rattle.std.proofs.Math.Bool.{and-true}
use Rattle.cs_writable.specs.declared.term_walk.Pending.{Pending}
use Rattle.cs_writable.specs.Pending.{one_writable, all_writable, load_of, load}

pub and_parted : (a b c : Bool) → ((a && b) && c) ≡ (a && (b && c))
and_parted true b c = refl
and_parted false b c = refl

pub writable_more : (ps : List Pending) (p : Pending) → all_writable (ps ++ p ∷ []) ≡ (one_writable p && all_writable ps)
writable_more [] p = sym (and-true (one_writable p))
writable_more (q ∷ ps) p = ap (λ b. b && one_writable q) (writable_more ps p) ∙ and_parted (one_writable p) (all_writable ps) (one_writable q)

pub load_more : (ps : List Pending) (p : Pending) → load (ps ++ p ∷ []) ≡ load_of p + load ps
load_more [] p = refl
load_more (q ∷ ps) p = let h = load_more ps p in omega (arith, h)
