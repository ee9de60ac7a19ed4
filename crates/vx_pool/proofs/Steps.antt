-- What is told behind a step that is known.
use Rattle.std.proofs.Common.{◌≡◌, List, sym, ◌∙◌, ap, subst}
use Rattle.vx_pool.specs.declared.next.Next.{Next}
use Rattle.vx_pool.specs.Events.{Event, with_leaving}

-- what is told of the events behind a step n is told of all events, where n is m
pub told_at : {F : Type 0} → (P : List (Event F) → Type 0) (log before : List (Event F)) (n m : Next) → n ≡ m → log ≡ with_leaving before n → P (with_leaving before m) → P log
told_at P log before n m is told p = subst P (sym (told ∙ ap (with_leaving before) is)) p
