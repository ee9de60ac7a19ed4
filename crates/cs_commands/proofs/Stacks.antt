-- One more open list.
use Rattle.std.proofs.Common.{◌≡◌, List, [], ◌∷◌, ◌++◌, refl, ap}
use Rattle.cs_commands.specs.declared.term.Frame.{Frame as Frame'}
use Rattle.cs_commands.specs.Views.{frame, stack}

pub stack_more : (fs : List Frame') (f : Frame') → stack (fs ++ f ∷ []) ≡ frame f ∷ stack fs
stack_more [] f = refl
stack_more (g ∷ fs) f = ap (λ gs. gs ++ frame g ∷ []) (stack_more fs f)
