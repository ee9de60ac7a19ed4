-- What is kept of the links that were handed back.
use Rattle.std.specs.Prelude.{List, [], ◌∷◌, map}
use Rattle.vx_companion.specs.declared.builtin.EndedLink.{EndedLink}
use Rattle.vx_companion.specs.Companion.{AllByCompanion}

pub by_companion : (links : List EndedLink) → AllByCompanion (map (λ l. l.ending) links) (map (λ l. l.causes.items) links)
by_companion [] = tt
by_companion (l ∷ links) = (l.right, by_companion links)
