-- What a path begins with; and what grows from a path grows from each shorter one.
use Rattle.std.proofs.Common.{◌≡◌, ◌∙◌, refl, ap, List, [], ◌∷◌, ◌++◌, append_assoc}
use Rattle.vx_terms.specs.Terms.{Term}
use Rattle.vx_rules.specs.Trees.{Tree, End, Impossible, On, Step, Ask, Probe, Fork}
use Rattle.vx_grows.specs.Grows.{Begins, Grows}

append_nil : (ts : List Term) → ts ≡ ts ++ []
append_nil [] = refl
append_nil (t ∷ ts) = ap (λ us. t ∷ us) (append_nil ts)

-- each path begins with nothing, and with itself
pub at_first : {path : List Term} → Begins [] path
at_first {path = path} = record { rest = path; is = refl }

pub itself : {path : List Term} → Begins path path
itself {path = path} = record { rest = []; is = append_nil path }

pub further : {a b c : List Term} → Begins a b → Begins b c → Begins a c
further {a = a} k l = record { rest = k.rest ++ l.rest; is = l.is ∙ ap (λ ts. ts ++ l.rest) k.is ∙ append_assoc a k.rest l.rest }

pub sooner : {base path : List Term} (t : Tree) → Begins base path → Grows path t → Grows base t
sooner End b g = tt
sooner (Impossible s) b g = tt
sooner (On t s) b g = further b g
sooner (Step t) b g = sooner t b g
sooner (Ask q t) b g = (further b g.0, g.1)
sooner (Probe q x y) b g = (further b g.0, g.1, g.2)
sooner (Fork x y) b g = (sooner x b g.0, sooner y b g.1)
