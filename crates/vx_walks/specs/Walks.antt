-- What the laws of walks speak of. The walk over replies is that of the rules' trees, after the Silicon thesis.
use Rattle.std.specs.Prelude.{◌≡◌, List, ◌++◌}
use Rattle.vx_rules.specs.Trees.{Ending, Passed, Failed, Open, Walked}

-- it has passed or failed
abbrev pub IsOver : Ending → Type 0
IsOver Passed = Unit {0}
IsOver (Failed place code reply) = Unit {0}
IsOver (Open q) = ⊥

-- the one list is the beginning of the other
abbrev pub Begins : {A : Type 0} → List A → List A → Type 0
Begins {A} xs ys = (rest : List A) × (ys ≡ xs ++ rest)

abbrev pub followed_by : Ending → Walked → Walked → Walked
followed_by Passed w v = record { answered = w.answered ++ v.answered; ending = v.ending }
followed_by (Failed place code reply) w v = w
followed_by (Open q) w v = w

-- one walk and, where it passes, the other
abbrev pub followed : Walked → Walked → Walked
followed w v = followed_by w.ending w v
