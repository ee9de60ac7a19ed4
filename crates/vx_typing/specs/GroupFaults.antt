-- The first fault of groups: measures, function by function, and then what leads back to its own group.
use Rattle.std.specs.Prelude.{ℕ, zero, suc, Bool, true, false, not, ◌&&◌, ◌||◌, length, List, [], ◌∷◌, Option, Some, None, Ok, Err, if◌then◌else◌, ⊤}
use Rattle.vx_ast.specs.declared.Place.{Place}
use Rattle.vx_ast.specs.Written.{Expr, Kind, IsPredicate, IsFunction, Member, Program, measure_of}
use Rattle.vx_expressions.specs.Settings.{Table}
use Rattle.vx_expressions.specs.Faults.{Checked, ◌>>=◌, NoMeasure, MixedMeasures, NotHere, unless}
use Rattle.vx_typing.specs.Members.{table_of}
use Rattle.vx_typing.specs.Measures.{is_instance}
use Rattle.vx_typing.specs.Uses.{Use, uses_before, uses_of_body}
use Rattle.vx_typing.specs.Groups.{kind_at, in_group, is_own}

-- some number below n passes
abbrev pub some_below : ℕ → (ℕ → Bool) → Bool
some_below zero passes = false
some_below (suc n) passes = passes n || some_below n passes

-- a measure of this kind
abbrev pub has_measure : Table → Bool → Option Expr → Bool
has_measure table by_instance None = false
has_measure table by_instance (Some e) = if by_instance then is_instance table e else not (is_instance table e)

abbrev pub measures_by : Table → Bool → Option Kind → Bool
measures_by table by_instance (Some (IsFunction f)) = has_measure table by_instance (measure_of f.clauses)
measures_by table by_instance _ = false

-- a function of the group measures so
abbrev pub some_measures_by : Program → ℕ → Bool → Bool
some_measures_by p a by_instance = some_below (length p) (λ b. in_group p a b && measures_by (table_of p) by_instance (kind_at p b))

-- the kind of the own measure
abbrev pub own_measure : Table → Place → Option Expr → Checked Bool
own_measure table at None = Err (NoMeasure at)
own_measure table at (Some e) = Ok (is_instance table e)

-- of a function that reaches itself: it has a measure, and the first function of its group that is met tells whether another
-- measures otherwise
abbrev pub group_measured : Program → ℕ → Place → Option Expr → Checked ⊤
group_measured p a at measure =
    own_measure (table_of p) at measure >>= λ by_instance. unless (not (some_measures_by p a (not by_instance))) (MixedMeasures at)

abbrev pub measured : Program → ℕ → Place → Kind → Checked ⊤
measured p a at (IsFunction f) = if in_group p a a then group_measured p a at (measure_of f.clauses) else Ok tt
measured p a at _ = Ok tt

-- the members from number a on
abbrev pub measures : Program → ℕ → List Member → Checked ⊤
measures p a [] = Ok tt
measures p a (m ∷ ms) = measured p a m.place m.kind >>= λ _. measures p (suc a) ms

-- none is of the own group: all of them, or those that are unfolded
abbrev pub none_own : Program → ℕ → Bool → List Use → Checked ⊤
none_own p a all [] = Ok tt
none_own p a all (u ∷ us) = unless (not ((all || u.unfolds) && is_own p a u.name)) (NotHere u.place) >>= λ _. none_own p a all us

abbrev pub apart : Program → ℕ → Kind → Checked ⊤
apart p a (IsFunction f) = none_own p a true (uses_before f.clauses [])
apart p a (IsPredicate d) = none_own p a false (uses_of_body d.body [])
apart p a _ = Ok tt

abbrev pub all_apart : Program → ℕ → List Member → Checked ⊤
all_apart p a [] = Ok tt
all_apart p a (m ∷ ms) = apart p a m.kind >>= λ _. all_apart p (suc a) ms
