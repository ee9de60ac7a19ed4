-- Which members' parts are read while another's part is read, on one level.
use Rattle.std.specs.Prelude.{◌≡◌, ℕ, zero, suc, List, [], ◌++◌, Option, Some, None}
use Rattle.vx_ast.specs.Syntax.{Name, Program, Predicate, Function, predicate_named, function_named, joined}
use Rattle.vx_ast.specs.Apart.{entered_by, entered_by_measure, entered_by_body, Stands}
use Rattle.vx_ast.specs.Mentions.{ReachesBy}
use Rattle.vx_terms.specs.Interpretations.{Each}

-- an application reads the precondition and the measure on its own level
abbrev pub entered_by_function : Option Function → List Name
entered_by_function None = []
entered_by_function (Some g) = entered_by (joined g.place g.requires) ++ entered_by_measure g.decreases

-- an unfolding reads the body on its own level
abbrev pub entered_by_predicate : Option Predicate → List Name
entered_by_predicate None = []
entered_by_predicate (Some d) = entered_by_body d.body

abbrev pub entered_from : Program → Name → List Name
entered_from p x = entered_by_function (function_named p x) ++ entered_by_predicate (predicate_named p x)

-- x, what is entered from x, what is entered from that, ..: no more than n functions and predicates, one from another
abbrev pub IsWithin : Program → ℕ → Name → Type 0
IsWithin p zero x = (function_named p x ≡ None) × (predicate_named p x ≡ None)
IsWithin p (suc n) x = Each (IsWithin p n) (entered_from p x)

abbrev pub Enters : Program → Name → Name → Type 0
Enters p x y = Stands y (entered_from p x)

-- y is entered from x, or from what is entered from x, .., n times at most
abbrev pub LeadsBy : Program → ℕ → Name → Name → Type 0
LeadsBy p n x y = ReachesBy (Enters p) n x y

-- no function's precondition or measure applies the function again, nor does a predicate's body unfold the predicate,
-- also by way of others; Viper asks the same of preconditions, and here typing has to refuse the others too
abbrev pub NoneWithinItself : Program → Type 0
NoneWithinItself p = (n : ℕ) (x : Name) → LeadsBy p n x x → ⊥
