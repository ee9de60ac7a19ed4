-- What typing refuses as E28: an application in a predicate's body or a measure, an application of its own group in a
-- function's precondition, an unfolding of its own group in a predicate's body. Source: the Silicon thesis, on which parts
-- of other members are read where.
use Rattle.std.specs.Prelude.{◌≡◌, ◌⊎◌, ℕ, List, [], ◌∷◌, ◌++◌, Option, Some, None}
use Rattle.vx_ast.specs.Syntax.{Name, Program, Predicate, Function, Assertion, Pure, Points, Instance, Both, Implied, Chosen, Measure, ByNumber, ByInstance, predicate_named, function_named, joined}
use Rattle.vx_ast.specs.Mentions as mentions
use Rattle.vx_ast.specs.Mentions.{mentioned, mentioned_in, mentioned_by, mentions_of}

abbrev pub Stands : Name → List Name → Type 0
Stands x [] = ⊥
Stands x (y ∷ ys) = (x ≡ y) ⊎ Stands x ys

-- the functions applied and the predicates unfolded by what is evaluated of an assertion; not the instances held
abbrev pub entered_by : Assertion → List Name
entered_by (Pure e) = mentioned e
entered_by (Points at e f share) = mentioned e ++ mentioned share
entered_by (Instance at i es share) = mentioned_in es ++ mentioned share
entered_by (Both a b) = entered_by a ++ entered_by b
entered_by (Implied c a) = mentioned c ++ entered_by a
entered_by (Chosen c a b) = mentioned c ++ entered_by a ++ entered_by b

abbrev pub entered_by_measure : Option Measure → List Name
entered_by_measure None = []
entered_by_measure (Some (ByNumber e)) = mentioned e
entered_by_measure (Some (ByInstance at i es)) = mentioned_in es

abbrev pub entered_by_body : Option Assertion → List Name
entered_by_body None = []
entered_by_body (Some a) = entered_by a

abbrev pub mentioned_by_body : Option Assertion → List Name
mentioned_by_body None = []
mentioned_by_body (Some a) = mentioned_by a

abbrev pub mentioned_by_predicate : Option Predicate → List Name
mentioned_by_predicate None = []
mentioned_by_predicate (Some d) = mentioned_by_body d.body

-- a function mentions in its body and its contract, a predicate in its body
abbrev pub mentioned_from : Program → Name → List Name
mentioned_from p x = mentions_of (function_named p x) ++ mentioned_by_predicate (predicate_named p x)

abbrev pub Mentions : Program → Name → Name → Type 0
Mentions p x y = Stands y (mentioned_from p x)

-- x mentions y, or what it mentions does, .., n times at most
abbrev pub ReachesBy : Program → ℕ → Name → Name → Type 0
ReachesBy p n x y = mentions.ReachesBy (Mentions p) n x y

abbrev pub Reaches : Program → Name → Name → Type 0
Reaches p x y = mentions.Reaches (Mentions p) x y

abbrev pub IsNoFunction : Program → Name → Type 0
IsNoFunction p x = (g : Function) → function_named p x ≡ Some g → ⊥

-- of what is mentioned, those that lead back are of the own group
pub record KeepsApart (p : Program) : Type 0 where
  pub measure : (f : Name) (g : Function) (x : Name) → function_named p f ≡ Some g → Stands x (entered_by_measure g.decreases) → IsNoFunction p x
  pub body : (i : Name) (d : Predicate) (x : Name) → predicate_named p i ≡ Some d → Stands x (entered_by_body d.body) → IsNoFunction p x
  pub precondition : (f : Name) (g : Function) (x : Name) → function_named p f ≡ Some g → Stands x (entered_by (joined g.place g.requires)) → Reaches p x f → ⊥
  pub unfolding_body : (i : Name) (d : Predicate) (x : Name) → predicate_named p i ≡ Some d → Stands x (entered_by_body d.body) → Reaches p x i → ⊥
