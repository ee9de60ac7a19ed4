-- The names of functions and predicates that stand in the parts of a member.
use Rattle.std.specs.Prelude.{Bool, true, false, List, [], ◌∷◌, Option, Some, None, ⊤}
use Rattle.vx_ast.specs.declared.Place.{Place}
use Rattle.vx_ast.specs.Written.{Name, Placed, Expr, Call, Read, Unary, Binary, Choice, Old, Access, Unfolding, Exprs, NoMore, More, Amount, All, Part, Clause, Requires, Ensures, Decreases, Kind, IsPredicate, IsFunction}

-- a name with its place, and whether it is unfolded: if not, a function of that name is applied, or an instance stands there
pub record Use : Type 0 where
  pub place : Place
  pub name : Name
  pub unfolds : Bool

abbrev pub Each : (Use → Type 0) → List Use → Type 0
Each P [] = ⊤
Each P (u ∷ us) = P u × Each P us

abbrev pub calls : Place → Name → Use
calls at f = record { place = at; name = f; unfolds = false }

abbrev pub unfolds_it : Placed → Use
unfolds_it i = record { place = i.place; name = i.name; unfolds = true }

-- the uses in an expression, those of its parts first, and then the rest
abbrev mutual
  pub uses : Expr → List Use → List Use
  uses (Call at f es) rest = uses_in es (calls at f ∷ rest)
  uses (Read at e f) rest = uses e rest
  uses (Unary at op e) rest = uses e rest
  uses (Binary at op a b) rest = uses a (uses b rest)
  uses (Choice at c a b) rest = uses c (uses a (uses b rest))
  uses (Old at e) rest = uses e rest
  uses (Access at e share) rest = uses e (uses_of share rest)
  uses (Unfolding at i es share e) rest = uses_in es (uses_of share (uses e (unfolds_it i ∷ rest)))
  uses e rest = rest

  pub uses_in : Exprs → List Use → List Use
  uses_in NoMore rest = rest
  uses_in (More e es) rest = uses e (uses_in es rest)

  pub uses_of : Amount → List Use → List Use
  uses_of All rest = rest
  uses_of (Part e) rest = uses e rest

abbrev pub uses_of_body : Option Expr → List Use → List Use
uses_of_body None rest = rest
uses_of_body (Some e) rest = uses e rest

-- of preconditions alone
abbrev pub uses_of_precondition : Clause → List Use → List Use
uses_of_precondition (Requires e) rest = uses e rest
uses_of_precondition (Ensures e) rest = rest
uses_of_precondition (Decreases e) rest = rest

abbrev pub uses_before : List Clause → List Use → List Use
uses_before [] rest = rest
uses_before (c ∷ cs) rest = uses_of_precondition c (uses_before cs rest)

-- of preconditions and postconditions
abbrev pub uses_of_clause : Clause → List Use → List Use
uses_of_clause (Requires e) rest = uses e rest
uses_of_clause (Ensures e) rest = uses e rest
uses_of_clause (Decreases e) rest = rest

abbrev pub uses_of_clauses : List Clause → List Use → List Use
uses_of_clauses [] rest = rest
uses_of_clauses (c ∷ cs) rest = uses_of_clause c (uses_of_clauses cs rest)

-- of a function in its contract and its body, of a predicate in its body
abbrev pub uses_by : Kind → List Use → List Use
uses_by (IsFunction f) rest = uses_of_clauses f.clauses (uses f.body rest)
uses_by (IsPredicate d) rest = uses_of_body d.body rest
uses_by _ rest = rest
