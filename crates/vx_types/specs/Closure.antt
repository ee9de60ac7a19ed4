-- What a member leads to by what it mentions.
use Rattle.std.specs.Prelude.{List, [], ◌∷◌, ◌++◌, Option, Some, None, flat_map}
use Rattle.vx_ast.specs.Syntax.{Name, Program, Kind, IsField, IsPredicate, IsFunction, IsMethod, Method, Assertion, Measure, ByNumber, ByInstance, Stmt, Declare, Assign, Write, New, Call, Inhale, Exhale, Assert, Assume, Fold, Unfold, If, While, Block, Done, Then, member_named, method_named}
use Rattle.vx_ast.specs.Mentions.{mentioned, mentioned_in, mentioned_by, mentioned_by_function}
use Rattle.vx_ast.specs.Apart.{Stands}
use Rattle.vx_ast.specs.Apart.{mentioned_by_predicate}

abbrev pub mentioned_by_all : List Assertion → List Name
mentioned_by_all rest = flat_map mentioned_by rest

abbrev pub mentioned_by_contract : Option Method → List Name
mentioned_by_contract None = []
mentioned_by_contract (Some m) = mentioned_by_all m.requires ++ mentioned_by_all m.ensures

abbrev pub mentioned_by_measure : Option Measure → List Name
mentioned_by_measure None = []
mentioned_by_measure (Some (ByNumber e)) = mentioned e
mentioned_by_measure (Some (ByInstance at i es)) = i ∷ mentioned_in es

module _ (p : Program) where
  -- a call mentions what the contract of its method does
  abbrev mutual
    pub mentioned_by_stmt : Stmt → List Name
    mentioned_by_stmt (Declare at x t) = []
    mentioned_by_stmt (Assign at x e) = mentioned e
    mentioned_by_stmt (Write at e f e') = mentioned e ++ mentioned e'
    mentioned_by_stmt (New at x fs) = []
    mentioned_by_stmt (Call at xs m es) = mentioned_in es ++ mentioned_by_contract (method_named p m)
    mentioned_by_stmt (Inhale at a) = mentioned_by a
    mentioned_by_stmt (Exhale at a) = mentioned_by a
    mentioned_by_stmt (Assert at a) = mentioned_by a
    mentioned_by_stmt (Assume at e) = mentioned e
    mentioned_by_stmt (Fold at i es share) = i ∷ (mentioned_in es ++ mentioned share)
    mentioned_by_stmt (Unfold at i es share) = i ∷ (mentioned_in es ++ mentioned share)
    mentioned_by_stmt (If at c a b) = mentioned c ++ mentioned_by_block a ++ mentioned_by_block b
    mentioned_by_stmt (While at c is b) = mentioned c ++ mentioned_by_all is ++ mentioned_by_block b

    pub mentioned_by_block : Block → List Name
    mentioned_by_block Done = []
    mentioned_by_block (Then st b) = mentioned_by_stmt st ++ mentioned_by_block b

  abbrev pub mentioned_by_body : Option Block → List Name
  mentioned_by_body None = []
  mentioned_by_body (Some b) = mentioned_by_block b

  -- the functions and the predicates that a member mentions
  abbrev pub mentioned_by_kind : Option Kind → List Name
  mentioned_by_kind None = []
  mentioned_by_kind (Some (IsField t)) = []
  mentioned_by_kind (Some (IsPredicate d)) = mentioned_by_predicate (Some d)
  mentioned_by_kind (Some (IsFunction g)) = mentioned_by_function g ++ mentioned_by_measure g.decreases
  mentioned_by_kind (Some (IsMethod m)) = mentioned_by_contract (Some m) ++ mentioned_by_body m.body

  abbrev pub mentions : Name → List Name
  mentions x = mentioned_by_kind (member_named p x)

  -- x, what it mentions, what that mentions, and so on
  pub data InClosure (x : Name) : Name → Type 0 where
    itself : InClosure x x
    further : {y z : Name} → InClosure x y → Stands z (mentions y) → InClosure x z
