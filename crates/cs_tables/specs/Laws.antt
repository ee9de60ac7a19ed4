-- That there are such lists, and lines that are computed.
use Rattle.std.specs.Prelude.{◌≡◌, ℕ, Bool, true, false, List, [], ◌∷◌, map}
use Rattle.vx_terms.specs.Sorts.{BoolSort, RefSort, Function, Variable}
use Rattle.vx_terms.specs.Terms.{Term}
use Rattle.vx_terms.specs.Interpretations.{BoolElement, TreeElement, RefLeaf, Empty}
use Rattle.cs_certificate.specs.Terms.{ConstantHead, ApplyHead, NotHead}
use Rattle.cs_certificate.specs.Nodes.{Node}
use Rattle.cs_classes.specs.Elements.{Assignment}
use Rattle.cs_tables.specs.Told.{told_at, Tells}
use Rattle.cs_tables.specs.Lines.{lines_from}

-- the truths and the classes of terms, one after another, tell each assignment
abbrev pub EachIsTold : Type 0
EachIsTold = (all : List Term) (s : Assignment) → Tells all (map s.truth all) (map s.class all) s

-- f(¬p(a)), ¬p(a), p(a) and a
abbrev pub some_nodes : List Node
some_nodes =
    record { head = ApplyHead (Function 0) RefSort; parts = 1 ∷ []; sort = RefSort }
    ∷ record { head = NotHead; parts = 2 ∷ []; sort = BoolSort }
    ∷ record { head = ApplyHead (Function 1) BoolSort; parts = 3 ∷ []; sort = BoolSort }
    ∷ record { head = ConstantHead (Variable 0) RefSort; parts = []; sort = RefSort }
    ∷ []

-- what is told of them
abbrev pub truths : List Bool
truths = false ∷ false ∷ true ∷ false ∷ []

-- and their classes
abbrev pub classes : List ℕ
classes = 5 ∷ 6 ∷ 7 ∷ 8 ∷ []

pub record Examples : Type 0 where
  -- a Bool argument is its truth, another its class
  pub lines :
      lines_from (told_at some_nodes truths classes) 0 some_nodes
      ≡ record { symbol = Function 0; sort = RefSort; arguments = BoolElement false ∷ []; value = TreeElement (RefLeaf 5) }
      ∷ record { symbol = Function 1; sort = BoolSort; arguments = TreeElement (RefLeaf 8) ∷ []; value = BoolElement true }
      ∷ record { symbol = Variable 0; sort = RefSort; arguments = []; value = TreeElement (RefLeaf 8) }
      ∷ []
  pub no_node : told_at some_nodes truths classes 4 ≡ TreeElement Empty
  pub no_truth : told_at some_nodes [] classes 2 ≡ BoolElement false
  pub no_class : told_at some_nodes truths [] 3 ≡ TreeElement (RefLeaf 0)
