-- The law at work: a walk that ends by a right sat, and so a run that fails.
use Rattle.std.proofs.Common.{◌≡◌, ◌<◌, zero, suc, true, false, [], ◌∷◌, pos, inl, refl, arith}
use Rattle.vx_frac.specs.Fractions.{lowest}
use Rattle.vx_ast.specs.declared.ValueType.TheVariants.{Int}
use Rattle.vx_ast.specs.Syntax.{Equal, Less, Add}
use Rattle.vx_meaning.specs.Fails.{MethodFails}
use Rattle.vx_terms.specs.Sorts.{Sort, IntSort, Symbol, Standard, Function, Variable, Named}
use Rattle.vx_terms.specs.Interpretations.{Empty, BoolLeaf, Element, IntElement, TreeElement, Interpretation}
use Rattle.vx_smt_meaning.specs.declared.reply.Reply.TheVariants.{Sat}
use Rattle.vx_rules.specs.Trees.{PermissionCode, AssertCode, Failed, walk}
use Rattle.vx_rules.specs.Members.{method_tree}
use Rattle.vx_types.specs.Typing.{IsTypedMethod, number, part, variable, operates, reads}
use Rattle.vx_types.specs.FieldLanguage.{IsFieldMethod}
use Rattle.vx_real.specs.Law.{LastIsPossible}
use Rattle.vx_real.specs.Examples.{on_line, x, y, f, cells, halves, counts}
use Rattle.vx_real.proofs.Real.{real_fields}

one_positive : 0 < 1
one_positive = omega arith

two_positive : 0 < 2
two_positive = omega arith

-- Two halves of locations that differ

halves_typed : IsTypedMethod cells halves
halves_typed = record {
  names = (refl, (refl, tt));
  requires = ((variable (on_line 2) x refl, (Int, refl), part (on_line 2) 1 2 two_positive), ((variable (on_line 3) y refl, (Int, refl), part (on_line 3) 1 2 two_positive), tt));
  ensures = tt;
  body = ((Int, refl, variable (on_line 4) x refl, number (on_line 4) 1), tt);
}

halves_plain : IsFieldMethod halves
halves_plain = record { requires = ((tt, tt), ((tt, tt), tt)); ensures = tt; body = ((tt, tt), tt) }

-- x and y are any two trees
abbrev two_trees : Symbol → Element
two_trees (Variable zero) = TreeElement (BoolLeaf true)
two_trees (Variable (suc n)) = TreeElement (BoolLeaf false)
two_trees (Standard n) = TreeElement Empty
two_trees (Function n) = TreeElement Empty
two_trees (Named z) = TreeElement Empty

unlike : Interpretation
unlike = record { functions = λ g a es. two_trees g; quotients = λ z. pos 0; remainders = λ z. pos 0 }

pub halves_stop : (walk (method_tree cells halves) (Sat ∷ [])).ending ≡ Failed (on_line 4) PermissionCode Sat
unfolding lowest
halves_stop = refl

pub halves_possible : LastIsPossible (walk (method_tree cells halves) (Sat ∷ [])).answered
unfolding lowest unlike
halves_possible = (unlike, (refl, (refl, (refl, (refl, tt)))))

pub halves_fail : MethodFails cells halves (on_line 4)
halves_fail = real_fields cells halves (Sat ∷ []) PermissionCode (on_line 4) halves_typed halves_plain (halves_stop, halves_possible)

-- A loop whose invariant says nothing of the value behind it

counts_typed : IsTypedMethod cells counts
counts_typed = record {
  names = (refl, tt);
  requires = ((variable (on_line 2) x refl, (Int, refl), part (on_line 2) 1 1 one_positive), tt);
  ensures = tt;
  body = (
    (
      operates {op = Less} {t = Int} (inl refl) (reads f refl (variable (on_line 3) x refl)) (number (on_line 3) 5),
      ((variable (on_line 4) x refl, (Int, refl), part (on_line 4) 1 1 one_positive), tt),
      ((Int, refl, variable (on_line 5) x refl, operates {op = Add} {t = Int} (inl refl) (reads f refl (variable (on_line 5) x refl)) (number (on_line 5) 1)), tt),
    ),
    (operates {op = Equal} {t = Int} tt (reads f refl (variable (on_line 6) x refl)) (number (on_line 6) 5), tt),
  );
}

counts_plain : IsFieldMethod counts
counts_plain = record { requires = ((tt, tt), tt); ensures = tt; body = (((tt, tt), ((tt, tt), tt), ((tt, (tt, tt)), tt)), ((tt, tt), tt)) }

-- the field has 6 there
abbrev pub six : Symbol → Sort → Element
six (Variable n) IntSort = IntElement (pos 6)
six (Variable n) a = TreeElement (BoolLeaf true)
six g a = TreeElement Empty

unfoldable pub sixes : Interpretation
sixes = record { functions = λ g a es. six g a; quotients = λ z. pos 0; remainders = λ z. pos 0 }

pub counts_stop : (walk (method_tree cells counts) (Sat ∷ [])).ending ≡ Failed (on_line 6) AssertCode Sat
unfolding lowest
counts_stop = refl

pub counts_possible : LastIsPossible (walk (method_tree cells counts) (Sat ∷ [])).answered
unfolding lowest sixes
counts_possible = (sixes, (refl, (refl, (refl, tt))))

pub counts_fail : MethodFails cells counts (on_line 6)
counts_fail = real_fields cells counts (Sat ∷ []) AssertCode (on_line 6) counts_typed counts_plain (counts_stop, counts_possible)
