-- In a typed program each question can be asked: each name in it is spelled as a symbol, and each symbol has its sorts.
use Rattle.std.proofs.Common.{◌≡◌, ℕ, List, Option, Some, None, slice_get, refl}
use Rattle.vx_ast.specs.Syntax.{Program, Member}
use Rattle.vx_terms.specs.Sorts.{BoolSort}
use Rattle.vx_terms.specs.Terms.{Term}
use Rattle.vx_terms.specs.Build.{negate}
use Rattle.vx_terms.specs.Formed.{Formed}
use Rattle.vx_terms.specs.Interpretations.{Each}
use Rattle.vx_terms.proofs.Build.{negate_formed}
use Rattle.vx_elements.proofs.Lists.{each_map}
use Rattle.vx_smt_meaning.specs.Commands.{Declared}
use Rattle.vx_rules.specs.Trees.{Question, Tree, End, Impossible, On, Step, Ask, Probe, Fork}
use Rattle.vx_machine.specs.Runs.{tree_of, member_tree}
use Rattle.vx_types.specs.Premises.{IsTypedProgram}
use Rattle.vx_live.specs.Functions.{function_symbols}
use Rattle.vx_live.specs.Live.{IsLive, AllLive}
use Rattle.vx_live.proofs.Nameless.{negate_nameless, condition_nameless, path_nameless}
use Rattle.vx_live.proofs.Bools.{path_bool, negated_bool}
use Rattle.vx_live.proofs.Over.{IsOfFunction}
use Rattle.vx_live.proofs.LiveMembers.{functions_only, members_live}
use Rattle.vx_verifier.proofs.Askable.{AllAsk}
use Rattle.vx_verifier.proofs.Sorted.{IsFine}
use Rattle.vx_verifier.proofs.Nameless.{nameless_names, path_names, declared_question}
use Rattle.vx_verifier.specs.Steady.{IsSpelled, AllSpelled, AsksSpelled}

-- where the symbols beside the standard ones are those of functions
module _ (functions : List Declared) (of_functions : Each IsOfFunction functions) where
  live_spelled : (q : Question) → IsLive functions q → IsSpelled q
  live_spelled q live =
      let negated = negate_nameless q.condition (condition_nameless functions of_functions q live) in
      let along = path_nameless functions of_functions q live in
      record { declared = declared_question q.path (negate q.condition) along negated; path = path_names q.path along; negated = nameless_names (negate q.condition) negated }

  -- ---- trees and members

  all_spelled : (t : Tree) → AllLive functions t → AllSpelled t
  all_spelled End live = tt
  all_spelled (Impossible s) live = tt
  all_spelled (On t s) live = tt
  all_spelled (Step t) live = all_spelled t live
  all_spelled (Ask q t) live = (live_spelled q live.0, all_spelled t live.1)
  all_spelled (Probe q a b) live = (live_spelled q live.0, all_spelled a live.1, all_spelled b live.2)
  all_spelled (Fork a b) live = (all_spelled a live.0, all_spelled b live.1)

  fine : (q : Question) → IsLive functions q → IsFine functions q.path q.condition
  fine q live = record {
    sorts = live.sorts;
    built_in = live.built_in;
    path_over = live.path_over;
    over = live.condition_over;
    path_nameless = path_nameless functions of_functions q live;
    nameless = negate_nameless q.condition (condition_nameless functions of_functions q live);
    path_bool = path_bool functions q live;
    bool = negated_bool functions q live;
    along = each_map (λ (t : Term). Formed live.next t BoolSort) (λ (t : Term). (n : ℕ) × Formed n t BoolSort) (λ t f. (live.next, f)) q.path live.path;
    negated = (live.next, negate_formed live.condition);
  }

  all_fine : (t : Tree) → AllLive functions t → AllAsk (IsFine functions) t
  all_fine End live = tt
  all_fine (Impossible s) live = tt
  all_fine (On t s) live = tt
  all_fine (Step t) live = all_fine t live
  all_fine (Ask q t) live = (fine q live.0, all_fine t live.1)
  all_fine (Probe q a b) live = (fine q live.0, all_fine a live.1, all_fine b live.2)
  all_fine (Fork a b) live = (all_fine a live.0, all_fine b live.1)

-- each question of the members is live
trees_live : (p : Program) → IsTypedProgram p → (n : ℕ) → AllLive (function_symbols p) (member_tree p n)
trees_live p typed n = by_member (slice_get p n) refl
  where
    by_member : (o : Option Member) → slice_get p n ≡ o → AllLive (function_symbols p) (tree_of p o)
    by_member None at = tt
    by_member (Some x) at = members_live p x.name x.kind typed (typed.names n x at)

pub typed_spelled : (p : Program) → IsTypedProgram p → AsksSpelled p
typed_spelled p typed n = all_spelled (function_symbols p) (functions_only p) (member_tree p n) (trees_live p typed n)

pub typed_fine : (p : Program) → IsTypedProgram p → (n : ℕ) → AllAsk (IsFine (function_symbols p)) (member_tree p n)
typed_fine p typed n = all_fine (function_symbols p) (functions_only p) (member_tree p n) (trees_live p typed n)
