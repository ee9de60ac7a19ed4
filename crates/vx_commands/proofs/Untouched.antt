-- Whatever is ordered, a call may ask for no file and start nothing.
use Rattle.std.proofs.Common.{◌≡◌, inl, Bool, true, false, List, [], ◌++◌, ℕ, Option, Some, None, Result, IfOk, refl, sym, ◌∙◌, subst, arith}
use Rattle.std.specs.declared.alloc.AllocError.{AllocError}
use Rattle.std.proofs.lemmas.List.{append_cancel_left, append-nil}
use Rattle.vx_terms.specs.Interpretations.{Each}
use Rattle.vx_ends.specs.declared.piece.Ending.{Ending}
use Rattle.vx_words.specs.declared.order.Order.{Order}
use Rattle.vx_commands.specs.declared.output.Output.{Output}
use Rattle.vx_commands.specs.Outside.{Change, Texts, Children, Spawners, HandsBack, HandBack, IsUnchanged, Rest, StartsOnly}
use Rattle.vx_commands.specs.Reports.{is_companion, ByWhom, StartsBy}
use Rattle.vx_commands.specs.Promised.{IsDue, file_of, solver_of, AsksAtMost, AsksFileOf, StartsAtMost, StartsSolverOf}
use Rattle.vx_commands.specs.Steps.{Asks, AsksEither, Obeys}

asks_nothing : (order : Option Order) (files : Change Texts) → files.after.asked ≡ files.before.asked → AsksFileOf order files
asks_nothing order files same = at_most (file_of order)
  where
    at_most : (file : Option (Option (List ℕ))) → AsksAtMost file files
    at_most None = same
    at_most (Some file) = inl same

-- ---- one spawner

-- what shows the same as before has handed back all
itself_back : (s : Children) → HandsBack (record { before = s; after = s })
itself_back s = record {
  every_lane = λ lane. refl;
  calm = λ steady room. record {
    starts = λ rose. absurd (omega arith);
    links = λ since is. subst (Each (λ (e : Ending). e.faults ≡ 0)) (append_cancel_left s.ended [] since (append-nil s.ended ∙ is)) tt;
  };
}

-- and started nothing
itself_starts : (jobs : ℕ) (command : List (List ℕ)) (s : Children) → StartsOnly jobs command (record { before = s; after = s })
itself_starts jobs command s = record { since = []; is = sym (append-nil s.starts); within = tt; each = λ lane within. (false, refl, tt) }

pub rests_back : (c : Change Children) → IsUnchanged c → HandsBack c
rests_back c same = subst (λ (s : Children). HandsBack (record { before = c.before; after = s })) (sym same) (itself_back c.before)

rests_starts : (jobs : ℕ) (command : List (List ℕ)) (c : Change Children) → IsUnchanged c → StartsOnly jobs command c
rests_starts jobs command c same = subst (λ (s : Children). StartsOnly jobs command (record { before = c.before; after = s })) (sym same) (itself_starts jobs command c.before)

pub unasked : (command : List (List ℕ)) (jobs : ℕ) (Is : Output → Type 0) (c : Change Children) (result : Result Output AllocError) → IsUnchanged c → IfOk result Is
    → Asks command jobs Is c result
unasked command jobs Is c result same is = record { answered = is; starts = rests_starts jobs command c same; back = rests_back c same }

-- ---- both

module _ (s : Spawners) (rest : Rest s) where
  both_back : HandBack s
  both_back = record { companion = rests_back s.companion rest.companion; handed = rests_back s.handed rest.handed }

  none_starts : (solver : List (List ℕ)) (jobs : ℕ) → StartsBy solver jobs s
  none_starts solver jobs = by_either (is_companion solver)
    where
      by_either : (b : Bool) → ByWhom b (StartsOnly jobs solver s.companion × IsUnchanged s.handed) (IsUnchanged s.companion × StartsOnly jobs solver s.handed)
      by_either true = (rests_starts jobs solver s.companion rest.companion, rest.handed)
      by_either false = (rest.companion, rests_starts jobs solver s.handed rest.handed)

  starts_nothing : (order : Option Order) → StartsSolverOf order s
  starts_nothing order = at_most (solver_of order)
    where
      at_most : (solver : Option (List (List ℕ) × ℕ)) → StartsAtMost solver s
      at_most None = rest
      at_most (Some solver) = none_starts solver.0 solver.1

  pub neither_asked : (solver : List (List ℕ)) (jobs : ℕ) (Is : Output → Type 0) (result : Result Output AllocError) → IfOk result Is → AsksEither solver jobs Is s result
  neither_asked solver jobs Is result is = record { answered = is; starts = none_starts solver jobs; back = both_back }

  -- an order for which no spawner is asked
  pub obeyed_alone : (order : Option Order) (files : Change Texts) (result : Result Output AllocError) → AsksFileOf order files → IfOk result (IsDue order files s)
      → Obeys order files s result
  obeyed_alone order files result asked due = record { due = due; asked = asked; starts = starts_nothing order; back = both_back }

  -- and no file
  pub untouched : (order : Option Order) (files : Change Texts) (result : Result Output AllocError) → files.after.asked ≡ files.before.asked → IfOk result (IsDue order files s)
      → Obeys order files s result
  untouched order files result same due = obeyed_alone order files result (asks_nothing order files same) due

-- what is obeyed of an order is so of the same one
pub for_order : (files : Change Texts) (s : Spawners) (result : Result Output AllocError) (o q : Order) → o ≡ q → Obeys (Some q) files s result → Obeys (Some o) files s result
for_order files s result o q is h = subst (λ x. Obeys (Some x) files s result) (sym is) h

pub for_words : (files : Change Texts) (s : Spawners) (result : Result Output AllocError) (o : Option Order) (q : Order) → o ≡ Some q → Obeys (Some q) files s result → Obeys o files s result
for_words files s result o q is h = subst (λ x. Obeys x files s result) (sym is) h

-- what shows the same rests
pub at_rest : (companion handed : Children) → Rest (record { companion = record { before = companion; after = companion }; handed = record { before = handed; after = handed } })
at_rest companion handed = record { companion = refl; handed = refl }
