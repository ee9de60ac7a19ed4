-- Outcomes in sets of outcomes, and runs of statements that no typed program has.
use Rattle.std.proofs.Common.{◌≡◌, pos, IsTrue, [], ◌∷◌, List, refl, sym, ap, subst, inl, inr, arith, Some, Option}
use Rattle.std.specs.Prelude.{Ok, Err}
use Rattle.vx_ast.specs.declared.Place.{Place}
use Rattle.vx_ast.specs.Syntax.{Number, More, NoMore, Read, Points, ByNumber, ByInstance}
use Rattle.vx_frac.specs.Fractions.{full, product, is_positive}
use Rattle.vx_meaning.specs.Values.{Value, IntValue, RefValue}
use Rattle.vx_meaning.specs.States.{At, Folded, amount, lost}
use Rattle.vx_meaning.specs.Fits.{Checked, Takes, FailsToTake}
use Rattle.vx_meaning.specs.Outcomes.{Outcome, Ends, FailsAt, ends, fails, stops, either, failing_at, passes, refused, is_over}
use Rattle.vx_meaning.specs.Run.{run_all}
use Rattle.vx_meaning.specs.Fails.{MeasureFails}
use Rattle.vx_examples.specs.Words.{at}
use Rattle.vx_examples.specs.Cells.{f, get, cell, cells}
use Rattle.vx_examples.specs.Scenes.{x_f, poor, owner, folder}
use Rattle.vx_examples.specs.Untyped.{x_var, whole, one_x, folds_get, unfolds_get, calls_get, folds_by_int, unfolds_by_int, writes_of_int, asks_int}
use Rattle.vx_examples.proofs.Checks.{only_ok, single, alone}

pub end_elsewhere : ends poor (Ends owner) → ⊥
end_elsewhere e = some_held (ap (λ s. s.holdings) e)
  where
    some_held : owner.holdings ≡ [] → ⊥
    some_held e = cc

pub failure_elsewhere : fails (at 1 1) (FailsAt (at 1 2)) → ⊥
failure_elsewhere e = let c = ap (λ p. p.column) e in absurd (omega (arith, c))

pub neither : either stops (ends poor) (FailsAt (at 1 1)) → ⊥
neither (inl h) = h
neither (inr h) = h

pub inner_place : failing_at (at 2 2) (fails (at 1 1)) (FailsAt (at 1 1)) → ⊥
inner_place h = let c = ap (λ p. p.column) h.1 in absurd (omega (arith, c))

pub no_inner_failure : failing_at (at 2 2) stops (FailsAt (at 2 2)) → ⊥
no_inner_failure h = h.0.1

pub folds : (o : Outcome) → run_all cells folds_get owner o → ⊥
folds o r = only_ok _ (record { predicate = get; arguments = RefValue 1 ∷ [] }, full) _ _ (λ n. refl) (single o r)

pub unfolds : (o : Outcome) → run_all cells unfolds_get folder o → ⊥
unfolds o r = only_ok _ (record { predicate = get; arguments = RefValue 1 ∷ [] }, full) _ _ (λ n. refl) (single o r)

pub calls : (o : Outcome) → run_all cells calls_get poor o → ⊥
calls o r = only_ok _ (RefValue 1 ∷ []) _ _ (λ n. refl) (single o r)

pub fold_fails : run_all cells folds_by_int owner (FailsAt (at 1 1))
fold_fails = alone _ (refused (at 1 1) (0, λ m le. refl) refl)

pub unfold_fails : run_all cells unfolds_by_int folder (FailsAt (at 1 1))
unfold_fails = alone _ (refused (at 1 1) (0, λ m le. refl) refl)

pub write_fails : run_all cells writes_of_int owner (FailsAt (at 1 1))
write_fails = alone _ (refused (at 1 1) (0, λ m le. refl) refl)

pub other_side : run_all cells asks_int poor (FailsAt (at 1 6))
other_side = alone _ (passes (IntValue (pos 0)) (0, λ m le. refl) (is_over tt (alone _ (refused (at 1 6) (0, λ m le. refl) refl))))

not_both : {A : Type 0} (a : A) (place : Place) → (let c : Checked A = Ok a in c) ≡ Err place → ⊥
not_both a place e = cc

pub takes : Takes cells owner (Points (at 1 1) x_var f whole) full (lost (At x_f) (product full full) owner.holdings)
takes = (0, λ m le. refl)

pub takes_not : Takes cells poor (Points (at 1 1) x_var f whole) full [] → ⊥
takes_not (n, h) = not_both [] (at 1 1) (sym (h n (omega arith)))

pub fails_to : FailsToTake cells poor (Points (at 1 1) x_var f whole) full (at 1 1)
fails_to = (0, λ m le. refl)

pub fails_not : FailsToTake cells owner (Points (at 1 1) x_var f whole) full (at 1 1) → ⊥
fails_not (n, h) = not_both _ (at 1 1) (h n (omega arith))

pub argument_unread : MeasureFails cells folder (ByInstance (at 1 1) cell (More (Read (at 1 4) x_var f) NoMore))
argument_unread = inl (at 1 4, (0, λ m le. refl))

pub number_unread : MeasureFails cells poor (ByNumber (Read (at 1 4) x_var f))
number_unread = (at 1 4, (0, λ m le. refl))

pub number_fine : MeasureFails cells poor (ByNumber (Number (at 1 4) 3)) → ⊥
number_fine (place, (n, h)) = not_both (IntValue (pos 3)) place (h n (omega arith))

some_is : (a b : List Value) → (let o : Option (List Value) = Some a in o) ≡ Some b → a ≡ b
some_is a b e = cc

pub held_fine : MeasureFails cells folder (ByInstance (at 1 1) cell one_x) → ⊥
held_fine (inl (place, (n, h))) = not_both (let vs : List Value = RefValue 1 ∷ [] in vs) place (h n (omega arith))
held_fine (inr (n, vs, e, h)) = h (subst (λ ws. IsTrue (is_positive (amount folder.holdings (Folded record { predicate = cell; arguments = ws })))) (some_is (RefValue 1 ∷ []) vs e) refl)
