-- The law at work over a loop, and the failing run of one that writes what its invariant doesn't hold.
use Rattle.std.proofs.Common.{◌≡◌, ◌<◌, Bool, true, false, not, [], ◌∷◌, inl, inr, refl, sym, true≢false, arith}
use Rattle.std.specs.Prelude.{IsTrue, if◌then◌else◌}
use Rattle.vx_frac.specs.Fractions.{Fraction, lowest, full, none, product, sum, at_most}
use Rattle.vx_ast.specs.declared.Place.{Place}
use Rattle.vx_ast.specs.declared.ValueType.TheVariants.{Int}
use Rattle.vx_ast.specs.Syntax.{Equal}
use Rattle.vx_meaning.specs.Values.{BoolValue, RefValue}
use Rattle.vx_meaning.specs.States.{State, Location, At, same_resource}
use Rattle.vx_meaning.specs.Consistent.{IsConsistent}
use Rattle.vx_meaning.specs.Outcomes.{passes, refused, goes_on, is_over}
use Rattle.vx_meaning.specs.Fails.{MethodFails, body}
use Rattle.vx_smt_meaning.specs.declared.reply.Reply.TheVariants.{Unsat, Sat}
use Rattle.vx_rules.specs.Trees.{PermissionCode, Passed, Failed, walk}
use Rattle.vx_rules.specs.Members.{method_tree}
use Rattle.vx_types.specs.Typing.{IsTypedMethod, number, part, variable, nots, operates, reads}
use Rattle.vx_types.specs.FieldLanguage.{IsFieldMethod}
use Rattle.vx_sound.specs.Law.{AllRight}
use Rattle.vx_sound.specs.Examples.{on_line, x, f, cells, repeats, reaches, endless}
use Rattle.vx_sound.proofs.Passes.{cleared}
use Rattle.vx_sound.proofs.Methods.{sound}

one_positive : 0 < 1
one_positive = omega arith

repeats_typed : IsTypedMethod cells repeats
repeats_typed = record {
  names = (refl, tt);
  requires = ((variable (on_line 2) x refl, (Int, refl), part (on_line 2) 1 1 one_positive), tt);
  ensures = tt;
  body = (
    (
      nots (operates {op = Equal} {t = Int} tt (reads f refl (variable (on_line 3) x refl)) (number (on_line 3) 1)),
      ((variable (on_line 4) x refl, (Int, refl), part (on_line 4) 1 1 one_positive), tt),
      ((Int, refl, variable (on_line 5) x refl, number (on_line 5) 1), tt),
    ),
    (operates {op = Equal} {t = Int} tt (reads f refl (variable (on_line 6) x refl)) (number (on_line 6) 1), tt),
  );
}

repeats_plain : IsFieldMethod repeats
repeats_plain = record { requires = ((tt, tt), tt); ensures = tt; body = (((tt, tt), ((tt, tt), tt), ((tt, tt), tt)), ((tt, tt), tt)) }

pub repeats_passes : (walk (method_tree cells repeats) (Unsat ∷ [])).ending ≡ Passed
unfolding lowest
repeats_passes = refl

both_ways : (b : Bool) → b ≡ true → not b ≡ true → ⊥
both_ways true e f = true≢false (sym f)
both_ways false e f = true≢false (sym e)

pub repeats_right : AllRight (walk (method_tree cells repeats) (Unsat ∷ [])).answered
unfolding lowest
repeats_right = ((λ i h. both_ways _ h.1.1.0 h.0), tt)

pub repeats_never_fails : (at : Place) → MethodFails cells repeats at → ⊥
repeats_never_fails at k = sound (λ g es e. ⊥) cells repeats repeats_typed repeats_plain (cleared (method_tree cells repeats) (Unsat ∷ []) repeats_passes repeats_right) at k

-- The failing run: x is 1, of which x.f is held, and the iteration begins with nothing.

cell : Location
cell = record { receiver = 1; field = f }

one : Fraction
one = record { numerator = full.numerator; below = 0 }

start : State
start = record { store = (x, RefValue 1) ∷ []; heap = []; holdings = (At cell, product full one) ∷ []; old_heap = []; old_holdings = [] }

consistent : IsConsistent cells start
unfolding start cell one
consistent = record {
  supported = record { grounded = λ i h. absurd (true≢false (sym h)); null = λ n g. refl };
  bounded = λ n l. at (same_resource (At l) (At record { receiver = 1; field = f }));
}
  where
    at : (b : Bool) → IsTrue (at_most (if b then sum (product full record { numerator = full.numerator; below = 0 }) none else none) full)
    at true = refl
    at false = refl

held : State
held = record { store = (x, RefValue 1) ∷ []; heap = []; holdings = start.holdings; old_heap = []; old_holdings = start.holdings }

inside : State
inside = record { store = (x, RefValue 1) ∷ []; heap = []; holdings = []; old_heap = []; old_holdings = start.holdings }

pub reaches_fails : MethodFails cells reaches (on_line 4)
unfolding held inside start cell one
reaches_fails =
    body held endless
    (RefValue 1 ∷ [], [], (refl, tt), tt, ([], start, passes (At cell, one) (0, λ n le. refl) (inl (consistent, refl)), refl))
    refl
    (is_over tt (passes held.holdings (0, λ n le. refl) (inl (
      [],
      (
        held.store,
        (
          (refl, refl, inr refl, tt),
          goes_on inside (passes (BoolValue true) (0, λ n le. refl) refl)
              (passes (BoolValue true) (0, λ n le. refl)
              (is_over tt (is_over tt (is_over tt (refused (on_line 4) (0, λ n le. refl) refl))))),
        ),
      ),
    ))))

pub reaches_stops : (walk (method_tree cells reaches) (Sat ∷ [])).ending ≡ Failed (on_line 4) PermissionCode Sat
unfolding lowest
reaches_stops = refl
