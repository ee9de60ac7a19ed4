-- Why what waiting callers hold counts: of
--   field f: Int
--   method c(y: Ref) { inhale acc(y.f)  y.f := 5  exhale acc(y.f) }
--   method m(x: Ref) requires acc(x.f) { x.f := 1  c(x)  assert x.f == 1 }
-- no member fails. So c has to stop at its inhale while m waits, though alone it goes on there; else m's assertion would fail in a whole run.
-- And a new reference is none that m knows, though for c alone it is fresh.
use Rattle.std.proofs.Common.{arith, ◌≡◌, ◌≤◌, ℕ, Bool, true, false, cond, [], ◌∷◌, inl, inr, refl, sym, ◌∙◌, ap, true≢false}
use Rattle.std.specs.Prelude.{codes, IsTrue}
use Rattle.vx_frac.specs.Fractions.{Fraction, none, full, sum, product, over, at_most}
use Rattle.vx_meaning.specs.States.{State, Resource, At, same_location}
use Rattle.vx_meaning.specs.Consistent.{IsConsistent, total}
use Rattle.vx_meaning.specs.Outcomes.{Ends, passes, refused}
use Rattle.vx_meaning.specs.Around.{nobody, IsFreshBeside}
use Rattle.vx_sound_preds.proofs.Framing.{ok_same}
use Rattle.vx_runs.specs.Whole.{give_whole}
use Rattle.vx_runs.specs.Examples.{with_field, at_one, access, waiting, callee, granted, created}

-- all of one location can be held
granted_can : IsConsistent with_field granted
granted_can = record {
  supported = record { grounded = λ i z. absurd (true≢false (sym z)); null = λ n g. refl };
  bounded = λ n l. go (same_location l at_one);
}
  where
    go : (b : Bool) → IsTrue (at_most (cond b (sum (product full (over 1 1)) none) none) full)
    go true = refl
    go false = refl

-- alone c goes on
pub goes_on_alone : give_whole with_field nobody full access callee (Ends granted)
goes_on_alone = passes (At at_one, over 1 1) (0, λ m le. refl) ([], ((λ l z. refl), inl (granted_can, refl)))

-- while m waits it doesn't
pub stops_beside : (t : State) → give_whole with_field waiting full access callee (Ends t) → ⊥
stops_beside t (refused at h e) = e
stops_beside t (passes part h (g, (changes, inr (no_can, e)))) = e
stops_beside t (passes part (n, h) (g, (changes, inl (can, e)))) = too_much (ok_same {A = Resource × Fraction} (At at_one, over 1 1) part (h n (self n)))
  where
    self : (n : ℕ) → n ≤ n
    self n = omega arith

    too_much : (let x : Resource × Fraction = (At at_one, over 1 1) in x) ≡ part → ⊥
    too_much same = true≢false (sym (can.bounded 0 at_one) ∙ ap (λ (x : Resource × Fraction). at_most (total with_field 0 g ((At at_one, full) ∷ (x.0, product full x.1) ∷ []) at_one) full) (sym same))

-- A reference that m has in a variable is fresh for c alone, and not while m waits.

pub fresh_alone : IsFreshBeside with_field nobody created 1
fresh_alone = record {
  not_null = λ e. cc;
  not_stored = λ x e. cc;
  not_held = λ l z. absurd (true≢false (sym z.1));
  not_held_before = λ l z. absurd (true≢false (sym z.1));
  not_stored_around = tt;
  not_held_around = tt;
}

pub not_fresh_beside : IsFreshBeside with_field waiting created 1 → ⊥
not_fresh_beside k = k.not_stored_around.0 (codes "x") refl
