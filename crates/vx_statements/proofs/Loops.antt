-- Walks over lists, one item after another.
use Rattle.std.proofs.Common.{◌≡◌, ◌∙◌, ap, sym, subst, ℕ, suc, ◌+◌, ◌<◌, List, ◌∷◌, length, drop, get_or, Ok, add-one}
use Rattle.std.proofs.Math.Seq.{drop-cons}
use Rattle.vx_expressions.specs.Faults.{Checked, ◌>>=◌}
use Rattle.vx_expressions.specs.declared.fault.TypeFault as fault'
use Rattle.vx_expressions.specs.Gives.{Fails}
use Rattle.vx_expressions.proofs.Fails.{fails_on}

-- what is left, one item of it and the others
pub left : {X : Type 0} (xs : List X) (i : ℕ) (x : X) → i < length xs → x ≡ get_or xs i x → drop i xs ≡ x ∷ drop (i + 1) xs
left xs i x within is = drop-cons xs i x within ∙ ap (λ y. y ∷ drop (suc i) xs) (sym is) ∙ ap (λ k. x ∷ drop k xs) (sym (add-one i))

module _ {X B R V : Type 0} (walk : B → List X → Checked R) (step : B → X → Checked V) (after : B → X → B)
    (walks : (b : B) (x : X) (xs : List X) → walk b (x ∷ xs) ≡ (step b x >>= λ _. walk (after b x) xs)) where
  one : (xs : List X) (i : ℕ) (x : X) (b : B) → i < length xs → x ≡ get_or xs i x → walk b (drop i xs) ≡ (step b x >>= λ _. walk (after b x) (drop (i + 1) xs))
  one xs i x b within is = ap (walk b) (left xs i x within is) ∙ walks b x (drop (i + 1) xs)

  -- an item passes, and the walk goes on behind it
  pub goes_on : (xs : List X) (i : ℕ) (x : X) (b c : B) (whole : Checked R) (v : V) → i < length xs → x ≡ get_or xs i x → step b x ≡ Ok v → c ≡ after b x →
      whole ≡ walk b (drop i xs) → whole ≡ walk c (drop (i + 1) xs)
  goes_on xs i x b c whole v within is passes next before =
      before ∙ one xs i x b within is ∙ ap (λ r. r >>= λ _. walk (after b x) (drop (i + 1) xs)) passes ∙ ap (λ b. walk b (drop (i + 1) xs)) (sym next)

  -- an item fails, and so does the walk
  pub ends : (xs : List X) (i : ℕ) (x : X) (b : B) (whole : Checked R) (f : fault'.TypeFault) → i < length xs → x ≡ get_or xs i x → Fails f (step b x) →
      whole ≡ walk b (drop i xs) → Fails f whole
  ends xs i x b whole f within is fails before = subst (Fails f) (sym (before ∙ one xs i x b within is)) (fails_on f (step b x) _ fails)
