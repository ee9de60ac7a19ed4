-- What an assignment makes of a store, by where the variable stands.
use Rattle.std.proofs.Common.{◌≡◌, ℕ, suc, ◌<◌, Bool, true, false, cond, [], ◌∷◌, length, get_or, Option, Some, None, option_map, refl, ap, ◌∙◌, arith}
use Rattle.std.specs.Prelude.{slice_set}
use Rattle.vx_ast.specs.Syntax.{Name, same_name}
use Rattle.vx_meaning.specs.Values.{Value}
use Rattle.vx_meaning.specs.States.{Store, assign}
use Rattle.vx_rules.proofs.Names.{same_name_is}
use Rattle.vx_run.specs.Stores.{place_in}

abbrev pub Assigned : Name → Value → Store → Option ℕ → Type 0
Assigned x v s None = assign x v s ≡ s
Assigned x v s (Some k) = (k < length s) × ((d : Name × Value) → assign x v s ≡ slice_set s k ((get_or s k d).0, v))

assigned_later : (x : Name) (v : Value) (b : Name × Value) (s : Store) (o : Option ℕ) → assign x v (b ∷ s) ≡ b ∷ assign x v s → Assigned x v s o → Assigned x v (b ∷ s) (option_map suc o)
assigned_later x v b s None e h = e ∙ ap (λ l. b ∷ l) h
assigned_later x v b s (Some k) e h = (omega (arith, h.0), λ d. e ∙ ap (λ l. b ∷ l) (h.1 d))

pub assigned : (x : Name) (v : Value) (s : Store) → Assigned x v s (place_in x s)
assigned x v [] = refl
assigned x v (b ∷ s) = go (same_name x b.0) refl (assigned x v s)
  where
    go : (c : Bool) → same_name x b.0 ≡ c → Assigned x v s (place_in x s) → Assigned x v (b ∷ s) (cond c (Some 0) (option_map suc (place_in x s)))
    go true e h = (omega arith, λ d. rw e (ap (λ (y : Name). (y, v) ∷ s) (same_name_is x b.0 e)))
    go false e h = assigned_later x v b s (place_in x s) (rw e refl) h
