-- What isn't refuted. A law that only refutes goes through with it, so no case needs that a check is known to end.
use Rattle.std.proofs.Common.{◌⊎◌, inl, inr}

abbrev pub Surely : Type 0 → Type 0
Surely A = (A → ⊥) → ⊥

pub surely : {A : Type 0} → A → Surely A
surely a no_a = no_a a

pub surely_then : {A B : Type 0} → Surely A → (A → Surely B) → Surely B
surely_then s f no_b = s (λ a. f a no_b)

pub surely_map : {A B : Type 0} → Surely A → (A → B) → Surely B
surely_map s f no_b = s (λ a. no_b (f a))

-- one or the other holds
pub surely_either : (A : Type 0) → Surely (A ⊎ (A → ⊥))
surely_either A no_ = no_ (inr (λ a. no_ (inl a)))
