-- Readers of tokens, and of items to a closing parenthesis.
use Rattle.std.specs.Prelude.{◌≡◌, ℕ, zero, suc, List, [], ◌∷◌, ◌++◌, Option, Some, None, Ok, Err}
use Rattle.std.specs.declared.result.Result.{Result}
use Rattle.vx_sexp.specs.declared.token.Token.{Token}
use Rattle.cs_reader.specs.declared.stop.Stop.{Stop}
use Rattle.cs_reader.specs.declared.stop.Stop.TheVariants as stops

infixl 10 ◌>>=◌
abbrev pub ◌>>=◌ : {A B : Type 0} → Option A → (A → Option B) → Option B
(Some x) >>= f = f x
None >>= f = None

-- what a reader returned, seen by view, is what reading gives, unless memory ran out
abbrev pub Fails : {Y : Type 0} → Stop → Option Y → Type 0
Fails stops.Want read = Unit {0}
Fails stops.Form read = read ≡ None

abbrev pub Gives : {X Y : Type 0} → (X → Y) → Result X Stop → Option Y → Type 0
Gives view (Ok x) read = read ≡ Some (view x)
Gives view (Err e) read = Fails e read

abbrev pub with_front : {A : Type 0} → List A → Option (List A × List Token) → Option (List A × List Token)
with_front xs read = read >>= λ r. Some (xs ++ r.0, r.1)

abbrev pub with_item : {A : Type 0} → Option A → Option (List A × List Token) → List Token → Option (List A × List Token)
with_item None later ts = Some ([], ts)
with_item (Some x) later ts = with_front (x ∷ []) later

-- at most so many items, until a turn gives none
abbrev pub items_for : {A : Type 0} → (List Token → Option (Option A × List Token)) → ℕ → List Token → Option (List A × List Token)
items_for turn zero ts = None
items_for turn (suc n) ts = do
  x ← turn ts
  with_item x.0 (items_for turn n x.1) x.1
