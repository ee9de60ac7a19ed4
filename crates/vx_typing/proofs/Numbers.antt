-- The number of a name.
use Rattle.std.proofs.Common.{◌≡◌, ◌∙◌, refl, sym, ap, ℕ, suc, ◌+◌, Bool, true, false, List, [], ◌∷◌, Option, Some, None, map, position, length, cond, not, nat_lt, Bor, bytes_eq, arith, if◌then◌else◌}
use Rattle.std.specs.List.{position_or_len}
use Rattle.std.proofs.lemmas.Bool.{ltb-true, lt-ltb}
use Rattle.vx_ast.specs.Syntax.{same_name}
use Rattle.vx_ast.specs.Written.{Name, Member, Program}
use Rattle.vx_expressions.specs.Settings.{Signature, Table}
use Rattle.vx_typing.specs.Members.{table_of}
use Rattle.vx_typing.specs.Groups.{number_in, number_of}
use Rattle.vx_expressions.proofs.Scopes.{same}
use Rattle.vx_typing.proofs.Reachable.{as_true}

-- by the table
abbrev pub number_at : ℕ → Table → Name → Option ℕ
number_at n [] x = None
number_at n (e ∷ es) x = if same_name x e.0 then Some n else number_at (suc n) es x

pub by_table : (n : ℕ) (ms : List Member) (x : Name) → number_in n ms x ≡ number_at n (table_of ms) x
by_table n [] x = refl
by_table n (m ∷ ms) x = ap (λ o. if same_name x m.name.name then Some n else o) (by_table (suc n) ms x)

module _ (x : Name) where
  abbrev is_it : Bor Name → Bool
  is_it k = bytes_eq x k.now

  -- from n on, where the first place that passes is k, of so many
  abbrev from : ℕ → ℕ → ℕ → Option ℕ
  from n k len = if nat_lt k len then Some (n + k) else None

  next_place : (n k len : ℕ) → from (suc n) k len ≡ from n (1 + k) (suc len)
  next_place n k len =
      let w : suc n + k ≡ n + (1 + k) = omega arith in
      ap (λ m. if nat_lt k len then Some m else None) w
      ∙ ap (λ b. if b then Some (n + (1 + k)) else None)
      (as_true (nat_lt k len) (nat_lt (1 + k) (suc len)) (λ h. let l = ltb-true k len h in lt-ltb (1 + k) (suc len) (omega arith)) (λ h. let l = ltb-true (1 + k) (suc len) h in lt-ltb k len (omega arith)))

  first_place : (n len : ℕ) → Some n ≡ from n 0 (suc len)
  first_place n len =
      let z : n ≡ n + 0 = omega arith in
      ap Some z ∙ ap (λ b. if b then Some (n + 0) else None) (sym (lt-ltb 0 (suc len) (omega arith)))

  step : (n k len : ℕ) (o : Option ℕ) → o ≡ from (suc n) k len → (b : Bool) → (if b then Some n else o) ≡ from n (cond (not b) (1 + k) 0) (suc len)
  step n k len o h true = first_place n len
  step n k len o h false = h ∙ next_place n k len

module _ {V : Type 0} (view : V → Signature) (x : Name) where
  abbrev shown : List (Bor Name × V) → Table
  shown es = map (λ e. (e.0.now, view e.1)) es

  abbrev names : List (Bor Name × V) → List (Bor Name)
  names es = map (λ e. e.0) es

  pub numbered : (n : ℕ) (es : List (Bor Name × V)) → number_at n (shown es) x ≡ from x n (position_or_len (is_it x) (names es)) (length (names es))
  numbered n [] = refl
  numbered n (e ∷ es) =
      ap (λ b. if b then Some n else number_at (suc n) (shown es) x) (sym (same x e.0.now))
      ∙ step x n (position_or_len (is_it x) (names es)) (length (names es)) (number_at (suc n) (shown es) x) (numbered (suc n) es) (bytes_eq x e.0.now)

  at_zero : (k len : ℕ) → from x 0 k len ≡ cond (nat_lt k len) (Some k) None
  at_zero k len = let z : 0 + k ≡ k = omega arith in ap (λ m. cond (nat_lt k len) (Some m) None) z

  -- the place of a name in the map is its number
  pub placed_at : (es : List (Bor Name × V)) (p : Program) → shown es ≡ table_of p → position (is_it x) (names es) ≡ number_of p x
  placed_at es p h =
      sym (at_zero (position_or_len (is_it x) (names es)) (length (names es))) ∙ sym (numbered 0 es) ∙ ap (λ t. number_at 0 t x) h ∙ sym (by_table 0 p x)
