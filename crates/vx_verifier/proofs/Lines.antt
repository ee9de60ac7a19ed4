-- The members with a line, as one member more is looked at.
use Rattle.std.proofs.Common.{◌≡◌, ℕ, ◌+◌, ◌-◌, ◌≤◌, Bool, true, false, ◌∷◌, [], List, Some, zero, suc, drop, length, slice_get, refl, ap, ◌∙◌, if◌then◌else◌, arith}
use Rattle.std.proofs.Math.ListN.{drop_of_length-le}
use Rattle.vx_ast.specs.Syntax.{Program, Member}
use Rattle.vx_verifier.specs.Lines.{has_line, lines_from}
use Rattle.vx_verifier.specs.Members.{every}
use Rattle.vx_verifier.proofs.FunctionSymbols.{rest_at}

by_line : (b c : Bool) (n : ℕ) (ns : List ℕ) → b ≡ c → (if b then n ∷ ns else ns) ≡ (if c then n ∷ ns else ns)
by_line b c n ns is = ap (λ x. if x then n ∷ ns else ns) is

-- the next member has none
pub no_line : (p : Program) (n : ℕ) (m : Member) → slice_get p n ≡ Some m → has_line m.kind ≡ false → lines_from n (drop n p) ≡ lines_from (n + 1) (drop (n + 1) p)
no_line p n m is none = ap (lines_from n) (rest_at p n m is) ∙ by_line (has_line m.kind) false n (lines_from (n + 1) (drop (n + 1) p)) none

-- the next member has one
pub one_line : (p : Program) (n : ℕ) (m : Member) → slice_get p n ≡ Some m → has_line m.kind ≡ true → lines_from n (drop n p) ≡ n ∷ lines_from (n + 1) (drop (n + 1) p)
one_line p n m is one = ap (lines_from n) (rest_at p n m is) ∙ by_line (has_line m.kind) true n (lines_from (n + 1) (drop (n + 1) p)) one

-- no member is left
pub none_left : (p : Program) (n : ℕ) → length p ≤ n → lines_from n (drop n p) ≡ []
none_left p n end = ap (lines_from n) (drop_of_length-le p end)

-- ---- of those with a line the part behind some of them

every_none : (jobs skip : ℕ) (ns : List ℕ) → ns ≡ [] → every jobs skip ns ≡ []
every_none jobs skip ns none = ap (every jobs skip) none

every_here : (jobs skip n : ℕ) (ns : List ℕ) → skip ≡ 0 → every jobs skip (n ∷ ns) ≡ n ∷ every jobs (jobs - 1) ns
every_here jobs skip n ns none = ap (λ (k : ℕ). every jobs k (n ∷ ns)) none

every_on : (jobs skip n : ℕ) (ns : List ℕ) → (skip ≡ 0 → ⊥) → every jobs skip (n ∷ ns) ≡ every jobs (skip - 1) ns
every_on jobs zero n ns some = absurd (some refl)
every_on jobs (suc skip) n ns some = let less : skip ≡ suc skip - 1 = omega arith in ap (λ (k : ℕ). every jobs k ns) less

module _ (p : Program) (jobs skip n : ℕ) (m : Member) (is : slice_get p n ≡ Some m) where
  -- a member without a line is none of them
  pub passes_none : has_line m.kind ≡ false → every jobs skip (lines_from n (drop n p)) ≡ every jobs skip (lines_from (n + 1) (drop (n + 1) p))
  passes_none none = ap (every jobs skip) (no_line p n m is none)

  -- a member with a line is another lane's
  pub passes_one : has_line m.kind ≡ true → (skip ≡ 0 → ⊥) → every jobs skip (lines_from n (drop n p)) ≡ every jobs (skip - 1) (lines_from (n + 1) (drop (n + 1) p))
  passes_one one some = ap (every jobs skip) (one_line p n m is one) ∙ every_on jobs skip n (lines_from (n + 1) (drop (n + 1) p)) some

  -- or this lane's
  pub deals_one : has_line m.kind ≡ true → skip ≡ 0 → every jobs skip (lines_from n (drop n p)) ≡ n ∷ every jobs (jobs - 1) (lines_from (n + 1) (drop (n + 1) p))
  deals_one one none = ap (every jobs skip) (one_line p n m is one) ∙ every_here jobs skip n (lines_from (n + 1) (drop (n + 1) p)) none

-- none is left
pub deals_none : (p : Program) (jobs skip n : ℕ) → length p ≤ n → every jobs skip (lines_from n (drop n p)) ≡ []
deals_none p jobs skip n end = every_none jobs skip (lines_from n (drop n p)) (none_left p n end)
