-- There is one answer.
use Rattle.std.proofs.Common.{◌≡◌, ℕ, suc, ◌+◌, List, [], ◌∷◌, ◌++◌, Option, length, refl, sym, ◌∙◌, ap, subst, arith}
use Rattle.std.proofs.lemmas.Option.{same_Some}
use Rattle.cs_certificate.specs.Certificate.{Stack, State, start, Step, Farkas, Contains}
use Rattle.cs_farkas.specs.Sums.{Leaves, Outcome}
use Rattle.cs_farkas.specs.Sums as sums
use Rattle.cs_farkas.specs.Rows.{farkas_clause}
use Rattle.cs_proof.specs.Checking.{Verdict, Finished, BadStep, Over, NotEmpty, BadForm}
use Rattle.cs_proof.specs.Answers.{Meets, IsOver, Holds, none, more, Reaches, Answers}

first_is : {A : Type 0} {x y : A} {xs ys : List A} → x ∷ xs ≡ y ∷ ys → x ≡ y
first_is e = cc

rest_is : {A : Type 0} {x y : A} {xs ys : List A} → x ∷ xs ≡ y ∷ ys → xs ≡ ys
rest_is e = cc

-- one call leaves first
leaves_is : {A : Type 0} {o p : sums.Over} (x : Outcome A) → x ≡ Leaves o → x ≡ Leaves p → o ≡ p
leaves_is x e f = let g = sym e ∙ f in cc

pub one_over : (s : State) (w : Option Step) (o p : sums.Over) → IsOver s w o → IsOver s w p → o ≡ p
one_over s w o p (ls, ms, e, ns, is, f) (ls', ms', e', ns', is', f') =
    let one : Farkas ls ms ≡ Farkas ls' ms' = same_Some _ _ (sym e ∙ e') in
    let same : ns ≡ ns' = same_Some _ _ (sym is ∙ is') in
    leaves_is (farkas_clause ns (length ns) ls ms) f (ap (λ l. farkas_clause ns (length ns) l ms) (literals one) ∙ ap (λ m. farkas_clause ns (length ns) ls' m) (multipliers one) ∙ ap (λ n. farkas_clause n (length n) ls' ms') same ∙ f')
  where
    literals : Farkas ls ms ≡ Farkas ls' ms' → ls ≡ ls'
    literals e = cc

    multipliers : Farkas ls ms ≡ Farkas ls' ms' → ms ≡ ms'
    multipliers e = cc

-- the steps before some step hold, from a state that n steps lead to
pub record ReachesFrom (stack : Stack) (n : ℕ) (s : State) (ws : List (Option Step)) (m : ℕ) (w : Option Step) (u : State) : Type 0 where
  pub before : List (Option Step)
  pub behind : List (Option Step)
  pub whole : ws ≡ before ++ w ∷ behind
  pub count : n + length before ≡ m
  pub holds : Holds stack s before u

abbrev pub From : Stack → (n : ℕ) → State → List (Option Step) → Verdict → Type 0
From stack n s ws Finished = (u : State) × Holds stack s ws u × Contains u.clauses []
From stack n s ws NotEmpty = (u : State) × Holds stack s ws u × (Contains u.clauses [] → ⊥)
From stack n s ws (BadStep m) = (w : Option Step) × (u : State) × ReachesFrom stack n s ws m w u × ((v : State) → Meets stack u w v → ⊥) × ((o : sums.Over) → IsOver u w o → ⊥)
From stack n s ws (Over m o) = (w : Option Step) × (u : State) × ReachesFrom stack n s ws m w u × IsOver u w o
From stack n s ws (BadForm m) = ⊥

from_start : (stack : Stack) (ws : List (Option Step)) (n : ℕ) (w : Option Step) (u : State) → Reaches stack ws n w u → ReachesFrom stack 0 (start stack) ws n w u
from_start stack ws n w u r = record { before = r.before; behind = r.behind; whole = r.whole; count = (let e = r.count in omega arith); holds = r.holds }

pub answers_from : (stack : Stack) (ws : List (Option Step)) (v : Verdict) → Answers stack ws v → From stack 0 (start stack) ws v
answers_from stack ws Finished h = h
answers_from stack ws NotEmpty h = h
answers_from stack ws (BadStep n) (w, u, r, a, b) = (w, u, from_start stack ws n w u r, a, b)
answers_from stack ws (Over n o) (w, u, r, a) = (w, u, from_start stack ws n w u r, a)
answers_from stack ws (BadForm n) h = h

-- by the first step
pub data Ahead (stack : Stack) (n : ℕ) (s : State) (w : Option Step) (ws : List (Option Step)) (v : Verdict) : Type 0 where
  passes : (x : State) → Meets stack s w x → ((o : sums.Over) → IsOver s w o → ⊥) → From stack (suc n) x ws v → Ahead stack n s w ws v
  stops : v ≡ BadStep n → ((u : State) → Meets stack s w u → ⊥) → ((o : sums.Over) → IsOver s w o → ⊥) → Ahead stack n s w ws v
  exceeds : (o : sums.Over) → v ≡ Over n o → IsOver s w o → Ahead stack n s w ws v

module _ (stack : Stack) (n : ℕ) where
  ended : (s u : State) → Holds stack s [] u → u ≡ s
  ended s u none = refl

  no_count : (m : ℕ) → n + 0 ≡ m → m ≡ n
  no_count m e = omega arith

  one_count : (k m : ℕ) → n + suc k ≡ m → suc n + k ≡ m
  one_count k m e = omega arith

  bad_ahead : (s : State) (w : Option Step) (ws before behind : List (Option Step)) (m : ℕ) (y : Option Step) (u : State) → w ∷ ws ≡ before ++ y ∷ behind → n + length before ≡ m → Holds stack s before u →
      ((v : State) → Meets stack u y v → ⊥) → ((o : sums.Over) → IsOver u y o → ⊥) → Ahead stack n s w ws (BadStep m)
  bad_ahead s w ws [] behind m y u e c h a b =
      let same : u ≡ s = ended s u h in
      let step : w ≡ y = first_is e in
      stops (ap BadStep (no_count m c)) (λ v k. a v (subst (λ x. Meets stack x y v) (sym same) (subst (λ x. Meets stack s x v) step k))) (λ o k. b o (subst (λ x. IsOver x y o) (sym same) (subst (λ x. IsOver s x o) step k)))
  bad_ahead s w ws (z ∷ zs) behind m y u e c (more {u = x} k l rest) a b =
      let step : w ≡ z = first_is e in
      passes x (subst (λ t. Meets stack s t x) (sym step) k) (λ o i. l o (subst (λ t. IsOver s t o) step i))
      (y, u, record { before = zs; behind = behind; whole = rest_is e; count = one_count (length zs) m c; holds = rest }, a, b)

  over_ahead : (s : State) (w : Option Step) (ws before behind : List (Option Step)) (m : ℕ) (o : sums.Over) (y : Option Step) (u : State) → w ∷ ws ≡ before ++ y ∷ behind → n + length before ≡ m → Holds stack s before u →
      IsOver u y o → Ahead stack n s w ws (Over m o)
  over_ahead s w ws [] behind m o y u e c h a =
      let same : u ≡ s = ended s u h in
      let step : w ≡ y = first_is e in
      exceeds o (ap (λ k. Over k o) (no_count m c)) (subst (λ x. IsOver x w o) same (subst (λ t. IsOver u t o) (sym step) a))
  over_ahead s w ws (z ∷ zs) behind m o y u e c (more {u = x} k l rest) a =
      let step : w ≡ z = first_is e in
      passes x (subst (λ t. Meets stack s t x) (sym step) k) (λ o i. l o (subst (λ t. IsOver s t o) step i))
      (y, u, record { before = zs; behind = behind; whole = rest_is e; count = one_count (length zs) m c; holds = rest }, a)

  pub ahead : (s : State) (w : Option Step) (ws : List (Option Step)) (v : Verdict) → From stack n s (w ∷ ws) v → Ahead stack n s w ws v
  ahead s w ws Finished (u, more {u = x} k l rest, c) = passes x k l (u, rest, c)
  ahead s w ws NotEmpty (u, more {u = x} k l rest, c) = passes x k l (u, rest, c)
  ahead s w ws (BadStep m) (y, u, r, a, b) = bad_ahead s w ws r.before r.behind m y u r.whole r.count r.holds a b
  ahead s w ws (Over m o) (y, u, r, a) = over_ahead s w ws r.before r.behind m o y u r.whole r.count r.holds a
  ahead s w ws (BadForm m) h = absurd h

  no_split : (before behind : List (Option Step)) (y : Option Step) → [] ≡ before ++ y ∷ behind → ⊥
  no_split [] behind y e = cc
  no_split (z ∷ zs) behind y e = cc

  -- with no step left
  pub data AtEnd (s : State) (v : Verdict) : Type 0 where
    finished : v ≡ Finished → Contains s.clauses [] → AtEnd s v
    not_empty : v ≡ NotEmpty → (Contains s.clauses [] → ⊥) → AtEnd s v

  pub at_end : (s : State) (v : Verdict) → From stack n s [] v → AtEnd s v
  at_end s Finished (u, none, c) = finished refl c
  at_end s NotEmpty (u, none, c) = not_empty refl c
  at_end s (BadStep m) (y, u, r, a, b) = absurd (no_split r.before r.behind y r.whole)
  at_end s (Over m o) (y, u, r, a) = absurd (no_split r.before r.behind y r.whole)
  at_end s (BadForm m) h = absurd h
