-- Numbers of terms have 32 bits.
use Rattle.std.proofs.Common.{◌≡◌, ℕ, ◌<◌, ◌^◌, Bool, true, false, List, [], ◌∷◌, ◌++◌, Option, Some, None, map, length, refl, sym, ◌∙◌, ap, ap₂, arith}
use Rattle.std.specs.Prelude.{nat_lt, slice_get, if◌then◌else◌}
use Rattle.std.proofs.lemmas.Option.{slice_get_within, slice_get_past, same_Some}
use Rattle.std.proofs.lemmas.Bool.{lt-ltb, ltb-false}
use Rattle.vx_terms.specs.Terms.{Term}
use Rattle.cs_certificate.specs.Certificate.{At, AllAt, no-terms, one-term, Clause, NumberedLiteral, Stack, State, Step, Derives}
use Rattle.cs_certificate.specs.Nodes.{Node}
use Rattle.cs_certificate.specs.Steps.{◌>>=◌, plain, denial, Names, names-none, names-yes, names-no, Computes}
use Rattle.cs_certificate.specs.declared.literal.Literal.{Literal}
use Rattle.cs_certificate.specs.declared.literal.Clause.{Clause as Clause'}
use Rattle.cs_certificate.specs.declared.literal.Left.{Left}
use Rattle.cs_certificate.specs.declared.literal.Left.TheVariants.{Nothing, One, Many}
use Rattle.cs_certificate.specs.Hints.{refutes, at_hint, after, left}
use Rattle.cs_proof.specs.Prepared.{narrow, narrow_all, narrow_literal, narrow_literals, saturate}

pub narrow_is : (n : ℕ) → n < 2 ^ 32 → narrow n ≡ Some n
narrow_is n lt = ap (λ b. if b then Some n else None) (lt-ltb n (2 ^ 32) lt)

pub small_at : (terms : List Term) (n : ℕ) (t : Term) → length terms < 2 ^ 32 → At terms n t → n < 2 ^ 32
small_at terms n t lt at = let k = slice_get_within terms n t at in omega arith

pub all_narrow : (terms : List Term) {ns : List ℕ} {ts : List Term} → length terms < 2 ^ 32 → AllAt terms ns ts → narrow_all ns ≡ Some ns
all_narrow terms lt no-terms = refl
all_narrow terms lt (one-term {n = n} {t = t} {ns = ns} at more) =
    ap (λ o. o >>= λ m. (narrow_all ns >>= λ ms. Some (m ∷ ms))) (narrow_is n (small_at terms n t lt at)) ∙ ap (λ o. o >>= λ ms. Some (n ∷ ms)) (all_narrow terms lt more)

narrowed_is : (n m : ℕ) → narrow n ≡ Some m → m ≡ n
narrowed_is n m e = go (nat_lt n (2 ^ 32)) e
  where
    go : (b : Bool) → (if b then Some n else None) ≡ Some m → m ≡ n
    go true e = cc
    go false e = cc

pub narrowed_all : (ns ms : List ℕ) → narrow_all ns ≡ Some ms → ms ≡ ns
narrowed_all [] ms e = cc
narrowed_all (n ∷ ns) ms e = go (narrow n) refl (narrow_all ns) (narrowed_all ns) refl e
  where
    go : (o : Option ℕ) → narrow n ≡ o → (p : Option (List ℕ)) → ((ks : List ℕ) → narrow_all ns ≡ Some ks → ks ≡ ns) → narrow_all ns ≡ p → (o >>= λ m. (p >>= λ ms. Some (m ∷ ms))) ≡ Some ms → ms ≡ n ∷ ns
    go None f p ih g e = cc
    go (Some k) f None ih g e = cc
    go (Some k) f (Some ks) ih g e = sym (same_Some _ _ e) ∙ ap₂ (λ x xs. x ∷ xs) (narrowed_is n k f) (ih ks g)

literal_is : (l k : NumberedLiteral) → narrow_literal l ≡ Some k → k ≡ l
literal_is l k e = go (nat_lt l.number (2 ^ 32)) e
  where
    go : (b : Bool) → ((if b then Some l.number else None) >>= λ n. Some record { sign = l.sign; number = n }) ≡ Some k → k ≡ l
    go true e = cc
    go false e = cc

pub literals_are : (ls ks : List NumberedLiteral) → narrow_literals ls ≡ Some ks → ks ≡ ls
literals_are [] ks e = cc
literals_are (l ∷ ls) ks e = go (narrow_literal l) refl (narrow_literals ls) (literals_are ls) refl e
  where
    go : (o : Option NumberedLiteral) → narrow_literal l ≡ o → (p : Option (List NumberedLiteral)) → ((ms : List NumberedLiteral) → narrow_literals ls ≡ Some ms → ms ≡ ls) → narrow_literals ls ≡ p → (o >>= λ m. (p >>= λ ms. Some (m ∷ ms))) ≡ Some ks → ks ≡ l ∷ ls
    go None f p ih g e = cc
    go (Some k) f None ih g e = cc
    go (Some k) f (Some ms) ih g e = sym (same_Some _ _ e) ∙ ap₂ (λ x xs. x ∷ xs) (literal_is l k f) (ih ms g)

literal_here : (l : NumberedLiteral) → l.number < 2 ^ 32 → narrow_literal l ≡ Some l
literal_here l lt = ap (λ o. o >>= λ n. Some record { sign = l.sign; number = n }) (narrow_is l.number lt)

pub one_more : (l : NumberedLiteral) (ls : List NumberedLiteral) → l.number < 2 ^ 32 → narrow_literals ls ≡ Some ls → narrow_literals (l ∷ ls) ≡ Some (l ∷ ls)
one_more l ls lt e = ap (λ o. o >>= λ k. (narrow_literals ls >>= λ ks. Some (k ∷ ks))) (literal_here l lt) ∙ ap (λ o. o >>= λ ks. Some (l ∷ ks)) e

pub literals_named : (terms : List Term) {ns : List NumberedLiteral} {c : Clause} → length terms < 2 ^ 32 → Names terms ns c → narrow_literals ns ≡ Some ns
literals_named terms lt names-none = refl
literals_named terms lt (names-yes {n = n} {t = t} {ns = ns} at more) = one_more (plain n) ns (small_at terms n t lt at) (literals_named terms lt more)
literals_named terms lt (names-no {n = n} {t = t} {ns = ns} at more) = one_more (denial n) ns (small_at terms n t lt at) (literals_named terms lt more)

-- a clause by a narrow number is a clause by the number
pub by_narrow : (s : State) (stack : Stack) (nodes : List Node) (step : Step) (n : ℕ) (f : ℕ → Option (List NumberedLiteral)) →
    ((c : Clause) → Derives stack s step c → n < 2 ^ 32) → Computes nodes s stack step (f n) → Computes nodes s stack step (narrow n >>= f)
by_narrow s stack nodes step n f small h = go (nat_lt n (2 ^ 32)) refl
  where
    go : (b : Bool) → nat_lt n (2 ^ 32) ≡ b → Computes nodes s stack step ((if b then Some n else None) >>= f)
    go true e = h
    go false e = record {
      sound = λ ns g. cc;
      complete = λ c d. absurd (let lt = small c d in let ge = ltb-false n (2 ^ 32) e in omega arith);
    }

-- a hint of more bits names no clause
module _ (clauses : List Clause') (lt : length clauses < 2 ^ 32) (h : ℕ) (hs : List ℕ) (ih : (known : List Literal) → refutes clauses known (map saturate hs) ≡ refutes clauses known hs) (known : List Literal) where
  after_left : (f : Left) → after f (λ l. refutes clauses (known ++ l ∷ []) (map saturate hs)) ≡ after f (λ l. refutes clauses (known ++ l ∷ []) hs)
  after_left Nothing = refl
  after_left (One l) = ih (known ++ l ∷ [])
  after_left Many = refl

  further : (o : Option Clause') → at_hint o known (λ l. refutes clauses (known ++ l ∷ []) (map saturate hs)) ≡ at_hint o known (λ l. refutes clauses (known ++ l ∷ []) hs)
  further None = refl
  further (Some c) = after_left (left Nothing known c.literals.items)

  one_saturated : (b : Bool) → nat_lt h (2 ^ 32) ≡ b → refutes clauses known (saturate h ∷ map saturate hs) ≡ refutes clauses known (h ∷ hs)
  one_saturated true e = ap (λ b. at_hint (slice_get clauses (if b then h else 4294967295)) known (λ l. refutes clauses (known ++ l ∷ []) (map saturate hs))) e ∙ further (slice_get clauses h)
  one_saturated false e =
      let ge = ltb-false h (2 ^ 32) e in
      ap (λ b. at_hint (slice_get clauses (if b then h else 4294967295)) known (λ l. refutes clauses (known ++ l ∷ []) (map saturate hs))) e
      ∙ ap (λ o. at_hint o known (λ l. refutes clauses (known ++ l ∷ []) (map saturate hs))) (slice_get_past clauses 4294967295 (omega arith))
      ∙ sym (ap (λ o. at_hint o known (λ l. refutes clauses (known ++ l ∷ []) hs)) (slice_get_past clauses h (omega arith)))

pub saturated : (clauses : List Clause') (lt : length clauses < 2 ^ 32) (hs : List ℕ) (known : List Literal) → refutes clauses known (map saturate hs) ≡ refutes clauses known hs
saturated clauses lt [] known = refl
saturated clauses lt (h ∷ hs) known = one_saturated clauses lt h hs (saturated clauses lt hs) known (nat_lt h (2 ^ 32)) refl
