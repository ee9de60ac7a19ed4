-- One symbol more, and one fewer.
use Rattle.std.proofs.Common.{◌≡◌, ℕ, Bool, true, false, List, [], ◌∷◌, ◌++◌, cond, not, if◌then◌else◌, nat_eq, nat_cmp, refl, sym, ◌∙◌, ap, subst, arith}
use Rattle.std.proofs.lemmas.Bool.{eqb-true}
use Rattle.std.proofs.lemmas.Grind.{common_steps}
use Rattle.std.specs.Ordering.{is_eq}
use Rattle.vx_terms.specs.Sorts.{Sort, same_symbol, Variable}
use Rattle.vx_terms.specs.Views.{symbol}
use Rattle.vx_terms.specs.declared.term.Symbol.{Symbol as Symbol'}
use Rattle.vx_terms.specs.declared.term.Symbol.TheVariants as symbol'
use Rattle.vx_smt_meaning.specs.Commands.{Declared}
use Rattle.vx_dialogue.specs.Symbols.{variable, declares, AreOnce}

by_order : (m n : ℕ) → is_eq (nat_cmp m n) ≡ nat_eq m n
by_order m n = grind (arith, common_steps)

declares_more : (ds : List Declared) (m n : ℕ) (a : Sort) → declares (ds ++ variable m a ∷ []) n ≡ cond (nat_eq m n) true (declares ds n)
declares_more [] m n a = refl
declares_more (d ∷ ds) m n a = by_case (same_symbol d.symbol (Variable n)) (nat_eq m n) _ (declares ds n) (declares_more ds m n a)
  where
    by_case : (here at later before : Bool) → later ≡ cond at true before
        → (if here then true else later) ≡ cond at true (if here then true else before)
    by_case true true later before e = refl
    by_case true false later before e = refl
    by_case false at later before e = e

-- the numbers keep pace with the symbols
pub declares_on : (old new : ℕ → Bool) (ds : List Declared) (m : ℕ) (a : Sort) → ((n : ℕ) → old n ≡ declares ds n)
    → ((n : ℕ) → new n ≡ cond (is_eq (nat_cmp m n)) true (old n)) → (n : ℕ) → new n ≡ declares (ds ++ variable m a ∷ []) n
declares_on old new ds m a agree updated n = rw (updated n, by_order m n, agree n, declares_more ds m n a) refl

-- ---- no symbol is declared twice

if_none : (a b : Bool) → (if a then true else b) ≡ false → (a ≡ false) × (b ≡ false)
if_none true b e = absurd (cc)
if_none false b e = (refl, e)

cond_none : (a b : Bool) → cond a true b ≡ false → b ≡ false
cond_none true b e = absurd (cc)
cond_none false b e = e

-- a v that isn't there yet stands at the end
pub once_more : (ds : List Declared) (m : ℕ) (a : Sort) → declares ds m ≡ false → AreOnce ds → AreOnce (ds ++ variable m a ∷ [])
once_more [] m a none once = ((λ n same. refl), tt)
once_more (d ∷ ds) m a none once =
    let parts = if_none (same_symbol d.symbol (Variable m)) (declares ds m) none in
    ((λ n same. declares_more ds m n a ∙ by_number parts.0 n same (nat_eq m n) refl), once_more ds m a parts.1 once.1)
  where
    by_number : same_symbol d.symbol (Variable m) ≡ false → (n : ℕ) → same_symbol d.symbol (Variable n) ≡ true → (b : Bool) → nat_eq m n ≡ b → cond b true (declares ds n) ≡ false
    by_number other n same true e =
        let one = subst (λ k. same_symbol d.symbol (Variable k) ≡ true) (sym (eqb-true m n e)) same in
        absurd (cc)
    by_number other n same false e = once.0 n same

same_number : (m : ℕ) → nat_eq m m ≡ true
same_number m = grind (arith, common_steps)

declares_end : (ds : List Declared) (d : Declared) (n : ℕ) → declares (ds ++ d ∷ []) n ≡ cond (same_symbol d.symbol (Variable n)) true (declares ds n)
declares_end [] d n = by_case (same_symbol d.symbol (Variable n))
  where
    by_case : (b : Bool) → (if b then true else false) ≡ cond b true false
    by_case true = refl
    by_case false = refl
declares_end (x ∷ ds) d n = by_case (same_symbol x.symbol (Variable n)) (same_symbol d.symbol (Variable n)) _ (declares ds n) (declares_end ds d n)
  where
    by_case : (here at later before : Bool) → later ≡ cond at true before
        → (if here then true else later) ≡ cond at true (if here then true else before)
    by_case true true later before e = refl
    by_case true false later before e = refl
    by_case false at later before e = e

-- and leaves it
pub once_fewer : (ds : List Declared) (d : Declared) → AreOnce (ds ++ d ∷ []) → AreOnce ds
once_fewer [] d once = tt
once_fewer (x ∷ ds) d once =
    ((λ n same. cond_none (same_symbol d.symbol (Variable n)) (declares ds n) (sym (declares_end ds d n) ∙ once.0 n same)), once_fewer ds d once.1)

last_alone : (ds : List Declared) (d : Declared) (n : ℕ) → same_symbol d.symbol (Variable n) ≡ true → AreOnce (ds ++ d ∷ []) → declares ds n ≡ false
last_alone [] d n same once = refl
last_alone (x ∷ ds) d n same once = by_case (last_alone ds d n same once.1) (same_symbol x.symbol (Variable n)) refl
  where
    by_case : declares ds n ≡ false → (b : Bool) → same_symbol x.symbol (Variable n) ≡ b → (if b then true else declares ds n) ≡ false
    by_case rest true e =
        let there : cond true true (declares ds n) ≡ false = subst (λ b. cond b true (declares ds n) ≡ false) same (sym (declares_end ds d n) ∙ once.0 n e) in
        absurd (cc)
    by_case rest false e = rest

-- the numbers keep pace with the symbols: where the last one is a v, its number leaves the set
pub declares_off : (old new : ℕ → Bool) (ds : List Declared) (d : Declared) (m : ℕ) → d.symbol ≡ Variable m → AreOnce (ds ++ d ∷ []) → ((n : ℕ) → old n ≡ declares (ds ++ d ∷ []) n)
    → ((n : ℕ) → new n ≡ cond (is_eq (nat_cmp m n)) false (old n)) → (n : ℕ) → new n ≡ declares ds n
declares_off old new ds d m is once agree updated n =
    updated n
    ∙ ap (λ b. cond b false (old n)) (by_order m n)
    ∙ ap (λ b. cond (nat_eq m n) false b) (agree n ∙ declares_end ds d n ∙ ap (λ f. cond (same_symbol f (Variable n)) true (declares ds n)) is)
    ∙ by_number (nat_eq m n) refl
  where
    by_number : (b : Bool) → nat_eq m n ≡ b → cond b false (cond b true (declares ds n)) ≡ declares ds n
    by_number true e = sym (subst (λ k. declares ds k ≡ false) (eqb-true m n e) (last_alone ds d m (ap (λ f. same_symbol f (Variable m)) is ∙ same_number m) once))
    by_number false e = refl

-- and where it is none, they stay
pub declares_as : (old : ℕ → Bool) (ds : List Declared) (d : Declared) → ((n : ℕ) → same_symbol d.symbol (Variable n) ≡ false) → ((n : ℕ) → old n ≡ declares (ds ++ d ∷ []) n)
    → (n : ℕ) → old n ≡ declares ds n
declares_as old ds d none agree n = agree n ∙ declares_end ds d n ∙ ap (λ b. cond b true (declares ds n)) (none n)

pub was_absent : (there new : Bool) → new ≡ not there → new ≡ true → there ≡ false
was_absent true new is so = absurd (cc)
was_absent false new is so = refl

pub no_variable : (f : Symbol') → ((n : ℕ) → f ≡ symbol'.Variable n → ⊥) → (n : ℕ) → same_symbol (symbol f) (Variable n) ≡ false
no_variable (symbol'.Standard k) none n = refl
no_variable (symbol'.Function k) none n = refl
no_variable (symbol'.Variable k) none n = absurd (none k refl)
no_variable (symbol'.Named x) none n = refl
