-- One part of the grammar behind the other.
use Rattle.std.proofs.Common.{◌≡◌, ℕ, List, [], ◌++◌, Ok, refl}
use Rattle.vx_tokens.specs.Tokens.{Token}
use Rattle.vx_grammar.specs.Grammar.{Mark}
use Rattle.vx_grammar.specs.Reading.{◌>>=◌, Read}
use Rattle.vx_grammar.proofs.Tells.{Grammar, Starts, Tells, After, tells_then, tells_as, tells_here}

-- a value of the first part, and what stands behind it
abbrev pub Sequence : {A B : Type 0} → Grammar A → (A → Grammar B) → Grammar B
Sequence {A} R T y ms = (x : A) × (front : List Mark) × (back : List Mark) × (ms ≡ front ++ back) × R x front × T x y back

-- no token, and this value
abbrev pub Nothing : {A : Type 0} → A → Grammar A
Nothing v y ms = (y ≡ v) × (ms ≡ [])

pub tells_nothing : {A : Type 0} (limit : ℕ) (ts : List Token) (v : A) → Tells (Nothing v) limit ts (Ok (v, ts))
tells_nothing limit ts v = tells_here (Nothing v) limit ts v (refl, refl)

pub starts_nothing : {A : Type 0} (v : A) → Starts (Nothing v) []
starts_nothing v = record { value = v; more = []; spelled = (refl, refl) }

pub starts_sequence : {A B : Type 0} (R : Grammar A) (T : A → Grammar B) → Starts R [] → ((x : A) → Starts (T x) []) → Starts (Sequence R T) []
starts_sequence R T r t =
    let s = t r.value in
    record { value = s.value; more = r.more ++ s.more; spelled = (r.value, r.more, s.more, refl, r.spelled, s.spelled) }

-- behind the first part
pub tells_second : {A B : Type 0} (R : Grammar A) (T : A → Grammar B) (limit : ℕ) (x : A) (rest : List Token) (ms : List Mark) (r : Read B) → R x ms → Tells (T x) limit rest r → Tells (After (Sequence R T) ms) limit rest r
tells_second R T limit x rest ms r g h = tells_as (T x) (After (Sequence R T) ms) limit rest r (λ y ns t. (x, ms, ns, refl, g, t)) h

-- where what stands behind it may belong to the first part still
pub tells_sequence_by : {A B : Type 0} (R : Grammar A) (T : A → Grammar B) (limit : ℕ) (ts : List Token) (r : Read A) (f : A × List Token → Read B) → ((x : A) → Starts (T x) []) → Tells R limit ts r
    → ((x : A) (rest : List Token) (ms : List Mark) → R x ms → Tells (After (Sequence R T) ms) limit rest (f (x, rest)))
    → Tells (Sequence R T) limit ts (r >>= f)
tells_sequence_by R T limit ts r f starts h k =
    tells_then R (Sequence R T) limit ts r f
    (λ x ms g. let s = starts x in record { value = s.value; more = s.more; spelled = (x, ms, s.more, refl, g, s.spelled) })
    h
    (λ x rest ms g takes. k x rest ms g)

pub tells_sequence : {A B : Type 0} (R : Grammar A) (T : A → Grammar B) (limit : ℕ) (ts : List Token) (r : Read A) (f : A × List Token → Read B) → ((x : A) → Starts (T x) []) → Tells R limit ts r
    → ((x : A) (rest : List Token) → Tells (T x) limit rest (f (x, rest)))
    → Tells (Sequence R T) limit ts (r >>= f)
tells_sequence R T limit ts r f starts h k = tells_sequence_by R T limit ts r f starts h (λ x rest ms g. tells_second R T limit x rest ms (f (x, rest)) g (k x rest))
