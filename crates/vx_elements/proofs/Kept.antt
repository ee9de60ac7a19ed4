-- Symbols below a number keep their values, and the one of that number is free.
use Rattle.std.proofs.Common.{ℕ, List, []}
use Rattle.vx_terms.specs.Sorts.{Sort, Symbol, Standard, Function, Variable, Named}
use Rattle.vx_terms.specs.Terms.{Term, Terms}
use Rattle.vx_terms.specs.Interpretations.{Element, Interpretation}
use Rattle.vx_terms.specs.Formed.{IsKnown, Formed, truth, number, part, constant, applies, nots, binary, ites, all_of, some_of, FormedAll, no_terms, more_terms, FormedBools, no_bools, more_bools}
use Rattle.vx_elements.specs.Kept.{AgreesBelow, KnownIsKept, FreshIsFree}
use Rattle.vx_elements.proofs.Settled.{Meaning, IsSettled, Extends, Settles, SettlesAll, with_symbol, symbol_extends, value_kept, fresh_value}

-- here each function's symbol keeps all that it has
abbrev all : Meaning
all = λ g es e. Unit {0}

is_settled : (n : ℕ) (f : Symbol) (es : List Element) (e : Element) → IsKnown n f → IsSettled all n f es e
is_settled n (Variable k) es e h = h
is_settled n (Standard k) es e h = tt
is_settled n (Function g) es e h = tt
is_settled n (Named x) es e h = tt

is_known : (n : ℕ) (f : Symbol) (es : List Element) (e : Element) → IsSettled all n f es e → IsKnown n f
is_known n (Variable k) es e h = h
is_known n (Standard k) es e h = tt
is_known n (Function g) es e h = tt
is_known n (Named x) es e h = tt

mutual
  settles : {n : ℕ} {t : Term} {a : Sort} (i : Interpretation) → Formed n t a → Settles all n i t
  settles i (truth b) = tt
  settles i (number z) = tt
  settles i (part a e) = tt
  settles i (constant f a k) = is_settled _ f [] _ k
  settles i (applies f a k fs) = (settles_all i fs, is_settled _ f _ _ k)
  settles i (nots f) = settles i f
  settles i (binary t f g) = (settles i f, λ h. settles i g)
  settles i (ites f g h) = (settles i f, (λ e. settles i g), (λ e. settles i h))
  settles i (all_of fs) = settles_bools i fs
  settles i (some_of fs) = settles_bools i fs

  settles_all : {n : ℕ} {ts : Terms} (i : Interpretation) → FormedAll n ts → SettlesAll all n i ts
  settles_all i no_terms = tt
  settles_all i (more_terms a f fs) = (settles i f, settles_all i fs)

  settles_bools : {n : ℕ} {ts : Terms} (i : Interpretation) → FormedBools n ts → SettlesAll all n i ts
  settles_bools i no_bools = tt
  settles_bools i (more_bools f fs) = (settles i f, settles_bools i fs)

extends : {n : ℕ} {i j : Interpretation} → AgreesBelow n i j → Extends all n i j
extends {n = n} {i = i} h = record { functions = λ f a es k. h.functions f a es (is_known n f es (i.functions f a es) k); quotients = h.quotients; remainders = h.remainders }

agrees : {n : ℕ} {i j : Interpretation} → Extends all n i j → AgreesBelow n i j
agrees {n = n} {i = i} h = record { functions = λ f a es k. h.functions f a es (is_settled n f es (i.functions f a es) k); quotients = h.quotients; remainders = h.remainders }

pub known_is_kept : KnownIsKept
known_is_kept n i j t a h f = value_kept all t (settles i f) (extends h)

pub fresh_is_free : FreshIsFree
fresh_is_free n i a e h = (with_symbol all i n e, agrees (symbol_extends all i n e), fresh_value all i n e a h)
