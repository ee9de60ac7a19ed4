-- Numbered literals within the first terms are the literals of a clause.
use Rattle.std.proofs.Common.{◌≡◌, ℕ, ◌<◌, ◌≤◌, true, List, ◌∷◌, Some, None, map, length, refl, sym, ◌∙◌, ap, ap₂, arith}
use Rattle.std.specs.Prelude.{if◌then◌else◌}
use Rattle.std.proofs.lemmas.Option.{slice_get_within, get_or_from_slice_get}
use Rattle.std.proofs.lemmas.Bool.{lt-ltb}
use Rattle.vx_terms.specs.Terms.{Term, Truth}
use Rattle.vx_terms.specs.Interpretations.{Each}
use Rattle.cs_certificate.specs.Certificate.{At, Clause, Yes, No, NumberedLiteral}
use Rattle.cs_certificate.specs.Steps.{◌>>=◌, plain, denial, Names, names-none, names-yes, names-no}
use Rattle.cs_certificate.specs.declared.literal.Literal.{Literal}
use Rattle.cs_certificate.specs.Bridge.{term_at, views, IsNumbered}
use Rattle.cs_proof.specs.Prepared.{is_plain, one_within, within}

-- the literal by its number
abbrev pub named : NumberedLiteral → Literal
named l = record { positive = is_plain l.sign; number = l.number }

pub term_is : (terms : List Term) (n : ℕ) (t : Term) → At terms n t → term_at terms n ≡ t
term_is terms n t at = get_or_from_slice_get terms n t (Truth true) at

one_here : (n : ℕ) (l : NumberedLiteral) → l.number < n → one_within n l ≡ Some (named l)
one_here n l lt = ap (λ b. if b then Some (named l) else None) (lt-ltb l.number n lt)

pub all_within : (terms : List Term) (n : ℕ) {ns : List NumberedLiteral} {c : Clause} → length terms ≤ n → Names terms ns c → within n ns ≡ Some (map named ns)
all_within terms n le names-none = refl
all_within terms n le (names-yes {n = k} {t = t} {ns = ns} at more) =
    let lt = slice_get_within terms k t at in
    ap (λ o. o >>= λ k. (within n ns >>= λ ks. Some (k ∷ ks))) (one_here n (plain k) (omega arith)) ∙ ap (λ o. o >>= λ ks. Some (named (plain k) ∷ ks)) (all_within terms n le more)
all_within terms n le (names-no {n = k} {t = t} {ns = ns} at more) =
    let lt = slice_get_within terms k t at in
    ap (λ o. o >>= λ k. (within n ns >>= λ ks. Some (k ∷ ks))) (one_here n (denial k) (omega arith)) ∙ ap (λ o. o >>= λ ks. Some (named (denial k) ∷ ks)) (all_within terms n le more)

pub viewed : (terms : List Term) {ns : List NumberedLiteral} {c : Clause} → Names terms ns c → views terms (map named ns) ≡ c
viewed terms names-none = refl
viewed terms (names-yes {n = k} {t = t} at more) = ap₂ (λ x xs. Yes x ∷ xs) (term_is terms k t at) (viewed terms more)
viewed terms (names-no {n = k} {t = t} at more) = ap₂ (λ x xs. No x ∷ xs) (term_is terms k t at) (viewed terms more)

pub numbered : (terms : List Term) {ns : List NumberedLiteral} {c : Clause} → Names terms ns c → Each (IsNumbered terms) (map named ns)
numbered terms names-none = tt
numbered terms (names-yes {n = k} {t = t} at more) = (slice_get_within terms k t at, numbered terms more)
numbered terms (names-no {n = k} {t = t} at more) = (slice_get_within terms k t at, numbered terms more)

-- one list of numbered literals names one clause
pub one_clause : (terms : List Term) {ns : List NumberedLiteral} {c d : Clause} → Names terms ns c → Names terms ns d → c ≡ d
one_clause terms h k = sym (viewed terms h) ∙ viewed terms k
