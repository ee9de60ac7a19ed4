-- Truths of opposites.
use Rattle.std.proofs.Common.{◌≡◌, zero, suc, Bool, true, false, not, List, [], ◌∷◌, inl, inr, subst}
use Rattle.std.proofs.lemmas.Option.{same_Some}
use Rattle.vx_terms.specs.Terms.{Truth, Not}
use Rattle.vx_terms.specs.Interpretations.{Each, IsTrueIn, as_bool, value}
use Rattle.cs_certificate.specs.Certificate.{Contains}
use Rattle.cs_opposites.specs.Law.{Law}

each_in : {A : Type 0} (P : A → Type 0) (xs : List A) (x : A) → Each P xs → Contains xs x → P x
each_in P [] x h (n, e) = cc
each_in P (y ∷ ys) x h (zero, e) = subst P (same_Some _ _ e) h.0
each_in P (y ∷ ys) x h (suc n, e) = each_in P ys x h.1 (n, e)

never_both : (b : Bool) → b ≡ true → not b ≡ true → ⊥
never_both true e f = cc
never_both false e f = cc

pub law : Law
law ts (inl c) i all = let e : false ≡ true = each_in (IsTrueIn i) ts (Truth false) all c in cc
law ts (inr (t, c, d)) i all = never_both (as_bool (value i t)) (each_in (IsTrueIn i) ts t all c) (each_in (IsTrueIn i) ts (Not t) all d)
