-- The call that one term of a list makes.
use Rattle.std.proofs.Common.{◌≡◌, ℕ, zero, suc, ◌<◌, List, [], ◌∷◌, length, get_or, map, subst, sym, inl, inr, arith, Result, Ok, Err}
use Rattle.std.specs.Result.{IfErr, IsErrAnd}
use Rattle.std.specs.declared.alloc.Global.{Global}
use Rattle.std.specs.declared.rc.Rc.{Rc}
use Rattle.vx_frac.specs.declared.Over.{Over}
use Rattle.vx_terms.specs.Interpretations.{Interpretation}
use Rattle.vx_terms.specs.Views.{term}
use Rattle.vx_terms.specs.declared.term.Term.{Term}
use Rattle.cs_model.specs.Leaving.{LeavesIn, LeavesAmong, IfOver}
use Rattle.cs_model.specs.declared.valuing.Stop.{Stop}
use Rattle.cs_model.specs.declared.valuing.Stop.TheVariants as stops

-- what an exit by `?` gives is the stop that it met
pub passed_on : {T : Type 0} (r : Result T Stop) (s : Stop) (P : Stop → Type 0) → IsErrAnd r (λ e. e ≡ s) → P s → IfErr r P
passed_on (Ok x) s P is h = absurd is
passed_on (Err e) s P is h = subst P (sym is) h

leaves_among : (i : Interpretation) (c : Over) (xs : List (Rc Term Global)) (k : ℕ) (d : Rc Term Global) → k < length xs → LeavesIn i c (term (get_or xs k d).value) → LeavesAmong i c (map (λ x. term x.value) xs)
leaves_among i c [] k d lt h = absurd (omega arith)
leaves_among i c (x ∷ xs) zero d lt h = inl h
leaves_among i c (x ∷ xs) (suc k) d lt h = inr (leaves_among i c xs k d (omega arith) h)

by_here : (i : Interpretation) (xs : List (Rc Term Global)) (k : ℕ) (d : Rc Term Global) → k < length xs → (s : Stop) → IfOver (λ c. LeavesIn i c (term (get_or xs k d).value)) s → IfOver (λ c. LeavesAmong i c (map (λ x. term x.value) xs)) s
by_here i xs k d lt (stops.Over c) h = leaves_among i c xs k d lt h
by_here i xs k d lt stops.Want h = tt

pub by_one : (i : Interpretation) (xs : List (Rc Term Global)) (k : ℕ) (x : Rc Term Global) (t : Term) → k < length xs → x ≡ get_or xs k x → t ≡ x.value → (s : Stop) → IfOver (λ c. LeavesIn i c (term t)) s → IfOver (λ c. LeavesAmong i c (map (λ x. term x.value) xs)) s
by_one i xs k x t lt at is s h =
    by_here i xs k x lt s (subst (λ (y : Rc Term Global). IfOver (λ c. LeavesIn i c (term y.value)) s) at (subst (λ u. IfOver (λ c. LeavesIn i c (term u)) s) is h))
