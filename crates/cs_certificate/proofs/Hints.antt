-- One more hint.
use Rattle.std.proofs.Common.{◌≡◌, ℕ, suc, ◌+◌, ◌<◌, ◌≤◌, false, List, [], ◌∷◌, ◌++◌, length, get_or, drop, refl, sym, ◌∙◌, ap, add-one, drop-cons}
use Rattle.std.proofs.lemmas.Option.{slice_get_past, slice_get_read}
use Rattle.cs_certificate.specs.declared.literal.Literal.{Literal}
use Rattle.cs_certificate.specs.declared.literal.Left.{Left}
use Rattle.cs_certificate.specs.declared.literal.Left.TheVariants.{Nothing}
use Rattle.cs_certificate.specs.declared.literal.Clause.{Clause}
use Rattle.cs_certificate.specs.Hints.{left, after, at_hint, refutes}

pub missing : (clauses : List Clause) (known : List Literal) (hints : List ℕ) (k h : ℕ) → k < length hints → h ≡ get_or hints k 0 → length clauses ≤ h → refutes clauses known (drop k hints) ≡ false
missing clauses known hints k h lt e past =
    ap (refutes clauses known) (drop-cons hints k 0 lt ∙ ap (λ x. x ∷ drop (suc k) hints) (sym e))
    ∙ ap (λ o. at_hint o known (λ l. refutes clauses (known ++ l ∷ []) (drop (suc k) hints))) (slice_get_past clauses h past)

pub leaves : (clauses : List Clause) (known : List Literal) (hints : List ℕ) (k h : ℕ) (c : Clause) (f : Left) →
    k < length hints → h ≡ get_or hints k 0 → h < length clauses → c ≡ get_or clauses h c → left Nothing known c.literals.items ≡ f →
    refutes clauses known (drop k hints) ≡ after f (λ l. refutes clauses (known ++ l ∷ []) (drop (k + 1) hints))
leaves clauses known hints k h c f lt e here is found =
    ap (refutes clauses known) (drop-cons hints k 0 lt ∙ ap (λ x. x ∷ drop (suc k) hints) (sym e))
    ∙ ap (λ o. at_hint o known (λ l. refutes clauses (known ++ l ∷ []) (drop (suc k) hints))) (slice_get_read clauses (length clauses) h c refl here is)
    ∙ ap (λ f. after f (λ l. refutes clauses (known ++ l ∷ []) (drop (suc k) hints))) found
    ∙ ap (λ n. after f (λ l. refutes clauses (known ++ l ∷ []) (drop n hints))) (sym (add-one k))
