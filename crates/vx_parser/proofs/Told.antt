-- The token at which a fault stands, and its text.
use Rattle.std.proofs.Common.{◌≡◌, ◌∙◌, ℕ, zero, suc, ◌-◌, List, [], ◌∷◌, ◌++◌, length, Option, Some, None, Result, Ok, Err, refl, sym, ap, subst, arith}
use Rattle.std.specs.Prelude.{option_map}
use Rattle.std.specs.List.{slice_get}
use Rattle.std.specs.Str.{IsUtf8}
use Rattle.std.proofs.lemmas.List.{length-map, length-append}
use Rattle.std.proofs.lemmas.Option.{slice_get-map}
use Rattle.vx_tokens.specs.declared.token.Token as the_token
use Rattle.vx_tokens.specs.Tokens.{Token, token_of, tokens_in}
use Rattle.vx_tokens.specs.Text.{Ending}
use Rattle.vx_tokens.proofs.Letters.{spelled_is_text}
use Rattle.vx_grammar.specs.MemberReading as members
use Rattle.vx_ast.specs.Written.{Program}
use Rattle.vx_parser.specs.declared.fault.TextFault as the_fault
use Rattle.vx_parser.specs.declared.fault.TextFault.TheVariants as faults
use Rattle.vx_parser.specs.Answers.{Fault, rest_of, fault_at, IsAnswer, Shows, StandsIn, AllStandIn, EndsWith, FaultsAt, FaultsAs}

-- a token's text is text
pub is_text : (bytes : List ℕ) (t : the_token.Token) → StandsIn bytes t → IsUtf8 t.text.now
is_text bytes t h = spelled_is_text _ t.text.now h.longest.is_piece

stands_at : (bytes : List ℕ) (ts : List the_token.Token) (i : ℕ) (t : the_token.Token) → slice_get ts i ≡ Some t → AllStandIn bytes ts → StandsIn bytes t
stands_at bytes [] i t e h = absurd cc
stands_at bytes (x ∷ xs) zero t e h = let same : x ≡ t = cc in subst (StandsIn bytes) same h.0
stands_at bytes (x ∷ xs) (suc i) t e h = stands_at bytes xs i t e h.1

behind_front : (front ts : List Token) → slice_get (front ++ ts) (length front) ≡ slice_get ts 0
behind_front [] ts = refl
behind_front (x ∷ xs) ts = behind_front xs ts

-- the first of the last ones
first_of : (ts last : List the_token.Token) → EndsWith (tokens_in ts) (tokens_in last) → option_map token_of (slice_get ts (length ts - length last)) ≡ slice_get (tokens_in last) 0
first_of ts last ends =
    let front = ends.0 in
    let all = length-map ts token_of in
    let some = length-map last token_of in
    let both = ap length ends.1 ∙ length-append front (tokens_in last) in
    let n : length ts - length last ≡ length front = omega (arith, all, some, both) in
    sym (slice_get-map token_of ts (length ts - length last)) ∙ ap (slice_get (tokens_in ts)) n ∙ ap (λ l. slice_get l (length front)) ends.1 ∙ behind_front front (tokens_in last)

pub fault_at_token : (bytes : List ℕ) (ts last : List the_token.Token) (f : the_fault.TextFault) (halt : Option members.Halt) (e : Ending) (t : the_token.Token) → Some (tokens_in last) ≡ option_map rest_of halt → Some t ≡ slice_get ts (length ts - length last) → AllStandIn bytes ts → (StandsIn bytes t → FaultsAt bytes f halt (token_of t)) → FaultsAs bytes (tokens_in ts) f halt e
fault_at_token bytes ts last f None e t same some all s = absurd cc
fault_at_token bytes ts last f (Some h) e t same some all s = λ ends.
    let is : tokens_in last ≡ rest_of h = cc in
    let first = first_of ts last (subst (EndsWith (tokens_in ts)) (sym is) ends) in
    let shows = s (stands_at bytes ts (length ts - length last) t (sym some) all) in
    subst (λ l. Shows bytes f (fault_at h l e)) is (by_last last shows (sym first ∙ ap (option_map token_of) (sym some)))
  where
    by_last : (last : List the_token.Token) → FaultsAt bytes f (Some h) (token_of t) → slice_get (tokens_in last) 0 ≡ Some (token_of t) → Shows bytes f (fault_at h (tokens_in last) e)
    by_last [] k e = absurd cc
    by_last (u ∷ us) k e = let same : token_of u ≡ token_of t = cc in subst (λ x. FaultsAt bytes f (Some h) x) (sym same) k

-- what is answered of tokens is no text that is too long
pub shown_short : (bytes : List ℕ) (f : the_fault.TextFault) (g : Fault) → Shows bytes f g → f ≡ faults.TooLong → ⊥
shown_short bytes f g h e = subst (λ x. Shows bytes x g) e h

pub answered_short : (bytes : List ℕ) (f : the_fault.TextFault) (r : Result Program Fault) → IsAnswer bytes (Err f) r → f ≡ faults.TooLong → ⊥
answered_short bytes f r h e = by_answer r (subst (λ x. IsAnswer bytes (Err x) r) e h)
  where
    by_answer : (r : Result Program Fault) → IsAnswer bytes (Err faults.TooLong) r → ⊥
    by_answer (Ok p) k = k
    by_answer (Err g) k = k
