-- From scanning to the text.
use Rattle.std.proofs.Common.{◌≡◌, ℕ, List, Result, Ok, Err, sym, ap, subst, ◌∙◌}
use Rattle.std.specs.Prelude.{IfOk}
use Rattle.vx_tokens.specs.Tokens.{Token}
use Rattle.vx_tokens.specs.Tokens.{tokens_in}
use Rattle.vx_tokens.specs.declared.lexed.Lexed as the_lexed
use Rattle.vx_tokens.specs.Text.{Scans, Ending, first_place}
use Rattle.vx_tokens.specs.Scanning.{scan, Scanned}
use Rattle.vx_tokens.specs.Views.{lexed_of, ending_of}
use Rattle.vx_tokens.proofs.Right.{scanning_is_right, scanning_is_all}

pub ok_scans : {E : Type 0} (bytes text : List ℕ) (r : Result the_lexed.Lexed E) → bytes ≡ text → IfOk r (λ l. lexed_of l ≡ scan 0 first_place bytes) → IfOk r (λ l. Scans first_place text (tokens_in l.tokens.items) (ending_of l.ending))
ok_scans bytes text (Ok l) same h = subst (λ b. Scans first_place b (tokens_in l.tokens.items) (ending_of l.ending)) same (subst (λ (s : Scanned). Scans first_place bytes s.tokens s.ending) (sym h) (scanning_is_right first_place bytes))
ok_scans bytes text (Err e) same h = tt

pub ok_only : {E : Type 0} (bytes text : List ℕ) (r : Result the_lexed.Lexed E) → bytes ≡ text → IfOk r (λ l. lexed_of l ≡ scan 0 first_place bytes) → IfOk r (λ l. (ts : List Token) (e : Ending) → Scans first_place text ts e → (tokens_in l.tokens.items ≡ ts) × (ending_of l.ending ≡ e))
ok_only bytes text (Ok l) same h = λ ts e s. let all = h ∙ scanning_is_all first_place bytes ts e (subst (λ b. Scans first_place b ts e) (sym same) s) in (ap (λ (x : Scanned). x.tokens) all, ap (λ (x : Scanned). x.ending) all)
ok_only bytes text (Err x) same h = tt
