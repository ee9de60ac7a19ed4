-- Signs that are tried one after the other.
use Rattle.std.proofs.Common.{◌≡◌, ℕ, List, [], ◌∷◌, ◌++◌, take, drop, Bool, true, false, Option, Some, None, cond, refl, sym, ap, ◌∙◌}
use Rattle.std.specs.Prelude.{◌==◌}
use Rattle.std.specs.List.{starts_with}
use Rattle.vx_tokens.specs.declared.token.Symbol.{Symbol}
use Rattle.vx_tokens.specs.Text.{else_by, sign_text}
use Rattle.vx_tokens.specs.Scanning.{sign_in, all_signs}

-- one more in front
one_more : (b : Bool) (s : Symbol) (x y : Option Symbol) → cond b (Some s) (else_by x y) ≡ else_by (cond b (Some s) x) y
one_more true s x y = refl
one_more false s x y = refl

-- the first signs, or else the others
sign_in_both : (ss ts : List Symbol) (bytes : List ℕ) → sign_in (ss ++ ts) bytes ≡ else_by (sign_in ss bytes) (sign_in ts bytes)
sign_in_both [] ts bytes = refl
sign_in_both (s ∷ ss) ts bytes =
    ap (cond (starts_with ◌==◌ bytes (sign_text s)) (Some s)) (sign_in_both ss ts bytes)
    ∙ one_more (starts_with ◌==◌ bytes (sign_text s)) s (sign_in ss bytes) (sign_in ts bytes)

-- a long sign goes first
pub sign_long : (s : Symbol) (bytes : List ℕ) → Some s ≡ sign_in (take 9 all_signs) bytes → Some s ≡ sign_in all_signs bytes
sign_long s bytes long = sym (sign_in_both (take 9 all_signs) (drop 9 all_signs) bytes ∙ ap (λ x. else_by x (sign_in (drop 9 all_signs) bytes)) (sym long))

-- and where none stands, a short one
pub sign_short : (found : Option Symbol) (bytes : List ℕ) → None ≡ sign_in (take 9 all_signs) bytes → found ≡ sign_in (drop 9 all_signs) bytes → found ≡ sign_in all_signs bytes
sign_short found bytes long short =
    short ∙ sym (sign_in_both (take 9 all_signs) (drop 9 all_signs) bytes ∙ ap (λ x. else_by x (sign_in (drop 9 all_signs) bytes)) (sym long))
