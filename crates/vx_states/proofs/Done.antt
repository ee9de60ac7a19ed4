-- The order of the names that are done doesn't matter.
use Rattle.std.proofs.Common.{◌≡◌, Bool, true, false, List, [], ◌∷◌, ◌++◌, ◌||◌, refl, sym, ap, ◌∙◌}
use Rattle.std.specs.Prelude.{not, ◌&&◌, if◌then◌else◌}
use Rattle.vx_ast.specs.Syntax.{Name, same_name}
use Rattle.vx_ast.specs.Mentions.{is_among}
use Rattle.vx_rules.specs.States.{State, is_stored}
use Rattle.vx_rules.specs.Members.{forget}
use Rattle.vx_states.specs.SymStates.{renewed}

or_swap : (a b c : Bool) → (a || (b || c)) ≡ (b || (a || c))
or_swap true true c = refl
or_swap true false c = refl
or_swap false true c = refl
or_swap false false c = refl

among_last : (y x : Name) (d : List Name) → is_among y (d ++ x ∷ []) ≡ is_among y (x ∷ d)
among_last y x [] = refl
among_last y x (z ∷ d) = ap (λ b. same_name y z || b) (among_last y x d) ∙ or_swap (same_name y z) (same_name y x) (is_among y d)

both : {A : Type 0} (b : Bool) (s t u v : A) → s ≡ t → u ≡ v → (if b then s else u) ≡ (if b then t else v)
both true s t u v e f = e
both false s t u v e f = f

same_done : (a b : List Name) → ((y : Name) → is_among y a ≡ is_among y b) → (xs : List Name) (s : State) → forget a xs s ≡ forget b xs s
same_done a b h [] s = refl
same_done a b h (x ∷ xs) s =
    ap (λ t. if is_stored x s.store && not t then forget (x ∷ a) xs (renewed x s) else forget a xs s) (h x)
    ∙ both (is_stored x s.store && not (is_among x b)) _ _ _ _
    (same_done (x ∷ a) (x ∷ b) (λ y. ap (λ t. same_name y x || t) (h y)) xs (renewed x s))
    (same_done a b h xs s)

-- a name that is put last is done as one that is put first
pub done_last : (d : List Name) (x : Name) (xs : List Name) (s : State) → forget (d ++ x ∷ []) xs s ≡ forget (x ∷ d) xs s
done_last d x xs s = same_done (d ++ x ∷ []) (x ∷ d) (λ y. among_last y x d) xs s

pub forgot_one : (x : Name) (d e : List Name) (rest : List Name) (s s1 : State) → is_stored x s.store ≡ true → is_among x d ≡ false → e ≡ d ++ x ∷ [] → s1 ≡ renewed x s → forget e rest s1 ≡ forget d (x ∷ rest) s
forgot_one x d e rest s s1 stored new more made =
    ap (λ l. forget l rest s1) more ∙ done_last d x rest s1 ∙ ap (λ y. forget (x ∷ d) rest y) made
    ∙ ap (λ t. if t then forget (x ∷ d) rest (renewed x s) else forget d rest s) (sym (chosen (is_stored x s.store) (is_among x d) stored new))
  where
    chosen : (a b : Bool) → a ≡ true → b ≡ false → (a && not b) ≡ true
    chosen a b f g = rw (f, g) refl
