-- Sets of names that grow.
use Rattle.std.proofs.Common.{◌≡◌, ◌∙◌, refl, sym, ap, ap₂, subst, Bool, true, false, not, List, [], ◌∷◌, ℕ, eqb-true, true≢false, string_bytes}
use Rattle.std.proofs.lemmas.List.Sorted.{list_any-IsPermutation}
use Rattle.std.specs.Prelude.{◌&&◌, ◌||◌, nat_eq}
use Rattle.std.specs.HashSet.{HashSet, contains, PutsKey}
use Rattle.std.specs.Str.{bytes_eq}
use Rattle.std.specs.List.{list_any}
use Rattle.std.specs.String.{string_eq}
use Rattle.std.specs.declared.alloc.Global.{Global}
use Rattle.std.specs.declared.string.String.{String}
use Rattle.std.proofs.lemmas.Bool.{and_parts}
use Rattle.vx_ast.specs.Resolve.{has_member}
use Rattle.vx_ast.specs.Syntax.{Name, same_name}
use Rattle.vx_ast.specs.Written.{Kind, Member, Program}
use Rattle.vx_settling.specs.Names.{has_name}

-- functions that agree everywhere are one
pub agree : {A B : Type 0} (f g : A → B) → ((x : A) → f x ≡ g x) → f ≡ g
agree f g h = λ i x. h x i

pub same : (x y : List ℕ) → bytes_eq x y ≡ same_name x y
same [] [] = refl
same [] (b ∷ y) = refl
same (a ∷ x) [] = refl
same (a ∷ x) (b ∷ y) = ap (λ t. nat_eq a b && t) (same x y)

moved : (a b d : Bool) → ((a || b) || d) ≡ (b || (a || d))
moved true true d = refl
moved true false d = refl
moved false true d = refl
moved false false d = refl

-- one member more, its name added where it is of this kind
pub one_more : (of : Kind → Bool) (m : Member) (ms : Program) (x : Name) (before after : Bool)
    → after ≡ ((of m.kind && same_name x m.name.name) || before) → (after || has_member of ms x) ≡ (before || has_member of (m ∷ ms) x)
one_more of m ms x before after is = ap (λ b. b || has_member of ms x) is ∙ moved (of m.kind && same_name x m.name.name) before (has_member of ms x)

pub none_left : (b : Bool) → (b || false) ≡ b
none_left true = refl
none_left false = refl

same_is : (x y : Name) → same_name x y ≡ true → x ≡ y
same_is [] [] e = refl
same_is (a ∷ x) (b ∷ y) e = let q = and_parts _ _ e in ap₂ (λ z zs. z ∷ zs) (eqb-true a b q.0) (same_is x y q.1)
same_is [] (b ∷ y) e = absurd (true≢false (sym e))
same_is (a ∷ x) [] e = absurd (true≢false (sym e))

covered : (a b : Bool) → (a ≡ true → b ≡ true) → b ≡ (a || b)
covered true b h = h refl
covered false b h = refl

not_not : (b : Bool) → false ≡ not b → b ≡ true
not_not true e = refl
not_not false e = absurd (true≢false (sym e))

-- a key is put: the set has its name, and those that it had
pub put : {S : Type 0} (old new : HashSet (String Global) S) (key : String Global) (name : Name) (added : Bool) → string_bytes key ≡ name → added ≡ not (contains string_eq old key)
    → PutsKey old new key added → (x : Name) → has_name new x ≡ (same_name x name || has_name old x)
put old new key name true e found puts x =
    sym (list_any-IsPermutation (λ k. bytes_eq x (string_bytes k)) (key ∷ old.keys) new.keys puts)
    ∙ ap (λ b. b || has_name old x) (same x (string_bytes key) ∙ ap (same_name x) e)
put old new key name false e found puts x =
    ap (list_any (λ k. bytes_eq x (string_bytes k))) puts
    ∙ covered (same_name x name) (has_name old x) (λ t. subst (λ y. has_name old y ≡ true) (e ∙ sym (same_is x name t)) (not_not (has_name old (string_bytes key)) found))
