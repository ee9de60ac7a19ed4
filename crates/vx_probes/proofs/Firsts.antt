-- The first candidate from a number on that is as wanted.
use Rattle.std.proofs.Common.{◌≡◌, ℕ, ◌+◌, zero, suc, List, [], ◌∷◌, map, drop, Option, Some, None, Result, IfOk, refl, sym, ap, ◌∙◌, add-one}
use Rattle.std.specs.Prelude.{slice_get}
use Rattle.vx_ast.specs.declared.Place.{Place}
use Rattle.vx_terms.specs.Terms.{Term}
use Rattle.vx_rules.specs.States.{Chunk, State}
use Rattle.vx_rules.specs.Trees.{Code, Tree}
use Rattle.vx_rules.specs.Chunks.{Candidate}
use Rattle.vx_rules.specs.Rules.{first_with, probe}
use Rattle.vx_rules.specs.Codes.{code}
use Rattle.vx_ast.specs.Syntax.{Program}
use Rattle.vx_heap.specs.Views.{candidates_of, terms_of}
use Rattle.vx_states.specs.SymStates.{optional_term}
use Rattle.vx_stack.specs.declared.waiting.Search.{Search}
use Rattle.vx_stack.specs.declared.frame.Side.{Side}
use Rattle.vx_stack.specs.declared.conts.Move.{Move}
use Rattle.vx_stack.specs.Stack.{wanted, wanted_by, finding, Stepped}
use Rattle.vx_stack.proofs.Steps.{stepped_as}

left : {A : Type 0} (f : A → Candidate) (xs : List A) (k : ℕ) (x : A) → slice_get xs k ≡ Some x → drop k (map f xs) ≡ f x ∷ drop (suc k) (map f xs)
left f [] zero x e = absurd cc
left f [] (suc k) x e = absurd cc
left {A} f (y ∷ ys) zero x e = ap (λ (o : Option A). elim o as (λ v. List Candidate) [ Some z ↦ f z ∷ map f ys | None ↦ [] ]) e
left f (y ∷ ys) (suc k) x e = left f ys k x e

none_there : {A : Type 0} (f : A → Candidate) (xs : List A) (k : ℕ) → slice_get xs k ≡ None → drop k (map f xs) ≡ []
none_there f [] zero e = refl
none_there f [] (suc k) e = refl
none_there f (y ∷ ys) zero e = absurd cc
none_there f (y ∷ ys) (suc k) e = none_there f ys k e

-- no candidate is left
pub none_left : {A : Type 0} (f : A → Candidate) (xs : List A) (k : ℕ) (w : Chunk → Term) (at : Place) (c : Code) (s : State) (on : Candidate → Tree) (otherwise : Tree) →
    slice_get xs k ≡ None → first_with w (drop k (map f xs)) at c s on otherwise ≡ otherwise
none_left f xs k w at c s on otherwise e = ap (λ l. first_with w l at c s on otherwise) (none_there f xs k e)

-- the next candidate is probed, before the others
pub one_left : {A : Type 0} (f : A → Candidate) (xs : List A) (k : ℕ) (x : A) (w : Chunk → Term) (at : Place) (c : Code) (s : State) (on : Candidate → Tree) (otherwise found rest : Tree) →
    slice_get xs k ≡ Some x → found ≡ on (f x) → rest ≡ first_with w (drop (k + 1) (map f xs)) at c s on otherwise →
    first_with w (drop k (map f xs)) at c s on otherwise ≡ probe (w (f x).chunk) at c s found rest
one_left f xs k x w at c s on otherwise found rest e g h =
    ap (λ l. first_with w l at c s on otherwise) (left f xs k x e)
    ∙ ap (λ n. probe (w (f x).chunk) at c s (on (f x)) (first_with w (drop n (map f xs)) at c s on otherwise)) (sym (add-one k))
    ∙ ap (λ t. probe (w (f x).chunk) at c s (on (f x)) t) (sym h)
    ∙ ap (λ t. probe (w (f x).chunk) at c s t rest) (sym g)

pub stepped_by : {E : Type 0} (p : Program) (r : Result Move E) (u : Tree) (old new : List Side) → IfOk r (λ m. Stepped p u old m new) → (t : Tree) → t ≡ u → IfOk r (λ m. Stepped p t old m new)
stepped_by p r u old new h t e = stepped_as p r t u old new e h

zero_drop : (cs : List Candidate) → cs ≡ drop 0 cs
zero_drop [] = refl
zero_drop (c ∷ cs) = refl

-- what is looked for, from the first candidate on
pub searched : (x : Search) (at : Place) (c : Code) (a : Option Term) (ts : List Term) (cs : List Candidate) (s : State) (on : Candidate → Tree) (otherwise : Place → Code → Tree) →
    x.place ≡ at → code x.code ≡ c → terms_of x.arguments.items ≡ ts → optional_term x.amount ≡ a → candidates_of x.candidates.items ≡ cs →
    first_with (λ k. wanted_by a ts k) cs at c s on (otherwise at c) ≡ finding x 0 s on (otherwise x.place (code x.code))
searched x at c a ts cs s on otherwise e f g h i =
    ap (λ (y : Option Term). first_with (λ k. wanted_by y ts k) cs at c s on (otherwise at c)) (sym h)
    ∙ ap (λ (y : List Term). first_with (λ k. wanted_by (optional_term x.amount) y k) cs at c s on (otherwise at c)) (sym g)
    ∙ ap (λ (y : List Candidate). first_with (wanted x) y at c s on (otherwise at c)) (sym i ∙ zero_drop (candidates_of x.candidates.items))
    ∙ ap (λ (y : Place). first_with (wanted x) (drop 0 (candidates_of x.candidates.items)) y c s on (otherwise y c)) (sym e)
    ∙ ap (λ (y : Code). first_with (wanted x) (drop 0 (candidates_of x.candidates.items)) x.place y s on (otherwise x.place y)) (sym f)
