-- Paths and stores of src/ against those of the rules.
use Rattle.std.proofs.Common.{◌≡◌, ℕ, suc, ◌+◌, ◌-◌, ◌<◌, ◌≤◌, Bool, true, false, cond, ◌||◌, ◌++◌, List, [], ◌∷◌, map, length, drop, get_or, Option, Some, None, option_map, refl, sym, ap, ◌∙◌, arith, reverse, append_assoc, append-nil}
use Rattle.std.proofs.lemmas.List.{length-append, length-map, length-reverse, reverse-append}
use Rattle.std.proofs.Math.Seq.{drop-append_seam}
use Rattle.std.specs.Prelude.{slice_set}
use Rattle.vx_ast.specs.Syntax.{Name, same_name}
use Rattle.vx_terms.specs.Terms.{Term, same}
use Rattle.vx_rules.specs.States.{Store, Entry, assign, in_path, path_terms}
use Rattle.vx_states.specs.Paths.{extended}
use Rattle.vx_states.specs.SymStates.{place_in}
use Rattle.vx_rules.proofs.Names.{same_name_is}

or_false : (a : Bool) → (a || false) ≡ (false || a)
or_false true = refl
or_false false = refl

or_later : (a b c : Bool) → (a || (b || c)) ≡ ((a || b) || c)
or_later true b c = refl
or_later false b c = refl

pub in_path_extended : (t : Term) (es : List Entry) (u : Term) (branch : Bool) → in_path t (extended es u branch) ≡ (in_path t es || same t u)
in_path_extended t [] u branch = or_false (same t u)
in_path_extended t (e ∷ es) u branch = ap (λ b. same t e.term || b) (in_path_extended t es u branch) ∙ or_later (same t e.term) (in_path t es) (same t u)

pub path_terms_extended : (es : List Entry) (u : Term) (branch : Bool) → path_terms (extended es u branch) ≡ path_terms es ++ u ∷ []
path_terms_extended [] u branch = refl
path_terms_extended (e ∷ es) u branch = ap (λ l. e.term ∷ l) (path_terms_extended es u branch)

-- one more entry is one more
pub one_longer : (es : List Entry) (u : Term) (branch : Bool) → length es + 1 ≡ length (extended es u branch)
one_longer [] u branch = omega arith
one_longer (e ∷ es) u branch = let h = one_longer es u branch in omega (arith, h)

-- one more entry is taken over
pub taken_over : {A : Type 0} (f : A → Term) (es : List Entry) (u : Term) (branch : Bool) (taken : List A) (a : A) → f a ≡ u →
    path_terms (extended es u branch) ++ map f (reverse taken) ≡ path_terms es ++ map f (reverse (taken ++ a ∷ []))
taken_over f es u branch taken a e =
    ap (λ l. l ++ map f (reverse taken)) (path_terms_extended es u branch)
    ∙ append_assoc (path_terms es) (u ∷ []) (map f (reverse taken))
    ∙ ap (λ v. path_terms es ++ v ∷ map f (reverse taken)) (sym e)
    ∙ ap (λ l. path_terms es ++ map f l) (sym (reverse-append taken (a ∷ [])))

pub length_terms : (es : List Entry) → length (path_terms es) ≡ length es
length_terms [] = refl
length_terms (e ∷ es) = ap suc (length_terms es)

-- so many were taken over: they are the newest
pub newest_taken : {A : Type 0} (f : A → Term) (es rest : List Entry) (taken : List A) (count : ℕ) → path_terms es ≡ path_terms rest ++ map f (reverse taken) →
    length taken ≤ count → count ≤ length taken → map f (reverse taken) ≡ drop (length es - count) (path_terms es)
newest_taken f es rest taken count h few many =
    let own = length-map (reverse taken) f ∙ length-reverse taken in
    let all = sym (length_terms es) ∙ ap length h ∙ length-append (path_terms rest) (map f (reverse taken)) in
    let before : length es - count ≡ length (path_terms rest) = omega (arith, own, all, few, many) in
    sym (ap (λ n. drop n (path_terms es)) before ∙ ap (λ l. drop (length (path_terms rest)) l) h ∙ drop-append_seam (path_terms rest) (map f (reverse taken)))

-- all were taken over
pub all_taken : {A : Type 0} (f : A → Term) (es : List Entry) (taken : List A) (count : ℕ) → path_terms es ≡ map f (reverse taken) →
    length taken ≤ count → map f (reverse taken) ≡ drop (length es - count) (path_terms es)
all_taken f es taken count h few =
    let own = length-map (reverse taken) f ∙ length-reverse taken in
    let all = sym (length_terms es) ∙ ap length h in
    let none : length es - count ≡ 0 = omega (arith, own, all, few) in
    sym (ap (λ n. drop n (path_terms es)) none ∙ h)

-- what an assignment makes of a store, by where the variable stands
abbrev pub Assigned : Name → Term → Store → Option ℕ → Type 0
Assigned x t s None = assign x t s ≡ s
Assigned x t s (Some k) = (k < length s) × ((d : Name × Term) → assign x t s ≡ slice_set s k ((get_or s k d).0, t))

assigned_later : (x : Name) (t : Term) (b : Name × Term) (s : Store) (o : Option ℕ) → assign x t (b ∷ s) ≡ b ∷ assign x t s → Assigned x t s o → Assigned x t (b ∷ s) (option_map suc o)
assigned_later x t b s None e h = e ∙ ap (λ l. b ∷ l) h
assigned_later x t b s (Some k) e h = (omega (arith, h.0), λ d. e ∙ ap (λ l. b ∷ l) (h.1 d))

pub assigned : (x : Name) (t : Term) (s : Store) → Assigned x t s (place_in x s)
assigned x t [] = refl
assigned x t (b ∷ s) = go (same_name x b.0) refl (assigned x t s)
  where
    go : (c : Bool) → same_name x b.0 ≡ c → Assigned x t s (place_in x s) → Assigned x t (b ∷ s) (cond c (Some 0) (option_map suc (place_in x s)))
    go true e h = (omega arith, λ d. rw e (ap (λ (y : Name). (y, t) ∷ s) (same_name_is x b.0 e)))
    go false e h = assigned_later x t b s (place_in x s) (rw e refl) h

-- what was added, one after the other
pub all_added : (f0 f1 f2 f3 f4 : List Term) (n : Term) (a b c : List Term) → f0 ≡ [] →
    ((r : List Term) → f1 ++ r ≡ f0 ++ (n ∷ r)) → ((r : List Term) → f2 ++ r ≡ f1 ++ (a ++ r)) → ((r : List Term) → f3 ++ r ≡ f2 ++ (b ++ r)) → ((r : List Term) → f4 ++ r ≡ f3 ++ (c ++ r)) → f4 ≡ n ∷ ((a ++ b) ++ c)
all_added f0 f1 f2 f3 f4 n a b c e h1 h2 h3 h4 =
    sym (append-nil f4) ∙ h4 [] ∙ h3 (c ++ []) ∙ h2 (b ++ (c ++ [])) ∙ h1 (a ++ (b ++ (c ++ []))) ∙ ap (λ l. l ++ (n ∷ (a ++ (b ++ (c ++ []))))) e
    ∙ ap (λ l. n ∷ l) (ap (λ l. a ++ (b ++ l)) (append-nil c) ∙ sym (append_assoc a b c))
