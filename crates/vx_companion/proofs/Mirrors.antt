-- The levels that a session has read, beside those of the commands that were written.
use Rattle.std.proofs.Common.{◌≡◌, ℕ, zero, suc, ◌++◌, List, [], ◌∷◌, map, length, drop, refl, ap, ap₂, ◌∙◌, sym, subst}
use Rattle.std.proofs.lemmas.List.{map-append}
use Rattle.vx_terms.specs.Terms.{Term}
use Rattle.vx_terms.specs.Interpretations.{Interpretation, AllTrue, IsSatisfiable, IsUnsatisfiable, as_bool}
use Rattle.vx_smt_meaning.specs.Commands.{Command, SetOption, SetLogic, DeclareSort, DeclareFun, Assert, Push, Pop, CheckSat, GetProof, Exit, Level, opened, stack_after, assertions_of, declared_in}
use Rattle.vx_smt_meaning.specs.WellFormed.{sorts_in}
use Rattle.vx_companion.proofs.Likes.{IsLike, there, back, there_renames, back_renames}
use Rattle.vx_companion.proofs.ReadTerms.{read_declared}

abbrev pub AllLike : List Term → List Term → Type 0
AllLike [] [] = Unit {0}
AllLike [] (t ∷ ts) = ⊥
AllLike (u ∷ us) [] = ⊥
AllLike (u ∷ us) (t ∷ ts) = IsLike u t × AllLike us ts

pub record MirrorsLevel (k l : Level) : Type 0 where
  pub sorts : k.sorts ≡ l.sorts
  pub symbols : k.symbols ≡ map read_declared l.symbols
  pub assertions : AllLike k.assertions l.assertions

-- level by level
abbrev pub Mirrors : List Level → List Level → Type 0
Mirrors [] [] = Unit {0}
Mirrors [] (l ∷ ls) = ⊥
Mirrors (k ∷ ks) [] = ⊥
Mirrors (k ∷ ks) (l ∷ ls) = MirrorsLevel k l × Mirrors ks ls

-- ---- what stands on them

pub same_sorts : (ks ls : List Level) → Mirrors ks ls → sorts_in ks ≡ sorts_in ls
same_sorts [] [] m = refl
same_sorts [] (l ∷ ls) m = absurd m
same_sorts (k ∷ ks) [] m = absurd m
same_sorts (k ∷ ks) (l ∷ ls) m = ap₂ (λ x y. x ++ y) m.0.sorts (same_sorts ks ls m.1)

pub same_symbols : (ks ls : List Level) → Mirrors ks ls → declared_in ks ≡ map read_declared (declared_in ls)
same_symbols [] [] m = refl
same_symbols [] (l ∷ ls) m = absurd m
same_symbols (k ∷ ks) [] m = absurd m
same_symbols (k ∷ ks) (l ∷ ls) m = ap₂ (λ x y. x ++ y) m.0.symbols (same_symbols ks ls m.1) ∙ sym (map-append read_declared l.symbols (declared_in ls))

pub same_length : (ks ls : List Level) → Mirrors ks ls → length ks ≡ length ls
same_length [] [] m = refl
same_length [] (l ∷ ls) m = absurd m
same_length (k ∷ ks) [] m = absurd m
same_length (k ∷ ks) (l ∷ ls) m = ap suc (same_length ks ls m.1)

joined : (us ts vs ss : List Term) → AllLike us ts → AllLike vs ss → AllLike (us ++ vs) (ts ++ ss)
joined [] [] vs ss h g = g
joined [] (t ∷ ts) vs ss h g = absurd h
joined (u ∷ us) [] vs ss h g = absurd h
joined (u ∷ us) (t ∷ ts) vs ss h g = (h.0, joined us ts vs ss h.1 g)

pub like_assertions : (ks ls : List Level) → Mirrors ks ls → AllLike (assertions_of ks) (assertions_of ls)
like_assertions [] [] m = tt
like_assertions [] (l ∷ ls) m = absurd m
like_assertions (k ∷ ks) [] m = absurd m
like_assertions (k ∷ ks) (l ∷ ls) m = joined k.assertions l.assertions (assertions_of ks) (assertions_of ls) m.0.assertions (like_assertions ks ls m.1)

true_there : (us ts : List Term) (i : Interpretation) → AllLike us ts → AllTrue i ts → AllTrue (there i) us
true_there [] [] i h all = tt
true_there [] (t ∷ ts) i h all = absurd h
true_there (u ∷ us) [] i h all = absurd h
true_there (u ∷ us) (t ∷ ts) i h all = (ap as_bool (h.0.meaning (there i) i (there_renames i)) ∙ all.0, true_there us ts i h.1 all.1)

-- what is read has no interpretation, so what was written has none
pub none_there : (us ts : List Term) → AllLike us ts → IsUnsatisfiable us → IsUnsatisfiable ts
none_there us ts h none i all = none (there i) (true_there us ts i h all)

true_back : (us ts : List Term) (k : Interpretation) → AllLike us ts → AllTrue k us → AllTrue (back k) ts
true_back [] [] k h all = tt
true_back [] (t ∷ ts) k h all = absurd h
true_back (u ∷ us) [] k h all = absurd h
true_back (u ∷ us) (t ∷ ts) k h all = (ap as_bool (sym (h.0.meaning k (back k) (back_renames k))) ∙ all.0, true_back us ts k h.1 all.1)

-- and where it has one, what was written has one
pub some_there : (us ts : List Term) → AllLike us ts → IsSatisfiable us → IsSatisfiable ts
some_there us ts h some = (back some.0, true_back us ts some.0 h some.1)

-- ---- what commands do to them

-- the command that is read, for the one that was written
abbrev pub IsLikeCommand : Command → Command → Type 0
IsLikeCommand d (DeclareFun f) = d ≡ DeclareFun (read_declared f)
IsLikeCommand d (Assert t) = (u : Term) × (d ≡ Assert u) × IsLike u t
IsLikeCommand d c = d ≡ c

opened_too : (n : ℕ) (ks ls : List Level) → Mirrors ks ls → Mirrors (opened n ks) (opened n ls)
opened_too zero ks ls m = m
opened_too (suc n) ks ls m = (record { sorts = refl; symbols = refl; assertions = tt }, opened_too n ks ls m)

closed_too : (n : ℕ) (ks ls : List Level) → Mirrors ks ls → Mirrors (drop n ks) (drop n ls)
closed_too zero ks ls m = m
closed_too (suc n) [] [] m = tt
closed_too (suc n) [] (l ∷ ls) m = absurd m
closed_too (suc n) (k ∷ ks) [] m = absurd m
closed_too (suc n) (k ∷ ks) (l ∷ ls) m = closed_too n ks ls m.1

pub mirrors_after : (c d : Command) (ks ls : List Level) → IsLikeCommand d c → Mirrors ks ls → Mirrors (stack_after d ks) (stack_after c ls)
mirrors_after (SetOption x b) d ks ls is m = subst (λ e. Mirrors (stack_after e ks) (stack_after (SetOption x b) ls)) (sym is) m
mirrors_after (SetLogic x) d ks ls is m = subst (λ e. Mirrors (stack_after e ks) (stack_after (SetLogic x) ls)) (sym is) m
mirrors_after (DeclareSort x) d [] [] is m = subst (λ e. Mirrors (stack_after e []) []) (sym is) m
mirrors_after (DeclareSort x) d [] (l ∷ ls) is m = absurd m
mirrors_after (DeclareSort x) d (k ∷ ks) [] is m = absurd m
mirrors_after (DeclareSort x) d (k ∷ ks) (l ∷ ls) is m =
    subst (λ e. Mirrors (stack_after e (k ∷ ks)) (stack_after (DeclareSort x) (l ∷ ls))) (sym is)
    (record { sorts = ap (λ xs. x ∷ xs) m.0.sorts; symbols = m.0.symbols; assertions = m.0.assertions }, m.1)
mirrors_after (DeclareFun f) d [] [] is m = subst (λ e. Mirrors (stack_after e []) []) (sym is) m
mirrors_after (DeclareFun f) d [] (l ∷ ls) is m = absurd m
mirrors_after (DeclareFun f) d (k ∷ ks) [] is m = absurd m
mirrors_after (DeclareFun f) d (k ∷ ks) (l ∷ ls) is m =
    subst (λ e. Mirrors (stack_after e (k ∷ ks)) (stack_after (DeclareFun f) (l ∷ ls))) (sym is)
    (record { sorts = m.0.sorts; symbols = ap (λ xs. read_declared f ∷ xs) m.0.symbols; assertions = m.0.assertions }, m.1)
mirrors_after (Assert t) d [] [] is m = subst (λ e. Mirrors (stack_after e []) []) (sym is.1) m
mirrors_after (Assert t) d [] (l ∷ ls) is m = absurd m
mirrors_after (Assert t) d (k ∷ ks) [] is m = absurd m
mirrors_after (Assert t) d (k ∷ ks) (l ∷ ls) is m =
    subst (λ e. Mirrors (stack_after e (k ∷ ks)) (stack_after (Assert t) (l ∷ ls))) (sym is.1)
    (record { sorts = m.0.sorts; symbols = m.0.symbols; assertions = (is.2, m.0.assertions) }, m.1)
mirrors_after (Push n) d ks ls is m = subst (λ e. Mirrors (stack_after e ks) (stack_after (Push n) ls)) (sym is) (opened_too n ks ls m)
mirrors_after (Pop n) d ks ls is m = subst (λ e. Mirrors (stack_after e ks) (stack_after (Pop n) ls)) (sym is) (closed_too n ks ls m)
mirrors_after CheckSat d ks ls is m = subst (λ e. Mirrors (stack_after e ks) (stack_after CheckSat ls)) (sym is) m
mirrors_after GetProof d ks ls is m = subst (λ e. Mirrors (stack_after e ks) (stack_after GetProof ls)) (sym is) m
mirrors_after Exit d ks ls is m = subst (λ e. Mirrors (stack_after e ks) (stack_after Exit ls)) (sym is) m
