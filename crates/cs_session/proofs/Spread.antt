-- What stands on all levels, and levels that are opened and closed.
use Rattle.std.proofs.Common.{◌≡◌, ℕ, suc, ◌+◌, List, [], ◌∷◌, ◌++◌, length, reverse, take, drop, refl, sym, ap, arith, ◌∙◌, length-append}
use Rattle.std.proofs.lemmas.List.{append-nil, reverse-append, reverse-reverse, length-reverse, take-append-drop}
use Rattle.vx_terms.specs.Terms.{Term}
use Rattle.vx_smt_meaning.specs.Commands.{DeclareSort, DeclareFun, Assert, Declared, Level, assertions_of, declared_in, stack_after}
use Rattle.vx_smt_meaning.specs.WellFormed.{sorts_in}
use Rattle.cs_certificate.specs.Certificate.{Stack}
use Rattle.cs_session.specs.Counts.{older, one_more, spread}
use Rattle.cs_session.specs.declared.counts.Kind.TheVariants as kinds
use Rattle.cs_session.specs.Views.{depth, standing}
use Rattle.cs_session.specs.declared.counts.Counts.{Counts}

-- ---- what stands on all of them

pub symbols_on : (cs : List Counts) (all : Level) → declared_in (spread cs all) ≡ all.symbols
symbols_on [] all = append-nil all.symbols
symbols_on (c ∷ cs) all = ap (λ x. take c.symbols all.symbols ++ x) (symbols_on cs (older c all)) ∙ take-append-drop c.symbols all.symbols

pub sorts_on : (cs : List Counts) (all : Level) → sorts_in (spread cs all) ≡ all.sorts
sorts_on [] all = append-nil all.sorts
sorts_on (c ∷ cs) all = ap (λ x. take c.sorts all.sorts ++ x) (sorts_on cs (older c all)) ∙ take-append-drop c.sorts all.sorts

pub assertions_on : (cs : List Counts) (all : Level) → assertions_of (spread cs all) ≡ all.assertions
assertions_on [] all = append-nil all.assertions
assertions_on (c ∷ cs) all = ap (λ x. take c.assertions all.assertions ++ x) (assertions_on cs (older c all)) ∙ take-append-drop c.assertions all.assertions

pub sorts_stand : (cs : List Counts) (all : Level) (xs : List (List ℕ)) → all.sorts ≡ reverse xs → xs ≡ reverse (sorts_in (spread cs all))
sorts_stand cs all xs e = sym (ap reverse (sorts_on cs all ∙ e) ∙ reverse-reverse xs)

pub symbols_stand : (cs : List Counts) (all : Level) (ds : List Declared) → all.symbols ≡ reverse ds → ds ≡ reverse (declared_in (spread cs all))
symbols_stand cs all ds e = sym (ap reverse (symbols_on cs all ∙ e) ∙ reverse-reverse ds)

pub stands : (cs : List Counts) (all : Level) (s : Stack) → all.symbols ≡ reverse s.symbols → all.assertions ≡ reverse s.assertions → s ≡ standing (spread cs all)
stands cs all s p q =
    let symbols : s.symbols ≡ reverse (declared_in (spread cs all)) = symbols_stand cs all s.symbols p in
    let assertions : s.assertions ≡ reverse (assertions_of (spread cs all)) = sym (ap reverse (assertions_on cs all ∙ q) ∙ reverse-reverse s.assertions) in
    λ i. record { assertions = assertions i; symbols = symbols i }

-- ---- how many there are

long : (cs : List Counts) (all : Level) → length (spread cs all) ≡ suc (length cs)
long [] all = refl
long (c ∷ cs) all = ap suc (long cs (older c all))

deep : (cs : List Counts) (all : Level) → depth (spread cs all) ≡ length cs
deep [] all = refl
deep (c ∷ cs) all = long cs (older c all)

pub depth_is : (counts : List Counts) (all : Level) → depth (spread (reverse counts) all) ≡ length counts
depth_is counts all = deep (reverse counts) all ∙ length-reverse counts

-- ---- without the newest

pub closes : (counts left : List Counts) (c : Counts) (all rest : Level) → counts ≡ left ++ c ∷ [] → rest ≡ older c all → spread (reverse left) rest ≡ drop 1 (spread (reverse counts) all)
closes counts left c all rest e f =
    ap (spread (reverse left)) f ∙ ap (λ xs. drop 1 (spread xs all)) (sym (ap reverse e ∙ reverse-append left (c ∷ [])))

pub one_less : (counts left : List Counts) (c : Counts) (all rest : Level) → counts ≡ left ++ c ∷ [] → depth (spread (reverse left) rest) + 1 ≡ depth (spread (reverse counts) all)
one_less counts left c all rest e =
    let a = depth_is left rest in
    let b = depth_is counts all in
    let long : length counts ≡ length left + 1 = ap length e ∙ length-append left (c ∷ []) in
    omega arith

-- ---- one more on the newest

more_sorts : (cs : List Counts) (all : Level) (x : List ℕ) → spread (one_more kinds.Sort cs) (record all { sorts = x ∷ all.sorts }) ≡ stack_after (DeclareSort x) (spread cs all)
more_sorts [] all x = refl
more_sorts (c ∷ cs) all x = refl

pub with_sort : (cs ds : List Counts) (all next : Level) (x : List ℕ) → ds ≡ one_more kinds.Sort cs → next ≡ record all { sorts = x ∷ all.sorts } → spread ds next ≡ stack_after (DeclareSort x) (spread cs all)
with_sort cs ds all next x e f = ap (λ c. spread c next) e ∙ (ap (spread (one_more kinds.Sort cs)) f ∙ more_sorts cs all x)

more_symbols : (cs : List Counts) (all : Level) (d : Declared) → spread (one_more kinds.Symbol cs) (record all { symbols = d ∷ all.symbols }) ≡ stack_after (DeclareFun d) (spread cs all)
more_symbols [] all d = refl
more_symbols (c ∷ cs) all d = refl

pub with_symbol : (cs ds : List Counts) (all next : Level) (d : Declared) → ds ≡ one_more kinds.Symbol cs → next ≡ record all { symbols = d ∷ all.symbols } → spread ds next ≡ stack_after (DeclareFun d) (spread cs all)
with_symbol cs ds all next d e f = ap (λ c. spread c next) e ∙ (ap (spread (one_more kinds.Symbol cs)) f ∙ more_symbols cs all d)

more_assertions : (cs : List Counts) (all : Level) (t : Term) → spread (one_more kinds.Assertion cs) (record all { assertions = t ∷ all.assertions }) ≡ stack_after (Assert t) (spread cs all)
more_assertions [] all t = refl
more_assertions (c ∷ cs) all t = refl

pub with_assertion : (cs ds : List Counts) (all next : Level) (t : Term) → ds ≡ one_more kinds.Assertion cs → next ≡ record all { assertions = t ∷ all.assertions } → spread ds next ≡ stack_after (Assert t) (spread cs all)
with_assertion cs ds all next t e f = ap (λ c. spread c next) e ∙ (ap (spread (one_more kinds.Assertion cs)) f ∙ more_assertions cs all t)
