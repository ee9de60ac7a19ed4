-- The symbols of a program's functions: they have their numbers in order, and their sorts are built in.
use Rattle.std.proofs.Common.{◌≡◌, ℕ, suc, false, ◌+◌, ◌≤◌, ◌++◌, ◌∷◌, [], List, Some, drop, length, slice_get, refl, ap, ◌∙◌, sym, subst, add-one, append-nil}
use Rattle.std.proofs.Math.Seq.{drop-cons}
use Rattle.std.proofs.Math.ListN.{drop_of_length-le}
use Rattle.std.proofs.lemmas.Option.{get_or_from_slice_get, slice_get_within}
use Rattle.vx_ast.specs.Syntax.{Program, Member, Declaration, Kind, IsField, IsPredicate, IsFunction, IsMethod}
use Rattle.vx_terms.specs.Sorts.{Sort, IntSort, BoolSort, RealSort, RefSort, SnapSort, OtherSort, Function}
use Rattle.vx_terms.specs.Interpretations.{Each}
use Rattle.vx_smt_meaning.specs.Commands.{Declared}
use Rattle.vx_smt_meaning.specs.Names.{IsName, IsSortName, AreSortNames, AreCommands}
use Rattle.vx_live.specs.Functions.{sorts_of_types, with_kind, symbols_from, function_symbols}
use Rattle.vx_live.specs.Live.{IsBuiltIn}
use Rattle.vx_live.proofs.Over.{built_type}
use Rattle.vx_dialogue.specs.Preamble.{preamble}
use Rattle.vx_verifier.specs.Steady.{AreSpelled}
use Rattle.vx_verifier.proofs.Steady.{begun_named}

-- ---- the members one by one

pub rest_at : (p : Program) (n : ℕ) (m : Member) → slice_get p n ≡ Some m → drop n p ≡ m ∷ drop (n + 1) p
rest_at p n m is =
    drop-cons p n m (slice_get_within p n m is) ∙ (ap (λ x. x ∷ drop (suc n) p) (get_or_from_slice_get p n m m is) ∙ ap (λ k. m ∷ drop k p) (sym (add-one n)))

pub symbols_are : (p : Program) → symbols_from p 0 ≡ function_symbols p
unfolding function_symbols
symbols_are p = refl

-- the next member
pub next_symbols : (p : Program) (n : ℕ) (m : Member) (old new : List Declared) (k l : ℕ) → slice_get p n ≡ Some m
    → ((rest : ℕ → List Declared) → new ++ rest l ≡ old ++ with_kind k m.kind rest)
    → old ++ symbols_from (drop n p) k ≡ symbols_from p 0 → new ++ symbols_from (drop (n + 1) p) l ≡ symbols_from p 0
next_symbols p n m old new k l is step so_far =
    step (symbols_from (drop (n + 1) p)) ∙ (ap (λ x. old ++ symbols_from x k) (sym (rest_at p n m is)) ∙ so_far)

-- no member is left
pub all_symbols : (p : Program) (n : ℕ) (ds : List Declared) (k : ℕ) → length p ≤ n → ds ++ symbols_from (drop n p) k ≡ symbols_from p 0 → ds ≡ function_symbols p
all_symbols p n ds k end so_far = sym (append-nil ds) ∙ (ap (λ x. ds ++ symbols_from x k) (sym (drop_of_length-le p end)) ∙ (so_far ∙ symbols_are p))

-- ---- numbers and sorts

-- the f with this number, over sorts that are built in
pub record IsSymbol (n : ℕ) (d : Declared) : Type 0 where
  pub symbol : d.symbol ≡ Function n
  pub takes : Each IsBuiltIn d.takes
  pub gives : IsBuiltIn d.gives

-- numbered from n on
abbrev pub AreSymbols : ℕ → List Declared → Type 0
AreSymbols n [] = Unit {0}
AreSymbols n (d ∷ ds) = IsSymbol n d × AreSymbols (suc n) ds

types_built : (ds : List Declaration) → Each IsBuiltIn (sorts_of_types ds)
types_built [] = tt
types_built (d ∷ ds) = (built_type d.of, types_built ds)

by_kind : (n : ℕ) (k : Kind) (rest : ℕ → List Declared) → ((i : ℕ) → AreSymbols i (rest i)) → AreSymbols n (with_kind n k rest)
by_kind n (IsField t) rest h = h n
by_kind n (IsPredicate d) rest h = h n
by_kind n (IsFunction g) rest h = (record { symbol = refl; takes = (tt, types_built g.parameters); gives = built_type g.of }, h (suc n))
by_kind n (IsMethod m) rest h = h n

numbered : (p : Program) (n : ℕ) → AreSymbols n (symbols_from p n)
numbered [] n = tt
numbered (m ∷ p) n = by_kind n m.kind (symbols_from p) (numbered p)

pub are_symbols : (p : Program) → AreSymbols 0 (function_symbols p)
are_symbols p = subst (AreSymbols 0) (symbols_are p) (numbered p 0)

-- ---- names

pub built_name : (a : Sort) → IsBuiltIn a → IsSortName a
built_name IntSort h = tt
built_name BoolSort h = tt
built_name RealSort h = tt
built_name RefSort h = tt
built_name SnapSort h = tt
built_name (OtherSort x) h = absurd h

sort_names : (xs : List Sort) → Each IsBuiltIn xs → AreSortNames xs
sort_names [] h = tt
sort_names (a ∷ xs) h = (built_name a h.0, sort_names xs h.1)

-- their names are spelled
pub symbols_spelled : (n : ℕ) (ds : List Declared) → AreSymbols n ds → AreSpelled ds
symbols_spelled n [] h = tt
symbols_spelled n (d ∷ ds) h = ((subst IsName (sym h.0.symbol) tt, sort_names d.takes h.0.takes, built_name d.gives h.0.gives), symbols_spelled (suc n) ds h.1)

-- and so are those of the preamble that declares them
pub symbols_named : (p : Program) (functions : List Declared) → functions ≡ function_symbols p → AreCommands (preamble false functions)
symbols_named p functions is = begun_named functions (subst AreSpelled (sym is) (symbols_spelled 0 (function_symbols p) (are_symbols p)))
