-- What is declared is looked up alike in either order.
use Rattle.std.proofs.Common.{◌≡◌, ℕ, Bool, true, false, List, [], ◌∷◌, ◌++◌, Option, Some, None, refl, ap, ◌∙◌, sym, reverse, codes}
use Rattle.std.specs.Prelude.{if◌then◌else◌}
use Rattle.std.specs.Str.{bytes_eq}
use Rattle.std.proofs.lemmas.List.{reverse-append}
use Rattle.vx_terms.specs.Sorts.{Sort, IntSort, BoolSort, RealSort, RefSort, SnapSort, OtherSort, Symbol, same_symbol}
use Rattle.vx_terms.proofs.Same.{symbol_is}
use Rattle.vx_smt_meaning.specs.Commands.{Declared}
use Rattle.vx_smt_meaning.specs.WellFormed.{has_sort, knows_sort}
use Rattle.cs_commands.specs.Live.{declared_as}
use Rattle.cs_commands.specs.Laws.{AreApart}
use Rattle.cs_commands.specs.Following.{turned, LookedUpInAnyOrder, UnderstoodInAnyOrder}
use Rattle.cs_commands.proofs.Declarations.{first_is, first_later, not_declared}
use Rattle.cs_commands.proofs.Alike.{understood_alike}

-- ---- symbols

-- the first of two
abbrev or_else : Option Declared → Option Declared → Option Declared
or_else (Some d) p = Some d
or_else None p = p

in_both : (ds es : List Declared) (f : Symbol) → declared_as (ds ++ es) f ≡ or_else (declared_as ds f) (declared_as es f)
in_both [] es f = refl
in_both (d ∷ ds) es f = go (same_symbol f d.symbol) refl (in_both ds es f)
  where
    go : (b : Bool) → same_symbol f d.symbol ≡ b → declared_as (ds ++ es) f ≡ or_else (declared_as ds f) (declared_as es f) → declared_as (d ∷ (ds ++ es)) f ≡ or_else (declared_as (d ∷ ds) f) (declared_as es f)
    go true h more = first_is d (ds ++ es) f h ∙ ap (λ o. or_else o (declared_as es f)) (sym (first_is d ds f h))
    go false h more = first_later d (ds ++ es) f h ∙ more ∙ ap (λ o. or_else o (declared_as es f)) (sym (first_later d ds f h))

none_behind : (o : Option Declared) → or_else o None ≡ o
none_behind None = refl
none_behind (Some d) = refl

symbols_in_order : (ds : List Declared) (f : Symbol) → AreApart ds → declared_as (reverse ds) f ≡ declared_as ds f
symbols_in_order [] f apart = refl
symbols_in_order (d ∷ ds) f apart =
    ap (λ es. declared_as es f) (reverse-append (d ∷ []) ds)
    ∙ in_both (reverse ds) (d ∷ []) f
    ∙ ap (λ o. or_else o (declared_as (d ∷ []) f)) (symbols_in_order ds f apart.1)
    ∙ go (same_symbol f d.symbol) refl
  where
    go : (b : Bool) → same_symbol f d.symbol ≡ b → or_else (declared_as ds f) (declared_as (d ∷ []) f) ≡ declared_as (d ∷ ds) f
    go true h =
        ap (λ o. or_else o (declared_as (d ∷ []) f)) (ap (declared_as ds) (symbol_is f d.symbol h) ∙ not_declared ds d.symbol apart.0)
        ∙ first_is d [] f h
        ∙ sym (first_is d ds f h)
    go false h = ap (or_else (declared_as ds f)) (first_later d [] f h) ∙ none_behind (declared_as ds f) ∙ sym (first_later d ds f h)

-- ---- sorts

has_both : (xs ys : List (List ℕ)) (x : List ℕ) → has_sort (xs ++ ys) x ≡ (if has_sort xs x then true else has_sort ys x)
has_both [] ys x = refl
has_both (y ∷ xs) ys x = go (bytes_eq y x) (has_both xs ys x)
  where
    go : (b : Bool) → has_sort (xs ++ ys) x ≡ (if has_sort xs x then true else has_sort ys x)
        → (if b then true else has_sort (xs ++ ys) x) ≡ (if (if b then true else has_sort xs x) then true else has_sort ys x)
    go true h = refl
    go false h = h

either_order : (a b : Bool) → (if a then true else (if b then true else false)) ≡ (if b then true else a)
either_order true true = refl
either_order true false = refl
either_order false true = refl
either_order false false = refl

names_in_order : (xs : List (List ℕ)) (x : List ℕ) → has_sort (reverse xs) x ≡ has_sort xs x
names_in_order [] x = refl
names_in_order (y ∷ xs) x =
    ap (λ ys. has_sort ys x) (reverse-append (y ∷ []) xs)
    ∙ has_both (reverse xs) (y ∷ []) x
    ∙ ap (λ b. if b then true else has_sort (y ∷ []) x) (names_in_order xs x)
    ∙ either_order (has_sort xs x) (bytes_eq y x)

sorts_in_order : (xs : List (List ℕ)) (a : Sort) → knows_sort (reverse xs) a ≡ knows_sort xs a
sorts_in_order xs IntSort = refl
sorts_in_order xs BoolSort = refl
sorts_in_order xs RealSort = refl
sorts_in_order xs RefSort = names_in_order xs (codes "Ref")
sorts_in_order xs SnapSort = names_in_order xs (codes "Snap")
sorts_in_order xs (OtherSort x) = names_in_order xs x

-- ---- scopes

pub looked_up_in_order : LookedUpInAnyOrder
looked_up_in_order s apart = record {
  symbols = λ f. symbols_in_order s.symbols f apart;
  sorts = sorts_in_order s.sorts;
}

pub understood_in_order : UnderstoodInAnyOrder
understood_in_order s tokens apart = understood_alike (turned s) s tokens (looked_up_in_order s apart)
