-- A declaration has the key of its symbol.
use Rattle.std.proofs.Common.{◌≡◌, ℕ, suc, Bool, true, false, ◌||◌, is_some, List, [], ◌∷◌, Option, Some, None, refl, sym, ◌∙◌, ap}
use Rattle.std.specs.Prelude.{if◌then◌else◌}
use Rattle.std.specs.Option.{option_map}
use Rattle.std.proofs.lemmas.Bool.{and_parts}
use Rattle.vx_terms.specs.Sorts.{Sort, Symbol}
use Rattle.vx_terms.proofs.Same.{symbol_is}
use Rattle.vx_smt_meaning.specs.Commands.{Declared}
use Rattle.cs_index.specs.Found.{first, found}
use Rattle.cs_reader.specs.Keys.{symbol_key}
use Rattle.cs_reader.specs.Live.{declared_in, under}
use Rattle.cs_reader.specs.declared.symbols.Symbols.{Symbols}
use Rattle.cs_reader.proofs.Indexing.{found_in}
use Rattle.cs_sorts.specs.Sorting.{is_declaration, declares}

pub looked_up : (s : Symbols) (f : Symbol) (ss : List Sort) (a : Sort) → found (is_declaration f ss a) (declared_in s) (under s (symbol_key f)) ≡ first (is_declaration f ss a) (declared_in s)
looked_up s f ss a = found_in s (is_declaration f ss a) (symbol_key f) (λ d e. ap symbol_key (sym (symbol_is f d.symbol (and_parts _ _ e).0)))

pub declared_first : (ds : List Declared) (f : Symbol) (ss : List Sort) (a : Sort) → is_some (first (is_declaration f ss a) ds) ≡ declares ds f ss a
declared_first [] f ss a = refl
declared_first (d ∷ ds) f ss a = go (is_declaration f ss a d) (declared_first ds f ss a)
  where
    later : (o : Option ℕ) → is_some (option_map suc o) ≡ is_some o
    later None = refl
    later (Some n) = refl

    go : (b : Bool) → is_some (first (is_declaration f ss a) ds) ≡ declares ds f ss a → is_some (if b then Some 0 else option_map suc (first (is_declaration f ss a) ds)) ≡ (b || declares ds f ss a)
    go true h = refl
    go false h = later (first (is_declaration f ss a) ds) ∙ h
