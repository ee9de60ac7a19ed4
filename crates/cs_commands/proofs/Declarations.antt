-- A declared symbol is found by its word.
use Rattle.std.proofs.Common.{◌≡◌, inl, inr, ℕ, suc, nat_eq, Bool, true, false, List, [], ◌∷◌, Option, Some, None, Ok, refl, ap, ◌∙◌, sym, true≢false, eq-eqb, slice_get}
use Rattle.std.specs.Prelude.{if◌then◌else◌}
use Rattle.std.specs.Option.{option_and_then, option_map}
use Rattle.vx_sexp.specs.declared.token.Kind.TheVariants as kinds
use Rattle.vx_terms.specs.Sorts.{Sort, IntSort, BoolSort, RealSort, RefSort, SnapSort, OtherSort, Symbol, Standard, Function, Variable, Named, same_sort, same_symbol}
use Rattle.vx_terms.specs.Terms.{Constant}
use Rattle.vx_terms.proofs.Same.{symbol_is}
use Rattle.vx_smt_meaning.specs.Commands.{Declared}
use Rattle.vx_smt_meaning.specs.Symbols.{declaration, Declares}
use Rattle.vx_smt_meaning.specs.WellFormed.{names}
use Rattle.vx_smt_meaning.specs.Names.{IsName}
use Rattle.vx_smt_meaning.specs.Words.{symbol_word, word}
use Rattle.vx_smt_text.proofs.Read.{text_same}
use Rattle.vx_smt_text.proofs.Words as written
use Rattle.cs_index.specs.Found.{first}
use Rattle.cs_commands.specs.Outcomes.{◌>>=◌}
use Rattle.cs_commands.specs.Live as live
use Rattle.cs_commands.specs.Heads.{SymbolHead, symbol_head, head_of, head_at}
use Rattle.cs_commands.specs.Terms.{leaf, if_declared, alone}
use Rattle.cs_commands.specs.Laws.{AreApart, IsSmallSymbol}
use Rattle.cs_commands.proofs.Spellings.{symbol_text, symbol_is_name, symbol_back}

-- ---- one and the same

pub same_number : (n : ℕ) → nat_eq n n ≡ true
same_number n = eq-eqb n n refl

pub symbol_same : (f : Symbol) → same_symbol f f ≡ true
symbol_same (Standard n) = same_number n
symbol_same (Function n) = same_number n
symbol_same (Variable n) = same_number n
symbol_same (Named x) = text_same x

pub sort_same : (a : Sort) → same_sort a a ≡ true
sort_same IntSort = refl
sort_same BoolSort = refl
sort_same RealSort = refl
sort_same RefSort = refl
sort_same SnapSort = refl
sort_same (OtherSort x) = text_same x

pub other_way : (f g : Symbol) → same_symbol g f ≡ false → same_symbol f g ≡ false
other_way f g e = go (same_symbol f g) refl
  where
    go : (b : Bool) → same_symbol f g ≡ b → same_symbol f g ≡ false
    go true h = let is : f ≡ g = symbol_is f g h in absurd (true≢false (sym (symbol_same g) ∙ ap (λ x. same_symbol g x) (sym is) ∙ e))
    go false h = h

-- ---- the first declaration

later : (e : Declared) (es : List Declared) (o : Option ℕ) → option_and_then (slice_get (e ∷ es)) (option_map suc o) ≡ option_and_then (slice_get es) o
later e es None = refl
later e es (Some n) = refl

pub first_is : (e : Declared) (es : List Declared) (f : Symbol) → same_symbol f e.symbol ≡ true → live.declared_as (e ∷ es) f ≡ Some e
first_is e es f h = ap (λ b. option_and_then (slice_get (e ∷ es)) (if b then Some 0 else option_map suc (first (λ d. same_symbol f d.symbol) es))) h

pub first_later : (e : Declared) (es : List Declared) (f : Symbol) → same_symbol f e.symbol ≡ false → live.declared_as (e ∷ es) f ≡ live.declared_as es f
first_later e es f h =
    ap (λ b. option_and_then (slice_get (e ∷ es)) (if b then Some 0 else option_map suc (first (λ d. same_symbol f d.symbol) es))) h
    ∙ later e es (first (λ d. same_symbol f d.symbol) es)

named : (es : List Declared) (d : Declared) (f : Symbol) → Declares es d → same_symbol d.symbol f ≡ true → names es f ≡ true
named [] d f h e = absurd h
named (x ∷ es) d f (inl is) e = ap (λ b. if b then true else names es f) (ap (λ y. same_symbol y.symbol f) is ∙ e)
named (x ∷ es) d f (inr h) e = go (same_symbol x.symbol f) (named es d f h e)
  where
    go : (b : Bool) → names es f ≡ true → (if b then true else names es f) ≡ true
    go true i = refl
    go false i = i

pub declared_found : (ds : List Declared) (d : Declared) → AreApart ds → Declares ds d → live.declared_as ds d.symbol ≡ Some d
declared_found [] d apart h = absurd h
declared_found (e ∷ es) d apart (inl is) = first_is e es d.symbol (ap (λ x. same_symbol d.symbol x.symbol) is ∙ symbol_same d.symbol) ∙ ap Some is
declared_found (e ∷ es) d apart (inr h) = first_later e es d.symbol (differs (same_symbol d.symbol e.symbol) refl) ∙ declared_found es d apart.1 h
  where
    differs : (b : Bool) → same_symbol d.symbol e.symbol ≡ b → same_symbol d.symbol e.symbol ≡ false
    differs true i = absurd (true≢false (sym (named es d e.symbol h i) ∙ apart.0))
    differs false i = i

pub not_declared : (ds : List Declared) (f : Symbol) → names ds f ≡ false → live.declared_as ds f ≡ None
not_declared [] f e = refl
not_declared (d ∷ ds) f e = go (same_symbol d.symbol f) refl e (not_declared ds f)
  where
    go : (b : Bool) → same_symbol d.symbol f ≡ b → (if b then true else names ds f) ≡ false → (names ds f ≡ false → live.declared_as ds f ≡ None) → live.declared_as (d ∷ ds) f ≡ None
    go true i h more = absurd (true≢false h)
    go false i h more = first_later d ds f (other_way f d.symbol i) ∙ more h

-- ---- words

word_declared : (scope : live.Scope) (f : Symbol) (o : Option Declared) → IsName f → IsSmallSymbol f → live.declared_as scope.symbols f ≡ o → live.declaration scope (symbol_word f) ≡ Ok o
word_declared scope f o name small h =
    rw (symbol_text (symbol_word f) (written.symbol_is f name), symbol_back f name small) (ap Ok h)

pub symbol_before : (scope : live.Scope) (f : Symbol) (d : Declared) → IsName f → IsSmallSymbol f → live.declared_as scope.symbols f ≡ Some d → head_at scope (word (symbol_word f)) ≡ Ok (SymbolHead d)
symbol_before scope f d name small h =
    ap (head_of scope (symbol_word f)) (symbol_is_name f name)
    ∙ ap (λ r. r >>= symbol_head) (word_declared scope f (Some d) name small h)

pub symbol_alone : (scope : live.Scope) (f : Symbol) (a : Sort) → IsName f → IsSmallSymbol f → live.declared_as scope.symbols f ≡ Some (declaration f [] a) → leaf scope kinds.Symbol (symbol_word f) ≡ Ok (Constant f a)
symbol_alone scope f a name small h =
    ap (alone scope (symbol_word f)) (symbol_is_name f name)
    ∙ ap (λ r. r >>= if_declared) (word_declared scope f (Some (declaration f [] a)) name small h)
