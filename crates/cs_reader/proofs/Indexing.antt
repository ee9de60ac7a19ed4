-- What an index of symbols finds, and what it is after one symbol more, and one less.
use Rattle.std.proofs.Common.{◌≡◌, ℕ, Bool, true, nat_eq, List, [], ◌∷◌, ◌++◌, length, ◌∙◌, ap₂, ap}
use Rattle.vx_smt_meaning.specs.Commands.{Declared}
use Rattle.cs_index.specs.declared.index.Index.{Index}
use Rattle.cs_index.specs.Under.{under as numbers, with_number, without_last}
use Rattle.cs_index.specs.Found.{first, found}
use Rattle.cs_index.specs.Exact.{IsExact}
use Rattle.cs_index.proofs.Exact.{exact_more, exact_less, exact_indexed}
use Rattle.cs_reader.specs.Keys.{declared_key}
use Rattle.cs_reader.specs.Live.{declared_in, under}
use Rattle.cs_reader.specs.declared.symbols.Symbols.{Symbols}

-- where all that passes has this key
pub found_in : (s : Symbols) (passes : Declared → Bool) (k : ℕ) → ((d : Declared) → passes d ≡ true → declared_key d ≡ k) → found passes (declared_in s) (under s k) ≡ first passes (declared_in s)
found_in s passes k p = (exact_indexed declared_key (declared_in s) s.index.now.index s.indexed).finds passes k p

pub index_more : (i j : Index) (d : Declared) (key at : ℕ) → key ≡ declared_key d → ((k : ℕ) → numbers j k ≡ with_number (nat_eq key k) (numbers i k) at) →
    (ds : List Declared) → at ≡ length ds → IsExact declared_key ds i → IsExact declared_key (ds ++ d ∷ []) j
index_more i j d key at of more ds behind is =
    exact_more declared_key ds d i j is (λ k. more k ∙ ap₂ (λ x n. with_number (nat_eq x k) (numbers i k) n) of behind)

pub index_less : (i j : Index) (d : Declared) (key : ℕ) → key ≡ declared_key d → ((k : ℕ) → numbers j k ≡ without_last (nat_eq key k) (numbers i k)) →
    (ds : List Declared) → IsExact declared_key (ds ++ d ∷ []) i → IsExact declared_key ds j
index_less i j d key of less ds is = exact_less declared_key ds d i j is (λ k. less k ∙ ap (λ x. without_last (nat_eq x k) (numbers i k)) of)
