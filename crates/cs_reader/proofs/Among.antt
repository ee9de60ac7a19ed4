-- A word has the key of each symbol that it spells.
use Rattle.std.proofs.Common.{◌≡◌, ℕ, Bool, true, false, nat_eq, List, [], ◌∷◌, Option, Some, None, refl, sym, ap, ap₂, eqb-true}
use Rattle.std.specs.Prelude.{if◌then◌else◌}
use Rattle.std.proofs.lemmas.Bool.{and_parts}
use Rattle.vx_terms.specs.Sorts.{Symbol, Standard, Function, Variable, Named, same_text}
use Rattle.cs_index.specs.Keys.{mixed}
use Rattle.cs_index.specs.Found.{first, found}
use Rattle.cs_reader.specs.Marks.{numeral}
use Rattle.cs_reader.specs.Keys.{lettered_key, word_key, symbol_key}
use Rattle.cs_reader.specs.Live.{declared_in, under}
use Rattle.cs_reader.specs.declared.symbols.Symbols.{Symbols}
use Rattle.cs_reader.specs.Spelling.{is_number, is_lettered, is_spelled, spelled_by}
use Rattle.cs_reader.proofs.Indexing.{found_in}

text_is : (x y : List ℕ) → same_text x y ≡ true → x ≡ y
text_is [] [] e = refl
text_is (a ∷ x) (b ∷ y) e = let p = and_parts _ _ e in ap₂ (λ c z. c ∷ z) (eqb-true a b p.0) (text_is x y p.1)
text_is [] (b ∷ y) e = cc
text_is (a ∷ x) [] e = cc

lettered : (letter n : ℕ) (text : List ℕ) → is_lettered letter n text ≡ true → word_key text ≡ mixed letter n
lettered letter n [] e = cc
lettered letter n (b ∷ bs) e = on_letter (nat_eq b letter) refl e
  where
    on_number : b ≡ letter → (o : Option ℕ) → is_number n o ≡ true → lettered_key b bs o ≡ mixed letter n
    on_number is None f = cc
    on_number is (Some m) f = ap₂ mixed is (eqb-true m n f)

    on_letter : (t : Bool) → nat_eq b letter ≡ t → (if t then is_number n (numeral bs) else false) ≡ true → lettered_key b bs (numeral bs) ≡ mixed letter n
    on_letter true f g = on_number (eqb-true b letter f) (numeral bs) g
    on_letter false f g = cc

spelled_key : (text : List ℕ) (f : Symbol) → is_spelled text f ≡ true → word_key text ≡ symbol_key f
spelled_key text (Standard n) e = lettered 115 n text e
spelled_key text (Function n) e = lettered 102 n text e
spelled_key text (Variable n) e = lettered 118 n text e
spelled_key text (Named x) e = ap word_key (text_is text x e)

pub looked_up : (s : Symbols) (text : List ℕ) → found (spelled_by text) (declared_in s) (under s (word_key text)) ≡ first (spelled_by text) (declared_in s)
looked_up s text = found_in s (spelled_by text) (word_key text) (λ d e. sym (spelled_key text d.symbol e))
