-- The clauses of a search, one more at a time.
use Rattle.std.proofs.Common.{◌≡◌, ◌+◌, ◌<◌, inl, inr, ℕ, List, [], ◌∷◌, ◌++◌, get_or, length, map, take, sym, ◌∙◌, ap, ap₂, subst, arith}
use Rattle.std.specs.List.{All}
use Rattle.std.proofs.lemmas.List.{map-append, take_more, length-map, get_or-map}
use Rattle.std.proofs.lemmas.List.Elements.{All-get_or}
use Rattle.cs_certificate.specs.Nodes.{Node}
use Rattle.cs_certificate.specs.declared.literal.Clause.{Clause}
use Rattle.cs_search.specs.Extended.{AreKnown}
use Rattle.cs_search.proofs.Gets.{get_push_cases}
use Rattle.cs_ground.specs.Atoms.{AreBool, all_named, literals}

-- the clause of an index is of Bool terms
pub item_bool : (all : List Node) (cs : List Clause) (i : ℕ) (c : Clause) → i < length cs → c ≡ get_or cs i c → All (AreBool all) (literals cs) → AreBool all c.literals.items
item_bool all cs i c lt at bools =
    let lt' : i < length (literals cs) = omega (arith, length-map cs (λ c. c.literals.items)) in
    let h = All-get_or (AreBool all) (literals cs) i c.literals.items lt' bools in
    subst (AreBool all) (get_or-map (λ c. c.literals.items) cs i c c.literals.items lt ∙ ap (λ c. c.literals.items) (sym at)) h

-- one clause more, over atoms
pub fed_more : (terms : List ℕ) (made new cs : List Clause) (i : ℕ) (c x : Clause) → i < length cs → c ≡ get_or cs i c → map (all_named terms) (literals made) ≡ literals (take i cs) → all_named terms x.literals.items ≡ c.literals.items →
    new ≡ made ++ x ∷ [] → map (all_named terms) (literals new) ≡ literals (take (i + 1) cs)
fed_more terms made new cs i c x lt at same one put =
    ap (λ xs. map (all_named terms) (literals xs)) put ∙ ap (map (all_named terms)) (map-append (λ c. c.literals.items) made (x ∷ [])) ∙ map-append (all_named terms) (literals made) (x.literals.items ∷ [])
    ∙ ap₂ (λ xs ls. xs ++ ls ∷ []) same (one ∙ ap (λ c. c.literals.items) at) ∙ sym (map-append (λ c. c.literals.items) (take i cs) (get_or cs i c ∷ [])) ∙ ap literals (sym (take_more cs i c lt))

-- and its atoms are known
pub known_more : (count : ℕ) (made new : List Clause) (x : Clause) → AreKnown made count → All (λ l. l.number < count) x.literals.items → new ≡ made ++ x ∷ [] → AreKnown new count
known_more count made new x known within put = subst (λ cs. AreKnown cs count) (sym put) (λ i c at. elim (get_push_cases made i x c at) [
  | inl old ↦ known i c old
  | inr w ↦ subst (λ y. All (λ l. l.number < count) y.literals.items) (sym w.1) within
])
