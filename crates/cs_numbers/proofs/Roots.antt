-- The terms that make a forest get their numbers from the first one on.
use Rattle.std.proofs.Common.{◌≡◌, ℕ, List, [], ◌∷◌, ◌++◌, reverse, Some, refl, sym, ◌∙◌, ap, append_assoc, append-nil}
use Rattle.vx_terms.specs.Terms.{Term}
use Rattle.cs_certificate.specs.Terms.{subterms, parts_of}
use Rattle.cs_numbers.specs.Numbering.{place, places, added}
use Rattle.cs_numbers.specs.Forest.{IsFirst}
use Rattle.cs_numbers.proofs.Forest.{no_roots}
use Rattle.cs_numbers.proofs.Kept.{place_added, places_stay, places_end}

-- these are the numbers of the first of us, and the others make what is left
pub record Walked (us terms : List Term) (ns : List ℕ) (left : List Term) : Type 0 where
  pub front : List Term
  pub rest : List Term
  pub all : us ≡ front ++ rest
  pub found : places terms front ≡ Some ns
  pub is : left ≡ reverse (parts_of rest)

pub walked_none : (us terms left : List Term) → left ≡ reverse (parts_of us) → Walked us terms [] left
walked_none us terms left e = record { front = []; rest = us; all = refl; found = refl; is = e }

pub walked_one : (us old new left others : List Term) (ns ms : List ℕ) (t : Term) (n : ℕ) → Walked us old ns left → ((ts : List Term) → left ≡ reverse (parts_of ts) → IsFirst ts t others) → new ≡ added old (subterms t) → place new t ≡ Some n → ms ≡ ns ++ n ∷ [] → Walked us new ms others
walked_one us old new left others ns ms t n w h e at is =
    let f = h w.rest w.is in
    let stays : places new w.front ≡ Some ns = ap (λ xs. places xs w.front) e ∙ places_stay old (added old (subterms t)) w.front (place_added old (subterms t)) ns w.found in
    record {
      front = w.front ++ t ∷ [];
      rest = f.others;
      all = w.all ∙ ap (λ xs. w.front ++ xs) f.first ∙ sym (append_assoc w.front (t ∷ []) f.others);
      found = places_end new w.front t ns n stays at ∙ ap Some (sym is);
      is = f.is;
    }

pub walked_all : (us terms left : List Term) (ns : List ℕ) → Walked us terms ns left → left ≡ [] → places terms us ≡ Some ns
walked_all us terms left ns w e =
    ap (places terms) (w.all ∙ ap (λ xs. w.front ++ xs) (no_roots w.rest (sym e ∙ w.is)) ∙ append-nil w.front) ∙ w.found
