-- Numbers of parts that are kept, of terms all of whose subterms have numbers.
use Rattle.std.proofs.Common.{◌≡◌, ℕ, zero, suc, Bool, true, false, ◌||◌, ◌&&◌, List, [], ◌∷◌, ◌++◌, length, Vec, Global, slice_get, slice_set, is_some, Option, Some, None, ◌⊎◌, inl, inr, refl, sym, ◌∙◌, ap}
use Rattle.std.specs.Prelude.{if◌then◌else◌, IfSome}
use Rattle.std.specs.Option.{option_map}
use Rattle.std.proofs.lemmas.Bool.{and_parts, and_from}
use Rattle.std.proofs.lemmas.Option.{same_Some}
use Rattle.vx_terms.specs.Terms.{Term, Truth, Number, Part, Constant, Apply, Not, Binary, Ite, AllOf, SomeOf, same}
use Rattle.cs_certificate.specs.Terms.{parts, subterms}
use Rattle.cs_certificate.specs.Steps.{◌>>=◌}
use Rattle.cs_certificate.specs.Certificate.{Contains}
use Rattle.cs_numbers.specs.Numbering.{place, places, has, with_one, added}
use Rattle.cs_numbers.specs.Inner.{inner}
use Rattle.cs_numbers.specs.Kept.{has_all, parts_at, AreKept}
use Rattle.cs_numbers.proofs.Numbered.{has_in, new}
use Rattle.cs_numbers.proofs.Itself.{term_same}
use Rattle.cs_numbers.proofs.Looked.{has_placed}
use Rattle.cs_numbers.proofs.Tables.{place_at}

-- ---- what has numbers keeps them
has_more : (terms ts : List Term) (u : Term) → has terms u ≡ true → has (terms ++ ts) u ≡ true
has_more [] ts u h = cc
has_more (x ∷ terms) ts u h = go (same u x) h (has_more terms ts u)
  where
    go : (b : Bool) → (b || has terms u) ≡ true → (has terms u ≡ true → has (terms ++ ts) u ≡ true) → (b || has (terms ++ ts) u) ≡ true
    go true h k = refl
    go false h k = k h

all_more : (terms ts us : List Term) → has_all terms us ≡ true → has_all (terms ++ ts) us ≡ true
all_more terms ts [] h = refl
all_more terms ts (u ∷ us) h = let k = and_parts (has terms u) (has_all terms us) h in and_from _ _ (has_more terms ts u k.0) (all_more terms ts us k.1)

at_more : (terms ts : List Term) (n : ℕ) (t : Term) → slice_get terms n ≡ Some t → slice_get (terms ++ ts) n ≡ Some t
at_more [] ts n t e = cc
at_more (x ∷ terms) ts zero t e = e
at_more (x ∷ terms) ts (suc n) t e = at_more terms ts n t e

-- ---- a number that a term has stays when more terms come behind
abbrev pub Stays : List Term → List Term → Type 0
Stays old new = (t : Term) (n : ℕ) → place old t ≡ Some n → place new t ≡ Some n

place_more : (terms ts : List Term) → Stays terms (terms ++ ts)
place_more [] ts t n e = cc
place_more (x ∷ terms) ts t n e = go (same t x) e (λ m. place_more terms ts t m)
  where
    later : (o p : Option ℕ) → ((m : ℕ) → o ≡ Some m → p ≡ Some m) → option_map suc o ≡ Some n → option_map suc p ≡ Some n
    later None p h f = cc
    later (Some m) p h f = ap (option_map suc) (h m refl) ∙ f

    go : (b : Bool) → (if b then Some 0 else option_map suc (place terms t)) ≡ Some n → ((m : ℕ) → place terms t ≡ Some m → place (terms ++ ts) t ≡ Some m) → (if b then Some 0 else option_map suc (place (terms ++ ts) t)) ≡ Some n
    go true f h = f
    go false f h = later (place terms t) (place (terms ++ ts) t) h f

place_one : (terms : List Term) (u : Term) → Stays terms (with_one terms u)
place_one terms u t n e = go (has terms u)
  where
    go : (b : Bool) → place (if b then terms else terms ++ u ∷ []) t ≡ Some n
    go true = e
    go false = place_more terms (u ∷ []) t n e

pub place_added : (terms ts : List Term) → Stays terms (added terms ts)
place_added terms [] t n e = e
place_added terms (u ∷ us) t n e = place_added (with_one terms u) us t n (place_one terms u t n e)

pub places_stay : (old new us : List Term) → Stays old new → (ns : List ℕ) → places old us ≡ Some ns → places new us ≡ Some ns
places_stay old new [] s ns e = e
places_stay old new (u ∷ us) s ns e = go (place old u) (places old us) refl e (places_stay old new us s)
  where
    go : (o : Option ℕ) (p : Option (List ℕ)) → place old u ≡ o → (o >>= λ m. p >>= λ ms. Some (m ∷ ms)) ≡ Some ns → ((ms : List ℕ) → p ≡ Some ms → places new us ≡ Some ms) → places new (u ∷ us) ≡ Some ns
    go None p a f h = cc
    go (Some m) None a f h = cc
    go (Some m) (Some ms) a f h = ap (λ o. o >>= λ m. places new us >>= λ ms. Some (m ∷ ms)) (s u m a) ∙ ap (λ o. o >>= λ ms. Some (m ∷ ms)) (h ms refl) ∙ f

-- one number more
pub places_end : (terms us : List Term) (t : Term) (ns : List ℕ) (n : ℕ) → places terms us ≡ Some ns → place terms t ≡ Some n → places terms (us ++ t ∷ []) ≡ Some (ns ++ n ∷ [])
places_end terms [] t ns n e f = ap (λ o. o >>= λ m. Some (m ∷ [])) f ∙ ap (λ o. o >>= λ ms. Some (ms ++ n ∷ [])) e
places_end terms (u ∷ us) t ns n e f = go (place terms u) (places terms us) refl e (λ ms g. places_end terms us t ms n g f)
  where
    go : (o : Option ℕ) (p : Option (List ℕ)) → place terms u ≡ o → (o >>= λ m. p >>= λ ms. Some (m ∷ ms)) ≡ Some ns → ((ms : List ℕ) → p ≡ Some ms → places terms (us ++ t ∷ []) ≡ Some (ms ++ n ∷ [])) → places terms (u ∷ (us ++ t ∷ [])) ≡ Some (ns ++ n ∷ [])
    go None p a g h = cc
    go (Some m) None a g h = cc
    go (Some m) (Some ms) a g h =
        ap (λ o. o >>= λ m. places terms (us ++ t ∷ []) >>= λ ms. Some (m ∷ ms)) a ∙ ap (λ o. o >>= λ ms. Some (m ∷ ms)) (h ms refl)
        ∙ ap (λ o. o >>= λ ms. Some (ms ++ n ∷ [])) g

-- ---- what is kept
-- the term with number n is there, its subterms have numbers, and those of its parts are these
pub record IsKept (terms : List Term) (n : ℕ) (ns : List ℕ) : Type 0 where
  pub of : Term
  pub there : slice_get terms n ≡ Some of
  pub whole : has_all terms (subterms of) ≡ true
  pub are : places terms (parts of) ≡ Some ns

pub is_kept : (terms : List Term) (n : ℕ) (ns : List ℕ) → parts_at terms n ≡ Some ns → IsKept terms n ns
is_kept terms n ns e = at (slice_get terms n) refl e
  where
    whole : (t : Term) → slice_get terms n ≡ Some t → (b : Bool) → has_all terms (subterms t) ≡ b → (if b then places terms (parts t) else None) ≡ Some ns → IsKept terms n ns
    whole t f true g h = record { of = t; there = f; whole = g; are = h }
    whole t f false g h = cc

    at : (o : Option Term) → slice_get terms n ≡ o → (o >>= λ t. if has_all terms (subterms t) then places terms (parts t) else None) ≡ Some ns → IsKept terms n ns
    at None f g = cc
    at (Some t) f g = whole t f (has_all terms (subterms t)) refl g

pub kept_is : (terms : List Term) (n : ℕ) (ns : List ℕ) → IsKept terms n ns → parts_at terms n ≡ Some ns
kept_is terms n ns k =
    ap (λ o. o >>= λ t. if has_all terms (subterms t) then places terms (parts t) else None) k.there
    ∙ ap (λ b. if b then places terms (parts k.of) else None) k.whole ∙ k.are

kept_later : (terms ts : List Term) (n : ℕ) (ns : List ℕ) → IsKept terms n ns → IsKept (terms ++ ts) n ns
kept_later terms ts n ns k = record {
  of = k.of;
  there = at_more terms ts n k.of k.there;
  whole = all_more terms ts (subterms k.of) k.whole;
  are = places_stay terms (terms ++ ts) (parts k.of) (place_more terms ts) ns k.are;
}

pub kept_none : (terms : List Term) → AreKept terms []
kept_none terms = record { each = λ n ns e. cc }

room : (kept : List (Option (Vec ℕ Global))) (n : ℕ) (ns : Vec ℕ Global) → slice_get (kept ++ None ∷ []) n ≡ Some (Some ns) → slice_get kept n ≡ Some (Some ns)
room [] zero ns e = cc
room [] (suc n) ns e = cc
room (x ∷ kept) zero ns e = e
room (x ∷ kept) (suc n) ns e = room kept n ns e

pub kept_longer : (terms : List Term) (kept : List (Option (Vec ℕ Global))) → AreKept terms kept → AreKept terms (kept ++ None ∷ [])
kept_longer terms kept k = record { each = λ n ns e. k.each n ns (room kept n ns e) }

pub kept_more : (terms ts : List Term) (kept : List (Option (Vec ℕ Global))) → AreKept terms kept → AreKept (terms ++ ts) kept
kept_more terms ts kept k = record { each = λ n ns e. kept_is (terms ++ ts) n ns.items (kept_later terms ts n ns.items (is_kept terms n ns.items (k.each n ns e))) }

written : (kept : List (Option (Vec ℕ Global))) (number n : ℕ) (ms ns : Vec ℕ Global) → slice_get (slice_set kept number (Some ms)) n ≡ Some (Some ns) → ((number ≡ n) × (ms ≡ ns)) ⊎ (slice_get kept n ≡ Some (Some ns))
written [] number n ms ns e = inr e
written (x ∷ kept) zero zero ms ns e = inl (refl, same_Some _ _ (same_Some _ _ e))
written (x ∷ kept) zero (suc n) ms ns e = inr e
written (x ∷ kept) (suc number) zero ms ns e = inr e
written (x ∷ kept) (suc number) (suc n) ms ns e = elim (written kept number n ms ns e) [ inl h ↦ inl (ap suc h.0, h.1) | inr h ↦ inr h ]

pub kept_set : (terms : List Term) (kept : List (Option (Vec ℕ Global))) (number : ℕ) (ms : Vec ℕ Global) → parts_at terms number ≡ Some ms.items → AreKept terms kept → AreKept terms (slice_set kept number (Some ms))
kept_set terms kept number ms h k = record {
  each = λ n ns e. elim (written kept number n ms ns e) [
    | inl x ↦ ap (parts_at terms) (sym x.0) ∙ h ∙ ap (λ v. Some v.items) x.1
    | inr x ↦ k.each n ns x
  ];
}

-- ---- a term that has a number, and one that gets the next one
pub one_known : (terms : List Term) (t : Term) (n : ℕ) → place terms t ≡ Some n → terms ≡ with_one terms t
one_known terms t n e = sym (ap (λ b. if b then terms else terms ++ t ∷ []) (sym (has_placed terms t) ∙ ap is_some e))

pub one_new : (terms all : List Term) (t : Term) → place terms t ≡ None → all ≡ terms ++ t ∷ [] → all ≡ with_one terms t
one_new terms all t e is = is ∙ sym (ap (λ b. if b then terms else terms ++ t ∷ []) (sym (has_placed terms t) ∙ ap is_some e))

last : (terms : List Term) (t : Term) → place terms t ≡ None → place (terms ++ t ∷ []) t ≡ Some (length terms)
last [] t e = ap (λ b. if b then Some 0 else None) (term_same t)
last (u ∷ terms) t e = go (same t u) e (last terms t)
  where
    later : (o p : Option ℕ) → (o ≡ None → p ≡ Some (length terms)) → option_map suc o ≡ None → option_map suc p ≡ Some (suc (length terms))
    later None p h f = ap (option_map suc) (h refl)
    later (Some m) p h f = cc

    go : (b : Bool) → (if b then Some 0 else option_map suc (place terms t)) ≡ None → (place terms t ≡ None → place (terms ++ t ∷ []) t ≡ Some (length terms)) → (if b then Some 0 else option_map suc (place (terms ++ t ∷ []) t)) ≡ Some (suc (length terms))
    go true f h = cc
    go false f h = later (place terms t) (place (terms ++ t ∷ []) t) h f

pub at_last : (terms all : List Term) (t : Term) (n : ℕ) → place terms t ≡ None → all ≡ terms ++ t ∷ [] → n ≡ length terms → place all t ≡ Some n
at_last terms all t n e is f = ap (λ us. place us t) is ∙ last terms t e ∙ ap Some (sym f)

-- ---- a term whose subterms have numbers needs no walk
pub opened : {X : Type 0} (o : Option X) (P : X → Type 0) → is_some o ≡ true → IfSome o P → (x : X) × P x
opened None P e h = cc
opened (Some x) P e h = (x, h)

added_known : (terms ts : List Term) → has_all terms ts ≡ true → added terms ts ≡ terms
added_known terms [] h = refl
added_known terms (t ∷ ts) h = let k = and_parts (has terms t) (has_all terms ts) h in ap (λ b. added (if b then terms else terms ++ t ∷ []) ts) k.0 ∙ added_known terms ts k.1

pub first_inner : (t : Term) → subterms t ≡ t ∷ inner t
first_inner (Truth b) = refl
first_inner (Number z) = refl
first_inner (Part a) = refl
first_inner (Constant f a) = refl
first_inner (Apply f a ts) = refl
first_inner (Not t) = refl
first_inner (Binary o t u) = refl
first_inner (Ite c t u) = refl
first_inner (AllOf ts) = refl
first_inner (SomeOf ts) = refl

pub added_inner : (old all : List Term) (t : Term) → all ≡ with_one old t → added all (inner t) ≡ added old (subterms t)
added_inner old all t e = ap (λ us. added us (inner t)) e ∙ sym (ap (added old) (first_inner t))

pub known : (old all : List Term) (t : Term) (n : ℕ) (ns : List ℕ) → all ≡ with_one old t → place all t ≡ Some n → parts_at all n ≡ Some ns → all ≡ added old (subterms t)
known old all t n ns e at g =
    let k = is_kept all n ns g in
    let is : k.of ≡ t = same_Some _ _ (sym k.there ∙ place_at all t n at) in
    let h : has_all all (t ∷ inner t) ≡ true = ap (has_all all) (sym (first_inner t) ∙ ap subterms (sym is)) ∙ k.whole in
    sym (added_known all (inner t) (and_parts (has all t) (has_all all (inner t)) h).1) ∙ added_inner old all t e

-- ---- what is kept when a term's parts were added
all_in : (terms ts : List Term) → ((u : Term) → Contains ts u → has terms u ≡ true) → has_all terms ts ≡ true
all_in terms [] h = refl
all_in terms (t ∷ ts) h = and_from _ _ (h t (0, refl)) (all_in terms ts (λ u c. h u (suc c.0, c.1)))

pub placed_now : (all end : List Term) (t : Term) (n : ℕ) → place all t ≡ Some n → end ≡ added all (inner t) → place end t ≡ Some n
placed_now all end t n at f = ap (λ us. place us t) f ∙ place_added all (inner t) t n at

pub kept_now : (old all end : List Term) (t : Term) (n : ℕ) (ns : List ℕ) → all ≡ with_one old t → place all t ≡ Some n → end ≡ added all (inner t) → places end (parts t) ≡ Some ns → parts_at end n ≡ Some ns
kept_now old all end t n ns e at f are =
    let is : end ≡ added old (subterms t) = f ∙ added_inner old all t e in
    kept_is end n ns record {
      of = t;
      there = place_at end t n (placed_now all end t n at f);
      whole = ap (λ us. has_all us (subterms t)) is ∙ all_in (added old (subterms t)) (subterms t) (λ u c. has_in (added old (subterms t)) u (new old (subterms t) u c));
      are = are;
    }

-- ---- what is kept of a term are the numbers of its parts
pub kept_parts : (terms : List Term) (t : Term) (n : ℕ) (ns : List ℕ) → slice_get terms n ≡ Some t → parts_at terms n ≡ Some ns → places terms (parts t) ≡ Some ns
kept_parts terms t n ns at e =
    let k = is_kept terms n ns e in
    let is : k.of ≡ t = same_Some _ _ (sym k.there ∙ at) in
    ap (λ u. places terms (parts u)) (sym is) ∙ k.are
