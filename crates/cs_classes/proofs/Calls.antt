-- The first match of a call has its element.
use Rattle.std.proofs.Common.{◌≡◌, zero, suc, Bool, true, false, ◌&&◌, List, [], ◌∷◌, refl, sym, ◌∙◌, ap, ap₂, subst, true≢false}
use Rattle.std.specs.Prelude.{if◌then◌else◌}
use Rattle.std.proofs.lemmas.Option.{same_Some}
use Rattle.std.proofs.lemmas.Bool.{and_parts}
use Rattle.vx_terms.specs.Sorts.{Sort, Symbol, same_symbol, same_sort}
use Rattle.vx_terms.specs.Terms.{Term, Constant, Apply}
use Rattle.vx_terms.specs.Views.{sort, symbol}
use Rattle.vx_terms.specs.Interpretations.{Element}
use Rattle.vx_terms.proofs.Same.{symbol_is, sort_is}
use Rattle.vx_terms.proofs.Values.{element_same}
use Rattle.cs_certificate.specs.Terms.{items}
use Rattle.cs_certificate.specs.Certificate.{Contains}
use Rattle.cs_certificate.proofs.Values.{element_is}
use Rattle.cs_numbers.proofs.Itself.{term_same}
use Rattle.cs_model.specs.Elements.{element, elements, same_elements}
use Rattle.cs_model.specs.Models.{finds, found, interpretation}
use Rattle.cs_model.specs.declared.tables.Entry.{Entry}
use Rattle.cs_classes.specs.Elements.{Assignment, element_of, elements_of}
use Rattle.cs_classes.specs.Agreement.{IsCall, constant, applies, Agrees}
use Rattle.cs_classes.specs.Models.{GivesCalls, is_call, called, interpretation_of, IsEntry, Tabulates}

-- ---- what is the same, and is itself
both : (a b : Bool) → a ≡ true → b ≡ true → a && b ≡ true
both true b e f = f
both false b e f = cc

elements_same : (es : List Element) → same_elements es es ≡ true
elements_same [] = refl
elements_same (e ∷ es) = both _ _ (element_same e) (elements_same es)

elements_are : (ds es : List Element) → same_elements ds es ≡ true → ds ≡ es
elements_are [] [] e = refl
elements_are (c ∷ ds) (d ∷ es) e = let p = and_parts _ _ e in ap₂ (λ x xs. x ∷ xs) (element_is c d p.0) (elements_are ds es p.1)
elements_are _ _ e = cc

-- a symbol, a sort and elements that are the same
matched : (f : Symbol) (a : Sort) (es : List Element) (g : Symbol) (b : Sort) (ds : List Element) → f ≡ g → a ≡ b → es ≡ ds → same_symbol f g && (same_sort a b && same_elements es ds) ≡ true
matched f a es g b ds p q r =
    let same = and_parts (same_symbol f f) (same_sort a a) (term_same (Constant f a)) in
    both _ _ (subst (λ x. same_symbol f x ≡ true) p same.0) (both _ _ (subst (λ x. same_sort a x ≡ true) q same.1) (subst (λ x. same_elements es x ≡ true) r (elements_same es)))

-- a term is one call
same_call : {t : Term} {f g : Symbol} {a b : Sort} {xs ys : List Term} → IsCall t f a xs → IsCall t g b ys → (f ≡ g) × (a ≡ b) × (xs ≡ ys)
same_call (constant _ _) (constant _ _) = (refl, refl, refl)
same_call (applies _ _ _) (applies _ _ _) = (refl, refl, refl)

-- ---- among terms
-- what a match is a call of
record IsMatch (s : Assignment) (f : Symbol) (a : Sort) (es : List Element) (t : Term) : Type 0 where
  arguments : List Term
  call : IsCall t f a arguments
  same : es ≡ elements_of s arguments

is_match : (s : Assignment) (f : Symbol) (a : Sort) (es : List Element) (t : Term) → is_call s f a es t ≡ true → IsMatch s f a es t
is_match s f a es (Constant g b) e =
    let p = and_parts _ _ e in
    let q = and_parts _ _ p.1 in
    record { arguments = []; call = subst (λ x. IsCall (Constant g b) x a []) (sym (symbol_is f g p.0)) (subst (λ x. IsCall (Constant g b) g x []) (sym (sort_is a b q.0)) (constant g b)); same = elements_are es [] q.1 }
is_match s f a es (Apply g b ts) e =
    let p = and_parts _ _ e in
    let q = and_parts _ _ p.1 in
    record { arguments = items ts; call = subst (λ x. IsCall (Apply g b ts) x a (items ts)) (sym (symbol_is f g p.0)) (subst (λ x. IsCall (Apply g b ts) g x (items ts)) (sym (sort_is a b q.0)) (applies g b ts)); same = elements_are es _ q.1 }
is_match s f a es _ e = cc

call_matches : (s : Assignment) (f : Symbol) (a : Sort) (xs : List Term) (t : Term) → IsCall t f a xs → is_call s f a (elements_of s xs) t ≡ true
call_matches s f a xs t (constant _ _) = matched f a [] f a [] refl refl refl
call_matches s f a xs t (applies _ _ ts) = matched f a (elements_of s (items ts)) f a (elements_of s (items ts)) refl refl refl

-- the first match among terms
module _ (all : List Term) (s : Assignment) (agrees : Agrees all s) (t : Term) (f : Symbol) (a : Sort) (xs : List Term) (at : Contains all t) (call : IsCall t f a xs) where
  by_match : (u : Term) → Contains all u → is_call s f a (elements_of s xs) u ≡ true → element_of s u ≡ element_of s t
  by_match u m is =
      let h = is_match s f a (elements_of s xs) u is in
      sym (agrees.congruent t u f a xs h.arguments at m call h.call h.same)

  rest : (u : Term) (us : List Term) → is_call s f a (elements_of s xs) u ≡ false → Contains (u ∷ us) t → Contains us t
  rest u us is (zero, e) =
      let h : is_call s f a (elements_of s xs) u ≡ true = subst (λ v. is_call s f a (elements_of s xs) v ≡ true) (sym (same_Some _ _ e)) (call_matches s f a xs t call) in
      absurd (true≢false (sym h ∙ is))
  rest u us is (suc k, e) = (k, e)

  first_call : (ts : List Term) → ((u : Term) → Contains ts u → Contains all u) → Contains ts t → called s f a (elements_of s xs) ts ≡ element_of s t
  first_call [] within (k, e) = cc
  first_call (u ∷ us) within m = go (is_call s f a (elements_of s xs) u) refl (λ h. first_call us (λ v n. within v (suc n.0, n.1)) h)
    where
      go : (b : Bool) → is_call s f a (elements_of s xs) u ≡ b → (Contains us t → called s f a (elements_of s xs) us ≡ element_of s t) →
          (if b then element_of s u else called s f a (elements_of s xs) us) ≡ element_of s t
      go true is more = by_match u (within u (0, refl)) is
      go false is more = more (rest u us is m)

pub calls_given : (all : List Term) (s : Assignment) → Agrees all s → GivesCalls all s (interpretation_of all s)
calls_given all s agrees t f a xs at call = first_call all s agrees t f a xs at call all (λ u m. m) at

-- ---- among entries
entry_found : (s : Assignment) (f : Symbol) (a : Sort) (xs : List Term) (t : Term) (x : Entry) → IsCall t f a xs → IsEntry s t x → finds f a (elements_of s xs) x ≡ true
entry_found s f a xs t x call e = go t call e.on e.call e.arguments
  where
    go : (t : Term) → IsCall t f a xs → (ys : List Term) → IsCall t (symbol x.symbol) (sort x.sort) ys → elements x.arguments.items ≡ elements_of s ys → finds f a (elements_of s xs) x ≡ true
    go t call ys other is = let same = same_call call other in matched f a _ _ _ _ same.0 same.1 (ap (elements_of s) same.2 ∙ sym is)

module _ (all : List Term) (s : Assignment) (agrees : Agrees all s) (t : Term) (f : Symbol) (a : Sort) (xs : List Term) (at : Contains all t) (call : IsCall t f a xs) where
  by_entry : (u : Term) (x : Entry) → Contains all u → IsEntry s u x → finds f a (elements_of s xs) x ≡ true → element x.value ≡ element_of s t
  by_entry u x m e is =
      let p = and_parts _ _ is in
      let q = and_parts _ _ p.1 in
      let h : IsCall u f a e.on = subst (λ g. IsCall u g a e.on) (sym (symbol_is f _ p.0)) (subst (λ b. IsCall u (symbol x.symbol) b e.on) (sym (sort_is a _ q.0)) e.call) in
      e.value ∙ sym (agrees.congruent t u f a xs e.on at m call h (elements_are _ _ q.1 ∙ e.arguments))

  other_entries : (x y : Entry) (xs' : List Entry) → finds f a (elements_of s xs) x ≡ false → IsEntry s t y → Contains (x ∷ xs') y → Contains xs' y
  other_entries x y xs' is e (zero, p) =
      let h : finds f a (elements_of s xs) x ≡ true = subst (λ z. finds f a (elements_of s xs) z ≡ true) (sym (same_Some _ _ p)) (entry_found s f a xs t y call e) in
      absurd (true≢false (sym h ∙ is))
  other_entries x y xs' is e (suc k, p) = (k, p)

  first_entry : (entries : List Entry) → ((x : Entry) → Contains entries x → (u : Term) × Contains all u × IsEntry s u x) → (y : Entry) → IsEntry s t y → Contains entries y → found f a (elements_of s xs) entries ≡ element_of s t
  first_entry [] within y e (k, p) = cc
  first_entry (x ∷ more) within y e m = go (finds f a (elements_of s xs) x) refl (λ h. first_entry more (λ z n. within z (suc n.0, n.1)) y e h)
    where
      go : (b : Bool) → finds f a (elements_of s xs) x ≡ b → (Contains more y → found f a (elements_of s xs) more ≡ element_of s t) →
          (if b then element x.value else found f a (elements_of s xs) more) ≡ element_of s t
      go true is next = let h = within x (0, refl) in by_entry h.0 x h.1 h.2 is
      go false is next = next (other_entries x y more is e m)

pub entries_given : (all : List Term) (s : Assignment) (entries : List Entry) → Agrees all s → Tabulates all s entries → GivesCalls all s (interpretation entries)
entries_given all s entries agrees tables t f a xs at call =
    let h = tables.every t f a xs at call in
    first_entry all s agrees t f a xs at call entries tables.no_other h.0 h.2 h.1
