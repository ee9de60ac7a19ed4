-- A table with room for more atoms.
use Rattle.std.proofs.Common.{◌≡◌, ℕ, zero, suc, ◌<◌, ◌≤◌, ◌⊎◌, inl, inr, Bool, List, [], ◌∷◌, ◌++◌, length, Some, None, refl, sym, ◌∙◌, subst, arith}
use Rattle.std.specs.List.{slice_get, All}
use Rattle.std.proofs.lemmas.List.{length-append}
use Rattle.std.proofs.lemmas.List.Elements.{All-weaker}
use Rattle.cs_certificate.specs.declared.literal.Literal.{Literal}
use Rattle.cs_search.specs.declared.Value.{Value}
use Rattle.cs_search.specs.declared.Value.TheVariants.{Unset}
use Rattle.cs_search.specs.declared.Entry.{Entry}
use Rattle.cs_certificate.specs.declared.literal.Clause.{Clause}
use Rattle.cs_search.specs.Assignment.{seen_or, FalseBefore, IsTrail}
use Rattle.cs_search.specs.Settled.{HasReason}
use Rattle.cs_search.proofs.Settles.{trail_clause}
use Rattle.cs_search.specs.Search.{IsSearch}
use Rattle.cs_search.specs.Widened.{IsWidened}
use Rattle.cs_search.proofs.Gets.{get_push_cases}

seen_push : (b : Bool) (values : List Value) (a : ℕ) → seen_or b (slice_get (values ++ Unset ∷ []) a) ≡ seen_or b (slice_get values a)
seen_push b [] zero = refl
seen_push b [] (suc a) = refl
seen_push b (v ∷ values) zero = refl
seen_push b (v ∷ values) (suc a) = seen_push b values a

pub widened_itself : (values : List Value) → IsWidened values values
widened_itself values = record { same = λ l. refl; longer = omega arith }

pub widened_push : (old now new : List Value) → new ≡ now ++ Unset ∷ [] → IsWidened old now → IsWidened old new
widened_push old now new e w =
    let P : List Value → Type 0 = λ x. IsWidened old x in
    subst P (sym e) record { same = λ l. seen_push l.positive now l.number ∙ w.same l; longer = (let a = w.longer in omega (arith, a, length-append now (Unset ∷ []))) }

pub widened_twice : (a b c : List Value) → IsWidened a b → IsWidened b c → IsWidened a c
widened_twice a b c f g = record { same = λ l. g.same l ∙ f.same l; longer = (let x = f.longer in let y = g.longer in omega arith) }

pub room_later : (m n : ℕ) (c : List Literal) → m ≤ n → All (λ l. l.number < m) c → All (λ l. l.number < n) c
room_later m n c le h = All-weaker (λ l. l.number < m) (λ l. l.number < n) (λ l x. (let a : l.number < m = x in omega arith)) c h

trail_widened : (clauses : List Clause) (values v' : List Value) (trail : List Entry) → IsWidened values v' → IsTrail clauses values trail → IsTrail clauses v' trail
trail_widened clauses values v' trail w t = record {
  set = λ j e at. w.same e.literal ∙ t.set j e at;
  placed = λ l p is. t.placed l p (sym (w.same l) ∙ is);
  reasoned = λ j r e at why. (let x = t.reasoned j r e at why in (
    x.0,
    x.1,
    x.2,
    All-weaker (λ m. (m ≡ e.literal) ⊎ FalseBefore values j m) (λ m. (m ≡ e.literal) ⊎ FalseBefore v' j m) (λ m y. elim y [ inl q ↦ inl q | inr f ↦ inr (f.0, f.1, w.same m ∙ f.2) ]) x.0.literals.items x.3,
  ));
}

-- where no decision is left
pub added_search : (clauses clauses' : List Clause) (values v' : List Value) (trail : List Entry) (c : Clause) →
    IsSearch clauses values trail → ((j : ℕ) (e : Entry) → slice_get trail j ≡ Some e → HasReason e) → IsWidened values v' → All (λ l. l.number < length v') c.literals.items → clauses' ≡ clauses ++ c ∷ [] → IsSearch clauses' v' trail
added_search clauses clauses' values v' trail c s forced w room ec =
    let P : List Clause → Type 0 = λ x. IsSearch x v' trail in
    let le : length values ≤ length v' = w.longer in
    let R : Clause → Type 0 = λ x. All (λ l. l.number < length v') x.literals.items in
    subst P (sym ec) record {
      sound = trail_clause clauses c v' trail (trail_widened clauses values v' trail w s.sound);
      known = λ i x at. elim (get_push_cases clauses i c x at) [ inl h ↦ room_later (length values) (length v') x.literals.items le (s.known i x h) | inr h ↦ subst R (sym h.1) room ];
      closed = λ d e at why i x here. (let r = forced d e at in let y : None ≡ Some r.0 = sym why ∙ r.1 in cc);
    }

pub room_over : (v : List Value) (c c' : List Literal) → c ≡ c' → All (λ l. l.number < length v) c → All (λ l. l.number < length v) c'
room_over v c c' e h = let P : List Literal → Type 0 = λ x. All (λ l. l.number < length v) x in subst P e h
