-- A search in which no atom has a value.
use Rattle.std.proofs.Common.{◌≡◌, ℕ, Bool, List, [], Option, Some, None, length, refl, sym, ◌∙◌, ap, subst, arith}
use Rattle.std.specs.List.{All, slice_get}
use Rattle.std.proofs.lemmas.Option.{get_or_from_slice_get, slice_get_within}
use Rattle.cs_certificate.specs.declared.literal.Clause.{Clause}
use Rattle.cs_search.specs.declared.Value.{Value}
use Rattle.cs_search.specs.declared.Value.TheVariants.{Unset}
use Rattle.cs_search.specs.declared.Status.TheVariants.{True}
use Rattle.cs_search.specs.declared.Entry.{Entry}
use Rattle.cs_search.specs.Assignment.{seen, seen_or}
use Rattle.cs_search.specs.Extended.{AreKnown}
use Rattle.cs_search.specs.Search.{IsSearch}

nothing_at : {A : Type 0} (xs : List A) (j : ℕ) (x : A) → xs ≡ [] → slice_get xs j ≡ Some x → ⊥
nothing_at xs j x none at =
    let within = slice_get_within xs j x at in
    let empty = ap length none in
    omega (arith, within, empty)

value_unset : (values : List Value) (i : ℕ) (v : Value) → All (λ x. x ≡ Unset) values → slice_get values i ≡ Some v → v ≡ Unset
value_unset values i v unset at = sym (get_or_from_slice_get values i v Unset at) ∙ unset i Unset (slice_get_within values i v at)

seen_unset : (b : Bool) (o : Option Value) (p : ℕ) → ((v : Value) → o ≡ Some v → v ≡ Unset) → seen_or b o ≡ True p → ⊥
seen_unset b None p unset e = cc
seen_unset b (Some v) p unset e = let told = subst (λ x. seen b x ≡ True p) (unset v refl) e in cc

-- it is one, whatever its clauses are
pub unset_search : (clauses : List Clause) (values : List Value) (trail : List Entry) → AreKnown clauses (length values) → All (λ x. x ≡ Unset) values → trail ≡ [] → IsSearch clauses values trail
unset_search clauses values trail known unset none = record {
  sound = record {
    set = λ j e at. absurd (nothing_at trail j e none at);
    placed = λ l p told. absurd (seen_unset l.positive (slice_get values l.number) p (λ v at. value_unset values l.number v unset at) told);
    reasoned = λ j r e at why. absurd (nothing_at trail j e none at);
  };
  known = known;
  closed = λ d e at. absurd (nothing_at trail d e none at);
}
