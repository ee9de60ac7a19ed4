-- What is put where something is held has the value that is there: the facts of the put say so.
use Rattle.std.proofs.Common.{◌≡◌, ◌⊎◌, inl, inr, ℕ, suc, Bool, true, false, not, cond, ◌&&◌, List, [], ◌∷◌, ◌++◌, refl, sym, ◌∙◌, ap, subst}
use Rattle.vx_ast.specs.Syntax.{Name}
use Rattle.vx_meaning.specs.Values.{RefValue}
use Rattle.vx_meaning.specs.States as run
use Rattle.vx_terms.specs.Sorts.{RealSort, RefSort}
use Rattle.vx_terms.specs.Terms.{Term, same_bool}
use Rattle.vx_terms.specs.Build.{and, equals, less, add, ite, zero_amount}
use Rattle.vx_terms.specs.Interpretations.{Each, Interpretation, as_bool, value, IsTrueIn, AllTrue}
use Rattle.vx_terms.proofs.Build.{ite_value}
use Rattle.vx_rules.specs.States as rules
use Rattle.vx_rules.specs.Chunks.{Candidate, is_kin, same_arguments, chosen, candidates, first_argument, field_key, merged, one_value, with_other, apart, field_facts}
use Rattle.vx_rules.specs.Rules.{field_sort}
use Rattle.vx_elements.proofs.Settled.{Meaning}
use Rattle.vx_elements.proofs.Built.{Good, good_equals, good_and, good_ite}
use Rattle.vx_elements.proofs.Elements.{element}
use Rattle.vx_elements.proofs.Truth.{equal_is, is_equal, good_positive, positive_true, true_positive, good_sum, add_is}
use Rattle.vx_elements.proofs.Places.{matching_same}
use Rattle.vx_elements.proofs.Lists.{each_append}
use Rattle.vx_amounts.proofs.Amounts.{Positive, le-trans, positive-le, below-add}
use Rattle.vx_sound.proofs.World.{at_field, World}
use Rattle.vx_sound.proofs.Stands.{IsThere, amount_of, held, content_sort, ChunkStands}
use Rattle.vx_sound.proofs.Puts.{arguments_are}
use Rattle.vx_sound.proofs.Summed.{IsOf as OfField, at_it, chosen_by, candidates_are}
use Rattle.vx_real.proofs.Exactly.{IsReal, parts_above, some_has, among}
use Rattle.vx_real.proofs.SumReads.{implied, both_hold}
use Rattle.vx_real.proofs.PutBounds.{IsOnce}

-- the facts on values, of the other chunks of the field
apart_one : (i : Interpretation) (whole : rules.Chunk) (h : rules.Heap) (n : ℕ) → AllTrue i (apart true true whole h) → Each (λ (d : Candidate). IsTrueIn i (one_value whole d.chunk)) (chosen false whole n h)
apart_one i whole [] n t = tt
apart_one i whole (c ∷ cs) n t = go (is_kin whole c) (same_arguments whole.arguments c.arguments) (λ s. apart_one i whole cs (suc n) s) t
  where
    go : (a b : Bool) → (AllTrue i (apart true true whole cs) → Each (λ (d : Candidate). IsTrueIn i (one_value whole d.chunk)) (chosen false whole (suc n) cs)) →
        AllTrue i (cond (a && not b) (with_other true true whole c ++ apart true true whole cs) (apart true true whole cs)) →
        Each (λ (d : Candidate). IsTrueIn i (one_value whole d.chunk)) (cond (a && same_bool false b) (record { number = n; chunk = c } ∷ chosen false whole (suc n) cs) (chosen false whole (suc n) cs))
    go true false rest t = (t.1.0, rest t.1.1)
    go true true rest t = rest t
    go false b rest t = rest t

-- what holds of each and follows from it
each_from : {A : Type 0} (P Q R : A → Type 0) → ((x : A) → P x → Q x → R x) → (xs : List A) → Each P xs → Each Q xs → Each R xs
each_from P Q R f [] p q = tt
each_from P Q R f (x ∷ xs) p q = (f x p.0 q.0, each_from P Q R f xs p.1 q.1)

module _ (means : Meaning) (world : World) (n : ℕ) (i : Interpretation) (heap : run.Heap) (f : Name) (r : Term) (k : ℕ) (g : Good means n i r RefSort) (e : value i r ≡ element (RefValue k))
    (a v : Term) (inner : Bool) (ga : Good means n i a RealSort) (gv : Good means n i v (field_sort world.program f)) (pos : Positive (amount_of i (record (field_key f r) { amount = a; value = v; inner = inner }))) where
  abbrev new : rules.Chunk
  new = record (field_key f r) { amount = a; value = v; inner = inner }

  -- the value of another chunk that is there
  abbrev Alike : Candidate → Type 0
  Alike d = IsTrueIn i (equals (first_argument d.chunk.arguments) r) → Positive (amount_of i d.chunk) → value i v ≡ value i d.chunk.value

  content : (d : rules.Chunk) → OfField means world n i heap f d → Good means n i d.value (field_sort world.program f)
  content d of = subst (λ x. Good means n i d.value (field_sort world.program x)) of.resource (subst (λ b. Good means n i d.value (content_sort world.program b d.resource)) of.kind of.stands.content)

  -- by the fact on one value, of a chunk with this receiver and a positive amount
  by_one : (whole : rules.Chunk) → first_argument whole.arguments ≡ r → Good means n i whole.amount RealSort → Positive (amount_of i whole) → Good means n i whole.value (field_sort world.program f) → value i whole.value ≡ value i v →
      (d : Candidate) → OfField means world n i heap f d.chunk → IsTrueIn i (one_value whole d.chunk) → Alike d
  by_one whole at gw positive gx same d of fact here held_it =
      let gr : Good means n i (first_argument whole.arguments) RefSort = subst (λ t. Good means n i t RefSort) (sym at) g in
      let gd = (of.stands.field of.kind).receiver in
      let ge = good_equals means gr gd in
      let told : IsTrueIn i (equals (first_argument whole.arguments) (first_argument d.chunk.arguments)) =
      is_equal i (first_argument whole.arguments) (first_argument d.chunk.arguments) (ap (value i) at ∙ sym (equal_is i (first_argument d.chunk.arguments) r here)) in
      let gp = good_positive means gw in
      let gq = good_positive means of.stands.amount in
      let both = both_hold i (equals (first_argument whole.arguments) (first_argument d.chunk.arguments)) (less zero_amount whole.amount) ge gp told (positive_true means gw positive) in
      let all = both_hold i (and (equals (first_argument whole.arguments) (first_argument d.chunk.arguments)) (less zero_amount whole.amount)) (less zero_amount d.chunk.amount) (good_and means ge gp) gq both (positive_true means of.stands.amount held_it) in
      sym same ∙ equal_is i whole.value d.chunk.value (implied i (and (and (equals (first_argument whole.arguments) (first_argument d.chunk.arguments)) (less zero_amount whole.amount)) (less zero_amount d.chunk.amount)) (equals whole.value d.chunk.value)
      (good_and means (good_and means ge gp) gq) (good_equals means gx (content d.chunk of)) fact all)

  module _ (h : rules.Heap) (st : Each (ChunkStands means world n i heap) h) (real : Each (IsReal i) h) where
    of_all : Each (λ (d : Candidate). OfField means world n i heap f d.chunk) (candidates (field_key f r) h)
    of_all = candidates_are means world n i heap f r k g e h st

    halves : (xs ys : List Candidate) (P : Candidate → Type 0) → Each P (xs ++ ys) → Each P xs × Each P ys
    halves [] ys P p = (tt, p)
    halves (x ∷ xs) ys P p = let q = halves xs ys P p.1 in ((p.0, q.0), q.1)

    of_same : Each (λ (d : Candidate). OfField means world n i heap f d.chunk) (chosen true (field_key f r) 0 h)
    of_same = (halves (chosen true (field_key f r) 0 h) (chosen false (field_key f r) 0 h) (λ (d : Candidate). OfField means world n i heap f d.chunk) of_all).0

    of_others : Each (λ (d : Candidate). OfField means world n i heap f d.chunk) (chosen false (field_key f r) 0 h)
    of_others = (halves (chosen true (field_key f r) 0 h) (chosen false (field_key f r) 0 h) (λ (d : Candidate). OfField means world n i heap f d.chunk) of_all).1

    others : (whole : rules.Chunk) → whole.is_field ≡ true → whole.resource ≡ f → whole.arguments ≡ r ∷ [] → Good means n i whole.amount RealSort → Positive (amount_of i whole) → Good means n i whole.value (field_sort world.program f) → value i whole.value ≡ value i v →
        AllTrue i (apart true true whole h) → Each Alike (chosen false (field_key f r) 0 h)
    others whole kind name args gw positive gx same facts =
        each_from (λ (d : Candidate). OfField means world n i heap f d.chunk) (λ (d : Candidate). IsTrueIn i (one_value whole d.chunk)) Alike
        (λ d of fact. by_one whole (ap first_argument args) gw positive gx same d of fact) (chosen false (field_key f r) 0 h) of_others
        (subst (Each (λ (d : Candidate). IsTrueIn i (one_value whole d.chunk))) (chosen_by false whole (field_key f r) 0 h kind name args) (apart_one i whole h 0 facts))

    -- of all candidates, by how many have the receiver's term
    alike : (cs : List Candidate) → chosen true (field_key f r) 0 h ≡ cs → (cs ≡ []) ⊎ ((c : Candidate) × (cs ≡ c ∷ [])) → AllTrue i (field_facts true true cs new h) → Each Alike (chosen true (field_key f r) 0 h) × Each Alike (chosen false (field_key f r) 0 h)
    alike [] is once facts = (subst (Each Alike) (sym is) tt, others new refl refl refl ga pos gv refl facts.1.1)
    alike (c ∷ []) is once facts = (subst (Each Alike) (sym is) (by_agree, tt), others (merged new c.chunk) of.kind of.resource same_args gw whole_positive gx whole_value facts.1.1.1.1)
      where
        of : OfField means world n i heap f c.chunk
        of = (subst (Each (λ (d : Candidate). OfField means world n i heap f d.chunk)) is of_same).0

        same_args : c.chunk.arguments ≡ r ∷ []
        same_args = sym (arguments_are (r ∷ []) c.chunk.arguments (subst (Each (λ (d : Candidate). same_arguments (r ∷ []) d.chunk.arguments ≡ true)) is (matching_same (field_key f r) h 0)).0)

        gc : Good means n i c.chunk.value (field_sort world.program f)
        gc = content c.chunk of

        gw : Good means n i (add c.chunk.amount a) RealSort
        gw = good_sum means of.stands.amount ga

        gx : Good means n i (ite (less zero_amount c.chunk.amount) c.chunk.value v) (field_sort world.program f)
        gx = good_ite means (good_positive means of.stands.amount) gc gv

        whole_positive : Positive (amount_of i (merged new c.chunk))
        whole_positive = positive-le pos (le-trans (below-add (amount_of i new) of.stands.sign) (add_is means of.stands.amount ga).back)

        agreed : Positive (amount_of i c.chunk) → value i c.chunk.value ≡ value i v
        agreed held_it =
            let gp = good_positive means of.stands.amount in
            let gq = good_positive means ga in
            equal_is i c.chunk.value v (implied i (and (less zero_amount c.chunk.amount) (less zero_amount a)) (equals c.chunk.value v) (good_and means gp gq) (good_equals means gc gv) facts.1.1.0
            (both_hold i (less zero_amount c.chunk.amount) (less zero_amount a) gp gq (positive_true means of.stands.amount held_it) (positive_true means ga pos)))

        by_agree : Alike c
        by_agree here held_it = sym (agreed held_it)

        whole_value : value i (ite (less zero_amount c.chunk.amount) c.chunk.value v) ≡ value i v
        whole_value = ite_value i (less zero_amount c.chunk.amount) c.chunk.value v ∙ go (as_bool (value i (less zero_amount c.chunk.amount))) refl
          where
            go : (b : Bool) → as_bool (value i (less zero_amount c.chunk.amount)) ≡ b → cond b (value i c.chunk.value) (value i v) ≡ value i v
            go true q = agreed (true_positive means of.stands.amount q)
            go false q = refl
    alike (c ∷ d ∷ ds) is (inl z) facts = absurd (never z)
      where
        never : c ∷ d ∷ ds ≡ [] → ⊥
        never z = cc
    alike (c ∷ d ∷ ds) is (inr (x, z)) facts = absurd (never z)
      where
        never : c ∷ d ∷ ds ≡ x ∷ [] → ⊥
        never z = cc

    pub put_value : IsOnce new h → AllTrue i (field_facts true true (chosen true (field_key f r) 0 h) new h) → Positive (held i h (run.At (at_field k f))) → value i v ≡ element (run.value_at world.program heap (at_field k f))
    put_value once facts held_it =
        let cs = candidates (field_key f r) h in
        let two = alike (chosen true (field_key f r) 0 h) refl (subst (λ (xs : List Candidate). (xs ≡ []) ⊎ ((c : Candidate) × (xs ≡ c ∷ []))) (chosen_by true new (field_key f r) 0 h refl refl refl) once) facts in
        let some = some_has means world n i heap f r k g e cs (positive-le held_it (parts_above means world n i heap f r k g e h st real)) in
        let one = among Alike some.front some.candidate some.back cs some.is (each_append Alike (chosen true (field_key f r) 0 h) (chosen false (field_key f r) 0 h) two.0 two.1) some.there some.positive in
        let of = among (λ (d : Candidate). OfField means world n i heap f d.chunk) some.front some.candidate some.back cs some.is of_all in
        one ∙ subst (λ x. IsThere world.program heap x (value i some.candidate.chunk.value)) (at_it means world n i heap f r k g e some.candidate.chunk of some.there) (of.stands.content_is some.positive)
