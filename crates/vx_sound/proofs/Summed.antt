-- What a sum over the chunks of a field is worth: no more than what the chunks have at the location.
use Rattle.std.proofs.Common.{◌≡◌, ℕ, suc, Bool, true, false, cond, ◌&&◌, List, [], ◌∷◌, ◌++◌, refl, sym, ◌∙◌, ap, ap₂, subst}
use Rattle.std.proofs.lemmas.Bool.{and_parts}
use Rattle.vx_frac.specs.Fractions.{Fraction, none, sum}
use Rattle.vx_ast.specs.Syntax.{Name, same_name, Program}
use Rattle.vx_meaning.specs.Values.{RefValue}
use Rattle.vx_meaning.specs.States as run
use Rattle.vx_terms.specs.Sorts.{RealSort, RefSort}
use Rattle.vx_terms.specs.Terms.{Term, same_bool}
use Rattle.vx_terms.specs.Build.{equals, add, zero_amount}
use Rattle.vx_terms.specs.Interpretations.{Each, Interpretation, as_bool, as_fraction, value}
use Rattle.vx_terms.proofs.Same.{bool_is}
use Rattle.vx_terms.proofs.Build.{ite_value}
use Rattle.vx_rules.specs.States as rules
use Rattle.vx_rules.specs.Chunks.{Candidate, is_kin, same_arguments, chosen, candidates, first_argument, field_key, part_at, sum_onto, sum_at}
use Rattle.vx_elements.proofs.Settled.{Meaning}
use Rattle.vx_elements.proofs.Built.{Good, good_equals, good_ite}
use Rattle.vx_elements.proofs.Elements.{element}
use Rattle.vx_elements.proofs.Truth.{equal_is, good_zero, add_is, good_sum}
use Rattle.vx_elements.proofs.Places.{IsPlace, candidates_places}
use Rattle.vx_elements.proofs.Lists.{name_is, each_out}
use Rattle.vx_amounts.proofs.Amounts.{Le, Same, le-refl, le-trans, le-is, same-refl, same-trans, same-sym, sum_same, add-mono, add-swap, below-add, none-none, none-sum, sum_comm, sum_assoc}
use Rattle.vx_sound.proofs.World.{at_field, World}
use Rattle.vx_sound.proofs.Stands.{ref_of, resource_of, amount_of, own, held, ChunkStands}
use Rattle.vx_sound.proofs.Chunks.{field_resource, own_itself, own_sign}

-- only a key's kind, name and arguments are looked at
pub chosen_by : (identical : Bool) (a b : rules.Chunk) (n : ℕ) (h : rules.Heap) → a.is_field ≡ b.is_field → a.resource ≡ b.resource → a.arguments ≡ b.arguments → chosen identical a n h ≡ chosen identical b n h
chosen_by identical a b n [] k x ts = refl
chosen_by identical a b n (c ∷ cs) k x ts =
    ap₂ (λ (q : Bool) (rest : List Candidate). cond q (record { number = n; chunk = c } ∷ rest) rest)
    (ap₂ (λ (q r : Bool). q && same_bool identical r) (ap₂ (λ (q : Bool) (y : Name). same_bool q c.is_field && same_name y c.resource) k x) (ap (λ (us : List Term). same_arguments us c.arguments) ts))
    (chosen_by identical a b (suc n) cs k x ts)

pub candidates_by : (a b : rules.Chunk) (h : rules.Heap) → a.is_field ≡ b.is_field → a.resource ≡ b.resource → a.arguments ≡ b.arguments → candidates a h ≡ candidates b h
candidates_by a b h k x ts = ap₂ (λ (xs ys : List Candidate). xs ++ ys) (chosen_by true a b 0 h k x ts) (chosen_by false a b 0 h k x ts)

module _ (means : Meaning) (world : World) where
  abbrev p : Program
  p = world.program

  -- a chunk of the field
  pub record IsOf (n : ℕ) (i : Interpretation) (heap : run.Heap) (f : Name) (c : rules.Chunk) : Type 0 where
    pub stands : ChunkStands means world n i heap c
    pub kind : c.is_field ≡ true
    pub resource : c.resource ≡ f

  module _ (n : ℕ) (i : Interpretation) (heap : run.Heap) (f : Name) (r : Term) (k : ℕ) (g : Good means n i r RefSort) (e : value i r ≡ element (RefValue k)) where
    abbrev there : run.Resource
    there = run.At (at_field k f)

    abbrev pub part : rules.Chunk → Fraction
    part c = as_fraction (value i (part_at r c))

    -- what the parts of these are worth together
    abbrev pub parts : List Candidate → Fraction
    parts [] = none
    parts (c ∷ cs) = sum (part c.chunk) (parts cs)

    pub part_good : (c : rules.Chunk) → IsOf n i heap f c → Good means n i (part_at r c) RealSort
    part_good c m = good_ite means (good_equals means (m.stands.field m.kind).receiver g) m.stands.amount (good_zero means)

    -- a chunk's resource, where its receiver is equal
    pub at_it : (c : rules.Chunk) → IsOf n i heap f c → as_bool (value i (equals (first_argument c.arguments) r)) ≡ true → resource_of i c ≡ run.At (at_field k f)
    at_it c m h =
        field_resource i c m.kind
        ∙ ap₂ (λ (x : ℕ) (y : Name). run.At (at_field x y)) (ap ref_of (equal_is i (first_argument c.arguments) r h ∙ e)) m.resource

    pub part_below : (c : rules.Chunk) → IsOf n i heap f c → Le (part c) (own i c (run.At (at_field k f)))
    part_below c m = go (as_bool (value i (equals (first_argument c.arguments) r))) refl (ite_value i (equals (first_argument c.arguments) r) c.amount zero_amount)
      where
        go : (b : Bool) → as_bool (value i (equals (first_argument c.arguments) r)) ≡ b → value i (part_at r c) ≡ cond (as_bool (value i (equals (first_argument c.arguments) r))) (value i c.amount) (value i zero_amount) →
            Le (part c) (own i c (run.At (at_field k f)))
        go true h v =
            le-trans (le-is (ap as_fraction (v ∙ ap (λ b. cond b (value i c.amount) (value i zero_amount)) h)))
            (le-is (sym (subst (λ (x : run.Resource). own i c x ≡ amount_of i c) (at_it c m h) (own_itself i c))))
        go false h v =
            le-trans (le-is (ap as_fraction (v ∙ ap (λ b. cond b (value i c.amount) (value i zero_amount)) h))) (own_sign i c (run.At (at_field k f)) m.stands.sign)

    pub part_sign : (c : rules.Chunk) → IsOf n i heap f c → Le none (part c)
    part_sign c m = go (as_bool (value i (equals (first_argument c.arguments) r))) (ite_value i (equals (first_argument c.arguments) r) c.amount zero_amount)
      where
        go : (b : Bool) → value i (part_at r c) ≡ cond b (value i c.amount) (value i zero_amount) → Le none (part c)
        go true v = le-trans m.stands.sign (le-is (sym (ap as_fraction v)))
        go false v = le-is (sym (ap as_fraction v))

    pub parts_sign : (cs : List Candidate) → Each (λ (c : Candidate). IsOf n i heap f c.chunk) cs → Le none (parts cs)
    parts_sign [] h = le-refl none
    parts_sign (c ∷ cs) h = none-none (part_sign c.chunk h.0) (parts_sign cs h.1)

    -- the sum as a term
    pub record SumIs (t : Term) (q : Fraction) : Type 0 where
      pub good : Good means n i t RealSort
      pub is : Same (as_fraction (value i t)) q

    sum_onto_is : (t : Term) (cs : List Candidate) → Good means n i t RealSort → Each (λ (c : Candidate). IsOf n i heap f c.chunk) cs → SumIs (sum_onto t r cs) (sum (as_fraction (value i t)) (parts cs))
    sum_onto_is t [] gt h = record { good = gt; is = same-sym (same-trans (sum_comm' (as_fraction (value i t))) (none-sum (as_fraction (value i t)))) }
      where
        sum_comm' : (a : Fraction) → Same (sum a none) (sum none a)
        sum_comm' a = sum_comm a none
    sum_onto_is t (c ∷ cs) gt h =
        let gp = part_good c.chunk h.0 in
        let r = sum_onto_is (add t (part_at r c.chunk)) cs (good_sum means gt gp) h.1 in
        record {
          good = r.good;
          is = same-trans r.is (same-trans (sum_same (add_is means gt gp) (same-refl (parts cs))) (sum_assoc (as_fraction (value i t)) (part c.chunk) (parts cs)));
        }

    pub sum_is : (cs : List Candidate) → Each (λ (c : Candidate). IsOf n i heap f c.chunk) cs → SumIs (sum_at r cs) (parts cs)
    sum_is cs h = let m = sum_onto_is zero_amount cs (good_zero means) h in record { good = m.good; is = same-trans m.is (none-sum (parts cs)) }

    pub parts_append : (xs ys : List Candidate) → Same (parts (xs ++ ys)) (sum (parts xs) (parts ys))
    parts_append [] ys = same-sym (none-sum (parts ys))
    parts_append (x ∷ xs) ys = same-trans (sum_same (same-refl (part x.chunk)) (parts_append xs ys)) (same-sym (sum_assoc (part x.chunk) (parts xs) (parts ys)))

    -- each chunk is chosen at most once
    chosen_below : (h : rules.Heap) (m : ℕ) → Each (ChunkStands means world n i heap) h →
        Le (sum (parts (chosen true (field_key f r) m h)) (parts (chosen false (field_key f r) m h))) (held i h (run.At (at_field k f)))
    chosen_below [] m st = (none-sum none).there
    chosen_below (c ∷ cs) m st = go (is_kin (field_key f r) c) (same_arguments (r ∷ []) c.arguments) refl (chosen_below cs (suc m) st.1)
      where
        key : rules.Chunk
        key = field_key f r

        T : List Candidate
        T = chosen true (field_key f r) (suc m) cs

        F : List Candidate
        F = chosen false (field_key f r) (suc m) cs

        here : Candidate
        here = record { number = m; chunk = c }

        of_it : is_kin (field_key f r) c ≡ true → IsOf n i heap f c
        of_it h = let q = and_parts _ _ h in record { stands = st.0; kind = sym (bool_is true c.is_field q.0); resource = sym (name_is f c.resource q.1) }

        skip : Le (sum (parts (chosen true (field_key f r) (suc m) cs)) (parts (chosen false (field_key f r) (suc m) cs))) (held i cs (run.At (at_field k f))) →
            Le (sum (parts (chosen true (field_key f r) (suc m) cs)) (parts (chosen false (field_key f r) (suc m) cs))) (sum (own i c (run.At (at_field k f))) (held i cs (run.At (at_field k f))))
        skip ih = le-trans ih (below-add (held i cs (run.At (at_field k f))) (own_sign i c (run.At (at_field k f)) st.0.sign))

        go : (b s : Bool) → is_kin (field_key f r) c ≡ b → Le (sum (parts (chosen true (field_key f r) (suc m) cs)) (parts (chosen false (field_key f r) (suc m) cs))) (held i cs (run.At (at_field k f))) →
            Le (sum (parts (cond (b && same_bool true s) (here ∷ T) T)) (parts (cond (b && same_bool false s) (here ∷ F) F))) (sum (own i c (run.At (at_field k f))) (held i cs (run.At (at_field k f))))
        go false s h ih = skip ih
        go true true h ih = le-trans (sum_assoc (part c) (parts T) (parts F)).there (add-mono (part_below c (of_it h)) ih)
        go true false h ih = le-trans (add-swap (parts T) (part c) (parts F)) (add-mono (part_below c (of_it h)) ih)

    pub candidates_are : (h : rules.Heap) → Each (ChunkStands means world n i heap) h → Each (λ (c : Candidate). IsOf n i heap f c.chunk) (candidates (field_key f r) h)
    candidates_are h st = all (candidates (field_key f r) h) (candidates_places (field_key f r) h)
      where
        all : (cs : List Candidate) → Each (IsPlace (field_key f r) h) cs → Each (λ (c : Candidate). IsOf n i heap f c.chunk) cs
        all [] pl = tt
        all (c ∷ cs) pl = (record { stands = (each_out (ChunkStands means world n i heap) pl.0.front c.chunk pl.0.back (subst (Each (ChunkStands means world n i heap)) pl.0.is st)).0; kind = pl.0.kind; resource = pl.0.resource }, all cs pl.1)

    pub parts_below : (h : rules.Heap) → Each (ChunkStands means world n i heap) h → Le (parts (candidates (field_key f r) h)) (held i h (run.At (at_field k f)))
    parts_below h st = le-trans (parts_append (chosen true (field_key f r) 0 h) (chosen false (field_key f r) 0 h)).there (chosen_below h 0 st)
