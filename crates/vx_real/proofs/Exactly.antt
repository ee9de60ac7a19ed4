-- Where the chunks of a location have exactly what is held, so does the sum; and one of them has a positive amount where it is positive.
use Rattle.std.proofs.Common.{◌≡◌, ℕ, suc, Bool, true, false, cond, ◌&&◌, List, [], ◌∷◌, ◌++◌, refl, sym, ◌∙◌, ap, subst, true≢false}
use Rattle.std.proofs.lemmas.Bool.{and_parts}
use Rattle.vx_frac.specs.Fractions.{Fraction, none, sum}
use Rattle.vx_ast.specs.Syntax.{Name, same_name}
use Rattle.vx_meaning.specs.Values.{RefValue}
use Rattle.vx_meaning.specs.States as run
use Rattle.vx_terms.specs.Sorts.{RefSort}
use Rattle.vx_terms.specs.Terms.{Term, same_bool}
use Rattle.vx_terms.specs.Build.{equals, zero_amount}
use Rattle.vx_terms.specs.Interpretations.{Each, Interpretation, as_bool, as_fraction, value, IsTrueIn}
use Rattle.vx_terms.proofs.Same.{bool_is}
use Rattle.vx_terms.proofs.Build.{ite_value}
use Rattle.vx_rules.specs.States as rules
use Rattle.vx_rules.specs.Chunks.{Candidate, is_kin, same_arguments, chosen, candidates, first_argument, field_key, part_at}
use Rattle.vx_elements.proofs.Settled.{Meaning}
use Rattle.vx_elements.proofs.Built.{Good}
use Rattle.vx_elements.proofs.Elements.{element}
use Rattle.vx_elements.proofs.Truth.{is_equal}
use Rattle.vx_elements.proofs.Lists.{name_is, each_out}
use Rattle.vx_amounts.proofs.Amounts.{Le, Positive, le-refl, le-trans, le-is, positive-le, positive-or, not-positive, add-mono, add-below, add-swap, none-sum, sum_assoc}
use Rattle.vx_sound.proofs.World.{at_field, World}
use Rattle.vx_sound.proofs.Stands.{ref_of, location_of, amount_of, own, held, ChunkStands}
use Rattle.vx_sound.proofs.Chunks.{field_resource, location_is}
use Rattle.vx_sound.proofs.Summed.{IsOf, part, parts, part_sign, parts_append}

-- what a chunk is of, by its terms
pub record Key : Type 0 where
  pub is_field : Bool
  pub resource : Name
  pub arguments : List Term

abbrev pub key_of : rules.Chunk → Key
key_of c = record { is_field = c.is_field; resource = c.resource; arguments = c.arguments }

abbrev pub keys : rules.Heap → List Key
keys [] = []
keys (c ∷ cs) = key_of c ∷ keys cs

-- of a field, whose receiver is a reference
pub record IsRealKey (i : Interpretation) (k : Key) : Type 0 where
  pub kind : k.is_field ≡ true
  pub reference : ℕ
  pub receiver : value i (first_argument k.arguments) ≡ element (RefValue reference)

abbrev pub IsReal : Interpretation → rules.Chunk → Type 0
IsReal i c = IsRealKey i (key_of c)

-- of the same field or predicate, by the same terms
abbrev pub same_key : Key → Key → Bool
same_key k l = (same_bool k.is_field l.is_field && same_name k.resource l.resource) && same_arguments k.arguments l.arguments

-- none stands twice
abbrev pub AreApart : List Key → Type 0
AreApart [] = Unit {0}
AreApart (k ∷ ks) = Each (λ (l : Key). same_key l k ≡ false) ks × AreApart ks

-- the chunks have all that is held, and no receiver stands twice in a field
pub record Exact (i : Interpretation) (chunks : rules.Heap) (holdings : run.Holdings) : Type 0 where
  pub each : Each (IsReal i) chunks
  pub all : (l : run.Location) → Le (run.amount holdings (run.At l)) (held i chunks (run.At l))
  pub apart : AreApart (keys chunks)

element_ref : (j k : ℕ) → j ≡ k → element (RefValue j) ≡ element (RefValue k)
element_ref j k e = ap (λ n. element (RefValue n)) e

module _ (means : Meaning) (world : World) (n : ℕ) (i : Interpretation) (heap : run.Heap) (f : Name) (r : Term) (k : ℕ) (g : Good means n i r RefSort) (e : value i r ≡ element (RefValue k)) where
  -- a chunk that is at the location has its amount as its part
  part_above : (c : rules.Chunk) → IsReal i c → IsOf means world n i heap f c → Le (own i c (run.At (at_field k f))) (part means world n i heap f r k g e c)
  part_above c real m = go (run.same_location (at_field k f) (location_of i c)) refl
    where
      Mine : Bool → Type 0
      Mine b = Le (cond b (amount_of i c) none) (part means world n i heap f r k g e c)

      go' : (b : Bool) → run.same_location (at_field k f) (location_of i c) ≡ b → Mine b
      go' false h = part_sign means world n i heap f r k g e c m
      go' true h =
          let at : at_field k f ≡ location_of i c = location_is (at_field k f) (location_of i c) h in
          let ref_is : ref_of (value i (first_argument c.arguments)) ≡ k = sym (ap (λ (l : run.Location). l.receiver) at) in
          let named : ref_of (value i (first_argument c.arguments)) ≡ real.reference = ap ref_of real.receiver in
          let same_value : value i (first_argument c.arguments) ≡ value i r = real.receiver ∙ element_ref real.reference k (sym named ∙ ref_is) ∙ sym e in
          let yes : as_bool (value i (equals (first_argument c.arguments) r)) ≡ true = is_equal i (first_argument c.arguments) r same_value in
          le-is (sym (ap as_fraction (ite_value i (equals (first_argument c.arguments) r) c.amount zero_amount ∙ ap (λ b. cond b (value i c.amount) (value i zero_amount)) yes)))

      go : (b : Bool) → run.same_location (at_field k f) (location_of i c) ≡ b → Le (own i c (run.At (at_field k f))) (part means world n i heap f r k g e c)
      go b h =
          subst (λ x. Le (cond (run.same_resource (run.At (at_field k f)) x) (amount_of i c) none) (part means world n i heap f r k g e c)) (sym (field_resource i c real.kind))
          (subst Mine (sym h) (go' b h))

  -- a chunk of another field has nothing there
  elsewhere : (c : rules.Chunk) → IsReal i c → is_kin (field_key f r) c ≡ false → Le (own i c (run.At (at_field k f))) none
  elsewhere c real not_kin =
      subst (λ x. Le (cond (run.same_resource (run.At (at_field k f)) x) (amount_of i c) none) none) (sym (field_resource i c real.kind)) (go (run.same_location (at_field k f) (location_of i c)) refl)
    where
      kin_is : (a b : Bool) → a ≡ true → (same_bool true a && b) ≡ b
      kin_is true b h = refl
      kin_is false b h = absurd (true≢false (sym h))

      go : (b : Bool) → run.same_location (at_field k f) (location_of i c) ≡ b → Le (cond b (amount_of i c) none) none
      go false h = le-refl none
      go true h =
          let names : same_name f c.resource ≡ true = (and_parts _ _ h).1 in
          absurd (true≢false (sym (kin_is c.is_field (same_name f c.resource) real.kind ∙ names) ∙ not_kin))

  abbrev all_parts : List Candidate → Fraction
  all_parts cs = parts means world n i heap f r k g e cs

  chosen_above : (h : rules.Heap) (m : ℕ) → Each (ChunkStands means world n i heap) h → Each (IsReal i) h →
      Le (held i h (run.At (at_field k f))) (sum (all_parts (chosen true (field_key f r) m h)) (all_parts (chosen false (field_key f r) m h)))
  chosen_above [] m st real = (none-sum none).back
  chosen_above (c ∷ cs) m st real = go (is_kin (field_key f r) c) (same_arguments (r ∷ []) c.arguments) refl (chosen_above cs (suc m) st.1 real.1)
    where
      T : List Candidate
      T = chosen true (field_key f r) (suc m) cs

      F : List Candidate
      F = chosen false (field_key f r) (suc m) cs

      here : Candidate
      here = record { number = m; chunk = c }

      of_it : is_kin (field_key f r) c ≡ true → IsOf means world n i heap f c
      of_it h = let q = and_parts _ _ h in record { stands = st.0; kind = sym (bool_is true c.is_field q.0); resource = sym (name_is f c.resource q.1) }

      go : (b s : Bool) → is_kin (field_key f r) c ≡ b → Le (held i cs (run.At (at_field k f))) (sum (all_parts (chosen true (field_key f r) (suc m) cs)) (all_parts (chosen false (field_key f r) (suc m) cs))) →
          Le (sum (own i c (run.At (at_field k f))) (held i cs (run.At (at_field k f)))) (sum (all_parts (cond (b && same_bool true s) (here ∷ T) T)) (all_parts (cond (b && same_bool false s) (here ∷ F) F)))
      go false s h ih = le-trans (add-below (held i cs (run.At (at_field k f))) (elsewhere c real.0 h)) ih
      go true true h ih = le-trans (add-mono (part_above c real.0 (of_it h)) ih) (sum_assoc (part means world n i heap f r k g e c) (all_parts T) (all_parts F)).back
      go true false h ih = le-trans (add-mono (part_above c real.0 (of_it h)) ih) (add-swap (part means world n i heap f r k g e c) (all_parts T) (all_parts F))

  -- so the sum has all that is held there
  pub parts_above : (h : rules.Heap) → Each (ChunkStands means world n i heap) h → Each (IsReal i) h → Le (held i h (run.At (at_field k f))) (all_parts (candidates (field_key f r) h))
  parts_above h st real = le-trans (chosen_above h 0 st real) (parts_append means world n i heap f r k g e (chosen true (field_key f r) 0 h) (chosen false (field_key f r) 0 h)).back

  -- a candidate that has a positive amount there
  pub record SomeHas (cs : List Candidate) : Type 0 where
    pub candidate : Candidate
    pub front : List Candidate
    pub back : List Candidate
    pub is : cs ≡ front ++ candidate ∷ back
    pub there : IsTrueIn i (equals (first_argument candidate.chunk.arguments) r)
    pub positive : Positive (amount_of i candidate.chunk)

  pub some_has : (cs : List Candidate) → Positive (all_parts cs) → SomeHas cs
  some_has [] h = absurd (not-positive h (le-refl none))
  some_has (c ∷ cs) h = positive-or (part means world n i heap f r k g e c.chunk) (λ q. first q (as_bool (value i (equals (first_argument c.chunk.arguments) r))) refl (ite_value i (equals (first_argument c.chunk.arguments) r) c.chunk.amount zero_amount))
      (λ z. let m = some_has cs (positive-le h (add-below (all_parts cs) z)) in record { candidate = m.candidate; front = c ∷ m.front; back = m.back; is = ap (λ (ds : List Candidate). c ∷ ds) m.is; there = m.there; positive = m.positive })
    where
      first : Positive (part means world n i heap f r k g e c.chunk) → (b : Bool) → as_bool (value i (equals (first_argument c.chunk.arguments) r)) ≡ b →
          value i (part_at r c.chunk) ≡ cond (as_bool (value i (equals (first_argument c.chunk.arguments) r))) (value i c.chunk.amount) (value i zero_amount) → SomeHas (c ∷ cs)
      first q true h v = record { candidate = c; front = []; back = cs; is = refl; there = h; positive = positive-le q (le-is (ap as_fraction (v ∙ ap (λ b. cond b (value i c.chunk.amount) (value i zero_amount)) h))) }
      first q false h v = absurd (not-positive q (le-is (ap as_fraction (v ∙ ap (λ b. cond b (value i c.chunk.amount) (value i zero_amount)) h))))

-- what holds of all candidates holds of it
pub among : (P : Candidate → Type 0) (front : List Candidate) (c : Candidate) (back cs : List Candidate) → cs ≡ front ++ c ∷ back → Each P cs → P c
among P front c back cs is h = (each_out P front c back (subst (Each P) is h)).0
