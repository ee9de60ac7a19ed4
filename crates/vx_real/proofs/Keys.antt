-- What chunks are of stays as they are changed, taken out and added; so each receiver is a reference, and stands once.
use Rattle.std.proofs.Common.{◌≡◌, ◌⊎◌, inl, inr, ℕ, suc, Bool, true, false, cond, ◌&&◌, List, [], ◌∷◌, ◌++◌, slice_set, refl, sym, ◌∙◌, ap, subst, true≢false}
use Rattle.std.proofs.lemmas.Bool.{and_from, and_parts}
use Rattle.vx_ast.specs.Syntax.{same_name}
use Rattle.vx_terms.specs.Terms.{Term, same, same_bool}
use Rattle.vx_terms.specs.Build.{subtract, zero_amount}
use Rattle.vx_terms.specs.Interpretations.{Each, Interpretation}
use Rattle.vx_terms.proofs.Same.{bool_is}
use Rattle.vx_rules.specs.States as rules
use Rattle.vx_rules.specs.Chunks.{Candidate, same_arguments, chosen, without, reduced, without_empty}
use Rattle.vx_elements.proofs.Lists.{name_is, each_out, each_append, each_map}
use Rattle.vx_elements.proofs.Places.{IsPlace}
use Rattle.vx_sound.proofs.Puts.{arguments_are}
use Rattle.vx_real.proofs.Exactly.{Key, key_of, keys, IsRealKey, IsReal, same_key, AreApart}
use Rattle.vx_real.proofs.PutBounds.{IsOnce}

pub same_key_is : (k l : Key) → same_key k l ≡ true → k ≡ l
same_key_is k l e =
    let q = and_parts (same_bool k.is_field l.is_field && same_name k.resource l.resource) (same_arguments k.arguments l.arguments) e in
    let m = and_parts (same_bool k.is_field l.is_field) (same_name k.resource l.resource) q.0 in
    let kind = bool_is k.is_field l.is_field m.0 in
    let name = name_is k.resource l.resource m.1 in
    let arguments = arguments_are k.arguments l.arguments q.1 in
    λ j. record { is_field = kind j; resource = name j; arguments = arguments j }

-- a chunk in the place of another
pub keys_swap : (front : rules.Heap) (c x : rules.Chunk) (back : rules.Heap) → key_of x ≡ key_of c → keys (front ++ x ∷ back) ≡ keys (front ++ c ∷ back)
keys_swap [] c x back e = ap (λ k. k ∷ keys back) e
keys_swap (d ∷ front) c x back e = ap (λ ks. key_of d ∷ ks) (keys_swap front c x back e)

pub keys_append : (xs ys : rules.Heap) → keys (xs ++ ys) ≡ keys xs ++ keys ys
keys_append [] ys = refl
keys_append (x ∷ xs) ys = ap (λ ks. key_of x ∷ ks) (keys_append xs ys)

pub keys_set : {key : rules.Chunk} {h : rules.Heap} {c : Candidate} (pl : IsPlace key h c) (x : rules.Chunk) → key_of x ≡ key_of c.chunk → keys (slice_set h c.number x) ≡ keys h
keys_set {c = c} pl x e = ap keys (pl.set_is x) ∙ keys_swap pl.front c.chunk x pl.back e ∙ ap keys (sym pl.is)

-- References

pub real_keys : (i : Interpretation) (h : rules.Heap) → Each (IsReal i) h → Each (IsRealKey i) (keys h)
real_keys i [] r = tt
real_keys i (c ∷ cs) r = (r.0, real_keys i cs r.1)

pub keys_real : (i : Interpretation) (h : rules.Heap) → Each (IsRealKey i) (keys h) → Each (IsReal i) h
keys_real i [] r = tt
keys_real i (c ∷ cs) r = (r.0, keys_real i cs r.1)

pub real_by_keys : (i : Interpretation) (g h : rules.Heap) → keys g ≡ keys h → Each (IsReal i) g → Each (IsReal i) h
real_by_keys i g h e r = keys_real i h (subst (Each (IsRealKey i)) e (real_keys i g r))

-- None stands twice

apart_out : (xs : List Key) (k : Key) (ys : List Key) → AreApart (xs ++ k ∷ ys) → AreApart (xs ++ ys)
apart_out [] k ys a = a.1
apart_out (x ∷ xs) k ys a = ((each_out (λ (l : Key). same_key l x ≡ false) xs k ys a.0).1, apart_out xs k ys a.1)

pub apart_end : (ks : List Key) (k : Key) → AreApart ks → Each (λ (l : Key). same_key k l ≡ false) ks → AreApart (ks ++ k ∷ [])
apart_end [] k a e = (tt, tt)
apart_end (l ∷ ks) k a e = (each_append (λ (m : Key). same_key m l ≡ false) ks (k ∷ []) a.0 (e.0, tt), apart_end ks k a.1 e.1)

-- without a chunk
pub apart_without : {key : rules.Chunk} {h : rules.Heap} {c : Candidate} (pl : IsPlace key h c) → AreApart (keys h) → AreApart (keys (without c.number h))
apart_without {h = h} {c = c} pl a =
    subst (λ x. AreApart (keys x)) (sym pl.without_is) (subst AreApart (sym (keys_append pl.front pl.back))
    (apart_out (keys pl.front) (key_of c.chunk) (keys pl.back) (subst AreApart (ap keys pl.is ∙ keys_append pl.front (c.chunk ∷ pl.back)) a)))

pub real_without : {key : rules.Chunk} {h : rules.Heap} {c : Candidate} (i : Interpretation) (pl : IsPlace key h c) → Each (IsReal i) h → Each (IsReal i) (without c.number h)
real_without {c = c} i pl r = subst (Each (IsReal i)) (sym pl.without_is) (each_out (IsReal i) pl.front c.chunk pl.back (subst (Each (IsReal i)) pl.is r)).1

-- without the chunks that are empty
each_full : (P : Key → Type 0) (h : rules.Heap) → Each P (keys h) → Each P (keys (without_empty h))
each_full P [] e = tt
each_full P (c ∷ cs) e = go (same c.amount zero_amount) (each_full P cs e.1)
  where
    go : (b : Bool) → Each P (keys (without_empty cs)) → Each P (keys (cond b (without_empty cs) (c ∷ without_empty cs)))
    go true r = r
    go false r = (e.0, r)

pub real_full : (i : Interpretation) (h : rules.Heap) → Each (IsReal i) h → Each (IsReal i) (without_empty h)
real_full i h r = keys_real i (without_empty h) (each_full (IsRealKey i) h (real_keys i h r))

pub apart_full : (h : rules.Heap) → AreApart (keys h) → AreApart (keys (without_empty h))
apart_full [] a = tt
apart_full (c ∷ cs) a = go (same c.amount zero_amount) (apart_full cs a.1)
  where
    go : (b : Bool) → AreApart (keys (without_empty cs)) → AreApart (keys (cond b (without_empty cs) (c ∷ without_empty cs)))
    go true r = r
    go false r = (each_full (λ (l : Key). same_key l (key_of c) ≡ false) cs a.0, r)

-- what is left of a chunk
pub real_reduced : {key : rules.Chunk} {h : rules.Heap} {c : Candidate} (i : Interpretation) (pl : IsPlace key h c) (a : Term) → Each (IsReal i) h → Each (IsReal i) (reduced c a h)
real_reduced {h = h} {c = c} i pl a r = go (same (subtract c.chunk.amount a) zero_amount)
  where
    rest : rules.Chunk
    rest = record c.chunk { amount = subtract c.chunk.amount a }

    go : (b : Bool) → Each (IsReal i) (cond b (without c.number h) (slice_set h c.number (record c.chunk { amount = subtract c.chunk.amount a })))
    go true = real_without i pl r
    go false = real_by_keys i h (slice_set h c.number (record c.chunk { amount = subtract c.chunk.amount a })) (sym (keys_set pl rest refl)) r

pub apart_reduced : {key : rules.Chunk} {h : rules.Heap} {c : Candidate} (pl : IsPlace key h c) (a : Term) → AreApart (keys h) → AreApart (keys (reduced c a h))
apart_reduced {h = h} {c = c} pl a r = go (same (subtract c.chunk.amount a) zero_amount)
  where
    rest : rules.Chunk
    rest = record c.chunk { amount = subtract c.chunk.amount a }

    go : (b : Bool) → AreApart (keys (cond b (without c.number h) (slice_set h c.number (record c.chunk { amount = subtract c.chunk.amount a }))))
    go true = apart_without pl r
    go false = subst AreApart (sym (keys_set pl rest refl)) r

-- So at most one chunk has the key of another.

differs : (key : rules.Chunk) (h : rules.Heap) (n : ℕ) → Each (λ (l : Key). same_key (key_of key) l ≡ false) (keys h) → chosen true key n h ≡ []
differs key [] n e = refl
differs key (c ∷ cs) n e = go (same_bool key.is_field c.is_field && same_name key.resource c.resource) (same_arguments key.arguments c.arguments) e.0 (differs key cs (suc n) e.1)
  where
    go : (a b : Bool) → (a && b) ≡ false → chosen true key (suc n) cs ≡ [] → cond (a && same_bool true b) (record { number = n; chunk = c } ∷ chosen true key (suc n) cs) (chosen true key (suc n) cs) ≡ []
    go true true q r = absurd (true≢false q)
    go true false q r = r
    go false b q r = r

abbrev AtMostOne : List Candidate → Type 0
AtMostOne cs = (cs ≡ []) ⊎ ((c : Candidate) × (cs ≡ c ∷ []))

-- what has the key of one has that of no other
other_key : (k c l : Key) → same_key k c ≡ true → same_key l c ≡ false → same_key k l ≡ false
other_key k c l e d = go (same_key k l) refl
  where
    go : (b : Bool) → same_key k l ≡ b → b ≡ false
    go false q = refl
    go true q = absurd (true≢false (sym (subst (λ x. same_key x c ≡ true) (same_key_is k l q) e) ∙ d))

once_from : (key : rules.Chunk) (h : rules.Heap) (n : ℕ) → AreApart (keys h) → AtMostOne (chosen true key n h)
once_from key [] n a = inl refl
once_from key (c ∷ cs) n a = go (same_bool key.is_field c.is_field && same_name key.resource c.resource) (same_arguments key.arguments c.arguments) refl refl (once_from key cs (suc n) a.1)
  where
    at : Candidate
    at = record { number = n; chunk = c }

    go : (x y : Bool) → (same_bool key.is_field c.is_field && same_name key.resource c.resource) ≡ x → same_arguments key.arguments c.arguments ≡ y → AtMostOne (chosen true key (suc n) cs) →
        AtMostOne (cond (x && same_bool true y) (record { number = n; chunk = c } ∷ chosen true key (suc n) cs) (chosen true key (suc n) cs))
    go false y p q rest = rest
    go true false p q rest = rest
    go true true p q rest = inr (at, ap (λ ds. at ∷ ds) (differs key cs (suc n) (each_map (λ (l : Key). same_key l (key_of c) ≡ false) (λ (l : Key). same_key (key_of key) l ≡ false) (λ l d. other_key (key_of key) (key_of c) l (and_from _ _ p q) d) (keys cs) a.0)))

pub once : (key : rules.Chunk) (h : rules.Heap) → AreApart (keys h) → IsOnce key h
once key h a = once_from key h 0 a

-- where none has it
pub none_has : (key : rules.Chunk) (h : rules.Heap) (n : ℕ) → chosen true key n h ≡ [] → Each (λ (l : Key). same_key (key_of key) l ≡ false) (keys h)
none_has key [] n e = tt
none_has key (c ∷ cs) n e = go (same_bool key.is_field c.is_field && same_name key.resource c.resource) (same_arguments key.arguments c.arguments) e (λ z. none_has key cs (suc n) z)
  where
    some : {d : Candidate} {ds : List Candidate} → d ∷ ds ≡ [] → ⊥
    some e = cc

    go : (x y : Bool) → cond (x && same_bool true y) (record { number = n; chunk = c } ∷ chosen true key (suc n) cs) (chosen true key (suc n) cs) ≡ [] → (chosen true key (suc n) cs ≡ [] → Each (λ (l : Key). same_key (key_of key) l ≡ false) (keys cs)) →
        ((x && y) ≡ false) × Each (λ (l : Key). same_key (key_of key) l ≡ false) (keys cs)
    go true true e rest = absurd (some e)
    go true false e rest = (refl, rest e)
    go false y e rest = (refl, rest e)
