-- What is known of the terms that don't wait, as terms are looked at and classes are made one.
use Rattle.std.proofs.Common.{◌≡◌, ℕ, zero, suc, ◌<◌, inl, inr, Bool, true, false, not, nat_eq, cond, ◌&&◌, ◌||◌, List, [], ◌∷◌, ◌++◌, length, slice_get, Some, refl, sym, ◌∙◌, ap, ap₂, subst, arith, add-one, eq-eqb, ne_eqb}
use Rattle.std.specs.List.{list_any}
use Rattle.std.proofs.lemmas.Bool.{cases_eq, and_parts, not-true, or_parts}
use Rattle.std.proofs.lemmas.List.{length-append}
use Rattle.std.proofs.lemmas.List.Folds.{list_any-append}
use Rattle.std.proofs.lemmas.Option.{same_Some}
use Rattle.cs_index.specs.Under.{under, with_number}
use Rattle.cs_cong.specs.declared.congruent.Applied.{Applied}
use Rattle.cs_cong.specs.declared.merges.Merge.{Merge}
use Rattle.cs_cong.specs.declared.merges.Reason.{Reason}
use Rattle.cs_cong.specs.declared.queue.Queue.{Queue}
use Rattle.cs_cong.specs.declared.waiting.Waiting.{Waiting}
use Rattle.cs_cong.specs.Merged.{representative, current, with_merge}
use Rattle.cs_cong.specs.Joined.{all_same, alike, are_congruent, IsClosed}
use Rattle.cs_cong.specs.Rows.{row}
use Rattle.cs_cong.specs.Signatures.{has, key_at}
use Rattle.cs_cong.specs.Used.{touches, IsUsed}
use Rattle.cs_cong.specs.Waits.{waits, IsDone}
use Rattle.cs_cong.specs.Settled.{is_partner, has_partner, IsSettled, IsSpread}
use Rattle.cs_cong.proofs.Grown.{flipped, congruent_within}
use Rattle.cs_cong.proofs.Signatures.{same_key, alike_on}
use Rattle.cs_cong.proofs.Used.{any_weaker, same_touches, still_one, alike_kept, key_kept, used_moved}
use Rattle.cs_cong.proofs.Stages.{last_one}

-- ---- a term that is looked at
-- congruent terms have one key
congruent_key : (terms : List Applied) (f : ℕ → ℕ) (a b : ℕ) → are_congruent terms f a b ≡ true → key_at terms f a ≡ key_at terms f b
congruent_key terms f a b e = same_key f (slice_get terms a) (slice_get terms b) e

turned : (terms : List Applied) (f : ℕ → ℕ) (a b : ℕ) → are_congruent terms f a b ≡ true → are_congruent terms f b a ≡ true
turned terms f a b e = flipped f (slice_get terms a) (slice_get terms b) e

linked : (terms : List Applied) (f : ℕ → ℕ) (a b c : ℕ) → are_congruent terms f a b ≡ true → are_congruent terms f b c ≡ true → are_congruent terms f a c ≡ true
linked terms f a b c d e = alike_on f (slice_get terms a) (slice_get terms b) (slice_get terms c) d e

same_itself : (f : ℕ → ℕ) (xs : List ℕ) → all_same f xs xs ≡ true
same_itself f [] = refl
same_itself f (x ∷ xs) = ap₂ (λ p q. p && q) (eq-eqb (f x) (f x) refl) (same_itself f xs)

itself : (terms : List Applied) (f : ℕ → ℕ) (a : ℕ) → a < length terms → are_congruent terms f a a ≡ true
itself terms f a lt = go terms a lt
  where
    go : (ts : List Applied) (n : ℕ) → n < length ts → alike f (slice_get ts n) (slice_get ts n) ≡ true
    go [] n lt = absurd (omega arith)
    go (t ∷ ts) zero lt = ap₂ (λ p q. p && q) (eq-eqb t.head t.head refl) (same_itself f t.parts.items)
    go (t ∷ ts) (suc n) lt = go ts n (omega arith)

-- more in the index, and one that waits no longer
module _ (terms : List Applied) (f : ℕ → ℕ) (old new : Waiting) (a : ℕ) (s : IsSettled terms f old) (d : IsDone old.queue new.queue a) where
  still_calm : (n : ℕ) → waits old.queue n ≡ false → waits new.queue n ≡ false
  still_calm n e = elim (cases_eq n a) [
    | inl is ↦ ap (waits new.queue) is ∙ d.here
    | inr o ↦ d.others n o ∙ e
  ]

  still_partner : (n b : ℕ) → is_partner terms f old.queue n b ≡ true → is_partner terms f new.queue n b ≡ true
  still_partner n b e =
      let p = and_parts (not (waits old.queue n)) (are_congruent terms f n b) e in
      ap₂ (λ x y. not x && y) (still_calm n (not-true (waits old.queue n) p.0)) p.1

  pub settled_done : new.uses.items ≡ old.uses.items → ((p : ℕ → Bool) (k : ℕ) → list_any p (under old.index k) ≡ true → list_any p (under new.index k) ≡ true) →
      has_partner terms f new.queue new.index a ≡ true → ((c : ℕ) → waits old.queue c ≡ false → are_congruent terms f a c ≡ true → f a ≡ f c) → IsSettled terms f new
  settled_done same more here cross = record {
    wide = d.wide ∙ s.wide;
    count = ap length same ∙ s.count;
    used = subst (IsUsed terms f) (sym same) s.used;
    closed = λ x y wx wy e. elim (cases_eq x a) [
      | inl xa ↦ elim (cases_eq y a) [
        | inl ya ↦ ap f (xa ∙ sym ya)
        | inr yo ↦ ap f xa ∙ cross y (sym (d.others y yo) ∙ wy) (ap (λ z. are_congruent terms f z y) (sym xa) ∙ e)
      ]
      | inr xo ↦ elim (cases_eq y a) [
        | inl ya ↦ sym (ap f ya ∙ cross x (sym (d.others x xo) ∙ wx) (ap (λ z. are_congruent terms f z x) (sym ya) ∙ turned terms f x y e))
        | inr yo ↦ s.closed x y (sym (d.others x xo) ∙ wx) (sym (d.others y yo) ∙ wy) e
      ]
    ];
    entered = λ x wx. elim (cases_eq x a) [
      | inl xa ↦ ap (has_partner terms f new.queue new.index) xa ∙ here
      | inr xo ↦
          more (λ n. is_partner terms f new.queue n x) (key_at terms f x)
          (any_weaker (λ n. is_partner terms f old.queue n x) (λ n. is_partner terms f new.queue n x) (λ n. still_partner n x) (under old.index (key_at terms f x)) (s.entered x (sym (d.others x xo) ∙ wx)))
    ];
  }

  -- it has a partner, of its class
  pub settled_with : new.uses.items ≡ old.uses.items → new.index ≡ old.index → (n : ℕ) → has_partner terms f old.queue old.index a ≡ true → is_partner terms f old.queue n a ≡ true → f n ≡ f a → IsSettled terms f new
  settled_with same index n has' is e =
      let p = and_parts (not (waits old.queue n)) (are_congruent terms f n a) is in
      settled_done same (λ q k h. ap (λ i. list_any q (under i k)) index ∙ h)
      (ap (λ i. has_partner terms f new.queue i a) index
      ∙ any_weaker (λ m. is_partner terms f old.queue m a) (λ m. is_partner terms f new.queue m a) (λ m. still_partner m a) (under old.index (key_at terms f a)) has')
      (λ c wc h. sym e ∙ s.closed n c (not-true (waits old.queue n) p.0) wc (linked terms f n a c p.1 h))

  -- it has none, and is entered
  pub settled_entered : new.uses.items ≡ old.uses.items → a < length terms → (key : ℕ) → key ≡ key_at terms f a → ((k : ℕ) → under new.index k ≡ with_number (nat_eq key k) (under old.index k) a) →
      has_partner terms f old.queue old.index a ≡ false → IsSettled terms f new
  settled_entered same lt key is added none = settled_done same more here cross
    where
      kept : (b : Bool) (p : ℕ → Bool) (ns : List ℕ) → list_any p ns ≡ true → list_any p (with_number b ns a) ≡ true
      kept true p ns h = list_any-append p ns (a ∷ []) ∙ ap (λ x. x || list_any p (a ∷ [])) h
      kept false p ns h = h

      more : (p : ℕ → Bool) (k : ℕ) → list_any p (under old.index k) ≡ true → list_any p (under new.index k) ≡ true
      more p k h = ap (list_any p) (added k) ∙ kept (nat_eq key k) p (under old.index k) h

      last : (p : ℕ → Bool) (ns : List ℕ) → p a ≡ true → list_any p (ns ++ a ∷ []) ≡ true
      last p ns h = list_any-append p ns (a ∷ []) ∙ ap (λ x. list_any p ns || (x || false)) h ∙ top (list_any p ns)
        where
          top : (b : Bool) → (b || true) ≡ true
          top true = refl
          top false = refl

      here : has_partner terms f new.queue new.index a ≡ true
      here =
          ap (list_any (λ n. is_partner terms f new.queue n a)) (added (key_at terms f a) ∙ ap (λ b. with_number b (under old.index (key_at terms f a)) a) (eq-eqb _ _ is))
          ∙ last (λ n. is_partner terms f new.queue n a) (under old.index (key_at terms f a)) (ap₂ (λ x y. not x && y) d.here (itself terms f a lt))

      cross : (c : ℕ) → waits old.queue c ≡ false → are_congruent terms f a c ≡ true → f a ≡ f c
      cross c wc e =
          let found : list_any (λ n. is_partner terms f old.queue n a) (under old.index (key_at terms f c)) ≡ true =
          any_weaker (λ n. is_partner terms f old.queue n c) (λ n. is_partner terms f old.queue n a)
          (λ n h. let p = and_parts (not (waits old.queue n)) (are_congruent terms f n c) h in ap₂ (λ x y. x && y) p.0 (linked terms f n c a p.1 (turned terms f a c e)))
          (under old.index (key_at terms f c)) (s.entered c wc) in
          absurd (let g : false ≡ true = sym none ∙ ap (λ k. list_any (λ n. is_partner terms f old.queue n a) (under old.index k)) (congruent_key terms f a c e) ∙ found in cc)

-- ---- classes made one
pub settled_spread : (terms : List Applied) (f g : ℕ → ℕ) (from to : ℕ) → (from ≡ to → ⊥) → ((p : ℕ) → g p ≡ cond (nat_eq (f p) from) to (f p)) → (old new : Waiting) →
    IsSettled terms f old → IsSpread old new from to → IsSettled terms g new
settled_spread terms f g from to apart moved old new s sp = record {
  wide = sp.added.wide ∙ s.wide;
  count = sp.count ∙ s.count;
  used = used_moved f g from to apart moved terms old.uses.items new.uses.items s.used sp.emptied sp.joined sp.others;
  closed = λ a b wa wb e.
      let p = calm a wa in
      let q = calm b wb in
      still_one f g from to apart moved a b (s.closed a b p.0 q.0 (sym (kept a b p.1 q.1) ∙ e));
  entered = λ a wa.
      let p = calm a wa in
      ap (λ i. list_any (λ n. is_partner terms g new.queue n a) (under i (key_at terms g a))) sp.index
      ∙ ap (λ k. list_any (λ n. is_partner terms g new.queue n a) (under old.index k)) (key_kept f g from to apart moved (slice_get terms a) p.1)
      ∙ any_weaker (λ n. is_partner terms f old.queue n a) (λ n. is_partner terms g new.queue n a) (λ n h. partner n a p.1 h) (under old.index (key_at terms f a)) (s.entered a p.0);
}
  where
    -- what doesn't wait has no part in the class that moved
    calm : (a : ℕ) → waits new.queue a ≡ false → (waits old.queue a ≡ false) × (touches f (slice_get terms a) from ≡ false)
    calm a w = let p = or_parts (waits old.queue a) (has (row old.uses.items from) a) (sym (sp.added.waiting a) ∙ w) in (p.0, sym (s.used from a) ∙ p.1)

    kept : (a b : ℕ) → touches f (slice_get terms a) from ≡ false → touches f (slice_get terms b) from ≡ false → are_congruent terms g a b ≡ are_congruent terms f a b
    kept a b h i = alike_kept f g from to apart moved (slice_get terms a) (slice_get terms b) h i

    partner : (n a : ℕ) → touches f (slice_get terms a) from ≡ false → is_partner terms f old.queue n a ≡ true → is_partner terms g new.queue n a ≡ true
    partner n a h e =
        let p = and_parts (not (waits old.queue n)) (are_congruent terms f n a) e in
        let far : touches f (slice_get terms n) from ≡ false = same_touches f from (slice_get terms n) (slice_get terms a) p.1 ∙ h in
        let still : waits new.queue n ≡ false = sp.added.waiting n ∙ ap₂ (λ x y. x || y) (not-true (waits old.queue n) p.0) (s.used from n ∙ far) in
        ap₂ (λ x y. not x && y) still (kept n a far h ∙ p.1)

-- one merge, of the class of a
pub merged_moves : (log : List Merge) (a b : ℕ) (why : Reason) → (current log a ≡ current log b → ⊥) → (p : ℕ) →
    current (with_merge log a b why) p ≡ cond (nat_eq (current log p) (current log a)) (current log b) (current log p)
merged_moves log a b why apart p =
    ap (λ t. current (cond t log (log ++ record { left = a; right = b; reason = why; moved = current log a } ∷ [])) p) (ne_eqb _ _ apart)
    ∙ ap (λ k. representative (log ++ record { left = a; right = b; reason = why; moved = current log a } ∷ []) k p) (length-append log (record { left = a; right = b; reason = why; moved = current log a } ∷ []) ∙ add-one (length log))
    ∙ last_one log record { left = a; right = b; reason = why; moved = current log a } p

pub settled_turned : (terms : List Applied) (log new : List Merge) (a b : ℕ) (why : Reason) (from to : ℕ) → from ≡ current log a → to ≡ current log b → (from ≡ to → ⊥) → new ≡ with_merge log a b why → (old after : Waiting) →
    IsSpread old after from to → IsSettled terms (current log) old → IsSettled terms (current new) after
settled_turned terms log new a b why from to ea eb apart is old after sp s =
    settled_spread terms (current log) (current new) from to apart
    (λ p. ap (λ l. current l p) is ∙ merged_moves log a b why (λ e. apart (ea ∙ e ∙ sym eb)) p ∙ ap₂ (λ x y. cond (nat_eq (current log p) x) y (current log p)) (sym ea) (sym eb))
    old after s sp

-- what is known, where something is
pub known_some : (terms : List Applied) (f : ℕ → ℕ) (v w : Waiting) → Some v ≡ Some w → IsSettled terms f v → IsSettled terms f w
known_some terms f v w e s = subst (IsSettled terms f) (same_Some v w e) s

-- where none waits
calm : (q : Queue) (a : ℕ) → q.list.items ≡ [] → a < length q.flags.items → waits q a ≡ false
calm q a e lt = go (waits q a) refl
  where
    go : (b : Bool) → waits q a ≡ b → b ≡ false
    go true h = absurd (let g : false ≡ true = ap (λ l. has l a) (sym e) ∙ q.listed a lt h in cc)
    go false h = refl

pub settled_closed : (terms : List Applied) (log : List Merge) (w : Waiting) → IsSettled terms (current log) w → w.queue.list.items ≡ [] → IsClosed terms log
settled_closed terms log w s e a b h =
    let wide = s.wide in
    let la : a < length terms = congruent_within terms (current log) b a (turned terms (current log) a b h) in
    let lb : b < length terms = congruent_within terms (current log) a b h in
    s.closed a b (calm w.queue a e (omega arith)) (calm w.queue b e (omega arith)) h
