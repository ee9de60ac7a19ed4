-- A walk that ends at a place by a right sat exposes the place in the tree: an interpretation makes true all that is asked there.
use Rattle.std.proofs.Common.{◌≡◌, List, [], ◌∷◌, ◌⊎◌, inl, inr, refl, ap}
use Rattle.vx_ast.specs.declared.Place.{Place}
use Rattle.vx_terms.specs.Interpretations.{Interpretation}
use Rattle.vx_smt_meaning.specs.declared.reply.Reply.{Reply}
use Rattle.vx_smt_meaning.specs.declared.reply.Reply.TheVariants.{Unsat, Sat, Unknown}
use Rattle.vx_rules.specs.Trees.{Code, Question, Tree, End, Impossible, On, Step, Ask, Probe, Fork, Passed, Failed, Open, Ending, Answered, Walked, after_answer, walk_then, passed, walk}
use Rattle.vx_real.specs.Law.{LastIsPossible}
use Rattle.vx_real.specs.Exposed.{Exposed}

module _ (at : Place) (code : Code) where
  -- the end, and the last reply that was right; so many were answered before
  abbrev IsReal : Walked → Type 0
  IsReal w = (w.ending ≡ Failed at code Sat) × LastIsPossible w.answered

  abbrev Somewhere : Tree → Type 0
  Somewhere t = (i : Interpretation) × Exposed i at code t

  -- a walk that failed has an answer
  later_last : (a : Answered) (more : List Answered) → ((more ≡ []) → ⊥) → LastIsPossible (a ∷ more) → LastIsPossible more
  later_last a [] n h = absurd (n refl)
  later_last a (b ∷ rest) n h = h

  answers : (t : Tree) (next : List Reply → Walked) → ((rs : List Reply) → (next rs).ending ≡ Failed at code Sat → ((next rs).answered ≡ []) → ⊥) →
      (rs : List Reply) → (walk_then t next rs).ending ≡ Failed at code Sat → ((walk_then t next rs).answered ≡ []) → ⊥
  answers End next h rs e n = h rs e n
  answers (Impossible s) next h rs e n = h rs e n
  answers (On t s) next h rs e n = h rs e n
  answers (Step t) next h rs e n = answers t next h rs e n
  answers (Fork a b) next h rs e n = answers a (walk_then b next) (answers b next h) rs e n
  answers (Ask q t) next h [] e n = cc
  answers (Ask q t) next h (Unsat ∷ rs) e n = cc
  answers (Ask q t) next h (Sat ∷ rs) e n = cc
  answers (Ask q t) next h (Unknown ∷ rs) e n = cc
  answers (Probe q a b) next h [] e n = cc
  answers (Probe q a b) next h (Unsat ∷ rs) e n = cc
  answers (Probe q a b) next h (Sat ∷ rs) e n = cc
  answers (Probe q a b) next h (Unknown ∷ rs) e n = cc

  Answers : (List Reply → Walked) → Type 0
  Answers next = (rs : List Reply) → (next rs).ending ≡ Failed at code Sat → ((next rs).answered ≡ []) → ⊥

  real_later : (q : Question) (r : Reply) (w : Walked) → (w.ending ≡ Failed at code Sat → (w.answered ≡ []) → ⊥) → IsReal (after_answer q r w) → IsReal w
  real_later q r w n h = (h.0, later_last (record { question = q; reply = r }) w.answered (n h.0) h.1)

  failed_same : (p : Place) (c : Code) (r : Reply) → Failed p c r ≡ Failed at code Sat → (p ≡ at) × (c ≡ code) × (r ≡ Sat)
  failed_same p c r e = (ap place_in e, ap code_in e, ap reply_in e)
    where
      place_in : Ending → Place
      place_in (Failed p c r) = p
      place_in _ = at

      code_in : Ending → Code
      code_in (Failed p c r) = c
      code_in _ = code

      reply_in : Ending → Reply
      reply_in (Failed p c r) = r
      reply_in _ = Sat

  exposed_then : (t : Tree) (P : Type 0) (next : List Reply → Walked) → ((rs : List Reply) → (next rs).ending ≡ Failed at code Sat → ((next rs).answered ≡ []) → ⊥) →
      ((rs : List Reply) → IsReal (next rs) → P) → (rs : List Reply) → IsReal (walk_then t next rs) → Somewhere t ⊎ P
  exposed_then End P next n h rs r = inr (h rs r)
  exposed_then (Impossible s) P next n h rs r = inr (h rs r)
  exposed_then (On t s) P next n h rs r = inr (h rs r)
  exposed_then (Step t) P next n h rs r = exposed_then t P next n h rs r
  exposed_then (Fork a b) P next n h rs r = go (exposed_then a (Somewhere b ⊎ P) (walk_then b next) (answers b next n) (exposed_then b P next n h) rs r)
    where
      go : Somewhere a ⊎ (Somewhere b ⊎ P) → Somewhere (Fork a b) ⊎ P
      go (inl x) = inl (x.0, inl x.1)
      go (inr (inl x)) = inl (x.0, inr x.1)
      go (inr (inr x)) = inr x
  exposed_then (Ask q t) P next n h [] r = absurd (open_fails r.0)
    where
      open_fails : Open q ≡ Failed at code Sat → ⊥
      open_fails e = cc
  exposed_then (Ask q t) P next n h (Unsat ∷ rs) r = go (exposed_then t P next n h rs (real_later q Unsat (walk_then t next rs) (answers t next n rs) r))
    where
      go : Somewhere t ⊎ P → Somewhere (Ask q t) ⊎ P
      go (inl x) = inl (x.0, inr x.1)
      go (inr x) = inr x
  exposed_then (Ask q t) P next n h (Sat ∷ rs) r = let e = failed_same q.place q.code Sat r.0 in inl (r.1.0, inl (e.0, e.1, r.1.1))
  exposed_then (Ask q t) P next n h (Unknown ∷ rs) r = absurd (other (failed_same q.place q.code Unknown r.0).2)
    where
      other : Unknown ≡ Sat → ⊥
      other e = cc
  exposed_then (Probe q a b) P next n h [] r = absurd (open_fails r.0)
    where
      open_fails : Open q ≡ Failed at code Sat → ⊥
      open_fails e = cc
  exposed_then (Probe q a b) P next n h (Unsat ∷ rs) r = go (exposed_then a P next n h rs (real_later q Unsat (walk_then a next rs) (answers a next n rs) r))
    where
      go : Somewhere a ⊎ P → Somewhere (Probe q a b) ⊎ P
      go (inl x) = inl (x.0, inl x.1)
      go (inr x) = inr x
  exposed_then (Probe q a b) P next n h (Sat ∷ rs) r = go (exposed_then b P next n h rs (real_later q Sat (walk_then b next rs) (answers b next n rs) r))
    where
      go : Somewhere b ⊎ P → Somewhere (Probe q a b) ⊎ P
      go (inl x) = inl (x.0, inr x.1)
      go (inr x) = inr x
  exposed_then (Probe q a b) P next n h (Unknown ∷ rs) r = go (exposed_then b P next n h rs (real_later q Unknown (walk_then b next rs) (answers b next n rs) r))
    where
      go : Somewhere b ⊎ P → Somewhere (Probe q a b) ⊎ P
      go (inl x) = inl (x.0, inr x.1)
      go (inr x) = inr x

  pub exposed : (t : Tree) (rs : List Reply) → (walk t rs).ending ≡ Failed at code Sat → LastIsPossible (walk t rs).answered → (i : Interpretation) × Exposed i at code t
  exposed t rs e h = go (exposed_then t ⊥ passed (λ rs e n. no_end e) (λ rs r. no_end r.0) rs (e, h))
    where
      no_end : Passed ≡ Failed at code Sat → ⊥
      no_end e = cc

      go : ((i : Interpretation) × Exposed i at code t) ⊎ ⊥ → (i : Interpretation) × Exposed i at code t
      go (inl x) = x
      go (inr x) = absurd x
