-- What a walk answers as one reply more is given.
use Rattle.std.proofs.Common.{◌≡◌, ◌++◌, ◌∷◌, [], List, refl, ap}
use Rattle.vx_smt_meaning.specs.declared.reply.Reply.{Reply}
use Rattle.vx_smt_meaning.specs.declared.reply.Reply.TheVariants.{Unsat, Sat, Unknown}
use Rattle.vx_rules.specs.Trees.{Question, Tree, End, Impossible, On, Step, Ask, Probe, Fork, Walked, Open, walk_then, passed, walk}

-- with no reply nothing is answered; a reply more to an open question is one answer more
pub record Extends (next : List Reply → Walked) : Type 0 where
  pub none : (next []).answered ≡ []
  pub one_more : (q : Question) (rs : List Reply) (r : Reply) → (next rs).ending ≡ Open q
      → (next (rs ++ r ∷ [])).answered ≡ (next rs).answered ++ record { question = q; reply = r } ∷ []

passed_extends : Extends passed
passed_extends = record { none = refl; one_more = λ q rs r is. cc }

ask_more : (q : Question) (t : Tree) (next : List Reply → Walked) → Extends (walk_then t next)
    → (q' : Question) (rs : List Reply) (r : Reply) → (walk_then (Ask q t) next rs).ending ≡ Open q'
    → (walk_then (Ask q t) next (rs ++ r ∷ [])).answered ≡ (walk_then (Ask q t) next rs).answered ++ record { question = q'; reply = r } ∷ []
ask_more q t next e q' [] Unsat is = let none = e.none in cc
ask_more q t next e q' [] Sat is = cc
ask_more q t next e q' [] Unknown is = cc
ask_more q t next e q' (Unsat ∷ rs) r is = ap (λ l. record { question = q; reply = Unsat } ∷ l) (e.one_more q' rs r is)
ask_more q t next e q' (Sat ∷ rs) r is = cc
ask_more q t next e q' (Unknown ∷ rs) r is = cc

probe_more : (q : Question) (a b : Tree) (next : List Reply → Walked) → Extends (walk_then a next) → Extends (walk_then b next)
    → (q' : Question) (rs : List Reply) (r : Reply) → (walk_then (Probe q a b) next rs).ending ≡ Open q'
    → (walk_then (Probe q a b) next (rs ++ r ∷ [])).answered ≡ (walk_then (Probe q a b) next rs).answered ++ record { question = q'; reply = r } ∷ []
probe_more q a b next e f q' [] Unsat is = let none = e.none in cc
probe_more q a b next e f q' [] Sat is = let none = f.none in cc
probe_more q a b next e f q' [] Unknown is = let none = f.none in cc
probe_more q a b next e f q' (Unsat ∷ rs) r is = ap (λ l. record { question = q; reply = Unsat } ∷ l) (e.one_more q' rs r is)
probe_more q a b next e f q' (Sat ∷ rs) r is = ap (λ l. record { question = q; reply = Sat } ∷ l) (f.one_more q' rs r is)
probe_more q a b next e f q' (Unknown ∷ rs) r is = ap (λ l. record { question = q; reply = Unknown } ∷ l) (f.one_more q' rs r is)

through : (t : Tree) (next : List Reply → Walked) → Extends next → Extends (walk_then t next)
through End next e = e
through (Impossible s) next e = e
through (On t s) next e = e
through (Step t) next e = through t next e
through (Ask q t) next e = record { none = refl; one_more = ask_more q t next (through t next e) }
through (Probe q a b) next e = record { none = refl; one_more = probe_more q a b next (through a next e) (through b next e) }
through (Fork a b) next e = through a (walk_then b next) (through b next e)

-- the reply to an open question
pub walk_extends : (t : Tree) → Extends (walk t)
walk_extends t = through t passed passed_extends
