-- A walk that is gone edge by edge, with what is still to be gone behind it.
use Rattle.std.proofs.Common.{◌≡◌, ◌⊎◌, ℕ, suc, ◌<◌, ◌≤◌, ◌+◌, ◌*◌, inl, inr, Bool, true, false, List, [], ◌∷◌, ◌++◌, length, Some, refl, sym, ◌∙◌, ap, arith, append_assoc, append-nil}
use Rattle.std.specs.Prelude.{All}
use Rattle.std.proofs.lemmas.List.{length-append}
use Rattle.std.proofs.lemmas.List.Elements.{All-nil, All-push, All-pop}
use Rattle.cs_cong.specs.declared.merges.Merge.{Merge}
use Rattle.cs_cong.specs.declared.paths.Edge.{Edge}
use Rattle.cs_cong.specs.declared.paths.Onward.{Onward}
use Rattle.cs_cong.specs.Merged.{merge_at, representative, IsWithin, AreWithin}
use Rattle.cs_cong.specs.Walks.{walk, start_of, end_of}
use Rattle.cs_cong.specs.Onward.{GoesAlong}
use Rattle.cs_cong.proofs.Walks.{walk_self}

-- the walk from the end of an edge
abbrev pub behind : List Merge → Onward → List Edge
behind log o = walk log o.edge.merge (end_of o.edge.forward (merge_at log o.edge.merge)) o.to

-- all that is still to be gone: the last comes first
abbrev pub onward : List Merge → List Onward → List Edge
onward log [] = []
onward log (o ∷ os) = onward log os ++ o.edge ∷ behind log o

abbrev pub IsIn : List Merge → ℕ → Onward → Type 0
IsIn log n o = (o.edge.merge < length log) × (o.to < n)

abbrev pub IsJoined : List Merge → Onward → Type 0
IsJoined log o = representative log o.edge.merge (end_of o.edge.forward (merge_at log o.edge.merge)) ≡ representative log o.edge.merge o.to

-- of the walk from a to b, which leads on from these edges: it has come to this part
pub record Going (log : List Merge) (n time a b : ℕ) (old : List Edge) (until from to : ℕ) (pending : List Onward) (edges : List Edge) : Type 0 where
  pub until_in : until ≤ length log
  pub from_in : from < n
  pub to_in : to < n
  pub all_in : All (IsIn log n) pending
  pub joined : representative log time a ≡ representative log time b → (representative log until from ≡ representative log until to) × All (IsJoined log) pending
  pub gives : representative log time a ≡ representative log time b → edges ++ (walk log until from to ++ onward log pending) ≡ old ++ walk log time a b

-- how much is left: edges count twice
abbrev pub weight : List Edge → ℕ
weight es = suc (length es * 2)

abbrev pub load : List Merge → List Onward → ℕ
load log [] = 0
load log (o ∷ os) = load log os + weight (behind log o)

onward_more : (log : List Merge) (os : List Onward) (o : Onward) → onward log (os ++ o ∷ []) ≡ (o.edge ∷ behind log o) ++ onward log os
onward_more log [] o = sym (append-nil (o.edge ∷ behind log o))
onward_more log (p ∷ os) o = ap (λ es. es ++ p.edge ∷ behind log p) (onward_more log os o) ∙ append_assoc (o.edge ∷ behind log o) (onward log os) (p.edge ∷ behind log p)

load_more : (log : List Merge) (os : List Onward) (o : Onward) → load log (os ++ o ∷ []) ≡ load log os + weight (behind log o)
load_more log [] o = refl
load_more log (p ∷ os) o = let rest = load_more log os o in omega arith

pub none_left : (os : List Onward) → length os ≡ 0 → os ≡ []
none_left [] e = refl
none_left (o ∷ os) e = absurd (omega arith)

ends_in : (log : List Merge) (n : ℕ) → AreWithin n log → (e : Edge) → e.merge < length log → (start_of e.forward (merge_at log e.merge) < n) × (end_of e.forward (merge_at log e.merge) < n)
ends_in log n all e lt = either e.forward (merge_at log e.merge) (all e.merge lt)
  where
    either : (forward : Bool) (m : Merge) → IsWithin n m → (start_of forward m < n) × (end_of forward m < n)
    either true m w = (w.left, w.right)
    either false m w = (w.right, w.left)

pub started : (log : List Merge) (n time a b : ℕ) (old : List Edge) → time ≤ length log → a < n → b < n → Going log n time a b old time a b [] old
started log n time a b old within left right = record {
  until_in = within;
  from_in = left;
  to_in = right;
  all_in = All-nil (IsIn log n);
  joined = λ same. (same, All-nil (IsJoined log));
  gives = λ same. ap (λ es. old ++ es) (append-nil (walk log time a b));
}

module _ (log : List Merge) (n time a b : ℕ) (old : List Edge) (until from to : ℕ) (all : AreWithin n log) where
  pub parted : (pending : List Onward) (edges : List Edge) (e : Edge) → Going log n time a b old until from to pending edges → GoesAlong log until from to e →
      Going log n time a b old e.merge from (start_of e.forward (merge_at log e.merge)) (pending ++ record { edge = e; to = to } ∷ []) edges
  parted pending edges e g p =
      let o : Onward = record { edge = e; to = to } in
      let lt : e.merge < length log = let u = g.until_in in let v = p.before in omega arith in
      record {
        until_in = (let u = g.until_in in let v = p.before in omega arith);
        from_in = g.from_in;
        to_in = (ends_in log n all e lt).0;
        all_in = All-push (IsIn log n) pending o g.all_in (lt, g.to_in);
        joined = λ same. (p.here, All-push (IsJoined log) pending o (g.joined same).1 p.there);
        gives = λ same.
            ap (λ es. edges ++ (walk log e.merge from (start_of e.forward (merge_at log e.merge)) ++ es)) (onward_more log pending o)
            ∙ ap (λ es. edges ++ es) (sym (append_assoc (walk log e.merge from (start_of e.forward (merge_at log e.merge))) (e ∷ behind log o) (onward log pending)))
            ∙ ap (λ es. edges ++ (es ++ onward log pending)) (sym p.whole)
            ∙ g.gives same;
      }

  pub lighter : (pending : List Onward) (e : Edge) → GoesAlong log until from to e →
      weight (walk log e.merge from (start_of e.forward (merge_at log e.merge))) + load log (pending ++ record { edge = e; to = to } ∷ []) < weight (walk log until from to) + load log pending
  lighter pending e p =
      let o : Onward = record { edge = e; to = to } in
      let more = load_more log pending o in
      let long = ap length p.whole ∙ length-append (walk log e.merge from (start_of e.forward (merge_at log e.merge))) (e ∷ behind log o) in
      omega arith

  -- a part has no edges where its terms are one
  here_empty : (pending : List Onward) (edges : List Edge) → Going log n time a b old until from to pending edges → (from ≡ to) ⊎ (representative log until from ≡ representative log until to → ⊥) → representative log time a ≡ representative log time b → walk log until from to ≡ []
  here_empty pending edges g over same = elim over [
    | inl e ↦ walk_self log until from to e
    | inr apart ↦ absurd (apart (g.joined same).0)
  ]

  pub resumed : (pending : List Onward) (o : Onward) (edges : List Edge) → Going log n time a b old until from to (pending ++ o ∷ []) edges → (from ≡ to) ⊎ (representative log until from ≡ representative log until to → ⊥) →
      Going log n time a b old o.edge.merge (end_of o.edge.forward (merge_at log o.edge.merge)) o.to pending (edges ++ o.edge ∷ [])
  resumed pending o edges g over =
      let ins = All-pop (IsIn log n) (pending ++ o ∷ []) pending (Some o) refl g.all_in in
      record {
        until_in = (let lt = ins.1.0 in omega arith);
        from_in = (ends_in log n all o.edge ins.1.0).1;
        to_in = ins.1.1;
        all_in = ins.0;
        joined = λ same. let js = All-pop (IsJoined log) (pending ++ o ∷ []) pending (Some o) refl (g.joined same).1 in (js.1, js.0);
        gives = λ same.
            append_assoc edges (o.edge ∷ []) (behind log o ++ onward log pending)
            ∙ ap (λ es. edges ++ es) (sym (onward_more log pending o))
            ∙ ap (λ es. edges ++ (es ++ onward log (pending ++ o ∷ []))) (sym (here_empty (pending ++ o ∷ []) edges g over same))
            ∙ g.gives same;
      }

  pub lighter_on : (pending : List Onward) (o : Onward) → weight (behind log o) + load log pending < weight (walk log until from to) + load log (pending ++ o ∷ [])
  lighter_on pending o = let more = load_more log pending o in omega arith

  pub ended : (edges : List Edge) → Going log n time a b old until from to [] edges → (from ≡ to) ⊎ (representative log until from ≡ representative log until to → ⊥) → representative log time a ≡ representative log time b → edges ≡ old ++ walk log time a b
  ended edges g over same =
      sym (append-nil edges)
      ∙ ap (λ es. edges ++ (es ++ [])) (sym (here_empty [] edges g over same))
      ∙ g.gives same
