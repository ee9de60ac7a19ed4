-- The candidates behind a put, from the heap in front of it.
use Rattle.std.proofs.Common.{◌≡◌, ◌+◌, ℕ, suc, Bool, true, false, ◌&&◌, List, [], ◌∷◌, ◌++◌, length, refl, sym, ap, ap₂, ◌∙◌, append-nil, arith}
use Rattle.std.specs.Prelude.{if◌then◌else◌, slice_set}
use Rattle.std.proofs.lemmas.Bool.{and_parts}
use Rattle.vx_ast.specs.Syntax.{same_name}
use Rattle.vx_terms.specs.Terms.{same_bool}
use Rattle.vx_terms.proofs.Same.{bool_is}
use Rattle.vx_rules.proofs.Names.{same_name_is}
use Rattle.vx_rules.specs.States.{Chunk, Heap}
use Rattle.vx_rules.specs.Chunks.{Candidate, is_kin, same_arguments, chosen, candidates, first_argument, merged, put_over, bounding, at_most_three, whole_fact}
use Rattle.vx_heap.specs.Heaps.{rest_of, behind, sum_behind}
use Rattle.vx_heap.proofs.Selves.{arguments_themselves, arguments_are, kin_itself}

-- chunks that are looked for alike choose alike
chosen_alike : (b : Bool) (k l : Chunk) → k.is_field ≡ l.is_field → k.resource ≡ l.resource → k.arguments ≡ l.arguments → (n : ℕ) (h : Heap) → chosen b k n h ≡ chosen b l n h
chosen_alike b k l f r a n [] = refl
chosen_alike b k l f r a n (c ∷ cs) = λ i.
    if (same_bool (f i) c.is_field && same_name (r i) c.resource) && same_bool b (same_arguments (a i) c.arguments)
    then record { number = n; chunk = c } ∷ chosen_alike b k l f r a (suc n) cs i
    else chosen_alike b k l f r a (suc n) cs i

-- one chunk more at the end
chosen_more : (b : Bool) (k : Chunk) (n : ℕ) (h : Heap) (c : Chunk) → chosen b k n (h ++ c ∷ []) ≡ chosen b k n h ++ chosen b k (n + length h) (c ∷ [])
chosen_more b k n [] c = ap (λ m. chosen b k m (c ∷ [])) (omega arith)
chosen_more b k n (d ∷ ds) c =
    go (is_kin k d && same_bool b (same_arguments k.arguments d.arguments)) _ _ _ (chosen_more b k (suc n) ds c ∙ ap (λ m. chosen b k (suc n) ds ++ chosen b k m (c ∷ [])) (omega arith))
  where
    one : Candidate
    one = record { number = n; chunk = d }

    go : (t : Bool) (xs ys zs : List Candidate) → xs ≡ ys ++ zs → (if t then one ∷ xs else xs) ≡ (if t then one ∷ ys else ys) ++ zs
    go true xs ys zs e = ap (λ l. one ∷ l) e
    go false xs ys zs e = e

-- a chunk alone chooses itself
alone : (b : Bool) (new : Chunk) (n : ℕ) → chosen b new n (new ∷ []) ≡ (if b then record { number = n; chunk = new } ∷ [] else [])
alone true new n = ap₂ (λ x y. if x && same_bool true y then record { number = n; chunk = new } ∷ [] else []) (kin_itself new) (arguments_themselves new.arguments)
alone false new n = ap₂ (λ x y. if x && same_bool false y then record { number = n; chunk = new } ∷ [] else []) (kin_itself new) (arguments_themselves new.arguments)

behind_beside : (new : Chunk) (h : Heap) → chosen true new 0 h ≡ [] → behind (length h) new h ≡ candidates new (h ++ new ∷ [])
behind_beside new h none =
    let others = chosen false new 0 h in
    let own : chosen true new 0 (h ++ new ∷ []) ≡ record { number = length h; chunk = new } ∷ [] =
    chosen_more true new 0 h new
    ∙ ap (λ l. l ++ chosen true new (0 + length h) (new ∷ [])) none
    ∙ ap (λ n. chosen true new n (new ∷ [])) (omega arith)
    ∙ alone true new (length h) in
    let rest : chosen false new 0 (h ++ new ∷ []) ≡ others = chosen_more false new 0 h new ∙ ap (λ l. others ++ l) (alone false new (0 + length h)) ∙ append-nil others in
    ap (λ l. record { number = length h; chunk = new } ∷ (rest_of l ++ others)) none ∙ sym (ap₂ (λ a b. a ++ b) own rest)

-- the first that is chosen stands at its place, where another one may stand
record Stood (k : Chunk) (n : ℕ) (h : Heap) (f : Candidate) (rest : List Candidate) : Type 0 where
  pub at : ℕ
  pub place : f.number ≡ n + at
  pub passes : (is_kin k f.chunk && same_arguments k.arguments f.chunk.arguments) ≡ true
  pub own : (w : Chunk) → (is_kin k w && same_arguments k.arguments w.arguments) ≡ true → chosen true k n (slice_set h at w) ≡ record { number = f.number; chunk = w } ∷ rest
  pub others : (w : Chunk) → (is_kin k w && same_arguments k.arguments w.arguments) ≡ true → chosen false k n (slice_set h at w) ≡ chosen false k n h

-- what passes isn't among the others
left_out : (a b : Bool) (f : Candidate) (xs : List Candidate) → (a && b) ≡ true → (if a && same_bool false b then f ∷ xs else xs) ≡ xs
left_out true true f xs e = refl
left_out true false f xs e = absurd (let g : false ≡ true = e in cc)
left_out false b f xs e = absurd (let g : false ≡ true = e in cc)

stood : (k : Chunk) (n : ℕ) (h : Heap) (f : Candidate) (rest : List Candidate) → chosen true k n h ≡ f ∷ rest → Stood k n h f rest
stood k n [] f rest e = absurd (nothing e)
  where
    nothing : (let l : List Candidate = [] in l) ≡ f ∷ rest → ⊥
    nothing e = cc
stood k n (c ∷ cs) f rest e = go (is_kin k c && same_arguments k.arguments c.arguments) refl e (λ g. stood k (suc n) cs f rest g)
  where
    one : Candidate
    one = record { number = n; chunk = c }

    head_is : (xs ys : List Candidate) (x y : Candidate) → x ∷ xs ≡ y ∷ ys → x ≡ y
    head_is xs ys x y e = cc

    tail_is : (xs ys : List Candidate) (x y : Candidate) → x ∷ xs ≡ y ∷ ys → xs ≡ ys
    tail_is xs ys x y e = cc

    go : (t : Bool) → (is_kin k c && same_arguments k.arguments c.arguments) ≡ t → (if t then one ∷ chosen true k (suc n) cs else chosen true k (suc n) cs) ≡ f ∷ rest →
        (chosen true k (suc n) cs ≡ f ∷ rest → Stood k (suc n) cs f rest) → Stood k n (c ∷ cs) f rest
    go true p e more =
        let first = head_is _ _ _ _ e in
        record {
          at = 0;
          place = sym (ap (λ (x : Candidate). x.number) first) ∙ omega arith;
          passes = ap (λ (x : Candidate). is_kin k x.chunk && same_arguments k.arguments x.chunk.arguments) (sym first) ∙ p;
          own = λ w q.
              ap (λ b. if b then record { number = n; chunk = w } ∷ chosen true k (suc n) cs else chosen true k (suc n) cs) q
              ∙ ap₂ (λ m l. record { number = m; chunk = w } ∷ l) (ap (λ (x : Candidate). x.number) first) (tail_is _ _ _ _ e);
          others = λ w q.
              left_out (is_kin k w) (same_arguments k.arguments w.arguments) (record { number = n; chunk = w }) (chosen false k (suc n) cs) q
              ∙ sym (left_out (is_kin k c) (same_arguments k.arguments c.arguments) one (chosen false k (suc n) cs) p);
        }
    go false p e more =
        let r = more e in
        record {
          at = suc r.at;
          place = r.place ∙ omega arith;
          passes = r.passes;
          own = λ w q. ap (λ b. if b then one ∷ chosen true k (suc n) (slice_set cs r.at w) else chosen true k (suc n) (slice_set cs r.at w)) p ∙ r.own w q;
          others = λ w q. ap (λ l. if is_kin k c && same_bool false (same_arguments k.arguments c.arguments) then one ∷ l else l) (r.others w q);
        }

-- one that is merged into the first has its arguments
first_is : (new : Chunk) (h : Heap) (f : Candidate) (rest : List Candidate) → chosen true new 0 h ≡ f ∷ rest → new.arguments ≡ f.chunk.arguments
first_is new h f rest e = arguments_are _ _ (and_parts (is_kin new f.chunk) _ (stood new 0 h f rest e).passes).1

behind_merged : (new : Chunk) (h : Heap) (f : Candidate) (rest : List Candidate) → chosen true new 0 h ≡ f ∷ rest →
    behind f.number (merged new f.chunk) h ≡ candidates new (slice_set h f.number (merged new f.chunk))
behind_merged new h f rest e =
    let r = stood new 0 h f rest e in
    let w = merged new f.chunk in
    let kin = and_parts (same_bool new.is_field f.chunk.is_field) _ (and_parts (is_kin new f.chunk) _ r.passes).0 in
    let alike : (b : Bool) → chosen b w 0 h ≡ chosen b new 0 h = λ b. chosen_alike b w new (sym (bool_is _ _ kin.0)) (sym (same_name_is _ _ kin.1)) (sym (first_is new h f rest e)) 0 h in
    let at : r.at ≡ f.number = omega (arith, r.place) in
    ap₂ (λ xs ys. record { number = f.number; chunk = w } ∷ (rest_of xs ++ ys)) (alike true ∙ e) (alike false)
    ∙ sym (ap₂ (λ xs ys. xs ++ ys) (r.own w r.passes) (r.others w r.passes))
    ∙ ap (λ n. candidates new (slice_set h n w)) at

-- what is said of the sum, from the heap in front of a put
pub sum_is : (given : Bool) (cs : List Candidate) (new : Chunk) (h : Heap) → chosen true new 0 h ≡ cs → sum_behind given cs new h ≡ bounding given (whole_fact new (put_over cs new h))
sum_is given [] new h e = ap (λ l. bounding given (at_most_three (first_argument new.arguments) l)) (behind_beside new h e)
sum_is given (c ∷ cs) new h e = ap₂ (λ r l. bounding given (at_most_three r l)) (ap first_argument (sym (first_is new h c cs e))) (behind_merged new h c cs e)
