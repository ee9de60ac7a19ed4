-- One claim more, and back to the first claims.
use Rattle.std.proofs.Common.{◌≡◌, ℕ, zero, suc, ◌<◌, ◌≤◌, ◌+◌, inl, inr, Bool, true, false, nat_eq, cond, ◌&&◌, ◌||◌, List, [], ◌∷◌, ◌++◌, length, take, drop, get_or, slice_get, Option, Some, None, refl, sym, ◌∙◌, ap, ap₂, subst, arith, eq-eqb}
use Rattle.std.proofs.lemmas.Bool.{cases_eq, cases_lt, eqb-true, and_parts, or_right}
use Rattle.std.proofs.lemmas.List.{get_or_append_left, get_or_at, get_or_past, get_or_default, get_or-take, length-append, length-take-le, take-append-le, take-append-drop, take_all, take-take, take_at}
use Rattle.std.proofs.lemmas.Option.{slice_get_past}
use Rattle.cs_cong.specs.declared.congruent.Applied.{Applied}
use Rattle.cs_cong.specs.declared.congruent.Claim.{Claim}
use Rattle.cs_cong.specs.declared.merges.Merge.{Merge}
use Rattle.cs_cong.specs.declared.merges.Reason.{Reason}
use Rattle.cs_cong.specs.declared.merges.Reason.TheVariants.{Claimed, Congruence}
use Rattle.cs_cong.specs.Merged.{nothing, across, representative, current, with_merge, IsMerged, IsLonger}
use Rattle.cs_cong.specs.Joined.{says, is_claimed, is_reason, AreJustified, IsClosed, Grown}
use Rattle.cs_cong.specs.Stages.{IsStage, cut, IsHistory}
use Rattle.cs_cong.proofs.Times.{front, same_later, same_across, crosses}
use Rattle.cs_cong.proofs.Grown.{justified_more, with_cases}

pub get_front : {A : Type 0} (xs ys : List A) (n : ℕ) → n < length xs → slice_get (xs ++ ys) n ≡ slice_get xs n
get_front [] ys n h = absurd (omega arith)
get_front (x ∷ xs) ys zero h = refl
get_front (x ∷ xs) ys (suc n) h = get_front xs ys n (omega arith)

pub get_last : {A : Type 0} (xs : List A) (x : A) → slice_get (xs ++ x ∷ []) (length xs) ≡ Some x
get_last [] x = refl
get_last (y ∷ xs) x = get_last xs x

pub get_past : {A : Type 0} (xs : List A) (x : A) (n : ℕ) → length xs < n → slice_get (xs ++ x ∷ []) n ≡ None
get_past xs x n lt = slice_get_past (xs ++ x ∷ []) n (let long : length (xs ++ x ∷ []) ≡ length xs + 1 = length-append xs (x ∷ []) in omega arith)

says_nothing : (o : Option Claim) (a b : ℕ) → o ≡ None → says o a b ≡ true → ⊥
says_nothing o a b e h = let g : false ≡ true = sym (ap (λ x. says x a b) e) ∙ h in cc

-- what was claimed stays so
pub claimed_more : (claims : List Claim) (c : Claim) (i a b : ℕ) → is_claimed claims i a b ≡ true → is_claimed (claims ++ c ∷ []) i a b ≡ true
claimed_more claims c i a b e = elim (cases_lt i (length claims)) [
  | inl lt ↦ ap (λ o. says o a b) (get_front claims (c ∷ []) i lt) ∙ e
  | inr le ↦ absurd (says_nothing (slice_get claims i) a b (slice_get_past claims i le) e)
]

pub claimed_last : (claims : List Claim) (c : Claim) → c.equal ≡ true → is_claimed (claims ++ c ∷ []) (length claims) c.left c.right ≡ true
claimed_last claims c e =
    ap (λ o. says o c.left c.right) (get_last claims c)
    ∙ ap (λ b. b && (nat_eq c.left c.left && nat_eq c.right c.right)) e
    ∙ ap₂ (λ p q. p && q) (eq-eqb c.left c.left refl) (eq-eqb c.right c.right refl)

or_both : (p q r s : Bool) → (p ≡ true → r ≡ true) → (q ≡ true → s ≡ true) → (p || q) ≡ true → (r || s) ≡ true
or_both true q r s f g e = ap (λ b. b || s) (f refl)
or_both false q r s f g e = or_right r s (g e)

reason_more : (terms : List Applied) (claims : List Claim) (c : Claim) (f : ℕ → ℕ) (why : Reason) (a b : ℕ) → is_reason terms claims f why a b ≡ true → is_reason terms (claims ++ c ∷ []) f why a b ≡ true
reason_more terms claims c f (Claimed i) a b e = or_both (is_claimed claims i a b) (is_claimed claims i b a) _ _ (claimed_more claims c i a b) (claimed_more claims c i b a) e
reason_more terms claims c f Congruence a b e = e

pub still_justified : (terms : List Applied) (claims : List Claim) (c : Claim) (log : List Merge) → AreJustified terms claims log → AreJustified terms (claims ++ c ∷ []) log
still_justified terms claims c log all k lt = reason_more terms claims c (representative log k) (get_or log k nothing).reason (get_or log k nothing).left (get_or log k nothing).right (all k lt)

-- what is in one class stays so
pub still_merged : (old new : List Merge) → take (length old) new ≡ old → length old ≤ length new → (a b : ℕ) → current old a ≡ current old b → current new a ≡ current new b
still_merged old new f le a b e =
    let n = length old in
    let same : (x : ℕ) → representative new (length old) x ≡ representative old (length old) x = λ x.
    ap (λ l. representative l (length old) x) (sym (split new (length old)))
    ∙ front (take (length old) new) (rest new (length old)) (length old) x (let w : length (take (length old) new) ≡ length old = ap length f in omega arith)
    ∙ ap (λ l. representative l (length old) x) f in
    same_later new (length old) a b (same a ∙ e ∙ sym (same b)) (length new) le
  where
    rest : List Merge → ℕ → List Merge
    rest l n = drop n l

    split : (l : List Merge) (n : ℕ) → take n l ++ drop n l ≡ l
    split l n = take-append-drop n l

pub stage_more : (terms : List Applied) (claims : List Claim) (c : Claim) (old new : List Merge) → IsStage terms claims old → take (length old) new ≡ old → length old ≤ length new →
    AreJustified terms (claims ++ c ∷ []) new → IsClosed terms new → (c.equal ≡ true → current new c.left ≡ current new c.right) → IsStage terms (claims ++ c ∷ []) new
stage_more terms claims c old new s f le justified closed one = record {
  justified = justified;
  closed = closed;
  met = λ i a b e. elim (cases_lt i (length claims)) [
    | inl lt ↦ still_merged old new f le a b (s.met i a b (sym (ap (λ o. says o a b) (get_front claims (c ∷ []) i lt)) ∙ e))
    | inr ge ↦ elim (cases_eq i (length claims)) [
      | inl is ↦
          let h : says (Some c) a b ≡ true = sym (ap (λ n. is_claimed (claims ++ c ∷ []) n a b) is ∙ ap (λ o. says o a b) (get_last claims c)) ∙ e in
          let p = and_parts c.equal (nat_eq c.left a && nat_eq c.right b) h in
          let q = and_parts (nat_eq c.left a) (nat_eq c.right b) p.1 in
          ap (current new) (sym (eqb-true c.left a q.0)) ∙ one p.0 ∙ ap (current new) (eqb-true c.right b q.1)
      | inr n ↦ absurd (says_nothing (slice_get (claims ++ c ∷ []) i) a b (get_past claims c i (omega arith)) e)
    ]
  ];
}

-- after one merge more
pub last_one : (log : List Merge) (m : Merge) (a : ℕ) → representative (log ++ m ∷ []) (suc (length log)) a ≡ across m (representative log (length log)) a
last_one log m a =
    ap (λ x. across x (representative (log ++ m ∷ []) (length log)) a) (get_or_at log m [] nothing (length log) refl)
    ∙ same_across m (representative (log ++ m ∷ []) (length log)) (representative log (length log)) a
    (front log (m ∷ []) (length log) a (omega arith)) (front log (m ∷ []) (length log) m.left (omega arith)) (front log (m ∷ []) (length log) m.right (omega arith))

-- a history with one claim more
pub history_more : (terms : List Applied) (claims : List Claim) (marks : List ℕ) (c : Claim) (old new : List Merge) → IsHistory terms claims marks old → take (length old) new ≡ old → length old ≤ length new →
    IsStage terms (claims ++ c ∷ []) new → IsHistory terms (claims ++ c ∷ []) (marks ++ length old ∷ []) new
history_more terms claims marks c old new h f le s = record {
  marked = length-append marks (length old ∷ []) ∙ ap (λ n. n + 1) h.marked ∙ sym (length-append claims (c ∷ []));
  ascends = λ m n mn nl. elim (cases_lt (length claims) n) [
    | inl lt ↦ elim (cases_lt (length claims) m) [
      | inl ml ↦ let p : cut (marks ++ length old ∷ []) new m ≡ length new = past_cut m ml in let q : cut (marks ++ length old ∷ []) new n ≡ length new = past_cut n lt in omega arith
      | inr mg ↦ let p : cut (marks ++ length old ∷ []) new m ≡ cut marks old m = same_cut m mg in let q : cut (marks ++ length old ∷ []) new n ≡ length new = past_cut n lt in let w = h.within m mg in omega arith
    ]
    | inr ge ↦ let p : cut (marks ++ length old ∷ []) new m ≡ cut marks old m = same_cut m (omega arith) in let q : cut (marks ++ length old ∷ []) new n ≡ cut marks old n = same_cut n ge in let w = h.ascends m n mn ge in omega arith
  ];
  within = λ n nl. elim (cases_lt (length claims) n) [
    | inl lt ↦ let q : cut (marks ++ length old ∷ []) new n ≡ length new = past_cut n lt in omega arith
    | inr ge ↦ let q : cut (marks ++ length old ∷ []) new n ≡ cut marks old n = same_cut n ge in let w = h.within n ge in omega arith
  ];
  stages = λ n nl. elim (cases_lt (length claims) n) [
    | inl lt ↦
        let long : length (claims ++ c ∷ []) ≡ length claims + 1 = length-append claims (c ∷ []) in
        let all : take n (claims ++ c ∷ []) ≡ claims ++ c ∷ [] = take_all n (claims ++ c ∷ []) (omega arith) in
        let whole : take (cut (marks ++ length old ∷ []) new n) new ≡ new = ap (λ k. take k new) (past_cut n lt) ∙ take_all (length new) new (omega arith) in
        subst (λ l. IsStage terms (take n (claims ++ c ∷ [])) l) (sym whole) (subst (λ x. IsStage terms x new) (sym all) s)
    | inr ge ↦
        let part : take n (claims ++ c ∷ []) ≡ take n claims = take-append-le n claims (c ∷ []) ge in
        let w = h.within n ge in
        let same : take (cut (marks ++ length old ∷ []) new n) new ≡ take (cut marks old n) old =
        ap (λ k. take k new) (same_cut n ge) ∙ sym (take-take (cut marks old n) (length old) new w) ∙ ap (take (cut marks old n)) f in
        subst (λ l. IsStage terms (take n (claims ++ c ∷ [])) l) (sym same) (subst (λ x. IsStage terms x (take (cut marks old n) old)) (sym part) (h.stages n ge))
  ];
}
  where
    same_cut : (n : ℕ) → n ≤ length claims → cut (marks ++ length old ∷ []) new n ≡ cut marks old n
    same_cut n le = elim (cases_eq n (length marks)) [
      | inl e ↦ get_or_at marks (length old) [] (length new) n (sym e) ∙ sym (get_or_past marks n (length old) (omega arith))
      | inr o ↦ let m = h.marked in get_or_append_left marks (length old ∷ []) (length new) n (omega arith) ∙ get_or_default marks n (length new) (length old) (omega arith)
    ]

    past_cut : (n : ℕ) → length claims < n → cut (marks ++ length old ∷ []) new n ≡ length new
    past_cut n lt = get_or_past (marks ++ length old ∷ []) n (length new) (let long : length (marks ++ length old ∷ []) ≡ length marks + 1 = length-append marks (length old ∷ []) in let m = h.marked in omega arith)

-- back to the first claims
pub history_back : (terms : List Applied) (claims : List Claim) (marks : List ℕ) (log : List Merge) (mark : ℕ) → IsHistory terms claims marks log → mark < length claims →
    IsHistory terms (take mark claims) (take mark marks) (take (cut marks log mark) log)
history_back terms claims marks log mark h lt = record {
  marked = length-take-le mark marks (let m = h.marked in omega arith) ∙ sym (length-take-le mark claims (omega arith));
  ascends = λ m n mn nl. let k = few nl in let p = same_cut m (omega arith) in let q = same_cut n k in let w = h.ascends m n mn (omega arith) in omega (arith, p, q, w);
  within = λ n nl. let k = few nl in let q = same_cut n k in let w = h.ascends n mark k (omega arith) in let v = length_cut in omega (arith, q, w, v);
  stages = λ n nl.
      let k = few nl in
      let w = h.ascends n mark k (omega arith) in
      let part : take n (take mark claims) ≡ take n claims = take-take n mark claims k in
      let same : take (cut (take mark marks) (take (cut marks log mark) log) n) (take (cut marks log mark) log) ≡ take (cut marks log n) log =
      ap (λ x. take x (take (cut marks log mark) log)) (same_cut n k) ∙ take-take (cut marks log n) (cut marks log mark) log w in
      subst (λ l. IsStage terms (take n (take mark claims)) l) (sym same) (subst (λ x. IsStage terms x (take (cut marks log n) log)) (sym part) (h.stages n (omega arith)));
}
  where
    length_cut : length (take (cut marks log mark) log) ≡ cut marks log mark
    length_cut = length-take-le (cut marks log mark) log (h.within mark (omega arith))

    few : {n : ℕ} → n ≤ length (take mark claims) → n ≤ mark
    few nl = let l : length (take mark claims) ≡ mark = length-take-le mark claims (omega arith) in omega arith

    same_cut : (n : ℕ) → n ≤ mark → cut (take mark marks) (take (cut marks log mark) log) n ≡ cut marks log n
    same_cut n le = elim (cases_eq n mark) [
      | inl e ↦ get_or_past (take mark marks) n (length (take (cut marks log mark) log)) (let l : length (take mark marks) ≡ mark = length-take-le mark marks (let m = h.marked in omega arith) in omega arith) ∙ length_cut ∙ ap (cut marks log) (sym e)
      | inr o ↦
          let l : length (take mark marks) ≡ mark = length-take-le mark marks (let m = h.marked in omega arith) in
          let m = h.marked in
          get_or_default (take mark marks) n (length (take (cut marks log mark) log)) (length log) (omega arith) ∙ get_or-take mark marks n (length log) (omega arith)
    ]

-- no claims
pub history_none : (terms : List Applied) (log : List Merge) → AreJustified terms [] log → IsClosed terms log → IsHistory terms [] [] log
history_none terms log justified closed = record {
  marked = refl;
  ascends = λ m n mn nl. let p : cut [] log m ≡ length log = get_or_past [] m (length log) (omega arith) in let q : cut [] log n ≡ length log = get_or_past [] n (length log) (omega arith) in omega arith;
  within = λ n nl. let q : cut [] log n ≡ length log = get_or_past [] n (length log) (omega arith) in omega arith;
  stages = λ n nl.
      let all : take n [] ≡ [] = take_all n [] (omega arith) in
      let whole : take (cut [] log n) log ≡ log = ap (λ k. take k log) (get_or_past [] n (length log) (omega arith)) ∙ take_all (length log) log (omega arith) in
      let P : List Claim → Type 0 = λ x. IsStage terms x (take (cut [] log n) log) in
      subst P (sym all) (subst (λ l. IsStage terms [] l) (sym whole) record { justified = justified; closed = closed; met = λ i a b e. absurd (says_nothing None a b refl e) });
}

-- the stage of all claims
pub stage_now : (terms : List Applied) (claims : List Claim) (marks : List ℕ) (log : List Merge) → IsHistory terms claims marks log → IsStage terms claims log
stage_now terms claims marks log h =
    let m = h.marked in
    let all : take (length claims) claims ≡ claims = take_all (length claims) claims (omega arith) in
    let whole : take (cut marks log (length claims)) log ≡ log = ap (λ k. take k log) (get_or_past marks (length claims) (length log) (omega arith)) ∙ take_all (length log) log (omega arith) in
    subst (λ l. IsStage terms claims l) whole (subst (λ x. IsStage terms x (take (cut marks log (length claims)) log)) all (h.stages (length claims) (omega arith)))

begun : (old : List Merge) (c : Claim) (n : ℕ) → (take (length old) (with_merge old c.left c.right (Claimed n)) ≡ old) × (length old ≤ length (with_merge old c.left c.right (Claimed n)))
begun old c n = with_cases (λ log. (take (length old) log ≡ old) × (length old ≤ length log)) old c.left c.right (Claimed n)
    (λ h. (take_all (length old) old (omega arith), omega arith))
    (take_at old (record { left = c.left; right = c.right; reason = Claimed n; moved = current old c.left } ∷ []) (length old) refl, (let long : length (old ++ record { left = c.left; right = c.right; reason = Claimed n; moved = current old c.left } ∷ []) ≡ length old + 1 = length-append old _ in omega arith))

grown_front : (old mid new : List Merge) → take (length old) mid ≡ old → length old ≤ length mid → take (length mid) new ≡ mid → length mid ≤ length new → take (length old) new ≡ old
grown_front old mid new f l g k = sym (take-take (length old) (length mid) new l) ∙ ap (take (length old)) g ∙ f

cond_either : (b : Bool) (x : ℕ) → cond b x x ≡ x
cond_either true x = refl
cond_either false x = refl

right_end : (old : List Merge) (c : Claim) (n : ℕ) → across record { left = c.left; right = c.right; reason = Claimed n; moved = current old c.left } (representative old (length old)) c.right ≡ representative old (length old) c.right
right_end old c n = cond_either (nat_eq (representative old (length old) c.right) (representative old (length old) c.left)) (representative old (length old) c.right)

now_merged : (old : List Merge) (c : Claim) (n : ℕ) → current (old ++ record { left = c.left; right = c.right; reason = Claimed n; moved = current old c.left } ∷ []) c.left ≡ current (old ++ record { left = c.left; right = c.right; reason = Claimed n; moved = current old c.left } ∷ []) c.right
now_merged old c n =
    let m : Merge = record { left = c.left; right = c.right; reason = Claimed n; moved = current old c.left } in
    let long : length (old ++ record { left = c.left; right = c.right; reason = Claimed n; moved = current old c.left } ∷ []) ≡ suc (length old) = length-append old _ ∙ omega arith in
    let whole : (x : ℕ) → current (old ++ record { left = c.left; right = c.right; reason = Claimed n; moved = current old c.left } ∷ []) x ≡ across record { left = c.left; right = c.right; reason = Claimed n; moved = current old c.left } (representative old (length old)) x = λ x.
    ap (λ k. representative (old ++ record { left = c.left; right = c.right; reason = Claimed n; moved = current old c.left } ∷ []) k x) long
    ∙ last_one old record { left = c.left; right = c.right; reason = Claimed n; moved = current old c.left } x in
    whole c.left ∙ crosses record { left = c.left; right = c.right; reason = Claimed n; moved = current old c.left } (representative old (length old)) c.left refl ∙ sym (right_end old c n) ∙ sym (whole c.right)

-- a claim of an equality, merged in one order of its sides
stage_either : (terms : List Applied) (claims : List Claim) (c : Claim) (old mid new : List Merge) (a b : ℕ) → IsStage terms claims old → mid ≡ with_merge old a b (Claimed (length claims)) →
    is_reason terms (claims ++ c ∷ []) (current old) (Claimed (length claims)) a b ≡ true → ((f : ℕ → ℕ) → f a ≡ f b → f c.left ≡ f c.right) →
    Grown terms mid new → IsClosed terms new → IsStage terms (claims ++ c ∷ []) new
stage_either terms claims c old mid new a b s h reason turn g' closed =
    let why = Claimed (length claims) in
    let g : Grown terms (with_merge old a b (Claimed (length claims))) new = subst (λ m. Grown terms m new) h g' in
    let x = begun old record { left = a; right = b; equal = true } (length claims) in
    let l = g.longer in
    stage_more terms claims c old new s
    (grown_front old (with_merge old a b why) new x.0 x.1 g.front g.longer) (omega (arith, x.1, l))
    (g.justified (claims ++ c ∷ []) (with_cases (AreJustified terms (claims ++ c ∷ [])) old a b why (λ same. still_justified terms claims c old s.justified)
    (justified_more terms (claims ++ c ∷ []) old record { left = a; right = b; reason = why; moved = current old a } (still_justified terms claims c old s.justified) reason)))
    closed
    (λ same. turn (current new) (still_merged (with_merge old a b why) new g.front g.longer a b (with_cases (λ log. current log a ≡ current log b) old a b why (λ e. e) (now_merged old record { left = a; right = b; equal = true } (length claims)))))

-- and in either
pub stage_merged : (terms : List Applied) (claims : List Claim) (c : Claim) (old mid new : List Merge) → c.equal ≡ true → IsStage terms claims old →
    IsMerged old c.left c.right (Claimed (length claims)) mid → Grown terms mid new → IsClosed terms new → IsStage terms (claims ++ c ∷ []) new
stage_merged terms claims c old mid new e s (inl h) g closed =
    stage_either terms claims c old mid new c.left c.right s h (ap (λ b. b || is_claimed (claims ++ c ∷ []) (length claims) c.right c.left) (claimed_last claims c e)) (λ f q. q) g closed
stage_merged terms claims c old mid new e s (inr h) g closed =
    stage_either terms claims c old mid new c.right c.left s h (or_right (is_claimed (claims ++ c ∷ []) (length claims) c.right c.left) _ (claimed_last claims c e)) (λ f q. sym q) g closed

pub longer_on : (old mid new : List Merge) → IsLonger old mid → IsLonger mid new → IsLonger old new
longer_on old mid new g h = let l = g.longer in let k = h.longer in record { front = grown_front old mid new g.front g.longer h.front h.longer; longer = omega arith }

-- a claim that two terms aren't equal merges nothing
pub history_denied : (terms : List Applied) (claims : List Claim) (marks : List ℕ) (a b : ℕ) (log : List Merge) → IsHistory terms claims marks log → IsHistory terms (claims ++ record { left = a; right = b; equal = false } ∷ []) (marks ++ length log ∷ []) log
history_denied terms claims marks a b log h =
    let s = stage_now terms claims marks log h in
    history_more terms claims marks record { left = a; right = b; equal = false } log log h (take_all (length log) log (omega arith)) (omega arith)
    (stage_more terms claims record { left = a; right = b; equal = false } log log s (take_all (length log) log (omega arith)) (omega arith) (still_justified terms claims record { left = a; right = b; equal = false } log s.justified) s.closed (λ e. absurd (let f : false ≡ true = e in cc)))

pub history_again : (terms : List Applied) (claims claims' : List Claim) (marks marks' : List ℕ) (log log' : List Merge) → claims' ≡ claims → marks' ≡ marks → log' ≡ log → IsHistory terms claims marks log → IsHistory terms claims' marks' log'
history_again terms claims claims' marks marks' log log' e f g h =
    subst (λ x. IsHistory terms x marks' log') (sym e) (subst (λ x. IsHistory terms claims x log') (sym f) (subst (IsHistory terms claims marks) (sym g) h))
