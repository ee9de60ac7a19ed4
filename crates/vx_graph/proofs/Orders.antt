-- Steps of a depth-first search.
use Rattle.std.proofs.Common.{◌≡◌, ◌≢◌, ℕ, zero, suc, ◌+◌, ◌-◌, ◌*◌, ◌<◌, ◌≤◌, ◌⊎◌, inl, inr, Bool, true, false, ◌||◌, nat_eq, List, [], ◌∷◌, ◌++◌, length, get_or, take, set, refl, ap, arith, ◌∙◌, sym, subst, eq-eqb, append_assoc, Vec}
use Rattle.std.specs.Prelude.{All, Some, replicate}
use Rattle.std.proofs.lemmas.Bool.{false≢true}
use Rattle.std.proofs.lemmas.Bool.Decides.{eqb_tells}
use Rattle.std.proofs.lemmas.List.{get_or-set_other, get_or-replicate, length-set, length-append, length-map, length-replicate, map-append, take_more}
use Rattle.std.proofs.lemmas.List.Elements.{All-pop, All-push, All-append, All-map, All-nil}
use Rattle.std.specs.declared.alloc.Global.{Global}
use Rattle.vx_ast.specs.declared.MemberId.{MemberId}
use Rattle.vx_graph.specs.declared.order.Step.{Step}
use Rattle.vx_graph.specs.declared.order.Step.TheVariants.{Enter, Leave}
use Rattle.vx_graph.specs.Listed.{is_in, is_marked, set_in}
use Rattle.vx_graph.specs.Order.{member_of, enters, leaves, entries, Covered, ended, entered, unseen, Walks, edges_in, left_to_do}
use Rattle.vx_graph.specs.Reach.{Rows}
use Rattle.vx_graph.proofs.Lists.{pushed, one_more, at_most_all}
use Rattle.vx_graph.proofs.Searches.{is_in_front}

or_assoc : (a b c : Bool) → (a || (b || c)) ≡ ((a || b) || c)
or_assoc true b c = refl
or_assoc false b c = refl

or_no : (b : Bool) → (b || false) ≡ b
or_no true = refl
or_no false = refl

or_yes : (b c : Bool) → c ≡ true → (b || c) ≡ true
or_yes true c e = refl
or_yes false c e = e

or_first : (b c : Bool) → b ≡ true → (b || c) ≡ true
or_first b c e = ap (λ x. x || c) e

enters_behind : (xs ys : List Step) (n : ℕ) → enters (xs ++ ys) n ≡ (enters xs n || enters ys n)
enters_behind [] ys n = refl
enters_behind (Enter m ∷ xs) ys n = ap (λ b. nat_eq m.0 n || b) (enters_behind xs ys n) ∙ or_assoc (nat_eq m.0 n) (enters xs n) (enters ys n)
enters_behind (Leave m ∷ xs) ys n = enters_behind xs ys n

leaves_behind : (xs ys : List Step) (n : ℕ) → leaves (xs ++ ys) n ≡ (leaves xs n || leaves ys n)
leaves_behind [] ys n = refl
leaves_behind (Enter m ∷ xs) ys n = leaves_behind xs ys n
leaves_behind (Leave m ∷ xs) ys n = ap (λ b. nat_eq m.0 n || b) (leaves_behind xs ys n) ∙ or_assoc (nat_eq m.0 n) (leaves xs n) (leaves ys n)

-- one more member to enter
pub entries_more : (old : List Step) (ms : List MemberId) (i : ℕ) (m : MemberId) → i < length ms → (old ++ entries (take i ms)) ++ Enter (get_or ms i m) ∷ [] ≡ old ++ entries (take (i + 1) ms)
entries_more old ms i m within =
    append_assoc old (entries (take i ms)) (Enter (get_or ms i m) ∷ [])
    ∙ ap (λ xs. old ++ xs) (sym (map-append (λ (k : MemberId). Enter k) (take i ms) (get_or ms i m ∷ [])))
    ∙ ap (λ xs. old ++ entries xs) (sym (take_more ms i m within))

without : (n : ℕ) (stack : List Step) (s : Step) → All (λ k. (member_of k).0 < n) (stack ++ s ∷ []) → All (λ k. (member_of k).0 < n) stack × ((member_of s).0 < n)
without n stack s all = All-pop (λ (k : Step). (member_of k).0 < n) (stack ++ s ∷ []) stack (Some s) refl all

-- an end of the stack that is entered, or left
front_of : (m n : ℕ) (b : Bool) → (b || (nat_eq m n || false)) ≡ true → (b ≡ true) ⊎ (m ≡ n)
front_of m n true e = inl refl
front_of m n false e = go (eqb_tells m n)
  where
    go : ((nat_eq m n ≡ true) × (m ≡ n)) ⊎ ((nat_eq m n ≡ false) × (m ≢ n)) → (false ≡ true) ⊎ (m ≡ n)
    go (inl (t, same)) = inr same
    go (inr (f, other)) = absurd (false≢true (sym (ap (λ x. x || false) f) ∙ e))

pub member_below : (n : ℕ) (stack : List Step) (seen : List Bool) (ends : List MemberId) (s : Step) → Walks n (stack ++ s ∷ []) seen ends → (member_of s).0 < n
member_below n stack seen ends s w = (without n stack s w.steps).1

module _ (n : ℕ) (stack : List Step) (seen : List Bool) (ends : List MemberId) (m : MemberId) where
  -- the member was entered before
  pub walks_seen : Walks n (stack ++ Enter m ∷ []) seen ends → is_marked seen m.0 ≡ true → Walks n stack seen ends
  walks_seen w e = record {
    each = w.each;
    steps = (without n stack (Enter m) w.steps).0;
    within = w.within;
    covered = λ k lt. go k (w.covered k lt);
  }
    where
      still : (k : ℕ) → is_marked seen k ≡ false → (enters stack k ≡ true) ⊎ (m.0 ≡ k) → Covered stack seen ends k
      still k f (inl t) = unseen f t
      still k f (inr same) = absurd (false≢true (sym f ∙ subst (λ x. is_marked seen x ≡ true) same e))

      go : (k : ℕ) → Covered (stack ++ Enter m ∷ []) seen ends k → Covered stack seen ends k
      go k (ended t) = ended t
      go k (entered t) = entered (sym (or_no (leaves stack k)) ∙ sym (leaves_behind stack (Enter m ∷ []) k) ∙ t)
      go k (unseen f t) = still k f (front_of m.0 k (enters stack k) (sym (enters_behind stack (Enter m ∷ []) k) ∙ t))

  -- the member is entered now, and those that it leads to will be
  pub walks_entered : (new : List Step) (row : List MemberId) → Walks n (stack ++ Enter m ∷ []) seen ends → All (λ k. k.0 < n) row → new ≡ (stack ++ Leave m ∷ []) ++ entries row → Walks n new (set seen m.0 true) ends
  walks_entered new row w below is = record {
    each = length-set seen m.0 true ∙ w.each;
    steps = subst (All (λ k. (member_of k).0 < n)) (sym is)
        (All-append (λ (k : Step). (member_of k).0 < n) (stack ++ Leave m ∷ []) (entries row)
        (All-push (λ (k : Step). (member_of k).0 < n) stack (Leave m) before.0 before.1)
        (All-map (λ (k : Step). (member_of k).0 < n) (λ (k : MemberId). Enter k) row below));
    within = w.within;
    covered = λ k lt. subst (λ xs. Covered xs (set seen m.0 true) ends k) (sym is) (go k (w.covered k lt));
  }
    where
      before : All (λ k. (member_of k).0 < n) stack × (m.0 < n)
      before = without n stack (Enter m) w.steps

      leaves_still : (k : ℕ) → leaves (stack ++ Leave m ∷ []) k ≡ true → leaves ((stack ++ Leave m ∷ []) ++ entries row) k ≡ true
      leaves_still k t = leaves_behind (stack ++ Leave m ∷ []) (entries row) k ∙ or_first _ (leaves (entries row) k) t

      enters_still : (k : ℕ) → enters stack k ≡ true → enters ((stack ++ Leave m ∷ []) ++ entries row) k ≡ true
      enters_still k t = enters_behind (stack ++ Leave m ∷ []) (entries row) k ∙ or_first _ (enters (entries row) k) (enters_behind stack (Leave m ∷ []) k ∙ or_first (enters stack k) false t)

      last : (k : ℕ) → m.0 ≡ k → leaves (stack ++ Leave m ∷ []) k ≡ true
      last k same = leaves_behind stack (Leave m ∷ []) k ∙ or_yes (leaves stack k) (nat_eq m.0 k || false) (ap (λ b. b || false) (eq-eqb m.0 k same))

      new_one : (k : ℕ) → is_marked seen k ≡ false → enters stack k ≡ true → ((nat_eq m.0 k ≡ true) × (m.0 ≡ k)) ⊎ ((nat_eq m.0 k ≡ false) × (m.0 ≢ k)) → Covered ((stack ++ Leave m ∷ []) ++ entries row) (set seen m.0 true) ends k
      new_one k f t (inl (e, same)) = entered (leaves_still k (last k same))
      new_one k f t (inr (e, other)) = unseen (get_or-set_other seen m.0 k true false (λ q. other (sym q)) ∙ f) (enters_still k t)

      either : (k : ℕ) → is_marked seen k ≡ false → (enters stack k ≡ true) ⊎ (m.0 ≡ k) → Covered ((stack ++ Leave m ∷ []) ++ entries row) (set seen m.0 true) ends k
      either k f (inl t) = new_one k f t (eqb_tells m.0 k)
      either k f (inr same) = entered (leaves_still k (last k same))

      go : (k : ℕ) → Covered (stack ++ Enter m ∷ []) seen ends k → Covered ((stack ++ Leave m ∷ []) ++ entries row) (set seen m.0 true) ends k
      go k (ended t) = ended t
      go k (entered t) = entered (leaves_still k (leaves_behind stack (Leave m ∷ []) k ∙ or_first (leaves stack k) (nat_eq m.0 k || false) (sym (or_no (leaves stack k)) ∙ sym (leaves_behind stack (Enter m ∷ []) k) ∙ t)))
      go k (unseen f t) = either k f (front_of m.0 k (enters stack k) (sym (enters_behind stack (Enter m ∷ []) k) ∙ t))

  -- the member is left
  pub walks_left : (new : List MemberId) → Walks n (stack ++ Leave m ∷ []) seen ends → new ≡ ends ++ m ∷ [] → Walks n stack seen new
  walks_left new w is = record {
    each = w.each;
    steps = before.0;
    within = subst (All (λ k. k.0 < n)) (sym is) (All-push (λ (k : MemberId). k.0 < n) ends m w.within before.1);
    covered = λ k lt. subst (λ ms. Covered stack seen ms k) (sym is) (go k (w.covered k lt));
  }
    where
      before : All (λ k. (member_of k).0 < n) stack × (m.0 < n)
      before = without n stack (Leave m) w.steps

      either : (k : ℕ) → (leaves stack k ≡ true) ⊎ (m.0 ≡ k) → Covered stack seen (ends ++ m ∷ []) k
      either k (inl t) = entered t
      either k (inr same) = ended (subst (λ x. is_in (ends ++ m ∷ []) x ≡ true) same (pushed ends m))

      go : (k : ℕ) → Covered (stack ++ Leave m ∷ []) seen ends k → Covered stack seen (ends ++ m ∷ []) k
      go k (ended t) = ended (is_in_front ends (m ∷ []) k t)
      go k (entered t) = either k (front_of m.0 k (leaves stack k) (sym (leaves_behind stack (Leave m ∷ []) k) ∙ t))
      go k (unseen f t) = unseen f (sym (or_no (enters stack k)) ∙ sym (enters_behind stack (Leave m ∷ []) k) ∙ t)

-- at first all are to be entered
pub walks_first : (n : ℕ) (stack : List Step) (seen : List Bool) (ends : List MemberId) → seen ≡ replicate n false → ends ≡ [] → All (λ s. (member_of s).0 < n) stack → ((k : ℕ) → k < n → enters stack k ≡ true) → Walks n stack seen ends
walks_first n stack seen ends none start steps all = record {
  each = ap length none ∙ length-replicate n false;
  steps = steps;
  within = subst (All (λ m. m.0 < n)) (sym start) (All-nil (λ (m : MemberId). m.0 < n));
  covered = λ k lt. unseen (ap (λ xs. is_marked xs k) none ∙ get_or-replicate n k false false lt) (all k lt);
}

pub enters_more : (n : ℕ) (stack : List Step) (m : MemberId) → m.0 ≡ n → ((k : ℕ) → k < n → enters stack k ≡ true) → (k : ℕ) → k < n + 1 → enters (stack ++ Enter m ∷ []) k ≡ true
enters_more n stack m at all k lt = enters_behind stack (Enter m ∷ []) k ∙ go (eqb_tells m.0 k)
  where
    go : ((nat_eq m.0 k ≡ true) × (m.0 ≡ k)) ⊎ ((nat_eq m.0 k ≡ false) × (m.0 ≢ k)) → (enters stack k || (nat_eq m.0 k || false)) ≡ true
    go (inl (e, same)) = or_yes (enters stack k) (nat_eq m.0 k || false) (ap (λ b. b || false) e)
    go (inr (f, other)) = or_first (enters stack k) (nat_eq m.0 k || false) (all k (omega (arith, lt, other, at)))

-- at last all have been left
pub walks_last : (n : ℕ) (seen : List Bool) (ends : List MemberId) → Walks n [] seen ends → (k : ℕ) → k < n → is_in ends k ≡ true
walks_last n seen ends w k lt = go (w.covered k lt)
  where
    go : Covered [] seen ends k → is_in ends k ≡ true
    go (ended t) = t
    go (entered t) = absurd (false≢true t)
    go (unseen f t) = absurd (false≢true t)

row_edges : (rows : Rows) (i : ℕ) (row : Vec MemberId Global) → i < length rows → row ≡ get_or rows i row → length row.items ≤ edges_in rows
row_edges [] i row within is = absurd (omega arith)
row_edges (r ∷ rows) zero row within is = let e = ap (λ (v : Vec MemberId Global). length v.items) is in omega arith
row_edges (r ∷ rows) (suc i) row within is = let less = row_edges rows i row (omega arith) is in omega arith

fewer : (u w s r : ℕ) → r + 1 ≤ w → u * w + (s + 1 + r) ≤ (u + 1) * w + s
fewer u w s r h = omega arith

pub does_more : (rows : Rows) (stack new : List Step) (seen : List Bool) (m : MemberId) (row : Vec MemberId Global) → m.0 < length rows → row ≡ get_or rows m.0 row → length seen ≡ length rows → is_marked seen m.0 ≡ false →
    new ≡ (stack ++ Leave m ∷ []) ++ entries row.items → left_to_do rows new (set seen m.0 true) ≤ left_to_do rows stack seen
does_more rows stack new seen m row within is each f new_is =
    let counted = one_more seen m.0 (subst (λ k. m.0 < k) (sym each) within) f in
    let most = at_most_all (set seen m.0 true) in
    let same = length-set seen m.0 true in
    let long : length new ≡ length stack + 1 + length row.items = ap length new_is ∙ length-append (stack ++ Leave m ∷ []) (entries row.items) ∙ ap (λ k. k + length (entries row.items)) (length-append stack (Leave m ∷ [])) ∙ ap (λ k. length stack + 1 + k) (length-map row.items (λ (k : MemberId). Enter k)) in
    let few = row_edges rows m.0 row within is in
    counts (length seen) (length (set seen m.0 true)) (set_in seen) (set_in (set seen m.0 true)) (edges_in rows + 1) (length stack) (length new) (length row.items) same counted most long (omega arith)
  where
    counts : (all all' marked marked' w s s' r : ℕ) → all' ≡ all → marked' ≡ marked + 1 → marked' ≤ all' → s' ≡ s + 1 + r → r + 1 ≤ w → (all' - marked') * w + s' ≤ (all - marked) * w + s
    counts all all' marked marked' w s s' r a b c d h =
        let u : all - marked ≡ (all' - marked') + 1 = omega arith in
        subst (λ x. (all' - marked') * w + s' ≤ x * w + s) (sym u) (subst (λ x. (all' - marked') * w + x ≤ ((all' - marked') + 1) * w + s) (sym d) (fewer (all' - marked') w s r h))
