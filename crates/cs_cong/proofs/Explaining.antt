-- A walk whose merges are known is a chain, and each step of an explanation follows.
use Rattle.std.proofs.Common.{◌≡◌, ℕ, zero, suc, ◌<◌, ◌≤◌, ◌+◌, ◌⊎◌, inl, inr, Bool, true, false, nat_eq, ◌&&◌, ◌||◌, List, [], ◌∷◌, ◌++◌, length, get_or, slice_get, Some, None, All, refl, sym, ◌∙◌, ap, ap₂, subst, arith}
use Rattle.std.specs.BTreeSet.{BTreeSet, IsLowerBound, Updates}
use Rattle.std.specs.Ordering.{nat_cmp}
use Rattle.std.specs.List.{Contains}
use Rattle.std.proofs.lemmas.Bool.{cases_eq, eqb-true, and_parts}
use Rattle.std.proofs.lemmas.List.Elements.{All-nil, All-cons, All-head, All-tail, All-weaker, Contains-append_left, Contains-push}
use Rattle.std.proofs.lemmas.Option.{slice_get-get_or, same_Some}
use Rattle.cs_cong.specs.declared.congruent.Applied.{Applied}
use Rattle.cs_cong.specs.declared.congruent.Claim.{Claim}
use Rattle.cs_cong.specs.declared.explain.Chain.{Chain}
use Rattle.cs_cong.specs.declared.explain.Derived.{Derived}
use Rattle.cs_cong.specs.declared.explain.Derived.TheVariants.{Path, Congruent}
use Rattle.cs_cong.specs.declared.merges.Merge.{Merge}
use Rattle.cs_cong.specs.declared.merges.Reason.TheVariants.{Claimed, Congruence}
use Rattle.cs_cong.specs.declared.paths.Edge.{Edge}
use Rattle.cs_cong.specs.Merged.{merge_at, representative}
use Rattle.cs_cong.specs.Joined.{is_claimed, all_same, alike, are_congruent, is_reason, AreJustified}
use Rattle.cs_cong.specs.Walks.{walk, start_of, end_of, Leads, arrived, goes}
use Rattle.cs_cong.specs.Explained.{Ends, Joins, AreJoinedBy, IsKnown, by_claim, by_step, turned, IsChain, alone, linked, AreEqual, AreCongruent, Follows, IsDerivation, Explains}
use Rattle.cs_cong.specs.Marked.{is_marked}
use Rattle.cs_cong.specs.Needed.{ends, AreMarked, IsMergeKnown, AreKnown, KeepsSteps, HasPath, HasPart, HasFirst, HasCongruence, HasMerge, AreKnownBelow, AreKnownBut, ArePartsMarked, IsBacked, AreBacked, IsReady}
use Rattle.cs_cong.proofs.Marks.{first_is, other_at}
use Rattle.cs_cong.proofs.Walks.{walk_leads}
use Rattle.cs_cong.proofs.Steps.{joined_more, known_more, named_more, one_step, kept_push}

-- the edges of a walk are merges before its time
leads_below : (log : List Merge) (t a b : ℕ) (es : List Edge) → Leads log t a es b → All (λ e. e.merge < t) es
leads_below log t a b es (arrived z) = All-nil (λ (e : Edge). e.merge < t)
leads_below log t a b es (goes {es = rest} e lt on) = All-cons (λ (x : Edge). x.merge < t) e rest lt (leads_below log t _ b rest on)

pub walk_below : (log : List Merge) (t a b : ℕ) → representative log t a ≡ representative log t b → All (λ e. e.merge < t) (walk log t a b)
walk_below log t a b same = leads_below log t a b (walk log t a b) (walk_leads log t a b same)

edge_known : (log : List Merge) (claims : List Claim) (named : List ℕ) (steps : List Derived) (k : ℕ) (forward : Bool) → IsMergeKnown log claims named steps k →
    IsKnown claims named steps (start_of forward (merge_at log k)) (end_of forward (merge_at log k))
edge_known log claims named steps k true known = known
edge_known log claims named steps k false known = turned known

leads_chain : (log : List Merge) (claims : List Claim) (named : List ℕ) (steps : List Derived) (t a b : ℕ) (es : List Edge) → Leads log t a es b → AreKnown log claims named steps es →
    IsChain claims named steps a (a ∷ ends log es) b
leads_chain log claims named steps t a b es (arrived z) known = alone z
leads_chain log claims named steps t a b es (goes {es = rest} e lt on) known =
    linked (edge_known log claims named steps e.merge e.forward (All-head (λ (x : Edge). IsMergeKnown log claims named steps x.merge) e rest known))
    (leads_chain log claims named steps t _ b rest on (All-tail (λ (x : Edge). IsMergeKnown log claims named steps x.merge) e rest known))

leads_ends : (log : List Merge) (t a b : ℕ) (es : List Edge) → Leads log t a es b → Ends (a ∷ ends log es) a b
leads_ends log t a b es (arrived z) = (refl, refl)
leads_ends log t a b es (goes {es = rest} e lt on) = (refl, (leads_ends log t _ b rest on).1)

-- a path is added
module _ (log : List Merge) (t a b : ℕ) (same : representative log t a ≡ representative log t b) (steps : List Derived) (d : Derived) where
  -- as the terms of the walk
  abbrev pub IsWalk : Derived → Type 0
  IsWalk (Path path) = path.items ≡ a ∷ ends log (walk log t a b)
  IsWalk (Congruent x y) = ⊥

  joins : (s : Derived) → IsWalk s → Joins s a b
  joins (Path path) e = subst (λ xs. Ends xs a b) (sym e) (leads_ends log t a b (walk log t a b) (walk_leads log t a b same))
  joins (Congruent x y) e = absurd e

  path_follows : (terms : List Applied) (claims : List Claim) (named : List ℕ) → AreKnown log claims named steps (walk log t a b) → (s : Derived) → IsWalk s → Follows terms claims named steps s
  path_follows terms claims named known (Path path) e = (a, b, subst (λ xs. IsChain claims named steps a xs b) (sym e) (leads_chain log claims named steps t a b (walk log t a b) (walk_leads log t a b same) known))
  path_follows terms claims named known (Congruent x y) e = absurd e

  pub has_path : IsWalk d → HasPath log t a b steps (steps ++ d ∷ [])
  has_path e = record {
    added = (d, refl, joins d e);
    follows = λ terms claims named known is. one_step terms claims named steps d (path_follows terms claims named known d e) is;
  }

pub part_same : (log : List Merge) (t a b : ℕ) (steps : List Derived) → a ≡ b → HasPart log t a b steps steps
part_same log t a b steps e = record { kept = λ d in'. in'; equal = inl e; follows = λ terms claims named known is. is }

pub part_path : (log : List Merge) (t a b : ℕ) (old new : List Derived) → HasPath log t a b old new → HasPart log t a b old new
part_path log t a b old new h =
    let d = h.added.0 in
    record {
      kept = λ e in'. subst (λ l. Contains l e) (sym h.added.1) (kept_push old d e in');
      equal = inr (d, subst (λ l. Contains l d) (sym h.added.1) (Contains-push old d), h.added.2);
      follows = h.follows;
    }

pub all_known_more : (log : List Merge) (claims : List Claim) (named : List ℕ) (old new : List Derived) → KeepsSteps old new → (es : List Edge) → AreKnown log claims named old es → AreKnown log claims named new es
all_known_more log claims named old new kept es known = All-weaker (λ (e : Edge). IsMergeKnown log claims named old e.merge) (λ (e : Edge). IsMergeKnown log claims named new e.merge) (λ e k. known_more claims named named old new (λ i h. h) kept _ _ k) es known

-- the parts before n, and one more
pub first_none : (log : List Merge) (t : ℕ) (xs ys : List ℕ) (steps : List Derived) → HasFirst 0 log t xs ys steps steps
first_none log t xs ys steps = record { kept = λ d in'. in'; equal = λ k lt. absurd (omega arith); follows = λ terms claims named known is. is }

pub first_more : (n : ℕ) (log : List Merge) (t : ℕ) (xs ys : List ℕ) (old mid new : List Derived) → n < length xs → HasFirst n log t xs ys old mid → HasPart log t (get_or xs n 0) (get_or ys n 0) mid new → HasFirst (n + 1) log t xs ys old new
first_more n log t xs ys old mid new lt h p = record {
  kept = λ d in'. p.kept d (h.kept d in');
  equal = λ k below. elim (cases_eq k n) [
    | inl is ↦ subst (λ j. (get_or xs j 0 ≡ get_or ys j 0) ⊎ AreJoinedBy new (get_or xs j 0) (get_or ys j 0)) (sym is) p.equal
    | inr other ↦ elim (h.equal k (omega arith)) [
      | inl e ↦ inl e
      | inr j ↦ inr (joined_more mid new p.kept (get_or xs k 0) (get_or ys k 0) j)
    ]
  ];
  follows = λ terms claims named known is.
      p.follows terms claims named (all_known_more log claims named old mid h.kept (walk log t (get_or xs n 0) (get_or ys n 0)) (known n lt)) (h.follows terms claims named known is);
}

pub first_all : (n : ℕ) (log : List Merge) (t : ℕ) (xs ys : List ℕ) (old new : List Derived) → length xs ≤ n → HasFirst n log t xs ys old new → HasFirst (length xs) log t xs ys old new
first_all n log t xs ys old new le h = record { kept = h.kept; equal = λ k lt. h.equal k (omega arith); follows = h.follows }

-- parts with the same representatives, at each place
pub same_length : (f : ℕ → ℕ) (xs ys : List ℕ) → all_same f xs ys ≡ true → length xs ≡ length ys
same_length f [] [] e = refl
same_length f [] (y ∷ ys) e = absurd (let h : false ≡ true = e in cc)
same_length f (x ∷ xs) [] e = absurd (let h : false ≡ true = e in cc)
same_length f (x ∷ xs) (y ∷ ys) e = ap suc (same_length f xs ys (and_parts (nat_eq (f x) (f y)) (all_same f xs ys) e).1)

pub same_at : (f : ℕ → ℕ) (xs ys : List ℕ) → all_same f xs ys ≡ true → (k : ℕ) → k < length xs → f (get_or xs k 0) ≡ f (get_or ys k 0)
same_at f [] ys e k lt = absurd (omega arith)
same_at f (x ∷ xs) [] e k lt = absurd (let h : false ≡ true = e in cc)
same_at f (x ∷ xs) (y ∷ ys) e zero lt = eqb-true _ _ (and_parts (nat_eq (f x) (f y)) (all_same f xs ys) e).0
same_at f (x ∷ xs) (y ∷ ys) e (suc k) lt = same_at f xs ys (and_parts (nat_eq (f x) (f y)) (all_same f xs ys) e).1 k (omega arith)

-- the parts of two congruent terms
pub parts_same : (terms : List Applied) (f : ℕ → ℕ) (a b : ℕ) (s t : Applied) → are_congruent terms f a b ≡ true → slice_get terms a ≡ Some s → slice_get terms b ≡ Some t → (s.head ≡ t.head) × (all_same f s.parts.items t.parts.items ≡ true)
parts_same terms f a b s t c at bt =
    let e : (nat_eq s.head t.head && all_same f s.parts.items t.parts.items) ≡ true = sym (ap₂ (alike f) at bt) ∙ c in
    let p = and_parts (nat_eq s.head t.head) (all_same f s.parts.items t.parts.items) e in
    (eqb-true _ _ p.0, p.1)

-- the congruence of two terms is added
pub has_congruence : (terms : List Applied) (log : List Merge) (t a b : ℕ) (one other : Applied) (xs ys : List ℕ) (old mid : List Derived) → are_congruent terms (representative log t) a b ≡ true →
    slice_get terms a ≡ Some one → slice_get terms b ≡ Some other → xs ≡ one.parts.items → ys ≡ other.parts.items → HasFirst (length xs) log t xs ys old mid → HasCongruence terms log t a b old (mid ++ Congruent a b ∷ [])
has_congruence terms log t a b one other xs ys old mid c at bt ex ey first =
    let h : HasFirst (length one.parts.items) log t one.parts.items other.parts.items old mid =
    subst (λ l. HasFirst (length one.parts.items) log t one.parts.items l old mid) ey (subst (λ l. HasFirst (length l) log t l ys old mid) ex first) in
    let p = parts_same terms (representative log t) a b one other c at bt in
    let equal : AreEqual mid one.parts.items other.parts.items = record { as_many = same_length (representative log t) one.parts.items other.parts.items p.1; each = h.equal } in
    record {
      kept = λ d in'. kept_push mid (Congruent a b) d (h.kept d in');
      joined = (Congruent a b, Contains-push mid (Congruent a b), (refl, refl));
      follows = λ claims named ready is.
          one_step terms claims named mid (Congruent a b) (subst (AreCongruent mid (slice_get terms a)) (sym bt) (subst (λ o. AreCongruent mid o (Some other)) (sym at) (p.0, equal)))
          (h.follows terms claims named (ready one other at bt) is);
    }

-- a merge by congruence
pub merge_congruent : (terms : List Applied) (claims : List Claim) (log : List Merge) (k : ℕ) (old new : Chain) → new.claims.items ≡ old.claims.items →
    HasCongruence terms log k (merge_at log k).left (merge_at log k).right old.steps.items new.steps.items → (merge_at log k).reason ≡ Congruence → HasMerge terms claims log k old new
merge_congruent terms claims log k old new same h why = record {
  kept = λ a b known. subst (λ ns. IsKnown claims ns new.steps.items a b) (sym same) (known_more claims old.claims.items old.claims.items old.steps.items new.steps.items (λ i in'. in') h.kept a b known);
  known = by_step h.joined;
  follows = λ ready is. subst (λ ns. IsDerivation terms claims ns new.steps.items) (sym same) (h.follows claims old.claims.items (ready why) is);
}

-- a merge by a claim
claimed_known : (claims : List Claim) (named : List ℕ) (steps : List Derived) (i a b : ℕ) → Contains named i → (is_claimed claims i a b || is_claimed claims i b a) ≡ true →
    IsKnown claims named steps a b
claimed_known claims named steps i a b in' e = go (is_claimed claims i a b) refl e
  where
    go : (t : Bool) → is_claimed claims i a b ≡ t → (t || is_claimed claims i b a) ≡ true → IsKnown claims named steps a b
    go true is h = by_claim i in' is
    go false is h = turned (by_claim i in' h)

claim_named : (terms : List Applied) (claims : List Claim) (named : List ℕ) (steps : List Derived) (i a b : ℕ) → (is_claimed claims i a b || is_claimed claims i b a) ≡ true →
    IsDerivation terms claims named steps → IsDerivation terms claims (named ++ i ∷ []) steps
claim_named terms claims named steps i a b e d = go (is_claimed claims i a b) refl e
  where
    go : (t : Bool) → is_claimed claims i a b ≡ t → (t || is_claimed claims i b a) ≡ true → IsDerivation terms claims (named ++ i ∷ []) steps
    go true is h = named_more terms claims named i a b steps is d
    go false is h = named_more terms claims named i b a steps h d

pub merge_claimed : (terms : List Applied) (claims : List Claim) (log : List Merge) (k i : ℕ) (old new : Chain) → new.claims.items ≡ old.claims.items ++ i ∷ [] → new.steps.items ≡ old.steps.items →
    (is_claimed claims i (merge_at log k).left (merge_at log k).right || is_claimed claims i (merge_at log k).right (merge_at log k).left) ≡ true → HasMerge terms claims log k old new
merge_claimed terms claims log k i old new named same e =
    let ns = old.claims.items in
    record {
      kept = λ a b known. subst (λ l. IsKnown claims new.claims.items l a b) (sym same) (subst (λ l. IsKnown claims l old.steps.items a b) (sym named) (known_more claims ns (ns ++ i ∷ []) old.steps.items old.steps.items (λ j. Contains-append_left ns (i ∷ []) j) (λ d in'. in') a b known));
      known = claimed_known claims new.claims.items new.steps.items i _ _ (subst (λ l. Contains l i) (sym named) (Contains-push ns i)) e;
      follows = λ ready is. subst (λ l. IsDerivation terms claims new.claims.items l) (sym same) (subst (λ l. IsDerivation terms claims l old.steps.items) (sym named) (claim_named terms claims ns old.steps.items i _ _ e is));
    }

-- what is marked is known, so what a walk needs is known
pub marked_known : (log : List Merge) (claims : List Claim) (marks : BTreeSet ℕ) (named : List ℕ) (steps : List Derived) (t : ℕ) → AreKnownBelow t log claims marks named steps → (es : List Edge) → All (λ e. e.merge < t) es → AreMarked marks es → AreKnown log claims named steps es
marked_known log claims marks named steps t known es below marked k d lt = known (get_or es k d).merge (below k d lt) (marked k d lt)

pub no_derivation : (terms : List Applied) (claims : List Claim) → IsDerivation terms claims [] []
no_derivation terms claims = record { claimed = λ i in'. absurd (let lt = in'.1 in omega arith); each = λ n d at. absurd (let none : None ≡ Some d = at in cc) }

-- the edges of a list that is the walk
pub walk_within : (log : List Merge) (t a b : ℕ) → t ≤ length log → representative log t a ≡ representative log t b → (es : List Edge) → es ≡ walk log t a b → All (λ e. e.merge < length log) es
walk_within log t a b le same es is =
    subst (All (λ (e : Edge). e.merge < length log)) (sym is)
    (All-weaker (λ (e : Edge). e.merge < t) (λ (e : Edge). e.merge < length log) (λ e lt. omega arith) (walk log t a b) (walk_below log t a b same))

pub walk_marked : (log : List Merge) (t a b : ℕ) → representative log t a ≡ representative log t b → (marks : BTreeSet ℕ) (es : List Edge) → es ≡ walk log t a b → All (λ e. e.merge < t → is_marked marks e.merge ≡ true) es →
    AreMarked marks (walk log t a b)
walk_marked log t a b same marks es is all k d lt = subst (All (λ (e : Edge). e.merge < t → is_marked marks e.merge ≡ true)) is all k d lt (walk_below log t a b same k d lt)

-- a merge by congruence is of congruent terms
pub congruent_at : (terms : List Applied) (claims : List Claim) (log : List Merge) (k : ℕ) → AreJustified terms claims log → k < length log → (merge_at log k).reason ≡ Congruence →
    are_congruent terms (representative log k) (merge_at log k).left (merge_at log k).right ≡ true
congruent_at terms claims log k all lt why = sym (ap (λ w. is_reason terms claims (representative log k) w (merge_at log k).left (merge_at log k).right) why) ∙ all k lt

-- a merge by a claim is of the terms of this claim
pub claimed_at : (terms : List Applied) (claims : List Claim) (log : List Merge) (k i : ℕ) → AreJustified terms claims log → k < length log → (merge_at log k).reason ≡ Claimed i →
    (is_claimed claims i (merge_at log k).left (merge_at log k).right || is_claimed claims i (merge_at log k).right (merge_at log k).left) ≡ true
claimed_at terms claims log k i all lt why = sym (ap (λ w. is_reason terms claims (representative log k) w (merge_at log k).left (merge_at log k).right) why) ∙ all k lt

pub read_term : (terms : List Applied) (a : ℕ) (t : Applied) → a < length terms → t ≡ get_or terms a t → slice_get terms a ≡ Some t
read_term terms a t lt e = slice_get-get_or terms a t lt ∙ ap Some (sym e)

-- the merge of this number has marked what it needs
pub backed_at : (terms : List Applied) (log : List Merge) (marks : BTreeSet ℕ) (k : ℕ) (m : Merge) (one other : Applied) (xs ys : List ℕ) → m ≡ merge_at log k → slice_get terms m.left ≡ Some one → slice_get terms m.right ≡ Some other → xs ≡ one.parts.items → ys ≡ other.parts.items →
    are_congruent terms (representative log k) (merge_at log k).left (merge_at log k).right ≡ true → (all_same (representative log k) xs ys ≡ true → ArePartsMarked log marks k xs ys) →
    IsBacked terms log marks k
backed_at terms log marks k m one other xs ys is at bt ex ey c marked s u why at_s at_u =
    let left : slice_get terms (merge_at log k).left ≡ Some one = subst (λ (x : Merge). slice_get terms x.left ≡ Some one) is at in
    let right : slice_get terms (merge_at log k).right ≡ Some other = subst (λ (x : Merge). slice_get terms x.right ≡ Some other) is bt in
    let p = parts_same terms (representative log k) (merge_at log k).left (merge_at log k).right one other c left right in
    let mark : all_same (representative log k) one.parts.items other.parts.items ≡ true → ArePartsMarked log marks k one.parts.items other.parts.items =
    subst (λ l. all_same (representative log k) one.parts.items l ≡ true → ArePartsMarked log marks k one.parts.items l) ey (subst (λ l. all_same (representative log k) l ys ≡ true → ArePartsMarked log marks k l ys) ex marked) in
    subst (λ (x : Applied). ArePartsMarked log marks k x.parts.items u.parts.items) (same_Some one s (sym left ∙ at_s))
    (subst (λ (x : Applied). ArePartsMarked log marks k one.parts.items x.parts.items) (same_Some other u (sym right ∙ at_u)) (mark p.1))

-- what is marked below is known, so what the merge needs is known
ready_at : (terms : List Applied) (claims : List Claim) (log : List Merge) (marks : BTreeSet ℕ) (named : List ℕ) (steps : List Derived) (k : ℕ) → AreJustified terms claims log → k < length log → is_marked marks k ≡ true →
    AreBacked terms log marks 0 → AreKnownBelow k log claims marks named steps → (merge_at log k).reason ≡ Congruence → IsReady terms log claims named steps k (merge_at log k).left (merge_at log k).right
ready_at terms claims log marks named steps k all lt on backed known why s u at_s at_u j below =
    let p = parts_same terms (representative log k) (merge_at log k).left (merge_at log k).right s u (congruent_at terms claims log k all lt why) at_s at_u in
    let x = get_or s.parts.items j 0 in
    let y = get_or u.parts.items j 0 in
    marked_known log claims marks named steps k known (walk log k x y) (walk_below log k x y (same_at (representative log k) s.parts.items u.parts.items p.1 j below)) (backed k (omega arith) lt on s u why at_s at_u j below)

-- one marked merge more is derived
pub derive_step : (terms : List Applied) (claims : List Claim) (log : List Merge) (marks : BTreeSet ℕ) (k : ℕ) (old new : Chain) → AreJustified terms claims log → k < length log → is_marked marks k ≡ true → AreBacked terms log marks 0 →
    IsDerivation terms claims old.claims.items old.steps.items → AreKnownBelow k log claims marks old.claims.items old.steps.items → HasMerge terms claims log k old new →
    IsDerivation terms claims new.claims.items new.steps.items × AreKnownBelow (k + 1) log claims marks new.claims.items new.steps.items
derive_step terms claims log marks k old new all lt on backed is known h = (
  h.follows (ready_at terms claims log marks old.claims.items old.steps.items k all lt on backed known) is,
  λ j below marked. elim (cases_eq j k) [
    | inl same ↦ subst (IsMergeKnown log claims new.claims.items new.steps.items) (sym same) h.known
    | inr other ↦ h.kept (merge_at log j).left (merge_at log j).right (known j (omega arith) marked)
  ],
)

-- the first one that wasn't derived: those before it were
pub derive_next : (terms : List Applied) (claims : List Claim) (log : List Merge) (marks rest left : BTreeSet ℕ) (at : ℕ) (old new : Chain) → AreJustified terms claims log → at < length log → is_marked marks at ≡ true → AreBacked terms log marks 0 →
    IsLowerBound nat_cmp rest at → Updates nat_cmp rest left at false → IsDerivation terms claims old.claims.items old.steps.items → AreKnownBut rest log claims marks old.claims.items old.steps.items → HasMerge terms claims log at old new →
    IsDerivation terms claims new.claims.items new.steps.items × AreKnownBut left log claims marks new.claims.items new.steps.items
derive_next terms claims log marks rest left at old new all lt on backed least taken is known h =
    let step = derive_step terms claims log marks at old new all lt on backed is (λ j below marked. known j marked (first_is rest at j least below)) h in (
      step.0,
      λ k marked gone. elim (cases_eq k at) [
        | inl same ↦ subst (IsMergeKnown log claims new.claims.items new.steps.items) (sym same) h.known
        | inr other ↦ h.kept (merge_at log k).left (merge_at log k).right (known k marked (sym (taken.2 k (other_at at k other)) ∙ gone))
      ],
    )

-- with the path between the two the explanation is whole
pub explains : (terms : List Applied) (claims : List Claim) (log : List Merge) (marks : BTreeSet ℕ) (t a b : ℕ) (old new : Chain) → representative log (length log) a ≡ representative log (length log) b → AreMarked marks (walk log (length log) a b) →
    IsDerivation terms claims old.claims.items old.steps.items → AreKnownBelow (length log) log claims marks old.claims.items old.steps.items → new.claims.items ≡ old.claims.items →
    t ≡ length log → HasPath log t a b old.steps.items new.steps.items → Explains terms claims a b new
explains terms claims log marks t a b old new same marked is known named time path =
    let h : HasPath log (length log) a b old.steps.items new.steps.items = subst (λ n. HasPath log n a b old.steps.items new.steps.items) time path in
    record {
      derivation =
          subst (λ ns. IsDerivation terms claims ns new.steps.items) (sym named)
          (h.follows terms claims old.claims.items (marked_known log claims marks old.claims.items old.steps.items (length log) known (walk log (length log) a b) (walk_below log (length log) a b same) marked) is);
      ends = (old.steps.items, h.added.0, h.added.1, h.added.2);
    }
