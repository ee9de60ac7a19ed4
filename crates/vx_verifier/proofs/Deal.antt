-- How runs are dealt out of their piles.
use Rattle.std.proofs.Common.{◌≡◌, ◌⊎◌, ℕ, zero, suc, ◌+◌, ◌-◌, ◌<◌, ◌≤◌, ◌%◌, ◌++◌, ◌∷◌, [], List, Some, length, reverse, slice_get, slice_set, refl, ap, ◌∙◌, sym, subst, inl, inr, append_assoc, append-nil, arith}
use Rattle.std.proofs.lemmas.Grind.{common_steps}
use Rattle.std.proofs.lemmas.List.{reverse-append}
use Rattle.std.proofs.Math.Nat.{suc-mod, mod-eq_of_lt, mod_self}
use Rattle.std.specs.declared.vec.Vec.{Vec}
use Rattle.std.specs.declared.alloc.Global.{Global}
use Rattle.vx_terms.specs.Interpretations.{Each}
use Rattle.vx_report.specs.declared.run.MemberRun.{MemberRun}
use Rattle.vx_verifier.specs.Dealt.{IsDealt, runs_in}
use Rattle.vx_verifier.specs.Headline.{members_of}
use Rattle.vx_verifier.specs.Members.{every}
use Rattle.vx_verifier.specs.Verifying.{ArePiles, AreDealtOut, skip_of}
use Rattle.vx_verifier.proofs.Dealt.{own_run, other_run, dealt_more}
use Rattle.vx_verifier.proofs.Runs.{members_more, read_set, zero_on}

-- ---- whose turn it is

near : (jobs at lane : ℕ) → at ≤ lane → skip_of jobs at lane ≡ lane - at
near jobs at lane less = grind (arith, common_steps)

far : (jobs at lane : ℕ) → lane < at → skip_of jobs at lane ≡ (lane + jobs) - at
far jobs at lane less = grind (arith, common_steps)

less_or_not : (a b : ℕ) → (a < b) ⊎ (b ≤ a)
less_or_not a zero = inr (omega arith)
less_or_not zero (suc b) = inl (omega arith)
less_or_not (suc a) (suc b) = elim (less_or_not a b) [ inl h ↦ inl (omega arith) | inr h ↦ inr (omega arith) ]

-- the place behind this one, where so many go round
pub record IsBehind (jobs at next : ℕ) : Type 0 where
  pub within : next < jobs
  pub on : ((next ≡ at + 1) ⊎ ((at + 1 ≡ jobs) × (next ≡ 0)))

none_skipped : (jobs at : ℕ) → skip_of jobs at at ≡ 0
none_skipped jobs at = let h = near jobs at at (omega arith) in omega arith

own_next : (jobs at next : ℕ) → at < jobs → IsBehind jobs at next → skip_of jobs next at ≡ jobs - 1
own_next jobs at next within (b) = elim b.on [
  | inl is ↦ let h = far jobs next at (omega arith) in omega arith
  | inr is ↦ let last = is.0 in let first = is.1 in let h = near jobs next at (omega arith) in omega arith
]

other_next : (jobs at next lane : ℕ) → at < jobs → lane < jobs → (lane ≡ at → ⊥) → IsBehind jobs at next → skip_of jobs at lane ≡ suc (skip_of jobs next lane)
other_next jobs at next lane within below other b = elim (less_or_not lane at) [
  | inl less ↦
      let here = far jobs at lane less in
      elim b.on [
        | inl is ↦ let there = far jobs next lane (omega arith) in omega arith
        | inr is ↦ let last = is.0 in let first = is.1 in let there = near jobs next lane (omega arith) in omega arith
      ]
  | inr more ↦
      let more_by : at < lane = above at lane more other in
      let here = near jobs at lane more in
      elim b.on [
        | inl is ↦ let there = near jobs next lane (omega arith) in omega arith
        | inr is ↦ let last = is.0 in absurd (omega arith)
      ]
]
  where
    above : (at lane : ℕ) → at ≤ lane → (lane ≡ at → ⊥) → at < lane
    above zero zero more other = absurd (other refl)
    above zero (suc lane) more other = omega arith
    above (suc at) zero more other = absurd (omega arith)
    above (suc at) (suc lane) more other = let h = above at lane (omega arith) (λ e. other (ap suc e)) in omega arith

-- ---- of a list the parts that a lane takes

every_own : (jobs k : ℕ) (n : ℕ) (ns : List ℕ) → k ≡ 0 → every jobs k (n ∷ ns) ≡ n ∷ every jobs (jobs - 1) ns
every_own jobs k n ns is = ap (λ j. every jobs j (n ∷ ns)) is

every_other : (jobs k j : ℕ) (n : ℕ) (ns : List ℕ) → k ≡ suc j → every jobs k (n ∷ ns) ≡ every jobs j ns
every_other jobs k j n ns is = ap (λ i. every jobs i (n ∷ ns)) is

-- where a lane whose turn it is has no part left, there is none
none_left_at : (jobs : ℕ) (ns : List ℕ) → [] ≡ every jobs 0 ns → ns ≡ []
none_left_at jobs [] is = refl
none_left_at jobs (n ∷ ns) is = absurd (cc)

split_at : (jobs : ℕ) (ns : List ℕ) (m : ℕ) (ms : List ℕ) → m ∷ ms ≡ every jobs 0 ns → (rest : List ℕ) × (ns ≡ m ∷ rest) × (ms ≡ every jobs (jobs - 1) rest)
split_at jobs [] m ms is = absurd (cc)
split_at jobs (n ∷ ns) m ms is = (ns, (let e : n ≡ m = sym (first m n ms (every jobs (jobs - 1) ns) is) in ap (λ k. k ∷ ns) e), behind m n ms (every jobs (jobs - 1) ns) is)
  where
    first : (a b : ℕ) (as' bs : List ℕ) → a ∷ as' ≡ b ∷ bs → a ≡ b
    first a b as' bs e = cc

    behind : (a b : ℕ) (as' bs : List ℕ) → a ∷ as' ≡ b ∷ bs → as' ≡ bs
    behind a b as' bs e = cc

-- ---- between two runs

abbrev Pile : Type 0
Pile = Vec MemberRun Global

-- So many are dealt out: the rest of these members is still in the piles, and the next one is that of pile number `at`.
pub record Deals (ns : List ℕ) (first piles : List Pile) (runs : List MemberRun) (at : ℕ) : Type 0 where
  pub rest : List ℕ
  pub all : members_of runs ++ rest ≡ ns
  pub dealt : IsDealt (length first) 0 runs
  pub at_is : at ≡ length runs % length first
  pub within : at < length first
  pub own : (lane : ℕ) (pile : Pile) → slice_get piles lane ≡ Some pile → Each (λ (r : MemberRun). r.lane ≡ lane) (reverse pile.items)
  pub members : (lane : ℕ) (pile : Pile) → slice_get piles lane ≡ Some pile → members_of (reverse pile.items) ≡ every (length first) (skip_of (length first) at lane) rest
  pub lanes : (lane : ℕ) (before pile : Pile) → slice_get first lane ≡ Some before → slice_get piles lane ≡ Some pile → runs_in lane runs ++ reverse pile.items ≡ reverse before.items

one_pile : (a b : Pile) (piles : List Pile) (lane : ℕ) → slice_get piles lane ≡ Some a → slice_get piles lane ≡ Some b → a ≡ b
one_pile a b piles lane is also = cc

no_skip : (jobs lane : ℕ) → skip_of jobs 0 lane ≡ lane
no_skip jobs lane = let h = near jobs 0 lane (omega arith) in omega arith

pub deals_first : (ns : List ℕ) (piles : List Pile) → 0 < length piles → ArePiles ns piles → Deals ns piles piles [] 0
deals_first ns piles some are = record {
  rest = ns;
  all = refl;
  dealt = tt;
  at_is = sym (mod-eq_of_lt some);
  within = some;
  own = are.own;
  members = λ lane pile is. are.members lane pile is ∙ ap (λ k. every (length piles) k ns) (sym (no_skip (length piles) lane));
  lanes = λ lane before pile is also. ap (λ (x : Pile). reverse x.items) (one_pile pile before piles lane also is);
}

-- the last part of a pile comes first when it is turned round
turned : (items init : List MemberRun) (r : MemberRun) → items ≡ init ++ r ∷ [] → reverse items ≡ r ∷ reverse init
turned items init r is = ap reverse is ∙ reverse-append init (r ∷ [])

-- and the pile has one less
pub popped_less : (pile pile' : Pile) (r : MemberRun) → pile.items ≡ pile'.items ++ r ∷ [] → length pile'.items < length pile.items
popped_less pile pile' r is = let count : length pile.items ≡ length pile'.items + 1 = ap length is ∙ one_more pile'.items in omega arith
  where
    one_more : (xs : List MemberRun) → length (xs ++ r ∷ []) ≡ length xs + 1
    one_more [] = refl
    one_more (x ∷ xs) = let h = one_more xs in omega arith

next_turn : (n jobs at next : ℕ) → at ≡ n % jobs → at < jobs → IsBehind jobs at next → next ≡ (n + 1) % jobs
next_turn n jobs at next is within b =
    let one : n + 1 ≡ suc n = omega arith in
    elim b.on [
      | inl on ↦
          let small : suc (n % jobs) < jobs = let w = b.within in omega arith in
          let here : next ≡ suc (n % jobs) = omega arith in
          here ∙ (sym (mod-eq_of_lt small) ∙ (sym (suc-mod n jobs) ∙ ap (λ k. k % jobs) (sym one)))
      | inr on ↦
          let full : suc (n % jobs) ≡ jobs = let last = on.0 in omega arith in
          on.1 ∙ (sym (mod_self jobs) ∙ (ap (λ k. k % jobs) (sym full) ∙ (sym (suc-mod n jobs) ∙ ap (λ k. k % jobs) (sym one))))
    ]

-- the next run is dealt out
pub deals_on : (ns : List ℕ) (first piles : List Pile) (runs : List MemberRun) (at next : ℕ) (pile pile' : Pile) (r : MemberRun) → Deals ns first piles runs at → slice_get piles at ≡ Some pile
    → pile.items ≡ pile'.items ++ r ∷ [] → IsBehind (length first) at next → length piles ≡ length first → Deals ns first (slice_set piles at pile') (runs ++ r ∷ []) next
deals_on ns first piles runs at next pile pile' r d is popped behind each =
    let jobs = length first in
    let turn = turned pile.items pile'.items r popped in
    let mine : Each (λ (s : MemberRun). s.lane ≡ at) (r ∷ reverse pile'.items) = subst (Each (λ (s : MemberRun). s.lane ≡ at)) turn (d.own at pile is) in
    let here : r.member.0 ∷ members_of (reverse pile'.items) ≡ every jobs 0 d.rest =
    sym (ap members_of turn) ∙ (d.members at pile is ∙ ap (λ k. every jobs k d.rest) (none_skipped jobs at)) in
    let split = split_at jobs d.rest r.member.0 (members_of (reverse pile'.items)) here in
    record {
      rest = split.0;
      all = ap (λ l. l ++ split.0) (members_more runs r) ∙ (append_assoc (members_of runs) (r.member.0 ∷ []) split.0 ∙ (ap (λ l. members_of runs ++ l) (sym split.1) ∙ d.all));
      dealt = dealt_more jobs 0 runs r d.dealt (mine.0 ∙ (d.at_is ∙ ap (λ k. k % jobs) (zero_on (length runs))));
      at_is = next_turn (length runs) jobs at next d.at_is d.within behind ∙ ap (λ k. k % jobs) (sym (longer runs));
      within = behind.within;
      own = λ lane pile'' at_lane. elim (read_set piles at lane pile' pile'' at_lane) [
        | inl s ↦ subst (λ (x : Pile). Each (λ (q : MemberRun). q.lane ≡ lane) (reverse x.items)) (sym s.1) (subst (λ k. Each (λ (q : MemberRun). q.lane ≡ k) (reverse pile'.items)) (sym s.0) mine.1)
        | inr s ↦ d.own lane pile'' s.1
      ];
      members = λ lane pile'' at_lane. elim (read_set piles at lane pile' pile'' at_lane) [
        | inl s ↦
            ap (λ (x : Pile). members_of (reverse x.items)) s.1
            ∙ (split.2 ∙ ap (λ k. every jobs k split.0) (sym (ap (skip_of jobs next) s.0 ∙ own_next jobs at next d.within behind)))
        | inr s ↦
            let below : lane < jobs = subst (λ k. lane < k) each (got piles lane pile'' s.1) in
            d.members lane pile'' s.1
            ∙ (ap (λ l. every jobs (skip_of jobs at lane) l) split.1
            ∙ every_other jobs (skip_of jobs at lane) (skip_of jobs next lane) r.member.0 split.0 (other_next jobs at next lane d.within below s.0 behind))
      ];
      lanes = λ lane before pile'' was at_lane. elim (read_set piles at lane pile' pile'' at_lane) [
        | inl s ↦
            ap (λ (x : Pile). runs_in lane (runs ++ r ∷ []) ++ reverse x.items) s.1
            ∙ (ap (λ l. l ++ reverse pile'.items) (own_run lane runs r (mine.0 ∙ sym s.0))
            ∙ (append_assoc (runs_in lane runs) (r ∷ []) (reverse pile'.items) ∙ (ap (λ l. runs_in lane runs ++ l) (sym turn) ∙ d.lanes lane before pile was (ap (slice_get piles) s.0 ∙ is))))
        | inr s ↦ ap (λ l. l ++ reverse pile''.items) (other_run lane runs r (λ same. s.0 (sym same ∙ mine.0))) ∙ d.lanes lane before pile'' was s.1
      ];
    }
  where
    longer : (xs : List MemberRun) → length (xs ++ r ∷ []) ≡ length xs + 1
    longer [] = refl
    longer (x ∷ xs) = let h = longer xs in omega arith

    got : (xs : List Pile) (i : ℕ) (x : Pile) → slice_get xs i ≡ Some x → i < length xs
    got [] i x e = absurd (cc)
    got (y ∷ xs) zero x e = omega arith
    got (y ∷ xs) (suc i) x e = let h = got xs i x e in omega arith

-- the pile whose turn it is has none left
pub deals_end : (ns : List ℕ) (first piles : List Pile) (runs : List MemberRun) (at : ℕ) (pile : Pile) → Deals ns first piles runs at → slice_get piles at ≡ Some pile → pile.items ≡ []
    → length piles ≡ length first → AreDealtOut ns first runs
deals_end ns first piles runs at pile d is none each =
    let jobs = length first in
    let over : d.rest ≡ [] = none_left_at jobs d.rest (sym (ap (λ l. members_of (reverse l)) none) ∙ (d.members at pile is ∙ ap (λ k. every jobs k d.rest) (none_skipped jobs at))) in
    record {
      members = sym (append-nil (members_of runs)) ∙ (ap (λ l. members_of runs ++ l) (sym over) ∙ d.all);
      dealt = d.dealt;
      lanes = λ lane before was.
          let there = reads piles lane (subst (λ k. lane < k) (sym each) (got first lane before was)) in
          let empty : reverse there.0.items ≡ [] = nothing (reverse there.0.items) (d.members lane there.0 there.1 ∙ ap (every jobs (skip_of jobs at lane)) over) in
          sym (append-nil (runs_in lane runs)) ∙ (ap (λ l. runs_in lane runs ++ l) (sym empty) ∙ d.lanes lane before there.0 was there.1);
    }
  where
    got : (xs : List Pile) (i : ℕ) (x : Pile) → slice_get xs i ≡ Some x → i < length xs
    got [] i x e = absurd (cc)
    got (y ∷ xs) zero x e = omega arith
    got (y ∷ xs) (suc i) x e = let h = got xs i x e in omega arith

    reads : (xs : List Pile) (i : ℕ) → i < length xs → (x : Pile) × (slice_get xs i ≡ Some x)
    reads [] i less = absurd (omega arith)
    reads (x ∷ xs) zero less = (x, refl)
    reads (x ∷ xs) (suc i) less = reads xs i (omega arith)

    nothing : (rs : List MemberRun) → members_of rs ≡ [] → rs ≡ []
    nothing [] e = refl
    nothing (r ∷ rs) e = absurd (cc)
