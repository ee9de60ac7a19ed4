-- From lanes that are through to runs in file order.
use Rattle.std.proofs.Common.{◌≡◌, ℕ, zero, suc, ◌+◌, ◌<◌, true, false, ◌++◌, ◌∷◌, [], List, Option, Some, Result, Ok, Err, IfOk, length, map, drop, reverse, slice_get, refl, ap, ◌∙◌, sym, subst, append-nil, arith}
use Rattle.std.proofs.lemmas.List.{length-map}
use Rattle.std.specs.declared.vec.Vec.{Vec}
use Rattle.std.specs.declared.alloc.Global.{Global}
use Rattle.vx_ast.specs.Syntax.{Program}
use Rattle.vx_terms.specs.Interpretations.{Each}
use Rattle.vx_smt_meaning.specs.declared.reply.Reply.{Reply}
use Rattle.vx_ends.specs.declared.piece.Piece.{Piece}
use Rattle.vx_pool.specs.Events.{Event}
use Rattle.vx_report.specs.declared.run.Cause.{Cause}
use Rattle.vx_report.specs.declared.run.MemberRun.{MemberRun}
use Rattle.vx_verifier.specs.declared.line.Line.{Line}
use Rattle.vx_verifier.specs.declared.members.Members.{Members}
use Rattle.vx_verifier.specs.declared.members.Stage.{Stage}
use Rattle.vx_verifier.specs.declared.members.Stage.TheVariants as stage'
use Rattle.vx_verifier.specs.Dealt.{IsDealt, runs_in}
use Rattle.vx_verifier.specs.Headline.{members_of}
use Rattle.vx_verifier.specs.Lanes.{IsOver, IsToldOf, TellsOf}
use Rattle.vx_verifier.specs.Lines.{lines}
use Rattle.vx_verifier.specs.Members.{AreRuns, IsWorking, every, is_ended, is_spent, runs_events, so_far, under_way}
use Rattle.vx_verifier.specs.Outsets.{Hub, Outset}
use Rattle.vx_verifier.specs.Verifying.{AreDealtOut, AreNumbered, AreOver, ArePiles, AreToldOver}

pub if_ok_both : {T E : Type 0} (r : Result T E) (P Q R : T → Type 0) → ((x : T) → P x → Q x → R x) → IfOk r P → IfOk r Q → IfOk r R
if_ok_both (Ok x) P Q R join p q = join x p q
if_ok_both (Err e) P Q R join p q = p

-- ---- parts of two lists that are the same in one respect

pub get_same : {A B C : Type 0} (f : A → C) (g : B → C) (xs : List A) (ys : List B) (i : ℕ) (y : B) → map f xs ≡ map g ys → slice_get ys i ≡ Some y → (x : A) × (slice_get xs i ≡ Some x) × (f x ≡ g y)
get_same f g xs [] i y same is = absurd (cc)
get_same f g [] (z ∷ ys) i y same is = absurd (cc)
get_same f g (x ∷ xs) (z ∷ ys) zero y same is = (x, refl, first (f x) (g z) (map f xs) (map g ys) same ∙ ap g (one z y is))
  where
    first : {C : Type 0} (a b : C) (as' bs : List C) → a ∷ as' ≡ b ∷ bs → a ≡ b
    first a b as' bs e = cc

    one : {B : Type 0} (a b : B) → (let o : Option B = Some a in o) ≡ Some b → a ≡ b
    one a b e = cc
get_same f g (x ∷ xs) (z ∷ ys) (suc i) y same is = get_same f g xs ys i y (behind (f x) (g z) (map f xs) (map g ys) same) is
  where
    behind : {C : Type 0} (a b : C) (as' bs : List C) → a ∷ as' ≡ b ∷ bs → as' ≡ bs
    behind a b as' bs e = cc

pub length_same : {A B C : Type 0} (f : A → C) (g : B → C) (xs : List A) (ys : List B) → map f xs ≡ map g ys → length xs ≡ length ys
length_same f g xs ys same = sym (length-map xs f) ∙ (ap length same ∙ length-map ys g)

reads : {A : Type 0} (xs : List A) (i : ℕ) → i < length xs → (x : A) × (slice_get xs i ≡ Some x)
reads [] i less = absurd (omega arith)
reads (x ∷ xs) zero less = (x, refl)
reads (x ∷ xs) (suc i) less = reads xs i (omega arith)

pub within_all : {A : Type 0} (xs : List A) (i : ℕ) (x : A) → slice_get xs i ≡ Some x → i < length xs
within_all [] i x is = absurd (cc)
within_all (y ∷ xs) zero x is = omega arith
within_all (y ∷ xs) (suc i) x is = let h = within_all xs i x is in omega arith

-- ---- a worker that has come to its end

pub not_spent : (s : Stage) → is_ended s ≡ true → is_spent s ≡ false
not_spent stage'.Ended is = refl
not_spent (stage'.Asked m) is = cc
not_spent stage'.Between is = refl
not_spent stage'.Spent is = cc

none_so_far : (p : Program) (s : Stage) → is_ended s ≡ true → so_far p s ≡ []
none_so_far p stage'.Ended is = refl
none_so_far p (stage'.Asked m) is = cc
none_so_far p stage'.Between is = refl
none_so_far p stage'.Spent is = refl

none_under_way : (s : Stage) → is_ended s ≡ true → under_way s ≡ []
none_under_way stage'.Ended is = refl
none_under_way (stage'.Asked m) is = cc
none_under_way stage'.Between is = refl
none_under_way stage'.Spent is = refl

own_lanes : (p : Program) (lane first : ℕ) (runs : List MemberRun) (replies : List Reply) → AreRuns p lane first runs replies → Each (λ (r : MemberRun). r.lane ≡ lane) runs
own_lanes p lane first [] replies are = tt
own_lanes p lane first (r ∷ runs) replies are = (are.0.own_lane, own_lanes p lane (first + r.checks) runs (drop r.checks replies) are.1)

module _ {K L : Type 0} (dialogue : L → List Piece) (o : Outset) (h g : Hub) where
  -- the worker is at its end, and its talker tells its events
  pub record IsThrough (w : Members K) (t : Line K L) : Type 0 where
    pub jobs : w.jobs ≡ o.jobs
    pub working : IsWorking o.program w.jobs w.lane w.next w.skip w.runs.items w.replies.items w.stage
    pub ended : is_ended w.stage ≡ true
    pub same : w.lane ≡ t.lane
    pub told : TellsOf dialogue o t.lane t.child h (runs_events o.program w.runs.items w.replies.items ++ so_far o.program w.stage)

  members_are : (w : Members K) (t : Line K L) → IsThrough w t → members_of w.runs.items ≡ every o.jobs w.lane (lines o.program)
  members_are w t through =
      let way = none_under_way w.stage through.ended in
      let rest = through.working.ended through.ended in
      sym (append-nil (members_of w.runs.items))
      ∙ (ap (λ l. members_of w.runs.items ++ l) (sym way)
      ∙ (sym (append-nil (members_of w.runs.items ++ under_way w.stage))
      ∙ (ap (λ l. (members_of w.runs.items ++ under_way w.stage) ++ l) (sym rest) ∙ (through.working.dealt ∙ ap (λ j. every j w.lane (lines o.program)) through.jobs))))

  over_at : (w : Members K) (t : Line K L) → IsThrough w t → ((events : List (Event Cause)) → TellsOf dialogue o t.lane t.child h events → IsToldOf o t.lane g events) → IsOver o g t.lane w.runs.items
  over_at w t through told =
      let events = runs_events o.program w.runs.items w.replies.items in
      let all : events ++ so_far o.program w.stage ≡ events = ap (λ l. events ++ l) (none_so_far o.program w.stage through.ended) ∙ append-nil events in
      record {
        replies = w.replies.items;
        runs_are = subst (λ k. AreRuns o.program k 0 w.runs.items w.replies.items) through.same through.working.runs_are;
        told = told events (subst (TellsOf dialogue o t.lane t.child h) all through.told);
        members = members_are w t through ∙ ap (λ k. every o.jobs k (lines o.program)) through.same;
      }

  pub are_over : (lanes taken : List (Members K × Line K L)) (piles : List (Vec MemberRun Global)) (runs : List MemberRun)
      → ((i : ℕ) (l : Members K × Line K L) → slice_get lanes i ≡ Some l → IsThrough l.0 l.1) → AreNumbered lanes → length lanes ≡ o.jobs → map (λ l. l.1) taken ≡ map (λ l. l.1) lanes
      → AreToldOver dialogue o h g taken → map (λ pile. reverse pile.items) piles ≡ map (λ l. l.0.runs.items) lanes → ((ns : List ℕ) → ArePiles ns piles → AreDealtOut ns piles runs) → AreOver o g runs
  are_over lanes taken piles runs through numbered count lines_are told piles_are deal =
      let ns = lines o.program in
      let many : length piles ≡ o.jobs = length_same (λ pile. reverse pile.items) (λ l. l.0.runs.items) piles lanes piles_are ∙ count in
      let at_pile : (i : ℕ) (pile : Vec MemberRun Global) → slice_get piles i ≡ Some pile → (l : Members K × Line K L) × (slice_get lanes i ≡ Some l) × (l.0.runs.items ≡ reverse pile.items) = λ i pile is.
      get_same (λ l. l.0.runs.items) (λ pile. reverse pile.items) lanes piles i pile (sym piles_are) is in
      let piles_fit : ArePiles ns piles = record {
        own = λ i pile is.
            let l = at_pile i pile is in
            let t = through i l.0 l.1 in
            let lane_is = t.same ∙ numbered i l.0 l.1 in
            subst (Each (λ (r : MemberRun). r.lane ≡ i)) l.2
            (subst (λ k. Each (λ (r : MemberRun). r.lane ≡ k) l.0.0.runs.items) lane_is (own_lanes o.program l.0.0.lane 0 l.0.0.runs.items l.0.0.replies.items t.working.runs_are));
        members = λ i pile is.
            let l = at_pile i pile is in
            let t = through i l.0 l.1 in
            ap members_of (sym l.2) ∙ (members_are l.0.0 l.0.1 t ∙ (ap (λ k. every o.jobs k ns) (t.same ∙ numbered i l.0 l.1) ∙ ap (λ j. every j i ns) (sym many)));
      } in
      let dealt = deal ns piles_fit in
      record {
        members = dealt.members;
        dealt = subst (λ j. IsDealt j 0 runs) many dealt.dealt;
        lanes = λ lane below.
            let pile = reads piles lane (subst (λ k. lane < k) (sym many) below) in
            let l = at_pile lane pile.0 pile.1 in
            let t = through lane l.0 l.1 in
            let last = get_same (λ x. x.1) (λ x. x.1) taken lanes lane l.0 lines_are l.1 in
            let over = over_at l.0.0 l.0.1 t (λ events tells.
            subst (λ (x : Line K L). IsToldOf o x.lane g events) last.2
            (told lane last.0 last.1 events (subst (λ (x : Line K L). TellsOf dialogue o x.lane x.child h events) (sym last.2) tells))) in
            let own : l.0.0.runs.items ≡ runs_in lane runs = l.2 ∙ sym (dealt.lanes lane pile.0 pile.1) in
            subst (IsOver o g lane) own (subst (λ k. IsOver o g k l.0.0.runs.items) (numbered lane l.0 l.1) over);
      }
