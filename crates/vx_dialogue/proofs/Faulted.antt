-- Why no lawful reply is given.
use Rattle.std.proofs.Common.{◌≡◌, ℕ, ◌++◌, ◌<◌, ◌≤◌, Bool, List, [], length, take, drop, false, inl, inr, ap, ◌∙◌, sym, subst, append_assoc, arith, IsErrOf, Result, Err, IfErr}
use Rattle.std.proofs.lemmas.List.{take-append-drop, length-drop, length-take-le}
use Rattle.vx_ends.specs.declared.fault.LinkFault.{LinkFault}
use Rattle.vx_ends.specs.declared.fault.LinkFault.TheVariants as link
use Rattle.vx_sexp.specs.declared.token.Token.{Token}
use Rattle.vx_sexp.specs.First.{IsFirst}
use Rattle.vx_sexp.specs.Pieces.{EndsAt}
use Rattle.vx_sexp.proofs.Exact.{first_is_one}
use Rattle.vx_smt_meaning.specs.Replies.{is_refusal}
use Rattle.vx_dialogue.specs.declared.item.Wanted.{Wanted}
use Rattle.vx_dialogue.specs.declared.talk.Talk.{Talk}
use Rattle.vx_dialogue.specs.declared.talk.Talk.TheVariants as talk
use Rattle.vx_dialogue.specs.Faults.{talk_of}
use Rattle.vx_dialogue.specs.Items.{longest, IsItem, IsOpenYet, IsTooLong, Keeps, Meets, IsGarbled, IsRefused, IsNoItem, IsUnlawful, TellsNoItem, TellsNoReply, GivesNoItem, GivesNoReply, is_lawful, kept_of}
use Rattle.vx_dialogue.proofs.Joined.{append_none}

-- ---- how long the first item is

-- an expression that ends within the bound is an item
pub short_here : (bytes : List ℕ) (item : List Token) (rest : List ℕ) (end : ℕ) → EndsAt end bytes → end ≤ longest → IsFirst bytes item rest → IsItem bytes item rest
short_here bytes item rest end ends low first =
    let same = ap length (first_is_one bytes item ends.1 rest (drop end bytes) first ends.2).1 in
    let left = length-drop end bytes in
    let within = ends.0 in
    record { first = first; short = omega arith }

-- one that ends behind it is too long
pub long_here : (bytes : List ℕ) (end : ℕ) → EndsAt end bytes → longest < end → IsTooLong bytes (take end bytes)
long_here bytes end ends long =
    let taken = length-take-le end bytes ends.0 in
    (ends.1, drop end bytes, ends.2, sym (take-append-drop end bytes), omega arith)

-- ---- what is told

meets_on : (P : List ℕ → Type 0) (g0 u0 g1 u1 g2 : List ℕ) → Keeps g0 u0 g1 u1 → Meets g1 u1 g2 P → Meets g0 u0 g2 P
meets_on P g0 u0 g1 u1 g2 keeps e = (
  keeps.0 ++ e.0,
  e.1 ∙ (ap (λ x. x ++ e.0) keeps.1 ∙ append_assoc g0 keeps.0 e.0),
  subst P (ap (λ x. x ++ e.0) keeps.2 ∙ append_assoc u0 keeps.0 e.0) e.2,
)

-- what was got before changes nothing of it
pub no_item_on : (t : Talk) (g0 u0 g1 u1 g2 : List ℕ) → Keeps g0 u0 g1 u1 → GivesNoItem t g1 u1 g2 → GivesNoItem t g0 u0 g2
no_item_on (talk.Garbled kept) g0 u0 g1 u1 g2 keeps e = meets_on (λ bytes. IsNoItem bytes kept) g0 u0 g1 u1 g2 keeps e
no_item_on (talk.Refused kept) g0 u0 g1 u1 g2 keeps e = absurd e
no_item_on talk.Pipe g0 u0 g1 u1 g2 keeps e = meets_on IsOpenYet g0 u0 g1 u1 g2 keeps e
no_item_on talk.Want g0 u0 g1 u1 g2 keeps e = tt
no_item_on talk.Closed g0 u0 g1 u1 g2 keeps e = absurd e

-- where the link gives no more, the next item isn't at its end
pub nothing_got : (f : LinkFault) (t : Talk) (g0 g1 u : List ℕ) → t ≡ talk_of f → g1 ≡ g0 → IsOpenYet u → GivesNoItem t g0 u g1
nothing_got link.Failed t g0 g1 u is same open_yet =
    subst (λ x. GivesNoItem x g0 u g1) (sym is) ([], same ∙ sym (append_none g0), subst IsOpenYet (sym (append_none u)) open_yet)
nothing_got link.Want t g0 g1 u is same open_yet = subst (λ x. GivesNoItem x g0 u g1) (sym is) tt

pub no_item : (t : Talk) (g0 u0 g1 u1 : List ℕ) → Keeps g0 u0 g1 u1 → TellsNoItem t u1 → GivesNoItem t g0 u0 g1
no_item (talk.Garbled kept) g0 u0 g1 u1 keeps e = (keeps.0, keeps.1, subst (λ bytes. IsNoItem bytes kept) keeps.2 e)
no_item (talk.Refused kept) g0 u0 g1 u1 keeps e = absurd e
no_item talk.Pipe g0 u0 g1 u1 keeps e = absurd e
no_item talk.Want g0 u0 g1 u1 keeps e = tt
no_item talk.Closed g0 u0 g1 u1 keeps e = absurd e

-- the pipe hasn't failed where no item begins the bytes
pub no_fault : {T : Type 0} (t : Talk) (bytes : List ℕ) → TellsNoItem t bytes → (r : Result T Talk) → r ≡ Err t → IsErrOf r talk.Pipe → ⊥
no_fault t bytes e r told fails = subst (λ x. IfErr x (λ x. TellsNoItem x bytes)) (sym told ∙ fails) e

pub no_reply : (t : Talk) (w : Wanted) (g0 u0 g1 : List ℕ) → GivesNoItem t g0 u0 g1 → GivesNoReply t w g0 u0 g1
no_reply (talk.Garbled kept) w g0 u0 g1 e = (e.0, e.1, inl e.2)
no_reply (talk.Refused kept) w g0 u0 g1 e = absurd e
no_reply talk.Pipe w g0 u0 g1 e = e
no_reply talk.Want w g0 u0 g1 e = tt
no_reply talk.Closed w g0 u0 g1 e = absurd e

pub no_lawful : (t : Talk) (w : Wanted) (g0 u0 g1 u1 : List ℕ) → Keeps g0 u0 g1 u1 → TellsNoReply t w u1 → GivesNoReply t w g0 u0 g1
no_lawful (talk.Garbled kept) w g0 u0 g1 u1 keeps e = (keeps.0, keeps.1, subst (λ bytes. IsGarbled w bytes kept) keeps.2 e)
no_lawful (talk.Refused kept) w g0 u0 g1 u1 keeps e = (keeps.0, keeps.1, subst (λ bytes. IsRefused bytes kept) keeps.2 e)
no_lawful talk.Pipe w g0 u0 g1 u1 keeps e = absurd e
no_lawful talk.Want w g0 u0 g1 u1 keeps e = tt
no_lawful talk.Closed w g0 u0 g1 u1 keeps e = absurd e

-- the item that the bytes begin with is no lawful reply
pub unlawful_here : (t : Talk) (w : Wanted) (bytes : List ℕ) (end : ℕ) (item : List Token) (refusal : Bool) → IsItem bytes item (drop end bytes) → is_lawful w item ≡ false
    → is_refusal item ≡ refusal → IsUnlawful t refusal (kept_of (take end bytes)) → TellsNoReply t w bytes
unlawful_here (talk.Garbled kept) w bytes end item refusal first unlawful is e =
    inr (take end bytes, (item, drop end bytes, first, sym (take-append-drop end bytes), (unlawful, is ∙ e.0)), e.1)
unlawful_here (talk.Refused kept) w bytes end item refusal first unlawful is e =
    (take end bytes, (item, drop end bytes, first, sym (take-append-drop end bytes), is ∙ e.0), e.1)
unlawful_here talk.Pipe w bytes end item refusal first unlawful is e = absurd e
unlawful_here talk.Want w bytes end item refusal first unlawful is e = tt
unlawful_here talk.Closed w bytes end item refusal first unlawful is e = absurd e
