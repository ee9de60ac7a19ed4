-- What is said of a file, and of words that mean nothing, is what is due.
use Rattle.std.proofs.Common.{◌≡◌, ◌⊎◌, inl, inr, ℕ, ◌≤◌, List, [], Option, Some, None, IfSome, length, vec_items, refl, sym, subst}
use Rattle.std.specs.Prelude.{codes, Vec}
use Rattle.std.specs.declared.alloc.Global.{Global}
use Rattle.vx_report.specs.declared.status.Status.{Status}
use Rattle.vx_report.specs.declared.status.Status.TheVariants.{Done, NotVerified, Usage, Unread, Refused, Faulted, Unwritten, Want}
use Rattle.vx_words.specs.declared.order.Order.{Order}
use Rattle.vx_words.specs.declared.order.Order.TheVariants.{Verify}
use Rattle.vx_commands.specs.declared.output.Output.{Output}
use Rattle.vx_commands.specs.declared.reading.Loaded.{Loaded}
use Rattle.vx_commands.specs.declared.reading.Loaded.TheVariants as loaded
use Rattle.vx_commands.specs.declared.saying.Saying.{Saying}
use Rattle.vx_commands.specs.declared.saying.Saying.TheVariants as saying
use Rattle.vx_commands.specs.Outside.{Change, Texts, Spawners, Rest, AsksOnly, HasFailedToRead, IsTooLong}
use Rattle.vx_commands.specs.Texts.{IsToldOf, Says, SaysRefused, usage}
use Rattle.vx_commands.specs.WholeRuns.{SaysRun}
use Rattle.vx_commands.proofs.WholeRuns.{of_run}
use Rattle.vx_commands.specs.Promised.{IsText, IsDue}
use Rattle.vx_commands.specs.Steps.{IsLoadedFrom, IsVerified}

-- a text that is said with this status
pub is_text : (Told : Status → List ℕ → Type 0) (output : Output) (s : Status) (bytes : List ℕ) → output.status ≡ s → vec_items output.bytes ≡ bytes → output.runs.items ≡ [] → Told s bytes
    → IsText Told output
is_text Told output s bytes status same none told =
    record { told = subst (λ x. Told x (vec_items output.bytes)) (sym status) (subst (λ b. Told s b) (sym same) told); none = none }

-- ---- files

-- what is asked of a name, and what is loaded, is so of the same name
pub asks_named : (a b : Option (List ℕ)) (files : Change Texts) → a ≡ b → AsksOnly a files → AsksOnly b files
asks_named a b files is h = subst (λ n. AsksOnly n files) is h

module _ (a b : Option (List ℕ)) (files : Change Texts) (l : Loaded) (is : a ≡ b) (h : IsLoadedFrom a files l) where
  loaded_named : (m : Loaded) → l ≡ m → IsLoadedFrom b files m
  loaded_named m same = subst (λ n. IsLoadedFrom n files m) is (subst (λ x. IsLoadedFrom a files x) same h)

  -- of the bytes of the text that was loaded
  pub text_loaded : (bytes : List ℕ) (text : Vec ℕ Global) → l ≡ loaded.Text text → bytes ≡ vec_items text → IfSome (files.before.holds b) (λ known. bytes ≡ known) × (length bytes ≤ 4194304)
  text_loaded bytes text same is' = subst (λ t. IfSome (files.before.holds b) (λ known. t ≡ known) × (length t ≤ 4194304)) (sym is') (loaded_named (loaded.Text text) same)

  pub none_loaded : l ≡ loaded.Unread → HasFailedToRead files
  none_loaded same = loaded_named loaded.Unread same

  pub too_long_loaded : l ≡ loaded.TooLong → IsTooLong b files
  too_long_loaded same = loaded_named loaded.TooLong same

-- that a file can't be read is said by no command of its text
abbrev pub NeverUnread : (List ℕ → Status → List ℕ → Type 0) → Type 0
NeverUnread Says = (text bytes : List ℕ) → Says text Unread bytes → ⊥

pub never_unread : (what : Saying) → NeverUnread (Says what)
never_unread saying.Typed text bytes h = h
never_unread saying.Canonical text bytes h = h

pub run_never_unread : (method : List ℕ) (seed : ℕ) → NeverUnread (SaysRun method seed)
run_never_unread method seed text bytes h = neither (of_run method seed text Unread bytes (λ refused. absurd refused) h)
  where
    neither : (Unread ≡ Done) ⊎ (Unread ≡ NotVerified) ⊎ (Unread ≡ Refused) → ⊥
    neither (inl e) = cc
    neither (inr (inl e)) = cc
    neither (inr (inr e)) = cc

module _ (Says : List ℕ → Status → List ℕ → Type 0) (name : Option (List ℕ)) (files : Change Texts) (output : Output) where
  told_of : (text : List ℕ) → IfSome (files.before.holds name) (λ known. text ≡ known) → length text ≤ 4194304 → (s : Status) (bytes : List ℕ) → (Says text Unread bytes → ⊥) → Says text s bytes
      → IsToldOf Says name files s bytes
  told_of text holds short Done bytes never h = (text, holds, short, h)
  told_of text holds short NotVerified bytes never h = (text, holds, short, h)
  told_of text holds short Usage bytes never h = (text, holds, short, h)
  told_of text holds short Refused bytes never h = (text, holds, short, h)
  told_of text holds short Faulted bytes never h = (text, holds, short, h)
  told_of text holds short Unwritten bytes never h = (text, holds, short, h)
  told_of text holds short Want bytes never h = (text, holds, short, h)
  told_of text holds short Unread bytes never h = absurd (never h)

  pub file_text : NeverUnread Says → (text : List ℕ) → IfSome (files.before.holds name) (λ known. text ≡ known) → length text ≤ 4194304 → IsText (Says text) output → IsText (IsToldOf Says name files) output
  file_text never text holds short h = record { told = told_of text holds short output.status (vec_items output.bytes) (never text (vec_items output.bytes)) h.told; none = h.none }

  unread : (bytes : List ℕ) → IsToldOf Says name files Unread bytes → IsText (λ s said. (s ≡ Unread) × (said ≡ bytes)) output → IsText (IsToldOf Says name files) output
  unread bytes told h = is_text (IsToldOf Says name files) output Unread bytes h.told.0 h.told.1 h.none told

  pub file_unread : HasFailedToRead files → IsText (λ s bytes. (s ≡ Unread) × (bytes ≡ codes "error: cannot read\n")) output → IsText (IsToldOf Says name files) output
  file_unread failed h = unread (codes "error: cannot read\n") (inl (failed, refl)) h

  pub file_too_long : IsTooLong name files → IsText (λ s bytes. (s ≡ Unread) × (bytes ≡ codes "error: longer than 4194304 bytes\n")) output → IsText (IsToldOf Says name files) output
  file_too_long long h = unread (codes "error: longer than 4194304 bytes\n") (inr (long, refl)) h

-- what is verified is due for its order
module _ (file : Option (List ℕ)) (solver : List (List ℕ)) (jobs : ℕ) (files : Change Texts) (s : Spawners) (output : Output) where
  pub verified_due : (text : List ℕ) → IfSome (files.before.holds file) (λ known. text ≡ known) → length text ≤ 4194304 → IsVerified text solver jobs s output → IsDue (Some (Verify file solver jobs)) files s output
  verified_due text holds short (inl refused) = inl (file_text SaysRefused file files output (λ t b h. h) text holds short refused.0, refused.1)
  verified_due text holds short (inr report) = inr (text, holds, report)

-- ---- words that mean nothing

pub usage_due : (order : Option Order) (files : Change Texts) (s : Spawners) (output : Output) → order ≡ None → Rest s → IsText (λ st bytes. (st ≡ Usage) × (bytes ≡ usage)) output
    → IsDue order files s output
usage_due order files s output is rest text = subst (λ o. IsDue o files s output) (sym is) (inl (text, rest))
