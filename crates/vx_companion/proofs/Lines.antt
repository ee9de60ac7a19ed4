-- The line of a reply, as it is read.
use Rattle.std.proofs.Common.{◌≡◌, ◌++◌, ◌≤◌, ℕ, Bool, true, false, true≢false, List, [], ◌∷◌, codes, length, Option, Some, refl, ap, ◌∙◌, sym, subst, arith}
use Rattle.std.specs.Prelude.{⊤}
use Rattle.vx_sexp.specs.declared.token.Kind.TheVariants as kind
use Rattle.vx_sexp.specs.declared.token.Token.{Token}
use Rattle.vx_sexp.specs.declared.token.Token.TheVariants.{Open, Close, Atom}
use Rattle.vx_sexp.specs.Tokens.{is_symbol, is_text}
use Rattle.vx_sexp.specs.Characters.{is_blank, is_digit, is_symbol_byte, is_word_byte, is_text_byte}
use Rattle.vx_sexp.specs.Scanning.{next, scan, move_of, token_at, kind_of}
use Rattle.vx_sexp.specs.Finished.{finished, finished_at, finished_from, is_closed, closed_at, closed_from}
use Rattle.vx_sexp.specs.First.{IsFirst, deepest}
use Rattle.vx_smt_meaning.specs.Commands.{Command, SetOption, SetLogic, DeclareSort, DeclareFun, Assert, Push, Pop, CheckSat, GetProof, Exit}
use Rattle.vx_smt_meaning.specs.Replies.{is_refusal}
use Rattle.vx_smt_meaning.specs.Dialogues.{is_lawful_to}
use Rattle.cs_commands.specs.declared.fault.Fault.{Fault}
use Rattle.cs_commands.specs.declared.fault.Fault.TheVariants as faults
use Rattle.cs_commands.specs.declared.fault.CommandFault.TheVariants as command_faults
use Rattle.cs_session.specs.Replies.{answer_to}
use Rattle.cs_session.specs.declared.reply.Complaint.{Complaint}
use Rattle.cs_session.specs.declared.reply.Complaint.TheVariants as complaints
use Rattle.cs_session.specs.declared.reply.Reply.{Reply}
use Rattle.cs_session.specs.declared.reply.Reply.TheVariants.{Success, Unsupported, Failed, Sat, Unsat, Undecided, Proof, Closed}
use Rattle.cs_session.specs.Texts.{reply_text}
use Rattle.vx_dialogue.proofs.Joined.{first_longer}
use Rattle.vx_companion.specs.Companion.{IsOneReply}
use Rattle.vx_companion.proofs.Shown.{tokens_in, tokens_are, line_one}

-- a line feed may stand in front
abbrev pub fed : Bool → List ℕ → List ℕ
fed false bytes = bytes
fed true bytes = 10 ∷ bytes

-- ---- the tokens of a line

abbrev word : List ℕ → List Token
word text = Atom kind.Symbol text ∷ []

abbrev pub failure : List ℕ → List Token
failure text = Open ∷ Atom kind.Symbol (codes "error") ∷ Atom kind.Text text ∷ Close ∷ []

abbrev complaint_item : Complaint → List Token
complaint_item complaints.Unfinished = failure (codes "\"S1\"")
complaint_item complaints.BadToken = failure (codes "\"S2\"")
complaint_item complaints.Deep = failure (codes "\"S3\"")
complaint_item complaints.Name = failure (codes "\"name\"")
complaint_item complaints.Wide = failure (codes "\"wide\"")
complaint_item complaints.Sort = failure (codes "\"sort\"")
complaint_item complaints.Levels = failure (codes "\"levels\"")
complaint_item complaints.NoProof = failure (codes "\"no proof\"")

abbrev pub item_of : Reply → List Token
item_of Success = word (codes "success")
item_of Unsupported = word (codes "unsupported")
item_of (Failed c) = complaint_item c
item_of Sat = word (codes "sat")
item_of Unsat = word (codes "unsat")
item_of Undecided = word (codes "unknown")
item_of (Proof line) = tokens_in line
item_of Closed = word (codes "success")

-- a certificate is one expression, and a line feed
abbrev pub IsLine : Reply → Type 0
IsLine (Proof line) = (tokens : List Token) × IsFirst line tokens (10 ∷ [])
IsLine r = ⊤

-- any reply but a certificate
abbrev pub is_short : Reply → Bool
is_short (Proof line) = false
is_short r = true

pub short_line : (r : Reply) → is_short r ≡ true → IsLine r
short_line (Proof line) e = absurd (cc)
short_line _ e = tt

-- ---- one whole expression

complaint_one : (c : Complaint) → IsOneReply (reply_text (Failed c))
unfolding finished finished_at finished_from is_closed closed_at closed_from next scan move_of token_at kind_of is_blank is_digit is_symbol_byte is_word_byte is_text_byte
complaint_one complaints.Unfinished = (refl, refl)
complaint_one complaints.BadToken = (refl, refl)
complaint_one complaints.Deep = (refl, refl)
complaint_one complaints.Name = (refl, refl)
complaint_one complaints.Wide = (refl, refl)
complaint_one complaints.Sort = (refl, refl)
complaint_one complaints.Levels = (refl, refl)
complaint_one complaints.NoProof = (refl, refl)

pub reply_one : (r : Reply) → IsLine r → IsOneReply (reply_text r)
unfolding finished finished_at finished_from is_closed closed_at closed_from next scan move_of token_at kind_of is_blank is_digit is_symbol_byte is_word_byte
reply_one Success e = (refl, refl)
reply_one Unsupported e = (refl, refl)
reply_one (Failed c) e = complaint_one c
reply_one Sat e = (refl, refl)
reply_one Unsat e = (refl, refl)
reply_one Undecided e = (refl, refl)
reply_one (Proof line) e = line_one line e.0 e.1
reply_one Closed e = (refl, refl)

-- ---- the first expression

pub first_fed : (b : Bool) (bytes : List ℕ) (tokens : List Token) (rest : List ℕ) → IsFirst bytes tokens rest → IsFirst (fed b bytes) tokens rest
unfolding is_blank
first_fed false bytes tokens rest e = e
first_fed true bytes [] rest e = absurd (let h = e.one in cc)
first_fed true bytes (t ∷ tokens) rest e =
    let first = e.lexed.1 in
    record {
      lexed = (
        e.lexed.0,
        record {
          space = 10 ∷ first.space;
          text = first.text;
          whole = ap (λ x. 10 ∷ x) first.whole;
          only_space = first.only_space;
          spelled = first.spelled;
          ended = first.ended;
        },
        e.lexed.2,
      );
      one = e.one;
    }

failure_first : (x rest : List ℕ) → is_text x ≡ true → IsFirst (codes "(error " ++ (x ++ 41 ∷ 10 ∷ rest)) (failure x) (10 ∷ rest)
unfolding is_digit is_symbol_byte is_word_byte is_blank
failure_first x rest is = record {
  lexed = (
    codes "error " ++ (x ++ 41 ∷ 10 ∷ rest),
    record { space = []; text = 40 ∷ []; whole = refl; only_space = refl; spelled = refl; ended = refl },
    (
      32 ∷ (x ++ 41 ∷ 10 ∷ rest),
      record { space = []; text = codes "error"; whole = refl; only_space = refl; spelled = (refl, refl); ended = refl },
      (
        41 ∷ 10 ∷ rest,
        record { space = 32 ∷ []; text = x; whole = refl; only_space = refl; spelled = (refl, is); ended = refl },
        (10 ∷ rest, record { space = []; text = 41 ∷ []; whole = refl; only_space = refl; spelled = refl; ended = refl }, refl),
      ),
    ),
  );
  one = refl;
}

word_first : (x rest : List ℕ) → is_symbol x ≡ true → IsFirst (x ++ 10 ∷ rest) (word x) (10 ∷ rest)
unfolding is_symbol_byte is_word_byte
word_first x rest is =
    record { lexed = (10 ∷ rest, record { space = []; text = x; whole = refl; only_space = refl; spelled = (refl, is); ended = refl }, refl); one = refl }

complaint_first : (c : Complaint) (rest : List ℕ) → IsFirst (reply_text (Failed c) ++ rest) (item_of (Failed c)) (10 ∷ rest)
unfolding is_text_byte
complaint_first complaints.Unfinished rest = failure_first (codes "\"S1\"") rest refl
complaint_first complaints.BadToken rest = failure_first (codes "\"S2\"") rest refl
complaint_first complaints.Deep rest = failure_first (codes "\"S3\"") rest refl
complaint_first complaints.Name rest = failure_first (codes "\"name\"") rest refl
complaint_first complaints.Wide rest = failure_first (codes "\"wide\"") rest refl
complaint_first complaints.Sort rest = failure_first (codes "\"sort\"") rest refl
complaint_first complaints.Levels rest = failure_first (codes "\"levels\"") rest refl
complaint_first complaints.NoProof rest = failure_first (codes "\"no proof\"") rest refl

line_first : (line : List ℕ) (tokens : List Token) (rest : List ℕ) → IsFirst line tokens (10 ∷ []) → IsFirst (line ++ rest) (tokens_in line) (10 ∷ rest)
line_first line tokens rest e =
    subst (λ ts. IsFirst (line ++ rest) ts (10 ∷ rest)) (sym (tokens_are line tokens (10 ∷ []) e)) (first_longer line rest tokens (10 ∷ []) e)

pub reply_first : (r : Reply) (rest : List ℕ) → IsLine r → IsFirst (reply_text r ++ rest) (item_of r) (10 ∷ rest)
unfolding is_digit is_symbol_byte
reply_first Success rest e = word_first (codes "success") rest refl
reply_first Unsupported rest e = word_first (codes "unsupported") rest refl
reply_first (Failed c) rest e = complaint_first c rest
reply_first Sat rest e = word_first (codes "sat") rest refl
reply_first Unsat rest e = word_first (codes "unsat") rest refl
reply_first Undecided rest e = word_first (codes "unknown") rest refl
reply_first (Proof line) rest e = line_first line e.0 rest e.1
reply_first Closed rest e = word_first (codes "success") rest refl

complaint_short : (b : Bool) (c : Complaint) → length (fed b (reply_text (Failed c))) ≤ 32
complaint_short false complaints.Unfinished = omega arith
complaint_short false complaints.BadToken = omega arith
complaint_short false complaints.Deep = omega arith
complaint_short false complaints.Name = omega arith
complaint_short false complaints.Wide = omega arith
complaint_short false complaints.Sort = omega arith
complaint_short false complaints.Levels = omega arith
complaint_short false complaints.NoProof = omega arith
complaint_short true complaints.Unfinished = omega arith
complaint_short true complaints.BadToken = omega arith
complaint_short true complaints.Deep = omega arith
complaint_short true complaints.Name = omega arith
complaint_short true complaints.Wide = omega arith
complaint_short true complaints.Sort = omega arith
complaint_short true complaints.Levels = omega arith
complaint_short true complaints.NoProof = omega arith

pub reply_short : (b : Bool) (r : Reply) → is_short r ≡ true → length (fed b (reply_text r)) ≤ 32
reply_short b (Failed c) e = complaint_short b c
reply_short b (Proof line) e = absurd (cc)
reply_short false Success e = omega arith
reply_short false Unsupported e = omega arith
reply_short false Sat e = omega arith
reply_short false Unsat e = omega arith
reply_short false Undecided e = omega arith
reply_short false Closed e = omega arith
reply_short true Success e = omega arith
reply_short true Unsupported e = omega arith
reply_short true Sat e = omega arith
reply_short true Unsat e = omega arith
reply_short true Undecided e = omega arith
reply_short true Closed e = omega arith

complaint_shallow : (c : Complaint) → deepest 0 (item_of (Failed c)) ≤ 4096
complaint_shallow complaints.Unfinished = omega arith
complaint_shallow complaints.BadToken = omega arith
complaint_shallow complaints.Deep = omega arith
complaint_shallow complaints.Name = omega arith
complaint_shallow complaints.Wide = omega arith
complaint_shallow complaints.Sort = omega arith
complaint_shallow complaints.Levels = omega arith
complaint_shallow complaints.NoProof = omega arith

pub reply_shallow : (r : Reply) → is_short r ≡ true → deepest 0 (item_of r) ≤ 4096
reply_shallow (Failed c) e = complaint_shallow c
reply_shallow (Proof line) e = absurd (cc)
reply_shallow Success e = omega arith
reply_shallow Unsupported e = omega arith
reply_shallow Sat e = omega arith
reply_shallow Unsat e = omega arith
reply_shallow Undecided e = omega arith
reply_shallow Closed e = omega arith

-- ---- refusals

abbrev complaint_text : Complaint → List ℕ
complaint_text complaints.Unfinished = codes "\"S1\""
complaint_text complaints.BadToken = codes "\"S2\""
complaint_text complaints.Deep = codes "\"S3\""
complaint_text complaints.Name = codes "\"name\""
complaint_text complaints.Wide = codes "\"wide\""
complaint_text complaints.Sort = codes "\"sort\""
complaint_text complaints.Levels = codes "\"levels\""
complaint_text complaints.NoProof = codes "\"no proof\""

complaint_is : (e : Complaint) → item_of (Failed e) ≡ failure (complaint_text e)
complaint_is complaints.Unfinished = refl
complaint_is complaints.BadToken = refl
complaint_is complaints.Deep = refl
complaint_is complaints.Name = refl
complaint_is complaints.Wide = refl
complaint_is complaints.Sort = refl
complaint_is complaints.Levels = refl
complaint_is complaints.NoProof = refl

failure_unlawful : (c : Command) (x : List ℕ) → is_lawful_to c (failure x) ≡ false
unfolding is_refusal
failure_unlawful (SetOption y b) x = refl
failure_unlawful (SetLogic y) x = refl
failure_unlawful (DeclareSort y) x = refl
failure_unlawful (DeclareFun d) x = refl
failure_unlawful (Assert t) x = refl
failure_unlawful (Push n) x = refl
failure_unlawful (Pop n) x = refl
failure_unlawful CheckSat x = refl
failure_unlawful GetProof x = refl
failure_unlawful Exit x = refl

-- to no command
pub complaint_unlawful : (c : Command) (e : Complaint) → is_lawful_to c (item_of (Failed e)) ≡ false
complaint_unlawful c e = ap (is_lawful_to c) (complaint_is e) ∙ failure_unlawful c (complaint_text e)

pub unsupported_unlawful : (c : Command) → is_lawful_to c (item_of Unsupported) ≡ false
unfolding is_refusal
unsupported_unlawful (SetOption y b) = refl
unsupported_unlawful (SetLogic y) = refl
unsupported_unlawful (DeclareSort y) = refl
unsupported_unlawful (DeclareFun d) = refl
unsupported_unlawful (Assert t) = refl
unsupported_unlawful (Push n) = refl
unsupported_unlawful (Pop n) = refl
unsupported_unlawful CheckSat = refl
unsupported_unlawful GetProof = refl
unsupported_unlawful Exit = refl

other_reply : (c : Command) (x r : Reply) → (let o : Option Reply = Some x in o) ≡ Some r → is_lawful_to c (item_of x) ≡ false → is_lawful_to c (item_of r) ≡ true → ⊥
other_reply c x r is unlawful lawful =
    let same : x ≡ r = cc in true≢false (sym lawful ∙ ap (λ y. is_lawful_to c (item_of y)) (sym same) ∙ unlawful)

-- what is told of a fault is lawful to no command
pub fault_unlawful : (c : Command) (e : Fault) (r : Reply) → answer_to e ≡ Some r → is_lawful_to c (item_of r) ≡ true → ⊥
fault_unlawful c faults.Unfinished r is lawful = other_reply c (Failed complaints.Unfinished) r is (complaint_unlawful c complaints.Unfinished) lawful
fault_unlawful c faults.BadToken r is lawful = other_reply c (Failed complaints.BadToken) r is (complaint_unlawful c complaints.BadToken) lawful
fault_unlawful c faults.Deep r is lawful = other_reply c (Failed complaints.Deep) r is (complaint_unlawful c complaints.Deep) lawful
fault_unlawful c (faults.Command command_faults.Name) r is lawful = other_reply c (Failed complaints.Name) r is (complaint_unlawful c complaints.Name) lawful
fault_unlawful c (faults.Command command_faults.Wide) r is lawful = other_reply c (Failed complaints.Wide) r is (complaint_unlawful c complaints.Wide) lawful
fault_unlawful c (faults.Command command_faults.Sort) r is lawful = other_reply c (Failed complaints.Sort) r is (complaint_unlawful c complaints.Sort) lawful
fault_unlawful c (faults.Command command_faults.Levels) r is lawful = other_reply c (Failed complaints.Levels) r is (complaint_unlawful c complaints.Levels) lawful
fault_unlawful c (faults.Command command_faults.Unsupported) r is lawful = other_reply c Unsupported r is (unsupported_unlawful c) lawful
fault_unlawful c (faults.Command command_faults.Want) r is lawful = cc
