-- The text of a reply.
use Rattle.std.specs.Prelude.{ℕ, List, codes}
use Rattle.cs_session.specs.declared.reply.Complaint.{Complaint}
use Rattle.cs_session.specs.declared.reply.Complaint.TheVariants as complaints
use Rattle.cs_session.specs.declared.reply.Reply.{Reply}
use Rattle.cs_session.specs.declared.reply.Reply.TheVariants.{Success, Unsupported, Failed, Sat, Unsat, Undecided, Proof, Closed}

abbrev pub complaint_text : Complaint → List ℕ
complaint_text complaints.Unfinished = codes "(error \"S1\")\n"
complaint_text complaints.BadToken = codes "(error \"S2\")\n"
complaint_text complaints.Deep = codes "(error \"S3\")\n"
complaint_text complaints.Name = codes "(error \"name\")\n"
complaint_text complaints.Wide = codes "(error \"wide\")\n"
complaint_text complaints.Sort = codes "(error \"sort\")\n"
complaint_text complaints.Levels = codes "(error \"levels\")\n"
complaint_text complaints.NoProof = codes "(error \"no proof\")\n"

abbrev pub reply_text : Reply → List ℕ
reply_text Success = codes "success\n"
reply_text Unsupported = codes "unsupported\n"
reply_text (Failed c) = complaint_text c
reply_text Sat = codes "sat\n"
reply_text Unsat = codes "unsat\n"
reply_text Undecided = codes "unknown\n"
reply_text (Proof line) = line
reply_text Closed = codes "success\n"
