use Rattle.cs_certificate.specs.Terms.{parts_of}
use Rattle.cs_numbers.proofs.Added.{added_distinct}
use Rattle.cs_numbers.proofs.Tables as proved
use Rattle.cs_numbers.proofs.numbers_are_given.Goals as goal

pub returns-clause-first : goal.returns-clause-first
returns-clause-first c ts = added_distinct (parts_of ts)

pub returns-clause-more : goal.returns-clause-more
returns-clause-more c = proved.numbers_more
