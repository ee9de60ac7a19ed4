use Rattle.cs_numbers.proofs.Tables as proved
use Rattle.cs_numbers.proofs.nodes_represent.Goals as goal

pub returns-clause-table : goal.returns-clause-table
returns-clause-table c = proved.tabulates

pub returns-clause-input : goal.returns-clause-input
returns-clause-input c = proved.input_by_number
