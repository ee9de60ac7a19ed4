use Rattle.vx_live.proofs.LiveMembers.{methods_live, store_methods_live, calling_live, instances_live, members_live}
use Rattle.vx_live.proofs.questions_are_live.Goals as goal

pub returns-clause-fields : goal.returns-clause-fields
returns-clause-fields c = methods_live

pub returns-clause-store : goal.returns-clause-store
returns-clause-store c = store_methods_live

pub returns-clause-calls : goal.returns-clause-calls
returns-clause-calls c = calling_live

pub returns-clause-instances : goal.returns-clause-instances
returns-clause-instances c = instances_live

pub returns-clause-members : goal.returns-clause-members
returns-clause-members c = members_live
