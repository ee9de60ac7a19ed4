use Rattle.cs_classes.proofs.Laws.{values, classes, models, tables, exactly}
use Rattle.cs_classes.proofs.classes_make_models.Goals as goal

pub returns : goal.returns
returns c = record { values = values; classes = classes; models = models; tables = tables; exactly = exactly }
