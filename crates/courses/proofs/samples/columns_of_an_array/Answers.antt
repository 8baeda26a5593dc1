use Rattle.courses.proofs.Sampled_columns.{sample_serves}
use Rattle.courses.proofs.samples.columns_of_an_array.Goals as goal

pub returns : goal.returns
returns c = sample_serves
