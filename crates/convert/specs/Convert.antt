-- What the code says of a form's records, in the model's terms.
use Rattle.model.specs.Convert.{Checked, passes, fails}
use Rattle.convert.specs.declared.Check.{Check}
use Rattle.convert.specs.declared.Check.TheVariants.{Passes, Fails}

abbrev pub check_of : Check → Checked
check_of Passes = passes
check_of (Fails n at) = fails n at
