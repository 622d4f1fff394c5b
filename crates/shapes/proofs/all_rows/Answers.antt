-- `shapes::all_rows` meets its contract: the constant is the table, by computation.
use mathlib.Core.Path.{refl}
use Rattle.model.specs.Shape.{rows_of}
use Rattle.shapes.specs.Table.{table, shapes, pack_shape, pack_rows, last_required, form_code, form_size, how_often, base_of}
use Rattle.shapes.proofs.all_rows.Goals as goal

pub returns : goal.returns
unfolding table shapes pack_shape pack_rows last_required form_code form_size how_often base_of rows_of
returns c = refl
