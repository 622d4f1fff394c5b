-- `shapes::row_at` meets its contract: the lent rows are the table, which has 151.
use mathlib.Core.Path.{◌≡◌, refl, ap}
use lib.ListN.{length, get_or}
use Rattle.model.specs.Shape.{rows_of}
use Rattle.shapes.specs.Table.{table, row_count, shapes, pack_shape, pack_rows, last_required, form_code, form_size, how_often, base_of}
use Rattle.shapes.proofs.row_at.Goals as goal

table-length : length table ≡ row_count
unfolding table shapes pack_shape pack_rows last_required form_code form_size how_often base_of rows_of
table-length = refl

pub bounds-rows-i : goal.bounds-rows-i
bounds-rows-i c = rw (c.requires.0, table-length) c.requires.1

pub returns : goal.returns
returns c = ap (λ t. get_or t c.args.i 0) c.requires.0
