-- What `jeghatuf_field` says of a field: whether it is there, and where its value stands and how long that is.
use Rattle.std.specs.Prelude.{List, [], ◌∷◌, ℕ}
use Rattle.fields.specs.declared.Found.{Found}
use Rattle.fields.specs.declared.Found.TheVariants.{Part, Missing}

abbrev pub is_found : Found → ℕ
is_found (Part start len) = 1
is_found Missing = 0

abbrev pub places_of : Found → List ℕ
places_of (Part start len) = start ∷ len ∷ []
places_of Missing = []
