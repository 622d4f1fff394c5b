-- An image that a restore leaves as it is, and what it says of the bytes that are its snapshot.
use Rattle.std.specs.Prelude.{◌≡◌, Bool, true, false, [], length}
use Rattle.model.specs.Number.{Bytes}
use Rattle.model.specs.Image.{contents_of}
use Rattle.model.specs.Reply.{accepted}
use Rattle.model.specs.Snapshot.{restored, restore_of}

abbrev pub Steady : Bytes → Bool → Type 0
Steady image true = restored (contents_of image) ≡ contents_of image
Steady image false = Unit {0}

-- Restore of the input makes the image, whatever the buffer held
abbrev pub Rebuilt : Bytes → Bytes → Bool → Type 0
Rebuilt input image true = (b : Bytes) → length b ≡ length image → restore_of input b ≡ record { reply = accepted []; buffer = image }
Rebuilt input image false = Unit {0}
