-- A snapshot in the old form and in the new one.
--
--   what passes, and what is then accepted ................ Checks
--   a record of kind 26 is its offset's ................... Offset.offset_record
--   what the bytes of the new form are .................... NewForm.new_form
--   old to new to old, new to old to new .................. RoundTrips.old-new-old, RoundTrips.new-old-new
--   kind 26 in an old run is 3 at its place ............... Unknown.offset-unknown
--   22 and its place, as in Restore ....................... Restores.restore_says
pub mod Checks
pub mod Offset
pub mod NewForm
pub mod RoundTrips
pub mod Unknown
pub mod Restores
