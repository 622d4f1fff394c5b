-- What 01's marked cases and the need of the premises come to: tables of histories that compute.
--
--   the records, the buffers ............................. Inputs
--   M1 to M10 ............................................ Cases.marked-cases
--   each premise of the theorem is needed ................. Needed.premises_needed
pub mod Inputs
pub mod Cases
pub mod Needed
