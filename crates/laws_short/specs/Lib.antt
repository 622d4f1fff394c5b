-- All short histories of a few records, by their numbers.
--
--   one number each, in their order, none from the count on .. Numbers
--   26 exactly from the count on .............................. Answers.past_the_last
pub mod Numbers
pub mod Answers
