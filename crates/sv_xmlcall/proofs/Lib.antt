-- laws of one definition each: of words, texts, forms, values and documents
mod Words
mod Runs
mod Texts
mod SimpleLaws
mod WriteLaws
mod Frames
mod TextLaws
mod StageLaws
pub mod DocumentLaws
pub mod ReplyEnds
mod LogLaws
mod HeldLaws
-- from a layout to what is read of it
mod Passing
mod ValuePassing
mod DocumentPassing
mod DeepLaws
pub mod SpelledLaws
mod WrittenLaws
-- from what is read back to a layout
mod TagsBack
mod TextsBack
mod ValuesBack
mod NestedBack
mod DocumentsBack
pub mod CallsBack
mod RefusedLaws
-- the longest valid prefix
mod Fronts
mod TextFronts
mod NumberFronts
mod FormFronts
mod ValueFronts
mod NestedFronts
mod CallFronts
mod CallGood
mod ReplyFronts
mod ReplyGood
-- the values that a prefix opens
mod OpeningLaws
mod Measures
mod MeasuredTags
mod MeasuredPlaces
mod MeasuredSteps
mod MeasuredDocuments
-- what is answered
pub mod JudgedLaws
pub mod CalledLaws
