-- lists, numbers and bytes
pub mod Lists
pub mod Results
pub mod Commas
pub mod Counted
pub mod Codes
pub mod Letters
pub mod Escapes
pub mod ReadingNames
pub mod Stages
-- what was read of a part is what it spells, and each part is read again
pub mod NumberLaws
pub mod CommaLaws
pub mod TokenLaws
pub mod Names
pub mod PieceLaws
pub mod AboveLaws
pub mod LineParts
pub mod OrderParts
-- the same of whole lines
pub mod InputLaws
pub mod HeaderLaws
pub mod OrderLaws
-- lines have one meaning, no line feed and no mark
pub mod OneMeaning
pub mod NoLineFeed
pub mod PlainOrders
pub mod Marks
-- readers stop at the first bad byte
pub mod Columns
pub mod Sharp
pub mod SharpToken
pub mod SharpCodes
pub mod SharpPiece
pub mod SharpAbove
pub mod SharpLines
mod TickLines
pub mod SharpOrders
