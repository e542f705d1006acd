-- The laws about the definitions of `transform`.
pub mod FloorLaws
pub mod TruncateLaws
pub mod Cutting
pub mod StringLaws
pub mod BinaryLaws
pub mod CountLaws
pub mod GregorianLaws
pub mod CalendarLaws
pub mod YearGroupLaws
pub mod TransformAnswerLaws
