-- What the parser finds, and what is read past; these laws rest on `specs/Parser`.
pub mod ParserLaws
pub mod SkimmingLaws
